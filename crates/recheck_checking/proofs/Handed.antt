-- Lemmas of libraries that are handed on, for `using(..)`, which takes them from a crate's own list or from the crate itself.
pub use Rattle.recheck_merging.specs.check_phases.proofs.Merges.{many_parses, many_lists}
pub use Rattle.recheck_merging.specs.work_totals.proofs.Totals.{none_within}
