-- What is proved of runs with a script, for whoever has runs of both kinds.
pub use Rattle.script_run.proofs.Checks.{one_count}
pub use Rattle.script_run.proofs.Fronts.{front_none}
pub use Rattle.script_run.proofs.Walks.{walk_counts, front_of_load}
