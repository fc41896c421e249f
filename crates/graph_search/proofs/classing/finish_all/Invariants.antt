use Rattle.std.proofs.Common.{ℕ, ◌<◌, length}
use Rattle.graph_search.specs.Cycles.{IsOn}
use Rattle.graph_search.specs.Searching.{IsHalfClassed, IsBlank}
use Rattle.graph_search.proofs.classing.finish_all.Given as goal

abbrev pub invariant-loop-p : goal.invariant-loop-p
invariant-loop-p l = record {
  half : IsHalfClassed l.edges l.left l.classes;
  blank : IsBlank (length l.edges) l.inside;
}

abbrev pub invariant-loop-p-2 : goal.invariant-loop-p-2
invariant-loop-p-2 l = record {
  half : IsHalfClassed l.edges l.left l.classes;
  blank : IsBlank (length l.edges) l.inside;
  gone : (k : ℕ) → k < l.p → ¬ (IsOn l.left k);
}
