use Rattle.std.proofs.Common.{◌≡◌, ◌++◌, length}
use Rattle.std.specs.List.{AllByRecursion}
use Rattle.heap_answers.specs.States.{HasPlace, errors_in}
use Rattle.heap_answers.proofs.many.all_errors.Given as goal

abbrev pub invariant-loop-rest : goal.invariant-loop-rest
invariant-loop-rest g l = record {
  so_far : l.errors ++ errors_in (g.R.HeapReader.state l.fn.reader) l.rest ≡ errors_in (g.R.HeapReader.state l.fn.reader) l.modules;
  at : g.R.HeapReader.at l.reader ≡ g.R.HeapReader.at l.fn.reader;
  state : g.R.HeapReader.state l.reader ≡ g.R.HeapReader.state l.fn.reader;
  part : g.R.HeapReader.part l.reader ≡ g.R.HeapReader.part l.fn.reader;
  placed : AllByRecursion (HasPlace (g.R.HeapReader.state l.fn.reader)) l.rest;
}

abbrev pub decreases-loop-rest : goal.decreases-loop-rest
decreases-loop-rest g l = length l.rest
