use Rattle.std.proofs.Common.{◌≡◌, length}
use Rattle.heap_answers.specs.States.{any_finds}
use Rattle.heap_answers.proofs.parts.any_finds.Given as goal

abbrev pub invariant-loop-rest : goal.invariant-loop-rest
invariant-loop-rest l = record {
  same : any_finds l.path l.rows ≡ any_finds l.path l.rest;
}

abbrev pub decreases-loop-rest : goal.decreases-loop-rest
decreases-loop-rest l = length l.rest
