-- The rest is read from the state as all is from the beginning.
use Rattle.std.proofs.Common.{◌≡◌, drop}
use Rattle.type_parser.specs.State.{stack_view, mode_view}
use Rattle.type_parser.specs.Nests.{nest_view}
use Rattle.type_parser.specs.Within.{run_within, read_within}
use Rattle.type_parser.specs.Reading.{kinds}
use Rattle.type_parser.proofs.read.read.Given as goal

abbrev pub invariant-loop-at : goal.invariant-loop-at
invariant-loop-at l =
    run_within l.plain l.at (nest_view l.nesting) (stack_view l.stack.items) (mode_view l.mode) (drop l.at (kinds l.tokens)) ≡ read_within l.plain l.from (drop l.from (kinds l.tokens))
