-- The rest is read from the state as all is from the beginning.
use Rattle.std.proofs.Common.{◌≡◌, drop}
use Rattle.code_law.specs.Within.{run_within, read_within}
use Rattle.type_parser.specs.Nests.{nest_view}
use Rattle.type_parser.specs.Reading.{kinds}
use Rattle.js_parser.specs.Reading.{forms, phase}
use Rattle.js_parser.proofs.read.read_module.Given as goal

abbrev pub invariant-loop-at : goal.invariant-loop-at
invariant-loop-at l = run_within l.at (nest_view l.nesting) (forms l.stack l.reading) (phase l.stack l.types.items l.reading) (drop l.at (kinds l.tokens)) ≡ read_within (kinds l.tokens)
