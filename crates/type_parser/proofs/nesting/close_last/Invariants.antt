-- What is closed further outwards stays to be closed.
use Rattle.std.proofs.Common.{◌≡◌}
use Rattle.js_grammar.specs.Nesting.{close_bracket}
use Rattle.type_parser.specs.Nests.{opened_view}
use Rattle.type_parser.proofs.nesting.close_last.Given as goal

abbrev pub invariant-outwards : goal.invariant-outwards
invariant-outwards l = close_bracket (opened_view l.opened.items) ≡ close_bracket (opened_view l.fn.opened.items)

abbrev pub decreases-outwards : goal.decreases-outwards
decreases-outwards l = goal.left-outwards l
