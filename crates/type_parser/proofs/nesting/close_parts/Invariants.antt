-- What is closed further outwards stays to be closed.
use Rattle.std.proofs.Common.{◌≡◌, vec_len}
use Rattle.js_grammar.specs.Nesting.{close_parts}
use Rattle.type_parser.specs.Nests.{opened_view}
use Rattle.type_parser.proofs.nesting.close_parts.Given as goal

abbrev pub invariant-outwards : goal.invariant-outwards
invariant-outwards l = close_parts (opened_view l.opened.items) ≡ close_parts (opened_view l.fn.opened.items)

abbrev pub decreases-outwards : goal.decreases-outwards
decreases-outwards l = vec_len l.opened
