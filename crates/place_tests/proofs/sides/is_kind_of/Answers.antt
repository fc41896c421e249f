use Rattle.std.proofs.Common.{arith}
use Rattle.place_tests.proofs.Only.{one_mark}
use Rattle.place_tests.proofs.sides.is_kind_of.Goals as goal

pub returns : goal.returns
returns c = one_mark c.args.marks.now _ c.is_type_of.result (omega (arith, c.in-len1.len_at_least, c.in-len1.len_below)) c.is_type_of.ensures
