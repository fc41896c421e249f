use Rattle.std.proofs.Common.{◌≡◌, take}
use Rattle.code_tree.specs.View.{fields_view}
use Rattle.literal_reads.specs.View.{entries_view}
use Rattle.typing.specs.Objects.{entries_of}
use Rattle.check_expr.proofs.literals.entries_of.Given as goal

abbrev pub invariant-loop-i : goal.invariant-loop-i
invariant-loop-i l = entries_view l.entries ≡ entries_of (fields_view (take l.i l.fields))
