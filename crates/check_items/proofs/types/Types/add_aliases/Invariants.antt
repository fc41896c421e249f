use Rattle.std.proofs.Common.{◌≡◌, ◌++◌, take}
use Rattle.check_world.specs.View.{meaning_in}
use Rattle.named_rows.specs.Seen.{seen}
use Rattle.check_items.specs.Meant.{meant_view, own_rows}
use Rattle.check_items.proofs.types.Types.add_aliases.Given as goal

abbrev pub invariant-loop-i : goal.invariant-loop-i
invariant-loop-i l = l.out.items ≡ l.fn.out.items ++ own_rows l.home (meaning_in l.self.names) (seen meant_view (take l.i l.rows))
