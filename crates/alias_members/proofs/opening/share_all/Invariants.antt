use Rattle.std.proofs.Common.{◌≡◌, take}
use Rattle.alias_table.specs.Members.{seen}
use Rattle.alias_members.proofs.opening.share_all.Given as goal

abbrev pub invariant-loop-i : goal.invariant-loop-i
invariant-loop-i l = l.all ≡ seen (take l.i l.looks)
