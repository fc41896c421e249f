use Rattle.std.proofs.Common.{◌≡◌, drop}
use Rattle.js_tree.proofs.Lists.{each}
use Rattle.js_tree.proofs.ItemLists.{item}
use Rattle.js_tree.proofs.spelling.items.spell_items.Given as goal

abbrev pub invariant-loop-i : goal.invariant-loop-i
invariant-loop-i l = l.tail ≡ each item (drop l.i l.items) l.fn.tail
