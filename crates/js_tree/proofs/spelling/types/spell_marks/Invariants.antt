use Rattle.std.proofs.Common.{◌≡◌, drop}
use Rattle.js_tree.proofs.Lists.{each}
use Rattle.js_tree.proofs.TypeLists.{mark}
use Rattle.js_tree.proofs.spelling.types.spell_marks.Given as goal

abbrev pub invariant-loop-i : goal.invariant-loop-i
invariant-loop-i l = l.tail ≡ each mark (drop l._i l.places) l.fn.tail
