use Rattle.std.proofs.Common.{◌≡◌, drop}
use Rattle.js_tree.proofs.Lists.{each}
use Rattle.js_tree.proofs.TypeLists.{bracket}
use Rattle.js_tree.proofs.spelling.types.spell_brackets.Given as goal

abbrev pub invariant-loop-i : goal.invariant-loop-i
invariant-loop-i l = l.tail ≡ each bracket (drop l._i l.places) l.fn.tail
