use Rattle.std.proofs.Common.{◌≡◌, drop}
use Rattle.js_tree.proofs.Lists.{each}
use Rattle.js_tree.proofs.CodeLists.{prefix}
use Rattle.js_tree.proofs.spelling.signatures.spell_prefixes.Given as goal

abbrev pub invariant-loop-i : goal.invariant-loop-i
invariant-loop-i l = l.tail ≡ each prefix (drop l.i l.marks) l.fn.tail
