-- A node's first number is its tree's.
use Rattle.std.proofs.Common.{◌≡◌, rules}
use Rattle.js_grammar.specs.Machine.{start_base}
use Rattle.type_tree.specs.View.{base_view}
use Rattle.type_tree.specs.declared.types.BaseTree.{BaseTree, out-BaseTree}
use Rattle.type_tree.specs.declared.types.BaseForm.{the_lemmas}

pub start_view : (b : BaseTree) → start_base (base_view b) ≡ (out-BaseTree b).first
unfolding base_view
start_view b = search (rules, the_lemmas)

pub ruleset starts = (start_view)
