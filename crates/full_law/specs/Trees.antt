-- Trees of the code for the trees of the grammar.
use Rattle.std.specs.Prelude.{◌≡◌}
use Rattle.js_grammar.specs.Items as g
use Rattle.js_tree.specs.View.{module_view}
use Rattle.js_tree.specs.declared.items.Module.{Module}

-- each module of the grammar is what some tree of the code stands for
abbrev pub EachModuleHasATree : Type 0
EachModuleHasATree = (m : g.Module) → (tree : Module) × (module_view tree ≡ m)
