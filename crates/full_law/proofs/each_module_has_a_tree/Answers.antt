use Rattle.full_law.proofs.ItemTrees.{each_module_has_a_tree}
use Rattle.full_law.proofs.each_module_has_a_tree.Goals as goal

pub returns : goal.returns
returns c = each_module_has_a_tree
