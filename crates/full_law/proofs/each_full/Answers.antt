use Rattle.full_law.proofs.Parses.{each_parse}
use Rattle.full_law.proofs.Fulls.{each_full}
use Rattle.full_law.proofs.each_full.Goals as goal

pub returns : goal.returns
returns c = each_full (each_parse c.each_has_answer.ensures c.has_answer.ensures c.each_module_has_a_tree.ensures) c.each_has_errors.ensures
