use Rattle.generator.proofs.Imported.{module_is}
use Rattle.generator.proofs.generating.module_in.Goals as goal

pub returns : goal.returns
returns c = λ seed is. module_is seed c.args.i c.args.round c.args.import c.in_ok-path_of.field-0 c.in_ok-text_of.field-0 c.in_ok-path_of.ensures c.in_ok-text_of.ensures is
