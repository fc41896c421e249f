use Rattle.code_plans.proofs.Owning.{own_told}
use Rattle.code_plans.proofs.own_names.is_own.Goals as goal

pub returns-in-SetsVariable : goal.returns-in-SetsVariable
returns-in-SetsVariable c = own_told c.args.own.now c.args.change.now c.contains.result c.in-SetsVariable.inner c.in-SetsVariable.name c.in-SetsVariable.is c.contains.ensures
