use Rattle.fault_laws.proofs.InOrder as proved
use Rattle.fault_laws.proofs.lists_in_order.Goals as goal

pub returns : goal.returns
returns c = proved.lists_in_order
