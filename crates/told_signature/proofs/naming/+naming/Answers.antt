use Rattle.told_signature.proofs.NamesIn.{function_added}
use Rattle.told_signature.proofs.naming.+naming.Goals as goal

pub add_names-returns-in_ok-add_names-in-Function : goal.add_names-returns-in_ok-add_names-in-Function
add_names-returns-in_ok-add_names-in-Function t c =
    function_added c.args.t.now c.in-Function.params c.as_slice-in-Function.result.now c.in-Function.result c.get.result.now c.args.names.now.items c.add_param_names.new.names.items c.add_names.new.names.items c.in-Function.is c.as_slice-in-Function.ensures c.get.ensures
    c.in_ok-add_param_names-in-Function.ensures c.in_ok-add_names-in-Function.ensures
