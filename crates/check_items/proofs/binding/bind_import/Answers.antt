use Rattle.binders.proofs.Bindings.{binds_twice}
use Rattle.check_items.proofs.binding.bind_import.Goals as goal

pub returns-in_ok-bind_list-in-Both-clause-binds : goal.returns-in_ok-bind_list-in-Both-clause-binds
returns-in_ok-bind_list-in-Both-clause-binds c =
    binds_twice c.args.around.now.since c.args.scope.now c.bind_default-in-Both.new.scope c.bind_list.new.scope c.in_ok-bind_default-in-Both.ensures.binds c.in_ok-bind_list-in-Both.ensures.binds
