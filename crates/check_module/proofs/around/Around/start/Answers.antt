use Rattle.check_module.proofs.Reading.{prelude_bound}
use Rattle.check_module.proofs.around.Around.start.Goals as goal

pub bind-requires : goal.bind-requires
bind-requires c = prelude_bound c.new-state.result c.bind_prelude.new.scope c.new-state.ensures.env c.in_ok-bind_prelude.ensures
