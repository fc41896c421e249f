use Rattle.check_world.specs.View.{world_view}
use Rattle.check_moves.specs.View.{env}
use Rattle.check_items.proofs.Envs.{simple_read}
use Rattle.check_items.proofs.items.read_top_simple.Goals as goal

pub returns-clause-env : goal.returns-clause-env
returns-clause-env c = λ p m first end.
    simple_read (world_view c.args.around.now.world.now) p m first end c.args.simple.now (env c.args.state.now) (env c.read_simple.new.state) c.in_ok-read_simple.ensures.env
