use Rattle.check_world.specs.View.{world_view}
use Rattle.js_tree.specs.View.{items_view}
use Rattle.check_module.specs.View.{around_world}
use Rattle.check_module.proofs.Reading.{started}
use Rattle.check_module.proofs.around.Around.bind.Goals as goal

pub returns : goal.returns
returns c = λ p says.
    started (around_world c.args.self.now) (world_view c.world-world.result) p (items_view c.args.items.now) c.args.state.now c.bind_items.new.scope c.bind_items.new.notes c.note_second_exports.new.notes c.world-world.ensures.world c.requires
    (c.in_ok-bind_items.ensures.bound p says) c.in_ok-note_second_exports.ensures
