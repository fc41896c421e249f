use Rattle.std.proofs.Common.{refl}
use Rattle.std.proofs.lemmas.Result.{IfOk-weaker}
use Rattle.check_world.specs.View.{world_view}
use Rattle.check_moves.proofs.Following.{follows_past}
use Rattle.expression_moves.proofs.Stepping.{member_read}
use Rattle.expression_moves.proofs.postfixes.read_member.Goals as goal

pub returns-clause-told : goal.returns-clause-told
returns-clause-told c =
    IfOk-weaker c.read_place.result _ _
    (λ r is. member_read (world_view c.args.world.now) c.args.tokens.0 c.args.tokens.1 c.args.tokens.2 c.args.key.now c.args.place c.args.object c.in_ok-object_type.object_type c.in_ok-given.given r c.args.state.now c.after.new.self
    (record c.after.new.self { notes = c.add_faults.new.self }) c.read_place.new.state c.in_ok-object_type.ensures.now c.in_ok-object_type.ensures.ty c.in_ok-given.ensures refl c.in_ok-add_faults.ensures.ok is)
    c.read_place.ensures.told

pub returns-clause-follows : goal.returns-clause-follows
returns-clause-follows c =
    IfOk-weaker c.read_place.result _ _
    (λ r. follows_past _ r.fork _ _ (record c.after.new.self { notes = c.add_faults.new.self }) c.read_place.new.state c.in_ok-object_type.ensures.follows refl refl) c.read_place.ensures.follows
