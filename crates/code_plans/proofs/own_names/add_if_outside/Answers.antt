use Rattle.code_plans.proofs.Owning.{own_left_out, other_added}
use Rattle.code_plans.proofs.own_names.add_if_outside.Goals as goal

pub returns-then-is_own : goal.returns-then-is_own
returns-then-is_own c = own_left_out c.args.own.now c.args.change.now c.args.out.now c.is_own.result c.is_own.ensures c.if-is_own.true

pub returns : goal.returns
returns c =
    other_added c.args.own.now c.args.change.now c.in_ok-copy_of.field-0 c.args.out.now c.push.new.self c.is_own.result c.is_own.ensures c.if-is_own.false c.in_ok-copy_of.ensures c.in_ok-push.ensures.ok
