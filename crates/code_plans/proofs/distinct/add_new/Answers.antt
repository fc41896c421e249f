use Rattle.code_plans.proofs.Meeting.{new_added}
use Rattle.code_plans.proofs.distinct.add_new.Goals as goal

pub returns-then-branch : goal.returns-then-branch
returns-then-branch c =
    new_added c.args.met.now c.add.new.self c.args.change.now c.in_ok-copy_of.field-0 c.args.list.now c.push.new.self c.in_ok-add.ensures.met c.in_ok-copy_of.ensures c.in_ok-push.ensures.ok
