use Rattle.std.proofs.Common.{sym, ◌∙◌}
use Rattle.subtype_rules.specs.Answer.{below}
use Rattle.refine_flow.proofs.Reaching.{found_at}
use Rattle.refine_flow.proofs.facts.some_below.Goals as goal

pub returns-then-branch : goal.returns-then-branch
returns-then-branch c =
    found_at (λ t. below c.args.table.now t c.args.other.now) c.args.all.now c.loop-i.i c.index-all-i.result c.loop-i-test.true c.index-all-i.is (sym c.in_ok-is_subtype.ensures.value ∙ c.if-branch.true)
