use Rattle.std.specs.List.{list_any}
use Rattle.alias_table.specs.Members.{seen}
use Rattle.subtype_rules.specs.Answer.{below}
use Rattle.refine_flow.proofs.Reaching.{reached_more}
use Rattle.refine_flow.proofs.facts.reached_among.Goals as goal

pub loop-i-preserved : goal.loop-i-preserved
loop-i-preserved c =
    reached_more (λ d. list_any (λ u. below c.args.table.now u d) (seen c.args.given.now)) c.args.wanted.now c.loop-i.i c.index-wanted-i.result c.loop-i.all c.push_if.new.all c.in_ok-found.found c.loop-i-test.true c.index-wanted-i.is c.in_ok-found.ensures
    c.loop-i.invariant c.in_ok-push_if.ensures
