use Rattle.name_numbers.specs.Numbering.{number_in}
use Rattle.job_ends.proofs.Lists.{links_more}
use Rattle.job_ends.proofs.linking.links.Goals as goal

pub loop-i-preserved : goal.loop-i-preserved
loop-i-preserved c =
    links_more (number_in c.args.numbered.now) c.nodes-nodes.result.now c.loop-i.i c.index-nodes-i.result c.loop-i-test.true c.index-nodes-i.is c.loop-i.links.items c.push.new.self.items c.link_of.result
    c.loop-i.invariant c.link_of.ensures c.in_ok-push.ensures.items
