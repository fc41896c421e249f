use Rattle.std.proofs.Common.{rules}
use Rattle.recheck_reach.proofs.Leads.{stirred_low, checked_all}
use Rattle.recheck_reach.proofs.reaching.checked_modules.Goals as goal

pub check_set-requires-clause-moved : goal.check_set-requires-clause-moved
check_set-requires-clause-moved c =
    stirred_low c.args.sources.now c.args.signatures.now c.args.moved.now c.args.edges.now c.in_ok-stirred.stirred c.as_slice.result.now c.requires.edges c.in_ok-stirred.ensures (search rules)

pub returns : goal.returns
returns c =
    checked_all c.args.sources.now c.args.signatures.now c.args.moved.now c.args.edges.now c.args.changed.now c.in_ok-stirred.stirred c.as_slice.result.now c.in_ok-all.all c.requires.edges c.in_ok-stirred.ensures (search rules)
    c.in_ok-all.ensures
