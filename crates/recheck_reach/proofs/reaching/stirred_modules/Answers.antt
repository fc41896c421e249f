use Rattle.std.proofs.Common.{rules}
use Rattle.recheck_reach.proofs.Leads.{signed_low, ones_low, within_steps, stirred_all}
use Rattle.recheck_reach.proofs.Rests.{many_merged}
use Rattle.recheck_reach.proofs.reaching.stirred_modules.Goals as goal

pub names_of-requires-clause-many : goal.names_of-requires-clause-many
names_of-requires-clause-many c = many_merged c.args.sources.now c.args.signatures.now c.requires.merged

pub names_of-requires-clause-within : goal.names_of-requires-clause-within
names_of-requires-clause-within c = signed_low c.args.sources.now c.args.signatures.now c.args.leading.now c.requires.merged c.requires.low

pub merge_set-requires-clause-within : goal.merge_set-requires-clause-within
merge_set-requires-clause-within c = within_steps c.args.sources.now c.args.signatures.now c.args.leading.now c.in_ok-named.named.items c.as_slice.result.now c.in_ok-named.ensures c.as_slice.ensures.value

pub merge_set-requires-clause-touched : goal.merge_set-requires-clause-touched
merge_set-requires-clause-touched c =
    ones_low c.args.sources.now c.args.signatures.now c.args.moved.now c.in_ok-moved_ones.moved_ones c.as_slice-ones.result.now c.args.leading.now c.in_ok-named.named.items c.as_slice.result.now c.requires.moved c.in_ok-moved_ones.ensures
    (search rules) c.in_ok-named.ensures c.as_slice.ensures.value

pub returns : goal.returns
returns c =
    stirred_all c.names_are_imported.ensures c.args.sources.now c.args.signatures.now c.args.moved.now c.in_ok-moved_ones.moved_ones c.as_slice-ones.result.now c.args.leading.now c.in_ok-named.named.items c.as_slice.result.now
    c.in_ok-stirred.stirred c.requires.sources c.requires.merged c.requires.moved c.requires.leading c.in_ok-moved_ones.ensures (search rules) c.in_ok-named.ensures c.as_slice.ensures.value c.in_ok-stirred.ensures
