use Rattle.std.proofs.Common.{rules}
use Rattle.recheck_merging.proofs.Among.{own_edges, few_among, within_among}
use Rattle.recheck_merging.proofs.Plans.{plan_by}
use Rattle.recheck_merging.proofs.planning.plan_for.Goals as goal

pub returns-clause-plan : goal.returns-clause-plan
returns-clause-plan c =
    plan_by c.args.sources.now c.args.edges.now c.as_slice-numbers.result.now _ c.in_ok-inner.inner.items c.as_slice-among.result.now c.requires.edges c.requires.rising c.requires.within (search rules) c.in_ok-own.ensures c.in_ok-inner.ensures
    c.as_slice-among.ensures.value c.in_ok-components.ensures c.in_ok-waves.ensures

pub edges_among-requires-clause-edges : goal.edges_among-requires-clause-edges
edges_among-requires-clause-edges c =
    own_edges c.args.sources.now c.args.edges.now c.args.merged c.as_slice-numbers.result.now c.in_ok-own.own.items c.as_slice-lists.result.now c.requires.edges c.requires.within (search rules) c.in_ok-own.ensures c.as_slice-lists.ensures.value

pub components-requires-clause-few : goal.components-requires-clause-few
components-requires-clause-few c = few_among c.args.sources.now c.args.merged c.as_slice-numbers.result.now c.in_ok-inner.inner.items c.as_slice-among.result.now c.in_ok-inner.ensures c.as_slice-among.ensures.value (search rules) c.requires.rising c.requires.within c.requires.few

pub components-requires-clause-within : goal.components-requires-clause-within
components-requires-clause-within c = within_among c.args.sources.now c.as_slice-numbers.result.now c.in_ok-inner.inner.items c.as_slice-among.result.now c.in_ok-inner.ensures c.as_slice-among.ensures.value

pub waves-requires-clause-few : goal.waves-requires-clause-few
waves-requires-clause-few c = few_among c.args.sources.now c.args.merged c.as_slice-numbers.result.now c.in_ok-inner.inner.items c.as_slice-among.result.now c.in_ok-inner.ensures c.as_slice-among.ensures.value (search rules) c.requires.rising c.requires.within c.requires.few

pub waves-requires-clause-within : goal.waves-requires-clause-within
waves-requires-clause-within c = within_among c.args.sources.now c.as_slice-numbers.result.now c.in_ok-inner.inner.items c.as_slice-among.result.now c.in_ok-inner.ensures c.as_slice-among.ensures.value
