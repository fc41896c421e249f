use Rattle.recheck_plan.proofs.Walks.{walked_on, walked_all, changes_rise}
use Rattle.recheck_plan.proofs.changing.changed.Goals as goal

pub loop-path-preserved : goal.loop-path-preserved
loop-path-preserved c =
    walked_on c.args.texts.now c.loop-path.path-index c.loop-path-item.result c.loop-path.rest.now c.from_path-rest.result.now _ _ c.loop-path.changes c.put.new.self _ c.loop-path-test.true c.loop-path-item.is c.requires.texts
    c.from_path-rest.ensures c.text_of_first.ensures c.as_ref.ensures.value c.in_ok-put.ensures c.loop-path.invariant

pub returns-clause-rising : goal.returns-clause-rising
returns-clause-rising c =
    changes_rise c.args.root.now c.args.texts.now c.loop-path.changes c.requires.texts (walked_all c.args.texts.now c.loop-path.path-index c.loop-path.rest.now c.loop-path.changes _ c.loop-path-test.false c.loop-path.invariant)
