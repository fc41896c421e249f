use Rattle.std.proofs.Common.{◌∙◌}
use Rattle.recheck_run.proofs.Planned.{all_changed, unmoved}
use Rattle.recheck_run.proofs.checking.to_check.Goals as goal

pub returns-then-changed-moved : goal.returns-then-changed-moved
returns-then-changed-moved c =
    all_changed _ _ _ c.args.listed.now.changed c.as_slice-changed.result.now _ c.requires.rising c.requires.within c.as_slice-changed.ensures c.if-changed-moved.true c.requires.moved c.in_ok-all.ensures

pub checked_modules-requires-clause-edges : goal.checked_modules-requires-clause-edges
checked_modules-requires-clause-edges c = let x = c.any_moved.ensures.0 c.if-any_moved.true in c.requires.edges x.0 x.1

pub returns : goal.returns
returns c = unmoved c.reach_laws.ensures.unmoved _ _ _ _ _ c.any_moved.result c.any_moved.ensures c.if-any_moved.false c.requires.rising (c.in_ok-all-2.ensures ∙ c.as_slice-changed.ensures)
