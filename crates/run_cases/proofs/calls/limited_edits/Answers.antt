use Rattle.run_cases.proofs.calls.limited_edits.Goals as goal

pub put-requires-3-clause-stands : goal.put-requires-3-clause-stands
put-requires-3-clause-stands c = c.delete.ensures.stands _ c.touch_one.ensures.stands
