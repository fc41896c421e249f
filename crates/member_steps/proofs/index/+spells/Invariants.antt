use Rattle.member_steps.proofs.index.+spells.Given as goal

abbrev pub decreases-spells : goal.decreases-spells
decreases-spells l = l.number
