use Rattle.job_crew.specs.Tying.{HasLinked}
use Rattle.job_crew.proofs.setting.row_of.Given as goal

-- as far as links are made
abbrev pub invariant-loop-k : goal.invariant-loop-k
invariant-loop-k g l = HasLinked l.rows l.k l.fn.seats l.seats l.links.items
