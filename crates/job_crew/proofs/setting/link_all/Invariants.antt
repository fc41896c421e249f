use Rattle.job_crew.specs.Tying.{HasRows}
use Rattle.job_crew.proofs.setting.link_all.Given as goal

-- as far as places have links
abbrev pub invariant-loop-me : goal.invariant-loop-me
invariant-loop-me g l = HasRows l.workers l.me l.fn.seats l.seats
