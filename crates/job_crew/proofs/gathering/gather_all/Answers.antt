use Rattle.std.proofs.Common.{length, refl, ◌∙◌}
use Rattle.job_crew.proofs.Returned.{all_whole, all_gathered, looked_weight}
use Rattle.job_crew.proofs.gathering.gather_all.Goals as goal

pub account_all-requires : goal.account_all-requires
account_all-requires g c = all_whole (length c.args.seats.now) c.args.seats.now c.gather_links.new.seats refl c.gather_links.ensures.same c.gather_links.ensures.tied

pub returns-clause-gathered : goal.returns-clause-gathered
returns-clause-gathered g c =
    all_gathered (length c.args.seats.now) c.args.seats.now c.gather_links.new.seats refl c.gather_links.ensures.same c.gather_links.ensures.tied c.account_all.new.seats c.account_all.ensures.same c.account_all.ensures.whole

pub returns-clause-taken : goal.returns-clause-taken
returns-clause-taken g c = λ h. looked_weight c.gather_links.new.seats c.account_all.new.seats c.account_all.ensures.same h ∙ c.gather_links.ensures.taken h
