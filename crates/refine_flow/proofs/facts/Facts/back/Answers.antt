use Rattle.std.proofs.Common.{refl}
use Rattle.refine_flow.proofs.Turning.{kept_up_to_all}
use Rattle.refine_flow.proofs.MarkLemmas.{keeps_itself}
use Rattle.refine_flow.proofs.Copying.{last_stays, spent_then}
use Rattle.refine_flow.proofs.facts.Facts.back.Goals as goal

pub spend-requires : goal.spend-requires
spend-requires c = last_stays c.args.mark c.args.self.now c.return_or_stay.new.self c.requires c.return_or_stay.ensures.marks

pub returns-in-Ok-return_or_stay-clause-marks : goal.returns-in-Ok-return_or_stay-clause-marks
returns-in-Ok-return_or_stay-clause-marks c = spent_then c.args.mark c.args.self.now c.return_or_stay.new.self c.spend.new.self c.return_or_stay.ensures.marks c.spend.ensures.marks

pub returns-in-Err-clause-err : goal.returns-in-Err-clause-err
returns-in-Err-clause-err c = (refl, refl, kept_up_to_all c.args.mark c.args.self.now c.args.self.now (keeps_itself c.args.self.now))
