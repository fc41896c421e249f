use Rattle.std.proofs.Common.{Some, None, refl, ap, if◌then◌else◌}
use Rattle.fact_trail.specs.Slots.{Map as Slots}
use Rattle.refine_flow.specs.Standing.{types_by}
use Rattle.refine_flow.proofs.Assigning.{on_err}
use Rattle.refine_flow.proofs.Turning.{kept_by, turned_known}
use Rattle.refine_flow.proofs.facts.Facts.return_or_stay.Goals as goal

pub invariant_of-self : goal.invariant_of-self
invariant_of-self c = record { tidy = λ s beyond. c.go_back_or_stay.ensures.keeps.fresh s (c.args.self.now.tidy s beyond) }

pub invariant_of-self-2 : goal.invariant_of-self-2
invariant_of-self-2 c = record { tidy = λ s beyond. c.go_back_or_stay.ensures.keeps.fresh s (c.args.self.now.tidy s beyond) }

pub returns-clause-facts : goal.returns-clause-facts
returns-clause-facts c = turned_known c.args.self.now c.args.mark.now c.go_back_or_stay.new.trail c.in_ok-go_back_or_stay.ensures.back

pub returns-clause-marks : goal.returns-clause-marks
returns-clause-marks c = kept_by c.args.self.now _ c.args.mark.now refl refl c.go_back_or_stay.ensures.keeps

pub returns-in_err-go_back_or_stay-clause-err : goal.returns-in_err-go_back_or_stay-clause-err
returns-in_err-go_back_or_stay-clause-err c =
    on_err c.from_residual.result _ (ap (λ (m : Slots). if c.args.self.now.dead then None else Some (types_by c.args.self.now.names m)) c.in_err-go_back_or_stay.ensures.stays)

pub returns-in_err-go_back_or_stay-clause-marks : goal.returns-in_err-go_back_or_stay-clause-marks
returns-in_err-go_back_or_stay-clause-marks c = kept_by c.args.self.now _ c.args.mark.now refl refl c.go_back_or_stay.ensures.keeps
