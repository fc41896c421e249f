use Rattle.std.proofs.Common.{Some, [], ◌∷◌, ◌++◌, sym, ap, ◌∙◌}
use Rattle.fact_trail.specs.declared.trail.Change.TheVariants.{At}
use Rattle.fact_trail.specs.Slots.{at_slot}
use Rattle.fact_trail.specs.Moments.{map_of}
use Rattle.fact_trail.proofs.Changes.{back_at}
use Rattle.fact_trail.proofs.trail.Trail.put_back.Goals as goal

pub returns-in_default-clause-back : goal.returns-in_default-clause-back
returns-in_default-clause-back c =
    back_at c.args.slot c.args.fact c.unset-before.result c.args.self.now c.unset-before.new.self (ap (λ v. v.items) c.unset-before.ensures.changes)
    (c.unset-before.ensures.facts ∙ ap (λ o. at_slot c.args.slot o (map_of c.args.self.now)) (sym c.in_default.is)) c.unset-before.ensures.was

pub returns-in-Ok-clause-back : goal.returns-in-Ok-clause-back
returns-in-Ok-clause-back c =
    back_at c.args.slot c.args.fact c.in-Ok.before c.args.self.now c.set.new.self (ap (λ v. v.items) c.set.ensures.changes)
    (c.in-Ok.ensures.facts ∙ ap (λ o. at_slot c.args.slot o (map_of c.args.self.now)) (sym c.in-Some.is)) c.in-Ok.ensures.was

pub returns-in-Err-clause-err : goal.returns-in-Err-clause-err
returns-in-Err-clause-err c = (
  c.in-Err.ensures.err,
  c.push_reserved.ensures.items ∙ (λ i. (c.set.ensures.changes i).items ++ At c.args.slot (Some (c.in-Err.ensures.back i)) ∷ []) ∙ ap (λ o. c.args.self.now.changes.items ++ At c.args.slot o ∷ []) (sym c.in-Some.is),
)
