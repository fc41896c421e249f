use Rattle.std.proofs.Common.{Some, [], ◌∷◌, ◌++◌, ap, ◌∙◌}
use Rattle.fact_trail.specs.declared.trail.Change.TheVariants.{At}
use Rattle.fact_trail.proofs.Changes.{adds_one, adds_none}
use Rattle.fact_trail.proofs.trail.Trail.put.Goals as goal

pub returns-in-Ok-clause-adds : goal.returns-in-Ok-clause-adds
returns-in-Ok-clause-adds c =
    adds_one c.args.slot (Some c.args.fact) c.in-Ok.before c.args.self.now _
    (c.push_reserved.ensures.items ∙ ap (λ v. v.items ++ At c.args.slot c.in-Ok.before ∷ []) c.set.ensures.changes ∙ ap (λ l. l ++ At c.args.slot c.in-Ok.before ∷ []) c.make_room.ensures.items)
    c.in-Ok.ensures.was c.in-Ok.ensures.facts

pub returns-in-Err-clause-adds : goal.returns-in-Err-clause-adds
returns-in-Err-clause-adds c = adds_none c.args.slot c.args.self.now c.set.new.self (ap (λ v. v.items) c.set.ensures.changes ∙ c.make_room.ensures.items) c.in-Err.ensures.err
