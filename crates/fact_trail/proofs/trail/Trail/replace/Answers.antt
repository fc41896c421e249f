use Rattle.std.proofs.Common.{Some, [], ◌∷◌, ◌++◌, ap, ◌∙◌}
use Rattle.fact_trail.specs.declared.trail.Change.TheVariants.{At}
use Rattle.fact_trail.proofs.Changes.{adds_one}
use Rattle.fact_trail.proofs.Planning.{extends_replaced}
use Rattle.fact_trail.proofs.trail.Trail.replace.Goals as goal

pub returns-clause-extends : goal.returns-clause-extends
returns-clause-extends c =
    extends_replaced c.args.slot c.args.self.now _
    (adds_one c.args.slot (Some c.args.fact) c.in-Ok.before c.args.self.now _ (c.push_reserved.ensures.items ∙ ap (λ v. v.items ++ At c.args.slot c.in-Ok.before ∷ []) c.set.ensures.changes) c.in-Ok.ensures.was c.in-Ok.ensures.facts)
    c.requires.there
