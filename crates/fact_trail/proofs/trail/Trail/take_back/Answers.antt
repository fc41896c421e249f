use Rattle.std.proofs.Common.{◌≡◌, [], ◌∷◌, ◌++◌, Result, OnErr, sym, subst}
use Rattle.fact_trail.specs.declared.trail.Trail.{Trail}
use Rattle.fact_trail.specs.declared.trail.Change.{Change}
use Rattle.fact_trail.specs.Moments.{map_of}
use Rattle.fact_trail.proofs.trail.Trail.take_back.Goals as goal

-- what is said of a change, said of the same one
again : {T E : Type 0} {a b : Change} (r : Result T E) (old new : Trail) → a ≡ b → OnErr r ((map_of new ≡ map_of old) × (new.changes.items ≡ old.changes.items ++ b ∷ [])) →
    OnErr r ((map_of new ≡ map_of old) × (new.changes.items ≡ old.changes.items ++ a ∷ []))
again r old new same is = subst (λ (e : Change). OnErr r ((map_of new ≡ map_of old) × (new.changes.items ≡ old.changes.items ++ e ∷ []))) (sym same) is

pub returns-in-At-clause-err : goal.returns-in-At-clause-err
returns-in-At-clause-err c = again c.put_back.result c.args.self.now c.put_back.new.self c.in-At.is c.put_back.ensures.err

pub returns-in-Variables-clause-err : goal.returns-in-Variables-clause-err
returns-in-Variables-clause-err c = again c.put_variables_back.result c.args.self.now c.put_variables_back.new.self c.in-Variables.is c.put_variables_back.ensures.err

pub returns-in-Properties-clause-err : goal.returns-in-Properties-clause-err
returns-in-Properties-clause-err c = again c.put_properties_back.result c.args.self.now c.put_properties_back.new.self c.in-Properties.is c.put_properties_back.ensures.err
