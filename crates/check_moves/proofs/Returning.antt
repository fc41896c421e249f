-- A type that is returned, where no statement is looked at any more and where one is.
use Rattle.std.proofs.Common.{◌≡◌, Bool, true, false, [], ◌∷◌, ◌++◌, cond, refl}
use Rattle.type_values.specs.declared.types.FlowType.{FlowType}
use Rattle.typing.specs.States.{Env, returns}

pub returns_stopped : (t : FlowType) (e : Env) → e.notes.stopped ≡ true → e ≡ returns t e
returns_stopped t e is = go e.notes.stopped is
  where
    go : (b : Bool) → b ≡ true → e ≡ cond b e (record e { returned = e.returned ++ t ∷ [] })
    go true is = refl
    go false is = absurd (cc)

pub returns_live : (t : FlowType) (e : Env) → e.notes.stopped ≡ false → record e { returned = e.returned ++ t ∷ [] } ≡ returns t e
returns_live t e is = go e.notes.stopped is
  where
    go : (b : Bool) → b ≡ false → record e { returned = e.returned ++ t ∷ [] } ≡ cond b e (record e { returned = e.returned ++ t ∷ [] })
    go true is = absurd (cc)
    go false is = refl
