-- What is committed, where no transaction is open.
use Rattle.std.proofs.Common.{◌≡◌, ℕ, zero, suc, ◌<◌, Bool, false, List, [], ◌∷◌, length, slice_get, Some, refl, sym, ap, ◌∙◌, arith}
use Rattle.std.specs.Prelude.{Result, Ok, Err, IfOk}
use Rattle.std.specs.Arc.{arc_value}
use Rattle.std.specs.declared.sync.Arc.{Arc}
use Rattle.heap_core.specs.Meaning.{Meaning, IsSound, none_of}

none_at : (bs : List Bool) (e : ℕ) → e < length bs → slice_get (none_of bs) e ≡ Some false
none_at [] e within = absurd (omega arith)
none_at (b ∷ bs) zero within = refl
none_at (b ∷ bs) (suc e) within = none_at bs e (omega arith)

module _ {P : Type 0} {fits : ℕ → P → ℕ → P → Type 0} (m : Meaning P) (sound : IsSound fits m) (closed : m.is_open ≡ false) where
  -- the latest payload of an entity is the committed one
  latest_is : (e : ℕ) → e < length m.committed → slice_get m.latest e ≡ slice_get m.committed e
  latest_is e within =
      let many = sound.as_many.2 in
      sound.unstaged e (ap (λ (bs : List Bool). slice_get bs e) (sound.closed closed) ∙ none_at m.staged e (omega (arith, many, within)))

  pub committed_at : {Z E : Type 0} (e : ℕ) (r : Result (Arc P Z) E) → e < length m.committed → IfOk r (λ p. slice_get m.latest e ≡ Some (arc_value p)) → IfOk r (λ p. slice_get m.committed e ≡ Some (arc_value p))
  committed_at e (Ok p) within is = sym (latest_is e within) ∙ is
  committed_at e (Err f) within is = tt
