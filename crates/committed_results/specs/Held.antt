-- What a state holds at the entities of modules.
use Rattle.std.specs.Prelude.{◌≡◌, ℕ, Bool, true, false, List, slice_get, Some}
use Rattle.std.specs.List.{AllZip}
use Rattle.check_values.specs.declared.root.RootRow.{RootRow}
use Rattle.state_law.specs.payloads.specs.declared.payload.Payload.{Payload}
use Rattle.state_law.specs.payloads.specs.declared.payload.Payload.TheVariants as payload

abbrev pub is_root : Payload → Bool
is_root (payload.Root root) = true
is_root payload.Absent = false
is_root (payload.Parse parse) = false
is_root (payload.Deps deps) = false
is_root (payload.Sig sig) = false
is_root (payload.Errs errs) = false

-- whatever stands at an entity is of this kind
abbrev pub IsOfKind : (Payload → Bool) → List Payload → ℕ → Type 0
IsOfKind is_of state e = (x : Payload) → slice_get state e ≡ Some x → is_of x ≡ true

-- these are the results of one kind that stand at the entities of modules, in order
abbrev pub AreHeld : {X : Type 0} → List Payload → (ℕ → ℕ) → (X → Payload) → List RootRow → List X → Type 0
AreHeld state place put ms xs = AllZip (λ m x. slice_get state (place m.row) ≡ Some (put x)) ms xs
