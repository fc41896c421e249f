-- What is read of a state is what it holds.
use Rattle.std.proofs.Common.{◌≡◌, ℕ, zero, suc, ◌+◌, ◌<◌, Bool, true, false, List, [], ◌∷◌, ◌++◌, map, length, take, get_or, slice_get, Some, None, refl, sym, ap, ◌∙◌, subst, arith}
use Rattle.std.specs.List.{AllByRecursion}
use Rattle.heap_core.specs.Meaning.{Meaning, IsSound, none_of}
use Rattle.heap_core.proofs.Lists.{get_index}
use Rattle.check_values.specs.declared.root.RootRow.{RootRow}
use Rattle.check_values.specs.declared.root.Root.{Root}
use Rattle.state_law.specs.payloads.specs.State.{fits}
use Rattle.state_law.specs.payloads.specs.declared.payload.Payload.{Payload}
use Rattle.state_law.specs.payloads.specs.declared.payload.Payload.TheVariants as payload
use Rattle.recheck_staging.specs.check_phases.proofs.Lists.{one_value, zip_more, zip_whole}
use Rattle.committed_results.specs.Held.{IsOfKind, AreHeld}

-- ---- where nothing is staged

none_there : (bs : List Bool) (e : ℕ) → e < length bs → slice_get (none_of bs) e ≡ Some false
none_there [] e low = absurd (omega (arith, low))
none_there (b ∷ bs) zero low = refl
none_there (b ∷ bs) (suc e) low = none_there bs e (omega (arith, low))

pub latest_is_committed : (m : Meaning Payload) → IsSound fits m → m.staged ≡ none_of m.staged → (e : ℕ) → e < length m.committed → slice_get m.latest e ≡ slice_get m.committed e
latest_is_committed m sound bare e low =
    let many = sound.as_many.2 in
    sound.unstaged e (ap (λ (bs : List Bool). slice_get bs e) bare ∙ none_there m.staged e (omega (arith, low, many)))

-- ---- one payload

pub root_held : (state : List Payload) (x : Payload) (root : Root) → slice_get state 0 ≡ Some x → x ≡ payload.Root root → slice_get state 0 ≡ Some (payload.Root root)
root_held state x root at is = at ∙ ap Some is

pub kind_there : (is_of : Payload → Bool) (state : List Payload) (place e : ℕ) (x : Payload) → IsOfKind is_of state place → e ≡ place → slice_get state e ≡ Some x → is_of x ≡ true
kind_there is_of state place e x kind same at = kind x (ap (slice_get state) (sym same) ∙ at)

pub part_held : (state : List Payload) (place e : ℕ) (x y : Payload) → e ≡ place → slice_get state e ≡ Some x → x ≡ y → slice_get state place ≡ Some y
part_held state place e x y same at is = ap (slice_get state) (sym same) ∙ (at ∙ ap Some is)

-- ---- the modules, one after the other

pub row_there : (P : RootRow → Type 0) (ms : List RootRow) (i : ℕ) (m : RootRow) → AllByRecursion P ms → i < length ms → m ≡ get_or ms i m → P m
row_there P ms i m all low is = go ms i all (get_index ms i m low is)
  where
    go : (ms : List RootRow) (i : ℕ) → AllByRecursion P ms → slice_get ms i ≡ Some m → P m
    go [] i all at = absurd (let z : None ≡ Some m = at in cc)
    go (n ∷ ms) zero all at = subst P (one_value n m at) all.0
    go (n ∷ ms) (suc i) all at = go ms i all.1 at

pub held_more : {X : Type 0} (state : List Payload) (place : ℕ → ℕ) (put : X → Payload) (ms : List RootRow) (xs new : List X) (i : ℕ) (m : RootRow) (x : X) → i < length ms → m ≡ get_or ms i m → AreHeld state place put (take i ms) xs
    → slice_get state (place m.row) ≡ Some (put x) → new ≡ xs ++ x ∷ [] → AreHeld state place put (take (i + 1) ms) new
held_more state place put ms xs new i m x low is held at pushed =
    subst (AreHeld state place put (take (i + 1) ms)) (sym pushed) (zip_more (λ (n : RootRow) y. slice_get state (place n.row) ≡ Some (put y)) ms xs i m x held (get_index ms i m low is) at)

pub held_all : {X : Type 0} (state : List Payload) (place : ℕ → ℕ) (put : X → Payload) (ms : List RootRow) (xs : List X) → AreHeld state place put (take (length ms) ms) xs → AreHeld state place put ms xs
held_all state place put ms xs held = zip_whole (λ (n : RootRow) y. slice_get state (place n.row) ≡ Some (put y)) ms xs held
