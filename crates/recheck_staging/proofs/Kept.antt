-- For users: what was kept from the results that are committed, and which entities keep their versions.
use Rattle.std.proofs.Common.{◌≡◌, ℕ, suc, Bool, false, List, [], ◌∷◌, length, slice_get, Option, Some, refl, ap, ◌∙◌, arith}
use Rattle.check_values.specs.declared.root.RootRow.{RootRow}
use Rattle.check_values.specs.declared.root.Root.{Root}
use Rattle.check_phases.specs.payloads.specs.State.{program_of}
use Rattle.check_phases.specs.payloads.specs.declared.payload.Payload.{Payload}
use Rattle.pending_edits.specs.Rows.{Follows}
use Rattle.edited_root.specs.From.{numbers_from}
use Rattle.edited_root.proofs.Users.{keeps_row}
use Rattle.recheck_staging.specs.Staging.{AreKept}

-- What holds module by module, where there are as many results and flags as modules.
pub kept_each : {X : Type 0} (committed : List Payload) (place : ℕ → ℕ) (put : X → Payload) (ms : List RootRow) (xs : List X) (flags : List Bool) → length xs ≡ length ms → length flags ≡ length ms
    → ((i : ℕ) (m : RootRow) (x : X) → slice_get ms i ≡ Some m → slice_get xs i ≡ Some x → slice_get flags i ≡ Some false → slice_get committed (place m.row) ≡ Some (put x)) → AreKept committed place put ms xs flags
kept_each committed place put [] [] [] a b each = tt
kept_each committed place put [] [] (f ∷ flags) a b each = absurd (omega (arith, b))
kept_each committed place put [] (x ∷ xs) flags a b each = absurd (omega (arith, a))
kept_each committed place put (m ∷ ms) [] flags a b each = absurd (omega (arith, a))
kept_each committed place put (m ∷ ms) (x ∷ xs) [] a b each = absurd (omega (arith, b))
kept_each committed place put (m ∷ ms) (x ∷ xs) (f ∷ flags) a b each =
    ((λ off. each 0 m x refl refl (ap Some off)), kept_each committed place put ms xs flags (omega (arith, a)) (omega (arith, b)) (λ i n y at of flag. each (suc i) n y at of flag))

-- What is not flagged is a result of the old module that it was: then it is what is committed at its entity.
pub kept_by_old : {X : Type 0} (committed : List Payload) (place : ℕ → ℕ) (put : X → Payload) (old new : Root) (from : List (Option ℕ)) (was xs : List X) (flags : List Bool) → Follows old (program_of new) new → from ≡ numbers_from old new
    → ((o : ℕ) (n : RootRow) (y : X) → slice_get old.modules o ≡ Some n → slice_get was o ≡ Some y → slice_get committed (place n.row) ≡ Some (put y)) → length xs ≡ length new.modules → length flags ≡ length new.modules
    → ((i : ℕ) (x : X) → slice_get xs i ≡ Some x → slice_get flags i ≡ Some false → (o : ℕ) × (n : RootRow) × (slice_get from i ≡ Some (Some o)) × (slice_get old.modules o ≡ Some n) × (slice_get was o ≡ Some x)) → AreKept committed place put new.modules xs flags
kept_by_old committed place put old new from was xs flags follows is at a b each = kept_each committed place put new.modules xs flags a b (λ i m x there has off.
    let e = each i x has off in
    let row : m.row ≡ e.1.row = keeps_row old new from is i e.0 m e.1 follows there e.2 e.3 in
    ap (λ (k : ℕ). slice_get committed (place k)) row ∙ at e.0 e.1 x e.3 e.4)
