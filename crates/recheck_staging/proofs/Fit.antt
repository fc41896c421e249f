-- The new state, as the code has it, and that it fits.
use Rattle.std.proofs.Common.{◌≡◌, ℕ, zero, suc, ◌<◌, Bool, true, false, not, cond, List, [], ◌∷◌, map, filter, length, get_or, slice_get, Option, Some, None, refl, sym, ap, ◌∙◌, subst, arith}
use Rattle.std.specs.List.{AllByRecursion}
use Rattle.std.proofs.Math.Logic.{∥∥₁_map}
use Rattle.std.proofs.lemmas.List.{length-map}
use Rattle.heap_core.specs.Meaning.{Meaning, AllFit, IsSound, names, none_of, staging}
use Rattle.heap_core.specs.Transactions.{IsStaging, written, all_staged}
use Rattle.heap_core.proofs.Lists.{get_index}
use Rattle.flow_base.specs.Program.{Bytes, Program, paths_of}
use Rattle.check_values.specs.declared.root.RootRow.{RootRow}
use Rattle.check_values.specs.declared.root.Root.{Root}
use Rattle.check_values.specs.declared.signatures.Deps.{Deps}
use Rattle.check_phases.specs.program_check.specs.Full.{Results, IsFull}
use Rattle.check_phases.specs.payloads.specs.Entities.{parse_entity, deps_entity, signature_entity, errors_entity}
use Rattle.check_phases.specs.payloads.specs.State.{IsRoot, fits}
use Rattle.check_phases.specs.payloads.specs.declared.payload.Payload.{Payload}
use Rattle.check_phases.specs.payloads.specs.declared.payload.Payload.TheVariants as payload
use Rattle.check_phases.specs.Phases.{results_by, lists_in}
use Rattle.check_phases.specs.Sourced.{program_in}
use Rattle.check_phases.specs.Whole.{AreMade}
use Rattle.check_phases.specs.declared.phases.Made.{Made}
use Rattle.check_phases.proofs.Lists.{one_value, same_paths, within_there}
use Rattle.check_phases.proofs.Results.{full_by}
use Rattle.edited_root.specs.From.{rows_in}
use Rattle.recheck_staging.specs.declared.staging.Anew.{Anew}
use Rattle.recheck_staging.specs.Staging.{changes_of, state_of, HasState, KeepsTheRest, Frees, HaveSizes}
use Rattle.recheck_staging.proofs.Changes.{latest_written, kept_many}
use Rattle.recheck_staging.proofs.State.{state_written}

-- where nothing is staged, what is latest is committed
same_list : {A : Type 0} (xs ys : List A) → length xs ≡ length ys → ((e : ℕ) → e < length xs → slice_get xs e ≡ slice_get ys e) → xs ≡ ys
same_list [] [] s at = refl
same_list [] (y ∷ ys) s at = absurd (omega (arith, s))
same_list (x ∷ xs) [] s at = absurd (omega (arith, s))
same_list (x ∷ xs) (y ∷ ys) s at = let first : x ≡ y = one_value x y (at 0 (omega arith)) in λ j. first j ∷ same_list xs ys (omega (arith, s)) (λ e h. at (suc e) (omega (arith, h))) j

off : (bs : List Bool) (e : ℕ) → e < length bs → slice_get (none_of bs) e ≡ Some false
off [] e low = absurd (omega (arith, low))
off (b ∷ bs) zero low = refl
off (b ∷ bs) (suc e) low = off bs e (omega (arith, low))

latest_committed : (m : Meaning Payload) → IsSound fits m → m.staged ≡ none_of m.staged → m.latest ≡ m.committed
latest_committed m sound bare =
    same_list m.latest m.committed sound.as_many.0 (λ e h. sound.unstaged e (ap (λ (l : List Bool). slice_get l e) bare ∙ off m.staged e (let a = sound.as_many.0 in let b = sound.as_many.2 in omega (arith, a, b, h))))

-- a heap has a root
pub root_there : (m : Meaning Payload) → IsSound fits m → (root : Root) × (slice_get m.committed 0 ≡ Some (payload.Root root))
root_there m sound = go (slice_get m.committed 0) refl
  where
    some : (x : Payload) → slice_get m.committed 0 ≡ Some x → (root : Root) × (slice_get m.committed 0 ≡ Some (payload.Root root))
    some (payload.Root root) at = (root, at)
    some payload.Absent at = absurd (sound.fit payload.Absent at 0 payload.Absent at)
    some (payload.Parse p) at = absurd (sound.fit (payload.Parse p) at 0 (payload.Parse p) at)
    some (payload.Deps d) at = absurd (sound.fit (payload.Deps d) at 0 (payload.Deps d) at)
    some (payload.Sig s) at = absurd (sound.fit (payload.Sig s) at 0 (payload.Sig s) at)
    some (payload.Errs e) at = absurd (sound.fit (payload.Errs e) at 0 (payload.Errs e) at)

    go : (o : Option Payload) → slice_get m.committed 0 ≡ o → (root : Root) × (slice_get m.committed 0 ≡ Some (payload.Root root))
    go (Some x) at = some x at
    go None at = absurd (missing m.committed sound.some_entity at)
      where
        missing : (xs : List Payload) → 0 < length xs → slice_get xs 0 ≡ None → ⊥
        missing [] low e = omega (arith, low)
        missing (x ∷ xs) low e = let z : Some x ≡ None = e in cc

-- the new state is latest
pub has_state : (old new : Meaning Payload) (made : Made) (anew : Anew) (freed : List ℕ) → IsSound fits old → old.staged ≡ none_of old.staged → IsRoot (length old.committed) made.sources.root → KeepsTheRest old.committed made anew
    → Frees old.committed made.sources.root freed → new ≡ all_staged (changes_of made anew freed) old → HasState (state_of made) new.latest
has_state old new made anew freed sound bare is_root kept frees is =
    let root = root_there old sound in
    let same : new.latest ≡ written (changes_of made anew freed) old.committed =
    ap (λ (m : Meaning Payload). m.latest) is ∙ (latest_written (changes_of made anew freed) old ∙ ap (written (changes_of made anew freed)) (latest_committed old sound bare)) in
    subst (HasState (state_of made)) (sym same) (state_written old.committed made anew freed root.0 sound.fit root.1 is_root kept (frees root.0 root.1))

-- the results of a full check
module _ (made : Made) (are : AreMade made) where
  abbrev program : Program
  program = program_in made.sources

  abbrev results : List Results
  results = results_by made.sources.parses.items made.sources.lists.items made.signatures.items made.errors.items

  listed : made.sources.lists.items ≡ lists_in (paths_of program) program made.sources.parses.items
  listed = are.sources.listed ∙ ap (λ (ps : List Bytes). lists_in ps program made.sources.parses.items) (sym (same_paths made.sources.root))

  many : length made.errors.items ≡ length program
  many = are.many ∙ sym (length-map made.sources.root.modules (λ (m : RootRow). (m.path, m.text)))

  full : IsFull program results
  full = full_by program made.sources.parses.items made.sources.lists.items made.signatures.items made.errors.items are.sources.parsed listed are.merged are.checked many

-- so it fits
pub state_fits : (old new : Meaning Payload) (made : Made) → IsSound fits old → IsSound fits new → IsStaging old new → IsRoot (length old.committed) made.sources.root → HasState (state_of made) new.latest → ∥ AreMade made ∥₁ → AllFit fits new.latest
state_fits old new made sound_old sound_new staging is_root state are = λ top at_top e x at_e.
    let some : 0 < length new.latest = within_there new.latest 0 top at_top in
    let is_top : payload.Root made.sources.root ≡ top = one_value (payload.Root made.sources.root) top (sym (state 0 some) ∙ at_top) in
    let size : length new.latest ≡ length old.committed = sound_new.as_many.0 ∙ ap length staging.committed in
    let here : x ≡ state_of made e = one_value x (state_of made e) (sym at_e ∙ state e (within_there new.latest e x at_e)) in
    subst (λ (t : Payload). fits (length new.latest) t e x) is_top
    (subst (λ (n : ℕ). IsRoot n made.sources.root) (sym size) is_root, ∥∥₁_map are (λ (a : AreMade made). (results_of made, full made a, here)))
  where
    results_of : Made → List Results
    results_of made = results_by made.sources.parses.items made.sources.lists.items made.signatures.items made.errors.items

-- ---- sizes and rooms

pub have_sizes : (committed : List Payload) (made : Made) (anew : Anew) → KeepsTheRest committed made anew → HaveSizes made anew
have_sizes committed made anew kept =
    let a = kept_many parse_entity payload.Parse committed made.sources.root.modules made.sources.parses.items anew.fresh.items kept.parses in
    let b = kept_many deps_entity payload.Deps committed made.sources.root.modules made.sources.lists.items anew.relisted.items kept.lists in
    let c = kept_many signature_entity payload.Sig committed made.sources.root.modules made.signatures.items anew.moved.items kept.signatures in
    let d = kept_many errors_entity payload.Errs committed made.sources.root.modules made.errors.items anew.checked.items kept.errors in
    record { parses = a.0; lists = b.0; signatures = c.0; errors = d.0; fresh = a.1; relisted = b.1; moved = c.1; checked = d.1 }

-- the freed rows have room
pub freed_room : (m : Meaning Payload) (new : Root) (freed : List ℕ) → IsSound fits m → Frees m.committed new freed → AllByRecursion (λ row. errors_entity row < length m.committed) freed
freed_room m new freed sound frees =
    let root = root_there m sound in
    let is_root = (sound.fit (payload.Root root.0) root.1 0 (payload.Root root.0) root.1).0 in
    subst (AllByRecursion (λ (row : ℕ). errors_entity row < length m.committed)) (sym (frees root.0 root.1)) (some_rows (rows_in root.0) (rows_room root.0.modules is_root.room))
  where
    rows_room : (ms : List RootRow) → AllByRecursion (λ n. errors_entity n.row < length m.committed) ms → AllByRecursion (λ row. errors_entity row < length m.committed) (map (λ (n : RootRow). n.row) ms)
    rows_room [] all = tt
    rows_room (n ∷ ms) all = (all.0, rows_room ms all.1)

    some_rows : (rows : List ℕ) → AllByRecursion (λ row. errors_entity row < length m.committed) rows → AllByRecursion (λ row. errors_entity row < length m.committed) (filter (λ (row : ℕ). not (names (rows_in new) row)) rows)
    some_rows [] all = tt
    some_rows (r ∷ rows) all = go (names (rows_in new) r) (some_rows rows all.1)
      where
        go : (b : Bool) → AllByRecursion (λ row. errors_entity row < length m.committed) (filter (λ (row : ℕ). not (names (rows_in new) row)) rows)
            → AllByRecursion (λ row. errors_entity row < length m.committed) (cond (not b) (r ∷ filter (λ (row : ℕ). not (names (rows_in new) row)) rows) (filter (λ (row : ℕ). not (names (rows_in new) row)) rows))
        go true rest = rest
        go false rest = (all.0, rest)
