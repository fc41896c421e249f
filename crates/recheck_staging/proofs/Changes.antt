-- What stands at an entity after changes, each of which is right.
use Rattle.std.proofs.Common.{◌≡◌, ◌≢◌, ℕ, zero, suc, ◌+◌, ◌<◌, Bool, true, false, List, [], ◌∷◌, ◌++◌, length, set, slice_get, Some, None, refl, sym, ap, ◌∙◌, subst, arith, length-set}
use Rattle.std.specs.Prelude.{eqb, ◌||◌}
use Rattle.std.specs.List.{AllByRecursion}
use Rattle.std.proofs.lemmas.Bool.Decides.{nat_tests}
use mathlib.Core.Logic.{dite}
use native.Mathlib.Decide.{ℕ_discrete}
use Rattle.heap_core.specs.Meaning.{Meaning, names, staging}
use Rattle.heap_core.specs.Transactions.{numbers_of, written, all_staged}
use Rattle.heap_core.proofs.Lists.{put_here, put_else}
use Rattle.check_values.specs.declared.root.RootRow.{RootRow}
use Rattle.check_phases.specs.payloads.specs.declared.payload.Payload.{Payload}
use Rattle.check_phases.specs.payloads.specs.Entities.{parse_entity, deps_entity, signature_entity, errors_entity}
use Rattle.check_phases.proofs.Lists.{one_value}
use Rattle.recheck_staging.specs.Staging.{Change, flagged_one, flagged, vacated_row, vacated, AreKept}

-- a change is right where the state has its payload
abbrev pub AreRight : (ℕ → Payload) → List Change → Type 0
AreRight at cs = AllByRecursion (λ c. at c.0 ≡ c.1) cs

abbrev pub named : List Change → ℕ → Bool
named cs e = names (numbers_of cs) e

pub right_append : (at : ℕ → Payload) (cs ds : List Change) → AreRight at cs → AreRight at ds → AreRight at (cs ++ ds)
right_append at [] ds a b = b
right_append at (c ∷ cs) ds a b = (a.0, right_append at cs ds a.1 b)

pub named_first : (k : ℕ) (ks : List ℕ) (e : ℕ) → k ≡ e → names (k ∷ ks) e ≡ true
named_first k ks e is = ap (λ (b : Bool). b || names ks e) (same k e is)
  where
    same : (a b : ℕ) → a ≡ b → eqb a b ≡ true
    same a b e = grind (arith, nat_tests)

-- an entity that none of two lists' changes names
pub not_named : (cs ds : List Change) (e : ℕ) → named (cs ++ ds) e ≡ false → (named cs e ≡ false) × (named ds e ≡ false)
not_named [] ds e off = (refl, off)
not_named (c ∷ cs) ds e off = go (eqb c.0 e) off (λ h. not_named cs ds e h)
  where
    go : (b : Bool) → (b || named (cs ++ ds) e) ≡ false → (named (cs ++ ds) e ≡ false → (named cs e ≡ false) × (named ds e ≡ false)) → ((b || named cs e) ≡ false) × (named ds e ≡ false)
    go true h later = absurd (let z : true ≡ false = h in cc)
    go false h later = later h

-- what is written is right, where what isn't named is
pub written_right : (at : ℕ → Payload) (cs : List Change) (xs : List Payload) (e : ℕ) → e < length xs → AreRight at cs → (named cs e ≡ false → slice_get xs e ≡ Some (at e)) → slice_get (written cs xs) e ≡ Some (at e)
written_right at [] xs e low right rest = rest refl
written_right at (c ∷ cs) xs e low right rest =
    written_right at cs (set xs c.0 c.1) e (let n = length-set xs c.0 c.1 in omega (arith, low, n)) right.1 (λ off. dite (ℕ_discrete e c.0)
    (λ (same : e ≡ c.0). ap (slice_get (set xs c.0 c.1)) same ∙ (put_here xs c.0 c.1 (omega (arith, low, same)) ∙ (ap Some (sym right.0) ∙ ap (λ (k : ℕ). Some (at k)) (sym same))))
    (λ (ne : e ≢ c.0). put_else xs c.0 e c.1 ne ∙ rest (other c.0 e ne off)))
  where
    other : (k e : ℕ) → e ≢ k → named cs e ≡ false → (eqb k e || named cs e) ≡ false
    other k e ne off = (let z : eqb k e ≡ false = grind (arith, nat_tests) in ap (λ (b : Bool). b || named cs e) z ∙ off)

pub latest_written : (cs : List Change) (m : Meaning Payload) → (all_staged cs m).latest ≡ written cs m.latest
latest_written [] m = refl
latest_written (c ∷ cs) m = latest_written cs (staging c.0 c.1 m)

pub latest_many : (cs : List Change) (xs : List Payload) → length (written cs xs) ≡ length xs
latest_many [] xs = refl
latest_many (c ∷ cs) xs = latest_many cs (set xs c.0 c.1) ∙ length-set xs c.0 c.1

module _ {X : Type 0} (place : ℕ → ℕ) (put : X → Payload) where
  pub flagged_right : (at : ℕ → Payload) (ms : List RootRow) (xs : List X) (flags : List Bool) → ((i : ℕ) (m : RootRow) (x : X) → slice_get ms i ≡ Some m → slice_get xs i ≡ Some x → at (place m.row) ≡ put x)
      → AreRight at (flagged place put ms xs flags)
  flagged_right at [] xs flags is = tt
  flagged_right at (m ∷ ms) [] flags is = tt
  flagged_right at (m ∷ ms) (x ∷ xs) [] is = tt
  flagged_right at (m ∷ ms) (x ∷ xs) (flag ∷ flags) is =
      right_append at (flagged_one place put m.row x flag) (flagged place put ms xs flags) (one flag) (flagged_right at ms xs flags (λ i n y a b. is (suc i) n y a b))
    where
      one : (b : Bool) → AreRight at (flagged_one place put m.row x b)
      one true = (is 0 m x refl refl, tt)
      one false = tt

  -- a result that isn't named is what is committed
  pub kept_at : (committed : List Payload) (ms : List RootRow) (xs : List X) (flags : List Bool) (i : ℕ) (m : RootRow) → AreKept committed place put ms xs flags → slice_get ms i ≡ Some m
      → named (flagged place put ms xs flags) (place m.row) ≡ false → (x : X) × (slice_get xs i ≡ Some x) × (slice_get committed (place m.row) ≡ Some (put x))
  kept_at committed [] xs flags i m kept at off = absurd (let z : None ≡ Some m = at in cc)
  kept_at committed (n ∷ ms) [] flags i m kept at off = absurd kept
  kept_at committed (n ∷ ms) (x ∷ xs) [] i m kept at off = absurd kept
  kept_at committed (n ∷ ms) (x ∷ xs) (flag ∷ flags) zero m kept at off =
      (x, refl, subst (λ (k : RootRow). slice_get committed (place k.row) ≡ Some (put x)) same (kept.0 (is_off flag (not_named (flagged_one place put n.row x flag) (flagged place put ms xs flags) (place m.row) off).0)))
    where
      same : n ≡ m
      same = one_value n m at

      is_off : (b : Bool) → named (flagged_one place put n.row x b) (place m.row) ≡ false → b ≡ false
      is_off true h = absurd (let z : true ≡ false = sym (named_first (place n.row) [] (place m.row) (ap (λ (k : RootRow). place k.row) same)) ∙ h in cc)
      is_off false h = refl
  kept_at committed (n ∷ ms) (x ∷ xs) (flag ∷ flags) (suc i) m kept at off =
      kept_at committed ms xs flags i m kept.1 at (not_named (flagged_one place put n.row x flag) (flagged place put ms xs flags) (place m.row) off).1

  -- there are as many results, and flags, as modules
  pub kept_many : (committed : List Payload) (ms : List RootRow) (xs : List X) (flags : List Bool) → AreKept committed place put ms xs flags → (length xs ≡ length ms) × (length flags ≡ length ms)
  kept_many committed [] [] [] kept = (refl, refl)
  kept_many committed [] [] (f ∷ flags) kept = absurd kept
  kept_many committed [] (x ∷ xs) flags kept = absurd kept
  kept_many committed (m ∷ ms) [] flags kept = absurd kept
  kept_many committed (m ∷ ms) (x ∷ xs) [] kept = absurd kept
  kept_many committed (m ∷ ms) (x ∷ xs) (f ∷ flags) kept = (let r = kept_many committed ms xs flags kept.1 in (ap suc r.0, ap suc r.1))

-- the four entities of a row are named where it is vacated
pub vacated_names : (rows : List ℕ) (i row e : ℕ) → slice_get rows i ≡ Some row → (e ≡ parse_entity row → named (vacated rows) e ≡ true) × (e ≡ deps_entity row → named (vacated rows) e ≡ true)
    × (e ≡ signature_entity row → named (vacated rows) e ≡ true) × (e ≡ errors_entity row → named (vacated rows) e ≡ true)
vacated_names [] i row e at = absurd (let z : None ≡ Some row = at in cc)
vacated_names (r ∷ rows) zero row e at =
    let same : r ≡ row = one_value r row at in (
      (λ is. named_first (parse_entity r) (deps_entity r ∷ signature_entity r ∷ errors_entity r ∷ numbers_of (vacated rows)) e (ap parse_entity same ∙ sym is)),
      (λ is. later (parse_entity r) (deps_entity r ∷ signature_entity r ∷ errors_entity r ∷ numbers_of (vacated rows)) (named_first (deps_entity r) (signature_entity r ∷ errors_entity r ∷ numbers_of (vacated rows)) e (ap deps_entity same ∙ sym is))),
      (λ is. later (parse_entity r) (deps_entity r ∷ signature_entity r ∷ errors_entity r ∷ numbers_of (vacated rows)) (later (deps_entity r) (signature_entity r ∷ errors_entity r ∷ numbers_of (vacated rows))
          (named_first (signature_entity r) (errors_entity r ∷ numbers_of (vacated rows)) e (ap signature_entity same ∙ sym is)))),
      (λ is. later (parse_entity r) (deps_entity r ∷ signature_entity r ∷ errors_entity r ∷ numbers_of (vacated rows)) (later (deps_entity r) (signature_entity r ∷ errors_entity r ∷ numbers_of (vacated rows))
          (later (signature_entity r) (errors_entity r ∷ numbers_of (vacated rows)) (named_first (errors_entity r) (numbers_of (vacated rows)) e (ap errors_entity same ∙ sym is))))),
    )
  where
    later : (k : ℕ) (ks : List ℕ) → names ks e ≡ true → names (k ∷ ks) e ≡ true
    later k ks h = go (eqb k e)
      where
        go : (b : Bool) → (b || names ks e) ≡ true
        go true = refl
        go false = h
vacated_names (r ∷ rows) (suc i) row e at =
    let rest = vacated_names rows i row e at in
    ((λ is. four (rest.0 is)), (λ is. four (rest.1 is)), (λ is. four (rest.2 is)), (λ is. four (rest.3 is)))
  where
    later : (k : ℕ) (ks : List ℕ) → names ks e ≡ true → names (k ∷ ks) e ≡ true
    later k ks h = go (eqb k e)
      where
        go : (b : Bool) → (b || names ks e) ≡ true
        go true = refl
        go false = h

    four : named (vacated rows) e ≡ true → named (vacated (r ∷ rows)) e ≡ true
    four h =
        later (parse_entity r) (deps_entity r ∷ signature_entity r ∷ errors_entity r ∷ numbers_of (vacated rows)) (later (deps_entity r) (signature_entity r ∷ errors_entity r ∷ numbers_of (vacated rows))
        (later (signature_entity r) (errors_entity r ∷ numbers_of (vacated rows)) (later (errors_entity r) (numbers_of (vacated rows)) h)))

pub vacated_right : (at : ℕ → Payload) (rows : List ℕ) → AllByRecursion (λ row. AreRight at (vacated_row row)) rows → AreRight at (vacated rows)
vacated_right at [] all = tt
vacated_right at (r ∷ rows) all = right_append at (vacated_row r) (vacated rows) all.0 (vacated_right at rows all.1)
