-- What is staged over the committed payloads comes to the new state.
use Rattle.std.proofs.Common.{◌≡◌, ◌≢◌, ◌⊎◌, ℕ, zero, suc, ◌+◌, ◌*◌, ◌<◌, Bool, true, false, not, cond, List, [], ◌∷◌, ◌++◌, map, filter, length, slice_get, Some, None, refl, sym, ap, ◌∙◌, subst, inl, inr, arith}
use Rattle.std.specs.Prelude.{eqb, ◌||◌}
use Rattle.std.specs.List.{AllByRecursion}
use Rattle.std.proofs.Math.Logic.{∥∥₁_elim}
use Rattle.std.proofs.lemmas.Bool.{cases_lt}
use Rattle.std.proofs.lemmas.Bool.Decides.{nat_tests}
use mathlib.Core.Bool.{Bool-set}
use Rattle.heap_core.specs.Meaning.{AllFit, names}
use Rattle.heap_core.specs.Transactions.{numbers_of, written}
use Rattle.heap_core.proofs.Lists.{get_there}
use Rattle.check_values.specs.declared.faults.Errs.{Errs}
use Rattle.check_values.specs.declared.root.RootRow.{RootRow}
use Rattle.check_values.specs.declared.root.Root.{Root}
use Rattle.check_values.specs.declared.signatures.Deps.{Deps}
use Rattle.check_values.specs.declared.signatures.Sig.{Sig}
use Rattle.check_phases.specs.source_front.specs.declared.parse.Parse.{Parse}
use Rattle.check_phases.specs.program_check.specs.Full.{Results}
use Rattle.check_phases.specs.payloads.specs.Entities.{parse_entity, deps_entity, signature_entity, errors_entity}
use Rattle.check_phases.specs.payloads.specs.State.{IsRoot, payload_in, payload_at, fits, StandsIn}
use Rattle.check_phases.specs.payloads.specs.declared.payload.Payload.{Payload}
use Rattle.check_phases.specs.payloads.specs.declared.payload.Payload.TheVariants as payload
use Rattle.check_phases.specs.payloads.proofs.Places.{IsOfRow, one_row, stand_here, nothing_here}
use Rattle.check_phases.specs.Phases.{results_by}
use Rattle.check_phases.specs.declared.phases.Made.{Made}
use Rattle.check_phases.proofs.Lists.{one_value, within_there}
use Rattle.edited_root.specs.From.{rows_in, freed_from}
use Rattle.recheck_staging.specs.declared.staging.Anew.{Anew}
use Rattle.recheck_staging.specs.Staging.{flagged, vacated_row, vacated, parts_of, changes_of, state_of, HasState, KeepsTheRest}
use Rattle.recheck_staging.proofs.Changes.{AreRight, named, right_append, named_first, not_named, written_right, latest_many, flagged_right, kept_at, kept_many, vacated_names, vacated_right}

-- ---- what the new state has

-- beyond the root's entity, it is what the modules have
beyond : (root : Root) (results : List Results) (e : ℕ) → 0 < e → payload_at root results e ≡ payload_in root.modules results e
beyond root results zero low = absurd (omega (arith, low))
beyond root results (suc e) low = refl

results_get : (parses : List Parse) (lists : List Deps) (sigs : List Sig) (errors : List Errs) (x : ℕ) (p : Parse) (d : Deps) (s : Sig) (e : Errs) → slice_get parses x ≡ Some p → slice_get lists x ≡ Some d → slice_get sigs x ≡ Some s → slice_get errors x ≡ Some e
    → slice_get (results_by parses lists sigs errors) x ≡ Some (record { parse = p; deps = d; sig = s; errors = e.faults })
results_get [] lists sigs errors x p d s e a b c f = absurd (let z : None ≡ Some p = a in cc)
results_get (q ∷ parses) [] sigs errors x p d s e a b c f = absurd (let z : None ≡ Some d = b in cc)
results_get (q ∷ parses) (r ∷ lists) [] errors x p d s e a b c f = absurd (let z : None ≡ Some s = c in cc)
results_get (q ∷ parses) (r ∷ lists) (t ∷ sigs) [] x p d s e a b c f = absurd (let z : None ≡ Some e = f in cc)
results_get (q ∷ parses) (r ∷ lists) (t ∷ sigs) (u ∷ errors) zero p d s e a b c f =
    let qa = one_value q p a in let rb = one_value r d b in let tc = one_value t s c in let uf = one_value u e f in
    λ j. Some (record { parse = qa j; deps = rb j; sig = tc j; errors = (uf j).faults })
results_get (q ∷ parses) (r ∷ lists) (t ∷ sigs) (u ∷ errors) (suc x) p d s e a b c f = results_get parses lists sigs errors x p d s e a b c f

-- what stands at the entities of a row
pub record StandAt (at : ℕ → Payload) (row : ℕ) (parse deps signature errors : Payload) : Type 0 where
  pub parse_there : at (parse_entity row) ≡ parse
  pub deps_there : at (deps_entity row) ≡ deps
  pub signature_there : at (signature_entity row) ≡ signature
  pub errors_there : at (errors_entity row) ≡ errors

module_stands : (made : Made) (n x : ℕ) (m : RootRow) (p : Parse) (d : Deps) (s : Sig) (e : Errs) → IsRoot n made.sources.root → slice_get made.sources.root.modules x ≡ Some m → slice_get made.sources.parses.items x ≡ Some p
    → slice_get made.sources.lists.items x ≡ Some d → slice_get made.signatures.items x ≡ Some s → slice_get made.errors.items x ≡ Some e
    → StandAt (state_of made) m.row (payload.Parse p) (payload.Deps d) (payload.Sig s) (payload.Errs e)
module_stands made n x m p d s e is_root at_m at_p at_d at_s at_e =
    let root = made.sources.root in
    let results = results_by made.sources.parses.items made.sources.lists.items made.signatures.items made.errors.items in
    let here = stand_here root.modules results x m _ is_root.rows at_m (results_get made.sources.parses.items made.sources.lists.items made.signatures.items made.errors.items x p d s e at_p at_d at_s at_e) in
    record {
      parse_there = beyond root results (parse_entity m.row) (omega arith) ∙ here.parse;
      deps_there = beyond root results (deps_entity m.row) (omega arith) ∙ here.deps;
      signature_there = beyond root results (signature_entity m.row) (omega arith) ∙ here.sig;
      errors_there = beyond root results (errors_entity m.row) (omega arith) ∙ here.errors;
    }

-- ---- free rows

eqb_same : (a b : ℕ) → a ≡ b → eqb a b ≡ true
eqb_same a b e = grind (arith, nat_tests)

-- an entity of a row that is none of the modules'
no_module : (ms : List RootRow) (row e : ℕ) → IsOfRow row e → names (map (λ (m : RootRow). m.row) ms) row ≡ false → AllByRecursion (λ m. IsOfRow m.row e → ⊥) ms
no_module [] row e of unnamed = tt
no_module (m ∷ ms) row e of unnamed = (one_row m.row row e (apart (eqb m.row row) refl unnamed) of, no_module ms row e of (rest (eqb m.row row) unnamed))
  where
    apart : (b : Bool) → eqb m.row row ≡ b → (b || names (map (λ (m : RootRow). m.row) ms) row) ≡ false → m.row ≢ row
    apart true f h = absurd (let z : true ≡ false = h in cc)
    apart false f h = λ same. (let z : false ≡ true = sym f ∙ eqb_same m.row row same in cc)

    rest : (b : Bool) → (b || names (map (λ (m : RootRow). m.row) ms) row) ≡ false → names (map (λ (m : RootRow). m.row) ms) row ≡ false
    rest true h = absurd (let z : true ≡ false = h in cc)
    rest false h = h

row_vacant : (root : Root) (results : List Results) (row : ℕ) → names (rows_in root) row ≡ false → AreRight (payload_at root results) (vacated_row row)
row_vacant root results row unnamed = (
  one (parse_entity row) (omega arith) (record { low = omega arith; high = omega arith }),
  (
    one (deps_entity row) (omega arith) (record { low = omega arith; high = omega arith }),
    (one (signature_entity row) (omega arith) (record { low = omega arith; high = omega arith }), (one (errors_entity row) (omega arith) (record { low = omega arith; high = omega arith }), tt)),
  ),
)
  where
    one : (e : ℕ) → 0 < e → IsOfRow row e → payload_at root results e ≡ payload.Absent
    one e low of = beyond root results e low ∙ nothing_here root.modules results e (no_module root.modules row e of unnamed)

-- the freed rows are none of the new root's
pub freed_unnamed : (new : Root) (rows : List ℕ) → AllByRecursion (λ row. names (rows_in new) row ≡ false) (filter (λ (row : ℕ). not (names (rows_in new) row)) rows)
freed_unnamed new [] = tt
freed_unnamed new (r ∷ rows) = go (names (rows_in new) r) refl (freed_unnamed new rows)
  where
    go : (b : Bool) → names (rows_in new) r ≡ b → AllByRecursion (λ row. names (rows_in new) row ≡ false) (filter (λ (row : ℕ). not (names (rows_in new) row)) rows)
        → AllByRecursion (λ row. names (rows_in new) row ≡ false) (cond (not b) (r ∷ filter (λ (row : ℕ). not (names (rows_in new) row)) rows) (filter (λ (row : ℕ). not (names (rows_in new) row)) rows))
    go true e rest = rest
    go false e rest = (e, rest)

all_vacant : (root : Root) (results : List Results) (rows : List ℕ) → AllByRecursion (λ row. names (rows_in root) row ≡ false) rows → AllByRecursion (λ row. AreRight (payload_at root results) (vacated_row row)) rows
all_vacant root results [] all = tt
all_vacant root results (r ∷ rows) all = (row_vacant root results r all.0, all_vacant root results rows all.1)

-- an old row that the new root doesn't use is freed
is_freed : (new : Root) (rows : List ℕ) (i row : ℕ) → slice_get rows i ≡ Some row → names (rows_in new) row ≡ false → (j : ℕ) × (slice_get (filter (λ (row : ℕ). not (names (rows_in new) row)) rows) j ≡ Some row)
is_freed new [] i row at off = absurd (let z : None ≡ Some row = at in cc)
is_freed new (r ∷ rows) zero row at off =
    (0, ap (λ (b : Bool). slice_get (cond (not b) (r ∷ filter (λ (row : ℕ). not (names (rows_in new) row)) rows) (filter (λ (row : ℕ). not (names (rows_in new) row)) rows)) 0) (ap (names (rows_in new)) (one_value r row at) ∙ off) ∙ at)
is_freed new (r ∷ rows) (suc i) row at off = go (names (rows_in new) r) (is_freed new rows i row at off)
  where
    go : (b : Bool) → (j : ℕ) × (slice_get (filter (λ (row : ℕ). not (names (rows_in new) row)) rows) j ≡ Some row)
        → (j : ℕ) × (slice_get (cond (not b) (r ∷ filter (λ (row : ℕ). not (names (rows_in new) row)) rows) (filter (λ (row : ℕ). not (names (rows_in new) row)) rows)) j ≡ Some row)
    go true rest = rest
    go false rest = (suc rest.0, rest.1)

-- ---- the module of an entity

pub record HasModule (ms : List RootRow) (e : ℕ) : Type 0 where
  pub number : ℕ
  pub module_there : RootRow
  pub is_there : slice_get ms number ≡ Some module_there
  pub of_row : IsOfRow module_there.row e

find_module : (ms : List RootRow) (e : ℕ) → HasModule ms e ⊎ AllByRecursion (λ m. IsOfRow m.row e → ⊥) ms
find_module [] e = inr tt
find_module (m ∷ ms) e = elim (cases_lt (4 * m.row) e) [
  | inl low ↦ elim (cases_lt e (4 * m.row + 5)) [
    | inl high ↦ inl (record { number = 0; module_there = m; is_there = refl; of_row = record { low = low; high = omega (arith, high) } })
    | inr over ↦ later (λ of. (let h = of.high in omega (arith, over, h))) (find_module ms e)
  ]
  | inr under ↦ later (λ of. (let l = of.low in omega (arith, under, l))) (find_module ms e)
]
  where
    later : (IsOfRow m.row e → ⊥) → HasModule ms e ⊎ AllByRecursion (λ m. IsOfRow m.row e → ⊥) ms → HasModule (m ∷ ms) e ⊎ AllByRecursion (λ m. IsOfRow m.row e → ⊥) (m ∷ ms)
    later off (inl has) = inl (record { number = suc has.number; module_there = has.module_there; is_there = has.is_there; of_row = has.of_row })
    later off (inr none) = inr (off, none)

-- one of the four of a row
one_of_row : (row e : ℕ) → IsOfRow row e → (e ≡ parse_entity row) ⊎ ((e ≡ deps_entity row) ⊎ ((e ≡ signature_entity row) ⊎ (e ≡ errors_entity row)))
one_of_row row e of = elim (cases_lt e (4 * row + 2)) [
  | inl low ↦ inl (let w = of.low in omega (arith, low, w))
  | inr more ↦ inr (elim (cases_lt e (4 * row + 3)) [
    | inl low ↦ inl (omega (arith, low, more))
    | inr most ↦ inr (elim (cases_lt e (4 * row + 4)) [ inl low ↦ inl (omega (arith, low, most)) | inr last ↦ inr (let w = of.high in omega (arith, last, w)) ])
  ])
]

-- ---- what is committed at an entity of no module

abbrev is_absent : Payload → Bool
is_absent payload.Absent = true
is_absent (payload.Root root) = false
is_absent (payload.Parse parse) = false
is_absent (payload.Deps deps) = false
is_absent (payload.Sig sig) = false
is_absent (payload.Errs errs) = false

absent : (x : Payload) → is_absent x ≡ true → x ≡ payload.Absent
absent payload.Absent is = refl
absent (payload.Root root) is = absurd (let z : false ≡ true = is in cc)
absent (payload.Parse parse) is = absurd (let z : false ≡ true = is in cc)
absent (payload.Deps deps) is = absurd (let z : false ≡ true = is in cc)
absent (payload.Sig sig) is = absurd (let z : false ≡ true = is in cc)
absent (payload.Errs errs) is = absurd (let z : false ≡ true = is in cc)

nothing_old : (committed : List Payload) (old : Root) (e : ℕ) (x : Payload) → AllFit fits committed → slice_get committed 0 ≡ Some (payload.Root old) → 0 < e → AllByRecursion (λ m. IsOfRow m.row e → ⊥) old.modules → slice_get committed e ≡ Some x → x ≡ payload.Absent
nothing_old committed old e x fit root above none at =
    absent x (∥∥₁_elim (fit (payload.Root old) root e x at).1 (Bool-set _ _) (λ (stood : StandsIn old e x).
    ap is_absent (stood.2 ∙ (beyond old stood.0 e above ∙ nothing_here old.modules stood.0 e none))))

-- ---- the whole state

module _ (committed : List Payload) (made : Made) (anew : Anew) (freed : List ℕ) (old : Root) (fit : AllFit fits committed) (at_root : slice_get committed 0 ≡ Some (payload.Root old)) (is_root : IsRoot (length committed) made.sources.root) (kept : KeepsTheRest committed made anew) (frees : freed ≡ freed_from old made.sources.root) where
  abbrev at : ℕ → Payload
  at = state_of made

  abbrev modules : List RootRow
  modules = made.sources.root.modules

  abbrev results : List Results
  results = results_by made.sources.parses.items made.sources.lists.items made.signatures.items made.errors.items

  -- the results of the module of a number
  record HasParts (i : ℕ) : Type 0 where
    parse : Parse
    deps : Deps
    sig : Sig
    errs : Errs
    parse_there : slice_get made.sources.parses.items i ≡ Some parse
    deps_there : slice_get made.sources.lists.items i ≡ Some deps
    sig_there : slice_get made.signatures.items i ≡ Some sig
    errs_there : slice_get made.errors.items i ≡ Some errs

  parts_at : (i : ℕ) → i < length modules → HasParts i
  parts_at i low =
      let a = (kept_many parse_entity payload.Parse committed modules made.sources.parses.items anew.fresh.items kept.parses).0 in
      let b = (kept_many deps_entity payload.Deps committed modules made.sources.lists.items anew.relisted.items kept.lists).0 in
      let c = (kept_many signature_entity payload.Sig committed modules made.signatures.items anew.moved.items kept.signatures).0 in
      let d = (kept_many errors_entity payload.Errs committed modules made.errors.items anew.checked.items kept.errors).0 in
      let p = get_there made.sources.parses.items i (omega (arith, low, a)) in
      let q = get_there made.sources.lists.items i (omega (arith, low, b)) in
      let r = get_there made.signatures.items i (omega (arith, low, c)) in
      let s = get_there made.errors.items i (omega (arith, low, d)) in
      record { parse = p.0; deps = q.0; sig = r.0; errs = s.0; parse_there = p.1; deps_there = q.1; sig_there = r.1; errs_there = s.1 }

  stands : (i : ℕ) (m : RootRow) → slice_get modules i ≡ Some m → (h : HasParts i) → StandAt at m.row (payload.Parse h.parse) (payload.Deps h.deps) (payload.Sig h.sig) (payload.Errs h.errs)
  stands i m there h = module_stands made (length committed) i m h.parse h.deps h.sig h.errs is_root there h.parse_there h.deps_there h.sig_there h.errs_there

  -- each change is right
  changes_right : AreRight at (changes_of made anew freed)
  changes_right = (
    refl,
    right_append at (parts_of made anew) (vacated freed)
        (right_append at (flagged parse_entity payload.Parse modules made.sources.parses.items anew.fresh.items) _
        (flagged_right parse_entity payload.Parse at modules made.sources.parses.items anew.fresh.items (λ i m x a b. (let h = parts_at i (within_there modules i m a) in (stands i m a h).parse_there ∙ ap payload.Parse (one_value h.parse x (sym h.parse_there ∙ b)))))
        (right_append at (flagged deps_entity payload.Deps modules made.sources.lists.items anew.relisted.items) _
        (flagged_right deps_entity payload.Deps at modules made.sources.lists.items anew.relisted.items (λ i m x a b. (let h = parts_at i (within_there modules i m a) in (stands i m a h).deps_there ∙ ap payload.Deps (one_value h.deps x (sym h.deps_there ∙ b)))))
        (right_append at (flagged signature_entity payload.Sig modules made.signatures.items anew.moved.items) _
        (flagged_right signature_entity payload.Sig at modules made.signatures.items anew.moved.items (λ i m x a b. (let h = parts_at i (within_there modules i m a) in (stands i m a h).signature_there ∙ ap payload.Sig (one_value h.sig x (sym h.sig_there ∙ b)))))
        (flagged_right errors_entity payload.Errs at modules made.errors.items anew.checked.items (λ i m x a b. (let h = parts_at i (within_there modules i m a) in (stands i m a h).errors_there ∙ ap payload.Errs (one_value h.errs x (sym h.errs_there ∙ b))))))))
        (subst (λ (rows : List ℕ). AreRight at (vacated rows)) (sym frees) (vacated_right at (freed_from old made.sources.root) (all_vacant made.sources.root results (freed_from old made.sources.root) (freed_unnamed made.sources.root (rows_in old))))),
  )

  -- what isn't named of the four kinds
  record AreOff (e : ℕ) : Type 0 where
    parses : named (flagged parse_entity payload.Parse modules made.sources.parses.items anew.fresh.items) e ≡ false
    lists : named (flagged deps_entity payload.Deps modules made.sources.lists.items anew.relisted.items) e ≡ false
    signatures : named (flagged signature_entity payload.Sig modules made.signatures.items anew.moved.items) e ≡ false
    errors : named (flagged errors_entity payload.Errs modules made.errors.items anew.checked.items) e ≡ false

  are_off : (e : ℕ) → named (parts_of made anew) e ≡ false → AreOff e
  are_off e off =
      let a = not_named (flagged parse_entity payload.Parse modules made.sources.parses.items anew.fresh.items) _ e off in
      let b = not_named (flagged deps_entity payload.Deps modules made.sources.lists.items anew.relisted.items) _ e a.1 in
      let c = not_named (flagged signature_entity payload.Sig modules made.signatures.items anew.moved.items) _ e b.1 in
      record { parses = a.0; lists = b.0; signatures = c.0; errors = c.1 }

  -- an entity of a module that isn't named
  of_module : (e : ℕ) → HasModule modules e → AreOff e → slice_get committed e ≡ Some (at e)
  of_module e has off = elim (one_of_row has.module_there.row e has.of_row) [
    | inl is ↦
        (let k = kept_at parse_entity payload.Parse committed modules made.sources.parses.items anew.fresh.items has.number has.module_there kept.parses has.is_there (subst (λ (n : ℕ). named (flagged parse_entity payload.Parse modules made.sources.parses.items anew.fresh.items) n ≡ false) is off.parses) in
        let h = parts_at has.number (within_there modules has.number has.module_there has.is_there) in
        ap (slice_get committed) is ∙ (k.2 ∙ (ap (λ (p : Parse). Some (payload.Parse p)) (one_value k.0 h.parse (sym k.1 ∙ h.parse_there)) ∙ (ap Some (sym (stands has.number has.module_there has.is_there h).parse_there) ∙ ap (λ (n : ℕ). Some (at n)) (sym is)))))
    | inr more ↦ elim more [
      | inl is ↦
          (let k = kept_at deps_entity payload.Deps committed modules made.sources.lists.items anew.relisted.items has.number has.module_there kept.lists has.is_there (subst (λ (n : ℕ). named (flagged deps_entity payload.Deps modules made.sources.lists.items anew.relisted.items) n ≡ false) is off.lists) in
          let h = parts_at has.number (within_there modules has.number has.module_there has.is_there) in
          ap (slice_get committed) is ∙ (k.2 ∙ (ap (λ (p : Deps). Some (payload.Deps p)) (one_value k.0 h.deps (sym k.1 ∙ h.deps_there)) ∙ (ap Some (sym (stands has.number has.module_there has.is_there h).deps_there) ∙ ap (λ (n : ℕ). Some (at n)) (sym is)))))
      | inr most ↦ elim most [
        | inl is ↦
            (let k = kept_at signature_entity payload.Sig committed modules made.signatures.items anew.moved.items has.number has.module_there kept.signatures has.is_there (subst (λ (n : ℕ). named (flagged signature_entity payload.Sig modules made.signatures.items anew.moved.items) n ≡ false) is off.signatures) in
            let h = parts_at has.number (within_there modules has.number has.module_there has.is_there) in
            ap (slice_get committed) is ∙ (k.2 ∙ (ap (λ (p : Sig). Some (payload.Sig p)) (one_value k.0 h.sig (sym k.1 ∙ h.sig_there)) ∙ (ap Some (sym (stands has.number has.module_there has.is_there h).signature_there) ∙ ap (λ (n : ℕ). Some (at n)) (sym is)))))
        | inr is ↦
            (let k = kept_at errors_entity payload.Errs committed modules made.errors.items anew.checked.items has.number has.module_there kept.errors has.is_there (subst (λ (n : ℕ). named (flagged errors_entity payload.Errs modules made.errors.items anew.checked.items) n ≡ false) is off.errors) in
            let h = parts_at has.number (within_there modules has.number has.module_there has.is_there) in
            ap (slice_get committed) is ∙ (k.2 ∙ (ap (λ (p : Errs). Some (payload.Errs p)) (one_value k.0 h.errs (sym k.1 ∙ h.errs_there)) ∙ (ap Some (sym (stands has.number has.module_there has.is_there h).errors_there) ∙ ap (λ (n : ℕ). Some (at n)) (sym is)))))
      ]
    ]
  ]

  -- an entity of no module that isn't named is of no old one
  not_old : (e : ℕ) → AllByRecursion (λ m. IsOfRow m.row e → ⊥) modules → named (vacated freed) e ≡ false → AllByRecursion (λ m. IsOfRow m.row e → ⊥) old.modules
  not_old e none off = go old.modules (λ i row has. (i, has))
    where
      unused : (ms : List RootRow) (row : ℕ) → AllByRecursion (λ m. IsOfRow m.row e → ⊥) ms → IsOfRow row e → names (map (λ (m : RootRow). m.row) ms) row ≡ false
      unused [] row all of = refl
      unused (m ∷ ms) row all of = by (eqb m.row row) refl (unused ms row all.1 of)
        where
          by : (b : Bool) → eqb m.row row ≡ b → names (map (λ (m : RootRow). m.row) ms) row ≡ false → (b || names (map (λ (m : RootRow). m.row) ms) row) ≡ false
          by true is later = absurd (all.0 (subst (λ (k : ℕ). IsOfRow k e) (sym (same m.row row is)) of))
            where
              same : (a b : ℕ) → eqb a b ≡ true → a ≡ b
              same a b is = grind (arith, nat_tests)
          by false is later = later

      one : (i row : ℕ) → slice_get (rows_in old) i ≡ Some row → IsOfRow row e → ⊥
      one i row at of =
          let f = is_freed made.sources.root (rows_in old) i row at (unused modules row none of) in
          let v = vacated_names freed f.0 row e (ap (λ (rows : List ℕ). slice_get rows f.0) frees ∙ f.1) in
          let on : named (vacated freed) e ≡ true = elim (one_of_row row e of) [ inl is ↦ v.0 is | inr more ↦ elim more [ inl is ↦ v.1 is | inr most ↦ elim most [ inl is ↦ v.2 is | inr is ↦ v.3 is ] ] ] in
          let z : true ≡ false = sym on ∙ off in cc

      go : (ms : List RootRow) → ((i row : ℕ) → slice_get (map (λ (m : RootRow). m.row) ms) i ≡ Some row → (j : ℕ) × (slice_get (rows_in old) j ≡ Some row)) → AllByRecursion (λ m. IsOfRow m.row e → ⊥) ms
      go [] into = tt
      go (m ∷ ms) into = ((λ of. (let j = into 0 m.row refl in one j.0 m.row j.1 of)), go ms (λ i row has. into (suc i) row has))

  -- what isn't named stands as it is to stand
  unnamed_right : (e : ℕ) → e < length committed → named (changes_of made anew freed) e ≡ false → slice_get committed e ≡ Some (at e)
  unnamed_right zero low off = absurd (let z : true ≡ false = sym (named_first 0 (numbers_of (parts_of made anew ++ vacated freed)) 0 refl) ∙ off in cc)
  unnamed_right (suc e) low off =
      let behind = not_named ((0, payload.Root made.sources.root) ∷ []) (parts_of made anew ++ vacated freed) (suc e) off in
      let both = not_named (parts_of made anew) (vacated freed) (suc e) behind.1 in
      elim (find_module modules (suc e)) [
        | inl has ↦ of_module (suc e) has (are_off (suc e) both.0)
        | inr none ↦
            (let there = get_there committed (suc e) low in
            let no : there.0 ≡ payload.Absent = nothing_old committed old (suc e) there.0 fit at_root (omega arith) (not_old (suc e) none both.1) there.1 in
            there.1 ∙ ap Some (no ∙ sym (nothing_here modules results (suc e) none)))
      ]

  pub state_written : HasState at (written (changes_of made anew freed) committed)
  state_written e low =
      let many = latest_many (changes_of made anew freed) committed in
      let below : e < length committed = omega (arith, low, many) in
      written_right at (changes_of made anew freed) committed e below changes_right (unnamed_right e below)
