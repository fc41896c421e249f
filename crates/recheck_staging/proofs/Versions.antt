-- For users: the entities that are not staged, so that their versions stay.
use Rattle.std.proofs.Common.{◌≡◌, ◌≢◌, ℕ, zero, suc, ◌+◌, ◌*◌, ◌<◌, ◌≤◌, Bool, true, false, List, [], ◌∷◌, ◌++◌, map, slice_get, Some, None, refl, sym, ap, ◌∙◌, subst, arith}
use Rattle.std.specs.Prelude.{eqb, ◌||◌}
use Rattle.std.specs.List.{AllByRecursion}
use Rattle.std.proofs.lemmas.Bool.Decides.{nat_tests}
use Rattle.heap_core.specs.Meaning.{names}
use Rattle.heap_core.specs.Transactions.{numbers_of}
use Rattle.check_values.specs.declared.root.RootRow.{RootRow}
use Rattle.check_values.specs.declared.root.Root.{Root}
use Rattle.check_phases.specs.payloads.specs.Entities.{parse_entity, deps_entity, signature_entity, errors_entity}
use Rattle.check_phases.specs.payloads.specs.State.{HaveOwnRows}
use Rattle.check_phases.specs.payloads.specs.declared.payload.Payload.{Payload}
use Rattle.check_phases.specs.payloads.specs.declared.payload.Payload.TheVariants as payload
use Rattle.check_phases.specs.declared.phases.Made.{Made}
use Rattle.check_phases.proofs.Lists.{one_value}
use Rattle.edited_root.specs.From.{rows_in, freed_from}
use Rattle.recheck_staging.specs.declared.staging.Anew.{Anew}
use Rattle.recheck_staging.specs.Staging.{Change, flagged_one, flagged, vacated_row, vacated, parts_of, changes_of}
use Rattle.recheck_staging.proofs.Changes.{named}
use Rattle.recheck_staging.proofs.State.{freed_unnamed}

differs : (a b : ℕ) → a ≢ b → eqb a b ≡ false
differs a b ne = grind (arith, nat_tests)

none_append : (cs ds : List Change) (e : ℕ) → named cs e ≡ false → named ds e ≡ false → named (cs ++ ds) e ≡ false
none_append [] ds e a b = b
none_append (c ∷ cs) ds e a b = go (eqb c.0 e) a (λ h. none_append cs ds e h b)
  where
    go : (f : Bool) → (f || named cs e) ≡ false → (named cs e ≡ false → named (cs ++ ds) e ≡ false) → (f || named (cs ++ ds) e) ≡ false
    go true h later = absurd (let z : true ≡ false = h in cc)
    go false h later = later h

-- a row is that of one module
own_place : (ms : List RootRow) (i x : ℕ) (k m : RootRow) → HaveOwnRows ms → slice_get ms i ≡ Some k → slice_get ms x ≡ Some m → k.row ≡ m.row → i ≡ x
own_place [] i x k m own a b same = absurd (let z : None ≡ Some k = a in cc)
own_place (n ∷ ms) zero zero k m own a b same = refl
own_place (n ∷ ms) zero (suc x) k m own a b same = absurd (apart ms x own.0 b (ap (λ (r : RootRow). r.row) (one_value n k a) ∙ same))
  where
    apart : (ms : List RootRow) (x : ℕ) → AllByRecursion (λ r. n.row ≢ r.row) ms → slice_get ms x ≡ Some m → n.row ≡ m.row → ⊥
    apart [] x all at is = let z : None ≡ Some m = at in cc
    apart (r ∷ ms) zero all at is = all.0 (is ∙ ap (λ (s : RootRow). s.row) (sym (one_value r m at)))
    apart (r ∷ ms) (suc x) all at is = apart ms x all.1 at is
own_place (n ∷ ms) (suc i) zero k m own a b same = absurd (apart ms i own.0 a (ap (λ (r : RootRow). r.row) (one_value n m b) ∙ sym same))
  where
    apart : (ms : List RootRow) (i : ℕ) → AllByRecursion (λ r. n.row ≢ r.row) ms → slice_get ms i ≡ Some k → n.row ≡ k.row → ⊥
    apart [] i all at is = let z : None ≡ Some k = at in cc
    apart (r ∷ ms) zero all at is = all.0 (is ∙ ap (λ (s : RootRow). s.row) (sym (one_value r k at)))
    apart (r ∷ ms) (suc i) all at is = apart ms i all.1 at is
own_place (n ∷ ms) (suc i) (suc x) k m own a b same = ap suc (own_place ms i x k m own.1 a b same)

-- results of one kind don't name an entity that is of no flagged module's
none_flagged : {X : Type 0} (place : ℕ → ℕ) (put : X → Payload) (ms : List RootRow) (xs : List X) (flags : List Bool) (e : ℕ) → ((i : ℕ) (k : RootRow) → slice_get ms i ≡ Some k → slice_get flags i ≡ Some true → place k.row ≢ e)
    → named (flagged place put ms xs flags) e ≡ false
none_flagged place put [] xs flags e never = refl
none_flagged place put (m ∷ ms) [] flags e never = refl
none_flagged place put (m ∷ ms) (x ∷ xs) [] e never = refl
none_flagged place put (m ∷ ms) (x ∷ xs) (flag ∷ flags) e never =
    none_append (flagged_one place put m.row x flag) (flagged place put ms xs flags) e (one flag refl) (none_flagged place put ms xs flags e (λ i k a b. never (suc i) k a b))
  where
    one : (b : Bool) → flag ≡ b → named (flagged_one place put m.row x b) e ≡ false
    one true is = ap (λ (b : Bool). b || false) (differs (place m.row) e (never 0 m refl (ap Some is)))
    one false is = refl

-- nor do vacated rows that are others
none_vacated : (rows : List ℕ) (row e : ℕ) → 4 * row < e → e ≤ 4 * row + 4 → AllByRecursion (λ r. r ≢ row) rows → named (vacated rows) e ≡ false
none_vacated [] row e low high all = refl
none_vacated (r ∷ rows) row e low high all =
    let ne = all.0 in
    none_append (vacated_row r) (vacated rows) e (four r ne) (none_vacated rows row e low high all.1)
  where
    four : (r : ℕ) → r ≢ row → named (vacated_row r) e ≡ false
    four r ne =
        let a = differs (parse_entity r) e (λ is. ne (omega (arith, is, low, high))) in
        let b = differs (deps_entity r) e (λ is. ne (omega (arith, is, low, high))) in
        let c = differs (signature_entity r) e (λ is. ne (omega (arith, is, low, high))) in
        let d = differs (errors_entity r) e (λ is. ne (omega (arith, is, low, high))) in
        λ j. a j || (b j || (c j || (d j || false)))

module _ (made : Made) (anew : Anew) (freed : List ℕ) (old : Root) (own : HaveOwnRows made.sources.root.modules) (frees : freed ≡ freed_from old made.sources.root) (x : ℕ) (m : RootRow) (at : slice_get made.sources.root.modules x ≡ Some m) where
  -- the freed rows are others
  others : AllByRecursion (λ r. r ≢ m.row) freed
  others = subst (AllByRecursion (λ (r : ℕ). r ≢ m.row)) (sym frees) (all (freed_from old made.sources.root) (freed_unnamed made.sources.root (rows_in old)))
    where
      used : (ms : List RootRow) (i : ℕ) → slice_get ms i ≡ Some m → names (map (λ (n : RootRow). n.row) ms) m.row ≡ true
      used [] i there = absurd (let z : None ≡ Some m = there in cc)
      used (n ∷ ms) zero there = ap (λ (b : Bool). b || names (map (λ (n : RootRow). n.row) ms) m.row) (same n.row m.row (ap (λ (r : RootRow). r.row) (one_value n m there)))
        where
          same : (a b : ℕ) → a ≡ b → eqb a b ≡ true
          same a b e = grind (arith, nat_tests)
      used (n ∷ ms) (suc i) there = go (eqb n.row m.row) (used ms i there)
        where
          go : (b : Bool) → names (map (λ (n : RootRow). n.row) ms) m.row ≡ true → (b || names (map (λ (n : RootRow). n.row) ms) m.row) ≡ true
          go true h = refl
          go false h = h

      all : (rows : List ℕ) → AllByRecursion (λ row. names (rows_in made.sources.root) row ≡ false) rows → AllByRecursion (λ r. r ≢ m.row) rows
      all [] none = tt
      all (r ∷ rows) none = ((λ is. (let z : true ≡ false = sym (used made.sources.root.modules x at) ∙ (ap (names (rows_in made.sources.root)) (sym is) ∙ none.0) in cc)), all rows none.1)

  -- another module's flag
  mine : (place : ℕ → ℕ) (flags : List Bool) → ((a b : ℕ) → place a ≡ place b → a ≡ b) → slice_get flags x ≡ Some false → (i : ℕ) (k : RootRow) → slice_get made.sources.root.modules i ≡ Some k → slice_get flags i ≡ Some true → place k.row ≢ place m.row
  mine place flags one off i k there on is =
      let here : i ≡ x = own_place made.sources.root.modules i x k m own there at (one k.row m.row is) in
      let z : Some true ≡ Some false = sym on ∙ (ap (slice_get flags) here ∙ off) in cc

  four_none : (e : ℕ) → 4 * m.row < e → e ≤ 4 * m.row + 4 → ((i : ℕ) (k : RootRow) → slice_get made.sources.root.modules i ≡ Some k → slice_get anew.fresh.items i ≡ Some true → parse_entity k.row ≢ e)
      → ((i : ℕ) (k : RootRow) → slice_get made.sources.root.modules i ≡ Some k → slice_get anew.relisted.items i ≡ Some true → deps_entity k.row ≢ e)
      → ((i : ℕ) (k : RootRow) → slice_get made.sources.root.modules i ≡ Some k → slice_get anew.moved.items i ≡ Some true → signature_entity k.row ≢ e)
      → ((i : ℕ) (k : RootRow) → slice_get made.sources.root.modules i ≡ Some k → slice_get anew.checked.items i ≡ Some true → errors_entity k.row ≢ e) → named (changes_of made anew freed) e ≡ false
  four_none zero low high a b c d = absurd (omega (arith, low))
  four_none (suc e) low high a b c d =
      none_append ((0, payload.Root made.sources.root) ∷ []) (parts_of made anew ++ vacated freed) (suc e) (ap (λ (f : Bool). f || false) (differs 0 (suc e) (λ is. omega (arith, is))))
      (none_append (parts_of made anew) (vacated freed) (suc e)
      (none_append (flagged parse_entity payload.Parse made.sources.root.modules made.sources.parses.items anew.fresh.items) _ (suc e) (none_flagged parse_entity payload.Parse made.sources.root.modules made.sources.parses.items anew.fresh.items (suc e) a)
      (none_append (flagged deps_entity payload.Deps made.sources.root.modules made.sources.lists.items anew.relisted.items) _ (suc e) (none_flagged deps_entity payload.Deps made.sources.root.modules made.sources.lists.items anew.relisted.items (suc e) b)
      (none_append (flagged signature_entity payload.Sig made.sources.root.modules made.signatures.items anew.moved.items) _ (suc e) (none_flagged signature_entity payload.Sig made.sources.root.modules made.signatures.items anew.moved.items (suc e) c)
      (none_flagged errors_entity payload.Errs made.sources.root.modules made.errors.items anew.checked.items (suc e) d))))
      (none_vacated freed m.row (suc e) low high others))

  -- a result that was not made anew is not staged
  pub parse_unnamed : slice_get anew.fresh.items x ≡ Some false → names (numbers_of (changes_of made anew freed)) (parse_entity m.row) ≡ false
  parse_unnamed off = four_none (parse_entity m.row) (omega arith) (omega arith) (mine parse_entity anew.fresh.items (λ a b is. omega (arith, is)) off) (λ i k there on is. omega (arith, is)) (λ i k there on is. omega (arith, is)) (λ i k there on is. omega (arith, is))

  pub deps_unnamed : slice_get anew.relisted.items x ≡ Some false → names (numbers_of (changes_of made anew freed)) (deps_entity m.row) ≡ false
  deps_unnamed off = four_none (deps_entity m.row) (omega arith) (omega arith) (λ i k there on is. omega (arith, is)) (mine deps_entity anew.relisted.items (λ a b is. omega (arith, is)) off) (λ i k there on is. omega (arith, is)) (λ i k there on is. omega (arith, is))

  pub signature_unnamed : slice_get anew.moved.items x ≡ Some false → names (numbers_of (changes_of made anew freed)) (signature_entity m.row) ≡ false
  signature_unnamed off = four_none (signature_entity m.row) (omega arith) (omega arith) (λ i k there on is. omega (arith, is)) (λ i k there on is. omega (arith, is)) (mine signature_entity anew.moved.items (λ a b is. omega (arith, is)) off) (λ i k there on is. omega (arith, is))

  pub errors_unnamed : slice_get anew.checked.items x ≡ Some false → names (numbers_of (changes_of made anew freed)) (errors_entity m.row) ≡ false
  errors_unnamed off = four_none (errors_entity m.row) (omega arith) (omega arith) (λ i k there on is. omega (arith, is)) (λ i k there on is. omega (arith, is)) (λ i k there on is. omega (arith, is)) (mine errors_entity anew.checked.items (λ a b is. omega (arith, is)) off)
