-- The first row of each name.
use Rattle.std.proofs.Common.{◌≡◌, ℕ, ◌+◌, ◌<◌, Bool, true, false, not, ◌||◌, List, [], ◌∷◌, ◌++◌, map, filter, length, take, get_or, take-suc, add-one, Option, Some, cond, bytes_eq, refl, sym, ap, ◌∙◌, subst, append-nil}
use Rattle.std.specs.Ordering.{nat_cmp, is_eq}
use Rattle.std.specs.Cmp.Lexicographic.{slice_cmp, nat_list_cmp_total, bytes_decides}
use Rattle.std.specs.BTreeMap.{BTreeMap, get, is_at}
use Rattle.std.specs.Map.{lookup}
use Rattle.std.specs.Option.{option_map}
use Rattle.std.specs.declared.cmp.Ordering.{Ordering}
use Rattle.std.specs.declared.cmp.Ordering.TheVariants.{Less, Equal, Greater}
use Rattle.std.proofs.lemmas.Map.Text.{is_eq-slice_cmp}
use Rattle.std.proofs.lemmas.Map.Lookups.{exact_bytes}
use Rattle.check_values.specs.Rows.{Bytes, Rows, row_at, is_among, first_of_each, put, by_name}
use Rattle.named_rows.specs.Seen.{seen}
use Rattle.named_rows.proofs.Lists.{filter_last, among_last, bytes_turned}

abbrev pub names_in : {X : Type 0} → Rows X → List Bytes
names_in rows = map (λ row. row.0) rows

greater_apart : (a b : Bytes) → slice_cmp nat_cmp a b ≡ Greater → a ≡ b → ⊥
greater_apart a b is same = let e : slice_cmp nat_cmp a a ≡ Greater = ap (slice_cmp nat_cmp a) same ∙ is in cc (e, nat_list_cmp_total.antisymm a a)

-- one name more in the set
abbrev pub Adds : (Bytes → Bool) → (Bytes → Bool) → Bytes → Type 0
Adds has has' name = (q : Bytes) → has' q ≡ cond (is_eq (slice_cmp nat_cmp name q)) true (has q)

module _ {X : Type 0} where
  -- one row more
  first_more : (xs : Rows X) (y : Bytes × X) → first_of_each (xs ++ y ∷ []) ≡ cond (is_among (names_in xs) y.0) (first_of_each xs) (first_of_each xs ++ y ∷ [])
  first_more [] y = refl
  first_more (x ∷ xs) y = go (is_among (names_in xs) y.0) (bytes_eq y.0 x.0) refl (first_more xs y)
    where
      go : (a b : Bool) → bytes_eq y.0 x.0 ≡ b → first_of_each (xs ++ y ∷ []) ≡ cond a (first_of_each xs) (first_of_each xs ++ y ∷ []) →
          x ∷ filter (λ later. not (bytes_eq later.0 x.0)) (first_of_each (xs ++ y ∷ [])) ≡ cond (b || a) (x ∷ filter (λ later. not (bytes_eq later.0 x.0)) (first_of_each xs)) (x ∷ (filter (λ later. not (bytes_eq later.0 x.0)) (first_of_each xs) ++ y ∷ []))
      go true true e rest = ap (λ (l : Rows X). x ∷ filter (λ later. not (bytes_eq later.0 x.0)) l) rest
      go true false e rest = ap (λ (l : Rows X). x ∷ filter (λ later. not (bytes_eq later.0 x.0)) l) rest
      go false true e rest =
          ap (λ (l : Rows X). x ∷ filter (λ later. not (bytes_eq later.0 x.0)) l) rest
          ∙ ap (λ (l : Rows X). x ∷ l) (filter_last (λ later. not (bytes_eq later.0 x.0)) (first_of_each xs) y ∙ ap (λ (c : Bool). filter (λ later. not (bytes_eq later.0 x.0)) (first_of_each xs) ++ cond (not c) (y ∷ []) []) e ∙ append-nil _)
      go false false e rest =
          ap (λ (l : Rows X). x ∷ filter (λ later. not (bytes_eq later.0 x.0)) l) rest
          ∙ ap (λ (l : Rows X). x ∷ l) (filter_last (λ later. not (bytes_eq later.0 x.0)) (first_of_each xs) y ∙ ap (λ (c : Bool). filter (λ later. not (bytes_eq later.0 x.0)) (first_of_each xs) ++ cond (not c) (y ∷ []) []) e)

  -- the first of those so far, and the set of their names
  abbrev pub AreFirst : (Bytes → Bool) → Rows X → Rows X → Type 0
  AreFirst has firsts rows = (firsts ≡ first_of_each rows) × ((q : Bytes) → has q ≡ is_among (names_in rows) q)

  names-last : (xs : Rows X) (y : Bytes × X) → names_in (xs ++ y ∷ []) ≡ names_in xs ++ y.0 ∷ []
  names-last [] y = refl
  names-last (x ∷ xs) y = ap (λ (l : List Bytes). x.0 ∷ l) (names-last xs y)

  has_more : (has has' : Bytes → Bool) (rows : Rows X) (y : Bytes × X) → ((q : Bytes) → has q ≡ is_among (names_in rows) q) → Adds has has' y.0 → (q : Bytes) → has' q ≡ is_among (names_in (rows ++ y ∷ [])) q
  has_more has has' rows y told adds q =
      adds q ∙ ap (λ (b : Bool). cond b true (has q)) (is_eq-slice_cmp y.0 q ∙ bytes_turned y.0 q) ∙ ap (λ (b : Bool). cond (bytes_eq q y.0) true b) (told q)
      ∙ sym (among_last (names_in rows) y.0 q) ∙ ap (λ (l : List Bytes). is_among l q) (sym (names-last rows y))

  taken : (rows : Rows X) (i : ℕ) (row : Bytes × X) → i < length rows → row ≡ get_or rows i row → take (i + 1) rows ≡ take i rows ++ row ∷ []
  taken rows i row within at = ap (λ (k : ℕ). take k rows) (add-one i) ∙ take-suc rows i row within ∙ ap (λ (r : Bytes × X). take i rows ++ r ∷ []) (sym at)

  module _ (has has' : Bytes → Bool) (firsts rows : Rows X) (i : ℕ) (row : Bytes × X) (within : i < length rows) (at : row ≡ get_or rows i row) (key : Bytes) (same : key ≡ row.0) (adds : Adds has has' key) where
    told_next : ((q : Bytes) → has q ≡ is_among (names_in (take i rows)) q) → (q : Bytes) → has' q ≡ is_among (names_in (take (i + 1) rows)) q
    told_next told q = has_more has has' (take i rows) row told (subst (Adds has has') same adds) q ∙ ap (λ (l : Rows X). is_among (names_in l) q) (sym (taken rows i row within at))

    first_next : (b : Bool) → ((q : Bytes) → has q ≡ is_among (names_in (take i rows)) q) → has key ≡ b → cond b (first_of_each (take i rows)) (first_of_each (take i rows) ++ row ∷ []) ≡ first_of_each (take (i + 1) rows)
    first_next b told is =
        ap (λ (b : Bool). cond b (first_of_each (take i rows)) (first_of_each (take i rows) ++ row ∷ [])) (sym is ∙ told key ∙ ap (is_among (names_in (take i rows))) same)
        ∙ sym (first_more (take i rows) row) ∙ ap first_of_each (sym (taken rows i row within at))

    -- a turn at a name that was not met before, and at one that was
    pub turn_new : (firsts' : Rows X) → firsts' ≡ firsts ++ row ∷ [] → true ≡ not (has key) → AreFirst has firsts (take i rows) → AreFirst has' firsts' (take (i + 1) rows)
    turn_new firsts' pushed fresh (is, told) = (pushed ∙ ap (λ (l : Rows X). l ++ row ∷ []) is ∙ first_next false told (off (has key) fresh), told_next told)
      where
        off : (b : Bool) → true ≡ not b → b ≡ false
        off true e = absurd (cc)
        off false e = refl

    pub turn_old : false ≡ not (has key) → AreFirst has firsts (take i rows) → AreFirst has' firsts (take (i + 1) rows)
    turn_old met (is, told) = (is ∙ first_next true told (on (has key) met), told_next told)
      where
        on : (b : Bool) → false ≡ not b → b ≡ true
        on true e = refl
        on false e = absurd (cc)

  -- ---- what stands at a name

  row_at-put : (row : Bytes × X) (rows : Rows X) (word : Bytes) → row_at (put (λ a b. slice_cmp nat_cmp a.0 b.0) row rows) word ≡ cond (bytes_eq row.0 word) (Some row.1) (row_at rows word)
  row_at-put row [] word = refl
  row_at-put row (r ∷ rows) word = go (slice_cmp nat_cmp row.0 r.0) refl (row_at-put row rows word)
    where
      same : slice_cmp nat_cmp row.0 r.0 ≡ Equal → (b : Bool) → bytes_eq row.0 word ≡ b → cond b (Some row.1) (row_at rows word) ≡ cond b (Some row.1) (cond (bytes_eq r.0 word) (Some r.1) (row_at rows word))
      same is true e = refl
      same is false e = ap (λ (c : Bool). cond c (Some r.1) (row_at rows word)) (sym e ∙ ap (λ (k : Bytes). bytes_eq k word) (exact_bytes row.0 r.0 is))

      later : slice_cmp nat_cmp row.0 r.0 ≡ Greater → (a b : Bool) → bytes_eq r.0 word ≡ a → bytes_eq row.0 word ≡ b → cond a (Some r.1) (cond b (Some row.1) (row_at rows word)) ≡ cond b (Some row.1) (cond a (Some r.1) (row_at rows word))
      later is true false e f = refl
      later is false true e f = refl
      later is false false e f = refl
      later is true true e f = absurd (let k : row.0 ≡ r.0 = (bytes_decides row.0 word).0 f ∙ sym ((bytes_decides r.0 word).0 e) in greater_apart row.0 r.0 is k)

      go : (o : Ordering) → slice_cmp nat_cmp row.0 r.0 ≡ o → row_at (put (λ a b. slice_cmp nat_cmp a.0 b.0) row rows) word ≡ cond (bytes_eq row.0 word) (Some row.1) (row_at rows word) →
          row_at (elim o as (λ _. Rows X) [ Less ↦ row ∷ r ∷ rows | Equal ↦ row ∷ rows | Greater ↦ r ∷ put (λ a b. slice_cmp nat_cmp a.0 b.0) row rows ]) word
          ≡ cond (bytes_eq row.0 word) (Some row.1) (cond (bytes_eq r.0 word) (Some r.1) (row_at rows word))
      go Less is rest = refl
      go Equal is rest = same is (bytes_eq row.0 word) refl
      go Greater is rest = ap (λ (o : Option X). cond (bytes_eq r.0 word) (Some r.1) o) rest ∙ later is (bytes_eq r.0 word) (bytes_eq row.0 word) refl refl

  pub row_at-by_name : (rows : Rows X) (word : Bytes) → row_at (by_name rows) word ≡ row_at rows word
  row_at-by_name [] word = refl
  row_at-by_name (row ∷ rows) word = row_at-put row (by_name rows) word ∙ ap (λ (o : Option X). cond (bytes_eq row.0 word) (Some row.1) o) (row_at-by_name rows word)

  row_at-others : (x : Bytes × X) (rows : Rows X) (word : Bytes) → bytes_eq x.0 word ≡ false → row_at (filter (λ later. not (bytes_eq later.0 x.0)) rows) word ≡ row_at rows word
  row_at-others x [] word apart = refl
  row_at-others x (r ∷ rows) word apart = go (bytes_eq r.0 x.0) refl (row_at-others x rows word apart)
    where
      go : (b : Bool) → bytes_eq r.0 x.0 ≡ b → row_at (filter (λ later. not (bytes_eq later.0 x.0)) rows) word ≡ row_at rows word →
          row_at (cond (not b) (r ∷ filter (λ later. not (bytes_eq later.0 x.0)) rows) (filter (λ later. not (bytes_eq later.0 x.0)) rows)) word ≡ cond (bytes_eq r.0 word) (Some r.1) (row_at rows word)
      go true e rest = rest ∙ ap (λ (c : Bool). cond c (Some r.1) (row_at rows word)) (sym (ap (λ (k : Bytes). bytes_eq k word) ((bytes_decides r.0 x.0).0 e) ∙ apart))
      go false e rest = ap (λ (o : Option X). cond (bytes_eq r.0 word) (Some r.1) o) rest

  pub row_at-first : (rows : Rows X) (word : Bytes) → row_at (first_of_each rows) word ≡ row_at rows word
  row_at-first [] word = refl
  row_at-first (row ∷ rows) word = go (bytes_eq row.0 word) refl (row_at-first rows word)
    where
      go : (b : Bool) → bytes_eq row.0 word ≡ b → row_at (first_of_each rows) word ≡ row_at rows word → cond b (Some row.1) (row_at (filter (λ later. not (bytes_eq later.0 row.0)) (first_of_each rows)) word) ≡ cond b (Some row.1) (row_at rows word)
      go true e rest = refl
      go false e rest = row_at-others row (first_of_each rows) word e ∙ rest

  -- a look-up in a map's entries
  pub lookup_is_row : (rows : Rows X) (word : Bytes) → lookup (is_at (slice_cmp nat_cmp word)) rows ≡ row_at rows word
  lookup_is_row [] word = refl
  lookup_is_row (r ∷ rows) word = ap (λ (b : Bool). cond b (Some r.1) (lookup (is_at (slice_cmp nat_cmp word)) rows)) (is_eq-slice_cmp word r.0 ∙ bytes_turned word r.0) ∙ ap (λ (o : Option X). cond (bytes_eq r.0 word) (Some r.1) o) (lookup_is_row rows word)

module _ {A B : Type 0} (f : A → B) where
  seen-filter : (p : Bytes → Bool) (rows : Rows A) → seen f (filter (λ row. p row.0) rows) ≡ filter (λ row. p row.0) (seen f rows)
  seen-filter p [] = refl
  seen-filter p (r ∷ rows) = go (p r.0) (seen-filter p rows)
    where
      go : (b : Bool) → seen f (filter (λ row. p row.0) rows) ≡ filter (λ row. p row.0) (seen f rows) → seen f (cond b (r ∷ filter (λ row. p row.0) rows) (filter (λ row. p row.0) rows)) ≡ cond b ((r.0, f r.1) ∷ filter (λ row. p row.0) (seen f rows)) (filter (λ row. p row.0) (seen f rows))
      go true rest = ap (λ (l : Rows B). (r.0, f r.1) ∷ l) rest
      go false rest = rest

  pub seen_first : (rows : Rows A) → seen f (first_of_each rows) ≡ first_of_each (seen f rows)
  seen_first [] = refl
  seen_first (row ∷ rows) = ap (λ (l : Rows B). (row.0, f row.1) ∷ l) (seen-filter (λ name. not (bytes_eq name row.0)) (first_of_each rows) ∙ ap (filter (λ later. not (bytes_eq later.0 row.0))) (seen_first rows))

  pub row_seen : (rows : Rows A) (word : Bytes) → option_map f (row_at rows word) ≡ row_at (seen f rows) word
  row_seen [] word = refl
  row_seen (r ∷ rows) word = go (bytes_eq r.0 word) (row_seen rows word)
    where
      go : (b : Bool) → option_map f (row_at rows word) ≡ row_at (seen f rows) word → option_map f (cond b (Some r.1) (row_at rows word)) ≡ cond b (Some (f r.1)) (row_at (seen f rows) word)
      go true rest = refl
      go false rest = rest

-- a map of rows in order tells what stands first at a name
pub row_named : {X : Type 0} (names : BTreeMap Bytes X) (rows bindings : Rows X) → names.entries ≡ by_name bindings → rows ≡ first_of_each bindings → (word : Bytes) → get (slice_cmp nat_cmp) names word ≡ row_at rows word
row_named {X} names rows bindings ordered firsts word =
    lookup_is_row names.entries word ∙ ap (λ (l : Rows X). row_at l word) ordered ∙ row_at-by_name bindings word ∙ sym (row_at-first bindings word) ∙ ap (λ (l : Rows X). row_at l word) (sym firsts)

-- what a map of rows by name tells of a name
pub named : {A B : Type 0} (f : A → B) (names : BTreeMap Bytes A) (rows : Rows A) → names.entries ≡ by_name rows → (word : Bytes) → option_map f (get (slice_cmp nat_cmp) names word) ≡ row_at (seen f rows) word
named {A} f names rows is word =
    ap (option_map f) (lookup_is_row names.entries word ∙ ap (λ (l : Rows A). row_at l word) is ∙ row_at-by_name rows word) ∙ row_seen f rows word
