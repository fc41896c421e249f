-- The specifiers of items in order, each at its first place.
use Rattle.std.proofs.Common.{◌≡◌, ℕ, ◌+◌, ◌<◌, ◌≤◌, Bool, true, false, not, ◌||◌, List, [], ◌∷◌, ◌++◌, map, filter, length, take, get_or, take-suc, add-one, cond, bytes_eq, Bor, refl, sym, ap, ◌∙◌, subst, append_assoc, append-nil}
use Rattle.std.specs.List.{flat_map}
use Rattle.std.proofs.lemmas.List.{take_all, map-append}
use Rattle.std.specs.Ordering.{nat_cmp, is_eq}
use Rattle.std.specs.Cmp.Lexicographic.{slice_cmp, bytes_decides}
use Rattle.std.proofs.lemmas.Map.Text.{is_eq-slice_cmp}
use Rattle.js_grammar.specs.Items.{Items, no_item, more_item}
use Rattle.js_tree.specs.View.{item_view, items_view, items_from}
use Rattle.js_tree.specs.declared.items.Item.{Item}
use Rattle.module_resolution.specs.Dependencies.{specifiers_of, specifiers_in}
use Rattle.check_values.specs.Rows.{Bytes, is_among, distinct}
use Rattle.check_values.specs.declared.signatures.DepRow.{DepRow}
use Rattle.module_resolution.specs.Resolution.{resolved}
use Rattle.module_deps.specs.Listing.{rows_for}
use Rattle.named_rows.proofs.Lists.{filter_last, among_last, bytes_turned}

specifiers_from : (acc : Items) (is : List Item) → specifiers_in (items_from acc (map item_view is)) ≡ specifiers_in acc ++ flat_map (λ i. specifiers_of (item_view i)) is
specifiers_from acc [] = sym (append-nil _)
specifiers_from acc (i ∷ is) = specifiers_from (more_item acc (item_view i)) is ∙ append_assoc (specifiers_in acc) (specifiers_of (item_view i)) (flat_map (λ i. specifiers_of (item_view i)) is)

pub specifiers_in_order : (is : List Item) → specifiers_in (items_view is) ≡ flat_map (λ i. specifiers_of (item_view i)) is
unfolding items_view
specifiers_in_order is = specifiers_from no_item is

pub specifiers_taken : (n : ℕ) (is : List Item) (l : List Bytes) → length is ≤ n → l ≡ flat_map (λ i. specifiers_of (item_view i)) (take n is) → l ≡ specifiers_in (items_view is)
specifiers_taken n is l long at = at ∙ ap (flat_map (λ (i : Item). specifiers_of (item_view i))) (take_all n is long) ∙ sym (specifiers_in_order is)

-- ---- each at its first place

pub distinct_more : (xs : List Bytes) (y : Bytes) → distinct (xs ++ y ∷ []) ≡ cond (is_among xs y) (distinct xs) (distinct xs ++ y ∷ [])
distinct_more [] y = refl
distinct_more (x ∷ xs) y = go (is_among xs y) (bytes_eq y x) refl (distinct_more xs y)
  where
    go : (a b : Bool) → bytes_eq y x ≡ b → distinct (xs ++ y ∷ []) ≡ cond a (distinct xs) (distinct xs ++ y ∷ []) →
        x ∷ filter (λ later. not (bytes_eq later x)) (distinct (xs ++ y ∷ [])) ≡ cond (b || a) (x ∷ filter (λ later. not (bytes_eq later x)) (distinct xs)) (x ∷ (filter (λ later. not (bytes_eq later x)) (distinct xs) ++ y ∷ []))
    go true true e rest = ap (λ (l : List Bytes). x ∷ filter (λ later. not (bytes_eq later x)) l) rest
    go true false e rest = ap (λ (l : List Bytes). x ∷ filter (λ later. not (bytes_eq later x)) l) rest
    go false true e rest =
        ap (λ (l : List Bytes). x ∷ filter (λ later. not (bytes_eq later x)) l) rest
        ∙ ap (λ (l : List Bytes). x ∷ l) (filter_last (λ later. not (bytes_eq later x)) (distinct xs) y ∙ ap (λ (c : Bool). filter (λ later. not (bytes_eq later x)) (distinct xs) ++ cond (not c) (y ∷ []) []) e ∙ append-nil _)
    go false false e rest =
        ap (λ (l : List Bytes). x ∷ filter (λ later. not (bytes_eq later x)) l) rest
        ∙ ap (λ (l : List Bytes). x ∷ l) (filter_last (λ later. not (bytes_eq later x)) (distinct xs) y ∙ ap (λ (c : Bool). filter (λ later. not (bytes_eq later x)) (distinct xs) ++ cond (not c) (y ∷ []) []) e)

-- ---- a set of those so far

-- the test also passes this one
abbrev pub Adds : (Bor Bytes → Bool) → (Bor Bytes → Bool) → Bytes → Type 0
Adds has has' word = (q : Bor Bytes) → has' q ≡ cond (is_eq (slice_cmp nat_cmp word q.now)) true (has q)

-- the test tells the words
abbrev pub Tells : (Bor Bytes → Bool) → List Bytes → Type 0
Tells has words = (q : Bor Bytes) → has q ≡ is_among words q.now

more_told : (has has' : Bor Bytes → Bool) (words : List Bytes) (word : Bytes) → Tells has words → Adds has has' word → Tells has' (words ++ word ∷ [])
more_told has has' words word tells adds q =
    adds q ∙ ap (λ (b : Bool). cond b true (has q)) (is_eq-slice_cmp word q.now ∙ bytes_turned word q.now) ∙ ap (λ (c : Bool). cond (bytes_eq q.now word) true c) (tells q) ∙ sym (among_last words word q.now)

-- the words so far
abbrev pub so_far : List (Bor Bytes) → ℕ → List Bytes
so_far specs i = map (λ s. s.now) (take i specs)

so_far-suc : (specs : List (Bor Bytes)) (i : ℕ) (s : Bor Bytes) → i < length specs → so_far specs (i + 1) ≡ so_far specs i ++ (get_or specs i s).now ∷ []
so_far-suc specs i s within = ap (λ (k : ℕ). so_far specs k) (add-one i) ∙ ap (map (λ (s : Bor Bytes). s.now)) (take-suc specs i s within) ∙ map-append (λ (s : Bor Bytes). s.now) (take i specs) (get_or specs i s ∷ [])

module _ (paths : List Bytes) (from : Bytes) where
  abbrev pub row_of : Bytes → DepRow
  row_of spec = record { spec = spec; found = resolved paths from spec }

  -- the rows so far are those of the words so far, and the set has these
  abbrev pub AreRows : (Bor Bytes → Bool) → List DepRow → List Bytes → Type 0
  AreRows has rows words = (rows ≡ rows_for paths from (distinct words)) × Tells has words

  module _ (has has' : Bor Bytes → Bool) (specs : List (Bor Bytes)) (i : ℕ) (within : i < length specs) (rows : List DepRow) (key : Bor Bytes) (s : Bor Bytes) (at : s ≡ get_or specs i s) (same : key.now ≡ s.now) (adds : Adds has has' key.now) where
    told_more : Tells has (so_far specs i) → Tells has' (so_far specs i ++ s.now ∷ [])
    told_more tells = more_told has has' (so_far specs i) s.now tells (subst (Adds has has') same adds)

    among_is : Tells has (so_far specs i) → has key ≡ is_among (so_far specs i) s.now
    among_is tells = tells key ∙ ap (is_among (so_far specs i)) same

    next : (so_far specs i ++ s.now ∷ []) ≡ so_far specs (i + 1)
    next = ap (λ (t : Bor Bytes). so_far specs i ++ t.now ∷ []) at ∙ sym (so_far-suc specs i s within)

    -- a turn at a word that was not met before, and at one that was
    pub turn_new : true ≡ not (has key) → AreRows has rows (so_far specs i) → AreRows has' (rows ++ row_of s.now ∷ []) (so_far specs (i + 1))
    turn_new fresh (is, tells) = subst (AreRows has' (rows ++ row_of s.now ∷ [])) next (all, told_more tells)
      where
        off : (b : Bool) → true ≡ not b → b ≡ false
        off true e = absurd (cc)
        off false e = refl

        all : rows ++ row_of s.now ∷ [] ≡ rows_for paths from (distinct (so_far specs i ++ s.now ∷ []))
        all = ap (λ (l : List DepRow). l ++ row_of s.now ∷ []) is ∙ sym (map-append row_of (distinct (so_far specs i)) (s.now ∷ []))
            ∙ ap (λ (b : Bool). rows_for paths from (cond b (distinct (so_far specs i)) (distinct (so_far specs i) ++ s.now ∷ []))) (sym (sym (among_is tells) ∙ off (has key) fresh))
            ∙ ap (rows_for paths from) (sym (distinct_more (so_far specs i) s.now))

    pub turn_old : false ≡ not (has key) → AreRows has rows (so_far specs i) → AreRows has' rows (so_far specs (i + 1))
    turn_old met (is, tells) = subst (AreRows has' rows) next (all, told_more tells)
      where
        on : (b : Bool) → false ≡ not b → b ≡ true
        on true e = refl
        on false e = absurd (cc)

        all : rows ≡ rows_for paths from (distinct (so_far specs i ++ s.now ∷ []))
        all = is
            ∙ ap (λ (b : Bool). rows_for paths from (cond b (distinct (so_far specs i)) (distinct (so_far specs i) ++ s.now ∷ []))) (sym (sym (among_is tells) ∙ on (has key) met))
            ∙ ap (rows_for paths from) (sym (distinct_more (so_far specs i) s.now))
