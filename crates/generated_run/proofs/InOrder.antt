-- The made-up modules in rising order of their paths: there is one such folder, and a sort gives it.
use Rattle.std.proofs.Common.{◌≡◌, ℕ, suc, zero, ◌+◌, ◌<◌, ◌≤◌, ◌^◌, Bool, true, false, List, [], ◌∷◌, ◌++◌, map, length, get_or, slice_get, Some, bytes_eq, refl, sym, ap, ◌∙◌, subst, arith, inl, inr}
use Rattle.std.specs.List.{IsDistinct, range_with_len}
use Rattle.std.specs.List.Sorted.{IsPermutation, IsSortedBy}
use Rattle.std.specs.BTreeMap.{insert_entry}
use Rattle.std.specs.Fmt.{decimal}
use Rattle.std.specs.Ordering.{nat_cmp, is_lt, match_ordering, ordering_reverse}
use Rattle.std.specs.Cmp.Lexicographic.{slice_cmp, nat_list_cmp_total, bytes_decides}
use Rattle.std.specs.declared.cmp.Ordering.{Ordering}
use Rattle.std.specs.declared.cmp.Ordering.TheVariants.{Less, Equal, Greater}
use Rattle.std.proofs.lemmas.Bool.{cases_Bool, false≢true}
use Rattle.std.proofs.lemmas.Fmt.{decimal_injective}
use Rattle.std.proofs.lemmas.List.{append_cancel_left, append_cancel_right}
use Rattle.std.proofs.lemmas.List.FromFn.{get_or-map-range_with_len, length-map-range_with_len}
use Rattle.std.proofs.lemmas.List.Sorted.{IsPermutation-refl, IsPermutation-cons, IsPermutation-trans, IsPermutation-middle, IsPermutation-map, IsPermutation-sym, Contains-permutation, length_permutation}
use Rattle.std.proofs.lemmas.Map.Keys.{IsDistinct-from_apart, IsDistinct-IsPermutation}
use Rattle.std.proofs.lemmas.Map.Lookups.{exact_bytes}
use Rattle.std.proofs.lemmas.Simd.{map-map}
use Rattle.std.proofs.lemmas.Option.{none-some, same_Some}
use Rattle.flow_base.specs.Program.{Bytes, Program, paths_of, IsRising}
use Rattle.flow_base.proofs.Rising.{IsBelowAll, below_all, rising_rest, not_below_itself}
use Rattle.graph_search.proofs.Rising.{one_list}
use Rattle.pending_edits.specs.declared.edit.Edit.TheVariants.{Put}
use Rattle.script_run.specs.edited_root.proofs.Counted.{edited_rises}
use Rattle.generator.specs.Modules.{path_of, module_in, modules_of}
use Rattle.generated_run.specs.Run.{IsFolder}

-- ---- texts that differ

differ : (a b : Bytes) → (a ≡ b → ⊥) → bytes_eq a b ≡ false
differ a b other = elim (cases_Bool (bytes_eq a b)) [
  | inl same ↦ absurd (other ((bytes_decides a b).0 same))
  | inr apart ↦ apart
]

turned : (a b : Bytes) → bytes_eq a b ≡ bytes_eq b a
turned a b = elim (cases_Bool (bytes_eq a b)) [
  | inl same ↦ same ∙ sym ((bytes_decides b a).1 (sym ((bytes_decides a b).0 same)))
  | inr apart ↦ apart ∙ sym (differ b a (λ is. false≢true (sym apart ∙ (bytes_decides a b).1 (sym is))))
]

-- ---- the paths of the modules

same_number : (i j : ℕ) → i < 2 ^ 64 → j < 2 ^ 64 → path_of i ≡ path_of j → i ≡ j
same_number i j few also is =
    decimal_injective i j few also (append_cancel_right (decimal i) (decimal j) (46 ∷ 106 ∷ 115 ∷ []) (append_cancel_left (109 ∷ []) (decimal i ++ (46 ∷ 106 ∷ 115 ∷ [])) (decimal j ++ (46 ∷ 106 ∷ 115 ∷ [])) is))

paths_are : (n seed : ℕ) → paths_of (modules_of n seed) ≡ map path_of (range_with_len 0 n)
paths_are n seed = map-map (λ (row : Bytes × Bytes). row.0) (λ i. module_in seed i 0) (range_with_len 0 n)

path_at : (n i : ℕ) (d : Bytes) → i < n → get_or (map path_of (range_with_len 0 n)) i d ≡ path_of i
path_at n i d within = get_or-map-range_with_len path_of 0 n i i d within (omega arith)

pub distinct : (n seed : ℕ) → n ≤ 4096 → IsDistinct bytes_eq (paths_of (modules_of n seed))
distinct n seed few = subst (λ paths. IsDistinct bytes_eq paths) (sym (paths_are n seed)) (IsDistinct-from_apart bytes_eq (map path_of (range_with_len 0 n)) apart) where
  apart : (i j : ℕ) (d : Bytes) → i < j → j < length (map path_of (range_with_len 0 n)) → bytes_eq (get_or (map path_of (range_with_len 0 n)) i d) (get_or (map path_of (range_with_len 0 n)) j d) ≡ false
  apart i j d less within =
      let there : j < n = omega (arith, length-map-range_with_len path_of 0 n) in
      (λ k. bytes_eq (path_at n i d (omega arith) k) (path_at n j d there k))
      ∙ differ (path_of i) (path_of j) (λ is. let same = same_number i j (omega arith) (omega arith) is in omega arith)

-- paths that differ still do so in another order
carried : (rows all : Program) → IsPermutation rows all → IsDistinct bytes_eq (paths_of rows) → IsDistinct bytes_eq (paths_of all)
carried rows all moved apart = IsDistinct-IsPermutation bytes_eq turned (paths_of rows) (paths_of all) (IsPermutation-map (λ (row : Bytes × Bytes). row.0) rows all moved) apart

-- ---- some folder

inserted : (rows : Program) (path text : Bytes) → IsDistinct bytes_eq (path ∷ paths_of rows) → IsPermutation ((path, text) ∷ rows) (insert_entry (slice_cmp nat_cmp) rows path text)
unfolding IsDistinct
inserted [] path text apart = IsPermutation-refl ((path, text) ∷ [])
inserted (m ∷ rows) path text apart = go (slice_cmp nat_cmp path m.0) refl (inserted rows path text (apart.0.1, apart.1.1))
  where
    go : (o : Ordering) → slice_cmp nat_cmp path m.0 ≡ o → IsPermutation ((path, text) ∷ rows) (insert_entry (slice_cmp nat_cmp) rows path text)
        → IsPermutation ((path, text) ∷ m ∷ rows) (match_ordering o ((path, text) ∷ m ∷ rows) ((m.0, text) ∷ rows) (m ∷ insert_entry (slice_cmp nat_cmp) rows path text))
    go Less is rest = IsPermutation-refl ((path, text) ∷ m ∷ rows)
    go Equal is rest = absurd (false≢true (sym apart.0.0 ∙ (bytes_decides path m.0).1 (exact_bytes path m.0 is)))
    go Greater is rest =
        IsPermutation-trans ((path, text) ∷ m ∷ rows) (m ∷ (path, text) ∷ rows) (m ∷ insert_entry (slice_cmp nat_cmp) rows path text)
        (IsPermutation-middle ((path, text) ∷ []) m rows) (IsPermutation-cons m ((path, text) ∷ rows) (insert_entry (slice_cmp nat_cmp) rows path text) rest)

in_order : (rows : Program) → IsDistinct bytes_eq (paths_of rows) → (all : Program) × IsPermutation rows all × IsRising (paths_of all)
unfolding IsDistinct
in_order [] apart = ([], IsPermutation-refl [], tt)
in_order (m ∷ rows) apart =
    let rest = in_order rows apart.1 in
    let with_first = IsPermutation-cons m rows rest.0 rest.1 in (
      insert_entry (slice_cmp nat_cmp) rest.0 m.0 m.1,
      IsPermutation-trans (m ∷ rows) (m ∷ rest.0) (insert_entry (slice_cmp nat_cmp) rest.0 m.0 m.1) with_first
          (inserted rest.0 m.0 m.1 (carried (m ∷ rows) (m ∷ rest.0) with_first apart)),
      edited_rises [] rest.0 ((m.0, Put m.1) ∷ []) rest.2,
    )

pub some_folder : (n seed : ℕ) → n ≤ 4096 → (folder : Program) × IsFolder n seed folder
some_folder n seed few = let all = in_order (modules_of n seed) (distinct n seed few) in (all.0, record { whole = all.1; rising = all.2 })

-- ---- a sort gives it

abbrev pub precedes : Bytes × Bytes → Bytes × Bytes → Bool
precedes a b = is_lt (slice_cmp nat_cmp a.0 b.0)

less_than : (a b : Bytes) → bytes_eq a b ≡ false → is_lt (slice_cmp nat_cmp b a) ≡ false → slice_cmp nat_cmp a b ≡ Less
less_than a b apart not_back = go (slice_cmp nat_cmp a b) refl
  where
    go : (o : Ordering) → slice_cmp nat_cmp a b ≡ o → slice_cmp nat_cmp a b ≡ Less
    go Less is = is
    go Equal is = absurd (false≢true (sym apart ∙ (bytes_decides a b).1 (exact_bytes a b is)))
    go Greater is = absurd (false≢true (sym not_back ∙ ap is_lt (nat_list_cmp_total.antisymm b a ∙ ap ordering_reverse is)))

rises : (rows : Program) → IsSortedBy precedes rows → IsDistinct bytes_eq (paths_of rows) → IsRising (paths_of rows)
unfolding IsDistinct
rises [] sorted apart = tt
rises (m ∷ []) sorted apart = tt
rises (m ∷ k ∷ rows) sorted apart =
    (less_than m.0 k.0 apart.0.0 (sorted 0 m (omega arith) (omega arith)), rises (k ∷ rows) rest apart.1)
  where
    rest : IsSortedBy precedes (k ∷ rows)
    rest i d low high =
        let place : suc i + 1 ≡ suc (i + 1) = omega arith in
        subst (λ (z : ℕ). precedes (get_or (m ∷ k ∷ rows) z d) (get_or (k ∷ rows) i d) ≡ false) place (sorted (suc i) d (omega arith) (omega arith))

-- a sort puts paths that differ in rising order
pub sorted_rises : (modules rows : Program) → IsDistinct bytes_eq (paths_of modules) → IsPermutation modules rows → IsSortedBy precedes rows → IsRising (paths_of rows)
sorted_rises modules rows apart moved sorted = rises rows sorted (carried modules rows moved apart)

pub is_folder : (n seed : ℕ) (modules folder f : Program) → modules ≡ modules_of n seed → f ≡ folder → IsPermutation modules folder → IsRising (paths_of folder) → IsFolder n seed f
is_folder n seed modules folder f are same whole rising =
    subst (λ (g : Program). IsFolder n seed g) (sym same) (record { whole = subst (λ all. IsPermutation all folder) are whole; rising = rising })

pub made_distinct : (n seed : ℕ) (modules : Program) → n ≤ 4096 → modules ≡ modules_of n seed → IsDistinct bytes_eq (paths_of modules)
made_distinct n seed modules few are = subst (λ all. IsDistinct bytes_eq (paths_of all)) (sym are) (distinct n seed few)

-- ---- there is one

abbrev IsAbove : Bytes × Bytes → Bytes × Bytes → Type 0
IsAbove a b = slice_cmp nat_cmp a.0 b.0 ≡ Less

not_back : (a b : Bytes × Bytes) → IsAbove a b → IsAbove b a → ⊥
not_back a b there back = not_below_itself a.0 (nat_list_cmp_total.trans a.0 b.0 a.0 there back)

below_at : (path : Bytes) (rows : Program) (i : ℕ) (m : Bytes × Bytes) → IsBelowAll path (paths_of rows) → slice_get rows i ≡ Some m → slice_cmp nat_cmp path m.0 ≡ Less
below_at path [] i m below at = absurd (none-some m at)
below_at path (k ∷ rows) zero m below at = subst (λ (r : Bytes × Bytes). slice_cmp nat_cmp path r.0 ≡ Less) (same_Some k m at) below.0
below_at path (k ∷ rows) (suc i) m below at = below_at path rows i m below.1 at

ordered : (rows : Program) → IsRising (paths_of rows) → (i j : ℕ) (a b : Bytes × Bytes) → i < j → slice_get rows i ≡ Some a → slice_get rows j ≡ Some b → IsAbove a b
ordered [] rising i j a b less at there = absurd (none-some a at)
ordered (m ∷ rows) rising i zero a b less at there = absurd (omega arith)
ordered (m ∷ rows) rising zero (suc j) a b less at there =
    subst (λ (r : Bytes × Bytes). slice_cmp nat_cmp r.0 b.0 ≡ Less) (same_Some m a at) (below_at m.0 rows j b (below_all m.0 (paths_of rows) rising) there)
ordered (m ∷ rows) rising (suc i) (suc j) a b less at there = ordered rows (rising_rest m.0 (paths_of rows) rising) i j a b (omega arith) at there

place_of : {X : Type 0} (xs : List X) (k : ℕ) (x : X) → k < length xs → get_or xs k x ≡ x → slice_get xs k ≡ Some x
place_of [] k x within is = absurd (omega arith)
place_of (y ∷ xs) zero x within is = ap Some is
place_of (y ∷ xs) (suc k) x within is = place_of xs k x (omega arith) is

stands : {X : Type 0} (xs : List X) (k : ℕ) (x : X) → slice_get xs k ≡ Some x → (k < length xs) × (get_or xs k x ≡ x)
stands [] k x at = absurd (none-some x at)
stands (y ∷ xs) zero x at = (omega arith, same_Some y x at)
stands (y ∷ xs) (suc k) x at = let rest = stands xs k x at in (omega (arith, rest.0), rest.1)

all_in : (rows others : Program) → IsPermutation rows others → (i : ℕ) (m : Bytes × Bytes) → slice_get rows i ≡ Some m → (j : ℕ) × (slice_get others j ≡ Some m)
all_in rows others moved i m at =
    let here = stands rows i m at in
    let there = Contains-permutation rows others m moved (i, here.0, here.1) in
    (there.0, place_of others there.0 m there.1 there.2)

pub one_folder : (n seed : ℕ) (a b : Program) → IsFolder n seed a → IsFolder n seed b → a ≡ b
one_folder n seed a b is also =
    let all = modules_of n seed in
    one_list IsAbove (λ m below. not_below_itself m.0 below) not_back a b (ordered a is.rising) (ordered b also.rising)
    (all_in a b (IsPermutation-trans a all b (IsPermutation-sym all a is.whole) also.whole)) (all_in b a (IsPermutation-trans b all a (IsPermutation-sym all b also.whole) is.whole))

-- ---- how many there are

pub as_many : (n seed : ℕ) (folder : Program) (paths : List Bytes) → paths ≡ paths_of folder → IsFolder n seed folder → length paths ≡ n
as_many n seed folder paths are is =
    ap length are
    ∙ length_permutation (paths_of (modules_of n seed)) (paths_of folder) (IsPermutation-map (λ (row : Bytes × Bytes). row.0) (modules_of n seed) folder is.whole)
    ∙ ap length (paths_are n seed) ∙ length-map-range_with_len path_of 0 n
