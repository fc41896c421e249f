-- How the counts change with one more edit.
use Rattle.std.proofs.Common.{◌≡◌, ℕ, ◌+◌, ◌-◌, ◌<◌, ◌≤◌, Bool, true, false, List, [], ◌∷◌, ◌++◌, length, count_by, cond, Option, Some, None, refl, sym, ap, ◌∙◌, subst, arith}
use Rattle.std.specs.Option.{is_some, unwrap_or, option_map}
use Rattle.std.specs.Prelude.{IsSome, ◌^◌}
use Rattle.std.specs.List.Sorted.{IsStrictlySortedBy}
use Rattle.std.specs.Map.{keys_of, lookup}
use Rattle.std.specs.BTreeMap.{insert_entry, is_at}
use Rattle.std.specs.Ordering.{nat_cmp, match_ordering, is_eq}
use Rattle.std.specs.Cmp.{IsTotalOrder}
use Rattle.std.specs.Cmp.Lexicographic.{slice_cmp, nat_list_cmp_total}
use Rattle.std.specs.declared.cmp.Ordering.{Ordering}
use Rattle.std.specs.declared.cmp.Ordering.TheVariants.{Less, Equal, Greater}
use Rattle.std.proofs.lemmas.List.Sums.{sum_by-cons, count_by-le-length}
use Rattle.std.proofs.lemmas.Map.Entries.{sum_by-insert_entry, none_below_head, length-keys_of}
use Rattle.std.proofs.lemmas.Map.{lookup-none}
use Rattle.std.proofs.lemmas.Map.Keys.{sorted_tail}
use Rattle.flow_values.specs.Path.{Bytes}
use Rattle.check_values.specs.Rows.{Rows, is_among}
use Rattle.pending_edits.specs.declared.edit.Edit.{Edit}
use Rattle.pending_edits.specs.declared.edit.Edit.TheVariants.{Delete}
use Rattle.pending_edits.specs.Pending.{Pending, with_edit}
use Rattle.pending_edits.specs.Counting.{edit_at, keeps, kept_in, kept_of, newly, edits_of, StandsOn}

abbrev one : Bool → ℕ
one b = cond b 1 0

kept_before : (o : Option Edit) → unwrap_or (option_map (λ e. one (keeps e)) o) 0 ≡ kept_of o
kept_before None = refl
kept_before (Some e) = refl

-- the paths that are kept, after an edit
pub kept_after : (edits : Rows Edit) (path : Bytes) (edit : Edit) → IsStrictlySortedBy (slice_cmp nat_cmp) (keys_of edits)
    → kept_in (with_edit edits path edit) + kept_of (edit_at edits path) ≡ kept_in edits + one (keeps edit)
kept_after edits path edit sorted =
    let all = sum_by-insert_entry (λ e. one (keeps e)) nat_list_cmp_total edits path edit sorted in
    let before = kept_before (edit_at edits path) in
    omega (arith, all, before)

count-cons : (p : Bytes → Bool) (x : Bytes) (xs : List Bytes) → count_by p (x ∷ xs) ≡ one (p x) + count_by p xs
count-cons p x xs = sum_by-cons (λ y. one (p y)) x xs

-- the paths that pass a test, after an edit
keys_after : (p : Bytes → Bool) (edits : Rows Edit) (path : Bytes) (edit : Edit) → IsStrictlySortedBy (slice_cmp nat_cmp) (keys_of edits)
    → count_by p (keys_of (with_edit edits path edit)) ≡ count_by p (keys_of edits) + newly (edit_at edits path) (p path)
keys_after p [] path edit sorted = omega (arith, count-cons p path [])
keys_after p (e ∷ es) path edit sorted = by (slice_cmp nat_cmp path e.0) refl (keys_after p es path edit (sorted_tail (slice_cmp nat_cmp) e.0 (keys_of es) sorted))
  where
    by : (o : Ordering) → slice_cmp nat_cmp path e.0 ≡ o
        → count_by p (keys_of (with_edit es path edit)) ≡ count_by p (keys_of es) + newly (edit_at es path) (p path)
        → count_by p (keys_of (match_ordering o ((path, edit) ∷ e ∷ es) ((e.0, edit) ∷ es) (e ∷ with_edit es path edit)))
        ≡ count_by p (keys_of (e ∷ es)) + newly (cond (is_eq o) (Some e.1) (edit_at es path)) (p path)
    by Less is later =
        let none = lookup-none (is_at (slice_cmp nat_cmp path)) es (none_below_head nat_list_cmp_total path e es sorted is).1 in
        let new : newly (edit_at es path) (p path) ≡ one (p path) = ap (λ (o : Option Edit). newly o (p path)) none in
        omega (arith, count-cons p path (e.0 ∷ keys_of es), new)
    by Equal is later = omega (arith, count-cons p e.0 (keys_of es))
    by Greater is later = omega (arith, count-cons p e.0 (keys_of es), count-cons p e.0 (keys_of (with_edit es path edit)), later)

-- the edits of some paths, after one more
pub edits_after : (paths : List Bytes) (edits : Rows Edit) (path : Bytes) (edit : Edit) → IsStrictlySortedBy (slice_cmp nat_cmp) (keys_of edits)
    → edits_of paths (with_edit edits path edit) ≡ edits_of paths edits + newly (edit_at edits path) (is_among paths path)
edits_after paths edits path edit sorted = keys_after (is_among paths) edits path edit sorted

-- ---- what the calls leave

-- the paths that are kept, where one more is
pub kept_with : (edits : Rows Edit) (path : Bytes) (edit : Edit) (n : ℕ) → IsStrictlySortedBy (slice_cmp nat_cmp) (keys_of edits) → keeps edit ≡ true
    → n ≡ kept_in edits + 1 - kept_of (edit_at edits path) → n ≡ kept_in (with_edit edits path edit)
kept_with edits path edit n sorted keeps_it is =
    let after = kept_after edits path edit sorted in
    let new : one (keeps edit) ≡ 1 = ap one keeps_it in
    omega (arith, after, new, is)

-- a path that is deleted was one of those that are kept, if it was kept
pub kept_enough : (edits : Rows Edit) (path : Bytes) (n m : ℕ) → IsStrictlySortedBy (slice_cmp nat_cmp) (keys_of edits) → n ≡ kept_of (edit_at edits path) → m ≡ kept_in edits → n ≤ m
kept_enough edits path n m sorted is all = let after = kept_after edits path Delete sorted in omega (arith, after, is, all)

-- those that are kept, where one is deleted
pub kept_without : (edits : Rows Edit) (path : Bytes) (n m : ℕ) → IsStrictlySortedBy (slice_cmp nat_cmp) (keys_of edits) → n ≡ kept_of (edit_at edits path) → m ≡ kept_in edits
    → m - n ≡ kept_in (with_edit edits path Delete)
kept_without edits path n m sorted is all = let after = kept_after edits path Delete sorted in omega (arith, after, is, all)

pub kept_as_before : (edits : Rows Edit) (path : Bytes) (m : ℕ) → IsStrictlySortedBy (slice_cmp nat_cmp) (keys_of edits) → edit_at edits path ≡ None → m ≡ kept_in edits
    → m ≡ kept_in (with_edit edits path Delete)
kept_as_before edits path m sorted lacked all =
    let after = kept_after edits path Delete sorted in
    let zero_kept : kept_of (edit_at edits path) ≡ 0 = ap kept_of lacked in
    omega (arith, after, zero_kept, all)

-- the edits of modules, after one more
pub found_with : (paths : List Bytes) (edits : Rows Edit) (path : Bytes) (edit : Edit) (n : ℕ) → IsStrictlySortedBy (slice_cmp nat_cmp) (keys_of edits)
    → n ≡ edits_of paths edits + newly (edit_at edits path) (is_among paths path) → n ≡ edits_of paths (with_edit edits path edit)
found_with paths edits path edit n sorted is = is ∙ sym (edits_after paths edits path edit sorted)

-- an edit of a path that has one changes no count of modules
pub all_stand : (edits edits' : Rows Edit) (path : Bytes) (edit : Edit) (found found' : ℕ) (unseen unseen' : List Bytes) → IsStrictlySortedBy (slice_cmp nat_cmp) (keys_of edits) → IsSome (edit_at edits path)
    → edits' ≡ with_edit edits path edit → found' ≡ found → unseen' ≡ unseen
    → (paths : List Bytes) → found + count_by (is_among paths) unseen ≡ edits_of paths edits → found' + count_by (is_among paths) unseen' ≡ edits_of paths edits'
all_stand edits edits' path edit found found' unseen unseen' sorted had put same same_unseen paths stands =
    let after = edits_after paths edits path edit sorted in
    let none : newly (edit_at edits path) (is_among paths path) ≡ 0 = newly_none (edit_at edits path) (is_among paths path) had in
    let all : edits_of paths edits' ≡ edits_of paths (with_edit edits path edit) = ap (edits_of paths) put in
    let seen : count_by (is_among paths) unseen' ≡ count_by (is_among paths) unseen = ap (count_by (is_among paths)) same_unseen in
    omega (arith, after, none, all, seen, same, stands)
  where
    newly_none : (o : Option Edit) (b : Bool) → IsSome o → newly o b ≡ 0
    newly_none None b some = absurd (let z : false ≡ true = some in cc)
    newly_none (Some e) b some = refl

-- one more path that is to be looked up
unseen_more : (paths unseen : List Bytes) (path : Bytes) → count_by (is_among paths) (unseen ++ path ∷ []) ≡ count_by (is_among paths) unseen + one (is_among paths path)
unseen_more paths [] path = count-cons (is_among paths) path [] ∙ omega arith
unseen_more paths (x ∷ unseen) path =
    let all = count-cons (is_among paths) x (unseen ++ path ∷ []) in
    let first = count-cons (is_among paths) x unseen in
    let rest = unseen_more paths unseen path in
    omega (arith, all, first, rest)

-- an edit of a path that has none, which is then to be looked up
pub more_stand : (edits edits' : Rows Edit) (path : Bytes) (edit : Edit) (found found' : ℕ) (unseen unseen' : List Bytes) → IsStrictlySortedBy (slice_cmp nat_cmp) (keys_of edits) → edit_at edits path ≡ None
    → edits' ≡ with_edit edits path edit → found' ≡ found → unseen' ≡ unseen ++ path ∷ []
    → (paths : List Bytes) → found + count_by (is_among paths) unseen ≡ edits_of paths edits → found' + count_by (is_among paths) unseen' ≡ edits_of paths edits'
more_stand edits edits' path edit found found' unseen unseen' sorted lacked put same pushed paths stands =
    let after = edits_after paths edits path edit sorted in
    let new : newly (edit_at edits path) (is_among paths path) ≡ one (is_among paths path) = ap (λ (o : Option Edit). newly o (is_among paths path)) lacked in
    let all : edits_of paths edits' ≡ edits_of paths (with_edit edits path edit) = ap (edits_of paths) put in
    let seen : count_by (is_among paths) unseen' ≡ count_by (is_among paths) (unseen ++ path ∷ []) = ap (count_by (is_among paths)) pushed in
    let more = unseen_more paths unseen path in
    omega (arith, after, new, all, seen, more, same, stands)

-- ---- the same of what waits

-- how many edits are of modules after one more, where all deleted paths were looked up
pub found_after : (paths : List Bytes) (p : Pending) (entries : Rows Edit) (path : Bytes) (before : Option Edit) (found more : ℕ) → IsStrictlySortedBy (slice_cmp nat_cmp) (keys_of entries)
    → p.edits ≡ entries → p.found ≡ found → p.unseen ≡ [] → StandsOn paths p → before ≡ edit_at entries path → more ≡ newly before (is_among paths path)
    → (edit : Edit) → found + more ≡ edits_of paths (with_edit p.edits path edit)
found_after paths p entries path before found more sorted same_edits same_found none stands was new edit =
    let after = edits_after paths entries path edit sorted in
    let all : edits_of paths (with_edit p.edits path edit) ≡ edits_of paths (with_edit entries path edit) = ap (λ (es : Rows Edit). edits_of paths (with_edit es path edit)) same_edits in
    let so_far : edits_of paths p.edits ≡ edits_of paths entries = ap (edits_of paths) same_edits in
    let seen : count_by (is_among paths) p.unseen ≡ 0 = ap (count_by (is_among paths)) none in
    let added : newly before (is_among paths path) ≡ newly (edit_at entries path) (is_among paths path) = ap (λ (o : Option Edit). newly o (is_among paths path)) was in
    omega (arith, after, all, so_far, seen, added, same_found, stands, new)

-- a path that had no edit was deleted, and is to be looked up
pub stands_more : (p : Pending) (entries entries' : Rows Edit) (path : Bytes) (found : ℕ) (unseen unseen' : List Bytes) → IsStrictlySortedBy (slice_cmp nat_cmp) (keys_of entries) → edit_at p.edits path ≡ None
    → entries' ≡ with_edit entries path Delete → unseen' ≡ unseen ++ path ∷ [] → p.edits ≡ entries → p.found ≡ found → p.unseen ≡ unseen
    → (paths : List Bytes) → StandsOn paths p → found + count_by (is_among paths) unseen' ≡ edits_of paths entries'
stands_more p entries entries' path found unseen unseen' sorted lacked put pushed same_edits same_found same_unseen paths stands =
    let lacks : edit_at entries path ≡ None = subst (λ (es : Rows Edit). edit_at es path ≡ None) same_edits lacked in
    let seen : count_by (is_among paths) p.unseen ≡ count_by (is_among paths) unseen = ap (count_by (is_among paths)) same_unseen in
    let so_far : edits_of paths p.edits ≡ edits_of paths entries = ap (edits_of paths) same_edits in
    let stood : found + count_by (is_among paths) unseen ≡ edits_of paths entries = omega (arith, seen, so_far, same_found, stands) in
    more_stand entries entries' path Delete found found unseen unseen' sorted lacks put refl pushed paths stood

-- no more edits are of modules than there are
pub found_fits : (paths : List Bytes) (edits : Rows Edit) (n : ℕ) → length edits < 2 ^ 63 → n ≡ edits_of paths edits → n < 2 ^ 64
found_fits paths edits n small is =
    let below = count_by-le-length (is_among paths) (keys_of edits) in
    let many = length-keys_of edits in
    omega (arith, below, many, small, is)
