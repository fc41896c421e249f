-- The edited program has rising paths, and no more modules than are counted.
use Rattle.std.proofs.Common.{◌≡◌, ◌≢◌, ℕ, zero, suc, ◌+◌, ◌-◌, ◌<◌, ◌≤◌, Bool, true, false, cond, List, [], ◌∷◌, map, length, count_by, Option, Some, None, refl, sym, ap, ◌∙◌, subst, arith, bytes_eq}
use Rattle.std.specs.Prelude.{◌||◌}
use Rattle.std.specs.List.{AllByRecursion, list_any}
use Rattle.std.specs.List.Sorted.{IsStrictlySortedBy}
use Rattle.std.specs.Map.{keys_of, values_of, remove_entry}
use Rattle.std.specs.BTreeMap.{insert_entry, is_at}
use Rattle.std.specs.Ordering.{nat_cmp, is_eq, match_ordering, ordering_reverse}
use Rattle.std.specs.Cmp.Lexicographic.{slice_cmp, nat_list_cmp_total, bytes_decides}
use Rattle.std.specs.declared.cmp.Ordering.{Ordering}
use Rattle.std.specs.declared.cmp.Ordering.TheVariants.{Less, Equal, Greater}
use Rattle.std.proofs.lemmas.List.Sums.{sum_by-cons}
use Rattle.std.proofs.lemmas.Map.Text.{is_eq-slice_cmp}
use Rattle.flow_values.specs.Path.{IsRising}
use Rattle.flow_base.specs.Program.{Bytes, Program, paths_of}
use Rattle.flow_base.proofs.Rising.{IsBelowAll, below_all, carry, rising_rest, not_below_itself}
use Rattle.check_values.specs.Rows.{Rows, is_among}
use Rattle.pending_edits.specs.declared.edit.Edit.{Edit}
use Rattle.pending_edits.specs.declared.edit.Edit.TheVariants.{Put, Touch, Delete}
use Rattle.pending_edits.specs.Pending.{text_by, with_text, edited}
use Rattle.pending_edits.specs.Counting.{keeps, kept_in, edits_of, counted}

-- ---- paths that rise

under : (a b : Bytes) → slice_cmp nat_cmp a b ≡ Greater → slice_cmp nat_cmp b a ≡ Less
under a b over = nat_list_cmp_total.antisymm b a ∙ ap ordering_reverse over

rising_cons : (path : Bytes) (paths : List Bytes) → IsBelowAll path paths → IsRising paths → IsRising (path ∷ paths)
rising_cons path [] below rising = tt
rising_cons path (next ∷ paths) below rising = (below.0, rising)

-- what is below all paths is so with one more text
below_with : (low : Bytes) (program : Program) (path : Bytes) (text : Option Bytes) → IsBelowAll low (paths_of program) → (text ≢ None → slice_cmp nat_cmp low path ≡ Less) → IsBelowAll low (paths_of (with_text program path text))
below_with low [] path (Some text) below less = (less (λ e. (let z : Some text ≡ None = e in cc)), tt)
below_with low [] path None below less = tt
below_with low (m ∷ program) path (Some text) below less = go (slice_cmp nat_cmp path m.0) (below_with low program path (Some text) below.1 less)
  where
    go : (o : Ordering) → IsBelowAll low (paths_of (insert_entry (slice_cmp nat_cmp) program path text))
        → IsBelowAll low (paths_of (match_ordering o ((path, text) ∷ m ∷ program) ((m.0, text) ∷ program) (m ∷ insert_entry (slice_cmp nat_cmp) program path text)))
    go Less rest = (less (λ e. (let z : Some text ≡ None = e in cc)), below)
    go Equal rest = below
    go Greater rest = (below.0, rest)
below_with low (m ∷ program) path None below less = go (is_eq (slice_cmp nat_cmp path m.0)) (below_with low program path None below.1 less)
  where
    go : (b : Bool) → IsBelowAll low (paths_of (remove_entry (is_at (slice_cmp nat_cmp path)) program)) → IsBelowAll low (paths_of (cond b program (m ∷ remove_entry (is_at (slice_cmp nat_cmp path)) program)))
    go true rest = below.1
    go false rest = (below.0, rest)

rising_with : (program : Program) (path : Bytes) (text : Option Bytes) → IsRising (paths_of program) → IsRising (paths_of (with_text program path text))
rising_with [] path (Some text) rising = tt
rising_with [] path None rising = tt
rising_with (m ∷ program) path (Some text) rising = go (slice_cmp nat_cmp path m.0) refl (rising_with program path (Some text) (rising_rest m.0 (paths_of program) rising))
  where
    go : (o : Ordering) → slice_cmp nat_cmp path m.0 ≡ o → IsRising (paths_of (insert_entry (slice_cmp nat_cmp) program path text))
        → IsRising (paths_of (match_ordering o ((path, text) ∷ m ∷ program) ((m.0, text) ∷ program) (m ∷ insert_entry (slice_cmp nat_cmp) program path text)))
    go Less is rest = (is, rising)
    go Equal is rest = rising
    go Greater is rest =
        rising_cons m.0 (paths_of (insert_entry (slice_cmp nat_cmp) program path text))
        (below_with m.0 program path (Some text) (below_all m.0 (paths_of program) rising) (λ e. under path m.0 is)) rest
rising_with (m ∷ program) path None rising = go (is_eq (slice_cmp nat_cmp path m.0)) (rising_with program path None (rising_rest m.0 (paths_of program) rising))
  where
    go : (b : Bool) → IsRising (paths_of (remove_entry (is_at (slice_cmp nat_cmp path)) program)) → IsRising (paths_of (cond b program (m ∷ remove_entry (is_at (slice_cmp nat_cmp path)) program)))
    go true rest = rising_rest m.0 (paths_of program) rising
    go false rest =
        rising_cons m.0 (paths_of (remove_entry (is_at (slice_cmp nat_cmp path)) program)) (below_with m.0 program path None (below_all m.0 (paths_of program) rising) (λ e. absurd (e refl))) rest

pub edited_rises : (folder program : Program) (edits : Rows Edit) → IsRising (paths_of program) → IsRising (paths_of (edited folder program edits))
edited_rises folder program [] rising = rising
edited_rises folder program (e ∷ edits) rising = edited_rises folder (with_text program e.0 (text_by folder e.0 e.1)) edits (rising_with program e.0 (text_by folder e.0 e.1) rising)

-- ---- how many there are

abbrev one : Bool → ℕ
one b = cond b 1 0

count-cons : (p : Bytes → Bool) (x : Bytes) (xs : List Bytes) → count_by p (x ∷ xs) ≡ one (p x) + count_by p xs
count-cons p x xs = sum_by-cons (λ y. one (p y)) x xs

-- another path is among those of a program as before
among_with : (program : Program) (path other : Bytes) (text : Option Bytes) → path ≢ other → is_among (paths_of (with_text program path text)) other ≡ is_among (paths_of program) other
among_with [] path other (Some text) ne = ap (λ (b : Bool). b || false) (differs other path (λ e. ne (sym e)))
  where
    differs : (a b : Bytes) → a ≢ b → bytes_eq a b ≡ false
    differs a b ne = go (bytes_eq a b) refl
      where
        go : (c : Bool) → bytes_eq a b ≡ c → bytes_eq a b ≡ false
        go true e = absurd (ne ((bytes_decides a b).0 e))
        go false e = e
among_with [] path other None ne = refl
among_with (m ∷ program) path other (Some text) ne = go (slice_cmp nat_cmp path m.0) (among_with program path other (Some text) ne)
  where
    differs : bytes_eq other path ≡ false
    differs = by (bytes_eq other path) refl
      where
        by : (c : Bool) → bytes_eq other path ≡ c → bytes_eq other path ≡ false
        by true e = absurd (ne (sym ((bytes_decides other path).0 e)))
        by false e = e

    go : (o : Ordering) → is_among (paths_of (insert_entry (slice_cmp nat_cmp) program path text)) other ≡ is_among (paths_of program) other
        → is_among (paths_of (match_ordering o ((path, text) ∷ m ∷ program) ((m.0, text) ∷ program) (m ∷ insert_entry (slice_cmp nat_cmp) program path text))) other ≡ is_among (paths_of (m ∷ program)) other
    go Less rest = ap (λ (b : Bool). b || is_among (paths_of (m ∷ program)) other) differs
    go Equal rest = refl
    go Greater rest = ap (λ (b : Bool). bytes_eq other m.0 || b) rest
among_with (m ∷ program) path other None ne = go (slice_cmp nat_cmp path m.0) refl (among_with program path other None ne)
  where
    apart : slice_cmp nat_cmp path m.0 ≡ Equal → bytes_eq other m.0 ≡ false
    apart is = by (bytes_eq other m.0) refl
      where
        by : (c : Bool) → bytes_eq other m.0 ≡ c → bytes_eq other m.0 ≡ false
        by true e = absurd (ne ((bytes_decides path m.0).0 (sym (is_eq-slice_cmp path m.0) ∙ ap is_eq is) ∙ sym ((bytes_decides other m.0).0 e)))
        by false e = e

    go : (o : Ordering) → slice_cmp nat_cmp path m.0 ≡ o → is_among (paths_of (remove_entry (is_at (slice_cmp nat_cmp path)) program)) other ≡ is_among (paths_of program) other
        → is_among (paths_of (cond (is_eq o) program (m ∷ remove_entry (is_at (slice_cmp nat_cmp path)) program))) other ≡ is_among (paths_of (m ∷ program)) other
    go Less is rest = ap (λ (b : Bool). bytes_eq other m.0 || b) rest
    go Equal is rest = sym (ap (λ (b : Bool). b || is_among (paths_of program) other) (apart is))
    go Greater is rest = ap (λ (b : Bool). bytes_eq other m.0 || b) rest

-- so later edits are of modules as before
edits_with : (program : Program) (path : Bytes) (text : Option Bytes) (edits : Rows Edit) → IsBelowAll path (keys_of edits) → edits_of (paths_of (with_text program path text)) edits ≡ edits_of (paths_of program) edits
edits_with program path text [] below = refl
edits_with program path text (e ∷ edits) below =
    let first = count-cons (is_among (paths_of (with_text program path text))) e.0 (keys_of edits) in
    let before = count-cons (is_among (paths_of program)) e.0 (keys_of edits) in
    let same = ap one (among_with program path e.0 text (λ is. not_below_itself path (subst (λ (p : Bytes). slice_cmp nat_cmp path p ≡ Less) (sym is) below.0))) in
    let rest = edits_with program path text edits below.1 in
    omega (arith, first, before, same, rest)

-- one text more makes one module more at most, and none where the path has one; a text less makes one less where the path has one
many_put : (program : Program) (path text : Bytes) → IsRising (paths_of program) → length (with_text program path (Some text)) + one (is_among (paths_of program) path) ≤ length program + 1
many_put [] path text rising = omega arith
many_put (m ∷ program) path text rising = go (slice_cmp nat_cmp path m.0) refl (bytes_eq path m.0) refl (many_put program path text (rising_rest m.0 (paths_of program) rising))
  where
    at_most : (b : Bool) → one b ≤ 1
    at_most true = omega arith
    at_most false = omega arith

    none_among : (paths : List Bytes) → IsBelowAll path paths → is_among paths path ≡ false
    none_among [] below = refl
    none_among (p ∷ paths) below = (λ j. (sym (is_eq-slice_cmp path p) ∙ ap is_eq below.0) j || is_among paths path) ∙ none_among paths below.1

    go : (o : Ordering) → slice_cmp nat_cmp path m.0 ≡ o → (b : Bool) → bytes_eq path m.0 ≡ b → length (insert_entry (slice_cmp nat_cmp) program path text) + one (is_among (paths_of program) path) ≤ length program + 1
        → length (match_ordering o ((path, text) ∷ m ∷ program) ((m.0, text) ∷ program) (m ∷ insert_entry (slice_cmp nat_cmp) program path text)) + one (b || is_among (paths_of program) path) ≤ length (m ∷ program) + 1
    go Less is true e rest = absurd (let z : false ≡ true = sym (sym (is_eq-slice_cmp path m.0) ∙ ap is_eq is) ∙ e in cc)
    go Less is false e rest =
        let none = ap one (none_among (paths_of program) (carry path m.0 is (paths_of program) (below_all m.0 (paths_of program) rising))) in
        omega (arith, none)
    go Equal is true e rest = omega arith
    go Equal is false e rest = let some : one (is_among (paths_of program) path) ≤ 1 = at_most (is_among (paths_of program) path) in omega (arith, some)
    go Greater is true e rest = absurd (let z : false ≡ true = sym (sym (is_eq-slice_cmp path m.0) ∙ ap is_eq is) ∙ e in cc)
    go Greater is false e rest = omega (arith, rest)

many_taken : (program : Program) (path : Bytes) → length (with_text program path None) + one (is_among (paths_of program) path) ≤ length program
many_taken [] path = omega arith
many_taken (m ∷ program) path = go (slice_cmp nat_cmp path m.0) refl (bytes_eq path m.0) refl (many_taken program path)
  where
    at_most : (b : Bool) → one b ≤ 1
    at_most true = omega arith
    at_most false = omega arith

    go : (o : Ordering) → slice_cmp nat_cmp path m.0 ≡ o → (b : Bool) → bytes_eq path m.0 ≡ b → length (remove_entry (is_at (slice_cmp nat_cmp path)) program) + one (is_among (paths_of program) path) ≤ length program
        → length (cond (is_eq o) program (m ∷ remove_entry (is_at (slice_cmp nat_cmp path)) program)) + one (b || is_among (paths_of program) path) ≤ length (m ∷ program)
    go Less is true e rest = absurd (let z : false ≡ true = sym (sym (is_eq-slice_cmp path m.0) ∙ ap is_eq is) ∙ e in cc)
    go Less is false e rest = omega (arith, rest)
    go Equal is b e rest = let some = at_most (b || is_among (paths_of program) path) in omega (arith, some)
    go Greater is true e rest = absurd (let z : false ≡ true = sym (sym (is_eq-slice_cmp path m.0) ∙ ap is_eq is) ∙ e in cc)
    go Greater is false e rest = omega (arith, rest)

-- the program that the edits come to, after the first of them
module _ (folder program : Program) (path : Bytes) (edit : Edit) (edits : Rows Edit) (sorted : IsRising (path ∷ keys_of edits)) (rising : IsRising (paths_of program)) where
  ofs : edits_of (paths_of program) ((path, edit) ∷ edits) ≡ one (is_among (paths_of program) path) + edits_of (paths_of program) edits
  ofs = count-cons (is_among (paths_of program)) path (keys_of edits)

  kepts : kept_in ((path, edit) ∷ edits) ≡ one (keeps edit) + kept_in edits
  kepts = sum_by-cons (λ (e : Edit). one (keeps e)) edit (values_of edits)

  paths_many : (program : Program) → length (paths_of program) ≡ length program
  paths_many [] = refl
  paths_many (m ∷ program) = ap suc (paths_many program)

  few_with : (text : Option Bytes) → (text ≢ None → one (keeps edit) ≡ 1) → length (edited folder (with_text program path text) edits) ≤ counted (paths_of (with_text program path text)) edits
      → length (edited folder (with_text program path text) edits) ≤ counted (paths_of program) ((path, edit) ∷ edits)
  few_with (Some text) keeps_it rest =
      let kept = keeps_it (λ e. (let z : Some text ≡ None = e in cc)) in
      let same = edits_with program path (Some text) edits (below_all path (keys_of edits) sorted) in
      let many = many_put program path text rising in
      let n = paths_many program in
      let k = paths_many (with_text program path (Some text)) in
      omega (arith, rest, same, many, n, k, kept, ofs, kepts)
  few_with None keeps_it rest =
      let same = edits_with program path None edits (below_all path (keys_of edits) sorted) in
      let many = many_taken program path in
      let n = paths_many program in
      let k = paths_many (with_text program path None) in
      omega (arith, rest, same, many, n, k, ofs, kepts)

keeps_text : (folder : Program) (path : Bytes) (e : Edit) → text_by folder path e ≢ None → one (keeps e) ≡ 1
keeps_text folder path (Put t) some = refl
keeps_text folder path Touch some = refl
keeps_text folder path Delete some = absurd (some refl)

-- and after all
pub few_edited : (folder program : Program) (edits : Rows Edit) → IsRising (keys_of edits) → IsRising (paths_of program) → length (edited folder program edits) ≤ counted (paths_of program) edits
few_edited folder [] [] sorted rising = omega arith
few_edited folder (m ∷ program) [] sorted rising = (let n = paths_all program in omega (arith, n))
  where
    paths_all : (program : Program) → length (paths_of program) ≡ length program
    paths_all [] = refl
    paths_all (m ∷ program) = ap suc (paths_all program)
few_edited folder program ((path, edit) ∷ edits) sorted rising =
    few_with folder program path edit edits sorted rising (text_by folder path edit) (keeps_text folder path edit)
    (few_edited folder (with_text program path (text_by folder path edit)) edits (rising_rest path (keys_of edits) sorted) (rising_with program path (text_by folder path edit) rising))
