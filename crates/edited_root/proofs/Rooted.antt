-- The new root, by the modules that the walk gave.
use Rattle.std.proofs.Common.{◌≡◌, ◌≢◌, ℕ, zero, suc, ◌+◌, ◌*◌, ◌<◌, ◌≤◌, Bool, true, false, not, cond, List, [], ◌∷◌, map, length, slice_get, Option, Some, None, refl, sym, ap, ◌∙◌, subst, arith, bytes_eq}
use Rattle.std.specs.Prelude.{eqb, ◌||◌}
use Rattle.std.specs.Option.{option_map}
use Rattle.std.specs.List.{AllByRecursion, IsDistinct, list_any}
use Rattle.std.specs.List.Sorted.{IsStrictlySortedBy}
use Rattle.std.specs.Map.{keys_of}
use Rattle.std.specs.Ordering.{nat_cmp}
use Rattle.std.specs.Cmp.Lexicographic.{slice_cmp}
use Rattle.std.proofs.lemmas.Bool.{eqb-true}
use Rattle.std.proofs.lemmas.List.{length-map}
use Rattle.std.proofs.lemmas.Map.Keys.{IsDistinct-cons}
use Rattle.std.proofs.lemmas.Map.Steps.{length-le_from_distinct_below}
use Rattle.flow_values.specs.Path.{IsRising}
use Rattle.flow_base.specs.Program.{Bytes, Program, text_at, paths_of}
use Rattle.flow_base.specs.Outside.{WhereTold}
use Rattle.check_values.specs.Rows.{Rows}
use Rattle.check_values.specs.Roots as roots
use Rattle.check_values.specs.declared.root.RootRow.{RootRow}
use Rattle.check_values.specs.declared.root.Root.{Root}
use Rattle.payloads.specs.Entities.{errors_entity}
use Rattle.payloads.specs.State.{program_of, HaveOwnRows, IsRoot}
use Rattle.pending_edits.specs.Pending.{edited, MayBecome}
use Rattle.pending_edits.specs.Counting.{counted}
use Rattle.pending_edits.specs.Rows.{row_of, kept_rows, next_from, AreNumbered, Follows}
use Rattle.pending_edits.specs.declared.edit.Edit.{Edit}
use Rattle.edited_root.specs.From.{texts_in, number_in, numbers_from, has_text, fresh_from}
use Rattle.edited_root.specs.Walk.{IsDraftOf, drafted}
use Rattle.edited_root.specs.Numbering.{somes, AreMarks, AreGiven, row_by}
use Rattle.edited_root.specs.declared.walking.Draft.{Draft}
use Rattle.edited_root.proofs.Lists.{same_paths}
use Rattle.edited_root.proofs.Counted.{edited_rises, few_edited}
use Rattle.edited_root.proofs.Giving.{same_given, follows_old, is_root}

-- ---- a root has no more modules than there are rows

apart : (row : ℕ) (ms : List RootRow) → AllByRecursion (λ n. row ≢ n.row) ms → AllByRecursion (λ k. eqb row k ≡ false) (map (λ (m : RootRow). m.row) ms)
apart row [] all = tt
apart row (n ∷ ms) all = (differs (eqb row n.row) refl, apart row ms all.1)
  where
    differs : (b : Bool) → eqb row n.row ≡ b → eqb row n.row ≡ false
    differs true e = absurd (all.0 (eqb-true row n.row e))
    differs false e = e

distinct : (ms : List RootRow) → HaveOwnRows ms → IsDistinct eqb (map (λ (m : RootRow). m.row) ms)
unfolding IsDistinct
distinct [] own = tt
distinct (m ∷ ms) own = IsDistinct-cons eqb m.row (map (λ (n : RootRow). n.row) ms) (apart m.row ms own.0) (distinct ms own.1)

pub few_modules : (capacity : ℕ) (root : Root) → IsRoot (4 * capacity + 1) root → length root.modules ≤ capacity
few_modules capacity root is =
    let most = length-le_from_distinct_below (map (λ (m : RootRow). m.row) root.modules) capacity (distinct root.modules is.rows) (λ row any. below root.modules is.room row any) in
    let many = length-map root.modules (λ (m : RootRow). m.row) in
    omega (arith, most, many)
  where
    below : (ms : List RootRow) → AllByRecursion (λ m. errors_entity m.row < 4 * capacity + 1) ms → (row : ℕ) → list_any (eqb row) (map (λ (m : RootRow). m.row) ms) ≡ true → row < capacity
    below [] all row any = absurd (let z : false ≡ true = any in cc)
    below (m ∷ ms) all row any = go (eqb row m.row) refl any (λ h. below ms all.1 row h)
      where
        go : (b : Bool) → eqb row m.row ≡ b → (b || list_any (eqb row) (map (λ (m : RootRow). m.row) ms)) ≡ true → (list_any (eqb row) (map (λ (m : RootRow). m.row) ms) ≡ true → row < capacity) → row < capacity
        go true e h later = (let same : row ≡ m.row = eqb-true row m.row e in let low = all.0 in omega (arith, same, low))
        go false e h later = later h

-- its paths rise
pub root_rising : (n : ℕ) (root : Root) → IsRoot n root → IsRising (roots.paths_of root)
root_rising n root is = subst IsRising (same_paths root) is.rising

-- ---- the modules that the walk gave

-- the row of a path is that of its module
pub row_by_number : (ms : List RootRow) (path : Bytes) → row_by ms (number_in ms path) ≡ row_of ms path
row_by_number [] path = refl
row_by_number (m ∷ ms) path = go (bytes_eq m.path path) (number_in ms path) (row_by_number ms path)
  where
    go : (b : Bool) (o : Option ℕ) → row_by ms o ≡ row_of ms path → row_by (m ∷ ms) (cond b (Some 0) (option_map suc o)) ≡ cond b (Some m.row) (row_of ms path)
    go true o rest = refl
    go false None rest = rest
    go false (Some n) rest = rest

pub rows_kept : (ms : List RootRow) (drafts : List Draft) → AllByRecursion (IsDraftOf ms) drafts → map (λ (d : Draft). row_by ms d.from) drafts ≡ map (λ (m : Bytes × Bytes). row_of ms m.0) (drafted drafts)
rows_kept ms [] all = refl
rows_kept ms (d ∷ drafts) all = (let r : row_by ms d.from ≡ row_of ms d.path = ap (row_by ms) all.0.0 ∙ row_by_number ms d.path in λ j. r j ∷ rows_kept ms drafts all.1 j)

module _ (old new : Root) (drafts : List Draft) (same : texts_in new.modules ≡ drafted drafts) (right : AllByRecursion (IsDraftOf old.modules) drafts) where
  pub given_from : map (λ (d : Draft). d.from) drafts ≡ numbers_from old new
  given_from = left drafts right ∙ (ap (map (λ (m : Bytes × Bytes). number_in old.modules m.0)) (sym same) ∙ over new.modules)
    where
      left : (ds : List Draft) → AllByRecursion (IsDraftOf old.modules) ds → map (λ (d : Draft). d.from) ds ≡ map (λ (m : Bytes × Bytes). number_in old.modules m.0) (drafted ds)
      left [] all = refl
      left (d ∷ ds) all = λ j. all.0.0 j ∷ left ds all.1 j

      over : (ms : List RootRow) → map (λ (m : Bytes × Bytes). number_in old.modules m.0) (texts_in ms) ≡ map (λ (m : RootRow). number_in old.modules m.path) ms
      over [] = refl
      over (m ∷ ms) = ap (λ (l : List (Option ℕ)). number_in old.modules m.path ∷ l) (over ms)

  pub given_fresh : map (λ (d : Draft). d.fresh) drafts ≡ fresh_from old new
  given_fresh = left drafts right ∙ (ap (map (λ (m : Bytes × Bytes). not (has_text (text_at (program_of old) m.0) m.1))) (sym same) ∙ over new.modules)
    where
      left : (ds : List Draft) → AllByRecursion (IsDraftOf old.modules) ds → map (λ (d : Draft). d.fresh) ds ≡ map (λ (m : Bytes × Bytes). not (has_text (text_at (program_of old) m.0) m.1)) (drafted ds)
      left [] all = refl
      left (d ∷ ds) all = λ j. all.0.1 j ∷ left ds all.1 j

      over : (ms : List RootRow) → map (λ (m : Bytes × Bytes). not (has_text (text_at (program_of old) m.0) m.1)) (texts_in ms) ≡ map (λ (m : RootRow). not (has_text (text_at (program_of old) m.path) m.text)) ms
      over [] = refl
      over (m ∷ ms) = ap (λ (l : List Bool). not (has_text (text_at (program_of old) m.path) m.text) ∷ l) (over ms)

-- ---- the edited program

-- the program that a root was given is its own
pub names_program : (old new : Root) (program : Program) → Follows old program new → program_of new ≡ program
names_program old new program follows = go old.modules (kept_rows old.modules program) 0 program new.modules follows
  where
    go : (old : List RootRow) (taken : List ℕ) (from : ℕ) (program : Program) (rows : List RootRow) → AreNumbered old taken from program rows → map (λ (m : RootRow). (m.path, m.text)) rows ≡ program
    go old taken from [] [] are = refl
    go old taken from [] (r ∷ rows) are = absurd are
    go old taken from (m ∷ program) [] are = absurd are
    go old taken from (m ∷ program) (r ∷ rows) are = λ j. (are.0 j, are.1 j) ∷ go old taken (next_from from (row_of old m.0) r.row) program rows are.3 j

pub follows_own : (old new : Root) (program : Program) → Follows old program new → Follows old (program_of new) new
follows_own old new program follows = subst (λ (p : Program). Follows old p new) (sym (names_program old new program follows)) follows

pub becomes_own : (told : Option Program) (start : Program) (edits : Rows Edit) (old new : Root) (program : Program) → Follows old program new → MayBecome told start edits program → MayBecome told start edits (program_of new)
becomes_own told start edits old new program follows become = subst (λ (p : Program). MayBecome told start edits p) (sym (names_program old new program follows)) become

-- ---- the program that was walked

pub keys_rising : (es : Rows Edit) → IsStrictlySortedBy (slice_cmp nat_cmp) (keys_of es) → IsRising (keys_of es)
unfolding IsStrictlySortedBy
keys_rising [] sorted = tt
keys_rising (e ∷ []) sorted = tt
keys_rising (e ∷ f ∷ es) sorted = (sorted.0.0, keys_rising (f ∷ es) sorted.1)

paths_same : (ms : List RootRow) → paths_of (texts_in ms) ≡ roots.paths_of_rows ms
paths_same [] = refl
paths_same (m ∷ ms) = ap (λ (ps : List Bytes). m.path ∷ ps) (paths_same ms)

-- it rises
pub rising_walked : (told : Option Program) (ms : List RootRow) (edits : Rows Edit) (program : Program) → IsRising (roots.paths_of_rows ms) → MayBecome told (texts_in ms) edits program → IsRising (paths_of program)
rising_walked told ms edits program rising (folder, so, is) = subst (λ (p : Program). IsRising (paths_of p)) (sym is) (edited_rises folder (texts_in ms) edits (subst IsRising (sym (paths_same ms)) rising))

-- and has no more modules than are counted
pub few_walked : (told : Option Program) (ms : List RootRow) (edits entries : Rows Edit) (drafts : List Draft) → IsRising (roots.paths_of_rows ms) → edits ≡ entries → IsStrictlySortedBy (slice_cmp nat_cmp) (keys_of entries)
    → MayBecome told (texts_in ms) edits (drafted drafts) → length drafts ≤ counted (roots.paths_of_rows ms) edits
few_walked told ms edits entries drafts rising same sorted (folder, so, is) =
    let rise : IsRising (keys_of edits) = subst (λ (es : Rows Edit). IsRising (keys_of es)) (sym same) (keys_rising entries sorted) in
    let most = few_edited folder (texts_in ms) edits rise (subst IsRising (sym (paths_same ms)) rising) in
    let mine = ap length is in
    let pair : Draft → Bytes × Bytes = λ d. (d.path, d.text) in
    let all = length-map drafts pair in
    let here = ap (λ (ps : List Bytes). counted ps edits) (paths_same ms) in
    omega (arith, most, mine, all, here)
