-- Marks on the rows that are used.
use Rattle.std.proofs.Common.{◌≡◌, ◌≢◌, ℕ, zero, suc, ◌+◌, ◌*◌, ◌<◌, ◌≤◌, Bool, true, false, not, cond, List, [], ◌∷◌, ◌++◌, length, set, slice_get, get_or, take, map, filter, replicate, Option, Some, None, refl, sym, ap, ◌∙◌, subst, arith, append-nil, length-set}
use Rattle.std.specs.Prelude.{eqb, ◌||◌, option_to_list}
use Rattle.std.specs.List.{AllByRecursion}
use Rattle.std.proofs.lemmas.Bool.{eqb-true}
use Rattle.std.proofs.lemmas.List.Folds.{flat_map-map}
use mathlib.Core.Logic.{dite}
use native.Mathlib.Decide.{ℕ_discrete}
use Rattle.heap_core.specs.Meaning.{names}
use Rattle.heap_core.proofs.Lists.{get_index, put_here, put_else}
use Rattle.named_rows.proofs.Lists.{flat_more}
use Rattle.flow_base.specs.Program.{Bytes, Program}
use Rattle.check_values.specs.declared.root.RootRow.{RootRow}
use Rattle.check_values.specs.declared.root.Root.{Root}
use Rattle.pending_edits.specs.Rows.{row_of, kept_rows, IsLeastFree}
use Rattle.heap_core.proofs.Names.{names-last}
use Rattle.edited_root.proofs.Lists.{one_value, place_at, take_whole}
use Rattle.payloads.specs.Entities.{errors_entity}
use Rattle.edited_root.specs.From.{rows_in, freed_from}
use Rattle.edited_root.specs.Numbering.{somes, AreMarks, Marks, FindsFree, new_one, ons}

-- the rows of modules
abbrev pub rows_of : List RootRow → List ℕ
rows_of ms = map (λ (m : RootRow). m.row) ms

-- another number behind changes nothing
names_apart : (ks : List ℕ) (e k : ℕ) → k ≢ e → names (ks ++ e ∷ []) k ≡ names ks k
names_apart [] e k ne = go (eqb e k) refl
  where
    go : (b : Bool) → eqb e k ≡ b → (b || false) ≡ false
    go true is = absurd (ne (sym (eqb-true e k is)))
    go false is = refl
names_apart (j ∷ ks) e k ne = ap (λ (b : Bool). eqb j k || b) (names_apart ks e k ne)

pub marks_none : (row : Option ℕ) (old new : List Bool) → row ≡ None → new ≡ old → Marks row old new
marks_none row old new is same =
    subst (λ (o : Option ℕ). Marks o old new) (sym is) (subst (λ (m : List Bool). Marks None old m) (sym same)
    (λ numbers many marks. subst (λ (ks : List ℕ). AreMarks ks many old) (sym (append-nil numbers)) marks))

pub marks_past : (row : Option ℕ) (n : ℕ) (old new : List Bool) → row ≡ Some n → length old ≤ n → new ≡ old → Marks row old new
marks_past row n old new is past same =
    subst (λ (o : Option ℕ). Marks o old new) (sym is) (subst (λ (m : List Bool). Marks (Some n) old m) (sym same) (λ numbers many marks. record {
      size = marks.size;
      each = λ k below. marks.each k below ∙ ap Some (sym (names_apart numbers n k (λ e. let m = marks.size in omega arith)));
    }))

pub marks_one : (row : Option ℕ) (n : ℕ) (old new : List Bool) → row ≡ Some n → n < length old → new ≡ set old n true → Marks row old new
marks_one row n old new is within put =
    subst (λ (o : Option ℕ). Marks o old new) (sym is) (subst (λ (m : List Bool). Marks (Some n) old m) (sym put) (λ numbers many marks. record {
      size = length-set old n true ∙ marks.size;
      each = λ k below. dite (ℕ_discrete k n)
          (λ (same : k ≡ n). ap (slice_get (set old n true)) same ∙ (put_here old n true within ∙ ap Some (sym (ap (names (numbers ++ n ∷ [])) same ∙ names-last numbers n))))
          (λ (ne : k ≢ n). put_else old n k true ne ∙ (marks.each k below ∙ ap Some (sym (names_apart numbers n k ne))));
    }))

-- no mark is on
off : (n k : ℕ) → k < n → slice_get (replicate n false) k ≡ Some false
off zero k below = absurd (omega arith)
off (suc n) zero below = refl
off (suc n) (suc k) below = off n k (omega arith)

pub no_marks : (many : ℕ) (marks : List Bool) → marks ≡ replicate many false → AreMarks [] many marks
no_marks many marks is = subst (λ (m : List Bool). AreMarks [] many m) (sym is) (record { size = length_off many; each = λ k below. off many k below })
  where
    length_off : (n : ℕ) → length (replicate n false) ≡ n
    length_off zero = refl
    length_off (suc n) = ap suc (length_off n)

-- the marks of one more row
pub more_marks : (kept : List (Option ℕ)) (i many : ℕ) (d : Option ℕ) (old new : List Bool) → i < length kept → AreMarks (somes (take i kept)) many old → Marks (get_or kept i d) old new → AreMarks (somes (take (i + 1) kept)) many new
more_marks kept i many d old new within marks marked =
    let all : somes (take (i + 1) kept) ≡ somes (take i kept) ++ option_to_list (get_or kept i d) = flat_more option_to_list kept i d within in
    subst (λ (ks : List ℕ). AreMarks ks many new) (sym all) (marked (somes (take i kept)) many marks)

pub all_marks : (kept : List (Option ℕ)) (many : ℕ) (marks : List Bool) → AreMarks (somes (take (length kept) kept)) many marks → AreMarks (somes kept) many marks
all_marks kept many marks are = subst (λ (ks : List (Option ℕ)). AreMarks (somes ks) many marks) (take_whole kept) are

pub more_rows : (ms : List RootRow) (i many : ℕ) (m : RootRow) (old new : List Bool) → i < length ms → m ≡ get_or ms i m → AreMarks (rows_of (take i ms)) many old → Marks (Some m.row) old new
    → AreMarks (rows_of (take (i + 1) ms)) many new
more_rows ms i many m old new within is marks marked =
    let next = map_take ms i m (get_index ms i m within is) in
    subst (λ (ks : List ℕ). AreMarks ks many new) (sym next) (marked (rows_of (take i ms)) many marks)
  where
    map_take : (xs : List RootRow) (i : ℕ) (x : RootRow) → slice_get xs i ≡ Some x → rows_of (take (i + 1) xs) ≡ rows_of (take i xs) ++ x.row ∷ []
    map_take [] i x at = absurd (let z : None ≡ Some x = at in cc)
    map_take (y ∷ xs) zero x at = ap (λ (z : RootRow). z.row ∷ []) (one_value y x at)
    map_take (y ∷ xs) (suc i) x at = let n : suc i + 1 ≡ suc (i + 1) = omega arith in rw n (ap (λ (l : List ℕ). y.row ∷ l) (map_take xs i x at))

pub all_rows : (ms : List RootRow) (many : ℕ) (marks : List Bool) → AreMarks (rows_of (take (length ms) ms)) many marks → AreMarks (rows_of ms) many marks
all_rows ms many marks are = subst (λ (rs : List RootRow). AreMarks (rows_of rs) many marks) (take_whole ms) are

-- ---- the rows that are given by marks are those that the definition gives

-- kept rows, from the marks' list
pub same_kept : (old : List RootRow) (program : Program) → somes (map (λ (m : Bytes × Bytes). row_of old m.0) program) ≡ kept_rows old program
same_kept old program = flat_map-map option_to_list (λ (m : Bytes × Bytes). row_of old m.0) program

pub least_free : (taken : List ℕ) (many : ℕ) (marks : List Bool) (from free : ℕ) → AreMarks taken many marks → free < many → FindsFree marks from free → IsLeastFree taken from free
least_free taken many marks from free are low finds = record {
  behind = finds.behind;
  free = (let z : Some false ≡ Some (names taken free) = sym finds.free ∙ are.each free low in cc);
  least = λ k behind before. (let z : Some true ≡ Some (names taken k) = sym (finds.least k behind before) ∙ are.each k (omega arith) in cc);
}

-- ---- the rows that are free again

-- those of some modules that the new root doesn't use
abbrev pub freed_in : Root → List RootRow → List ℕ
freed_in new ms = filter (λ row. not (names (rows_in new) row)) (rows_of ms)

freed_last : (p : ℕ → Bool) (ms : List RootRow) (i : ℕ) (m : RootRow) → slice_get ms i ≡ Some m → filter p (rows_of (take (i + 1) ms)) ≡ filter p (rows_of (take i ms)) ++ cond (p m.row) (m.row ∷ []) []
freed_last p [] i m at = absurd (let z : None ≡ Some m = at in cc)
freed_last p (n ∷ ms) zero m at = ap (λ (r : RootRow). cond (p r.row) (r.row ∷ []) []) (one_value n m at)
freed_last p (n ∷ ms) (suc i) m at = let up : suc i + 1 ≡ suc (i + 1) = omega arith in rw up (go (p n.row) (freed_last p ms i m at))
  where
    go : (b : Bool) → filter p (rows_of (take (i + 1) ms)) ≡ filter p (rows_of (take i ms)) ++ cond (p m.row) (m.row ∷ []) []
        → cond b (n.row ∷ filter p (rows_of (take (i + 1) ms))) (filter p (rows_of (take (i + 1) ms))) ≡ cond b (n.row ∷ filter p (rows_of (take i ms))) (filter p (rows_of (take i ms))) ++ cond (p m.row) (m.row ∷ []) []
    go true h = ap (λ (l : List ℕ). n.row ∷ l) h
    go false h = h

module _ (new : Root) (ms : List RootRow) (i many : ℕ) (m : RootRow) (marks : List Bool) (old now : List ℕ) (low : i < length ms) (is : m ≡ get_or ms i m) (are : AreMarks (rows_of new.modules) many marks) (room : m.row < many) (so_far : old ≡ freed_in new (take i ms)) where
  marked : (b : Bool) → get_or marks m.row false ≡ b → names (rows_in new) m.row ≡ b
  marked b at = let z : Some (names (rows_in new) m.row) ≡ Some b = sym (are.each m.row room) ∙ (there marks m.row (let s = are.size in omega arith) ∙ ap Some at) in cc
    where
      there : (xs : List Bool) (k : ℕ) → k < length xs → slice_get xs k ≡ Some (get_or xs k false)
      there [] k low = absurd (omega arith)
      there (x ∷ xs) zero low = refl
      there (x ∷ xs) (suc k) low = there xs k (omega arith)

  next : (b : Bool) → get_or marks m.row false ≡ b → freed_in new (take (i + 1) ms) ≡ old ++ cond (not b) (m.row ∷ []) []
  next b at = freed_last (λ row. not (names (rows_in new) row)) ms i m (get_index ms i m low is) ∙ (λ j. sym so_far j ++ cond (not (marked b at j)) (m.row ∷ []) [])

  pub freed_skip : get_or marks m.row false ≡ true → now ≡ old → now ≡ freed_in new (take (i + 1) ms)
  freed_skip at same = same ∙ (sym (append-nil old) ∙ sym (next true at))

  pub freed_more : get_or marks m.row false ≡ false → now ≡ old ++ m.row ∷ [] → now ≡ freed_in new (take (i + 1) ms)
  freed_more at pushed = pushed ∙ sym (next false at)

-- a mark, by the number as the code has it
pub mark_is : (marks : List Bool) (k row : ℕ) (b t : Bool) → k < length marks → row ≡ k → b ≡ get_or marks row b → b ≡ t → get_or marks k false ≡ t
mark_is marks k row b t low same is eq =
    let low_row : row < length marks = subst (λ (n : ℕ). n < length marks) (sym same) low in
    one_value (get_or marks k false) b (sym (place_at marks k false low) ∙ (ap (slice_get marks) (sym same) ∙ get_index marks row b low_row is)) ∙ eq

pub freed_all : (old new : Root) (ms : List RootRow) (i : ℕ) (freed : List ℕ) → ms ≡ old.modules → i ≡ length ms → freed ≡ freed_in new (take i ms) → freed ≡ freed_from old new
freed_all old new ms i freed same all is =
    is ∙ (ap (λ (n : ℕ). freed_in new (take n ms)) all ∙ (ap (freed_in new) (take_whole ms) ∙ ap (freed_in new) same))

-- the row of a module is below the capacity
pub row_below : (n capacity : ℕ) (ms : List RootRow) (i : ℕ) (m : RootRow) → AllByRecursion (λ m. errors_entity m.row < n) ms → n ≡ 4 * capacity + 1 → i < length ms → m ≡ get_or ms i m → m.row < capacity
row_below n capacity [] i m all size low is = absurd (omega arith)
row_below n capacity (k ∷ ms) zero m all size low is = (let a = all.0 in let e : m.row ≡ k.row = ap (λ (r : RootRow). r.row) is in omega arith)
row_below n capacity (k ∷ ms) (suc i) m all size low is = row_below n capacity ms i m all.1 size (omega arith) is

-- ---- how many marks are on

pub ons_none : (row : Option ℕ) (old new : List Bool) → row ≡ None → new ≡ old → ons new + new_one row ≤ ons old + 1
ons_none row old new is same = let n : new_one row ≡ 1 = ap new_one is in let o : ons new ≡ ons old = ap ons same in omega (arith, n, o)

ons_set : (marks : List Bool) (k : ℕ) → ons (set marks k true) ≤ suc (ons marks)
ons_set [] k = omega arith
ons_set (true ∷ marks) zero = omega arith
ons_set (false ∷ marks) zero = omega arith
ons_set (true ∷ marks) (suc k) = let r = ons_set marks k in omega (arith, r)
ons_set (false ∷ marks) (suc k) = ons_set marks k

pub ons_past : (row : Option ℕ) (n : ℕ) (old new : List Bool) → row ≡ Some n → new ≡ old → ons new + new_one row ≤ ons old + 1
ons_past row n old new is same = let z : new_one row ≡ 0 = ap new_one is in let o : ons new ≡ ons old = ap ons same in omega (arith, z, o)

pub ons_one : (row : Option ℕ) (n : ℕ) (old new : List Bool) → row ≡ Some n → new ≡ set old n true → ons new + new_one row ≤ ons old + 1
ons_one row n old new is put = let z : new_one row ≡ 0 = ap new_one is in let o : ons new ≡ ons (set old n true) = ap ons put in let s = ons_set old n in omega (arith, z, o, s)
