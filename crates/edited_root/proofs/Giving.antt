-- The rows that are given: by marks, one after the other, and what the new root is by them.
use Rattle.std.proofs.Common.{◌≡◌, ◌≢◌, ◌⊎◌, ℕ, zero, suc, ◌+◌, ◌*◌, ◌<◌, ◌≤◌, Bool, true, false, cond, List, [], ◌∷◌, ◌++◌, map, length, drop, slice_get, get_or, Option, Some, None, refl, sym, ap, ◌∙◌, subst, inl, inr, arith, append-nil, append_assoc, bytes_eq}
use Rattle.std.specs.Prelude.{eqb, ◌||◌, option_to_list}
use Rattle.std.specs.List.{AllByRecursion}
use Rattle.std.specs.List.Sorted.{IsStrictlySortedBy}
use Rattle.std.specs.Map.{keys_of}
use Rattle.std.specs.Ordering.{nat_cmp}
use Rattle.std.specs.Cmp.Lexicographic.{slice_cmp, bytes_decides}
use Rattle.std.specs.declared.cmp.Ordering.TheVariants.{Less}
use Rattle.std.proofs.lemmas.Bool.{eqb-true}
use Rattle.heap_core.specs.Meaning.{names}
use Rattle.heap_core.proofs.Names.{names-first, names-later}
use Rattle.heap_core.proofs.Lists.{drop_step}
use Rattle.flow_base.specs.Program.{Bytes, Program, IsRising, paths_of}
use Rattle.flow_base.proofs.Rising.{IsBelowAll, below_all, not_below_itself, rising_rest}
use Rattle.check_values.specs.declared.root.RootRow.{RootRow}
use Rattle.check_values.specs.declared.root.Root.{Root}
use Rattle.payloads.specs.Entities.{errors_entity}
use Rattle.payloads.specs.State.{HaveOwnRows, IsRoot}
use Rattle.pending_edits.specs.Rows.{row_of, kept_rows, IsRowOf, next_from, AreNumbered, Follows}
use Rattle.edited_root.proofs.Lists.{within_there, place_at, drop_none}
use Rattle.edited_root.specs.Numbering.{somes, AreMarks, IsGivenRow, AreGiven}
use Rattle.edited_root.proofs.Marks.{same_kept, least_free}

-- ---- one row after the other

-- whatever rows the rest gets, all have theirs
abbrev pub GivesRest : List (Option ℕ) → List Bool → Program → ℕ → ℕ → Program → List RootRow → Type 0
GivesRest kept marks program i from left rows = (rest : List RootRow) → AreGiven (drop i kept) marks from left rest → AreGiven kept marks 0 program (rows ++ rest)

pub gives_more : (kept : List (Option ℕ)) (marks : List Bool) (program : Program) (i from next : ℕ) (path text : Bytes) (k : Option ℕ) (row : RootRow) (left rest : Program) (old new : List RootRow) → i < length kept → k ≡ get_or kept i None
    → left ≡ (path, text) ∷ rest → row.path ≡ path → row.text ≡ text → IsGivenRow marks from k row.row → next ≡ next_from from k row.row → new ≡ old ++ row ∷ [] → GivesRest kept marks program i from left old
    → GivesRest kept marks program (i + 1) next rest new
gives_more kept marks program i from next path text k row left rest old new low is_k is_left is_path is_text given is_next pushed so_far more are =
    let step : drop i kept ≡ k ∷ drop (i + 1) kept = drop_step kept i k (place_at kept i None low ∙ ap Some (sym is_k)) in
    let here : AreGiven (k ∷ drop (i + 1) kept) marks from ((path, text) ∷ rest) (row ∷ more) =
    (is_path, is_text, given, subst (λ (n : ℕ). AreGiven (drop (i + 1) kept) marks n rest more) is_next are) in
    let all = so_far (row ∷ more) (subst (λ (ks : List (Option ℕ)). AreGiven ks marks from left (row ∷ more)) (sym step) (subst (λ (p : Program). AreGiven (k ∷ drop (i + 1) kept) marks from p (row ∷ more)) (sym is_left) here)) in
    subst (λ (l : List RootRow). AreGiven kept marks 0 program l) (sym (ap (λ (l : List RootRow). l ++ more) pushed ∙ append_assoc old (row ∷ []) more)) all

pub gives_all : (kept : List (Option ℕ)) (marks : List Bool) (program : Program) (i from : ℕ) (left : Program) (rows : List RootRow) → i + length left ≡ length kept → left ≡ [] → GivesRest kept marks program i from left rows → AreGiven kept marks 0 program rows
gives_all kept marks program i from left rows many done so_far =
    let none : drop i kept ≡ [] = past kept i (let l = ap length done in omega (arith, l, many)) in
    subst (λ (l : List RootRow). AreGiven kept marks 0 program l) (append-nil rows)
    (so_far [] (subst (λ (ks : List (Option ℕ)). AreGiven ks marks from left []) (sym none) (subst (λ (p : Program). AreGiven [] marks from p []) (sym done) tt)))
  where
    past : (xs : List (Option ℕ)) (i : ℕ) → length xs ≤ i → drop i xs ≡ []
    past [] zero h = refl
    past [] (suc i) h = refl
    past (x ∷ xs) zero h = absurd (omega arith)
    past (x ∷ xs) (suc i) h = past xs i (omega arith)

pub gives_none : (kept : List (Option ℕ)) (marks : List Bool) (program left : Program) (rows : List RootRow) → left ≡ program → rows ≡ [] → GivesRest kept marks program 0 0 left rows
gives_none kept marks program left rows same none rest are =
    let whole : AreGiven kept marks 0 left rest = subst (λ (ks : List (Option ℕ)). AreGiven ks marks 0 left rest) (drop_none kept) are in
    subst (λ (l : List RootRow). AreGiven kept marks 0 program (l ++ rest)) (sym none) (subst (λ (p : Program). AreGiven kept marks 0 p rest) same whole)

-- ---- the definition's rows

numbered : (old : List RootRow) (taken : List ℕ) (many : ℕ) (marks : List Bool) → AreMarks taken many marks → (from : ℕ) (program : Program) (rows : List RootRow)
    → AreGiven (map (λ (m : Bytes × Bytes). row_of old m.0) program) marks from program rows → AreNumbered old taken from program rows
numbered old taken many marks are from [] [] given = tt
numbered old taken many marks are from [] (r ∷ rows) given = absurd given
numbered old taken many marks are from (m ∷ program) [] given = absurd given
numbered old taken many marks are from (m ∷ program) (r ∷ rows) given =
    (given.0, given.1, one (row_of old m.0) given.2, numbered old taken many marks are (next_from from (row_of old m.0) r.row) program rows given.3)
  where
    one : (k : Option ℕ) → IsGivenRow marks from k r.row → IsRowOf taken from k r.row
    one (Some kept) is = is
    one None finds = least_free taken many marks from r.row are (let low = within_there marks r.row false finds.free in let s = are.size in omega arith) finds

pub follows_old : (old new : Root) (program : Program) (kept : List (Option ℕ)) (many : ℕ) (marks : List Bool) → kept ≡ map (λ (m : Bytes × Bytes). row_of old.modules m.0) program → AreMarks (somes kept) many marks
    → AreGiven kept marks 0 program new.modules → Follows old program new
follows_old old new program kept many marks is are given =
    let marked : AreMarks (kept_rows old.modules program) many marks = subst (λ (ks : List ℕ). AreMarks ks many marks) (ap somes is ∙ same_kept old.modules program) are in
    numbered old.modules (kept_rows old.modules program) many marks marked 0 program new.modules (subst (λ (ks : List (Option ℕ)). AreGiven ks marks 0 program new.modules) is given)

-- ---- the new root's rows are its own

-- no number is kept twice
abbrev KeptOnce : List (Option ℕ) → Type 0
KeptOnce [] = Unit {0}
KeptOnce (None ∷ kept) = KeptOnce kept
KeptOnce (Some k ∷ kept) = (names (somes kept) k ≡ false) × KeptOnce kept

-- the marks are on at what is kept
abbrev Covers : List Bool → List (Option ℕ) → Type 0
Covers marks kept = (k : ℕ) → names (somes kept) k ≡ true → slice_get marks k ≡ Some true

covers_later : (marks : List Bool) (o : Option ℕ) (kept : List (Option ℕ)) → Covers marks (o ∷ kept) → Covers marks kept
covers_later marks None kept covers = covers
covers_later marks (Some j) kept covers = λ k named. covers k (names-later j (somes kept) k named)

-- each row is a kept one, or a free one from a number on
rows_from : (kept : List (Option ℕ)) (marks : List Bool) (from : ℕ) (program : Program) (rows : List RootRow) → AreGiven kept marks from program rows
    → AllByRecursion (λ r. (names (somes kept) r.row ≡ true) ⊎ ((from ≤ r.row) × (slice_get marks r.row ≡ Some false))) rows
rows_from [] marks from [] [] given = tt
rows_from [] marks from [] (r ∷ rows) given = absurd given
rows_from [] marks from (m ∷ program) rows given = absurd given
rows_from (k ∷ kept) marks from [] rows given = absurd given
rows_from (k ∷ kept) marks from (m ∷ program) [] given = absurd given
rows_from (None ∷ kept) marks from (m ∷ program) (r ∷ rows) given =
    (inr (given.2.behind, given.2.free), later rows (rows_from kept marks (suc r.row) program rows given.3))
  where
    later : (rs : List RootRow) → AllByRecursion (λ q. (names (somes kept) q.row ≡ true) ⊎ ((suc r.row ≤ q.row) × (slice_get marks q.row ≡ Some false))) rs
        → AllByRecursion (λ q. (names (somes kept) q.row ≡ true) ⊎ ((from ≤ q.row) × (slice_get marks q.row ≡ Some false))) rs
    later [] all = tt
    later (q ∷ rs) all = (elim all.0 [ inl named ↦ inl named | inr free ↦ inr ((let b = given.2.behind in let f = free.0 in omega arith), free.1) ], later rs all.1)
rows_from (Some k ∷ kept) marks from (m ∷ program) (r ∷ rows) given =
    (inl (subst (λ (n : ℕ). names (k ∷ somes kept) n ≡ true) (sym given.2) (names-first k (somes kept))), later rows (rows_from kept marks from program rows given.3))
  where
    later : (rs : List RootRow) → AllByRecursion (λ q. (names (somes kept) q.row ≡ true) ⊎ ((from ≤ q.row) × (slice_get marks q.row ≡ Some false))) rs
        → AllByRecursion (λ q. (names (k ∷ somes kept) q.row ≡ true) ⊎ ((from ≤ q.row) × (slice_get marks q.row ≡ Some false))) rs
    later [] all = tt
    later (q ∷ rs) all = (elim all.0 [ inl named ↦ inl (names-later k (somes kept) q.row named) | inr free ↦ inr free ], later rs all.1)

own_rows : (kept : List (Option ℕ)) (marks : List Bool) (from : ℕ) (program : Program) (rows : List RootRow) → KeptOnce kept → Covers marks kept → AreGiven kept marks from program rows → HaveOwnRows rows
own_rows [] marks from [] [] once covers given = tt
own_rows [] marks from [] (r ∷ rows) once covers given = absurd given
own_rows [] marks from (m ∷ program) rows once covers given = absurd given
own_rows (k ∷ kept) marks from [] rows once covers given = absurd given
own_rows (k ∷ kept) marks from (m ∷ program) [] once covers given = absurd given
own_rows (None ∷ kept) marks from (m ∷ program) (r ∷ rows) once covers given =
    (apart rows (rows_from kept marks (suc r.row) program rows given.3), own_rows kept marks (suc r.row) program rows once covers given.3)
  where
    apart : (rs : List RootRow) → AllByRecursion (λ q. (names (somes kept) q.row ≡ true) ⊎ ((suc r.row ≤ q.row) × (slice_get marks q.row ≡ Some false))) rs → AllByRecursion (λ q. r.row ≢ q.row) rs
    apart [] all = tt
    apart (q ∷ rs) all = (
      (λ same. elim all.0 [
        | inl named ↦ (let z : Some false ≡ Some true = sym given.2.free ∙ (ap (slice_get marks) same ∙ covers q.row named) in cc)
        | inr free ↦ (let f = free.0 in omega arith)
      ]),
      apart rs all.1,
    )
own_rows (Some k ∷ kept) marks from (m ∷ program) (r ∷ rows) once covers given =
    (apart rows (rows_from kept marks from program rows given.3), own_rows kept marks from program rows once.1 (covers_later marks (Some k) kept covers) given.3)
  where
    on : slice_get marks k ≡ Some true
    on = covers k (names-first k (somes kept))

    apart : (rs : List RootRow) → AllByRecursion (λ q. (names (somes kept) q.row ≡ true) ⊎ ((from ≤ q.row) × (slice_get marks q.row ≡ Some false))) rs → AllByRecursion (λ q. r.row ≢ q.row) rs
    apart [] all = tt
    apart (q ∷ rs) all = (
      (λ same. elim all.0 [
        | inl named ↦ (let z : false ≡ true = sym once.0 ∙ (ap (names (somes kept)) (sym given.2 ∙ same) ∙ named) in cc)
        | inr free ↦ (let z : Some false ≡ Some true = sym free.1 ∙ (ap (slice_get marks) (sym same ∙ given.2) ∙ on) in cc)
      ]),
      apart rs all.1,
    )

-- each row has a mark
rows_marked : (kept : List (Option ℕ)) (marks : List Bool) (from : ℕ) (program : Program) (rows : List RootRow) → Covers marks kept → AreGiven kept marks from program rows → AllByRecursion (λ r. r.row < length marks) rows
rows_marked kept marks from program rows covers given = go rows (rows_from kept marks from program rows given)
  where
    go : (rs : List RootRow) → AllByRecursion (λ q. (names (somes kept) q.row ≡ true) ⊎ ((from ≤ q.row) × (slice_get marks q.row ≡ Some false))) rs → AllByRecursion (λ r. r.row < length marks) rs
    go [] all = tt
    go (q ∷ rs) all = (elim all.0 [ inl named ↦ within_there marks q.row true (covers q.row named) | inr free ↦ within_there marks q.row false free.1 ], go rs all.1)

-- the paths of a program that is given are those of its rows
pub same_given : (kept : List (Option ℕ)) (marks : List Bool) (from : ℕ) (program : Program) (rows : List RootRow) → AreGiven kept marks from program rows → map (λ (m : RootRow). (m.path, m.text)) rows ≡ program
same_given [] marks from [] [] given = refl
same_given [] marks from [] (r ∷ rows) given = absurd given
same_given [] marks from (m ∷ program) rows given = absurd given
same_given (k ∷ kept) marks from [] rows given = absurd given
same_given (k ∷ kept) marks from (m ∷ program) [] given = absurd given
same_given (k ∷ kept) marks from (m ∷ program) (r ∷ rows) given =
    λ j. (given.0 j, given.1 j) ∷ same_given kept marks (next_from from k r.row) program rows given.3 j

-- ---- the rows of the old root

-- a row of another module
other_row : (ms : List RootRow) (path : Bytes) (j k : ℕ) → AllByRecursion (λ n. j ≢ n.row) ms → row_of ms path ≡ Some k → j ≢ k
other_row [] path j k apart is = absurd (let z : None ≡ Some k = is in cc)
other_row (m ∷ ms) path j k apart is = go (bytes_eq m.path path) (λ h. other_row ms path j k apart.1 h) is
  where
    go : (b : Bool) → (row_of ms path ≡ Some k → j ≢ k) → cond b (Some m.row) (row_of ms path) ≡ Some k → j ≢ k
    go true later h = λ same. apart.0 (same ∙ (let z : Some k ≡ Some m.row = sym h in cc))
    go false later h = later h

-- a row is that of one path
one_path : (ms : List RootRow) (p q : Bytes) (k : ℕ) → HaveOwnRows ms → row_of ms p ≡ Some k → row_of ms q ≡ Some k → p ≡ q
one_path [] p q k own a b = absurd (let z : None ≡ Some k = a in cc)
one_path (m ∷ ms) p q k own a b = go (λ h i. one_path ms p q k own.1 h i) (bytes_eq m.path p) (bytes_eq m.path q) refl refl a b
  where
    go : (row_of ms p ≡ Some k → row_of ms q ≡ Some k → p ≡ q) → (c d : Bool) → bytes_eq m.path p ≡ c → bytes_eq m.path q ≡ d → cond c (Some m.row) (row_of ms p) ≡ Some k → cond d (Some m.row) (row_of ms q) ≡ Some k → p ≡ q
    go later true true e f h i = sym ((bytes_decides m.path p).0 e) ∙ (bytes_decides m.path q).0 f
    go later true false e f h i = absurd (other_row ms q m.row k own.0 i (let z : Some m.row ≡ Some k = h in cc))
    go later false true e f h i = absurd (other_row ms p m.row k own.0 h (let z : Some m.row ≡ Some k = i in cc))
    go later false false e f h i = later h i

-- the row of a path is none of those of paths above it
unnamed : (old : List RootRow) (path : Bytes) (k : ℕ) → HaveOwnRows old → row_of old path ≡ Some k → (ns : Program) → IsBelowAll path (paths_of ns) → names (somes (map (λ (n : Bytes × Bytes). row_of old n.0) ns)) k ≡ false
unnamed old path k own is [] below = refl
unnamed old path k own is (n ∷ ns) below = one (row_of old n.0) refl (unnamed old path k own is ns below.1)
  where
    two : (j : ℕ) → row_of old n.0 ≡ Some j → (b : Bool) → eqb j k ≡ b → names (somes (map (λ (n : Bytes × Bytes). row_of old n.0) ns)) k ≡ false
        → (b || names (somes (map (λ (n : Bytes × Bytes). row_of old n.0) ns)) k) ≡ false
    two j e true f later =
        let same : path ≡ n.0 = one_path old path n.0 k own is (e ∙ ap Some (eqb-true j k f)) in
        absurd (not_below_itself path (subst (λ (p : Bytes). slice_cmp nat_cmp path p ≡ Less) (sym same) below.0))
    two j e false f later = later

    one : (o : Option ℕ) → row_of old n.0 ≡ o → names (somes (map (λ (n : Bytes × Bytes). row_of old n.0) ns)) k ≡ false
        → names (option_to_list o ++ somes (map (λ (n : Bytes × Bytes). row_of old n.0) ns)) k ≡ false
    one None e later = later
    one (Some j) e later = two j e (eqb j k) refl later

kept_once : (old : List RootRow) (program : Program) → HaveOwnRows old → IsRising (paths_of program) → KeptOnce (map (λ (m : Bytes × Bytes). row_of old m.0) program)
kept_once old [] own rising = tt
kept_once old (m ∷ program) own rising = go (row_of old m.0) refl (kept_once old program own (rising_rest m.0 (paths_of program) rising))
  where
    go : (o : Option ℕ) → row_of old m.0 ≡ o → KeptOnce (map (λ (m : Bytes × Bytes). row_of old m.0) program) → KeptOnce (o ∷ map (λ (m : Bytes × Bytes). row_of old m.0) program)
    go None e rest = rest
    go (Some k) e rest = (unnamed old m.0 k own e program (below_all m.0 (paths_of program) rising), rest)

row_room : (ms : List RootRow) (path : Bytes) (k capacity : ℕ) → AllByRecursion (λ m. errors_entity m.row < 4 * capacity + 1) ms → row_of ms path ≡ Some k → k < capacity
row_room [] path k capacity room is = absurd (let z : None ≡ Some k = is in cc)
row_room (m ∷ ms) path k capacity room is = go (bytes_eq m.path path) (λ h. row_room ms path k capacity room.1 h) is
  where
    go : (b : Bool) → (row_of ms path ≡ Some k → k < capacity) → cond b (Some m.row) (row_of ms path) ≡ Some k → k < capacity
    go true later h = (let e : m.row ≡ k = (let z : Some m.row ≡ Some k = h in cc) in let r = room.0 in omega arith)
    go false later h = later h

kept_room : (old : List RootRow) (program : Program) (capacity : ℕ) → AllByRecursion (λ m. errors_entity m.row < 4 * capacity + 1) old → (k : ℕ) → names (somes (map (λ (m : Bytes × Bytes). row_of old m.0) program)) k ≡ true → k < capacity
kept_room old [] capacity room k named = absurd (let z : false ≡ true = named in cc)
kept_room old (m ∷ program) capacity room k named = go (row_of old m.0) refl (λ h. kept_room old program capacity room k h) named
  where
    one : (j : ℕ) → row_of old m.0 ≡ Some j → (b : Bool) → eqb j k ≡ b → (names (somes (map (λ (m : Bytes × Bytes). row_of old m.0) program)) k ≡ true → k < capacity)
        → (b || names (somes (map (λ (m : Bytes × Bytes). row_of old m.0) program)) k) ≡ true → k < capacity
    one j e true f later h = row_room old m.0 k capacity room (e ∙ ap Some (eqb-true j k f))
    one j e false f later h = later h

    go : (o : Option ℕ) → row_of old m.0 ≡ o → (names (somes (map (λ (m : Bytes × Bytes). row_of old m.0) program)) k ≡ true → k < capacity)
        → names (option_to_list o ++ somes (map (λ (m : Bytes × Bytes). row_of old m.0) program)) k ≡ true → k < capacity
    go None e later h = later h
    go (Some j) e later h = one j e (eqb j k) refl later h

-- ---- the new root

room_all : (capacity : ℕ) (rows : List RootRow) → AllByRecursion (λ r. r.row < capacity) rows → AllByRecursion (λ m. errors_entity m.row < 4 * capacity + 1) rows
room_all capacity [] low = tt
room_all capacity (r ∷ rows) low = ((let l = low.0 in omega arith), room_all capacity rows low.1)

pub is_root : (old new : Root) (program : Program) (kept : List (Option ℕ)) (capacity : ℕ) (marks : List Bool) → IsRoot (4 * capacity + 1) old → IsRising (paths_of program) → kept ≡ map (λ (m : Bytes × Bytes). row_of old.modules m.0) program
    → AreMarks (somes kept) capacity marks → AreGiven kept marks 0 program new.modules → IsRoot (4 * capacity + 1) new
is_root old new program kept capacity marks root rising is are given =
    let covers : Covers marks kept = (λ k named. are.each k (kept_room old.modules program capacity root.room k (subst (λ (ks : List (Option ℕ)). names (somes ks) k ≡ true) is named)) ∙ ap Some named) in
    let once : KeptOnce kept = subst KeptOnce (sym is) (kept_once old.modules program root.rows rising) in
    record {
      rising = subst (λ (p : Program). IsRising (paths_of p)) (sym (same_given kept marks 0 program new.modules given)) rising;
      rows = own_rows kept marks 0 program new.modules once covers given;
      room = room_all capacity new.modules (subst (λ (n : ℕ). AllByRecursion (λ r. r.row < n) new.modules) are.size (rows_marked kept marks 0 program new.modules covers given));
    }
