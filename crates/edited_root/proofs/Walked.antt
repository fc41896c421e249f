-- The walk goes on by one module, or behind one path.
use Rattle.std.proofs.Common.{◌≡◌, ◌≢◌, ℕ, zero, suc, ◌+◌, ◌<◌, ◌≤◌, Bool, true, false, not, cond, List, [], ◌∷◌, ◌++◌, map, length, take, drop, get_or, slice_get, Option, Some, None, refl, sym, ap, ◌∙◌, subst, arith, append-nil, append_assoc, bytes_eq}
use Rattle.std.specs.List.{AllByRecursion}
use Rattle.std.specs.Option.{option_map}
use Rattle.std.specs.Map.{remove_entry}
use Rattle.std.specs.BTreeMap.{insert_entry, is_at}
use Rattle.std.specs.Ordering.{nat_cmp, is_lt, is_eq, match_ordering, ordering_reverse}
use Rattle.std.specs.Cmp.Lexicographic.{slice_cmp, nat_list_cmp_total, bytes_decides}
use Rattle.std.specs.declared.cmp.Ordering.{Ordering}
use Rattle.std.specs.declared.cmp.Ordering.TheVariants.{Less, Equal, Greater}
use Rattle.std.proofs.lemmas.Map.Text.{is_eq-slice_cmp}
use Rattle.heap_core.proofs.Lists.{drop_step, drop_past}
use Rattle.flow_values.specs.Path.{IsRising}
use Rattle.flow_base.specs.Program.{Bytes, Program, text_at}
use Rattle.flow_base.proofs.Rising.{below_all, carry, rising_rest, not_below_itself, found_behind}
use Rattle.check_values.specs.Roots.{paths_of_rows}
use Rattle.check_values.specs.declared.root.RootRow.{RootRow}
use Rattle.pending_edits.specs.Pending.{with_text}
use Rattle.edited_root.specs.From.{texts_in, number_in, has_text}
use Rattle.edited_root.specs.Walk.{IsDraftOf, drafted, is_below, is_here, kept_draft, new_draft, edited_draft, draft_beside, drafts_beside, behind, Walks, GivesText, KeepsOne, IsUnder, StandsBefore, AreDrafts}
use Rattle.edited_root.specs.declared.walking.Draft.{Draft}
use Rattle.edited_root.proofs.Lists.{one_value, take_next, take_whole, within_there}

-- ---- what stands at a path

above : (a b : Bytes) → slice_cmp nat_cmp a b ≡ Less → slice_cmp nat_cmp b a ≡ Greater
above a b below = nat_list_cmp_total.antisymm b a ∙ ap ordering_reverse below

under : (a b : Bytes) → slice_cmp nat_cmp a b ≡ Greater → slice_cmp nat_cmp b a ≡ Less
under a b over = nat_list_cmp_total.antisymm b a ∙ ap ordering_reverse over

-- paths in order differ
apart_less : (a b : Bytes) → slice_cmp nat_cmp a b ≡ Less → bytes_eq a b ≡ false
apart_less a b below = sym (is_eq-slice_cmp a b) ∙ ap is_eq below

apart_more : (a b : Bytes) → slice_cmp nat_cmp b a ≡ Less → bytes_eq a b ≡ false
apart_more a b below = sym (is_eq-slice_cmp a b) ∙ ap is_eq (above b a below)

-- the module of a number has that number
pub number_here : (ms : List RootRow) (at : ℕ) (m : RootRow) → IsRising (paths_of_rows ms) → slice_get ms at ≡ Some m → (number_in ms m.path ≡ Some at) × (text_at (texts_in ms) m.path ≡ Some m.text)
number_here [] at m rising there = absurd (let z : None ≡ Some m = there in cc)
number_here (n ∷ ms) zero m rising there =
    let is : n ≡ m = one_value n m there in
    let same : bytes_eq n.path m.path ≡ true = (bytes_decides n.path m.path).1 (ap (λ (r : RootRow). r.path) is) in
    (ap (λ (b : Bool). cond b (Some 0) (option_map suc (number_in ms m.path))) same, ap (λ (b : Bool). cond b (Some n.text) (text_at (texts_in ms) m.path)) same ∙ ap (λ (r : RootRow). Some r.text) is)
number_here (n ∷ ms) (suc at) m rising there =
    let rest = number_here ms at m (rising_rest n.path (paths_of_rows ms) rising) there in
    let apart : bytes_eq n.path m.path ≡ false = apart_less n.path m.path (below_there n.path ms at m (below_all n.path (paths_of_rows ms) rising) there) in
    (ap (λ (b : Bool). cond b (Some 0) (option_map suc (number_in ms m.path))) apart ∙ ap (option_map suc) rest.0, ap (λ (b : Bool). cond b (Some n.text) (text_at (texts_in ms) m.path)) apart ∙ rest.1)
  where
    below_there : (path : Bytes) (ms : List RootRow) (at : ℕ) (m : RootRow) → IsUnder (paths_of_rows ms) path → slice_get ms at ≡ Some m → slice_cmp nat_cmp path m.path ≡ Less
    below_there path [] at m all there = absurd (let z : None ≡ Some m = there in cc)
    below_there path (n ∷ ms) zero m all there = subst (λ (r : RootRow). slice_cmp nat_cmp path r.path ≡ Less) (one_value n m there) all.0
    below_there path (n ∷ ms) (suc at) m all there = below_there path ms at m all.1 there

-- a path that is above the modules before a number, and below the others, is none of theirs
no_number : (ms : List RootRow) (at : ℕ) (path : Bytes) → AllByRecursion (λ m. slice_cmp nat_cmp m.path path ≡ Less) (take at ms) → IsUnder (paths_of_rows (drop at ms)) path
    → (number_in ms path ≡ None) × (text_at (texts_in ms) path ≡ None)
no_number [] at path passed left = (refl, refl)
no_number (m ∷ ms) zero path passed left =
    let apart = apart_more m.path path left.0 in
    let rest = no_number ms zero path (none_taken ms) (subst (λ (l : List RootRow). IsUnder (paths_of_rows l) path) (sym (drop_zero ms)) left.1) in
    (ap (λ (b : Bool). cond b (Some 0) (option_map suc (number_in ms path))) apart ∙ ap (option_map suc) rest.0, ap (λ (b : Bool). cond b (Some m.text) (text_at (texts_in ms) path)) apart ∙ rest.1)
  where
    none_taken : (ms : List RootRow) → AllByRecursion (λ m. slice_cmp nat_cmp m.path path ≡ Less) (take zero ms)
    none_taken [] = tt
    none_taken (n ∷ ns) = tt

    drop_zero : (ms : List RootRow) → drop zero ms ≡ ms
    drop_zero [] = refl
    drop_zero (n ∷ ns) = refl
no_number (m ∷ ms) (suc at) path passed left =
    let apart = apart_less m.path path passed.0 in
    let rest = no_number ms at path passed.1 left in
    (ap (λ (b : Bool). cond b (Some 0) (option_map suc (number_in ms path))) apart ∙ ap (option_map suc) rest.0, ap (λ (b : Bool). cond b (Some m.text) (text_at (texts_in ms) path)) apart ∙ rest.1)

-- ---- lists that grow

all_more : {X : Type 0} (P : X → Type 0) (xs : List X) (x : X) → AllByRecursion P xs → P x → AllByRecursion P (xs ++ x ∷ [])
all_more P [] x all here = (here, tt)
all_more P (y ∷ xs) x all here = (all.0, all_more P xs x all.1 here)

drafted_more : (ds : List Draft) (d : Draft) (rest : Program) → drafted (ds ++ d ∷ []) ++ rest ≡ drafted ds ++ (d.path, d.text) ∷ rest
drafted_more [] d rest = refl
drafted_more (e ∷ ds) d rest = ap (λ (p : Program). (e.path, e.text) ∷ p) (drafted_more ds d rest)

-- ---- one module was taken over

pub keeps_one : (ms : List RootRow) (program : Program) (paths : List Bytes) (at : ℕ) (old new : List Draft) → IsRising (paths_of_rows ms) → KeepsOne ms at old new
    → ((m : RootRow) → slice_get ms at ≡ Some m → IsUnder paths m.path) → StandsBefore ms program paths at old → StandsBefore ms program paths (at + 1) new
keeps_one ms program paths at old new rising keeps below stands =
    let m = keeps.module_there in
    let there = keeps.is_there in
    let d : Draft = kept_draft at m in
    let here = number_here ms at m rising there in
    let same : bytes_eq m.text m.text ≡ true = (bytes_decides m.text m.text).1 refl in
    let low = within_there ms at m there in
    subst (λ (ds : List Draft). StandsBefore ms program paths (at + 1) ds) (sym keeps.kept) (record {
      is = stands.is ∙ (ap (λ (l : List RootRow). drafted old ++ texts_in l) (drop_step ms at m there) ∙ sym (drafted_more old d (texts_in (drop (at + 1) ms))));
      within = omega (arith, low);
      right = all_more (IsDraftOf ms) old d stands.right (sym here.0, sym (ap (λ (o : Option Bytes). not (has_text o m.text)) here.1 ∙ ap not same));
      taken = all_more (λ d. IsUnder paths d.path) old d stands.taken (below m there);
      passed = subst (AllByRecursion (λ m. IsUnder paths m.path)) (sym (take_next ms at m there)) (all_more (λ (m : RootRow). IsUnder paths m.path) (take at ms) m stands.passed (below m there));
    })

-- a module below the first of some paths is below all of them
pub below_paths : (path : Bytes) (paths : List Bytes) (m : RootRow) → IsRising (path ∷ paths) → is_below (Some m) path ≡ true → IsUnder (path ∷ paths) m.path
below_paths path paths m rising is =
    let less = is_less (slice_cmp nat_cmp m.path path) is in
    (less, carry m.path path less paths (below_all path paths rising))
  where
    is_less : (o : Ordering) → is_lt o ≡ true → o ≡ Less
    is_less Less e = refl
    is_less Equal e = absurd (let z : false ≡ true = e in cc)
    is_less Greater e = absurd (let z : false ≡ true = e in cc)

-- ---- a path was given its text

-- a text is put behind paths that are below its own
with_behind : (ds : List Draft) (rest : Program) (path : Bytes) (text : Option Bytes) → AllByRecursion (λ d. slice_cmp nat_cmp d.path path ≡ Less) ds → with_text (drafted ds ++ rest) path text ≡ drafted ds ++ with_text rest path text
with_behind [] rest path text below = refl
with_behind (d ∷ ds) rest path (Some text) below =
    ap (λ (o : Ordering). match_ordering o ((path, text) ∷ (d.path, d.text) ∷ (drafted ds ++ rest)) ((d.path, text) ∷ (drafted ds ++ rest)) ((d.path, d.text) ∷ insert_entry (slice_cmp nat_cmp) (drafted ds ++ rest) path text)) (above d.path path below.0)
    ∙ ap (λ (p : Program). (d.path, d.text) ∷ p) (with_behind ds rest path (Some text) below.1)
with_behind (d ∷ ds) rest path None below =
    ap (λ (o : Ordering). cond (is_eq o) (drafted ds ++ rest) ((d.path, d.text) ∷ remove_entry (is_at (slice_cmp nat_cmp path)) (drafted ds ++ rest))) (above d.path path below.0)
    ∙ ap (λ (p : Program). (d.path, d.text) ∷ p) (with_behind ds rest path None below.1)

-- a path that is below all is put before them, and taken away from none
with_before : (ms : List RootRow) (path : Bytes) (text : Option Bytes) → IsUnder (paths_of_rows ms) path → with_text (texts_in ms) path text ≡ drafted (drafts_beside None 0 path text) ++ texts_in ms
with_before [] path (Some text) below = refl
with_before [] path None below = refl
with_before (m ∷ ms) path (Some text) below =
    ap (λ (o : Ordering). match_ordering o ((path, text) ∷ (m.path, m.text) ∷ texts_in ms) ((m.path, text) ∷ texts_in ms) ((m.path, m.text) ∷ insert_entry (slice_cmp nat_cmp) (texts_in ms) path text)) below.0
with_before (m ∷ ms) path None below =
    ap (λ (o : Ordering). cond (is_eq o) (texts_in ms) ((m.path, m.text) ∷ remove_entry (is_at (slice_cmp nat_cmp path)) (texts_in ms))) below.0
    ∙ ap (λ (p : Program). (m.path, m.text) ∷ p) (with_before ms path None below.1)

-- the text of a path that is first is put in the place of the old one
with_here : (m : RootRow) (ms : List RootRow) (path : Bytes) (text : Option Bytes) → m.path ≡ path → with_text (texts_in (m ∷ ms)) path text ≡ drafted (drafts_beside None 0 path text) ++ texts_in ms
with_here m ms path text is = go text (equal path m.path (sym is))
  where
    equal : (a b : Bytes) → a ≡ b → slice_cmp nat_cmp a b ≡ Equal
    equal a b same = is_equal (slice_cmp nat_cmp a b) (is_eq-slice_cmp a b ∙ (bytes_decides a b).1 same)
      where
        is_equal : (o : Ordering) → is_eq o ≡ true → o ≡ Equal
        is_equal Less e = absurd (let z : false ≡ true = e in cc)
        is_equal Equal e = refl
        is_equal Greater e = absurd (let z : false ≡ true = e in cc)

    go : (text : Option Bytes) → slice_cmp nat_cmp path m.path ≡ Equal → with_text (texts_in (m ∷ ms)) path text ≡ drafted (drafts_beside None 0 path text) ++ texts_in ms
    go (Some text) e =
        ap (λ (o : Ordering). match_ordering o ((path, text) ∷ (m.path, m.text) ∷ texts_in ms) ((m.path, text) ∷ texts_in ms) ((m.path, m.text) ∷ insert_entry (slice_cmp nat_cmp) (texts_in ms) path text)) e
        ∙ ap (λ (p : Bytes). (p, text) ∷ texts_in ms) is
    go None e = ap (λ (o : Ordering). cond (is_eq o) (texts_in ms) ((m.path, m.text) ∷ remove_entry (is_at (slice_cmp nat_cmp path)) (texts_in ms))) e

-- what was below a path and later ones is below the later ones
under_rest : {X : Type 0} (f : X → Bytes) (path : Bytes) (paths : List Bytes) (xs : List X) → AllByRecursion (λ x. IsUnder (path ∷ paths) (f x)) xs → AllByRecursion (λ x. IsUnder paths (f x)) xs
under_rest f path paths [] all = tt
under_rest f path paths (x ∷ xs) all = (all.0.1, under_rest f path paths xs all.1)

under_first : {X : Type 0} (f : X → Bytes) (path : Bytes) (paths : List Bytes) (xs : List X) → AllByRecursion (λ x. IsUnder (path ∷ paths) (f x)) xs → AllByRecursion (λ x. slice_cmp nat_cmp (f x) path ≡ Less) xs
under_first f path paths [] all = tt
under_first f path paths (x ∷ xs) all = (all.0.0, under_first f path paths xs all.1)

-- modules from a number on rise
rising_from : (ms : List RootRow) (at : ℕ) → IsRising (paths_of_rows ms) → IsRising (paths_of_rows (drop at ms))
rising_from [] zero rising = tt
rising_from [] (suc at) rising = tt
rising_from (m ∷ ms) zero rising = rising
rising_from (m ∷ ms) (suc at) rising = rising_from ms at (rising_rest m.path (paths_of_rows ms) rising)

module _ (ms : List RootRow) (path : Bytes) (paths : List Bytes) (program : Program) (at : ℕ) (old : List Draft) (rising : IsRising (paths_of_rows ms)) (order : IsRising (path ∷ paths)) (stands : StandsBefore ms program (path ∷ paths) at old) where
  -- the program with the text, where all modules that are left are above the path
  given : (text : Option Bytes) → with_text program path text ≡ drafted old ++ with_text (texts_in (drop at ms)) path text
  given text = ap (λ (p : Program). with_text p path text) stands.is ∙ with_behind old (texts_in (drop at ms)) path text (under_first (λ (d : Draft). d.path) path paths old stands.taken)

  -- the drafts with one behind them, if there is a text
  right_more : (d : Option RootRow) (n : ℕ) (text : Option Bytes) → ((t : Bytes) → text ≡ Some t → IsDraftOf ms (draft_beside d n path t)) → AllByRecursion (IsDraftOf ms) (old ++ drafts_beside d n path text)
  right_more d n None is = subst (AllByRecursion (IsDraftOf ms)) (sym (append-nil old)) stands.right
  right_more d n (Some t) is = all_more (IsDraftOf ms) old (draft_beside d n path t) stands.right (is t refl)

  path_of : (d : Option RootRow) (n : ℕ) (t : Bytes) → ((draft_beside d n path t).path ≡ path) × ((draft_beside d n path t).text ≡ t)
  path_of None n t = (refl, refl)
  path_of (Some m) n t = go (bytes_eq m.path path)
    where
      go : (b : Bool) → ((cond b (edited_draft m n path t) (new_draft path t)).path ≡ path) × ((cond b (edited_draft m n path t) (new_draft path t)).text ≡ t)
      go true = (refl, refl)
      go false = (refl, refl)

  taken_more : (d : Option RootRow) (n : ℕ) (text : Option Bytes) → AllByRecursion (λ d. IsUnder paths d.path) (old ++ drafts_beside d n path text)
  taken_more d n None = subst (AllByRecursion (λ (d : Draft). IsUnder paths d.path)) (sym (append-nil old)) (under_rest (λ (d : Draft). d.path) path paths old stands.taken)
  taken_more d n (Some t) =
      all_more (λ (d : Draft). IsUnder paths d.path) old (draft_beside d n path t) (under_rest (λ (d : Draft). d.path) path paths old stands.taken) (subst (IsUnder paths) (sym (path_of d n t).0) (below_all path paths order))

  -- what was drafted, in a program
  drafted_given : (d : Option RootRow) (n : ℕ) (text : Option Bytes) (rest : Program) → drafted old ++ (drafted (drafts_beside None 0 path text) ++ rest) ≡ drafted (old ++ drafts_beside d n path text) ++ rest
  drafted_given d n None rest = ap (λ (ds : List Draft). drafted ds ++ rest) (sym (append-nil old))
  drafted_given d n (Some t) rest = (let p = path_of d n t in λ j. drafted old ++ (sym p.0 j, sym p.1 j) ∷ rest) ∙ sym (drafted_more old (draft_beside d n path t) rest)

  -- no module has the path
  pub gives_new : (text : Option Bytes) (d : Option RootRow) → slice_get ms at ≡ d → is_below d path ≡ false → is_here d path ≡ false → StandsBefore ms (with_text program path text) paths at (old ++ drafts_beside d at path text)
  gives_new text d there over other =
      let left : IsUnder (paths_of_rows (drop at ms)) path = left_above d there over other in
      let none = no_number ms at path (under_first (λ (m : RootRow). m.path) path paths (take at ms) stands.passed) left in
      record {
        is = given text ∙ (ap (λ (p : Program). drafted old ++ p) (with_before (drop at ms) path text left) ∙ drafted_given d at text (texts_in (drop at ms)));
        within = stands.within;
        right = right_more d at text (λ t e. draft_new d t other none);
        taken = taken_more d at text;
        passed = under_rest (λ (m : RootRow). m.path) path paths (take at ms) stands.passed;
      }
    where
      left_above : (d : Option RootRow) → slice_get ms at ≡ d → is_below d path ≡ false → is_here d path ≡ false → IsUnder (paths_of_rows (drop at ms)) path
      left_above None there over other = subst (λ (l : List RootRow). IsUnder (paths_of_rows l) path) (sym (nothing ms at there)) tt
        where
          nothing : (ms : List RootRow) (at : ℕ) → slice_get ms at ≡ None → drop at ms ≡ []
          nothing [] zero e = refl
          nothing [] (suc at) e = refl
          nothing (m ∷ ms) zero e = absurd (let z : Some m ≡ None = e in cc)
          nothing (m ∷ ms) (suc at) e = nothing ms at e
      left_above (Some m) there over other =
          let step = drop_step ms at m there in
          let rise : IsRising (m.path ∷ paths_of_rows (drop (at + 1) ms)) = subst (λ (l : List RootRow). IsRising (paths_of_rows l)) step (rising_from ms at rising) in
          let less = under m.path path (greater (slice_cmp nat_cmp m.path path) over (is_eq-slice_cmp m.path path ∙ other)) in
          subst (λ (l : List RootRow). IsUnder (paths_of_rows l) path) (sym step) (less, carry path m.path less (paths_of_rows (drop (at + 1) ms)) (below_all m.path (paths_of_rows (drop (at + 1) ms)) rise))
        where
          greater : (o : Ordering) → is_lt o ≡ false → is_eq o ≡ false → o ≡ Greater
          greater Less a b = absurd (let z : true ≡ false = a in cc)
          greater Equal a b = absurd (let z : true ≡ false = b in cc)
          greater Greater a b = refl

      draft_new : (d : Option RootRow) (t : Bytes) → is_here d path ≡ false → (number_in ms path ≡ None) × (text_at (texts_in ms) path ≡ None) → IsDraftOf ms (draft_beside d at path t)
      draft_new None t other none = (sym none.0, sym (ap (λ (o : Option Bytes). not (has_text o t)) none.1))
      draft_new (Some m) t other none =
          subst (λ (b : Bool). IsDraftOf ms (cond b (edited_draft m at path t) (new_draft path t))) (sym other)
          (sym none.0, sym (ap (λ (o : Option Bytes). not (has_text o t)) none.1))

  -- the next module has it
  pub gives_here : (text : Option Bytes) (d : Option RootRow) → slice_get ms at ≡ d → is_here d path ≡ true → StandsBefore ms (with_text program path text) paths (at + 1) (old ++ drafts_beside d at path text)
  gives_here text None there here = absurd (let z : false ≡ true = here in cc)
  gives_here text (Some m) there here =
      let same : m.path ≡ path = (bytes_decides m.path path).0 here in
      let step = drop_step ms at m there in
      let low = within_there ms at m there in
      let had = number_here ms at m rising there in
      record {
        is = given text ∙ (ap (λ (l : List RootRow). drafted old ++ with_text (texts_in l) path text) step
            ∙ (ap (λ (p : Program). drafted old ++ p) (with_here m (drop (at + 1) ms) path text same) ∙ drafted_given (Some m) at text (texts_in (drop (at + 1) ms))));
        within = omega (arith, low);
        right = right_more (Some m) at text (λ t e.
            subst (λ (b : Bool). IsDraftOf ms (cond b (edited_draft m at path t) (new_draft path t))) (sym here)
            (sym (ap (number_in ms) (sym same) ∙ had.0), sym (ap (λ (o : Option Bytes). not (has_text o t)) (ap (text_at (texts_in ms)) (sym same) ∙ had.1))));
        taken = taken_more (Some m) at text;
        passed = subst (AllByRecursion (λ (m : RootRow). IsUnder paths m.path)) (sym (take_next ms at m there)) (all_more (λ (m : RootRow). IsUnder paths m.path) (take at ms) m
            (under_rest (λ (m : RootRow). m.path) path paths (take at ms) stands.passed) (subst (IsUnder paths) (sym same) (below_all path paths order)));
      }

-- ---- as the code has it

-- a module below a path was taken over
pub walks_more : (ms : List RootRow) (path : Bytes) (first at next : ℕ) (old mid new : List Draft) → IsRising (paths_of_rows ms) → is_below (slice_get ms at) path ≡ true → KeepsOne ms at mid new → next ≡ at + 1
    → Walks ms path first at old mid → Walks ms path first next old new
walks_more ms path first at next old mid new rising below keeps goes walks = λ program paths order stands.
    subst (λ (n : ℕ). StandsBefore ms program (path ∷ paths) n new) (sym goes)
    (keeps_one ms program (path ∷ paths) at mid new rising keeps (λ m there. below_paths path paths m order (sym (ap (λ (o : Option RootRow). is_below o path) there) ∙ below)) (walks program paths order stands))

pub walks_none : (ms : List RootRow) (path : Bytes) (at : ℕ) (drafts : List Draft) → Walks ms path at at drafts drafts
walks_none ms path at drafts = λ program paths order stands. stands

-- a module that is below a path is there
pub below_there : (ms : List RootRow) (path : Bytes) (at : ℕ) → is_below (slice_get ms at) path ≡ true → at < length ms
below_there ms path at below = go (slice_get ms at) refl below
  where
    go : (o : Option RootRow) → slice_get ms at ≡ o → is_below o path ≡ true → at < length ms
    go None there b = absurd (let z : false ≡ true = b in cc)
    go (Some m) there b = within_there ms at m there

-- a path was given its text
pub gives : (ms : List RootRow) (path : Bytes) (text : Option Bytes) (at next : ℕ) (old new : List Draft) → IsRising (paths_of_rows ms) → is_below (slice_get ms at) path ≡ false
    → new ≡ old ++ drafts_beside (slice_get ms at) at path text → next ≡ behind (slice_get ms at) at path → GivesText ms path text at next old new
gives ms path text at next old new rising over put goes = λ program paths order stands.
    subst (λ (ds : List Draft). StandsBefore ms (with_text program path text) paths next ds) (sym put) (subst (λ (n : ℕ). StandsBefore ms (with_text program path text) paths n (old ++ drafts_beside (slice_get ms at) at path text)) (sym goes)
    (go program paths order stands (is_here (slice_get ms at) path) refl))
  where
    go : (program : Program) (paths : List Bytes) → IsRising (path ∷ paths) → StandsBefore ms program (path ∷ paths) at old → (b : Bool) → is_here (slice_get ms at) path ≡ b
        → StandsBefore ms (with_text program path text) paths (cond b (at + 1) at) (old ++ drafts_beside (slice_get ms at) at path text)
    go program paths order stands true is = gives_here ms path paths program at old rising order stands text (slice_get ms at) refl is
    go program paths order stands false is = gives_new ms path paths program at old rising order stands text (slice_get ms at) refl over is

-- a module behind all paths was taken over
pub rest_more : (ms : List RootRow) (first at : ℕ) (old mid new : List Draft) → IsRising (paths_of_rows ms) → KeepsOne ms at mid new → ((program : Program) → StandsBefore ms program [] first old → StandsBefore ms program [] at mid)
    → (program : Program) → StandsBefore ms program [] first old → StandsBefore ms program [] (at + 1) new
rest_more ms first at old mid new rising keeps so_far program stands = keeps_one ms program [] at mid new rising keeps (λ m there. tt) (so_far program stands)

-- ---- the beginning and the end

none_taken : (paths : List Bytes) (ms : List RootRow) → AllByRecursion (λ m. IsUnder paths m.path) (take 0 ms)
none_taken paths [] = tt
none_taken paths (m ∷ ms) = tt

pub stands_first : (ms : List RootRow) (paths : List Bytes) (drafts : List Draft) → drafts ≡ [] → StandsBefore ms (texts_in ms) paths 0 drafts
stands_first ms paths drafts none = subst (λ (ds : List Draft). StandsBefore ms (texts_in ms) paths 0 ds) (sym none) (record {
  is = sym (ap texts_in (drop_zero ms));
  within = omega arith;
  right = tt;
  taken = tt;
  passed = none_taken paths ms;
})
  where
    drop_zero : (ms : List RootRow) → drop 0 ms ≡ ms
    drop_zero [] = refl
    drop_zero (n ∷ ns) = refl

pub stands_last : (ms : List RootRow) (program : Program) (at : ℕ) (drafts : List Draft) → length ms ≤ at → StandsBefore ms program [] at drafts → AreDrafts ms program drafts
stands_last ms program at drafts past stands = record {
  is = stands.is ∙ (ap (λ (l : List RootRow). drafted drafts ++ texts_in l) (drop_past ms at past) ∙ append-nil (drafted drafts));
  right = stands.right;
}
