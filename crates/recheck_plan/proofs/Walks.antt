-- The walk over the modules of a version and the texts of paths, both rising.
use Rattle.std.proofs.Common.{◌≡◌, ℕ, zero, suc, ◌+◌, ◌<◌, ◌≤◌, Bool, true, false, cond, List, [], ◌∷◌, ◌++◌, map, length, get_or, drop, Option, Some, None, refl, sym, ap, ◌∙◌, subst, bytes_eq, append_assoc, append-nil}
use Rattle.std.specs.Prelude.{filter}
use Rattle.std.specs.Ordering.{nat_cmp, is_lt, is_eq, ordering_reverse}
use Rattle.std.specs.Cmp.Lexicographic.{slice_cmp, nat_list_cmp_total}
use Rattle.std.specs.declared.cmp.Ordering.{Ordering}
use Rattle.std.specs.declared.cmp.Ordering.TheVariants.{Less, Equal, Greater}
use Rattle.std.proofs.lemmas.List.{at_drop_more, at_drop_all}
use Rattle.std.proofs.lemmas.Map.Text.{is_eq-slice_cmp}
use Rattle.flow_values.specs.Path.{IsRising}
use Rattle.flow_base.specs.Program.{Bytes, Program, text_at}
use Rattle.flow_base.proofs.Rising.{IsBelowAll, below_all, carry, rising_rest, found_behind}
use Rattle.check_values.specs.Rows.{Rows}
use Rattle.check_values.specs.Roots.{paths_of_rows}
use Rattle.check_values.specs.declared.root.RootRow.{RootRow}
use Rattle.check_values.specs.declared.root.Root.{Root}
use Rattle.recheck_plan.specs.declared.changing.Changes.{Changes}
use Rattle.recheck_plan.specs.Differing.{texts_in, is_added, is_differing, is_removed, paths_where, changes_of, AreRising}
use Rattle.recheck_plan.specs.Walk.{from_path, text_of_first, path_if, with_path}

-- ---- the modules from a path on

above : (a b : Bytes) → slice_cmp nat_cmp a b ≡ Less → slice_cmp nat_cmp b a ≡ Greater
above a b below = nat_list_cmp_total.antisymm b a ∙ ap ordering_reverse below

-- they rise
from_rises : (path : Bytes) (ms : List RootRow) → IsRising (paths_of_rows ms) → IsRising (paths_of_rows (from_path path ms))
from_rises path [] rising = tt
from_rises path (m ∷ ms) rising = go (is_lt (slice_cmp nat_cmp m.path path)) (from_rises path ms (rising_rest m.path (paths_of_rows ms) rising))
  where
    go : (b : Bool) → IsRising (paths_of_rows (from_path path ms)) → IsRising (paths_of_rows (cond b (from_path path ms) (m ∷ ms)))
    go true rest = rest
    go false rest = rising

-- modules above a path have none of it
lacks : (path : Bytes) (ms : List RootRow) → IsBelowAll path (paths_of_rows ms) → text_at (texts_in ms) path ≡ None
lacks path [] below = refl
lacks path (m ∷ ms) below =
    let apart : bytes_eq m.path path ≡ false = sym (is_eq-slice_cmp m.path path) ∙ ap is_eq (above path m.path below.0) in
    ap (λ (b : Bool). cond b (Some m.text) (text_at (texts_in ms) path)) apart ∙ lacks path ms below.1

-- the first of them tells the path's text
text_here : (path : Bytes) (ms : List RootRow) → IsRising (paths_of_rows ms) → text_of_first path (from_path path ms) ≡ text_at (texts_in ms) path
text_here path [] rising = refl
text_here path (m ∷ ms) rising = go (slice_cmp nat_cmp m.path path) refl (bytes_eq m.path path) refl (is_eq-slice_cmp m.path path) (text_here path ms (rising_rest m.path (paths_of_rows ms) rising))
  where
    go : (o : Ordering) → slice_cmp nat_cmp m.path path ≡ o → (b : Bool) → bytes_eq m.path path ≡ b → is_eq o ≡ b → text_of_first path (from_path path ms) ≡ text_at (texts_in ms) path
        → text_of_first path (cond (is_lt o) (from_path path ms) (m ∷ ms)) ≡ cond b (Some m.text) (text_at (texts_in ms) path)
    go Less e true f k later = absurd (let z : false ≡ true = k in cc)
    go Less e false f k later = later
    go Equal e true f k later = ap (λ (c : Bool). cond c (Some m.text) None) f
    go Equal e false f k later = absurd (let z : true ≡ false = k in cc)
    go Greater e true f k later = absurd (let z : false ≡ true = k in cc)
    go Greater e false f k later =
        let below : slice_cmp nat_cmp path m.path ≡ Less = nat_list_cmp_total.antisymm path m.path ∙ ap ordering_reverse e in
        ap (λ (c : Bool). cond c (Some m.text) None) f ∙ sym (lacks path ms (carry path m.path below (paths_of_rows ms) (below_all m.path (paths_of_rows ms) rising)))

-- a later path has the same text in them
text_later : (path later : Bytes) → slice_cmp nat_cmp path later ≡ Less → (ms : List RootRow) → text_at (texts_in (from_path path ms)) later ≡ text_at (texts_in ms) later
text_later path later below [] = refl
text_later path later below (m ∷ ms) = go (slice_cmp nat_cmp m.path path) refl (text_later path later below ms)
  where
    go : (o : Ordering) → slice_cmp nat_cmp m.path path ≡ o → text_at (texts_in (from_path path ms)) later ≡ text_at (texts_in ms) later
        → text_at (texts_in (cond (is_lt o) (from_path path ms) (m ∷ ms))) later ≡ text_at (texts_in (m ∷ ms)) later
    go Less e rest = rest ∙ sym (found_behind (m.path, m.text) (texts_in ms) later (nat_list_cmp_total.trans m.path path later e below))
    go Equal e rest = refl
    go Greater e rest = refl

-- ---- the paths whose texts pass a test

abbrev Texts : Type 0
Texts = Rows (Option Bytes)

abbrev paths_in : Texts → List Bytes
paths_in texts = map (λ t. t.0) texts

module _ (test : Option Bytes → Option Bytes → Bool) where
  -- the first path, and the others
  first_path : (before : Program) (t : Bytes × Option Bytes) (ts : Texts) → paths_where test before (t ∷ ts) ≡ path_if (test (text_at before t.0) t.1) t.0 ++ paths_where test before ts
  first_path before t ts = go (test (text_at before t.0) t.1)
    where
      go : (b : Bool) → paths_in (cond b (t ∷ filter (λ (s : Bytes × Option Bytes). test (text_at before s.0) s.1) ts) (filter (λ (s : Bytes × Option Bytes). test (text_at before s.0) s.1) ts)) ≡ path_if b t.0 ++ paths_where test before ts
      go true = refl
      go false = refl

  -- later paths need no module below a path
  later_paths : (path : Bytes) (ms : List RootRow) (ts : Texts) → IsBelowAll path (paths_in ts) → paths_where test (texts_in (from_path path ms)) ts ≡ paths_where test (texts_in ms) ts
  later_paths path ms [] below = refl
  later_paths path ms (t ∷ ts) below =
      first_path (texts_in (from_path path ms)) t ts
      ∙ ap (λ (o : Option Bytes). path_if (test o t.1) t.0 ++ paths_where test (texts_in (from_path path ms)) ts) (text_later path t.0 below.0 ms)
      ∙ ap (λ (l : List Bytes). path_if (test (text_at (texts_in ms) t.0) t.1) t.0 ++ l) (later_paths path ms ts below.1)
      ∙ sym (first_path (texts_in ms) t ts)

  -- one path is listed where its texts pass, and the others are left
  lists_one : (listed : List Bytes) (ms : List RootRow) (t : Bytes × Option Bytes) (ts : Texts) → IsRising (paths_of_rows ms) → IsBelowAll t.0 (paths_in ts)
      → (listed ++ path_if (test (text_of_first t.0 (from_path t.0 ms)) t.1) t.0) ++ paths_where test (texts_in (from_path t.0 ms)) ts ≡ listed ++ paths_where test (texts_in ms) (t ∷ ts)
  lists_one listed ms t ts rising below =
      append_assoc listed _ _
      ∙ ap (λ (o : Option Bytes). listed ++ (path_if (test o t.1) t.0 ++ paths_where test (texts_in (from_path t.0 ms)) ts)) (text_here t.0 ms rising)
      ∙ ap (λ (l : List Bytes). listed ++ (path_if (test (text_at (texts_in ms) t.0) t.1) t.0 ++ l)) (later_paths t.0 ms ts below)
      ∙ ap (λ (l : List Bytes). listed ++ l) (sym (first_path (texts_in ms) t ts))

-- ---- the walk

-- the changes so far, and behind them those that the texts that are left make
abbrev pub then_all : Changes → List RootRow → Texts → Changes
then_all changes rest texts = record {
  added = changes.added ++ paths_where is_added (texts_in rest) texts;
  differing = changes.differing ++ paths_where is_differing (texts_in rest) texts;
  removed = changes.removed ++ paths_where is_removed (texts_in rest) texts;
}

rising_drop : (i : ℕ) (ts : Texts) → IsRising (paths_in ts) → IsRising (paths_in (drop i ts))
rising_drop zero ts rising = rising
rising_drop (suc i) [] rising = tt
rising_drop (suc i) (t ∷ ts) rising = rising_drop i ts (rising_rest t.0 (paths_in ts) rising)

same : {a b c x y z : List Bytes} → a ≡ x → b ≡ y → c ≡ z → ◌≡◌ {A = Changes} (record { added = a; differing = b; removed = c }) (record { added = x; differing = y; removed = z })
same e f g = cc

then_one : (was : Changes) (ms : List RootRow) (t : Bytes × Option Bytes) (ts : Texts) → IsRising (paths_of_rows ms) → IsRising (paths_in (t ∷ ts))
    → then_all (with_path was t.0 (text_of_first t.0 (from_path t.0 ms)) t.1) (from_path t.0 ms) ts ≡ then_all was ms (t ∷ ts)
then_one was ms t ts rising texts_rise =
    let below = below_all t.0 (paths_in ts) texts_rise in
    same (lists_one is_added was.added ms t ts rising below) (lists_one is_differing was.differing ms t ts rising below) (lists_one is_removed was.removed ms t ts rising below)

-- one text more
pub walked_on : (texts : Texts) (i : ℕ) (t : Bytes × Option Bytes) (rest later : List RootRow) (before given : Option Bytes) (was now whole : Changes) → i < length texts → t ≡ get_or texts i t → IsRising (paths_in texts)
    → later ≡ from_path t.0 rest → before ≡ text_of_first t.0 later → given ≡ t.1 → now ≡ with_path was t.0 before given → IsRising (paths_of_rows rest) × (then_all was rest (drop i texts) ≡ whole)
    → IsRising (paths_of_rows later) × (then_all now later (drop (i + 1) texts) ≡ whole)
walked_on texts i t rest later before given was now whole within is rising is_later is_before is_given put walked =
    let cut : drop i texts ≡ t ∷ drop (i + 1) texts = at_drop_more (λ (l : Texts). l) texts i t within ∙ ap (λ (s : Bytes × Option Bytes). s ∷ drop (i + 1) texts) (sym is) in
    let rise : IsRising (paths_in (t ∷ drop (i + 1) texts)) = subst (λ (l : Texts). IsRising (paths_in l)) cut (rising_drop i texts rising) in
    let told : before ≡ text_of_first t.0 (from_path t.0 rest) = is_before ∙ ap (text_of_first t.0) is_later in
    let changed : now ≡ with_path was t.0 (text_of_first t.0 (from_path t.0 rest)) t.1 = put ∙ ap (λ (o : Option Bytes). with_path was t.0 o given) told ∙ ap (λ (o : Option Bytes). with_path was t.0 (text_of_first t.0 (from_path t.0 rest)) o) is_given in (
      subst (λ (l : List RootRow). IsRising (paths_of_rows l)) (sym is_later) (from_rises t.0 rest walked.0),
      ap (λ (l : List RootRow). then_all now l (drop (i + 1) texts)) is_later
          ∙ ap (λ (n : Changes). then_all n (from_path t.0 rest) (drop (i + 1) texts)) changed
          ∙ then_one was rest t (drop (i + 1) texts) walked.0 rise
          ∙ ap (λ (l : Texts). then_all was rest l) (sym cut)
          ∙ walked.1,
    )

-- all texts
pub walked_all : (texts : Texts) (i : ℕ) (rest : List RootRow) (changes whole : Changes) → length texts ≤ i → IsRising (paths_of_rows rest) × (then_all changes rest (drop i texts) ≡ whole) → changes ≡ whole
walked_all texts i rest changes whole all walked =
    sym (same (append-nil changes.added) (append-nil changes.differing) (append-nil changes.removed)) ∙ sym (at_drop_all (then_all changes rest) texts i all) ∙ walked.1

-- ---- paths that were picked rise

before_all : (path : Bytes) (paths : List Bytes) → IsBelowAll path paths → IsRising paths → IsRising (path ∷ paths)
before_all path [] below rising = tt
before_all path (next ∷ paths) below rising = (below.0, rising)

module _ (picks : Bytes × Option Bytes → Bool) where
  picked_below : (path : Bytes) (ts : Texts) → IsBelowAll path (paths_in ts) → IsBelowAll path (paths_in (filter picks ts))
  picked_below path [] below = tt
  picked_below path (t ∷ ts) below = go (picks t) (picked_below path ts below.1)
    where
      go : (b : Bool) → IsBelowAll path (paths_in (filter picks ts)) → IsBelowAll path (paths_in (cond b (t ∷ filter picks ts) (filter picks ts)))
      go true rest = (below.0, rest)
      go false rest = rest

  picked_rise : (ts : Texts) → IsRising (paths_in ts) → IsRising (paths_in (filter picks ts))
  picked_rise [] rising = tt
  picked_rise (t ∷ ts) rising = go (picks t) (picked_rise ts (rising_rest t.0 (paths_in ts) rising))
    where
      go : (b : Bool) → IsRising (paths_in (filter picks ts)) → IsRising (paths_in (cond b (t ∷ filter picks ts) (filter picks ts)))
      go true rest = before_all t.0 (paths_in (filter picks ts)) (picked_below t.0 ts (below_all t.0 (paths_in ts) rising)) rest
      go false rest = rest

pub changes_rise : (root : Root) (texts : Texts) (changes : Changes) → IsRising (paths_in texts) → changes ≡ changes_of root texts → AreRising changes
changes_rise root texts changes rising is = subst AreRising (sym is) (picked_rise _ texts rising, picked_rise _ texts rising, picked_rise _ texts rising)
