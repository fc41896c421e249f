-- Changes are staged one after the other.
use Rattle.std.proofs.Common.{Result, Ok, Err, IfOk, ◌≡◌, ℕ, zero, suc, ◌+◌, ◌<◌, Bool, true, false, List, [], ◌∷◌, ◌++◌, length, take, get_or, slice_get, Some, None, refl, sym, ap, ◌∙◌, subst, arith, append-nil, append_assoc}
use Rattle.std.specs.Prelude.{OnErr}
use Rattle.heap_core.specs.Meaning.{Meaning, staging}
use Rattle.heap_core.specs.Transactions.{IsStaging, all_staged}
use Rattle.heap_core.proofs.Lists.{get_index}
use Rattle.named_rows.proofs.Lists.{flat_more}
use Rattle.check_values.specs.declared.faults.Errs.{Errs}
use Rattle.check_values.specs.declared.root.RootRow.{RootRow}
use Rattle.check_values.specs.declared.signatures.Deps.{Deps}
use Rattle.check_values.specs.declared.signatures.Sig.{Sig}
use Rattle.check_phases.specs.source_front.specs.declared.parse.Parse.{Parse}
use Rattle.check_phases.specs.payloads.specs.declared.payload.Payload.{Payload}
use Rattle.check_phases.specs.payloads.specs.declared.payload.Payload.TheVariants as payload
use Rattle.check_phases.specs.payloads.specs.Entities.{parse_entity, deps_entity, signature_entity, errors_entity}
use Rattle.check_phases.proofs.Lists.{one_value, place_at}
use Rattle.check_phases.specs.declared.phases.Made.{Made}
use Rattle.recheck_staging.specs.declared.staging.Anew.{Anew}
use Rattle.recheck_staging.specs.Staging.{Change, flagged_one, flagged, vacated_row, vacated, parts_of}

-- ---- nothing else changes

pub staging_one : (e : ℕ) (x : Payload) (old new : Meaning Payload) → new ≡ staging e x old → IsStaging old new
staging_one e x old new is = subst (λ (m : Meaning Payload). IsStaging old m) (sym is) (record { is_open = refl; version = refl; committed = refl; versions = refl })

pub staging_none : (old new : Meaning Payload) → new ≡ old → IsStaging old new
staging_none old new is = subst (λ (m : Meaning Payload). IsStaging old m) (sym is) (record { is_open = refl; version = refl; committed = refl; versions = refl })

pub staging_either : {T E : Type 0} (r : Result T E) (e : ℕ) (x : Payload) (old new : Meaning Payload) → IfOk r (λ _. new ≡ staging e x old) → OnErr r (new ≡ old) → IsStaging old new
staging_either (Ok y) e x old new ok err = staging_one e x old new ok
staging_either (Err y) e x old new ok err = staging_none old new err

pub staging_then : (old mid new : Meaning Payload) → IsStaging old mid → IsStaging mid new → IsStaging old new
staging_then old mid new a b = record { is_open = b.is_open ∙ a.is_open; version = b.version ∙ a.version; committed = b.committed ∙ a.committed; versions = b.versions ∙ a.versions }

pub still_open : (old new : Meaning Payload) → IsStaging old new → old.is_open ≡ true → new.is_open ≡ true
still_open old new staging is = staging.is_open ∙ is

pub same_size : (old new : Meaning Payload) → IsStaging old new → length new.committed ≡ length old.committed
same_size old new staging = ap length staging.committed

-- ---- changes

pub staged_append : (cs ds : List Change) (m : Meaning Payload) → all_staged (cs ++ ds) m ≡ all_staged ds (all_staged cs m)
staged_append [] ds m = refl
staged_append (c ∷ cs) ds m = staged_append cs ds (staging c.0 c.1 m)

-- some were staged, and then others
pub staged_then : (cs ds all : List Change) (old mid new : Meaning Payload) → all ≡ cs ++ ds → mid ≡ all_staged cs old → new ≡ all_staged ds mid → new ≡ all_staged all old
staged_then cs ds all old mid new is a b = b ∙ (ap (all_staged ds) a ∙ (sym (staged_append cs ds old) ∙ ap (λ (l : List Change). all_staged l old) (sym is)))

-- ---- one module after the other

module _ {X : Type 0} (place : ℕ → ℕ) (put : X → Payload) where
  flagged_next : (ms : List RootRow) (xs : List X) (flags : List Bool) (i : ℕ) (m : RootRow) (x : X) (flag : Bool) → slice_get ms i ≡ Some m → slice_get xs i ≡ Some x → slice_get flags i ≡ Some flag
      → flagged place put (take (i + 1) ms) (take (i + 1) xs) (take (i + 1) flags) ≡ flagged place put (take i ms) (take i xs) (take i flags) ++ flagged_one place put m.row x flag
  flagged_next [] xs flags i m x flag a b c = absurd (let z : None ≡ Some m = a in cc)
  flagged_next (n ∷ ms) [] flags i m x flag a b c = absurd (let z : None ≡ Some x = b in cc)
  flagged_next (n ∷ ms) (y ∷ xs) [] i m x flag a b c = absurd (let z : None ≡ Some flag = c in cc)
  flagged_next (n ∷ ms) (y ∷ xs) (f ∷ flags) zero m x flag a b c =
      let p = one_value n m a in let q = one_value y x b in let r = one_value f flag c in
      append-nil (flagged_one place put n.row y f) ∙ (λ j. flagged_one place put (p j).row (q j) (r j))
  flagged_next (n ∷ ms) (y ∷ xs) (f ∷ flags) (suc i) m x flag a b c =
      let next : suc i + 1 ≡ suc (i + 1) = omega arith in
      rw next (ap (λ (l : List Change). flagged_one place put n.row y f ++ l) (flagged_next ms xs flags i m x flag a b c)
      ∙ sym (append_assoc (flagged_one place put n.row y f) (flagged place put (take i ms) (take i xs) (take i flags)) (flagged_one place put m.row x flag)))

  pub flagged_more : (ms : List RootRow) (xs : List X) (flags : List Bool) (i : ℕ) (m : RootRow) (x : X) (d : Bool) (old mid new : Meaning Payload) → i < length ms → length xs ≡ length ms → length flags ≡ length ms
      → m ≡ get_or ms i m → x ≡ get_or xs i x → mid ≡ all_staged (flagged place put (take i ms) (take i xs) (take i flags)) old → new ≡ all_staged (flagged_one place put m.row x (get_or flags i d)) mid
      → new ≡ all_staged (flagged place put (take (i + 1) ms) (take (i + 1) xs) (take (i + 1) flags)) old
  flagged_more ms xs flags i m x d old mid new low many_xs many_flags is_m is_x so_far more =
      staged_then (flagged place put (take i ms) (take i xs) (take i flags)) (flagged_one place put m.row x (get_or flags i d)) (flagged place put (take (i + 1) ms) (take (i + 1) xs) (take (i + 1) flags)) old mid new
      (flagged_next ms xs flags i m x (get_or flags i d) (get_index ms i m low is_m) (get_index xs i x (omega (arith, low, many_xs)) is_x) (place_at flags i d (omega (arith, low, many_flags)))) so_far more

-- ---- one row after the other

pub vacated_more : (rows : List ℕ) (i d : ℕ) (old mid new : Meaning Payload) → i < length rows → mid ≡ all_staged (vacated (take i rows)) old → new ≡ all_staged (vacated_row (get_or rows i d)) mid → new ≡ all_staged (vacated (take (i + 1) rows)) old
vacated_more rows i d old mid new low so_far more =
    staged_then (vacated (take i rows)) (vacated_row (get_or rows i d)) (vacated (take (i + 1) rows)) old mid new (flat_more vacated_row rows i d low) so_far more

-- the four of a row
pub row_vacated : (row p d s e : ℕ) (a b c f : Payload) (m0 m1 m2 m3 m4 : Meaning Payload) → p ≡ parse_entity row → d ≡ deps_entity row → s ≡ signature_entity row → e ≡ errors_entity row
    → a ≡ payload.Absent → b ≡ payload.Absent → c ≡ payload.Absent → f ≡ payload.Absent → m1 ≡ staging p a m0 → m2 ≡ staging d b m1 → m3 ≡ staging s c m2 → m4 ≡ staging e f m3 → m4 ≡ all_staged (vacated_row row) m0
row_vacated row p d s e a b c f m0 m1 m2 m3 m4 is_p is_d is_s is_e no_a no_b no_c no_f one two three four =
    four ∙ (λ j. staging (is_e j) (no_f j) ((three ∙ (λ k. staging (is_s k) (no_c k) ((two ∙ (λ i. staging (is_d i) (no_b i) ((one ∙ (λ h. staging (is_p h) (no_a h) m0)) i))) k))) j))

-- ---- as the code has it

pub one_flagged : {X : Type 0} (place : ℕ → ℕ) (put : X → Payload) (row e : ℕ) (part : X) (x : Payload) (flag : Bool) (old new : Meaning Payload) → flag ≡ true → e ≡ place row → x ≡ put part → new ≡ staging e x old
    → new ≡ all_staged (flagged_one place put row part flag) old
one_flagged place put row e part x flag old new on is_e is_x is =
    is ∙ ((λ j. staging (is_e j) (is_x j) old) ∙ ap (λ (b : Bool). all_staged (flagged_one place put row part b) old) (sym on))

pub none_flagged : {X : Type 0} (place : ℕ → ℕ) (put : X → Payload) (row : ℕ) (part : X) (flag : Bool) (old new : Meaning Payload) → flag ≡ false → new ≡ old → new ≡ all_staged (flagged_one place put row part flag) old
none_flagged place put row part flag old new off is = is ∙ ap (λ (b : Bool). all_staged (flagged_one place put row part b) old) (sym off)

-- the four kinds, one after the other
pub four_staged : (a b c d : List Change) (m0 m1 m2 m3 m4 : Meaning Payload) → m1 ≡ all_staged a m0 → m2 ≡ all_staged b m1 → m3 ≡ all_staged c m2 → m4 ≡ all_staged d m3 → m4 ≡ all_staged (a ++ (b ++ (c ++ d))) m0
four_staged a b c d m0 m1 m2 m3 m4 one two three four =
    staged_then a (b ++ (c ++ d)) (a ++ (b ++ (c ++ d))) m0 m1 m4 refl one (staged_then b (c ++ d) (b ++ (c ++ d)) m1 m2 m4 refl two (staged_then c d (c ++ d) m2 m3 m4 refl three four))

-- the root, then some, then others
pub all_three : (x y : Payload) (a b : List Change) (m0 m1 m2 m3 : Meaning Payload) → x ≡ y → m1 ≡ staging 0 x m0 → m2 ≡ all_staged a m1 → m3 ≡ all_staged b m2 → m3 ≡ all_staged ((0, y) ∷ (a ++ b)) m0
all_three x y a b m0 m1 m2 m3 same one two three = staged_then a b (a ++ b) m1 m2 m3 refl two three ∙ ap (all_staged (a ++ b)) (one ∙ ap (λ (p : Payload). staging 0 p m0) same)

-- results of one kind, by the lists as the code has them
pub same_flagged : {X : Type 0} (place : ℕ → ℕ) (put : X → Payload) (ms ns : List RootRow) (xs ys : List X) (fs gs : List Bool) (old new : Meaning Payload) → ms ≡ ns → xs ≡ ys → fs ≡ gs → new ≡ all_staged (flagged place put ms xs fs) old
    → new ≡ all_staged (flagged place put ns ys gs) old
same_flagged place put ms ns xs ys fs gs old new a b c is = is ∙ (λ j. all_staged (flagged place put (a j) (b j) (c j)) old)

-- all four kinds, by the lists as the code has them
pub parts_staged : (made : Made) (anew : Anew) (ms : List RootRow) (parses : List Parse) (lists : List Deps) (sigs : List Sig) (errors : List Errs) (fresh relisted moved checked : List Bool) (m0 m1 m2 m3 m4 : Meaning Payload) → ms ≡ made.sources.root.modules
    → parses ≡ made.sources.parses.items → lists ≡ made.sources.lists.items → sigs ≡ made.signatures.items → errors ≡ made.errors.items → fresh ≡ anew.fresh.items → relisted ≡ anew.relisted.items → moved ≡ anew.moved.items → checked ≡ anew.checked.items
    → m1 ≡ all_staged (flagged parse_entity payload.Parse ms parses fresh) m0 → m2 ≡ all_staged (flagged deps_entity payload.Deps ms lists relisted) m1 → m3 ≡ all_staged (flagged signature_entity payload.Sig ms sigs moved) m2
    → m4 ≡ all_staged (flagged errors_entity payload.Errs ms errors checked) m3 → m4 ≡ all_staged (parts_of made anew) m0
parts_staged made anew ms parses lists sigs errors fresh relisted moved checked m0 m1 m2 m3 m4 rows is_p is_d is_s is_e is_fresh is_relisted is_moved is_checked one two three four =
    let all = made.sources.root.modules in
    four_staged (flagged parse_entity payload.Parse all made.sources.parses.items anew.fresh.items) (flagged deps_entity payload.Deps all made.sources.lists.items anew.relisted.items)
    (flagged signature_entity payload.Sig all made.signatures.items anew.moved.items) (flagged errors_entity payload.Errs all made.errors.items anew.checked.items) m0 m1 m2 m3 m4
    (same_flagged parse_entity payload.Parse ms all parses made.sources.parses.items fresh anew.fresh.items m0 m1 rows is_p is_fresh one)
    (same_flagged deps_entity payload.Deps ms all lists made.sources.lists.items relisted anew.relisted.items m1 m2 rows is_d is_relisted two)
    (same_flagged signature_entity payload.Sig ms all sigs made.signatures.items moved anew.moved.items m2 m3 rows is_s is_moved three)
    (same_flagged errors_entity payload.Errs ms all errors made.errors.items checked anew.checked.items m3 m4 rows is_e is_checked four)
