-- The module of a path among modules whose paths rise.
use Rattle.std.proofs.Common.{◌≡◌, ℕ, zero, suc, ◌<◌, Bool, true, false, ◌||◌, List, [], ◌∷◌, length, get_or, slice_get, Option, Some, None, refl, sym, ap, ◌∙◌, subst, arith, inl, inr, bytes_eq}
use Rattle.std.specs.Prelude.{if◌then◌else◌}
use Rattle.std.specs.Ordering.{nat_cmp}
use Rattle.std.specs.Cmp.Lexicographic.{slice_cmp, nat_list_cmp_total, bytes_decides}
use Rattle.std.specs.declared.cmp.Ordering.TheVariants.{Less}
use Rattle.std.proofs.lemmas.Bool.{cases_Bool, false≢true}
use Rattle.std.proofs.lemmas.Option.{none-some, same_Some}
use Rattle.flow_base.specs.Program.{Bytes, IsRising}
use Rattle.check_values.specs.Rows.{row_at, is_among}
use Rattle.check_values.specs.Roots.{paths_of_rows}
use Rattle.check_values.specs.declared.root.RootRow.{RootRow}
use Rattle.payloads.specs.program_check.specs.Full.{Results}
use Rattle.payloads.specs.State.{program_of}
use Rattle.dep_lists.specs.Looking.{IsPlaceOf}
use Rattle.answers_law.specs.Answers.{standing}

-- what stands at these modules, by these results
abbrev pub standing_at : List RootRow → List Results → Bytes → Option (Bytes × Results)
standing_at ms rs path = row_at (standing (program_of (record { modules = ms })) rs) path

-- a path that is none's has nothing
apart : (b c : Bool) → b || c ≡ false → (b ≡ false) × (c ≡ false)
apart true c is = absurd (false≢true (sym is))
apart false c is = (refl, is)

other_way : (a b : Bytes) → bytes_eq a b ≡ false → bytes_eq b a ≡ false
other_way a b differ = elim (cases_Bool (bytes_eq b a)) [
  | inr fails ↦ fails
  | inl same ↦ absurd (false≢true (sym differ ∙ (bytes_decides a b).1 (sym ((bytes_decides b a).0 same))))
]

pub stands_nowhere : (ms : List RootRow) (rs : List Results) (path : Bytes) → is_among (paths_of_rows ms) path ≡ false → standing_at ms rs path ≡ None
stands_nowhere [] [] path none = refl
stands_nowhere [] (r ∷ rs) path none = refl
stands_nowhere (m ∷ ms) [] path none = refl
stands_nowhere (m ∷ ms) (r ∷ rs) path none =
    let parts = apart (bytes_eq path m.path) (is_among (paths_of_rows ms) path) none in
    ap (λ b. if b then Some (m.text, r) else standing_at ms rs path) (other_way path m.path parts.0) ∙ stands_nowhere ms rs path parts.1

-- ---- the paths below and above differ

abbrev Below : Bytes → Bytes → Type 0
Below a b = slice_cmp nat_cmp a b ≡ Less

later_below : (m : RootRow) (ms : List RootRow) (i : ℕ) (n : RootRow) → IsRising (paths_of_rows (m ∷ ms)) → slice_get ms i ≡ Some n → Below m.path n.path
later_below m [] i n rising at = absurd (none-some n at)
later_below m (k ∷ ms) zero n rising at = subst (λ (j : RootRow). Below m.path j.path) (same_Some k n at) rising.0
later_below m (k ∷ ms) (suc i) n rising at = nat_list_cmp_total.trans m.path k.path n.path rising.0 (later_below k ms i n rising.1 at)

below_differs : (a b : Bytes) → Below a b → a ≡ b → ⊥
below_differs a b below same = let itself : Below a a = subst (λ c. Below a c) (sym same) below in cc (itself, nat_list_cmp_total.antisymm a a)

rest_rises : (m : RootRow) (ms : List RootRow) → IsRising (paths_of_rows (m ∷ ms)) → IsRising (paths_of_rows ms)
rest_rises m [] rising = tt
rest_rises m (n ∷ ms) rising = rising.1

pub stands_there : (ms : List RootRow) (rs : List Results) (i : ℕ) (m : RootRow) (r : Results) → IsRising (paths_of_rows ms) → slice_get ms i ≡ Some m → slice_get rs i ≡ Some r
    → standing_at ms rs m.path ≡ Some (m.text, r)
stands_there [] rs i m r rising at of = absurd (none-some m at)
stands_there (n ∷ ms) [] i m r rising at of = absurd (none-some r of)
stands_there (n ∷ ms) (s ∷ rs) zero m r rising at of =
    let is = same_Some n m at in
    ap (λ b. if b then Some (n.text, s) else standing_at ms rs m.path) ((bytes_decides n.path m.path).1 (ap (λ (k : RootRow). k.path) is)) ∙ (λ j. Some ((is j).text, same_Some s r of j))
stands_there (n ∷ ms) (s ∷ rs) (suc i) m r rising at of = elim (cases_Bool (bytes_eq n.path m.path)) [
  | inl same ↦ absurd (below_differs n.path m.path (later_below n ms i m rising at) ((bytes_decides n.path m.path).0 same))
  | inr differ ↦ ap (λ b. if b then Some (n.text, s) else standing_at ms rs m.path) differ ∙ stands_there ms rs i m r (rest_rises n ms rising) at of
]

-- ---- the place that was found

there_is : {X : Type 0} (xs : List X) (i : ℕ) → i < length xs → (x : X) × (slice_get xs i ≡ Some x) × ((d : X) → get_or xs i d ≡ x)
there_is [] i within = absurd (omega (arith, within))
there_is (x ∷ xs) zero within = (x, refl, λ d. refl)
there_is (x ∷ xs) (suc i) within = there_is xs i (omega (arith, within))

-- the row that was found has the path
pub record IsFound (ms : List RootRow) (path : Bytes) (at : ℕ) (m : RootRow) : Type 0 where
  pub stands : slice_get ms at ≡ Some m
  pub has_path : m.path ≡ path

pub found : (ms : List RootRow) (path : Bytes) (at : ℕ) → IsPlaceOf ms path (Some at) → (d : RootRow) → IsFound ms path at (get_or ms at d)
found ms path at is d =
    let there = there_is ms at is.0 in
    let same : there.0 ≡ get_or ms at d = sym (there.2 d) in
    record { stands = there.1 ∙ ap Some same; has_path = is.1 d }
