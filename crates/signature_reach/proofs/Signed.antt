-- The signature of the module at a place is that of its path.
use Rattle.std.proofs.Common.{◌≡◌, ℕ, zero, suc, ◌<◌, Bool, true, false, ◌||◌, List, [], ◌∷◌, length, get_or, slice_get, Option, Some, None, refl, sym, ap, ◌∙◌, subst, inl, inr, arith, bytes_eq}
use Rattle.std.specs.Prelude.{if◌then◌else◌}
use Rattle.std.specs.Ordering.{nat_cmp}
use Rattle.std.specs.Cmp.Lexicographic.{slice_cmp, nat_list_cmp_total, bytes_decides}
use Rattle.std.specs.declared.cmp.Ordering.TheVariants.{Less}
use Rattle.std.proofs.lemmas.Bool.{cases_Bool, false≢true}
use Rattle.std.proofs.lemmas.Option.{none-some, slice_get-get_or}
use Rattle.flow_values.specs.Path.{IsRising}
use Rattle.check_values.specs.Rows.{Bytes, row_at, is_among}
use Rattle.check_values.specs.Roots.{paths_of_rows}
use Rattle.check_values.specs.declared.root.RootRow.{RootRow}
use Rattle.check_values.specs.declared.signatures.Sig.{Sig}
use Rattle.dep_lists.specs.Looking.{IsPlaceOf}
use Rattle.signature_reach.specs.Along.{signed}

-- what has a signature is the path of a module
pub signed_among : (ms : List RootRow) (sigs : List Sig) (path : Bytes) (s : Sig) → row_at (signed ms sigs) path ≡ Some s → is_among (paths_of_rows ms) path ≡ true
signed_among [] sigs path s is = absurd (none-some s is)
signed_among (m ∷ ms) [] path s is = absurd (none-some s is)
signed_among (m ∷ ms) (t ∷ sigs) path s is = elim (cases_Bool (bytes_eq m.path path)) [
  | inl same ↦ ap (λ (b : Bool). b || is_among (paths_of_rows ms) path) ((bytes_decides path m.path).1 (sym ((bytes_decides m.path path).0 same)))
  | inr other ↦ later (bytes_eq path m.path) (signed_among ms sigs path s (sym (ap (λ same. if same then Some t else row_at (signed ms sigs) path) other) ∙ is))
]
  where
    later : (b : Bool) → is_among (paths_of_rows ms) path ≡ true → b || is_among (paths_of_rows ms) path ≡ true
    later true rest = refl
    later false rest = rest

-- the first path is below each later one
below_later : (m : RootRow) (ms : List RootRow) (at : ℕ) (d : RootRow) → IsRising (paths_of_rows (m ∷ ms)) → at < length ms → slice_cmp nat_cmp m.path (get_or ms at d).path ≡ Less
below_later m [] at d rising low = absurd (omega (arith, low))
below_later m (next ∷ ms) zero d rising low = rising.0
below_later m (next ∷ ms) (suc at) d rising low = nat_list_cmp_total.trans m.path next.path (get_or ms at d).path rising.0 (below_later next ms at d rising.1 (omega (arith, low)))

rest_rises : (m : RootRow) (ms : List RootRow) → IsRising (paths_of_rows (m ∷ ms)) → IsRising (paths_of_rows ms)
rest_rises m [] rising = tt
rest_rises m (next ∷ ms) rising = rising.1

signed_there : (ms : List RootRow) (sigs : List Sig) (path : Bytes) (at : ℕ) (d : RootRow) → IsRising (paths_of_rows ms) → length sigs ≡ length ms → at < length ms → (get_or ms at d).path ≡ path → row_at (signed ms sigs) path ≡ slice_get sigs at
signed_there [] sigs path at d rising many low is = absurd (omega (arith, low))
signed_there (m ∷ ms) [] path at d rising many low is = absurd (omega (arith, many))
signed_there (m ∷ ms) (t ∷ sigs) path zero d rising many low is = ap (λ same. if same then Some t else row_at (signed ms sigs) path) ((bytes_decides m.path path).1 is)
signed_there (m ∷ ms) (t ∷ sigs) path (suc at) d rising many low is =
    let inside : at < length ms = omega (arith, low) in
    let below : slice_cmp nat_cmp m.path path ≡ Less = subst (λ (p : Bytes). slice_cmp nat_cmp m.path p ≡ Less) is (below_later m ms at d rising inside) in
    elim (cases_Bool (bytes_eq m.path path)) [
      | inl same ↦ absurd (let itself : slice_cmp nat_cmp path path ≡ Less = subst (λ (p : Bytes). slice_cmp nat_cmp p path ≡ Less) ((bytes_decides m.path path).0 same) below in cc (itself, nat_list_cmp_total.antisymm path path))
      | inr other ↦ ap (λ same. if same then Some t else row_at (signed ms sigs) path) other ∙ signed_there ms sigs path at d (rest_rises m ms rising) (omega (arith, many)) inside is
    ]

-- ---- as the code has them

pub none_signed : (ms : List RootRow) (sigs : List Sig) (path : Bytes) (place : Option ℕ) → place ≡ None → IsPlaceOf ms path place → None ≡ row_at (signed ms sigs) path
none_signed ms sigs path place none is = go (row_at (signed ms sigs) path) refl
  where
    go : (o : Option Sig) → row_at (signed ms sigs) path ≡ o → None ≡ row_at (signed ms sigs) path
    go None e = sym e
    go (Some s) e = absurd (false≢true (sym (subst (IsPlaceOf ms path) none is) ∙ signed_among ms sigs path s e))

pub one_signed : (ms : List RootRow) (sigs : List Sig) (path : Bytes) (place : Option ℕ) (at : ℕ) (sig mine : Sig) → IsRising (paths_of_rows ms) → length sigs ≡ length ms → place ≡ Some at → IsPlaceOf ms path place → sig ≡ get_or sigs at sig → mine ≡ sig
    → Some mine ≡ row_at (signed ms sigs) path
one_signed ms sigs path place at sig mine rising many there is read same =
    let found = subst (IsPlaceOf ms path) there is in
    let low = found.0 in
    let here : slice_get sigs at ≡ Some sig = slice_get-get_or sigs at sig (omega (arith, many, low)) ∙ ap Some (sym read) in
    let row = get_row ms at low in
    sym (signed_there ms sigs path at row rising many low (found.1 row) ∙ (here ∙ ap Some (sym same)))
  where
    get_row : (ms : List RootRow) (at : ℕ) → at < length ms → RootRow
    get_row [] at low = absurd (omega (arith, low))
    get_row (m ∷ ms) at low = m
