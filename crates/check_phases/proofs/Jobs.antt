-- The job of a component tells what the whole program does.
use Rattle.std.proofs.Common.{◌≡◌, ℕ, zero, suc, Bool, true, false, cond, List, [], ◌∷◌, slice_get, Some, None, refl, sym, ap, subst, bytes_eq}
use Rattle.std.specs.List.{AllZip}
use Rattle.std.specs.Ordering.{nat_cmp}
use Rattle.std.specs.Cmp.Lexicographic.{slice_cmp, bytes_decides}
use Rattle.std.specs.declared.cmp.Ordering.TheVariants.{Less}
use Rattle.flow_base.specs.Program.{Bytes, Program, IsRising, paths_of}
use Rattle.flow_base.proofs.Rising.{below_all, not_below_itself, rising_rest}
use Rattle.check_values.specs.Rows.{Rows, row_at}
use Rattle.payloads.specs.program_check.specs.Full.{beside}
use Rattle.check_phases.proofs.Edges.{below_at}
use Rattle.check_phases.proofs.Lists.{one_value}

-- ---- rows

module _ {X : Type 0} where
  head_row : (row : Bytes × X) (rows : Rows X) (b : Bool) → b ≡ true → cond b (Some row.1) (row_at rows row.0) ≡ Some row.1
  head_row row rows true e = refl
  head_row row rows false e = absurd (let z : false ≡ true = e in cc)

  past_row : (row : Bytes × X) (rows : Rows X) (path : Bytes) (x : X) → (row.0 ≡ path → ⊥) → row_at rows path ≡ Some x → row_at (row ∷ rows) path ≡ Some x
  past_row row rows path x ne is = go (bytes_eq row.0 path) refl
    where
      go : (b : Bool) → bytes_eq row.0 path ≡ b → cond b (Some row.1) (row_at rows path) ≡ Some x
      go true e = absurd (ne ((bytes_decides row.0 path).0 e))
      go false e = is

-- ---- modules beside what stands at their places

module _ {X : Type 0} where
  pub beside_path : (program : Program) (xs : List X) (x : ℕ) (row : Bytes × X) → slice_get (beside program xs) x ≡ Some row → slice_get (paths_of program) x ≡ Some row.0
  beside_path [] xs x row at = absurd (let z : None ≡ Some row = at in cc)
  beside_path (m ∷ program) [] x row at = absurd (let z : None ≡ Some row = at in cc)
  beside_path (m ∷ program) (y ∷ xs) zero row at = ap (λ (r : Bytes × X). Some r.0) (one_value (m.0, y) row at)
  beside_path (m ∷ program) (y ∷ xs) (suc x) row at = beside_path program xs x row at

  -- the row of a module whose path is its own
  pub beside_at : (program : Program) (xs : List X) (x : ℕ) (row : Bytes × X) → IsRising (paths_of program) → slice_get (beside program xs) x ≡ Some row → row_at (beside program xs) row.0 ≡ Some row.1
  beside_at [] xs x row rising at = absurd (let z : None ≡ Some row = at in cc)
  beside_at (m ∷ program) [] x row rising at = absurd (let z : None ≡ Some row = at in cc)
  beside_at (m ∷ program) (y ∷ xs) zero row rising at =
      subst (λ (r : Bytes × X). row_at ((m.0, y) ∷ beside program xs) r.0 ≡ Some r.1) (one_value (m.0, y) row at)
      (head_row (m.0, y) (beside program xs) (bytes_eq m.0 m.0) ((bytes_decides m.0 m.0).1 refl))
  beside_at (m ∷ program) (y ∷ xs) (suc x) row rising at =
      past_row (m.0, y) (beside program xs) row.0 row.1
      (λ same. not_below_itself m.0 (subst (λ (p : Bytes). slice_cmp nat_cmp m.0 p ≡ Less) (sym same) (below_at m.0 (paths_of program) x row.0 (below_all m.0 (paths_of program) rising) (beside_path program xs x row at))))
      (beside_at program xs x row (rising_rest m.0 (paths_of program) rising) at)

-- ---- what a specifier finds is a module

pub zip_at : {A B : Type 0} (R : A → B → Type 0) (xs : List A) (ys : List B) (x : ℕ) (a : A) → AllZip R xs ys → slice_get xs x ≡ Some a → (b : B) × (slice_get ys x ≡ Some b) × R a b
zip_at {A} {B} R [] ys x a all at = absurd (let z : None ≡ Some a = at in cc)
zip_at {A} {B} R (c ∷ xs) [] x a all at = absurd all
zip_at {A} {B} R (c ∷ xs) (b ∷ ys) zero a all at = (b, refl, subst (λ (d : A). R d b) (one_value c a at) all.0)
zip_at {A} {B} R (c ∷ xs) (b ∷ ys) (suc x) a all at = zip_at R xs ys x a all.1 at
