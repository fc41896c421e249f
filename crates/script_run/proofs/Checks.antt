-- The full check of a program has one number of errors.
use Rattle.std.proofs.Common.{◌≡◌, ℕ, ◌+◌, List, [], ◌∷◌, length, slice_get, Some, None, refl, sym, ap, ◌∙◌, zero, suc}
use Rattle.std.specs.Coded.{coded_ℕ}
use denote.Struct.Props.{≡_prop}
use mathlib.Core.Logic.{∥∥₁_elim}
use Rattle.flow_base.specs.Program.{Bytes, Program}
use Rattle.merged_signatures.specs.Chains.{View}
use Rattle.errors_by_reach.specs.Seen.{Sigs}
use Rattle.program_check.specs.Full.{Results, AreResults, IsFull}
use Rattle.program_check.specs.Law.{AllAlike, OneFull}
use Rattle.program_check.specs.Status.{error_count}
use Rattle.script_run.specs.Checked.{HasErrorCount}

-- ---- results that are alike

same_count : (a b : List Results) → AllAlike a b → error_count a ≡ error_count b
same_count [] [] alike = refl
same_count [] (y ∷ b) alike = absurd alike
same_count (x ∷ a) [] alike = absurd alike
same_count (x ∷ a) (y ∷ b) alike =
    let first = alike.0.errors in
    let rest = same_count a b alike.1 in
    λ i. length (first i) + rest i

-- where two are alike, what stands at a place of one has the errors of what stands there in the other
pub same_errors : (a b : List Results) (x : ℕ) (r : Results) → AllAlike a b → slice_get b x ≡ Some r → (s : Results) × (slice_get a x ≡ Some s) × (s.errors ≡ r.errors)
same_errors [] [] x r alike at = absurd (let z : None ≡ Some r = at in cc)
same_errors [] (z ∷ b) x r alike at = absurd alike
same_errors (y ∷ a) [] x r alike at = absurd alike
same_errors (y ∷ a) (z ∷ b) zero r alike at = let is : z ≡ r = (let e : Some z ≡ Some r = at in cc) in (y, refl, alike.0.errors ∙ ap (λ (s : Results). s.errors) is)
same_errors (y ∷ a) (z ∷ b) (suc x) r alike at = same_errors a b x r alike.1 at

-- ---- one number

module _ (one : OneFull) (program : Program) where
  pub one_count : (m n : ℕ) → HasErrorCount program m → HasErrorCount program n → m ≡ n
  one_count m n first second =
      ∥∥₁_elim first (≡_prop coded_ℕ m n) (λ a. ∥∥₁_elim second (≡_prop coded_ℕ m n) (λ b. a.2 ∙ (same_count a.0 b.0 (one program a.0 b.0 a.1 b.1) ∙ sym b.2)))

-- ---- some number

-- a program without modules has no errors
pub no_errors : HasErrorCount [] 0
no_errors = ∣ ([], tt, refl) ∣₁

-- there are results for each module
as_many : (paths : List Bytes) (view : View) (sigs : Sigs) (program : Program) (results : List Results) → AreResults paths view sigs program results → length results ≡ length program
as_many paths view sigs [] [] are = refl
as_many paths view sigs [] (r ∷ results) are = absurd are
as_many paths view sigs (m ∷ program) [] are = absurd are
as_many paths view sigs (m ∷ program) (r ∷ results) are = ap (λ n. suc n) (as_many paths view sigs program results are.1)

pub each_module : (program : Program) (results : List Results) → IsFull program results → length results ≡ length program
each_module program results full = as_many _ _ _ program results full
