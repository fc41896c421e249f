-- Numbers of variables, and the facts on constants.
use Rattle.std.proofs.Common.{◌≡◌, ℕ, suc, ◌+◌, ◌%◌, ◌==◌, Bool, true, false, Option, None, refl, ap, ◌∙◌, cond, arith}
use Rattle.type_values.specs.declared.types.FlowType.{FlowType}
use Rattle.std.specs.Prelude.{not}
use Rattle.flow_facts.specs.Known.{numbered, is_constant_number, variable_place}
use Rattle.typing_laws.specs.Numbers.{KeepsConstants}

-- the number of a constant is odd, and that of another variable even
pub numbered_tells : (constantly : Bool) (n : ℕ) → is_constant_number (numbered constantly n) ≡ constantly
numbered_tells true n = let odd : suc (n + n) % 2 ≡ 1 = omega arith in ap (λ k. k == 1) odd
numbered_tells false n = let even : (n + n) % 2 ≡ 0 = omega arith in ap (λ k. k == 1) even

dropped : (b : Bool) (fact : Option FlowType) → cond (not b) None fact ≡ cond b fact None
dropped true fact = refl
dropped false fact = refl

pub keeps_constants : KeepsConstants
keeps_constants b m tells =
    (_, refl, dropped (is_constant_number b.number) (m (variable_place b.number)) ∙ ap (λ (c : Bool). cond c (m (variable_place b.number)) None) tells)
