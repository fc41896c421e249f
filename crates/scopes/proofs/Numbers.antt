-- The numbers of constants are odd, and those of other variables even.
use Rattle.std.proofs.Common.{◌≡◌, ℕ, ◌+◌, ◌%◌, ◌==◌, true, false, ap, arith}
use Rattle.flow_facts.specs.Known.{is_constant_number}

pub odd_number : (n m : ℕ) → m ≡ n + n + 1 → is_constant_number m ≡ true
odd_number n m is = let odd : m % 2 ≡ 1 = omega (arith, is) in ap (λ k. k == 1) odd

pub even_number : (n m : ℕ) → m ≡ n + n → is_constant_number m ≡ false
even_number n m is = let even : m % 2 ≡ 0 = omega (arith, is) in ap (λ k. k == 1) even
