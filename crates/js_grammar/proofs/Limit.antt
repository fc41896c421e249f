-- The limit of nesting.
use Rattle.std.proofs.Common.{◌≡◌, ◌≤◌, nat_lt, arith, true, false, [], ◌∷◌, ◌++◌}
use Rattle.std.proofs.lemmas.Bool.Decides.{nat_tests}
use Rattle.js_grammar.specs.TypeSpelling.{Tokens}
use Rattle.js_grammar.specs.Nesting.{Nest, nest, height, max_nesting, is_deep, StaysWithin}

pub deep_not : (n : Nest) → is_deep n ≡ true → height n ≤ max_nesting → ⊥
deep_not n e h = let t : nat_lt max_nesting (height n) ≡ false = grind (arith, nat_tests) in cc

pub shallow : (n : Nest) → is_deep n ≡ false → height n ≤ max_nesting
shallow n e = grind (arith, nat_tests)

-- what is within the limit is so in front
pub stays_front : (a b : Tokens) (n : Nest) → StaysWithin n (a ++ b) → StaysWithin n a
stays_front [] b n h = tt
stays_front (x ∷ a) b n h = (h.0, stays_front a b (nest n x) (h.1))
