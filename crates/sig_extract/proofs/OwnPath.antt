-- The path that stands for the module itself is a normal one.
use Rattle.std.proofs.Common.{◌≡◌, ℕ, ◌<◌, ◌≤◌, Bool, true, ◌&&◌, List, [], ◌∷◌, arith, rules, refl, codes}
use Rattle.std.specs.Prelude.{nat_lt, All}
use Rattle.std.specs.List.{list_all}
use Rattle.std.specs.Str.{IsAscii}
use Rattle.std.proofs.lemmas.Str.{IsUtf8-from_ascii}
use Rattle.std.proofs.lemmas.Str.Ascii.{IsAscii-nil, IsAscii-cons}
use Rattle.std.proofs.lemmas.Bool.{and_parts}
use Rattle.std.proofs.lemmas.Bool.Decides.{nat_tests}
use Rattle.std.proofs.lemmas.List.Elements.{All-nil, All-cons}
use Rattle.flow_values.specs.Path.{IsNormalPath}
use Rattle.flow_values.specs.PathForm.{IsNamed, HasPathForm}
use Rattle.flow_values.proofs.Parts.{is_normal}
use Rattle.local_signatures.specs.Scope.{own_path}

abbrev plain : ℕ → Bool
plain b = nat_lt 31 b && nat_lt b 128

above : (b : ℕ) → plain b ≡ true → 32 ≤ b
above b is = let p = and_parts (nat_lt 31 b) (nat_lt b 128) is in grind (arith, nat_tests)

below : (b : ℕ) → plain b ≡ true → b < 128
below b is = let p = and_parts (nat_lt 31 b) (nat_lt b 128) is in grind (arith, nat_tests)

all_plain : (bytes : List ℕ) → list_all plain bytes ≡ true → All (λ b. 32 ≤ b) bytes × IsAscii bytes
all_plain [] is = (All-nil (λ b. 32 ≤ b), IsAscii-nil)
all_plain (b ∷ bytes) is =
    let p = and_parts (plain b) (list_all plain bytes) is in
    let rest = all_plain bytes p.1 in
    (All-cons (λ b. 32 ≤ b) b bytes (above b p.0) rest.0, IsAscii-cons b bytes (below b p.0) rest.1)

named : IsNamed (codes "self.js")
named = record { not_empty = λ e. cc; not_here = λ e. cc; not_above = λ e. cc }

own_form : HasPathForm own_path
own_form = record {
  some = omega arith;
  short = omega arith;
  text = IsUtf8-from_ascii own_path (all_plain own_path refl).1;
  printed = (all_plain own_path refl).0;
  ending = search rules;
  parts = (named, (named, tt));
}

pub own_is_normal : IsNormalPath own_path
own_is_normal = is_normal own_path own_form
