-- The parts of a line, one behind the other.
use Rattle.std.proofs.Common.{◌≡◌, ◌++◌, ◌∙◌, append_assoc}
use Rattle.flow_values.specs.Path.{Bytes}

pub two : (out a b : Bytes) → (out ++ a) ++ b ≡ out ++ (a ++ b)
two out a b = append_assoc out a b

pub three : (out a b c : Bytes) → ((out ++ a) ++ b) ++ c ≡ out ++ (a ++ (b ++ c))
three out a b c = append_assoc (out ++ a) b c ∙ two out a (b ++ c)

pub four : (out a b c d : Bytes) → (((out ++ a) ++ b) ++ c) ++ d ≡ out ++ (a ++ (b ++ (c ++ d)))
four out a b c d = append_assoc ((out ++ a) ++ b) c d ∙ three out a b (c ++ d)

pub five : (out a b c d e : Bytes) → ((((out ++ a) ++ b) ++ c) ++ d) ++ e ≡ out ++ (a ++ (b ++ (c ++ (d ++ e))))
five out a b c d e = append_assoc (((out ++ a) ++ b) ++ c) d e ∙ four out a b c (d ++ e)

six : (out a b c d e f : Bytes) → (((((out ++ a) ++ b) ++ c) ++ d) ++ e) ++ f ≡ out ++ (a ++ (b ++ (c ++ (d ++ (e ++ f)))))
six out a b c d e f = append_assoc ((((out ++ a) ++ b) ++ c) ++ d) e f ∙ five out a b c d (e ++ f)

pub seven : (out a b c d e f g : Bytes) → ((((((out ++ a) ++ b) ++ c) ++ d) ++ e) ++ f) ++ g ≡ out ++ (a ++ (b ++ (c ++ (d ++ (e ++ (f ++ g))))))
seven out a b c d e f g = append_assoc (((((out ++ a) ++ b) ++ c) ++ d) ++ e) f g ∙ six out a b c d e (f ++ g)
