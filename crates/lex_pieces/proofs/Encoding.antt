-- The UTF-8 of one more character.
use Rattle.std.proofs.Common.{◌≡◌, ℕ, ◌+◌, ◌<◌, List, [], ◌∷◌, ◌++◌, length, get_or, take, sym, ap, ◌∙◌}
use Rattle.std.specs.Str.{encode_utf8_all}
use Rattle.std.specs.Char.{encode_utf8}
use Rattle.std.proofs.lemmas.Str.{encodes-append}
use Rattle.std.proofs.lemmas.List.{take_more, append-nil}

pub encoded_push : (cs : List ℕ) (c : ℕ) → encode_utf8_all (cs ++ c ∷ []) ≡ encode_utf8_all cs ++ encode_utf8 c
encoded_push cs c = encodes-append cs (c ∷ []) ∙ ap (λ bs. encode_utf8_all cs ++ bs) (append-nil (encode_utf8 c))

pub encoded_more : (cs : List ℕ) (i c : ℕ) → i < length cs → c ≡ get_or cs i 0 →
    encode_utf8_all (take (i + 1) cs) ≡ encode_utf8_all (take i cs) ++ encode_utf8 c
encoded_more cs i c l e =
    ap encode_utf8_all (take_more cs i 0 l) ∙ (encoded_push (take i cs) (get_or cs i 0) ∙ ap (λ x. encode_utf8_all (take i cs) ++ encode_utf8 x) (sym e))
