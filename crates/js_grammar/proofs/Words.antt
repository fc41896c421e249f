-- A word is what its class says.
use Rattle.std.proofs.Common.{◌≡◌, refl, Bool, true, false, codes, if◌then◌else◌}
use Rattle.std.specs.Str.{bytes_eq}
use Rattle.std.proofs.lemmas.Slice.Eq.{bytes_eq-Decides}
use Rattle.js_token.specs.Words.{is_reserved}
use Rattle.js_grammar.specs.Words.{Bytes, array_name, IsTypeName, truth_word}
use Rattle.js_grammar.specs.Machine.{TypeWord, type_name, null_word, void_word, truth_of, array_word, other_word, reserved_word, type_word}

abbrev pub IsWord : TypeWord → Bytes → Type 0
IsWord type_name n = IsTypeName n
IsWord null_word n = n ≡ codes "null"
IsWord void_word n = n ≡ codes "void"
IsWord (truth_of b) n = n ≡ truth_word b
IsWord (array_word o) n = n ≡ array_name o
IsWord other_word n = Unit {0}

pick : (x y : TypeWord) (b : Bool) (n : Bytes) → (b ≡ true → IsWord x n) → (b ≡ false → IsWord y n) → IsWord (if b then x else y) n
pick x y true n f g = f refl
pick x y false n f g = g refl

no_arrays : (b c : Bool) → b ≡ false → c ≡ false → (if b then true else c) ≡ false
no_arrays true c e f = cc
no_arrays false c e f = f

pub word_is : (n : Bytes) → IsWord (type_word n) n
word_is n =
    pick (reserved_word n) (if bytes_eq n (array_name false) then array_word false else if bytes_eq n (array_name true) then array_word true else type_name) (is_reserved n) n
    (λ r. pick null_word _ (bytes_eq n (codes "null")) n (λ e. is (codes "null") e)
    (λ e. pick void_word _ (bytes_eq n (codes "void")) n (λ e. is (codes "void") e)
    (λ e. pick (truth_of true) _ (bytes_eq n (codes "true")) n (λ e. is (codes "true") e)
    (λ e. pick (truth_of false) other_word (bytes_eq n (codes "false")) n (λ e. is (codes "false") e) (λ e. tt)))))
    (λ r. pick (array_word false) _ (bytes_eq n (array_name false)) n (λ e. is (array_name false) e)
    (λ e. pick (array_word true) type_name (bytes_eq n (array_name true)) n (λ e. is (array_name true) e) (λ f. (r, no_arrays (bytes_eq n (array_name false)) (bytes_eq n (array_name true)) e f))))
  where
    is : (w : Bytes) → bytes_eq n w ≡ true → n ≡ w
    is w e = (bytes_eq-Decides n w).0 e

-- a type's name is read as such
pub name_word : (n : Bytes) → IsTypeName n → type_word n ≡ type_name
name_word n h = rw (h.0) (rest (bytes_eq n (array_name false)) (bytes_eq n (array_name true)) (h.1))
  where
    rest : (b c : Bool) → (if b then true else c) ≡ false → (if b then array_word false else if c then array_word true else type_name) ≡ type_name
    rest true c e = cc
    rest false true e = cc
    rest false false e = refl
