-- Names are compared by their bytes.
use Rattle.std.proofs.Common.{◌≡◌, ℕ, Bool, true, false, ◌&&◌, List, refl, sym, ap, ap₂, ◌∙◌, bytes_eq, subst}
use Rattle.std.specs.Cmp.{IsEquivalence}
use Rattle.std.specs.Cmp.Lexicographic.{bytes_decides}
use Rattle.type_names.specs.Names.{Name}
use Rattle.merged_signatures.specs.Repeats.{name_eq}

pub bytes_same : (a b : List ℕ) → bytes_eq a b ≡ true → a ≡ b
bytes_same a b e = (bytes_decides a b).0 e

pub bytes_itself : (a : List ℕ) → bytes_eq a a ≡ true
bytes_itself a = (bytes_decides a a).1 refl

both : (a b : Bool) → (a && b) ≡ true → (a ≡ true) × (b ≡ true)
both true b is = (refl, is)
both false b is = absurd (cc)

pub same_name : (x y : Name) → name_eq x y ≡ true → x ≡ y
same_name (a, b) (c, d) e = let p = both (bytes_eq a c) (bytes_eq b d) e in ap₂ (λ (u v : List ℕ). (u, v)) (bytes_same a c p.0) (bytes_same b d p.1)

itself : (x : Name) → name_eq x x ≡ true
itself (a, b) = ap₂ (λ (u v : Bool). u && v) (bytes_itself a) (bytes_itself b)

symmetric : (x y : Name) → name_eq x y ≡ name_eq y x
symmetric x y = go (name_eq x y) (name_eq y x) refl refl
  where
    go : (a b : Bool) → name_eq x y ≡ a → name_eq y x ≡ b → a ≡ b
    go true true p q = refl
    go false false p q = refl
    go true false p q = let s = same_name x y p in sym (itself x) ∙ (subst (λ (w : Name). name_eq w x ≡ false) (sym s) q)
    go false true p q = let s = same_name y x q in sym (sym (itself x) ∙ (subst (λ (w : Name). name_eq x w ≡ false) s p))

pub name_laws : IsEquivalence name_eq
name_laws = record { refl = itself; symm = symmetric; congr = λ x y z e. ap (λ (w : Name). name_eq w z) (same_name x y e) }
