-- A number tells a variable from those that are bound inside.
use Rattle.std.proofs.Common.{◌≡◌, ◌↔◌, ◌||◌, ℕ, Bool, true, false, Option, Some, None, Contains, bytes_eq, refl, sym, ap, ◌∙◌, subst, arith}
use Rattle.std.proofs.lemmas.List.Folds.{list_any-append}
use Rattle.check_values.specs.Rows.{Bytes, is_among}
use Rattle.typing.specs.Names.{Binding, Scope, binding_of, number_at, number_of}
use Rattle.typing.specs.States.{World}
use Rattle.binding_law.specs.Pieces.{Piece, parts, bound_by}
use Rattle.binding_law.specs.Ways.{Way, arrived, into, bound_on}
use Rattle.binding_law.specs.Scopes.{IsEntered, IsReadAlong, FindsSame}
use Rattle.binding_law.specs.Placed.{FitsAt}
use Rattle.binding_law.proofs.Changing.{never}
use Rattle.binding_law.proofs.Finding.{Enters, SameBinding}
use Rattle.binding_law.proofs.Entering.{way_enters, finds_same}
use Rattle.binding_law.proofs.Inside.{IsInside, IsOwn}
use Rattle.binding_law.proofs.Apart.{Part, part_at, own_inside}
use Rattle.binding_law.proofs.Tokens.{AtToken, FoundAt, own_found}

-- one number, one token
pub one_token : (c d : Bool) (a b : ℕ) → number_at c a ≡ number_at d b → a ≡ b
one_token true true a b is = omega arith
one_token true false a b is = omega arith
one_token false true a b is = omega arith
one_token false false a b is = omega arith

-- ---- what is found inside

abbrev pub number_in : Option Binding → Option ℕ
number_in None = None
number_in (Some b) = Some b.number

later_at : (P : ℕ → Type 0) (b : Binding) (o : Option Binding) → AtToken P b → SameBinding (Some b) o → (c : Binding) × (o ≡ Some c) × AtToken P c
later_at P b None at same = absurd same
later_at P b (Some c) (constantly, token, is, holds) same = (c, refl, (constantly, token, same.number ∙ is, holds))

wider_at : (P Q : ℕ → Type 0) (scope : Scope) (name : Bytes) → ((token : ℕ) → P token → Q token) → FoundAt P scope name → FoundAt Q scope name
wider_at P Q scope name each (b, found, (constantly, token, is, holds)) = (b, found, (constantly, token, is, each token holds))

-- a name that is bound on a way finds the number of a token inside
inside_found : (w : World) {q end : Piece} (way : Way q end) (k : ℕ) (scope there : Scope) (name : Bytes) → FitsAt q k → IsReadAlong w way scope there → is_among (bound_on way) name ≡ true → FoundAt (λ token. IsInside token q k) there name
inside_found w (arrived p) k scope there name fits read bound = never bound
inside_found w (into p q end part way) k scope there name fits (between, step, rest) bound =
    go (is_among (bound_on way) name) refl (sym (list_any-append (bytes_eq name) (bound_by p) (bound_on way)) ∙ bound)
    (inside_found w way (part_at p k fits q part).place between there name (part_at p k fits q part).fits rest)
  where
    or_last : (a b : Bool) → (a || b) ≡ true → b ≡ false → a ≡ true
    or_last true b is other = refl
    or_last false b is other = never (sym other ∙ is)

    go : (deeper : Bool) → is_among (bound_on way) name ≡ deeper → (is_among (bound_by p) name || is_among (bound_on way) name) ≡ true →
        (is_among (bound_on way) name ≡ true → FoundAt (λ token. IsInside token q (part_at p k fits q part).place) there name) → FoundAt (λ token. IsInside token p k) there name
    go true at is later = wider_at (λ token. IsInside token q (part_at p k fits q part).place) (λ token. IsInside token p k) there name (part_at p k fits q part).inside (later at)
    go false at is later =
        let own = own_found w p q k scope between name fits step (or_last (is_among (bound_by p) name) (is_among (bound_on way) name) is at) in
        let enters = way_enters w way between there name rest in
        let same = subst (λ (o : Option Binding). SameBinding o (binding_of there.names name)) own.1 (enters.free at).1 in
        let found = later_at (λ token. IsOwn token p k) own.0 (binding_of there.names name) own.2 same in
        wider_at (λ token. IsOwn token p k) (λ token. IsInside token p k) there name (λ token holds. own_inside p k token holds) (found.0, found.1, found.2)

-- ---- the law

same_number : (x y : Option Binding) → SameBinding x y → number_in y ≡ number_in x
same_number None None same = refl
same_number None (Some c) same = absurd same
same_number (Some b) None same = absurd same
same_number (Some b) (Some c) same = ap Some same.number

-- no name of this one has the number of a token inside of the piece
abbrev pub IsApart : Piece → ℕ → Option Binding → Type 0
IsApart q k None = Unit {0}
IsApart q k (Some b) = (constantly : Bool) (token : ℕ) → IsInside token q k → b.number ≡ number_at constantly token → ⊥

pub numbers_tell : (w : World) (q end : Piece) (k : ℕ) (way : Way q end) (scope there : Scope) (name : Bytes) → FitsAt q k → IsReadAlong w way scope there → IsApart q k (binding_of scope.names name) →
    FindsSame name scope there ↔ (number_of there name ≡ number_of scope name)
numbers_tell w q end k way scope there name fits read apart = (forth, λ is. (finds_same w q end way scope there name read).0 (free (is_among (bound_on way) name) refl is))
  where
    enters : Enters name (is_among (bound_on way) name) scope there
    enters = way_enters w way scope there name read

    forth : FindsSame name scope there → number_of there name ≡ number_of scope name
    forth same = same_number (binding_of scope.names name) (binding_of there.names name) (enters.free ((finds_same w q end way scope there name read).1 same)).1

    other : (x y : Option Binding) → IsApart q k x → (c : Binding) × (y ≡ Some c) × AtToken (λ token. IsInside token q k) c →
        number_in y ≡ number_in x → ⊥
    other x None away (c, found, at) same = let wrong : ⊥ = cc in wrong
    other None (Some d) away (c, found, at) same = let wrong : ⊥ = cc in wrong
    other (Some b) (Some d) away (c, found, (constantly, token, is, holds)) same =
        let it : d ≡ c = cc in
        let alike : d.number ≡ b.number = cc in
        away constantly token holds (sym alike ∙ ap (λ (x : Binding). x.number) it ∙ is)

    free : (bound : Bool) → is_among (bound_on way) name ≡ bound → number_of there name ≡ number_of scope name → is_among (bound_on way) name ≡ false
    free false at is = at
    free true at is = absurd (other (binding_of scope.names name) (binding_of there.names name) apart (inside_found w way k scope there name fits read at) is)

-- what a piece binds is apart from what is bound inside of its parts
own_apart : (p q : Piece) (i : ℕ) (part : Part p i q) (o : Option Binding) (b : Binding) → o ≡ Some b → AtToken (λ token. IsOwn token p i) b → IsApart q part.place o
own_apart p q i part None b is at = tt
own_apart p q i part (Some c) b is (constantly, own, number, holds) =
    let it : c ≡ b = cc in
    λ d token inside same. part.apart own token holds inside (one_token constantly d own token (sym number ∙ sym (ap (λ (x : Binding). x.number) it) ∙ same))

pub inner_numbers : (w : World) (p q end : Piece) (place : ℕ) (way : Way q end) (outer scope there : Scope) (name : Bytes) → FitsAt p place → Contains (parts p) q → IsEntered w p q outer scope → is_among (bound_by p) name ≡ true →
    IsReadAlong w way scope there → FindsSame name scope there ↔ (number_of there name ≡ number_of scope name)
inner_numbers w p q end place way outer scope there name fits part entered bound read =
    let at = part_at p place fits q part in
    let own = own_found w p q place outer scope name fits entered bound in
    numbers_tell w q end at.place way scope there name at.fits read (own_apart p q place at (binding_of scope.names name) own.0 own.1 own.2)
