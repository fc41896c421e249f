-- Names that are bound since a height.
use Rattle.std.proofs.Common.{◌≡◌, ℕ, Bool, true, false, List, [], ◌∷◌, ◌++◌, cond, refl, sym, ap, ◌∙◌}
use Rattle.check_values.specs.declared.codes.Code.TheVariants.{NameAlreadyBound}
use Rattle.scopes.specs.View.{names_in, names_since, scope_view, IsHeight, KeepsHeights}
use Rattle.scopes.specs.declared.row.Height.{Height}
use Rattle.scopes.specs.declared.scope.Scope.{Scope}
use Rattle.typing.specs.Names as typing
use Rattle.typing.specs.Names.{Binding}
use Rattle.typing.specs.States.{World, Notes, name_fault, fault_at}
use Rattle.typing.specs.Functions.{Bound, bind}
use Rattle.std.specs.Prelude.{suc}
use Rattle.binders.specs.View.{Binds}

-- nothing was bound
pub binds_nothing : (since : Height) (a : Scope) → Binds since a a
binds_nothing since a = record { names = λ outer is. is; heights = λ height is. (is, refl); depth = refl; result = refl }

-- one name was
pub binds_one : (since : Height) (a b : Scope) (x : Binding) → scope_view b ≡ record { names = x ∷ names_in a; depth = a.depth; result = a.result } → names_since since b ≡ x ∷ names_since since a →
    KeepsHeights a b → Binds since a b
binds_one since a b x is since_is heights = record {
  names = λ outer before. ap (λ (s : typing.Scope). s.names) is ∙ ap (λ (l : List Binding). x ∷ l) before ∙ ap (λ (l : List Binding). l ++ outer) (sym since_is);
  heights = heights;
  depth = ap (λ (s : typing.Scope). s.depth) is;
  result = ap (λ (s : typing.Scope). s.result) is;
}

-- some were, and then others
pub binds_twice : (since : Height) (a b c : Scope) → Binds since a b → Binds since b c → Binds since a c
binds_twice since a b c first second = record {
  names = λ outer is. second.names outer (first.names outer is);
  heights = λ height is. let once = first.heights height is in let twice = second.heights height once.0 in (twice.0, twice.1 ∙ once.1);
  depth = second.depth ∙ first.depth;
  result = second.result ∙ first.result;
}

pub still_height : (since : Height) (a b : Scope) → IsHeight since a → Binds since a b → IsHeight since b
still_height since a b is binds = (binds.heights since is).0

-- a name that is bound already is a fault
pub bound_again : (w : World) (token : ℕ) (b : Binding) (names : List Binding) (before after : Notes) → typing.binds names b.name ≡ true →
    after ≡ name_fault (fault_at w token (suc token) NameAlreadyBound b.name) before → ◌≡◌ {A = Bound} (record { names = names; notes = after }) (bind w token b (record { names = names; notes = before }))
bound_again w token b names before after e is = (λ i. record { names = names; notes = is i }) ∙ go (typing.binds names b.name) e
  where
    go : (c : Bool) → c ≡ true → ◌≡◌ {A = Bound} (record { names = names; notes = name_fault (fault_at w token (suc token) NameAlreadyBound b.name) before })
        (cond c (record { names = names; notes = name_fault (fault_at w token (suc token) NameAlreadyBound b.name) before }) (record { names = b ∷ names; notes = before }))
    go true e = refl
    go false e = absurd (cc)

-- another one is bound
pub bound_newly : (w : World) (token : ℕ) (b : Binding) (before after : List Binding) (notes : Notes) → typing.binds before b.name ≡ false → after ≡ b ∷ before →
    ◌≡◌ {A = Bound} (record { names = after; notes = notes }) (bind w token b (record { names = before; notes = notes }))
bound_newly w token b before after notes e is = (λ i. record { names = is i; notes = notes }) ∙ go (typing.binds before b.name) e
  where
    go : (c : Bool) → c ≡ false → ◌≡◌ {A = Bound} (record { names = b ∷ before; notes = notes })
        (cond c (record { names = before; notes = name_fault (fault_at w token (suc token) NameAlreadyBound b.name) notes }) (record { names = b ∷ before; notes = notes }))
    go true e = absurd (cc)
    go false e = refl
