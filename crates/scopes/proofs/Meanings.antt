-- What a name means, by what it is bound to.
use Rattle.std.proofs.Common.{◌≡◌, ℕ, ◌<◌, Bool, true, false, leb, List, length, drop, get_or, Option, Some, None, refl, sym, ap, ◌∙◌, subst, cond}
use Rattle.std.specs.List.{list_any}
use Rattle.std.specs.Option.{option_map}
use Rattle.std.proofs.lemmas.Bool.{leb-true, leb-false}
use Rattle.std.proofs.lemmas.Option.{slice_get_read}
use Rattle.check_values.specs.Rows.{Bytes}
use Rattle.check_values.specs.declared.codes.Code.TheVariants.{CannotResolveName, ReferenceBeforeDeclaration, TypeAsValue}
use Rattle.type_values.specs.declared.types.FlowType.{FlowType}
use Rattle.typing.specs.Names as typing
use Rattle.scopes.specs.Stack.{last_at}
use Rattle.scopes.specs.Rows.{kind_view, binding_view, names_view, has_name}
use Rattle.scopes.specs.View.{Tells}
use Rattle.scopes.specs.declared.binding.Kind.{Kind}
use Rattle.scopes.specs.declared.binding.Kind.TheVariants as kind
use Rattle.scopes.specs.declared.binding.Binding.{Binding}
use Rattle.scopes.specs.declared.binding.Variable.{Variable}
use Rattle.scopes.specs.declared.binding.Meaning.TheVariants as meaning
use Rattle.scopes.specs.declared.row.Row.{Row}
use Rattle.scopes.proofs.Stacks.{none_since, found_since}
use Rattle.scopes.proofs.Named.{found, found_in, bound_seen}

pub means_type : (b : Binding) (depth : ℕ) → b.kind ≡ kind.TypeName → Tells (meaning.NoVariable TypeAsValue) (typing.meaning_by_kind (kind_view b.kind) depth (binding_view b))
means_type b depth is = subst (λ (k : Kind). Tells (meaning.NoVariable TypeAsValue) (typing.meaning_by_kind (kind_view k) depth (binding_view b))) (sym is) refl

by_declared : (k : Kind) (depth : ℕ) (b : Binding) → (k ≡ kind.TypeName → ⊥) → typing.meaning_by_kind (kind_view k) depth (binding_view b) ≡ typing.declared_meaning depth (binding_view b) b.declared
by_declared kind.Constant depth b value = refl
by_declared kind.Changing depth b value = refl
by_declared kind.Shared depth b value = refl
by_declared kind.TypeName depth b value = absurd (value refl)

pub means_later : (b : Binding) (depth : ℕ) → (b.kind ≡ kind.TypeName → ⊥) → b.declared ≡ None → Tells (meaning.NoVariable ReferenceBeforeDeclaration) (typing.meaning_by_kind (kind_view b.kind) depth (binding_view b))
means_later b depth value none =
    subst (Tells (meaning.NoVariable ReferenceBeforeDeclaration)) (sym (by_declared b.kind depth b value ∙ ap (typing.declared_meaning depth (binding_view b)) none)) refl

pub means_unusable : (b : Binding) (depth : ℕ) (t : FlowType) → (b.kind ≡ kind.TypeName → ⊥) → b.declared ≡ Some t → typing.is_usable depth (binding_view b) ≡ false →
    Tells (meaning.NoVariable ReferenceBeforeDeclaration) (typing.meaning_by_kind (kind_view b.kind) depth (binding_view b))
means_unusable b depth t value some early =
    subst (Tells (meaning.NoVariable ReferenceBeforeDeclaration))
    (sym (by_declared b.kind depth b value ∙ ap (typing.declared_meaning depth (binding_view b)) some ∙ ap (λ (c : Bool). cond c (typing.variable_of (binding_view b) t) (typing.no_variable ReferenceBeforeDeclaration)) early)) refl

pub means_variable : (b : Binding) (depth : ℕ) (t copy : FlowType) (v : Variable) → (b.kind ≡ kind.TypeName → ⊥) → b.declared ≡ Some t → typing.is_usable depth (binding_view b) ≡ true → copy ≡ t → v ≡ record { number = b.number; kind = b.kind } →
    Tells (meaning.Variable v copy) (typing.meaning_by_kind (kind_view b.kind) depth (binding_view b))
means_variable b depth t copy v value some usable same is =
    subst (Tells (meaning.Variable v copy))
    (sym (by_declared b.kind depth b value ∙ ap (typing.declared_meaning depth (binding_view b)) some ∙ ap (λ (c : Bool). cond c (typing.variable_of (binding_view b) t) (typing.no_variable ReferenceBeforeDeclaration)) usable))
    (ap (λ (v : Variable). v.number) is, ap (λ (v : Variable). kind_view v.kind) is, same)

pub means_nothing : (depth : ℕ) (o : Option typing.Binding) → None ≡ o → Tells (meaning.NoVariable CannotResolveName) (typing.meaning_of_binding depth o)
means_nothing depth o is = subst (λ (o : Option typing.Binding). Tells (meaning.NoVariable CannotResolveName) (typing.meaning_of_binding depth o)) is refl

-- ---- what is found

pub finds_none : (rows : List Row) (name : Bytes) → None ≡ last_at (has_name name) rows → None ≡ typing.binding_of (names_view rows) name
finds_none rows name is = sym (found rows name ∙ ap (λ (o : Option ℕ). found_in o None rows) (sym is))

pub finds_row : (rows : List Row) (name : Bytes) (at : ℕ) (row : Row) → Some at ≡ last_at (has_name name) rows → at < length rows → row ≡ get_or rows at row → Some (binding_view row.binding) ≡ typing.binding_of (names_view rows) name
finds_row rows name at row is within read =
    sym (found rows name ∙ ap (λ (o : Option ℕ). found_in o None rows) (sym is) ∙ ap (option_map (λ (row : Row). binding_view row.binding)) (slice_get_read rows (length rows) at row refl within read))

pub since_some : (rows : List Row) (name : Bytes) (k at : ℕ) → Some at ≡ last_at (has_name name) rows → leb k at ≡ typing.binds (names_view (drop k rows)) name
since_some rows name k at is = go (leb k at) refl ∙ sym (bound_seen (drop k rows) name)
  where
    go : (b : Bool) → leb k at ≡ b → leb k at ≡ list_any (has_name name) (drop k rows)
    go true e = e ∙ sym ((found_since (has_name name) k rows at (sym is)).0 (leb-true k at e))
    go false e = e ∙ sym ((found_since (has_name name) k rows at (sym is)).1 (leb-false k at e))

pub since_none : (rows : List Row) (name : Bytes) (k : ℕ) → None ≡ last_at (has_name name) rows → false ≡ typing.binds (names_view (drop k rows)) name
since_none rows name k is = sym (bound_seen (drop k rows) name ∙ none_since (has_name name) k rows (sym is))
