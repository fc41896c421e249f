-- What is shown at a line and a column is one type, or none.
use Rattle.std.proofs.Common.{◌≡◌, ℕ, List, Option, None, refl, sym, ap, ◌∙◌, subst, inl, inr}
use Rattle.flow_values.specs.declared.span.Span.{Span}
use Rattle.js_grammar.specs.Items.{Module}
use Rattle.check_values.specs.Rows.{Bytes, Rows, row_at}
use Rattle.check_values.specs.declared.signatures.Deps.{Deps}
use Rattle.check_values.specs.declared.signatures.Sig.{Sig}
use Rattle.type_values.specs.declared.types.FlowType.{FlowType}
use Rattle.module_errors.specs.Program.{Program}
use Rattle.module_errors.specs.Errors.{type_at_place}
use Rattle.errors_by_reach.specs.Seen.{Sigs, IsSeen}
use Rattle.errors_by_reach.specs.Law.{Source, whole, broken, IsTypeAt}
use Rattle.errors_by_reach.proofs.Tables.{one_table}
use Rattle.errors_by_reach.proofs.OneView.{one_view}
use Rattle.errors_law.specs.Law.{EachSeesReached}
use Rattle.shown_types.specs.Shown.{IsTypeIn}
use Rattle.shown_types.specs.Law.{OneType, EachHasType}
use Rattle.shown_types.proofs.Characters.{character, one_character}

-- ---- one at most

type_in_tree : (path : Bytes) (deps : Deps) (m : Module) (spans : List Span) (sigs : Sigs) (at : ℕ) (a b : Option FlowType) → IsTypeAt path deps m spans sigs at a → IsTypeAt path deps m spans sigs at b → a ≡ b
type_in_tree path deps m spans sigs at a b is also =
    let tables = one_table sigs also.0 is.0 deps also.1 is.1 in
    let seen = subst (λ (table : Sigs). IsSeen path deps m table also.2.0) tables also.2.1 in
    is.2.2 ∙ ap (λ (p : Program). type_at_place p m spans at) (one_view path deps m is.0 is.2.0 also.2.0 is.2.1 seen) ∙ sym also.2.2

type_in : (path : Bytes) (deps : Deps) (source : Source) (sigs : Sigs) (at : ℕ) (a b : Option FlowType) → IsTypeIn path deps source sigs at a → IsTypeIn path deps source sigs at b → a ≡ b
type_in path deps (whole m spans) sigs at a b is also = type_in_tree path deps m spans sigs at a b is also
type_in path deps (broken code place) sigs at a b is also = is ∙ sym also

pub one_type : OneType
one_type path deps source sigs text line column a b is also = elim (character text line column) [
  | inl there ↦ type_in path deps source sigs there.0 a b (is.at_character there.0 there.1) (also.at_character there.0 there.1)
  | inr never ↦ is.at_none never ∙ sym (also.at_none never)
]

-- ---- one at least

some_type : EachSeesReached → (path : Bytes) (deps : Deps) (source : Source) (sigs : Rows Sig) (at : ℕ) → (answer : Option FlowType) × IsTypeIn path deps source (row_at sigs) at answer
some_type sees path deps (whole m spans) sigs at =
    let seen = sees path deps m sigs in
    (type_at_place seen.2 m spans at, (seen.0, seen.1, (seen.2, seen.3, refl)))
some_type sees path deps (broken code place) sigs at = (None, refl)

pub each_type : EachSeesReached → EachHasType
each_type sees path deps source sigs text line column = elim (character text line column) [
  | inl there ↦ (
      let found = some_type sees path deps source sigs there.0 in (
        found.0,
        record {
          at_character = λ at stands. subst (λ (k : ℕ). IsTypeIn path deps source (row_at sigs) k found.0) (one_character text line column there.0 at there.1 stands) found.1;
          at_none = λ never. absurd (never there.0 there.1);
        },
      ))
  | inr never ↦ (None, record { at_character = λ at stands. absurd (never at stands); at_none = λ _. refl })
]
