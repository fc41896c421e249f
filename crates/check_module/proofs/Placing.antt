-- The type at a line and a column, by the byte there.
use Rattle.std.proofs.Common.{◌≡◌, ◌↔◌, ℕ, List, Option, Some, None, sym, ◌∙◌, subst}
use Rattle.flow_values.specs.declared.span.Span.{Span}
use Rattle.js_grammar.specs.Items.{Module}
use Rattle.check_values.specs.Rows.{Bytes}
use Rattle.check_values.specs.declared.signatures.Deps.{Deps}
use Rattle.type_values.specs.declared.types.FlowType.{FlowType}
use Rattle.errors_by_reach.specs.Law.{IsTypeAt}
use Rattle.errors_by_reach.specs.Seen.{Sigs}
use Rattle.byte_places.specs.Places.{StandsAt}
use Rattle.check_module.specs.Positions.{IsTypeAtPos}

module _ (path : Bytes) (deps : Deps) (m : Module) (spans : List Span) (sigs : Sigs) (text : Bytes) (line column : ℕ) (found : Option ℕ) (answer : Option FlowType) (tells : (n : ℕ) → (found ≡ Some n) ↔ StandsAt text line column n) where
  pub at_byte : (place at : ℕ) → found ≡ Some place → at ≡ place → IsTypeAt path deps m spans sigs at answer → IsTypeAtPos path deps m spans sigs text line column answer
  at_byte place at is same has = record {
    at_character = λ n stands.
        let e : Some place ≡ Some n = sym is ∙ (tells n).1 stands in
        subst (λ (k : ℕ). IsTypeAt path deps m spans sigs k answer) (cc) has;
    at_none = λ none. absurd (none place ((tells place).0 is));
  }

  pub at_nowhere : found ≡ None → answer ≡ None → IsTypeAtPos path deps m spans sigs text line column answer
  at_nowhere is none = record {
    at_character = λ n stands. let e : None ≡ Some n = sym is ∙ (tells n).1 stands in absurd (cc);
    at_none = λ nothing. none;
  }
