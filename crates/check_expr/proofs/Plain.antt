-- Forms that are read plainly, and then against a type.
use Rattle.std.proofs.Common.{◌≡◌, ℕ, Bool, true, false, None, ap, ◌∙◌}
use Rattle.js_grammar.specs.Code.{ExForm, variable, number, text, truth_value, null_value, parens, elements, fields, function_ex, postfixed, prefixed, chain, cond, arrow}
use Rattle.typing.specs.Names.{Scope}
use Rattle.typing.specs.States.{World, Want, Now, Out, against}
use Rattle.typing.specs.Typing.{read_form}

-- whether a form hands on what it is read against
abbrev pub hands_on : ExForm → Bool
hands_on (parens e) = true
hands_on (cond arms e) = true
hands_on (elements es comma) = true
hands_on (fields fs comma) = true
hands_on form = false

pub wanted : (w : World) (f t : ℕ) (form : ExForm) (s : Scope) (want : Want) (start : Now) (o p : Out) → hands_on form ≡ false → o ≡ read_form w f t form s None start → p ≡ against w f t want o →
    p ≡ read_form w f t form s want start
wanted w f t (variable name) s want start o p plain is after = after ∙ ap (against w f t want) is
wanted w f t (number digits) s want start o p plain is after = after ∙ ap (against w f t want) is
wanted w f t (text x) s want start o p plain is after = after ∙ ap (against w f t want) is
wanted w f t (truth_value b) s want start o p plain is after = after ∙ ap (against w f t want) is
wanted w f t null_value s want start o p plain is after = after ∙ ap (against w f t want) is
wanted w f t (function_ex made_by) s want start o p plain is after = after ∙ ap (against w f t want) is
wanted w f t (postfixed e ls) s want start o p plain is after = after ∙ ap (against w f t want) is
wanted w f t (prefixed marks e) s want start o p plain is after = after ∙ ap (against w f t want) is
wanted w f t (chain level e os) s want start o p plain is after = after ∙ ap (against w f t want) is
wanted w f t (arrow x body) s want start o p plain is after = after ∙ ap (against w f t want) is
wanted w f t (parens e) s want start o p plain is after = absurd (cc)
wanted w f t (cond arms e) s want start o p plain is after = absurd (cc)
wanted w f t (elements es comma) s want start o p plain is after = absurd (cc)
wanted w f t (fields fs comma) s want start o p plain is after = absurd (cc)
