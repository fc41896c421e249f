-- Whether a list of a tree is empty, and what its last element tells.
use Rattle.std.proofs.Common.{◌≡◌, refl, sym, ◌∙◌, ap, ℕ, suc, ◌-◌, arith, List, [], ◌∷◌, true, false, not, length, get_or}
use Rattle.std.specs.Prelude.{map, ◌==◌}
use Rattle.std.proofs.lemmas.Bool.Decides.{nat_tests}
use Rattle.js_grammar.specs.Code as g
use Rattle.js_grammar.specs.Code.{Ex, ex, postfixed, Link, Links, no_link, more_link, Exs, has_exs, Fields, has_fields, Parameters, has_parameters, is_property}
use Rattle.code_law.specs.Frames.{start_ex}
use Rattle.code_law.specs.Expressions.{linked}
use Rattle.code_tree.specs.Flat.{parameters_from, parameter_view, parameters_view}
use Rattle.code_tree.specs.Steps.{exs_from, links_from, fields_from}
use Rattle.code_tree.specs.View.{expr_view, exprs_view, link_view, links_view, field_view, fields_view}
use Rattle.code_tree.specs.declared.types.Expr.{Expr, out-Expr}
use Rattle.code_state.proofs.Views.{start_expr}
use Rattle.code_tree.specs.declared.types.Link as code
use Rattle.code_tree.specs.declared.types.Field.{Field}
use Rattle.code_tree.specs.declared.types.Parameter.{Parameter}

some_length : (n : ℕ) → (suc n == 0) ≡ false
some_length n = grind (arith, nat_tests)

exs-more : (acc : Exs) (e : Ex) (es : List Ex) → has_exs (exs_from acc (e ∷ es)) ≡ true
exs-more acc e [] = refl
exs-more acc e (f ∷ es) = exs-more (g.more_ex acc e) f es

pub has_exs_view : (es : List Expr) → has_exs (exprs_view es) ≡ not (length es == 0)
unfolding exprs_view
has_exs_view [] = refl
has_exs_view (e ∷ es) = exs-more g.no_ex (expr_view e) (map expr_view es) ∙ ap not (sym (some_length (length es)))

fields-more : (acc : Fields) (e : g.Field) (es : List g.Field) → has_fields (fields_from acc (e ∷ es)) ≡ true
fields-more acc e [] = refl
fields-more acc e (f ∷ es) = fields-more (g.more_field acc e) f es

pub has_fields_view : (es : List Field) → has_fields (fields_view es) ≡ not (length es == 0)
unfolding fields_view
has_fields_view [] = refl
has_fields_view (e ∷ es) = fields-more g.no_field (field_view e) (map field_view es) ∙ ap not (sym (some_length (length es)))

parameters-more : (acc : Parameters) (e : g.Parameter) (es : List g.Parameter) → has_parameters (parameters_from acc (e ∷ es)) ≡ true
parameters-more acc e [] = refl
parameters-more acc e (f ∷ es) = parameters-more (g.more_parameter acc e) f es

pub has_parameters_view : (es : List Parameter) → has_parameters (parameters_view es) ≡ not (length es == 0)
unfolding parameters_view
has_parameters_view [] = refl
has_parameters_view (e ∷ es) = parameters-more g.no_parameter (parameter_view e) (map parameter_view es) ∙ ap not (sym (some_length (length es)))

links-more : (i : ℕ) (b : Ex) (acc : Links) (y : Link) (ys : List Link) → linked i b (links_from acc (y ∷ ys)) ≡ ex (start_ex b) i (postfixed b (links_from acc (y ∷ ys)))
links-more i b acc y [] = refl
links-more i b acc y (z ∷ ys) = links-more i b (more_link acc y) z ys

pub linked_some : (i : ℕ) (b : Ex) (ls : List code.Link) → (length ls == 0) ≡ false → linked i b (links_view ls) ≡ ex (start_ex b) i (postfixed b (links_view ls))
unfolding links_view
linked_some i b [] h = absurd (let z : true ≡ false = h in cc)
linked_some i b (y ∷ ys) h = links-more i b no_link (link_view y) (map link_view ys)

pub linked_none : (i : ℕ) (b : Ex) (ls : List code.Link) → (length ls == 0) ≡ true → linked i b (links_view ls) ≡ b
unfolding links_view
linked_none i b [] h = refl
linked_none i b (y ∷ ys) h = absurd (let z : false ≡ true = sym (some_length (length ys)) ∙ h in cc)

is-property-acc : (acc : Links) (y : Link) → is_property (more_link acc y) ≡ is_property (more_link no_link y)
is-property-acc acc (g.link f t (g.member n)) = refl
is-property-acc acc (g.link f t (g.index e)) = refl
is-property-acc acc (g.link f t (g.call es c)) = refl

property-last : (acc : Links) (ls : List code.Link) (y d : code.Link) → is_property (links_from acc (map link_view (y ∷ ls))) ≡ is_property (more_link no_link (link_view (get_or (y ∷ ls) (length ls) d)))
property-last acc [] y d = is-property-acc acc (link_view y)
property-last acc (z ∷ ls) y d = property-last (more_link acc (link_view y)) ls z d

pub property_last : (ls : List code.Link) (d : code.Link) → (length ls == 0) ≡ false → is_property (links_view ls) ≡ is_property (more_link no_link (link_view (get_or ls (length ls - 1) d)))
unfolding links_view
property_last [] d h = absurd (let z : true ≡ false = h in cc)
property_last (y ∷ ls) d h = let e : suc (length ls) - 1 ≡ length ls = omega arith in rw e (property-last no_link ls y d)

pub property_none : (ls : List code.Link) → (length ls == 0) ≡ true → is_property (links_view ls) ≡ false
unfolding links_view
property_none [] h = refl
property_none (y ∷ ys) h = absurd (let z : false ≡ true = sym (some_length (length ys)) ∙ h in cc)

-- what links follow begins where it does
pub links_whole : (i : ℕ) (b : Expr) (ls : List code.Link) → (length ls == 0) ≡ false → linked i (expr_view b) (links_view ls) ≡ ex (out-Expr b).first i (postfixed (expr_view b) (links_view ls))
links_whole i b ls h = linked_some i (expr_view b) ls h ∙ ap (λ s. ex s i (postfixed (expr_view b) (links_view ls))) (start_expr b)

pub ruleset empties = (has_exs_view, has_fields_view, has_parameters_view)

pub ruleset last_links = (property_last, property_none)
