-- Forms by what they are not.
use Rattle.std.proofs.Common.{◌≡◌, ℕ, Bool, true, false, List, Option, Some, None, refl, sym, ap, ◌∙◌, rules}
use Rattle.check_values.specs.Rows.{Bytes}
use Rattle.js_grammar.specs.Code.{ex, link, Link as Step}
use Rattle.typing.specs.Names.{Scope}
use Rattle.typing.specs.States.{World, Now, Out}
use Rattle.std.specs.Prelude.{is_some}
use Rattle.flow_facts.specs.declared.place.Place.{Place}
use Rattle.check_expr.specs.Targets.{Aim, link_aim, aim, aim_now}
use Rattle.check_expr.proofs.Views.{link_is}
use Rattle.code_tree.specs.View.{expr_view, expr_form_view, postfix_expr_view, chain_expr_view, conditional_expr_view, arrow_expr_view, function_view, exprs_view, fields_view, field_view, link_view, link_form_view}
use Rattle.code_tree.specs.declared.types.ArrowBody.TheOpen.{ExprForm-F, LinkForm-F}
use Rattle.code_tree.specs.declared.types.LinkForm as link_form
use Rattle.code_tree.specs.declared.types.LinkForm.{out-LinkForm, roll-out-LinkForm, roll-LinkForm}
use Rattle.code_tree.specs.declared.types.Link.{out-Link}
use Rattle.code_tree.specs.declared.types.ExprForm as form
use Rattle.code_tree.specs.declared.types.ExprForm.{the_lemmas, out-ExprForm, roll-out-ExprForm, roll-ExprForm}
use Rattle.code_tree.specs.declared.types.ArrowBody.{ArrowBody}
use Rattle.code_tree.specs.declared.types.Body.{Body}
use Rattle.code_tree.specs.declared.types.Else.{Else}
use Rattle.code_tree.specs.declared.types.ExprForm.{ExprForm}
use Rattle.code_tree.specs.declared.types.FieldForm.{FieldForm}
use Rattle.code_tree.specs.declared.types.LinkForm.{LinkForm}
use Rattle.code_tree.specs.declared.types.OperandForm.{OperandForm}
use Rattle.code_tree.specs.declared.types.SimpleForm.{SimpleForm}
use Rattle.code_tree.specs.declared.types.StatementForm.{StatementForm}
use Rattle.code_tree.specs.declared.types.Arm.{Arm}
use Rattle.code_tree.specs.declared.types.ArrowExpr.{ArrowExpr}
use Rattle.code_tree.specs.declared.types.Assignment.{Assignment}
use Rattle.code_tree.specs.declared.types.Block.{Block}
use Rattle.code_tree.specs.declared.types.Branch.{Branch}
use Rattle.code_tree.specs.declared.types.ChainExpr.{ChainExpr}
use Rattle.code_tree.specs.declared.types.ConditionalExpr.{ConditionalExpr}
use Rattle.code_tree.specs.declared.types.Declaration.{Declaration}
use Rattle.code_tree.specs.declared.types.Expr.{Expr}
use Rattle.code_tree.specs.declared.types.Field.{Field}
use Rattle.code_tree.specs.declared.types.Function.{Function}
use Rattle.code_tree.specs.declared.types.IfStatement.{IfStatement}
use Rattle.code_tree.specs.declared.types.Link.{Link}
use Rattle.code_tree.specs.declared.types.Operand.{Operand}
use Rattle.code_tree.specs.declared.types.PostfixExpr.{PostfixExpr}
use Rattle.code_tree.specs.declared.types.Simple.{Simple}
use Rattle.code_tree.specs.declared.types.Statement.{Statement}
use Rattle.code_tree.specs.declared.types.WhileStatement.{WhileStatement}
use Rattle.check_expr.proofs.Plain.{hands_on}

abbrev Level : Type 0
Level = ExprForm-F ArrowBody Body Else ExprForm FieldForm LinkForm OperandForm SimpleForm StatementForm Arm ArrowExpr Assignment Block Branch ChainExpr ConditionalExpr Declaration Expr Field Function IfStatement Link Operand PostfixExpr Simple Statement WhileStatement

plain_level : (l : Level) (x : ExprForm) → ((e : Expr) → x ≡ form.Paren e → ⊥) → ((e : ConditionalExpr) → x ≡ form.Conditional e → ⊥) → ((es : List Expr) (comma : Bool) → x ≡ form.Array es comma → ⊥) → ((fs : List Field) (comma : Bool) → x ≡ form.Object fs comma → ⊥) → roll-ExprForm l ≡ x → hands_on (expr_form_view x) ≡ false
unfolding expr_form_view expr_view postfix_expr_view chain_expr_view conditional_expr_view arrow_expr_view function_view exprs_view fields_view field_view
plain_level (ExprForm-F.Variable a) x no_paren no_conditional no_array no_object is = ap (λ (y : ExprForm). hands_on (expr_form_view y)) (sym is) ∙ search (rules, the_lemmas)
plain_level (ExprForm-F.Number a) x no_paren no_conditional no_array no_object is = ap (λ (y : ExprForm). hands_on (expr_form_view y)) (sym is) ∙ search (rules, the_lemmas)
plain_level (ExprForm-F.Str a) x no_paren no_conditional no_array no_object is = ap (λ (y : ExprForm). hands_on (expr_form_view y)) (sym is) ∙ search (rules, the_lemmas)
plain_level (ExprForm-F.Truth a) x no_paren no_conditional no_array no_object is = ap (λ (y : ExprForm). hands_on (expr_form_view y)) (sym is) ∙ search (rules, the_lemmas)
plain_level ExprForm-F.Null x no_paren no_conditional no_array no_object is = ap (λ (y : ExprForm). hands_on (expr_form_view y)) (sym is) ∙ search (rules, the_lemmas)
plain_level (ExprForm-F.Paren a) x no_paren no_conditional no_array no_object is = absurd (no_paren a (sym is ∙ search (rules, the_lemmas)))
plain_level (ExprForm-F.Array a b) x no_paren no_conditional no_array no_object is = absurd (no_array a b (sym is ∙ search (rules, the_lemmas)))
plain_level (ExprForm-F.Object a b) x no_paren no_conditional no_array no_object is = absurd (no_object a b (sym is ∙ search (rules, the_lemmas)))
plain_level (ExprForm-F.«ExprForm::Function» a) x no_paren no_conditional no_array no_object is = ap (λ (y : ExprForm). hands_on (expr_form_view y)) (sym is) ∙ search (rules, the_lemmas)
plain_level (ExprForm-F.Postfix a) x no_paren no_conditional no_array no_object is = ap (λ (y : ExprForm). hands_on (expr_form_view y)) (sym is) ∙ search (rules, the_lemmas)
plain_level (ExprForm-F.Prefix a b) x no_paren no_conditional no_array no_object is = ap (λ (y : ExprForm). hands_on (expr_form_view y)) (sym is) ∙ search (rules, the_lemmas)
plain_level (ExprForm-F.Chain a) x no_paren no_conditional no_array no_object is = ap (λ (y : ExprForm). hands_on (expr_form_view y)) (sym is) ∙ search (rules, the_lemmas)
plain_level (ExprForm-F.Conditional a) x no_paren no_conditional no_array no_object is = absurd (no_conditional a (sym is ∙ search (rules, the_lemmas)))
plain_level (ExprForm-F.Arrow a) x no_paren no_conditional no_array no_object is = ap (λ (y : ExprForm). hands_on (expr_form_view y)) (sym is) ∙ search (rules, the_lemmas)

-- a form that is none of those that hand on what they are read against
pub plain_form : (x : ExprForm) → ((e : Expr) → x ≡ form.Paren e → ⊥) → ((e : ConditionalExpr) → x ≡ form.Conditional e → ⊥) → ((es : List Expr) (comma : Bool) → x ≡ form.Array es comma → ⊥) → ((fs : List Field) (comma : Bool) → x ≡ form.Object fs comma → ⊥) → hands_on (expr_form_view x) ≡ false
plain_form x no_paren no_conditional no_array no_object = plain_level (out-ExprForm x) x no_paren no_conditional no_array no_object (roll-out-ExprForm x)

no_aim : (l : Level) (x : ExprForm) → ((name : Bytes) → x ≡ form.Variable name → ⊥) → ((e : PostfixExpr) → x ≡ form.Postfix e → ⊥) → (w : World) (f t : ℕ) (s : Scope) (n : Now) → roll-ExprForm l ≡ x → aim w (ex f t (expr_form_view x)) s n ≡ None
unfolding expr_form_view expr_view postfix_expr_view chain_expr_view conditional_expr_view arrow_expr_view function_view exprs_view fields_view field_view
no_aim (ExprForm-F.Variable a) x no_variable no_postfix w f t s n is = absurd (no_variable a (sym is ∙ search (rules, the_lemmas)))
no_aim (ExprForm-F.Number a) x no_variable no_postfix w f t s n is = ap (λ (y : ExprForm). aim w (ex f t (expr_form_view y)) s n) (sym is) ∙ search (rules, the_lemmas)
no_aim (ExprForm-F.Str a) x no_variable no_postfix w f t s n is = ap (λ (y : ExprForm). aim w (ex f t (expr_form_view y)) s n) (sym is) ∙ search (rules, the_lemmas)
no_aim (ExprForm-F.Truth a) x no_variable no_postfix w f t s n is = ap (λ (y : ExprForm). aim w (ex f t (expr_form_view y)) s n) (sym is) ∙ search (rules, the_lemmas)
no_aim ExprForm-F.Null x no_variable no_postfix w f t s n is = ap (λ (y : ExprForm). aim w (ex f t (expr_form_view y)) s n) (sym is) ∙ search (rules, the_lemmas)
no_aim (ExprForm-F.Paren a) x no_variable no_postfix w f t s n is = ap (λ (y : ExprForm). aim w (ex f t (expr_form_view y)) s n) (sym is) ∙ search (rules, the_lemmas)
no_aim (ExprForm-F.Array a b) x no_variable no_postfix w f t s n is = ap (λ (y : ExprForm). aim w (ex f t (expr_form_view y)) s n) (sym is) ∙ search (rules, the_lemmas)
no_aim (ExprForm-F.Object a b) x no_variable no_postfix w f t s n is = ap (λ (y : ExprForm). aim w (ex f t (expr_form_view y)) s n) (sym is) ∙ search (rules, the_lemmas)
no_aim (ExprForm-F.«ExprForm::Function» a) x no_variable no_postfix w f t s n is = ap (λ (y : ExprForm). aim w (ex f t (expr_form_view y)) s n) (sym is) ∙ search (rules, the_lemmas)
no_aim (ExprForm-F.Postfix a) x no_variable no_postfix w f t s n is = absurd (no_postfix a (sym is ∙ search (rules, the_lemmas)))
no_aim (ExprForm-F.Prefix a b) x no_variable no_postfix w f t s n is = ap (λ (y : ExprForm). aim w (ex f t (expr_form_view y)) s n) (sym is) ∙ search (rules, the_lemmas)
no_aim (ExprForm-F.Chain a) x no_variable no_postfix w f t s n is = ap (λ (y : ExprForm). aim w (ex f t (expr_form_view y)) s n) (sym is) ∙ search (rules, the_lemmas)
no_aim (ExprForm-F.Conditional a) x no_variable no_postfix w f t s n is = ap (λ (y : ExprForm). aim w (ex f t (expr_form_view y)) s n) (sym is) ∙ search (rules, the_lemmas)
no_aim (ExprForm-F.Arrow a) x no_variable no_postfix w f t s n is = ap (λ (y : ExprForm). aim w (ex f t (expr_form_view y)) s n) (sym is) ∙ search (rules, the_lemmas)

-- an expression that is no target
pub no_target : (x : ExprForm) → ((name : Bytes) → x ≡ form.Variable name → ⊥) → ((e : PostfixExpr) → x ≡ form.Postfix e → ⊥) → (w : World) (f t : ℕ) (s : Scope) (n : Now) → aim w (ex f t (expr_form_view x)) s n ≡ None
no_target x no_variable no_postfix w f t s n = no_aim (out-ExprForm x) x no_variable no_postfix w f t s n (roll-out-ExprForm x)

abbrev LinkLevel : Type 0
LinkLevel = LinkForm-F ArrowBody Body Else ExprForm FieldForm LinkForm OperandForm SimpleForm StatementForm Arm ArrowExpr Assignment Block Branch ChainExpr ConditionalExpr Declaration Expr Field Function IfStatement Link Operand PostfixExpr Simple Statement WhileStatement

link_some : (l : LinkLevel) (x : LinkForm) → ((es : List Expr) (comma : Bool) → x ≡ link_form.Call es comma → ⊥) → (w : World) (f a b : ℕ) (place : Option Place) (s : Scope) (o : Out) → roll-LinkForm l ≡ x → is_some (link_aim w f (link a b (link_form_view x)) place s o) ≡ true
unfolding link_form_view expr_view exprs_view
link_some (LinkForm-F.Member key) x no_call w f a b place s o is = ap (λ (y : LinkForm). is_some (link_aim w f (link a b (link_form_view y)) place s o)) (sym is) ∙ search (rules, the_lemmas)
link_some (LinkForm-F.Index e) x no_call w f a b place s o is = ap (λ (y : LinkForm). is_some (link_aim w f (link a b (link_form_view y)) place s o)) (sym is) ∙ search (rules, the_lemmas)
link_some (LinkForm-F.Call es comma) x no_call w f a b place s o is = absurd (no_call es comma (sym is ∙ search (rules, the_lemmas)))

-- a link that is no call is a target
pub last_some : (w : World) (f : ℕ) (x : Link) (place : Option Place) (s : Scope) (o : Out) → ((es : List Expr) (comma : Bool) → (out-Link x).form ≡ link_form.Call es comma → ⊥) → is_some (link_aim w f (link_view x) place s o) ≡ true
last_some w f x place s o no_call =
    ap (λ (v : Step). is_some (link_aim w f v place s o)) (link_is x)
    ∙ link_some (out-LinkForm (out-Link x).form) (out-Link x).form no_call w f (out-Link x).first (out-Link x).end place s o (roll-out-LinkForm (out-Link x).form)

pub same_now : (o : Option Aim) (n k : Now) → is_some o ≡ true → aim_now o n ≡ aim_now o k
same_now None n k some = absurd (cc)
same_now (Some m) n k some = refl
