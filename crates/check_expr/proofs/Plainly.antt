-- What forms give that are read against no type.
use Rattle.std.proofs.Common.{◌≡◌, ℕ, true, List, None, sym, ap, ◌∙◌}
use Rattle.check_values.specs.Rows.{Bytes}
use Rattle.js_grammar.specs.Code.{ExForm, Prefixes, number, text as text_value, prefixed, function_ex, arrow as arrow_ex}
use Rattle.code_tree.specs.Flat.{prefixes_view, signature_view}
use Rattle.code_tree.specs.View.{expr_view, expr_form_view, function_view, arrow_body_view}
use Rattle.code_tree.specs.declared.types.Expr.{Expr, out-Expr}
use Rattle.code_tree.specs.declared.types.ExprForm.{ExprForm}
use Rattle.code_tree.specs.declared.types.ExprForm as form
use Rattle.code_tree.specs.declared.types.Function.{Function}
use Rattle.code_tree.specs.declared.types.ArrowExpr.{ArrowExpr, out-ArrowExpr}
use Rattle.code_tree.specs.declared.types.PrefixMark.{PrefixMark}
use Rattle.type_values.specs.declared.types.FlowType.{FlowType}
use Rattle.type_values.specs.declared.types.FlowType as made
use Rattle.typing.specs.Names.{Scope}
use Rattle.typing.specs.States.{World, Want, Now, Out, plainly}
use Rattle.typing.specs.Tests.{number_type}
use Rattle.typing.specs.Forms.{prefixes_out}
use Rattle.typing.specs.Statements.{first_of}
use Rattle.typing.specs.Typing.{made_out, read, read_form, read_function, read_arrow}
use Rattle.check_moves.specs.declared.state.State.{State}
use Rattle.check_moves.specs.View.{scope, now}
use Rattle.check_expr.proofs.Views.{expr_form_number, expr_form_str, expr_form_prefix, expr_form_function, expr_form_arrow, arrow_expr_is, expr_is}

-- a form is read as what it stands for
pub read_as : (w : World) (f t : ℕ) (u v : ExForm) (s : Scope) (want : Want) (n : Now) → u ≡ v → read_form w f t u s want n ≡ read_form w f t v s want n
read_as w f t u v s want n is = ap (λ (x : ExForm). read_form w f t x s want n) is

pub number_told : (w : World) (f t : ℕ) (x : ExprForm) (digits : Bytes) (ty : FlowType) (s : Scope) (n : Now) → x ≡ form.Number digits → ty ≡ number_type digits → plainly ty n ≡ read_form w f t (expr_form_view x) s None n
number_told w f t x digits ty s n is made_is = ap (λ (u : FlowType). plainly u n) made_is ∙ read_as w f t (number digits) (expr_form_view x) s None n (sym (expr_form_number x digits is))

pub str_told : (w : World) (f t : ℕ) (x : ExprForm) (text share : Bytes) (s : Scope) (n : Now) → x ≡ form.Str text → share ≡ text → plainly (made.StrLit share) n ≡ read_form w f t (expr_form_view x) s None n
str_told w f t x text share s n is same = ap (λ (u : Bytes). plainly (made.StrLit u) n) same ∙ read_as w f t (text_value text) (expr_form_view x) s None n (sym (expr_form_str x text is))

first_of_view : (w : World) (marks : Prefixes) (t : ℕ) (y : Expr) (o : Out) (s : Scope) (n : Now) → o ≡ read w (expr_view y) s None n → (f : ℕ) (x : ExprForm) → expr_form_view x ≡ prefixed marks (expr_view y) → prefixes_out w marks (out-Expr y).first t o ≡ read_form w f t (expr_form_view x) s None n
first_of_view w marks t y o s n is f x form_is = (λ i. prefixes_out w marks (sym (ap first_of (expr_is y)) i) t (is i)) ∙ read_as w f t (prefixed marks (expr_view y)) (expr_form_view x) s None n (sym form_is)

pub prefix_told : (w : World) (f t : ℕ) (x : ExprForm) (marks slice : List PrefixMark) (y operand : Expr) (o : Out) (s : Scope) (n : Now) → x ≡ form.Prefix marks y → slice ≡ marks → operand ≡ y → o ≡ read w (expr_view operand) s None n →
    prefixes_out w (prefixes_view slice) (out-Expr operand).first t o ≡ read_form w f t (expr_form_view x) s None n
prefix_told w f t x marks slice y operand o s n is same own reads =
    (λ i. prefixes_out w (prefixes_view (same i)) (out-Expr (own i)).first t o)
    ∙ first_of_view w (prefixes_view marks) t y o s n (reads ∙ ap (λ (e : Expr). read w (expr_view e) s None n) own) f x (expr_form_prefix x marks y is)

pub function_ex_told : (w : World) (f t : ℕ) (x : ExprForm) (y own : Function) (ty : FlowType) (a b : State) → x ≡ form.Function y → own ≡ y → record { ty = ty; now = now b } ≡ read_function w true (function_view own) (scope a) (now a) →
    plainly ty (now b) ≡ read_form w f t (expr_form_view x) (scope a) None (now a)
function_ex_told w f t x y own ty a b is same reads = ap made_out (reads ∙ ap (λ (z : Function). read_function w true (function_view z) (scope a) (now a)) same) ∙ read_as w f t (function_ex (function_view y)) (expr_form_view x) (scope a) None (now a) (sym (expr_form_function x y is))

pub arrow_told : (w : World) (f t : ℕ) (x : ExprForm) (y own : ArrowExpr) (ty : FlowType) (a b : State) → x ≡ form.Arrow y → own ≡ y → record { ty = ty; now = now b } ≡ read_arrow w (signature_view (out-ArrowExpr own).signature) (arrow_body_view (out-ArrowExpr own).body) (scope a) (now a) →
    plainly ty (now b) ≡ read_form w f t (expr_form_view x) (scope a) None (now a)
arrow_told w f t x y own ty a b is same reads =
    ap made_out (reads ∙ ap (λ (z : ArrowExpr). read_arrow w (signature_view (out-ArrowExpr z).signature) (arrow_body_view (out-ArrowExpr z).body) (scope a) (now a)) same)
    ∙ read_as w f t (arrow_ex (signature_view (out-ArrowExpr y).signature) (arrow_body_view (out-ArrowExpr y).body)) (expr_form_view x) (scope a) None (now a) (sym (expr_form_arrow x y is ∙ arrow_expr_is y))
