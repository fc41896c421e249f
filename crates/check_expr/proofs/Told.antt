-- What a form gives, once its parts were read.
use Rattle.std.proofs.Common.{◌≡◌, ℕ, suc, Bool, List, Option, Some, None, length, if◌then◌else◌, refl, sym, ap, ◌∙◌}
use Rattle.std.specs.Prelude.{is_some}
use Rattle.check_values.specs.Rows.{Bytes}
use Rattle.js_grammar.specs.Code.{Ex, ExForm, Exs, Fields, Operands, elements, fields, shorthand, index, call}
use Rattle.code_tree.specs.View.{expr_view, expr_form_view, postfix_expr_view, chain_expr_view, exprs_view, links_view, operands_view}
use Rattle.code_tree.specs.declared.types.Expr.{Expr, out-Expr}
use Rattle.code_tree.specs.declared.types.PostfixExpr.{PostfixExpr, out-PostfixExpr}
use Rattle.code_tree.specs.declared.types.ChainExpr.{ChainExpr, out-ChainExpr}
use Rattle.type_values.specs.declared.types.FlowType.{FlowType}
use Rattle.type_values.specs.declared.types.FlowProp.{FlowProp}
use Rattle.flow_facts.specs.declared.place.Place.{Place}
use Rattle.typing.specs.States.{World, Want, Out, after, plainly, against, noted_out, change_notes}
use Rattle.typing.specs.Tests.{Comparison, variable_in, place_in}
use Rattle.typing.specs.Members.{levels, one_function}
use Rattle.typing.specs.Objects.{Entry, entries_of, Elements, elements_for, count_of, array_type, Candidate, candidate_for, object_type, all_given}
use Rattle.typing.specs.Forms.{unless_matched, first_want, compared, compared_out, variable_out, Args, index_out, call_out, nullish_now, nullish_out}
use Rattle.typing.specs.Typing.{Items, Props, read, read_form, read_elements, read_fields, read_field, read_links, read_link, read_args, read_operands}
use Rattle.scopes.specs.View.{scope_view}
use Rattle.check_moves.specs.declared.state.State.{State}
use Rattle.check_moves.specs.declared.state.Read.{Read}
use Rattle.check_moves.specs.View.{around, scope, now, told}
use Rattle.check_expr.proofs.Sequences.{count_all}
use Rattle.check_expr.proofs.Views.{expr_is, chain_expr_is, postfix_expr_is}

pub expr_told : (w : World) (x : Expr) (want : Want) (a : State) (o : Out) → o ≡ read_form w (out-Expr x).first (out-Expr x).end (expr_form_view (out-Expr x).form) (scope a) want (now a) →
    noted_out w (out-Expr x).first (out-Expr x).end o ≡ read w (expr_view x) (scope a) want (now a)
expr_told w x want a o is = ap (noted_out w (out-Expr x).first (out-Expr x).end) is ∙ sym (ap (λ (e : Ex). read w e (scope a) want (now a)) (expr_is x))

pub chain_told : (w : World) (f t : ℕ) (x : ChainExpr) (want : Want) (left : Expr) (comparison : Option (Comparison × Bool)) (place : Option Place) (first chain : Read) (a b c : State) → left ≡ (out-ChainExpr x).left →
    want ≡ first_want w (operands_view (out-ChainExpr x).operands) → comparison ≡ compared (scope_view a.scope) (expr_view left) (operands_view (out-ChainExpr x).operands) → place ≡ place_in (scope_view a.scope) (expr_view left) →
    told first b ≡ read w (expr_view left) (scope a) want (now a) → around b ≡ around a → told chain c ≡ read_operands w f (operands_view (out-ChainExpr x).operands) place (scope b) (told first b) →
    compared_out w comparison (told chain c) ≡ read_form w f t (chain_expr_view x) (scope a) None (now a)
unfolding around
chain_told w f t x want left comparison place first chain a b c own wanted compares stands is same chained =
    let os : Operands = operands_view (out-ChainExpr x).operands in
    ap (compared_out w comparison) chained
    ∙ (λ i. compared_out w comparison (read_operands w f os place (same i).scope (is i)))
    ∙ (λ i. compared_out w (compares i) (read_operands w f os (stands i) (scope a) (read w (expr_view left) (scope a) (wanted i) (now a))))
    ∙ ap (λ (e : Expr). compared_out w (compared (scope a) (expr_view e) os) (read_operands w f os (place_in (scope a) (expr_view e)) (scope a) (read w (expr_view e) (scope a) (first_want w os) (now a)))) own
    ∙ sym (ap (λ (v : ExForm). read_form w f t v (scope a) None (now a)) (chain_expr_is x))

-- a literal is read against what it is read against as a whole, unless its parts are matched
literal_as : {X : Type 0} (w : World) (f t : ℕ) (want : Want) (matched : Option X) (o : Out) → against w f t (if is_some matched then None else want) o ≡ unless_matched w f t want matched o
literal_as w f t want None o = refl
literal_as w f t want (Some m) o = refl

pub array_told : (w : World) (f t : ℕ) (xs : List Expr) (comma : Bool) (want whole : Want) (matched : Option Elements) (types : List FlowType) (ty : FlowType) (literal : Read) (a b : State) →
    matched ≡ elements_for w (length xs) want → record { types = types; now = now b } ≡ read_elements w (exprs_view xs) (scope a) matched (now a) → ty ≡ array_type types → whole ≡ (if is_some matched then None else want) →
    told literal b ≡ plainly ty (now b) → against w f t whole (told literal b) ≡ read_form w f t (elements (exprs_view xs) comma) (scope a) want (now a)
array_told w f t xs comma want whole matched types ty literal a b matches reads made wholly is =
    let es : Exs = exprs_view xs in
    let own : matched ≡ elements_for w (count_of es) want = matches ∙ ap (λ (n : ℕ). elements_for w n want) (sym (count_all xs)) in
    ap (λ (v : Want). against w f t v (told literal b)) wholly
    ∙ literal_as w f t want matched (told literal b)
    ∙ ap (unless_matched w f t want matched) (is ∙ ap (λ (u : FlowType). plainly u (now b)) made)
    ∙ ap (λ (items : Items). unless_matched w f t want matched (plainly (array_type items.types) items.now)) reads
    ∙ ap (λ (m : Option Elements). unless_matched w f t want m (plainly (array_type (read_elements w es (scope a) m (now a)).types) (read_elements w es (scope a) m (now a)).now)) own

pub object_told : (w : World) (f t : ℕ) (fs : Fields) (comma : Bool) (want whole : Want) (entries : List Entry) (candidate : Option Candidate) (props : List FlowProp) (ty : FlowType) (literal : Read) (a b c : State) →
    entries ≡ entries_of fs → candidate ≡ candidate_for w entries want → record { props = props; now = now b } ≡ read_fields w fs (scope a) candidate entries (now a) →
    now c ≡ change_notes (all_given w f t entries candidate) (now b) → ty ≡ object_type props → whole ≡ (if is_some candidate then None else want) →
    told literal c ≡ plainly ty (now c) → against w f t whole (told literal c) ≡ read_form w f t (fields fs comma) (scope a) want (now a)
object_told w f t fs comma want whole entries candidate props ty literal a b c are matches reads gives made wholly is =
    ap (λ (v : Want). against w f t v (told literal c)) wholly
    ∙ literal_as w f t want candidate (told literal c)
    ∙ ap (unless_matched w f t want candidate) (is ∙ (λ i. plainly (made i) (gives i)))
    ∙ ap (λ (ps : Props). unless_matched w f t want candidate (plainly (object_type ps.props) (change_notes (all_given w f t entries candidate) ps.now))) reads
    ∙ ap (λ (m : Option Candidate). unless_matched w f t want m (plainly (object_type (read_fields w fs (scope a) m entries (now a)).props) (change_notes (all_given w f t entries m) (read_fields w fs (scope a) m entries (now a)).now))) matches
    ∙ ap (λ (es : List Entry). unless_matched w f t want (candidate_for w es want) (plainly (object_type (read_fields w fs (scope a) (candidate_for w es want) es (now a)).props) (change_notes (all_given w f t es (candidate_for w es want)) (read_fields w fs (scope a) (candidate_for w es want) es (now a)).now))) are

pub postfix_told : (w : World) (f t : ℕ) (x : PostfixExpr) (from : Option ℕ) (base : Expr) (object : Read) (a b : State) (o : Out) → base ≡ (out-PostfixExpr x).base → from ≡ variable_in (scope_view a.scope) (expr_view base) →
    told object b ≡ read w (expr_view base) (scope a) None (now a) → around b ≡ around a → o ≡ read_links w f (links_view (out-PostfixExpr x).links) from (scope b) (told object b) →
    o ≡ read_form w f t (postfix_expr_view x) (scope a) None (now a)
unfolding around
postfix_told w f t x from base object a b o own stands is same reads =
    reads
    ∙ (λ i. read_links w f (links_view (out-PostfixExpr x).links) (stands i) (same i).scope (is i))
    ∙ ap (λ (e : Expr). read_links w f (links_view (out-PostfixExpr x).links) (variable_in (scope a) (expr_view e)) (scope a) (read w (expr_view e) (scope a) None (now a))) own
    ∙ sym (ap (λ (v : ExForm). read_form w f t v (scope a) None (now a)) (postfix_expr_is x))

-- a name alone
pub shorthand_told : (w : World) (f t : ℕ) (name : Bytes) (want : Want) (variable given : Read) (a b c : State) → t ≡ suc f → told variable b ≡ variable_out w f t name (scope a) (now a) →
    told given c ≡ against w f t want (told variable b) → noted_out w f t (told given c) ≡ read_field w f (shorthand name) (scope a) want (now a)
shorthand_told w f t name want variable given a b c next is asked =
    ap (noted_out w f t) (asked ∙ ap (against w f t want) is)
    ∙ ap (λ (n : ℕ). noted_out w f n (against w f n want (variable_out w f n name (scope a) (now a)))) next

pub index_told : (w : World) (f at t : ℕ) (e : Ex) (place : Option Place) (object index_read : Read) (a b c : State) → now b ≡ after (told object a) → around b ≡ around a → told index_read c ≡ read w e (scope b) None (now b) →
    index_out w f at t (told object a) (told index_read c) ≡ read_link w f at t (index e) place (scope a) (told object a)
index_told w f at t e place object index_read a b c met same is =
    ap (index_out w f at t (told object a)) (is ∙ (λ i. read w e (same i).scope None (met i)))

pub call_told : (w : World) (f at t : ℕ) (es : Exs) (comma : Bool) (place : Option Place) (object : Read) (ty : FlowType) (given : Args) (a b : State) → now b ≡ after (told object a) → around b ≡ around a → (told object a).ty ≡ ty →
    given ≡ read_args w es (scope b) (one_function (levels w ty)) (now b) → call_out w f at t (told object a) given ≡ read_link w f at t (call es comma) place (scope a) (told object a)
call_told w f at t es comma place object ty given a b met same own is =
    ap (call_out w f at t (told object a)) (is ∙ (λ i. read_args w es (same i).scope (one_function (levels w (sym own i))) (met i)))

pub nullish_told : (w : World) (place : Option Place) (e : Ex) (left right : Read) (a b c : State) → now b ≡ nullish_now w place (told left a) → around b ≡ around a → told right c ≡ read w e (scope b) None (now b) →
    nullish_out w (told left a) (told right c) ≡ nullish_out w (told left a) (read w e (scope a) None (nullish_now w place (told left a)))
nullish_told w place e left right a b c met same is = ap (nullish_out w (told left a)) (is ∙ (λ i. read w e (same i).scope None (met i)))
