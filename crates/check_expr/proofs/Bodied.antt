-- Blocks and the bodies of functions, by their parts.
use Rattle.std.proofs.Common.{◌≡◌, ℕ, Bool, false, List, [], Option, Some, None, sym, ap, ◌∙◌}
use Rattle.std.specs.Option.{option_map, option_copied}
use Rattle.std.specs.Borrow.{Bor}
use Rattle.js_grammar.specs.Code.{Ex, Sig, Operand as Side, OperandForm as SideForm, operand, SimpleForm, function_stmt, throw_value, evaluate}
use Rattle.code_tree.specs.View.{expr_view, function_view, block_view, statements_view, statement_form_view, simple_form_view, operand_view}
use Rattle.code_tree.specs.declared.types.Expr.{Expr}
use Rattle.code_tree.specs.declared.types.Block.{Block, out-Block}
use Rattle.code_tree.specs.declared.types.Function.{Function}
use Rattle.code_tree.specs.declared.types.Operator.{Operator}
use Rattle.code_tree.specs.declared.types.Operand.{Operand, out-Operand}
use Rattle.code_tree.specs.declared.types.OperandForm as operand_form
use Rattle.code_tree.specs.declared.types.Statement.{Statement}
use Rattle.code_tree.specs.declared.types.StatementForm.{StatementForm}
use Rattle.code_tree.specs.declared.types.StatementForm as statement_form
use Rattle.code_tree.specs.declared.types.SimpleForm.{SimpleForm as Simple}
use Rattle.code_tree.specs.declared.types.SimpleForm as simple_form
use Rattle.type_values.specs.declared.types.FlowType.{FlowType}
use Rattle.typing.specs.Changes.{changes_of_ex, changes_of_stmts}
use Rattle.typing.specs.States as typing
use Rattle.typing.specs.States.{World, Env, after, dead, now_of}
use Rattle.typing.specs.Functions.{enter_block, ended}
use Rattle.typing.specs.Statements.{returned_value}
use Rattle.typing.specs.Typing.{read, read_function, read_stmt, read_stmts, read_simple, read_block}
use Rattle.check_moves.specs.declared.state.State.{State}
use Rattle.check_moves.specs.declared.state.Read.{Read}
use Rattle.check_moves.specs.View.{around, scope, now, env, told}
use Rattle.check_expr.specs.Bodies.{block_body, value_body}
use Rattle.statement_moves.specs.Bodies.{bound_env}
use Rattle.check_expr.specs.Runs.{either_type, side_out}
use Rattle.check_expr.proofs.Entering.{block_told}
use Rattle.check_expr.proofs.Branching.{stmt_as}
use Rattle.check_expr.proofs.Views.{operand_is, operand_form_right, statement_form_function, simple_form_throw, simple_form_evaluate}

-- a value that may be referred to
pub ref_map : {A B : Type 0} (f : A → B) (r : Option (Bor A)) (o : Option A) → option_copied r ≡ o → option_map (λ k. f k.now) r ≡ option_map f o
ref_map f None o is = ap (option_map f) is
ref_map f (Some k) o is = ap (option_map f) is

pub block_body_told : (w : World) (s : Sig) (x : Block) (slice : List Statement) (a b c d : State) → slice ≡ (out-Block x).statements → env b ≡ bound_env w (changes_of_stmts (statements_view slice)) s (statements_view slice) (env a) →
    env c ≡ read_stmts w (statements_view slice) (env b) → env d ≡ ended w s (env c) → env d ≡ block_body w s (statements_view (out-Block x).statements) (env a)
block_body_told w s x slice a b c d own binds reads ends =
    ends ∙ ap (ended w s) (reads ∙ ap (read_stmts w (statements_view slice)) binds) ∙ ap (λ (l : List Statement). block_body w s (statements_view l) (env a)) own

pub value_body_told : (w : World) (s : Sig) (e : Ex) (a b c : State) → env b ≡ bound_env w (changes_of_ex e) s (statements_view []) (env a) → env c ≡ returned_value (read w e (scope b) (scope b).result (now b)) (env b) → env c ≡ value_body w s e (env a)
unfolding statements_view
value_body_told w s e a b c binds ends = ends ∙ ap (λ (start : Env). returned_value (read w e start.scope start.scope.result (now_of start)) start) binds

pub block_form_told : (w : World) (x : Block) (slice : List Statement) (a b c d : State) → slice ≡ (out-Block x).statements → env b ≡ enter_block w (changes_of_stmts (statements_view slice)) (statements_view slice) (env a) →
    env c ≡ read_stmts w (statements_view slice) (env b) → env d ≡ typing.leave (env a) (env c) → env d ≡ read_block w (block_view x) (env a)
block_form_told w x slice a b c d own enters reads leaves =
    block_told w x a b c d (enters ∙ ap (λ (l : List Statement). enter_block w (changes_of_stmts (statements_view l)) (statements_view l) (env a)) own) (reads ∙ ap (λ (l : List Statement). read_stmts w (statements_view l) (env b)) own) leaves

-- ---- statements

pub function_stmt_told : (w : World) (f t : ℕ) (x : StatementForm) (y : Function) (ty : FlowType) (a b : State) → x ≡ statement_form.Function y → record { ty = ty; now = now b } ≡ read_function w false (function_view y) (scope a) (now a) → around b ≡ around a →
    env b ≡ read_stmt w f t (statement_form_view x) (env a)
function_stmt_told w f t x y ty a b is made same =
    (λ i. record { scope = (same i).scope; facts = (made i).now.facts; notes = (made i).now.notes; returned = (same i).returned; breaks = (same i).breaks })
    ∙ sym (stmt_as w f t (statement_form_view x) (function_stmt (function_view y)) (env a) (statement_form_function x y is))

-- a simple statement is read as what it stands for
pub simple_as : (w : World) (f t : ℕ) (u v : SimpleForm) (start : Env) → u ≡ v → read_simple w f t u start ≡ read_simple w f t v start
simple_as w f t u v start is = ap (λ (x : SimpleForm). read_simple w f t x start) is

valued : (value : Read) (e : Ex) (w : World) (a b c : State) → told value b ≡ read w e (scope a) None (now a) → around b ≡ around a → now c ≡ after (told value b) → around c ≡ around b → env c ≡ typing.with_now (after (read w e (scope a) None (now a))) (env a)
valued value e w a b c is same met kept =
    let all : now c ≡ after (read w e (scope a) None (now a)) = met ∙ ap after is in
    let stays : around c ≡ around a = kept ∙ same in
    λ i. record { scope = (stays i).scope; facts = (all i).facts; notes = (all i).notes; returned = (stays i).returned; breaks = (stays i).breaks }

pub throw_told : (w : World) (f t : ℕ) (x : Simple) (y : Expr) (value : Read) (a b c d : State) → x ≡ simple_form.Throw y → told value b ≡ read w (expr_view y) (scope a) None (now a) → around b ≡ around a → now c ≡ after (told value b) → around c ≡ around b → env d ≡ dead (env c) →
    env d ≡ read_simple w f t (simple_form_view x) (env a)
throw_told w f t x y value a b c d is reads same met kept dies =
    dies ∙ ap dead (valued value (expr_view y) w a b c reads same met kept) ∙ sym (simple_as w f t (simple_form_view x) (throw_value (expr_view y)) (env a) (simple_form_throw x y is))

pub evaluate_told : (w : World) (f t : ℕ) (x : Simple) (y : Expr) (value : Read) (a b c : State) → x ≡ simple_form.Evaluate y → told value b ≡ read w (expr_view y) (scope a) None (now a) → around b ≡ around a → now c ≡ after (told value b) → around c ≡ around b →
    env c ≡ read_simple w f t (simple_form_view x) (env a)
evaluate_told w f t x y value a b c is reads same met kept =
    valued value (expr_view y) w a b c reads same met kept ∙ sym (simple_as w f t (simple_form_view x) (evaluate (expr_view y)) (env a) (simple_form_evaluate x y is))

-- ---- the right side of `&&` or `||`

pub side_told : (w : World) (is_and : Bool) (x : Operand) (op : Operator) (y : Expr) (left ty : FlowType) (right : Read) (a b : State) → (out-Operand x).form ≡ operand_form.Right op y → told right b ≡ read w (expr_view y) (scope a) None (now a) → ty ≡ either_type w is_and left right.ty →
    told (record { ty = ty; fork = right.fork }) b ≡ side_out w is_and (operand_view x) left (scope a) (now a)
unfolding told
side_told w is_and x op y left ty right a b form is either =
    (λ i. record (told right b) { ty = either i })
    ∙ (λ i. record (is i) { ty = either_type w is_and left (is i).ty })
    ∙ sym (ap (λ (v : Side). side_out w is_and v left (scope a) (now a)) (operand_is x) ∙ ap (λ (v : SideForm). side_out w is_and (operand (out-Operand x).first (out-Operand x).end v) left (scope a) (now a)) (operand_form_right (out-Operand x).form op y form))
