-- Functions and blocks, before and after their statements.
use Rattle.std.proofs.Common.{◌≡◌, ℕ, suc, Bool, true, false, Option, Some, None, refl, sym, ap, ◌∙◌}
use Rattle.js_grammar.specs.Code as g
use Rattle.js_grammar.specs.Code.{Ex, Sig, Stmts, function, block, arrow_block, arrow_value}
use Rattle.check_values.specs.Rows.{Bytes}
use Rattle.code_tree.specs.Flat.{signature_view}
use Rattle.code_tree.specs.View.{function_view, block_view, statements_view}
use Rattle.code_tree.specs.declared.types.Function.{Function, out-Function}
use Rattle.code_tree.specs.declared.types.Block.{Block as TreeBlock, out-Block}
use Rattle.typing.specs.Names.{Binding}
use Rattle.typing.specs.Changes.{changes_of_stmts}
use Rattle.typing.specs.States as typing
use Rattle.typing.specs.States.{World, Env}
use Rattle.typing.specs.Functions.{function_binding, enter_block}
use Rattle.typing.specs.Typing.{Made, made_from, read_function, read_arrow, read_block, read_stmts}
use Rattle.fact_ways.proofs.Marks.{enters_on}
use Rattle.check_moves.specs.declared.state.State.{State}
use Rattle.statement_moves.specs.declared.functions.Outside.{Outside}
use Rattle.check_moves.specs.View.{around, scope, now, env}
use Rattle.check_moves.specs.Follows.{Follows}
use Rattle.statement_moves.specs.Outside.{IsOutside}
use Rattle.check_moves.proofs.Following.{heights_twice}
use Rattle.statement_moves.specs.declared.bodies.Outer.{Outer}
use Rattle.statement_moves.specs.Bodies.{entered_env, IsInside}
use Rattle.check_expr.specs.Bodies.{own_of, block_body, value_body}
use Rattle.check_expr.proofs.Scopes.{Keeps, stmts_keep}
use Rattle.check_expr.proofs.Views.{function_is as function_is_tree, block_is}

-- ---- what stands around, while a body is read

pub outside_on : (o : Outside) (a b c : State) → IsOutside o a b → Follows None b None c → IsOutside o a c
outside_on o a b c outside goes = record {
  heights = heights_twice a.scope b.scope c.scope outside.heights goes.heights;
  marks = enters_on o.mark a.facts b.facts c.facts outside.marks goes.leads.goes;
  height = outside.height;
  depth = outside.depth;
  result = outside.result;
  returned = outside.returned;
  breaks = outside.breaks;
  stopped = outside.stopped;
}

-- a function is entered with its own name, its body is read, and it is left
function_is : (w : World) (is_expression : Bool) (f t : ℕ) (name : Option Bytes) (s : Sig) (bf bt : ℕ) (ss : Stmts) (a : State) →
    made_from w s (now a) (block_body w s ss (entered_env w (own_of w is_expression (function f t name s (block bf bt ss)) (scope a).depth) is_expression s (env a)))
    ≡ read_function w is_expression (function f t name s (block bf bt ss)) (scope a) (now a)
function_is w true f t None s bf bt ss a = refl
function_is w true f t (Some name) s bf bt ss a = refl
function_is w false f t name s bf bt ss a = refl

pub function_told : (w : World) (is_expression : Bool) (x : Function) (own : Option Binding) (m : Made) (a b c : State) →
    own ≡ own_of w is_expression (function_view x) (scope a).depth → env b ≡ entered_env w own is_expression (signature_view (out-Function x).signature) (env a) →
    env c ≡ block_body w (signature_view (out-Function x).signature) (statements_view (out-Block (out-Function x).body).statements) (env b) →
    m ≡ made_from w (signature_view (out-Function x).signature) (now a) (env c) → m ≡ read_function w is_expression (function_view x) (scope a) (now a)
function_told w is_expression x own m a b c owned enters reads made_is =
    let s : Sig = signature_view (out-Function x).signature in
    let body : TreeBlock = (out-Function x).body in
    let ss : Stmts = statements_view (out-Block body).statements in
    let is : function_view x ≡ function (out-Function x).first (out-Function x).end (out-Function x).name s (block (out-Block body).first (out-Block body).end ss) =
    function_is_tree x ∙ ap (λ (b : g.Block). function (out-Function x).first (out-Function x).end (out-Function x).name s b) (block_is body) in
    made_is
    ∙ ap (made_from w s (now a)) (reads ∙ ap (block_body w s ss) (enters ∙ ap (λ (o : Option Binding). entered_env w o is_expression s (env a)) (owned ∙ ap (λ (v : g.Function). own_of w is_expression v (scope a).depth) is)))
    ∙ function_is w is_expression (out-Function x).first (out-Function x).end (out-Function x).name s (out-Block body).first (out-Block body).end ss a
    ∙ sym (ap (λ (v : g.Function). read_function w is_expression v (scope a) (now a)) is)

pub arrow_block_told : (w : World) (s : Sig) (x : TreeBlock) (m : Made) (a b c : State) → env b ≡ entered_env w None true s (env a) → env c ≡ block_body w s (statements_view (out-Block x).statements) (env b) →
    m ≡ made_from w s (now a) (env c) → m ≡ read_arrow w s (arrow_block (block_view x)) (scope a) (now a)
arrow_block_told w s x m a b c enters reads made_is =
    made_is ∙ ap (made_from w s (now a)) (reads ∙ ap (block_body w s (statements_view (out-Block x).statements)) enters) ∙ sym (ap (λ (v : g.Block). read_arrow w s (arrow_block v) (scope a) (now a)) (block_is x))

pub arrow_value_told : (w : World) (s : Sig) (e : Ex) (m : Made) (a b c : State) → env b ≡ entered_env w None true s (env a) → env c ≡ value_body w s e (env b) →
    m ≡ made_from w s (now a) (env c) → m ≡ read_arrow w s (arrow_value e) (scope a) (now a)
arrow_value_told w s e m a b c enters reads made_is = made_is ∙ ap (made_from w s (now a)) (reads ∙ ap (value_body w s e) enters)

-- ---- what stands around a block

pub inside_on : (w : World) (o : Outer) (ss : Stmts) (a b c : State) → IsInside o a b → env c ≡ read_stmts w ss (env b) → Follows None b None c → IsInside o a c
unfolding around now
inside_on w o ss a b c inside is goes =
    let kept : Keeps (env b) (read_stmts w ss (env b)) = stmts_keep w ss (env b) in
    record {
      height = inside.height;
      heights = heights_twice a.scope b.scope c.scope inside.heights goes.heights;
      stopped = inside.stopped;
      depth = ap (λ (e : Env). e.scope.depth) is ∙ kept.depth ∙ inside.depth;
      result = ap (λ (e : Env). e.scope.result) is ∙ kept.result ∙ inside.result;
    }

pub block_told : (w : World) (x : TreeBlock) (a b c d : State) → env b ≡ enter_block w (changes_of_stmts (statements_view (out-Block x).statements)) (statements_view (out-Block x).statements) (env a) →
    env c ≡ read_stmts w (statements_view (out-Block x).statements) (env b) → env d ≡ typing.leave (env a) (env c) → env d ≡ read_block w (block_view x) (env a)
block_told w x a b c d enters reads leaves =
    leaves ∙ ap (typing.leave (env a)) (reads ∙ ap (read_stmts w (statements_view (out-Block x).statements)) enters) ∙ sym (ap (λ (v : g.Block). read_block w v (env a)) (block_is x))

-- a declaration has no name of its own
pub own_other : (w : World) (is_expression : Bool) (x : Function) (depth : ℕ) → is_expression ≡ false → None ≡ own_of w is_expression (function_view x) depth
own_other w true x depth is = absurd (cc)
own_other w false x depth is = refl

-- and an expression without name has none
pub own_none : (w : World) (is_expression : Bool) (x : Function) (depth : ℕ) → (out-Function x).name ≡ None → None ≡ own_of w is_expression (function_view x) depth
own_none w false x depth is = refl
own_none w true x depth is =
    ap (λ (n : Option Bytes). own_of w true (function (out-Function x).first (out-Function x).end n (signature_view (out-Function x).signature) (block_view (out-Function x).body)) depth) (sym is)
    ∙ sym (ap (λ (v : g.Function). own_of w true v depth) (function_is_tree x))

pub own_named : (w : World) (is_expression : Bool) (x : Function) (name : Bytes) (token depth : ℕ) (own : Binding) → is_expression ≡ true → (out-Function x).name ≡ Some name → token ≡ suc (out-Function x).first → own ≡ function_binding w depth token name (signature_view (out-Function x).signature) →
    Some own ≡ own_of w is_expression (function_view x) depth
own_named w false x name token depth own expression is at made_is = absurd (cc)
own_named w true x name token depth own expression is at made_is =
    ap Some (made_is ∙ ap (λ (n : ℕ). function_binding w depth n name (signature_view (out-Function x).signature)) at)
    ∙ ap (λ (n : Option Bytes). own_of w true (function (out-Function x).first (out-Function x).end n (signature_view (out-Function x).signature) (block_view (out-Function x).body)) depth) (sym is)
    ∙ sym (ap (λ (v : g.Function). own_of w true v depth) (function_is_tree x))
