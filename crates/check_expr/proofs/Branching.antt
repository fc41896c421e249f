-- Conditionals, `if` and `while`, by their parts.
use Rattle.std.proofs.Common.{◌≡◌, ℕ, List, ◌++◌, map, reverse, Option, None, sym, ap, ◌∙◌}
use Rattle.js_grammar.specs.Code.{StmtForm, ExForm, branches as branches_of}
use Rattle.code_tree.specs.View.{expr_view, body_view, arms_view, branches_view, else_view, conditional_expr_view, if_statement_view, while_statement_view}
use Rattle.code_tree.specs.declared.types.Expr.{Expr}
use Rattle.code_tree.specs.declared.types.Arm.{Arm}
use Rattle.code_tree.specs.declared.types.Branch.{Branch}
use Rattle.code_tree.specs.declared.types.ConditionalExpr.{ConditionalExpr, out-ConditionalExpr}
use Rattle.code_tree.specs.declared.types.IfStatement.{IfStatement, out-IfStatement}
use Rattle.code_tree.specs.declared.types.WhileStatement.{WhileStatement, out-WhileStatement}
use Rattle.flow_facts.specs.Known.{joined}
use Rattle.refine_flow.specs.declared.facts.Facts.{Facts}
use Rattle.refine_flow.specs.Standing.{known}
use Rattle.typing.specs.Changes.{Change, changes_of_ex, changes_of_body}
use Rattle.typing.specs.Statements.{loop_env}
use Rattle.typing.specs.Forms.{choices_out}
use Rattle.typing.specs.States.{World, Want, Env}
use Rattle.typing.specs.Typing.{read, read_body, read_form, read_arms, read_branches, read_else, read_stmt}
use Rattle.code_plans.specs.Plans.{includes}
use Rattle.code_plans.proofs.Alike.{loop_alike}
use Rattle.fact_ways.specs.declared.fork.Fork.{Fork}
use Rattle.fact_ways.specs.Ways.{way_of, ways_of, all_joined}
use Rattle.check_moves.specs.declared.state.State.{State}
use Rattle.check_moves.specs.declared.state.Read.{Read}
use Rattle.expression_moves.specs.declared.branches.Chosen.{Chosen}
use Rattle.check_moves.specs.View.{around, scope, now, env, told, broken_facts}
use Rattle.check_moves.specs.Follows.{Follows, Leaves}
use Rattle.expression_moves.specs.Moves.{chosen_view, choices_left}
use Rattle.check_expr.specs.Tests.{Tested}
use Rattle.check_expr.proofs.Tests.{conditional_told, if_env, while_env}
use Rattle.check_expr.proofs.Views.{conditional_expr_is, if_statement_is, while_statement_is}

pub conditional_form_told : (w : World) (f t : ℕ) (x : ConditionalExpr) (arms : List Arm) (e : Expr) (want : Want) (chosen : List Chosen) (last r : Read) (a b c d : State) → arms ≡ (out-ConditionalExpr x).arms → e ≡ (out-ConditionalExpr x).last →
    now b ≡ (read_arms w (arms_view arms) (scope a) want (now a)).now → map (chosen_view b.facts) (reverse chosen) ≡ reverse (read_arms w (arms_view arms) (scope a) want (now a)).chosen → around b ≡ around a →
    Leaves a (map (λ c. c.fork) (reverse chosen)) None b → told last c ≡ read w (expr_view e) (scope b) want (now b) → Follows None b last.fork c →
    told r d ≡ choices_left w t (map (chosen_view c.facts) (reverse chosen)) (told last c) → told r d ≡ read_form w f t (conditional_expr_view x) (scope a) want (now a)
conditional_form_told w f t x arms e want chosen last r a b c d own last_own on are same leaves is goes met =
    conditional_told w t (arms_view arms) (expr_view e) want chosen last r a b c d on are same leaves is goes met
    ∙ (λ i. choices_out w t (read_arms w (arms_view (own i)) (scope a) want (now a)).chosen (read w (expr_view (last_own i)) (scope a) want (read_arms w (arms_view (own i)) (scope a) want (now a)).now))
    ∙ sym (ap (λ (v : ExForm). read_form w f t v (scope a) want (now a)) (conditional_expr_is x))

-- a statement is read as what it stands for
pub stmt_as : (w : World) (f t : ℕ) (u v : StmtForm) (start : Env) → u ≡ v → read_stmt w f t u start ≡ read_stmt w f t v start
stmt_as w f t u v start is = ap (λ (x : StmtForm). read_stmt w f t x start) is

pub if_told : (w : World) (f t : ℕ) (x : IfStatement) (branches : List Branch) (ks : List Fork) (a b c d : State) → branches ≡ (out-IfStatement x).branches →
    env b ≡ (read_branches w (branches_view branches) (env a)).env → all_joined (ways_of b.facts ks) None ≡ (read_branches w (branches_view branches) (env a)).arms → Leaves a ks None b →
    env c ≡ read_else w (else_view (out-IfStatement x).last) (env b) → Follows None b None c → now d ≡ record (now c) { facts = all_joined (ways_of c.facts ks) (known c.facts) } → around d ≡ around c →
    env d ≡ read_stmt w f t (if_statement_view x) (env a)
if_told w f t x branches ks a b c d own is joins leaves ends goes met same =
    if_env w (branches_view branches) (else_view (out-IfStatement x).last) ks a b c d is joins leaves ends goes met same
    ∙ ap (λ (l : List Branch). read_stmt w f t (branches_of (branches_view l) (else_view (out-IfStatement x).last)) (env a)) own
    ∙ sym (ap (λ (v : StmtForm). read_stmt w f t v (env a)) (if_statement_is x))

pub while_told : (w : World) (f t : ℕ) (x : WhileStatement) (all : List Change) (outer : Option Facts) (k : Fork) (a b c d e : State) →
    includes all ≡ includes (changes_of_ex (expr_view (out-WhileStatement x).test) ++ changes_of_body (body_view (out-WhileStatement x).body)) → env b ≡ loop_env all (env a) → outer ≡ a.breaks → Tested (read w (expr_view (out-WhileStatement x).test) (scope b) None (now b)) b k c →
    env d ≡ read_body w (body_view (out-WhileStatement x).body) (env c) → Follows None c None d → env e ≡ record (env d) { facts = joined (way_of d.facts k) (around d).breaks; breaks = broken_facts outer } →
    env e ≡ read_stmt w f t (while_statement_view x) (env a)
while_told w f t x all outer k a b c d e changes begins outer_is test is goes leaves =
    while_env w (expr_view (out-WhileStatement x).test) (body_view (out-WhileStatement x).body) (changes_of_ex (expr_view (out-WhileStatement x).test) ++ changes_of_body (body_view (out-WhileStatement x).body)) outer k a b c d e
    (begins ∙ loop_alike all (changes_of_ex (expr_view (out-WhileStatement x).test) ++ changes_of_body (body_view (out-WhileStatement x).body)) (env a) changes) outer_is test is goes leaves
    ∙ sym (ap (λ (v : StmtForm). read_stmt w f t v (env a)) (while_statement_is x))
