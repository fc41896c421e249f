-- Assignments by their targets.
use Rattle.std.proofs.Common.{◌≡◌, ℕ, Option, Some, None, refl, sym, ap, ◌∙◌}
use Rattle.js_grammar.specs.Code.{Ex, ex, variable, number, text, truth_value, null_value, parens, elements, fields, function_ex, postfixed, prefixed, chain, cond as conditional, arrow, link, member, index, call, no_link, more_link, assign, SimpleForm}
use Rattle.code_tree.specs.View.{expr_view, assignment_view}
use Rattle.code_tree.specs.declared.types.Assignment.{Assignment, out-Assignment}
use Rattle.typing.specs.States.{World, Out, Env, now_of}
use Rattle.typing.specs.Statements.{Goal, goal_want, assigned_env}
use Rattle.typing.specs.Typing.{read, read_simple}
use Rattle.part_steps.specs.View.{goal_view}
use Rattle.part_steps.specs.declared.goals.Goal.{Goal as Own}
use Rattle.check_moves.specs.declared.state.State.{State}
use Rattle.check_moves.specs.View.{around, scope, now, env}
use Rattle.check_expr.specs.Targets.{Aim, aim, aim_goal, aim_now, assigned_to}
use Rattle.check_expr.proofs.Views.{assignment_is}

-- an assignment reads its target, and then its value
pub assign_is : (w : World) (f t : ℕ) (target e : Ex) (start : Env) → read_simple w f t (assign target e) start ≡ assigned_to w e (aim w target start.scope (now_of start)) start
assign_is w f t (ex tf tt (variable name)) e start = refl
assign_is w f t (ex tf tt (postfixed base no_link)) e start = refl
assign_is w f t (ex tf tt (postfixed base (more_link ls (link at end (member key))))) e start = refl
assign_is w f t (ex tf tt (postfixed base (more_link ls (link at end (index i))))) e start = refl
assign_is w f t (ex tf tt (postfixed base (more_link ls (link at end (call es comma))))) e start = refl
assign_is w f t (ex tf tt (number digits)) e start = refl
assign_is w f t (ex tf tt (text s)) e start = refl
assign_is w f t (ex tf tt (truth_value b)) e start = refl
assign_is w f t (ex tf tt null_value) e start = refl
assign_is w f t (ex tf tt (parens x)) e start = refl
assign_is w f t (ex tf tt (elements es comma)) e start = refl
assign_is w f t (ex tf tt (fields fs comma)) e start = refl
assign_is w f t (ex tf tt (function_ex made_by)) e start = refl
assign_is w f t (ex tf tt (prefixed marks x)) e start = refl
assign_is w f t (ex tf tt (chain level x os)) e start = refl
assign_is w f t (ex tf tt (conditional arms x)) e start = refl
assign_is w f t (ex tf tt (arrow s body)) e start = refl

-- there is no target
pub assigned_nothing : (w : World) (f t : ℕ) (x : Assignment) (a b : State) → None ≡ aim_goal (aim w (expr_view (out-Assignment x).target) (scope a) (now a)) →
    now b ≡ aim_now (aim w (expr_view (out-Assignment x).target) (scope a) (now a)) (now a) → around b ≡ around a → env b ≡ read_simple w f t (assignment_view x) (env a)
assigned_nothing w f t x a b none on same =
    kept (aim w (expr_view (out-Assignment x).target) (scope a) (now a)) none on ∙ sym (assign_is w f t (expr_view (out-Assignment x).target) (expr_view (out-Assignment x).value) (env a)) ∙ sym (ap (λ (v : SimpleForm). read_simple w f t v (env a)) (assignment_is x))
  where
    kept : (o : Option Aim) → None ≡ aim_goal o → now b ≡ aim_now o (now a) → env b ≡ assigned_to w (expr_view (out-Assignment x).value) o (env a)
    kept None is on = λ i. record { scope = (same i).scope; facts = (on i).facts; notes = (on i).notes; returned = (same i).returned; breaks = (same i).breaks }
    kept (Some m) is on = absurd (cc)

-- the value was read against the target's type, and assigned
pub assigned_value : (w : World) (f t : ℕ) (x : Assignment) (g : Own) (o : Out) (a b c d : State) → Some (goal_view g) ≡ aim_goal (aim w (expr_view (out-Assignment x).target) (scope a) (now a)) →
    now b ≡ aim_now (aim w (expr_view (out-Assignment x).target) (scope a) (now a)) (now a) → around b ≡ around a →
    o ≡ read w (expr_view (out-Assignment x).value) (scope b) (goal_want (goal_view g)) (now b) → env d ≡ assigned_env w (expr_view (out-Assignment x).value) (goal_view g) o (env a) →
    env d ≡ read_simple w f t (assignment_view x) (env a)
assigned_value w f t x g o a b c d goal on same is_read done =
    kept (aim w (expr_view (out-Assignment x).target) (scope a) (now a)) goal on ∙ sym (assign_is w f t (expr_view (out-Assignment x).target) (expr_view (out-Assignment x).value) (env a)) ∙ sym (ap (λ (v : SimpleForm). read_simple w f t v (env a)) (assignment_is x))
  where
    own : (m : Aim) → Some (goal_view g) ≡ Some m.goal → goal_view g ≡ m.goal
    own m is = cc

    kept : (n : Option Aim) → Some (goal_view g) ≡ aim_goal n → now b ≡ aim_now n (now a) → env d ≡ assigned_to w (expr_view (out-Assignment x).value) n (env a)
    kept None is on = absurd (cc)
    kept (Some m) is on =
        done
        ∙ ap (λ (p : Out). assigned_env w (expr_view (out-Assignment x).value) (goal_view g) p (env a)) (is_read ∙ (λ i. read w (expr_view (out-Assignment x).value) (same i).scope (goal_want (goal_view g)) (on i)))
        ∙ ap (λ (h : Goal). assigned_env w (expr_view (out-Assignment x).value) h (read w (expr_view (out-Assignment x).value) (scope a) (goal_want h) m.now) (env a)) (own m is)
