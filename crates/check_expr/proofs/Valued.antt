-- Statements with a value, once it was read.
use Rattle.std.proofs.Common.{◌≡◌, ℕ, suc, Some, Result, Ok, Err, sym, ap, ◌∙◌}
use Rattle.std.specs.Prelude.{OnOk}
use Rattle.std.specs.Option.{option_map}
use Rattle.js_grammar.specs.Code.{Ex, Declaration as Tree}
use Rattle.type_tree.specs.View.{type_view}
use Rattle.code_tree.specs.Flat.{binder_view}
use Rattle.code_tree.specs.View.{expr_view, declaration_view, assignment_view}
use Rattle.code_tree.specs.declared.types.Expr.{Expr, out-Expr}
use Rattle.code_tree.specs.declared.types.Declaration.{Declaration, out-Declaration}
use Rattle.code_tree.specs.declared.types.Assignment.{Assignment, out-Assignment}
use Rattle.typing.specs.States.{World, Want, Out, Env, change_notes}
use Rattle.typing.specs.TypeFaults.{annotated, annotation_read}
use Rattle.typing.specs.Statements.{first_of, end_of, goal_want, assigned_env, declared_env, returned_value}
use Rattle.typing.specs.Typing.{read, read_declaration, read_simple}
use Rattle.part_steps.specs.View.{goal_view}
use Rattle.part_steps.specs.declared.goals.Goal.{Goal as Own}
use Rattle.check_moves.specs.declared.state.State.{State}
use Rattle.check_moves.specs.declared.state.Read.{Read}
use Rattle.check_moves.specs.View.{around, scope, now, env, told}
use Rattle.check_expr.specs.Targets.{aim, aim_goal, aim_now}
use Rattle.check_expr.proofs.Assigning.{assigned_value}
use Rattle.check_expr.proofs.Views.{expr_is, declaration_is}

first_is : (y : Expr) → first_of (expr_view y) ≡ (out-Expr y).first
first_is y = ap first_of (expr_is y)

end_is : (y : Expr) → end_of (expr_view y) ≡ (out-Expr y).end
end_is y = ap end_of (expr_is y)

pub returned_told : {E : Type 0} (result : Result (Unit {0}) E) (w : World) (e : Ex) (want : Want) (value : Read) (a b c : State) → want ≡ (scope a).result → told value b ≡ read w e (scope a) want (now a) → around b ≡ around a →
    ((before : Env) → before.scope ≡ scope b → before.returned ≡ (around b).returned → before.breaks ≡ (around b).breaks → OnOk result (env c ≡ returned_value (told value b) before)) →
    OnOk result (env c ≡ returned_value (read w e (scope a) (scope a).result (now a)) (env a))
returned_told (Err e) w x want value a b c wanted is same ends = tt
returned_told (Ok u) w x want value a b c wanted is same ends =
    ends (env a) (λ i. (sym same i).scope) (λ i. (sym same i).returned) (λ i. (sym same i).breaks)
    ∙ ap (λ (o : Out). returned_value o (env a)) (is ∙ ap (λ (v : Want). read w x (scope a) v (now a)) wanted)

pub declared_told : {E : Type 0} (result : Result (Unit {0}) E) (w : World) (x : Declaration) (token : ℕ) (want : Want) (value : Read) (a b c d : State) →
    want ≡ annotated w (option_map type_view (out-Declaration x).annotation) → now b ≡ change_notes (annotation_read w (option_map type_view (out-Declaration x).annotation)) (now a) → around b ≡ around a → token ≡ suc (out-Declaration x).first →
    told value c ≡ read w (expr_view (out-Declaration x).value) (scope b) want (now b) → around c ≡ around b →
    ((f : ℕ) (before : Env) → token ≡ suc f → before.scope ≡ scope c → before.returned ≡ (around c).returned → before.breaks ≡ (around c).breaks → OnOk result (env d ≡ declared_env w f (binder_view (out-Declaration x).binder) want (told value c) before)) →
    OnOk result (env d ≡ read_declaration w (declaration_view x) (env a))
declared_told (Err e) w x token want value a b c d wanted noted kept at is same ends = tt
declared_told (Ok u) w x token want value a b c d wanted noted kept at is same ends =
    let f : ℕ = (out-Declaration x).first in
    ends f (env a) at (λ i. (sym (same ∙ kept) i).scope) (λ i. (sym (same ∙ kept) i).returned) (λ i. (sym (same ∙ kept) i).breaks)
    ∙ ap (λ (o : Out). declared_env w f (binder_view (out-Declaration x).binder) want o (env a)) (is ∙ (λ i. read w (expr_view (out-Declaration x).value) (kept i).scope want (noted i)))
    ∙ ap (λ (v : Want). declared_env w f (binder_view (out-Declaration x).binder) v (read w (expr_view (out-Declaration x).value) (scope a) v (change_notes (annotation_read w (option_map type_view (out-Declaration x).annotation)) (now a))) (env a)) wanted
    ∙ sym (ap (λ (d : Tree). read_declaration w d (env a)) (declaration_is x))

pub assigned_told : {E : Type 0} (result : Result (Unit {0}) E) (w : World) (f t : ℕ) (x : Assignment) (g : Own) (want : Want) (value : Read) (a b c d : State) → Some (goal_view g) ≡ aim_goal (aim w (expr_view (out-Assignment x).target) (scope a) (now a)) →
    now b ≡ aim_now (aim w (expr_view (out-Assignment x).target) (scope a) (now a)) (now a) → around b ≡ around a → want ≡ goal_want (goal_view g) →
    told value c ≡ read w (expr_view (out-Assignment x).value) (scope b) want (now b) → around c ≡ around b →
    ((e : Ex) (before : Env) → first_of e ≡ (out-Expr (out-Assignment x).value).first → end_of e ≡ (out-Expr (out-Assignment x).value).end → before.scope ≡ scope c → before.returned ≡ (around c).returned → before.breaks ≡ (around c).breaks → OnOk result (env d ≡ assigned_env w e (goal_view g) (told value c) before)) →
    OnOk result (env d ≡ read_simple w f t (assignment_view x) (env a))
assigned_told (Err e) w f t x g want value a b c d goal on kept wanted is same ends = tt
assigned_told (Ok u) w f t x g want value a b c d goal on kept wanted is same ends =
    assigned_value w f t x g (told value c) a b c d goal on kept (is ∙ ap (λ (v : Want). read w (expr_view (out-Assignment x).value) (scope b) v (now b)) wanted)
    (ends (expr_view (out-Assignment x).value) (env a) (first_is (out-Assignment x).value) (end_is (out-Assignment x).value) (λ i. (sym (same ∙ kept) i).scope) (λ i. (sym (same ∙ kept) i).returned) (λ i. (sym (same ∙ kept) i).breaks))
