-- Targets of assignments, by their last link.
use Rattle.std.proofs.Common.{◌≡◌, ℕ, ◌+◌, ◌-◌, ◌<◌, arith, Bool, List, [], ◌∷◌, length, take, get_or, Option, Some, None, Result, Ok, Err, refl, sym, ap, ◌∙◌}
use Rattle.std.specs.Prelude.{OnOk, IfOk}
use Rattle.std.specs.Option.{option_map}
use Rattle.std.specs.List.{slice_get}
use Rattle.std.proofs.lemmas.List.{take_all}
use Rattle.std.proofs.lemmas.Option.{slice_get-get_or}
use Rattle.js_grammar.specs.Code.{Ex, ex, ExForm, Link as Step, link, LinkForm as StepForm, Links, no_link, more_link}
use Rattle.code_tree.specs.View.{expr_view, expr_form_view, postfix_expr_view, link_view, link_form_view, links_view}
use Rattle.code_tree.specs.declared.types.Expr.{Expr, out-Expr}
use Rattle.code_tree.specs.declared.types.ExprForm as expr_form
use Rattle.code_tree.specs.declared.types.Link.{Link, out-Link}
use Rattle.code_tree.specs.declared.types.LinkForm as link_form
use Rattle.code_tree.specs.declared.types.PostfixExpr.{PostfixExpr, out-PostfixExpr}
use Rattle.flow_facts.specs.declared.place.Place.{Place}
use Rattle.typing.specs.Names.{Scope}
use Rattle.type_values.specs.declared.types.FlowType.{FlowType}
use Rattle.typing.specs.States.{World, Now, Out, after}
use Rattle.typing.specs.Statements.{Goal, element_goal, first_of, end_of}
use Rattle.part_steps.specs.Goals.{goal_of_element}
use Rattle.part_steps.specs.View.{goal_view}
use Rattle.part_steps.specs.declared.goals.Goal.{Goal as Own}
use Rattle.scopes.specs.View.{scope_view}
use Rattle.check_moves.specs.declared.state.State.{State}
use Rattle.check_moves.specs.declared.state.Read.{Read}
use Rattle.check_moves.specs.View.{around, scope, now, told}
use Rattle.typing.specs.Tests.{variable_in, step_place}
use Rattle.typing.specs.Typing.{read, read_links}
use Rattle.check_expr.specs.Targets.{Aim, link_aim, links_aim, aim, aim_goal, aim_now}
use Rattle.check_expr.proofs.Lists.{links_more}
use Rattle.check_expr.proofs.Views.{expr_is, expr_form_postfix, postfix_expr_is, link_is, link_form_call}

-- an expression by its form
pub aim_of : (w : World) (x : Expr) (v : ExForm) (s : Scope) (n : Now) → expr_form_view (out-Expr x).form ≡ v → aim w (expr_view x) s n ≡ aim w (ex (out-Expr x).first (out-Expr x).end v) s n
aim_of w x v s n is = ap (λ (e : Ex). aim w e s n) (expr_is x) ∙ ap (λ (u : ExForm). aim w (ex (out-Expr x).first (out-Expr x).end u) s n) is

-- a chain of links as a target, with the state that it left
pub target_goal : {E : Type 0} (found : Result (Option Own) E) (w : World) (x : Expr) (e : PostfixExpr) (s : Scope) (n : Now) → (out-Expr x).form ≡ expr_form.Postfix e →
    IfOk found (λ g. option_map goal_view g ≡ aim_goal (aim w (ex (out-Expr x).first (out-Expr x).end (postfix_expr_view e)) s n)) →
    IfOk found (λ g. option_map goal_view g ≡ aim_goal (aim w (expr_view x) s n))
target_goal (Ok g) w x e s n form is = is ∙ sym (ap aim_goal (aim_of w x (postfix_expr_view e) s n (expr_form_postfix (out-Expr x).form e form)))
target_goal (Err y) w x e s n form is = tt

pub target_now : {A E : Type 0} (found : Result A E) (w : World) (x : Expr) (e : PostfixExpr) (s : Scope) (n : Now) (b : State) → (out-Expr x).form ≡ expr_form.Postfix e →
    OnOk found (now b ≡ aim_now (aim w (ex (out-Expr x).first (out-Expr x).end (postfix_expr_view e)) s n) n) → OnOk found (now b ≡ aim_now (aim w (expr_view x) s n) n)
target_now (Ok g) w x e s n b form is = is ∙ sym (ap (λ (o : Option Aim). aim_now o n) (aim_of w x (postfix_expr_view e) s n (expr_form_postfix (out-Expr x).form e form)))
target_now (Err y) w x e s n b form is = tt

some_same : {A : Type 0} (a b : A) → Some a ≡ Some b → a ≡ b
some_same a b is = cc

links_last : (xs : List Link) (x : Link) → Some x ≡ slice_get xs (length xs - 1) → links_view xs ≡ more_link (links_view (take (length xs - 1) xs)) (link_view x)
links_last [] x last = absurd (cc)
links_last (y ∷ ys) x last =
    let i : ℕ = length (y ∷ ys) - 1 in
    let within : i < length (y ∷ ys) = omega arith in
    let at : x ≡ get_or (y ∷ ys) i x = some_same x (get_or (y ∷ ys) i x) (last ∙ slice_get-get_or (y ∷ ys) i x within) in
    sym (ap links_view (take_all (i + 1) (y ∷ ys) (omega arith))) ∙ links_more (y ∷ ys) i x within at

links_empty : (xs : List Link) → None ≡ slice_get xs (length xs - 1) → links_view xs ≡ no_link
unfolding links_view
links_empty [] none = refl
links_empty (y ∷ ys) none = absurd (none_some (none ∙ slice_get-get_or (y ∷ ys) (length (y ∷ ys) - 1) y (omega arith)))
  where
    none_some : {A : Type 0} {a : A} → None ≡ Some a → ⊥
    none_some is = cc

-- the last link of a slice, as it is found
pub last_in : (slice own : List Link) (found last : Option Link) → found ≡ last → found ≡ slice_get slice (length slice - 1) → slice ≡ own → last ≡ slice_get own (length own - 1)
last_in slice own found last is at same = sym is ∙ at ∙ ap (λ (l : List Link). slice_get l (length l - 1)) same

-- a chain of links is a target by the last one
pub part_aim : (w : World) (f t : ℕ) (x : PostfixExpr) (last : Link) (s : Scope) (n : Now) → Some last ≡ slice_get (out-PostfixExpr x).links (length (out-PostfixExpr x).links - 1) →
    aim w (ex f t (postfix_expr_view x)) s n ≡
    link_aim w f (link_view last) (step_place (variable_in s (expr_view (out-PostfixExpr x).base)) (links_view (out-PostfixExpr x).links)) s
    (read_links w f (links_view (take (length (out-PostfixExpr x).links - 1) (out-PostfixExpr x).links)) (variable_in s (expr_view (out-PostfixExpr x).base)) s (read w (expr_view (out-PostfixExpr x).base) s None n))
part_aim w f t x last s n is =
    let xs : List Link = (out-PostfixExpr x).links in
    let base : Ex = expr_view (out-PostfixExpr x).base in
    let all : links_view xs ≡ more_link (links_view (take (length xs - 1) xs)) (link_view last) = links_last xs last is in
    ap (λ (v : ExForm). aim w (ex f t v) s n) (postfix_expr_is x)
    ∙ ap (λ (ls : Links). links_aim w f base ls s n) all
    ∙ ap (λ (ls : Links). link_aim w f (link_view last) (step_place (variable_in s base) ls) s (read_links w f (links_view (take (length xs - 1) xs)) (variable_in s base) s (read w base s None n))) (sym all)

-- without a link it is none
pub no_part : (w : World) (f t : ℕ) (x : PostfixExpr) (s : Scope) (n : Now) → None ≡ slice_get (out-PostfixExpr x).links (length (out-PostfixExpr x).links - 1) → aim w (ex f t (postfix_expr_view x)) s n ≡ None
no_part w f t x s n is =
    ap (λ (v : ExForm). aim w (ex f t v) s n) (postfix_expr_is x)
    ∙ ap (λ (ls : Links). links_aim w f (expr_view (out-PostfixExpr x).base) ls s n) (links_empty (out-PostfixExpr x).links is)

-- a link by its form
pub link_aim_of : (w : World) (f : ℕ) (x : Link) (v : StepForm) (place : Option Place) (s : Scope) (o : Out) → link_form_view (out-Link x).form ≡ v → link_aim w f (link_view x) place s o ≡ link_aim w f (link (out-Link x).first (out-Link x).end v) place s o
link_aim_of w f x v place s o is = ap (λ (l : Step). link_aim w f l place s o) (link_is x) ∙ ap (λ (u : StepForm). link_aim w f (link (out-Link x).first (out-Link x).end u) place s o) is

-- a call is none
pub call_aim : (w : World) (f : ℕ) (x : Link) (es : List Expr) (comma : Bool) (place : Option Place) (s : Scope) (o : Out) → (out-Link x).form ≡ link_form.Call es comma → link_aim w f (link_view x) place s o ≡ None
call_aim w f x es comma place s o is =
    ap (λ (v : Step). link_aim w f v place s o) (link_is x) ∙ ap (λ (v : StepForm). link_aim w f (link (out-Link x).first (out-Link x).end v) place s o) (link_form_call (out-Link x).form es comma is)

-- the base and all links but the last one were read
pub part_parts : (w : World) (f : ℕ) (x : PostfixExpr) (slice : List Link) (base : Expr) (last : Link) (from : Option ℕ) (place : Option Place) (first object : Read) (a b c : State) → slice ≡ (out-PostfixExpr x).links → base ≡ (out-PostfixExpr x).base → from ≡ variable_in (scope_view a.scope) (expr_view base) →
    told first b ≡ read w (expr_view base) (scope a) None (now a) → around b ≡ around a → told object c ≡ read_links w f (links_view (take (length slice - 1) slice)) from (scope b) (told first b) → around c ≡ around b → place ≡ step_place from (links_view slice) →
    link_aim w f (link_view last) place (scope c) (told object c) ≡
    link_aim w f (link_view last) (step_place (variable_in (scope a) (expr_view (out-PostfixExpr x).base)) (links_view (out-PostfixExpr x).links)) (scope a)
    (read_links w f (links_view (take (length (out-PostfixExpr x).links - 1) (out-PostfixExpr x).links)) (variable_in (scope a) (expr_view (out-PostfixExpr x).base)) (scope a) (read w (expr_view (out-PostfixExpr x).base) (scope a) None (now a)))
unfolding around
part_parts w f x slice base last from place first object a b c own base_own names is same chained kept stands =
    (λ i. link_aim w f (link_view last) (stands i) (kept i).scope (chained i))
    ∙ (λ i. link_aim w f (link_view last) (step_place from (links_view slice)) (same i).scope (read_links w f (links_view (take (length slice - 1) slice)) from (same i).scope (is i)))
    ∙ (λ i. link_aim w f (link_view last) (step_place (names i) (links_view (own i))) (scope a) (read_links w f (links_view (take (length (own i) - 1) (own i))) (names i) (scope a) (read w (expr_view base) (scope a) None (now a))))
    ∙ (λ i. link_aim w f (link_view last) (step_place (variable_in (scope a) (expr_view (base_own i))) (links_view (out-PostfixExpr x).links)) (scope a) (read_links w f (links_view (take (length (out-PostfixExpr x).links - 1) (out-PostfixExpr x).links)) (variable_in (scope a) (expr_view (base_own i))) (scope a) (read w (expr_view (base_own i)) (scope a) None (now a))))

-- an index was read behind its object
pub element_told : (w : World) (f at : ℕ) (y : Expr) (t : ℕ) (object_type index_type : FlowType) (goal : Goal) (object index_read : Read) (a b c : State) → goal ≡ goal_of_element w f at (out-Expr y).first t index_type object_type → t ≡ (out-Expr y).end →
    object_type ≡ (told object a).ty → index_type ≡ index_read.ty → told index_read c ≡ read w (expr_view y) (scope b) None (now b) → now b ≡ after (told object a) → around b ≡ around a →
    goal ≡ element_goal w f at (expr_view y) (told object a) (read w (expr_view y) (scope a) None (after (told object a)))
unfolding told
element_told w f at y t object_type index_type goal object index_read a b c is ends own index_own reads met same =
    is
    ∙ (λ i. goal_of_element w f at (out-Expr y).first (ends i) (index_own i) (own i))
    ∙ (λ i. goal_of_element w f at (out-Expr y).first (out-Expr y).end (reads i).ty (told object a).ty)
    ∙ (λ i. goal_of_element w f at (out-Expr y).first (out-Expr y).end (read w (expr_view y) (same i).scope None (met i)).ty (told object a).ty)
    ∙ (λ i. goal_of_element w f at (sym (ap first_of (expr_is y)) i) (sym (ap end_of (expr_is y)) i) (read w (expr_view y) (scope a) None (after (told object a))).ty (told object a).ty)
