-- What the forms of statements may change, and their plans, by their parts.
use Rattle.std.proofs.Common.{Result, OnOk, IfOk, ◌≡◌, ℕ, ◌≤◌, List, [], ◌∷◌, ◌++◌, length, take, refl, sym, ap, ap₂, ◌∙◌, subst}
use Rattle.std.specs.BTreeSet.{BTreeSet}
use Rattle.std.proofs.lemmas.List.{map-append}
use Rattle.std.proofs.lemmas.Result.{on_ok_weaker}
use Rattle.check_values.specs.Rows.{Bytes}
use Rattle.js_grammar.specs.Code as g
use Rattle.typing.specs.Changes as typing
use Rattle.code_tree.specs.View.{expr_view, block_view, if_statement_view, else_view, while_statement_view, body_view, statement_view, statement_form_view, statements_view, branches_view}
use Rattle.code_tree.specs.declared.types.Block.{Block, out-Block}
use Rattle.code_tree.specs.declared.types.Branch.{Branch}
use Rattle.code_tree.specs.declared.types.IfStatement.{IfStatement, out-IfStatement}
use Rattle.code_tree.specs.declared.types.WhileStatement.{WhileStatement, out-WhileStatement}
use Rattle.code_tree.specs.declared.types.Statement.{Statement, out-Statement}
use Rattle.code_changes.specs.View.{change_view, changes_view}
use Rattle.code_changes.specs.declared.change.Change.{Change}
use Rattle.code_changes.proofs.Views.{if_statement_is, statement_is, while_statement_is}
use Rattle.code_changes.proofs.Forms.{block_changes, if_changes}
use Rattle.code_plans.specs.Plans as p
use Rattle.code_plans.specs.Plans.{includes, plan, planned}
use Rattle.code_plans.specs.View.{plan_view, plans_view, Owns, Adds}
use Rattle.code_plans.specs.declared.plan.Plan.{Plan, out-Plan}
use Rattle.code_plans.proofs.Handing.{changes_planned, block_planned}
use Rattle.code_plans.proofs.Adding.{adds_all, adds_alone, adds_as, adds_both, outside_alike}
use Rattle.code_plans.proofs.Parts.{statements_all, statements_ended, no_plans, one_more}

view_both : (xs ys : List Change) → changes_view (xs ++ ys) ≡ changes_view xs ++ changes_view ys
unfolding changes_view
view_both xs ys = map-append change_view xs ys

-- ---- statements and blocks

pub statements_made : (made : Plan) (all : List Statement) (i : ℕ) (changes slice : List Change) (parts : List Plan) → length all ≤ i → slice ≡ changes → plans_view parts ≡ p.plans_of_stmts (statements_view (take i all)) →
    Adds [] changes (typing.changes_of_stmts (statements_view (take i all))) → plan_view made ≡ plan (includes (changes_view slice)) (plans_view parts) → plan_view made ≡ p.plan_of_stmts (statements_view all)
statements_made made all i changes slice parts past same plans told is =
    is ∙ ap₂ plan (ap (λ (l : List Change). includes (changes_view l)) same ∙ adds_alone [] changes (typing.changes_of_stmts (statements_view all)) refl (statements_ended [] changes all i past told)) (statements_all all i parts past plans)

pub block_made : (x : Block) (made : Plan) (statements : List Statement) → statements ≡ (out-Block x).statements → plan_view made ≡ p.plan_of_stmts (statements_view statements) → plan_view made ≡ p.plan_of_block (block_view x)
block_made x made statements is given = given ∙ sym (block_planned x statements is)

pub block_told : (x : Block) (statements : List Statement) (made : Plan) (own : BTreeSet Bytes) (slice a b : List Change) → statements ≡ (out-Block x).statements → plan_view made ≡ p.plan_of_stmts (statements_view statements) → Owns own (typing.declared_in (statements_view statements)) →
    slice ≡ (out-Plan made).changes → ((names : List Bytes) → Owns own names → changes_view b ≡ changes_view a ++ typing.outside names (changes_view slice)) → Adds a b (typing.changes_of_block (block_view x))
block_told x statements made own slice a b is given owns same adds =
    let names : List Bytes = typing.declared_in (statements_view statements) in
    let inner : List typing.Change = typing.changes_of_stmts (statements_view statements) in
    adds_as a b (typing.outside names (changes_view slice)) (typing.changes_of_block (block_view x))
    (outside_alike names (changes_view slice) inner (changes_planned made slice (p.plan_of_stmts (statements_view statements)) same given) ∙ ap includes (sym (block_changes x statements is)))
    (adds_all a b (typing.outside names (changes_view slice)) (adds names owns))

-- ---- loops

pub loop_made : (x : WhileStatement) (made body : Plan) (start mid end slice : List Change) (empty parts : List Plan) → start ≡ [] → Adds start mid (typing.changes_of_ex (expr_view (out-WhileStatement x).test)) → Adds mid end (typing.changes_of_body (body_view (out-WhileStatement x).body)) →
    plan_view body ≡ p.plan_of_body (body_view (out-WhileStatement x).body) → empty ≡ [] → parts ≡ empty ++ body ∷ [] → slice ≡ end → plan_view made ≡ plan (includes (changes_view slice)) (plans_view parts) → plan_view made ≡ p.plan_of_form (while_statement_view x)
loop_made x made body start mid end slice empty parts begun test rest given none adds same is =
    let e : g.Ex = expr_view (out-WhileStatement x).test in
    let b : g.Body = body_view (out-WhileStatement x).body in
    is ∙ ap₂ plan
    (ap (λ (l : List Change). includes (changes_view l)) same ∙ adds_alone start end (typing.changes_of_ex e ++ typing.changes_of_body b) begun (adds_both start mid end (typing.changes_of_ex e) (typing.changes_of_body b) test rest))
    (ap plans_view (adds ∙ ap (λ (l : List Plan). l ++ body ∷ []) none) ∙ one_more [] body ∙ ap (λ (l : List p.Plan). l ++ plan_view body ∷ []) no_plans ∙ ap (λ (q : p.Plan). q ∷ []) given)
    ∙ sym (ap p.plan_of_form (while_statement_is x))

pub loop_told : (x : WhileStatement) (made : Plan) (slice a b : List Change) → plan_view made ≡ p.plan_of_form (while_statement_view x) → slice ≡ (out-Plan made).changes → b ≡ a ++ slice → Adds a b (typing.changes_of_stmt_form (while_statement_view x))
loop_told x made slice a b given same adds =
    adds_as a b (changes_view slice) (typing.changes_of_stmt_form (while_statement_view x))
    (changes_planned made slice (p.plan_of_form (while_statement_view x)) same given ∙ ap (λ (f : g.StmtForm). planned (p.plan_of_form f)) (while_statement_is x) ∙ ap (λ (f : g.StmtForm). includes (typing.changes_of_stmt_form f)) (sym (while_statement_is x)))
    (adds_all a b (changes_view slice) (ap changes_view adds ∙ view_both a slice))

-- ---- `if`

pub if_made : (x : IfStatement) (made group last : Plan) (empty first parts plans : List Plan) (slice : List Branch) → slice ≡ (out-IfStatement x).branches → plans_view plans ≡ p.plans_of_branches (branches_view slice) → plan_view group ≡ plan p.no_change (plans_view plans) →
    plan_view last ≡ p.plan_of_else (else_view (out-IfStatement x).last) → empty ≡ [] → first ≡ empty ++ group ∷ [] → parts ≡ first ++ last ∷ [] → plan_view made ≡ plan p.no_change (plans_view parts) → plan_view made ≡ p.plan_of_form (if_statement_view x)
if_made x made group last empty first parts plans slice same planned_all grouped ended none begins adds is =
    is ∙ ap (plan p.no_change)
    (ap plans_view (adds ∙ ap (λ (l : List Plan). l ++ last ∷ []) (begins ∙ ap (λ (l : List Plan). l ++ group ∷ []) none)) ∙ one_more (group ∷ []) last ∙ ap (λ (l : List p.Plan). l ++ plan_view last ∷ []) (one_more [] group ∙ ap (λ (l : List p.Plan). l ++ plan_view group ∷ []) no_plans)
    ∙ ap₂ (λ (q r : p.Plan). q ∷ r ∷ []) (grouped ∙ ap (plan p.no_change) (planned_all ∙ ap (λ (l : List Branch). p.plans_of_branches (branches_view l)) same)) ended)
    ∙ sym (ap p.plan_of_form (if_statement_is x))

pub if_told : (x : IfStatement) (slice : List Branch) (a b c : List Change) → slice ≡ (out-IfStatement x).branches → Adds a b (typing.changes_of_branches (branches_view slice)) → Adds b c (typing.changes_of_else (else_view (out-IfStatement x).last)) → Adds a c (typing.changes_of_stmt_form (if_statement_view x))
if_told x slice a b c same first second =
    subst (Adds a c) (sym (if_changes x slice same)) (adds_both a b c (typing.changes_of_branches (branches_view slice)) (typing.changes_of_else (else_view (out-IfStatement x).last)) first second)

-- ---- what is handed on as it is

pub made_as : {E : Type 0} (r : Result Plan E) (a b : p.Plan) → a ≡ b → IfOk r (λ made. plan_view made ≡ a) → IfOk r (λ made. plan_view made ≡ b)
made_as r a b is = subst (λ (w : p.Plan). IfOk r (λ made. plan_view made ≡ w)) is

pub told_as : {T E : Type 0} (r : Result T E) (a b : List Change) (xs ys : List typing.Change) → xs ≡ ys → OnOk r (Adds a b xs) → OnOk r (Adds a b ys)
told_as r a b xs ys is = subst (λ (cs : List typing.Change). OnOk r (Adds a b cs)) is

pub told_both : {T E : Type 0} (r : Result T E) (a b c : List Change) (xs ys zs : List typing.Change) → xs ++ ys ≡ zs → Adds a b xs → OnOk r (Adds b c ys) → OnOk r (Adds a c zs)
told_both r a b c xs ys zs is first = on_ok_weaker r (λ second. subst (Adds a c) is (adds_both a b c xs ys first second))

pub stmt_as : (x : Statement) (form : g.StmtForm) → statement_form_view (out-Statement x).form ≡ form → p.plan_of_form form ≡ p.plan_of_stmt (statement_view x)
stmt_as x form is = ap p.plan_of_form (sym is) ∙ sym (ap p.plan_of_stmt (statement_is x))

pub stmt_told_as : (x : Statement) (form : g.StmtForm) → statement_form_view (out-Statement x).form ≡ form → typing.changes_of_stmt_form form ≡ typing.changes_of_stmt (statement_view x)
stmt_told_as x form is = ap typing.changes_of_stmt_form (sym is) ∙ sym (ap typing.changes_of_stmt (statement_is x))
