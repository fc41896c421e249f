-- Plans that are handed on to parts.
use Rattle.std.proofs.Common.{◌≡◌, ℕ, ◌<◌, List, [], ◌∷◌, ◌++◌, length, map, get_or, Option, Some, None, refl, sym, ap, ◌∙◌, subst, append_assoc, append-nil}
use Rattle.std.proofs.lemmas.List.{get_or-map}
use Rattle.js_grammar.specs.Code as g
use Rattle.code_tree.specs.Steps.{stmts_from, branches_from}
use Rattle.typing.specs.Changes as typing
use Rattle.code_tree.specs.View.{expr_view, block_view, statement_view, statement_form_view, if_statement_view, while_statement_view, else_view, body_view, statements_view, branch_view, branches_view}
use Rattle.code_tree.specs.declared.types.Block.{Block, out-Block}
use Rattle.code_tree.specs.declared.types.Branch.{Branch, out-Branch}
use Rattle.code_tree.specs.declared.types.IfStatement.{IfStatement, out-IfStatement}
use Rattle.code_tree.specs.declared.types.Statement.{Statement, out-Statement}
use Rattle.code_tree.specs.declared.types.WhileStatement.{WhileStatement, out-WhileStatement}
use Rattle.code_changes.specs.View.{changes_view}
use Rattle.code_changes.specs.declared.change.Change.{Change}
use Rattle.code_changes.proofs.Views.{block_is, branch_is, if_statement_is, statement_is, while_statement_is}
use Rattle.code_plans.specs.Plans as p
use Rattle.code_plans.specs.Plans.{includes, planned, part_of, no_plan}
use Rattle.code_plans.specs.View.{plan_view, IsPlan}
use Rattle.code_plans.specs.declared.plan.Plan.{Plan, out-Plan}
use Rattle.code_plans.proofs.Views.{planned_is}

-- a plan of what is equal
pub plan_on : (o : Option Plan) (a b : p.Plan) → a ≡ b → IsPlan o a → IsPlan o b
unfolding IsPlan
plan_on None a b is given = tt
plan_on (Some x) a b is given = given ∙ is

-- ---- the plans of a list, one by one

stmts_planned : (acc : g.Stmts) (all : List g.Stmt) → p.plans_of_stmts (stmts_from acc all) ≡ p.plans_of_stmts acc ++ map p.plan_of_stmt all
stmts_planned acc [] = sym (append-nil (p.plans_of_stmts acc))
stmts_planned acc (s ∷ all) = stmts_planned (g.more_stmt acc s) all ∙ append_assoc (p.plans_of_stmts acc) (p.plan_of_stmt s ∷ []) (map p.plan_of_stmt all)

branches_planned : (acc : g.Branches) (all : List g.Branch) → p.plans_of_branches (branches_from acc all) ≡ p.plans_of_branches acc ++ map p.plan_of_branch all
branches_planned acc [] = sym (append-nil (p.plans_of_branches acc))
branches_planned acc (b ∷ all) = branches_planned (g.more_branch acc b) all ∙ append_assoc (p.plans_of_branches acc) (p.plan_of_branch b ∷ []) (map p.plan_of_branch all)

at : {X : Type 0} (f : X → p.Plan) (all : List X) (i : ℕ) (x : X) → i < length all → x ≡ get_or all i x → get_or (map f all) i no_plan ≡ f x
at f all i x within is = get_or-map f all i x no_plan within ∙ ap f (sym is)

twice : {X Y : Type 0} (f : Y → p.Plan) (view : X → Y) (all : List X) → map f (map view all) ≡ map (λ x. f (view x)) all
twice f view [] = refl
twice f view (x ∷ all) = ap (λ (l : List p.Plan). f (view x) ∷ l) (twice f view all)

pub statement_handed : (o : Option Plan) (all : List Statement) (i : ℕ) (x : Statement) → i < length all → x ≡ get_or all i x → IsPlan o (part_of (p.plan_of_stmts (statements_view all)) i) → IsPlan o (p.plan_of_form (statement_form_view (out-Statement x).form))
unfolding statements_view
statement_handed o all i x within is =
    plan_on o (part_of (p.plan_of_stmts (statements_view all)) i) (p.plan_of_form (statement_form_view (out-Statement x).form))
    (ap (λ (l : List p.Plan). get_or l i no_plan) (stmts_planned g.no_stmt (map statement_view all) ∙ twice p.plan_of_stmt statement_view all) ∙ at (λ s. p.plan_of_stmt (statement_view s)) all i x within is ∙ ap p.plan_of_stmt (statement_is x))

pub branch_handed : (o : Option Plan) (all : List Branch) (i : ℕ) (x : Branch) → i < length all → x ≡ get_or all i x → IsPlan o (part_of (p.plan_of_branches (branches_view all)) i) → IsPlan o (p.plan_of_body (body_view (out-Branch x).body))
unfolding branches_view
branch_handed o all i x within is =
    plan_on o (part_of (p.plan_of_branches (branches_view all)) i) (p.plan_of_body (body_view (out-Branch x).body))
    (ap (λ (l : List p.Plan). get_or l i no_plan) (branches_planned g.no_branch (map branch_view all) ∙ twice p.plan_of_branch branch_view all) ∙ at (λ b. p.plan_of_branch (branch_view b)) all i x within is ∙ ap p.plan_of_branch (branch_is x))

-- ---- the parts of a statement

pub branches_handed : (o : Option Plan) (x : IfStatement) (slice : List Branch) → slice ≡ (out-IfStatement x).branches → IsPlan o (part_of (p.plan_of_form (if_statement_view x)) 0) → IsPlan o (p.plan_of_branches (branches_view slice))
branches_handed o x slice is =
    plan_on o (part_of (p.plan_of_form (if_statement_view x)) 0) (p.plan_of_branches (branches_view slice)) (ap (λ (f : g.StmtForm). part_of (p.plan_of_form f) 0) (if_statement_is x) ∙ sym (ap (λ (l : List Branch). p.plan_of_branches (branches_view l)) is))

pub last_handed : (o : Option Plan) (x : IfStatement) → IsPlan o (part_of (p.plan_of_form (if_statement_view x)) 1) → IsPlan o (p.plan_of_else (else_view (out-IfStatement x).last))
last_handed o x = plan_on o (part_of (p.plan_of_form (if_statement_view x)) 1) (p.plan_of_else (else_view (out-IfStatement x).last)) (ap (λ (f : g.StmtForm). part_of (p.plan_of_form f) 1) (if_statement_is x))

pub body_handed : (o : Option Plan) (x : WhileStatement) → IsPlan o (part_of (p.plan_of_form (while_statement_view x)) 0) → IsPlan o (p.plan_of_body (body_view (out-WhileStatement x).body))
body_handed o x = plan_on o (part_of (p.plan_of_form (while_statement_view x)) 0) (p.plan_of_body (body_view (out-WhileStatement x).body)) (ap (λ (f : g.StmtForm). part_of (p.plan_of_form f) 0) (while_statement_is x))

-- ---- what a plan tells

pub block_planned : (x : Block) (statements : List Statement) → statements ≡ (out-Block x).statements → p.plan_of_block (block_view x) ≡ p.plan_of_stmts (statements_view statements)
block_planned x statements is = ap p.plan_of_block (block_is x) ∙ sym (ap (λ (l : List Statement). p.plan_of_stmts (statements_view l)) is)

-- the changes that stand in a plan
pub changes_planned : (x : Plan) (slice : List Change) (whole : p.Plan) → slice ≡ (out-Plan x).changes → plan_view x ≡ whole → includes (changes_view slice) ≡ planned whole
changes_planned x slice whole is given = ap (λ (l : List Change). includes (changes_view l)) is ∙ sym (planned_is x) ∙ ap planned given

pub loop_planned : (x : WhileStatement) (made : Plan) (slice : List Change) → slice ≡ (out-Plan made).changes → plan_view made ≡ p.plan_of_form (while_statement_view x) →
    includes (changes_view slice) ≡ includes (typing.changes_of_ex (expr_view (out-WhileStatement x).test) ++ typing.changes_of_body (body_view (out-WhileStatement x).body))
loop_planned x made slice is given = changes_planned made slice (p.plan_of_form (while_statement_view x)) is given ∙ ap (λ (f : g.StmtForm). planned (p.plan_of_form f)) (while_statement_is x)
