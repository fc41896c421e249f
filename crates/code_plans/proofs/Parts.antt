-- Plans of lists, from the first part to the last.
use Rattle.std.proofs.Common.{◌≡◌, ℕ, ◌+◌, ◌<◌, ◌≤◌, List, [], ◌∷◌, ◌++◌, length, take, get_or, refl, ap, ◌∙◌, subst}
use Rattle.std.proofs.lemmas.List.{map-append, take_all}
use Rattle.js_grammar.specs.Code as g
use Rattle.typing.specs.Changes as typing
use Rattle.code_tree.specs.Steps.{stmts_from, branches_from}
use Rattle.code_tree.specs.View.{statement_view, statements_view, branch_view, branches_view}
use Rattle.code_tree.specs.declared.types.Statement.{Statement}
use Rattle.code_tree.specs.declared.types.Branch.{Branch}
use Rattle.code_changes.specs.declared.change.Change.{Change}
use Rattle.code_changes.proofs.Lists.{turned, ended}
use Rattle.code_plans.specs.Plans as p
use Rattle.code_plans.specs.View.{plan_view, plans_view, Adds}
use Rattle.code_plans.specs.declared.plan.Plan.{Plan}
use Rattle.code_plans.proofs.Adding.{adds_none, adds_both}

pub one_more : (xs : List Plan) (x : Plan) → plans_view (xs ++ x ∷ []) ≡ plans_view xs ++ plan_view x ∷ []
unfolding plans_view
one_more xs x = map-append plan_view xs (x ∷ [])

pub no_plans : plans_view [] ≡ []
unfolding plans_view
no_plans = refl

-- statements

pub statements_none : (all : List Statement) (parts : List Plan) → parts ≡ [] → plans_view parts ≡ p.plans_of_stmts (statements_view (take 0 all))
unfolding statements_view
statements_none all parts none = ap plans_view none ∙ no_plans

pub statements_more : (all : List Statement) (i : ℕ) (x : Statement) (before after : List Plan) (one : Plan) → i < length all → x ≡ get_or all i x → plans_view before ≡ p.plans_of_stmts (statements_view (take i all)) → plan_view one ≡ p.plan_of_stmt (statement_view x) → after ≡ before ++ one ∷ [] →
    plans_view after ≡ p.plans_of_stmts (statements_view (take (i + 1) all))
unfolding statements_view
statements_more all i x before after one within is so_far made adds =
    turned statement_view (λ l v. g.more_stmt l v) stmts_from (λ l. refl) (λ l v vs. refl) g.no_stmt p.plans_of_stmts (λ v. p.plan_of_stmt v ∷ []) refl (λ l v. refl) all i x [] (plans_view before) (plans_view after) within is so_far
    (ap plans_view adds ∙ one_more before one ∙ ap (λ (m : p.Plan). plans_view before ++ m ∷ []) made)

pub statements_all : (all : List Statement) (i : ℕ) (parts : List Plan) → length all ≤ i → plans_view parts ≡ p.plans_of_stmts (statements_view (take i all)) → plans_view parts ≡ p.plans_of_stmts (statements_view all)
unfolding statements_view
statements_all all i parts past is = ended statement_view (λ l v. g.more_stmt l v) stmts_from (λ l. refl) (λ l v vs. refl) g.no_stmt p.plans_of_stmts (λ v. p.plan_of_stmt v ∷ []) refl (λ l v. refl) all i [] (plans_view parts) past is

pub statements_begun : (start : List Change) (all : List Statement) → Adds start start (typing.changes_of_stmts (statements_view (take 0 all)))
unfolding statements_view
statements_begun start all = adds_none start

pub statements_turned : (a b c : List Change) (all : List Statement) (i : ℕ) (x : Statement) → i < length all → x ≡ get_or all i x → Adds a b (typing.changes_of_stmts (statements_view (take i all))) → Adds b c (typing.changes_of_stmt (statement_view x)) → Adds a c (typing.changes_of_stmts (statements_view (take (i + 1) all)))
unfolding statements_view
statements_turned a b c all i x within is so_far step =
    let before : List typing.Change = typing.changes_of_stmts (statements_view (take i all)) in
    let here : List typing.Change = typing.changes_of_stmt (statement_view x) in
    subst (Adds a c) (turned statement_view (λ l v. g.more_stmt l v) stmts_from (λ l. refl) (λ l v vs. refl) g.no_stmt typing.changes_of_stmts typing.changes_of_stmt refl (λ l v. refl) all i x [] before (before ++ here) within is refl refl) (adds_both a b c before here so_far step)

pub statements_ended : (a b : List Change) (all : List Statement) (i : ℕ) → length all ≤ i → Adds a b (typing.changes_of_stmts (statements_view (take i all))) → Adds a b (typing.changes_of_stmts (statements_view all))
statements_ended a b all i past = subst (Adds a b) (ap (λ (l : List Statement). typing.changes_of_stmts (statements_view l)) (take_all i all past))

-- branches

pub branches_none : (all : List Branch) (parts : List Plan) → parts ≡ [] → plans_view parts ≡ p.plans_of_branches (branches_view (take 0 all))
unfolding branches_view
branches_none all parts none = ap plans_view none ∙ no_plans

pub branches_more : (all : List Branch) (i : ℕ) (x : Branch) (before after : List Plan) (one : Plan) → i < length all → x ≡ get_or all i x → plans_view before ≡ p.plans_of_branches (branches_view (take i all)) → plan_view one ≡ p.plan_of_branch (branch_view x) → after ≡ before ++ one ∷ [] →
    plans_view after ≡ p.plans_of_branches (branches_view (take (i + 1) all))
unfolding branches_view
branches_more all i x before after one within is so_far made adds =
    turned branch_view (λ l v. g.more_branch l v) branches_from (λ l. refl) (λ l v vs. refl) g.no_branch p.plans_of_branches (λ v. p.plan_of_branch v ∷ []) refl (λ l v. refl) all i x [] (plans_view before) (plans_view after) within is so_far
    (ap plans_view adds ∙ one_more before one ∙ ap (λ (m : p.Plan). plans_view before ++ m ∷ []) made)

pub branches_all : (all : List Branch) (i : ℕ) (parts : List Plan) → length all ≤ i → plans_view parts ≡ p.plans_of_branches (branches_view (take i all)) → plans_view parts ≡ p.plans_of_branches (branches_view all)
unfolding branches_view
branches_all all i parts past is = ended branch_view (λ l v. g.more_branch l v) branches_from (λ l. refl) (λ l v vs. refl) g.no_branch p.plans_of_branches (λ v. p.plan_of_branch v ∷ []) refl (λ l v. refl) all i [] (plans_view parts) past is

pub branches_begun : (start : List Change) (all : List Branch) → Adds start start (typing.changes_of_branches (branches_view (take 0 all)))
unfolding branches_view
branches_begun start all = adds_none start

pub branches_turned : (a b c : List Change) (all : List Branch) (i : ℕ) (x : Branch) → i < length all → x ≡ get_or all i x → Adds a b (typing.changes_of_branches (branches_view (take i all))) → Adds b c (typing.changes_of_branch (branch_view x)) → Adds a c (typing.changes_of_branches (branches_view (take (i + 1) all)))
unfolding branches_view
branches_turned a b c all i x within is so_far step =
    let before : List typing.Change = typing.changes_of_branches (branches_view (take i all)) in
    let here : List typing.Change = typing.changes_of_branch (branch_view x) in
    subst (Adds a c) (turned branch_view (λ l v. g.more_branch l v) branches_from (λ l. refl) (λ l v vs. refl) g.no_branch typing.changes_of_branches typing.changes_of_branch refl (λ l v. refl) all i x [] before (before ++ here) within is refl refl) (adds_both a b c before here so_far step)

pub branches_ended : (a b : List Change) (all : List Branch) (i : ℕ) → length all ≤ i → Adds a b (typing.changes_of_branches (branches_view (take i all))) → Adds a b (typing.changes_of_branches (branches_view all))
branches_ended a b all i past = subst (Adds a b) (ap (λ (l : List Branch). typing.changes_of_branches (branches_view l)) (take_all i all past))
