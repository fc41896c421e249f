-- The lists of a tree grow at their end; here they are read in order.
use Rattle.std.proofs.Common.{◌≡◌, ℕ, ◌+◌, ◌<◌, ◌≤◌, List, length, take, get_or, refl, ap}
use Rattle.std.proofs.lemmas.List.{take_all}
use Rattle.js_grammar.specs.Code.{no_ex, more_ex, no_link, more_link, no_operand, more_operand, no_field, more_field, no_arm, more_arm, no_branch, more_branch}
use Rattle.code_tree.specs.Steps.{exs_from, links_from, operands_from, fields_from, arms_from, branches_from}
use Rattle.code_tree.specs.View.{expr_view, exprs_view, link_view, links_view, operand_view, operands_view, field_view, fields_view, arm_view, arms_view, branch_view, branches_view, statements_view}
use Rattle.code_tree.specs.declared.types.Expr.{Expr}
use Rattle.code_tree.specs.declared.types.Link.{Link}
use Rattle.code_tree.specs.declared.types.Operand.{Operand}
use Rattle.code_tree.specs.declared.types.Field.{Field}
use Rattle.code_tree.specs.declared.types.Arm.{Arm}
use Rattle.code_tree.specs.declared.types.Branch.{Branch}
use Rattle.code_tree.specs.declared.types.Statement.{Statement}
use Rattle.binders.proofs.InOrder.{more_from}

-- ---- exprs_view

pub exs_more : (xs : List Expr) (i : ℕ) (x : Expr) → i < length xs → x ≡ get_or xs i x → exprs_view (take (i + 1) xs) ≡ more_ex (exprs_view (take i xs)) (expr_view x)
unfolding exprs_view
exs_more xs i x within at = more_from expr_view more_ex exs_from (λ l. refl) (λ l v vs. refl) no_ex xs i x within at

pub exs_none : (xs : List Expr) → exprs_view (take 0 xs) ≡ no_ex
unfolding exprs_view
exs_none xs = refl

pub exs_all : (xs : List Expr) (i : ℕ) → length xs ≤ i → exprs_view (take i xs) ≡ exprs_view xs
exs_all xs i long = ap exprs_view (take_all i xs long)

-- ---- links_view

pub links_more : (xs : List Link) (i : ℕ) (x : Link) → i < length xs → x ≡ get_or xs i x → links_view (take (i + 1) xs) ≡ more_link (links_view (take i xs)) (link_view x)
unfolding links_view
links_more xs i x within at = more_from link_view more_link links_from (λ l. refl) (λ l v vs. refl) no_link xs i x within at

pub links_none : (xs : List Link) → links_view (take 0 xs) ≡ no_link
unfolding links_view
links_none xs = refl

pub links_all : (xs : List Link) (i : ℕ) → length xs ≤ i → links_view (take i xs) ≡ links_view xs
links_all xs i long = ap links_view (take_all i xs long)

-- ---- operands_view

pub operands_more : (xs : List Operand) (i : ℕ) (x : Operand) → i < length xs → x ≡ get_or xs i x → operands_view (take (i + 1) xs) ≡ more_operand (operands_view (take i xs)) (operand_view x)
unfolding operands_view
operands_more xs i x within at = more_from operand_view more_operand operands_from (λ l. refl) (λ l v vs. refl) no_operand xs i x within at

pub operands_none : (xs : List Operand) → operands_view (take 0 xs) ≡ no_operand
unfolding operands_view
operands_none xs = refl

pub operands_all : (xs : List Operand) (i : ℕ) → length xs ≤ i → operands_view (take i xs) ≡ operands_view xs
operands_all xs i long = ap operands_view (take_all i xs long)

-- ---- fields_view

pub fields_more : (xs : List Field) (i : ℕ) (x : Field) → i < length xs → x ≡ get_or xs i x → fields_view (take (i + 1) xs) ≡ more_field (fields_view (take i xs)) (field_view x)
unfolding fields_view
fields_more xs i x within at = more_from field_view more_field fields_from (λ l. refl) (λ l v vs. refl) no_field xs i x within at

pub fields_none : (xs : List Field) → fields_view (take 0 xs) ≡ no_field
unfolding fields_view
fields_none xs = refl

pub fields_all : (xs : List Field) (i : ℕ) → length xs ≤ i → fields_view (take i xs) ≡ fields_view xs
fields_all xs i long = ap fields_view (take_all i xs long)

-- ---- arms_view

pub arms_more : (xs : List Arm) (i : ℕ) (x : Arm) → i < length xs → x ≡ get_or xs i x → arms_view (take (i + 1) xs) ≡ more_arm (arms_view (take i xs)) (arm_view x)
unfolding arms_view
arms_more xs i x within at = more_from arm_view more_arm arms_from (λ l. refl) (λ l v vs. refl) no_arm xs i x within at

pub arms_none : (xs : List Arm) → arms_view (take 0 xs) ≡ no_arm
unfolding arms_view
arms_none xs = refl

pub arms_all : (xs : List Arm) (i : ℕ) → length xs ≤ i → arms_view (take i xs) ≡ arms_view xs
arms_all xs i long = ap arms_view (take_all i xs long)

-- ---- branches_view

pub branches_more : (xs : List Branch) (i : ℕ) (x : Branch) → i < length xs → x ≡ get_or xs i x → branches_view (take (i + 1) xs) ≡ more_branch (branches_view (take i xs)) (branch_view x)
unfolding branches_view
branches_more xs i x within at = more_from branch_view more_branch branches_from (λ l. refl) (λ l v vs. refl) no_branch xs i x within at

pub branches_none : (xs : List Branch) → branches_view (take 0 xs) ≡ no_branch
unfolding branches_view
branches_none xs = refl

pub branches_all : (xs : List Branch) (i : ℕ) → length xs ≤ i → branches_view (take i xs) ≡ branches_view xs
branches_all xs i long = ap branches_view (take_all i xs long)

-- ---- statements_view

pub stmts_all : (xs : List Statement) (i : ℕ) → length xs ≤ i → statements_view (take i xs) ≡ statements_view xs
stmts_all xs i long = ap statements_view (take_all i xs long)
