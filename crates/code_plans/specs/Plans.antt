-- What the loops and blocks of code may change, in a tree that stands beside the code's.
use Rattle.std.specs.Prelude.{ℕ, Bool, true, false, List, [], ◌∷◌, ◌++◌, get_or}
use Rattle.std.specs.List.{list_any}
use Rattle.std.specs.Str.{bytes_eq}
use Rattle.js_grammar.specs.Code.{Stmts, no_stmt, more_stmt, Stmt, stmt, StmtForm, branches, loop, nested, Block, block, Body, block_body, simple_body, Branch, branch, Branches, no_branch, more_branch, Else, no_else, else_body}
use Rattle.typing.specs.Changes.{Change, sets_variable, sets_property, may_set_all, changes_of_ex, changes_of_body, changes_of_stmts}

-- whether two changes are the same
abbrev pub same : Change → Change → Bool
same (sets_variable true a) (sets_variable true b) = bytes_eq a b
same (sets_variable false a) (sets_variable false b) = bytes_eq a b
same (sets_property a) (sets_property b) = bytes_eq a b
same may_set_all may_set_all = true
same a b = false

-- whether a change is among those of a list
unfoldable pub includes : List Change → Change → Bool
includes changes c = list_any (same c) changes

-- What code may change, and what its parts may: a plan tells it by the numbers of the parts that lead there.
abbrev pub Plan : Type 0
Plan = List ℕ → Change → Bool

abbrev pub no_change : Change → Bool
no_change c = false

-- of what is no loop, no block and no list of such
abbrev pub no_plan : Plan
no_plan path = no_change

-- these changes, and the plans of these parts, in order
abbrev pub plan : (Change → Bool) → List Plan → Plan
plan changes parts [] = changes
plan changes parts (i ∷ path) = get_or parts i no_plan path

-- what code with a plan may change
abbrev pub planned : Plan → Change → Bool
planned p = p []

-- the plan of a part
abbrev pub part_of : Plan → ℕ → Plan
part_of p i path = p (i ∷ path)

abbrev mutual
  pub plans_of_stmts : Stmts → List Plan
  plans_of_stmts no_stmt = []
  plans_of_stmts (more_stmt ss s) = plans_of_stmts ss ++ plan_of_stmt s ∷ []

  pub plan_of_stmt : Stmt → Plan
  plan_of_stmt (stmt f t form) = plan_of_form form

  -- an `if`: the plans of its branches, and of its last arm; a loop: what its test and its body may change, and the plan of its body
  pub plan_of_form : StmtForm → Plan
  plan_of_form (branches bs last) = plan no_change (plan no_change (plans_of_branches bs) ∷ plan_of_else last ∷ [])
  plan_of_form (loop e body) = plan (includes (changes_of_ex e ++ changes_of_body body)) (plan_of_body body ∷ [])
  plan_of_form (nested b) = plan_of_block b
  plan_of_form form = no_plan

  -- a block: what its statements may change, its own names among it still, and a plan of each
  pub plan_of_block : Block → Plan
  plan_of_block (block f t ss) = plan (includes (changes_of_stmts ss)) (plans_of_stmts ss)

  pub plan_of_body : Body → Plan
  plan_of_body (block_body b) = plan_of_block b
  plan_of_body (simple_body s) = no_plan

  pub plans_of_branches : Branches → List Plan
  plans_of_branches no_branch = []
  plans_of_branches (more_branch bs b) = plans_of_branches bs ++ plan_of_branch b ∷ []

  pub plan_of_branch : Branch → Plan
  plan_of_branch (branch f t e body) = plan_of_body body

  pub plan_of_else : Else → Plan
  plan_of_else no_else = no_plan
  plan_of_else (else_body body) = plan_of_body body

-- statements: what they may change, and a plan of each
abbrev pub plan_of_stmts : Stmts → Plan
plan_of_stmts ss = plan (includes (changes_of_stmts ss)) (plans_of_stmts ss)

-- the branches of an `if`: a plan of each
abbrev pub plan_of_branches : Branches → Plan
plan_of_branches bs = plan no_change (plans_of_branches bs)
