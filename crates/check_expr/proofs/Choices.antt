-- One more arm of a conditional or of an `if` was read, and one more statement.
use Rattle.std.proofs.Common.{◌≡◌, ℕ, ◌+◌, ◌<◌, ◌≤◌, List, [], ◌∷◌, ◌++◌, map, reverse, length, take, get_or, Some, None, refl, sym, ap, ◌∙◌, subst}
use Rattle.std.proofs.lemmas.List.{reverse-append}
use Rattle.js_grammar.specs.Code as g
use Rattle.js_grammar.specs.Code.{Ex, Body, Arms, no_arm, more_arm, Branches, more_branch, Stmts, no_stmt, more_stmt}
use Rattle.code_tree.specs.Steps.{stmts_from}
use Rattle.code_tree.specs.View.{expr_view, body_view, arm_view, arms_view, branch_view, branches_view, statement_view, statements_view, statement_form_view}
use Rattle.code_tree.specs.declared.types.Arm.{Arm}
use Rattle.code_tree.specs.declared.types.Branch.{Branch, out-Branch}
use Rattle.code_tree.specs.declared.types.Statement.{Statement, out-Statement}
use Rattle.flow_facts.specs.Known.{Known, joined}
use Rattle.refine_flow.specs.declared.facts.Facts.{Facts}
use Rattle.typing.specs.Names.{Scope}
use Rattle.typing.specs.Forms as forms
use Rattle.typing.specs.Forms.{Choices}
use Rattle.typing.specs.Statements as statements
use Rattle.typing.specs.Statements.{forked}
use Rattle.typing.specs.States.{World, Want, Now, Out, Env, on_yes, now_of, with_now, reach}
use Rattle.typing.specs.Typing.{read, read_body, read_arms, read_branches, read_stmt, read_stmts}
use Rattle.fact_ways.specs.declared.fork.Fork.{Fork}
use Rattle.fact_ways.specs.Ways.{outermost, way_of, ways_of, all_joined}
use Rattle.fact_ways.proofs.Joins.{all_joined_last}
use Rattle.fact_ways.proofs.Marks.{goes_through}
use Rattle.fact_ways.proofs.Nests.{nested_on, ways_on, outermost_on}
use Rattle.check_moves.specs.declared.state.State.{State}
use Rattle.expression_moves.specs.declared.branches.Chosen.{Chosen}
use Rattle.check_moves.specs.View.{around, scope, now, env}
use Rattle.check_moves.specs.Follows.{Follows, Leaves}
use Rattle.expression_moves.specs.Moves.{chosen_view}
use Rattle.check_moves.proofs.Following.{heights_twice, leaves_nothing, follows_nothing, follows_through}
use Rattle.binders.proofs.InOrder.{more_from}
use Rattle.check_expr.proofs.Lists.{arms_more, arms_none, arms_all, branches_more, branches_none, branches_all, stmts_all}
use Rattle.check_expr.proofs.Loops.{ArmsRead, BranchesRead, StatementsRead}
use Rattle.check_expr.proofs.Views.{branch_is, statement_is}

-- ---- ways that left

-- one more leaves behind those that left
leaves_again : (a : State) (ks : List Fork) (k : Fork) (b c : State) → Leaves a ks None b → Leaves b (k ∷ []) None c → Leaves a (k ∷ ks) None c
leaves_again a ks k b c before next = record {
  nested = (next.nested.0, nested_on ks None (Some k) b.facts c.facts next.goes before.nested);
  fits = tt;
  goes = goes_through None (outermost ks None) (outermost ks (Some k)) a.facts b.facts c.facts before.goes (outermost_on ks None (Some k) b.facts c.facts next.goes before.nested);
  heights = heights_twice a.scope b.scope c.scope before.heights next.heights;
}

ways_again : (a : State) (ks : List Fork) (k : Fork) (b c : State) → Leaves a ks None b → Leaves b (k ∷ []) None c → ways_of c.facts ks ≡ ways_of b.facts ks
ways_again a ks k b c before next = ways_on ks None (Some k) b.facts c.facts next.goes before.nested

reverse_one : {A : Type 0} (xs : List A) (x : A) → reverse (xs ++ x ∷ []) ≡ x ∷ reverse xs
reverse_one xs x = reverse-append xs (x ∷ [])

-- ---- arms of conditionals

pub chosen_again : (b c : Facts) (ks : List Chosen) → ways_of c (map (λ (c : Chosen). c.fork) ks) ≡ ways_of b (map (λ (c : Chosen). c.fork) ks) → map (chosen_view c) ks ≡ map (chosen_view b) ks
chosen_again b c [] same = refl
chosen_again b c (k ∷ ks) same = again (heads same) (chosen_again b c ks (tails same))
  where
    heads : ways_of c (map (λ (c : Chosen). c.fork) (k ∷ ks)) ≡ ways_of b (map (λ (c : Chosen). c.fork) (k ∷ ks)) → way_of c k.fork ≡ way_of b k.fork
    heads is = cc

    tails : ways_of c (map (λ (c : Chosen). c.fork) (k ∷ ks)) ≡ ways_of b (map (λ (c : Chosen). c.fork) (k ∷ ks)) → ways_of c (map (λ (c : Chosen). c.fork) ks) ≡ ways_of b (map (λ (c : Chosen). c.fork) ks)
    tails is = cc

    again : way_of c k.fork ≡ way_of b k.fork → map (chosen_view c) ks ≡ map (chosen_view b) ks → map (chosen_view c) (k ∷ ks) ≡ map (chosen_view b) (k ∷ ks)
    again first rest = λ i. record { first = k.first; ty = k.ty; facts = first i } ∷ rest i

arms_step : (w : World) (arms : Arms) (x : g.Arm) (s : Scope) (want : Want) (start : Now) →
    read_arms w (more_arm arms x) s want start ≡ record { chosen = (read_arms w arms s want start).chosen ++ (read_arms w (more_arm no_arm x) s want (read_arms w arms s want start).now).chosen; now = (read_arms w (more_arm no_arm x) s want (read_arms w arms s want start).now).now }
arms_step w arms (g.arm f t test chosen) s want start = refl

pub arms_begin : (w : World) (xs : List Arm) (want : Want) (a : State) (chosen : List Chosen) → chosen ≡ [] → ArmsRead w (arms_view (take 0 xs)) want a chosen a
arms_begin w xs want a chosen none = record {
  read = ap (λ (arms : Arms). (read_arms w arms (scope a) want (now a)).now) (sym (arms_none xs));
  chosen = ap (λ (cs : List Chosen). map (chosen_view a.facts) (reverse cs)) none ∙ ap (λ (arms : Arms). reverse (read_arms w arms (scope a) want (now a)).chosen) (sym (arms_none xs));
  same = refl;
  leaves = subst (λ (cs : List Chosen). Leaves a (map (λ (c : Chosen). c.fork) (reverse cs)) None a) (sym none) (leaves_nothing a);
}

pub arms_next : (w : World) (xs : List Arm) (i : ℕ) (x : Arm) (want : Want) (a b c : State) (chosen more : List Chosen) (k : Chosen) →
    i < length xs → x ≡ get_or xs i x → ArmsRead w (arms_view (take i xs)) want a chosen b →
    now c ≡ (read_arms w (more_arm no_arm (arm_view x)) (scope b) want (now b)).now → chosen_view c.facts k ∷ [] ≡ (read_arms w (more_arm no_arm (arm_view x)) (scope b) want (now b)).chosen →
    around c ≡ around b → Leaves b (k.fork ∷ []) None c → more ≡ chosen ++ k ∷ [] → ArmsRead w (arms_view (take (i + 1) xs)) want a more c
arms_next w xs i x want a b c chosen more k within at before is one same left adds =
    let arms : Arms = arms_view (take i xs) in
    let so_far : Choices = read_arms w arms (scope a) want (now a) in
    let single : read_arms w (more_arm no_arm (arm_view x)) (scope b) want (now b) ≡ read_arms w (more_arm no_arm (arm_view x)) (scope a) want so_far.now =
    λ j. read_arms w (more_arm no_arm (arm_view x)) (before.same j).scope want (before.read j) in
    let all : read_arms w (arms_view (take (i + 1) xs)) (scope a) want (now a) ≡ record { chosen = so_far.chosen ++ (read_arms w (more_arm no_arm (arm_view x)) (scope a) want so_far.now).chosen; now = (read_arms w (more_arm no_arm (arm_view x)) (scope a) want so_far.now).now } =
    ap (λ (arms : Arms). read_arms w arms (scope a) want (now a)) (arms_more xs i x within at) ∙ arms_step w arms (arm_view x) (scope a) want (now a) in
    let turned : reverse more ≡ k ∷ reverse chosen = ap reverse adds ∙ reverse_one chosen k in
    let kept : map (chosen_view c.facts) (reverse chosen) ≡ map (chosen_view b.facts) (reverse chosen) =
    chosen_again b.facts c.facts (reverse chosen) (ways_again a (map (λ (c : Chosen). c.fork) (reverse chosen)) k.fork b c before.leaves left) in
    let last : chosen_view c.facts k ∷ [] ≡ (read_arms w (more_arm no_arm (arm_view x)) (scope a) want so_far.now).chosen = one ∙ ap (λ (n : Choices). n.chosen) single in
    record {
      read = is ∙ ap (λ (n : Choices). n.now) single ∙ sym (ap (λ (n : Choices). n.now) all);
      chosen = ap (map (chosen_view c.facts)) turned
          ∙ (λ j. chosen_view c.facts k ∷ (kept ∙ before.chosen) j)
          ∙ sym (reverse_one so_far.chosen (chosen_view c.facts k))
          ∙ ap (λ (l : List forms.Chosen). reverse (so_far.chosen ++ l)) last
          ∙ sym (ap (λ (n : Choices). reverse n.chosen) all);
      same = same ∙ before.same;
      leaves = subst (λ (cs : List Chosen). Leaves a (map (λ (c : Chosen). c.fork) cs) None c) (sym turned) (leaves_again a (map (λ (c : Chosen). c.fork) (reverse chosen)) k.fork b c before.leaves left);
    }

pub arms_now : (w : World) (xs : List Arm) (i : ℕ) (want : Want) (a b : State) (chosen : List Chosen) → length xs ≤ i → ArmsRead w (arms_view (take i xs)) want a chosen b →
    now b ≡ (read_arms w (arms_view xs) (scope a) want (now a)).now
arms_now w xs i want a b chosen long read = read.read ∙ ap (λ (arms : Arms). (read_arms w arms (scope a) want (now a)).now) (arms_all xs i long)

pub arms_chosen : (w : World) (xs : List Arm) (i : ℕ) (want : Want) (a b : State) (chosen : List Chosen) → length xs ≤ i → ArmsRead w (arms_view (take i xs)) want a chosen b →
    map (chosen_view b.facts) (reverse chosen) ≡ reverse (read_arms w (arms_view xs) (scope a) want (now a)).chosen
arms_chosen w xs i want a b chosen long read = read.chosen ∙ ap (λ (arms : Arms). reverse (read_arms w arms (scope a) want (now a)).chosen) (arms_all xs i long)

-- ---- arms of `if`

none_last : (f : Known) → joined f None ≡ f
none_last None = refl
none_last (Some m) = refl

branches_step : (w : World) (bs : Branches) (x : Branch) (start : Env) →
    read_branches w (more_branch bs (branch_view x)) start ≡
    forked (read_branches w bs start) (read w (expr_view (out-Branch x).test) (read_branches w bs start).env.scope None (now_of (read_branches w bs start).env))
    (read_body w (body_view (out-Branch x).body) (with_now (on_yes (read w (expr_view (out-Branch x).test) (read_branches w bs start).env.scope None (now_of (read_branches w bs start).env))) (read_branches w bs start).env))
branches_step w bs x start = ap (λ (v : g.Branch). read_branches w (more_branch bs v) start) (branch_is x)

pub branches_begin : (w : World) (xs : List Branch) (a : State) (arms : List Fork) → arms ≡ [] → BranchesRead w (branches_view (take 0 xs)) a arms a
branches_begin w xs a arms none = record {
  read = ap (λ (bs : Branches). (read_branches w bs (env a)).env) (sym (branches_none xs));
  arms = ap (λ (ks : List Fork). all_joined (ways_of a.facts (reverse ks)) None) none ∙ ap (λ (bs : Branches). (read_branches w bs (env a)).arms) (sym (branches_none xs));
  leaves = subst (λ (ks : List Fork). Leaves a (reverse ks) None a) (sym none) (leaves_nothing a);
}

-- a test that is read between statements, and its body
abbrev pub tested : World → Ex → Env → Out
tested w e start = read w e start.scope None (now_of start)

abbrev pub body_after : World → Ex → Body → Env → Env
body_after w e body start = read_body w body (with_now (on_yes (tested w e start)) start)

pub branches_next : (w : World) (xs : List Branch) (i : ℕ) (x : Branch) (a b c : State) (arms more : List Fork) (k : Fork) →
    i < length xs → x ≡ get_or xs i x → BranchesRead w (branches_view (take i xs)) a arms b →
    ((so_far : Known) → env c ≡ (forked (record { env = env b; arms = so_far }) (tested w (expr_view (out-Branch x).test) (env b)) (body_after w (expr_view (out-Branch x).test) (body_view (out-Branch x).body) (env b))).env) →
    way_of c.facts k ≡ (body_after w (expr_view (out-Branch x).test) (body_view (out-Branch x).body) (env b)).facts →
    Leaves b (k ∷ []) None c → more ≡ arms ++ k ∷ [] → BranchesRead w (branches_view (take (i + 1) xs)) a more c
branches_next w xs i x a b c arms more k within at before is way left adds =
    let bs : Branches = branches_view (take i xs) in
    let so_far : statements.Fork = read_branches w bs (env a) in
    let test : Ex = expr_view (out-Branch x).test in
    let body : Body = body_view (out-Branch x).body in
    let all : read_branches w (branches_view (take (i + 1) xs)) (env a) ≡ forked so_far (tested w test so_far.env) (body_after w test body so_far.env) =
    ap (λ (bs : Branches). read_branches w bs (env a)) (branches_more xs i x within at) ∙ branches_step w bs x (env a) in
    let turned : reverse more ≡ k ∷ reverse arms = ap reverse adds ∙ reverse_one arms k in
    let kept : ways_of c.facts (reverse arms) ≡ ways_of b.facts (reverse arms) = ways_again a (reverse arms) k b c before.leaves left in
    record {
      read = is so_far.arms
          ∙ (λ j. (forked (record { env = before.read j; arms = so_far.arms }) (tested w test (before.read j)) (body_after w test body (before.read j))).env)
          ∙ sym (ap (λ (f : statements.Fork). f.env) all);
      arms = ap (λ (ks : List Fork). all_joined (ways_of c.facts ks) None) turned
          ∙ (λ j. all_joined (kept j) (none_last (way_of c.facts k) j))
          ∙ sym (all_joined_last (ways_of b.facts (reverse arms)) None (way_of c.facts k))
          ∙ (λ j. joined (before.arms j) ((way ∙ ap (λ (e : Env). (body_after w test body e).facts) before.read) j))
          ∙ sym (ap (λ (f : statements.Fork). f.arms) all);
      leaves = subst (λ (ks : List Fork). Leaves a ks None c) (sym turned) (leaves_again a (reverse arms) k b c before.leaves left);
    }

pub branches_env : (w : World) (xs : List Branch) (i : ℕ) (a b : State) (arms : List Fork) → length xs ≤ i → BranchesRead w (branches_view (take i xs)) a arms b → env b ≡ (read_branches w (branches_view xs) (env a)).env
branches_env w xs i a b arms long read = read.read ∙ ap (λ (bs : Branches). (read_branches w bs (env a)).env) (branches_all xs i long)

pub branches_arms : (w : World) (xs : List Branch) (i : ℕ) (a b : State) (arms : List Fork) → length xs ≤ i → BranchesRead w (branches_view (take i xs)) a arms b →
    all_joined (ways_of b.facts (reverse arms)) None ≡ (read_branches w (branches_view xs) (env a)).arms
branches_arms w xs i a b arms long read = read.arms ∙ ap (λ (bs : Branches). (read_branches w bs (env a)).arms) (branches_all xs i long)

-- ---- statements

stmts_more : (xs : List Statement) (i : ℕ) (x : Statement) → i < length xs → x ≡ get_or xs i x → statements_view (take (i + 1) xs) ≡ more_stmt (statements_view (take i xs)) (statement_view x)
unfolding statements_view
stmts_more xs i x within at = more_from statement_view more_stmt stmts_from (λ l. refl) (λ l v vs. refl) no_stmt xs i x within at

stmts_none : (xs : List Statement) → statements_view (take 0 xs) ≡ no_stmt
unfolding statements_view
stmts_none xs = refl

stmts_step : (w : World) (ss : Stmts) (x : Statement) (start : Env) →
    read_stmts w (more_stmt ss (statement_view x)) start ≡
    read_stmt w (out-Statement x).first (out-Statement x).end (statement_form_view (out-Statement x).form) (reach w (out-Statement x).first (out-Statement x).end (read_stmts w ss start))
stmts_step w ss x start = ap (λ (v : g.Stmt). read_stmts w (more_stmt ss v) start) (statement_is x)

pub statements_begin : (w : World) (xs : List Statement) (a : State) → StatementsRead w (statements_view (take 0 xs)) a a
statements_begin w xs a = record { read = ap (λ (ss : Stmts). read_stmts w ss (env a)) (sym (stmts_none xs)); follows = follows_nothing a a refl refl }

pub statements_next : (w : World) (xs : List Statement) (i : ℕ) (x : Statement) (a b c d : State) → i < length xs → x ≡ get_or xs i x → StatementsRead w (statements_view (take i xs)) a b →
    env c ≡ reach w (out-Statement x).first (out-Statement x).end (env b) → Follows None b None c →
    env d ≡ read_stmt w (out-Statement x).first (out-Statement x).end (statement_form_view (out-Statement x).form) (env c) → Follows None c None d → StatementsRead w (statements_view (take (i + 1) xs)) a d
statements_next w xs i x a b c d within at before reached goes is ends = record {
  read = is
      ∙ ap (read_stmt w (out-Statement x).first (out-Statement x).end (statement_form_view (out-Statement x).form)) (reached ∙ ap (reach w (out-Statement x).first (out-Statement x).end) before.read)
      ∙ sym (stmts_step w (statements_view (take i xs)) x (env a))
      ∙ ap (λ (ss : Stmts). read_stmts w ss (env a)) (sym (stmts_more xs i x within at));
  follows = follows_through None None None a c d (follows_through None None None a b c before.follows goes) ends;
}

pub statements_all : (w : World) (xs : List Statement) (i : ℕ) (a b : State) → length xs ≤ i → StatementsRead w (statements_view (take i xs)) a b → env b ≡ read_stmts w (statements_view xs) (env a)
statements_all w xs i a b long read = read.read ∙ ap (λ (ss : Stmts). read_stmts w ss (env a)) (stmts_all xs i long)
