-- What is read behind a `break`, with the facts there put in front.
use Rattle.std.proofs.Common.{◌≡◌, ℕ, suc, Bool, true, false, cond, [], ◌∷◌, ◌++◌, Some, None, refl, ap, ◌∙◌}
use Rattle.js_grammar.specs.Code.{Ex, ex, variable, number, text, truth_value, null_value, parens, elements, fields, function_ex, postfixed, prefixed, chain, arrow, no_link, more_link, link, member, index, call, Block, block, Stmts, no_stmt, more_stmt, stmt, StmtForm, declares, function_stmt, does, branches, loop, nested, declaration, simple, SimpleForm, return_bare, return_value, throw_value, break_loop, continue_loop, assign, evaluate, Body, block_body, simple_body, branch, Branches, no_branch, more_branch, Else, no_else, else_body}
use Rattle.js_grammar.specs.Code as code
use Rattle.type_values.specs.declared.types.FlowType.{FlowType}
use Rattle.type_values.specs.declared.types.FlowType as made
use Rattle.flow_facts.specs.Known.{Known}
use Rattle.typing.specs.States.{World, Out, Env, after, on_yes, now_of, with_now, asked_want, reach, stop_if_dead, returns, dead, leave}
use Rattle.typing.specs.Statements.{Fork, forked, merged}
use Rattle.typing.specs.Changes.{changes_of_stmts}
use Rattle.typing.specs.Functions.{enter_block}
use Rattle.typing.specs.Typing.{read, read_stmts, read_stmt, read_simple, read_branches, read_else, read_body, read_block}
use Rattle.fact_ways.proofs.Joins.{joined_twice}
use Rattle.typing_laws.specs.Breaks.{left_before, BreaksOnlyJoin}

stopped_before : (w : World) (f t : ℕ) (known facts : Known) (env : Env) → stop_if_dead w f t known (left_before facts env) ≡ left_before facts (stop_if_dead w f t known env)
stopped_before w f t None facts env = refl
stopped_before w f t (Some m) facts env = refl

cond_before : (b : Bool) (facts : Known) (x y : Env) → cond b (left_before facts x) (left_before facts y) ≡ left_before facts (cond b x y)
cond_before true facts x y = refl
cond_before false facts x y = refl

reach_before : (w : World) (f t : ℕ) (facts : Known) (env : Env) → reach w f t (left_before facts env) ≡ left_before facts (reach w f t env)
reach_before w f t facts env =
    ap (λ (x : Env). cond env.notes.stopped (left_before facts env) x) (stopped_before w f t env.facts facts env) ∙ cond_before env.notes.stopped facts env (stop_if_dead w f t env.facts env)

returns_before : (t : FlowType) (facts : Known) (env : Env) → returns t (left_before facts env) ≡ left_before facts (returns t env)
returns_before t facts env = cond_before env.notes.stopped facts env (record env { returned = env.returned ++ t ∷ [] })

-- the targets of assignments: a variable, a property, an element, and what is no target
assigned_before : (w : World) (f t : ℕ) (target v : Ex) (facts : Known) (env : Env) → read_simple w f t (assign target v) (left_before facts env) ≡ left_before facts (read_simple w f t (assign target v) env)
assigned_before w f t (ex tf tt (variable name)) v facts env = refl
assigned_before w f t (ex tf tt (number digits)) v facts env = refl
assigned_before w f t (ex tf tt (text s)) v facts env = refl
assigned_before w f t (ex tf tt (truth_value b)) v facts env = refl
assigned_before w f t (ex tf tt null_value) v facts env = refl
assigned_before w f t (ex tf tt (parens e)) v facts env = refl
assigned_before w f t (ex tf tt (elements es comma)) v facts env = refl
assigned_before w f t (ex tf tt (fields fs comma)) v facts env = refl
assigned_before w f t (ex tf tt (function_ex made_by)) v facts env = refl
assigned_before w f t (ex tf tt (postfixed base no_link)) v facts env = refl
assigned_before w f t (ex tf tt (postfixed base (more_link ls (link at end (member key))))) v facts env = refl
assigned_before w f t (ex tf tt (postfixed base (more_link ls (link at end (index i))))) v facts env = refl
assigned_before w f t (ex tf tt (postfixed base (more_link ls (link at end (call es comma))))) v facts env = refl
assigned_before w f t (ex tf tt (prefixed marks e)) v facts env = refl
assigned_before w f t (ex tf tt (chain level e os)) v facts env = refl
assigned_before w f t (ex tf tt (code.cond arms e)) v facts env = refl
assigned_before w f t (ex tf tt (arrow s body)) v facts env = refl

simple_before : (w : World) (f t : ℕ) (form : SimpleForm) (facts : Known) (env : Env) → read_simple w f t form (left_before facts env) ≡ left_before facts (read_simple w f t form env)
simple_before w f t return_bare facts env = ap dead (returns_before made.Void facts (record env { notes = asked_want w f t env.scope.result made.Void env.notes }))
simple_before w f t (return_value v) facts env =
    let o : Out = read w v env.scope env.scope.result (now_of env) in ap dead (returns_before o.ty facts (with_now (after o) env))
simple_before w f t (throw_value v) facts env = refl
simple_before w f t break_loop facts env = ap (λ (breaks : Known). dead (record env { breaks = breaks })) (joined_twice facts env.breaks env.facts)
simple_before w f t continue_loop facts env = refl
simple_before w f t (evaluate v) facts env = refl
simple_before w f t (assign target v) facts env = assigned_before w f t target v facts env

-- the arms of an `if`, and what is read where each test is falsy
abbrev fork_before : Known → Fork → Fork
fork_before facts k = record k { env = left_before facts k.env }

mutual
  statements_before : (w : World) (ss : Stmts) (facts : Known) (env : Env) → read_stmts w ss (left_before facts env) ≡ left_before facts (read_stmts w ss env)
  statements_before w no_stmt facts env = refl
  statements_before w (more_stmt ss (stmt f t form)) facts env =
      ap (λ (e : Env). read_stmt w f t form (reach w f t e)) (statements_before w ss facts env) ∙ ap (read_stmt w f t form) (reach_before w f t facts (read_stmts w ss env))
      ∙ statement_before w f t form facts (reach w f t (read_stmts w ss env))

  statement_before : (w : World) (f t : ℕ) (form : StmtForm) (facts : Known) (env : Env) → read_stmt w f t form (left_before facts env) ≡ left_before facts (read_stmt w f t form env)
  statement_before w f t (declares (declaration df dt binder name annotation v)) facts env = refl
  statement_before w f t (function_stmt declared_by) facts env = refl
  statement_before w f t (does (simple sf st form)) facts env = simple_before w sf st form facts env
  statement_before w f t (branches bs last) facts env =
      let k : Fork = read_branches w bs env in
      ap (λ (x : Fork). merged x.arms (read_else w last x.env)) (branches_before w bs facts env) ∙ ap (merged k.arms) (else_before w last facts k.env)
  statement_before w f t (loop v body) facts env = refl
  statement_before w f t (nested b) facts env = block_before w b facts env

  branches_before : (w : World) (bs : Branches) (facts : Known) (env : Env) → read_branches w bs (left_before facts env) ≡ fork_before facts (read_branches w bs env)
  branches_before w no_branch facts env = refl
  branches_before w (more_branch bs (branch f t v body)) facts env =
      let k : Fork = read_branches w bs env in
      let test : Out = read w v k.env.scope None (now_of k.env) in
      ap (λ (x : Fork). let o = read w v x.env.scope None (now_of x.env) in forked x o (read_body w body (with_now (on_yes o) x.env))) (branches_before w bs facts env)
      ∙ ap (λ (e : Env). forked (fork_before facts k) test e) (body_before w body facts (with_now (on_yes test) k.env))

  else_before : (w : World) (last : Else) (facts : Known) (env : Env) → read_else w last (left_before facts env) ≡ left_before facts (read_else w last env)
  else_before w no_else facts env = refl
  else_before w (else_body body) facts env = body_before w body facts env

  body_before : (w : World) (body : Body) (facts : Known) (env : Env) → read_body w body (left_before facts env) ≡ left_before facts (read_body w body env)
  body_before w (block_body b) facts env = block_before w b facts env
  body_before w (simple_body (simple f t form)) facts env =
      ap (λ (e : Env). leave env (read_simple w f t form e)) (reach_before w f (suc t) facts env) ∙ ap (leave env) (simple_before w f t form facts (reach w f (suc t) env))

  block_before : (w : World) (b : Block) (facts : Known) (env : Env) → read_block w b (left_before facts env) ≡ left_before facts (read_block w b env)
  block_before w (block f t ss) facts env = ap (leave env) (statements_before w ss facts (enter_block w (changes_of_stmts ss) ss env))

pub breaks_only_join : BreaksOnlyJoin
breaks_only_join = record { statements = statements_before; statement = statement_before; block = block_before; body = body_before }
