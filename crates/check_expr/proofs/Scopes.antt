-- Statements leave the depth of the scope as it is, and what the function around is to return.
use Rattle.std.proofs.Common.{◌≡◌, ℕ, Bool, true, false, cond, [], ◌∷◌, ◌++◌, Option, Some, None, refl, ap, ◌∙◌}
use Rattle.js_grammar.specs.Code.{Ex, Block, block, Stmts, no_stmt, more_stmt, stmt, StmtForm, declares, function_stmt, does, branches, loop, nested, declaration, simple, SimpleForm, return_bare, return_value, throw_value, break_loop, continue_loop, assign, evaluate, Body, block_body, simple_body, branch, Branches, no_branch, more_branch, Else, no_else, else_body}
use Rattle.type_values.specs.declared.types.FlowType.{FlowType}
use Rattle.type_values.specs.declared.types.FlowType as made
use Rattle.flow_facts.specs.Known.{Known}
use Rattle.typing.specs.States.{World, Out, Env, after, on_yes, now_of, with_now, asked_want, reach, stop_if_dead, returns}
use Rattle.typing.specs.Changes.{changes_of_ex, changes_of_body}
use Rattle.typing.specs.Statements.{loop_env}
use Rattle.typing.specs.Typing.{read, read_stmts, read_stmt, read_simple, read_branches, read_else, read_body, read_block}
use Rattle.check_expr.specs.Targets.{Aim, aim, assigned_to}
use Rattle.check_expr.proofs.Assigning.{assign_is}

-- the same depth, and the same result
pub record Keeps (old new : Env) : Type 0 where
  pub depth : new.scope.depth ≡ old.scope.depth
  pub result : new.scope.result ≡ old.scope.result

keeps_same : (e : Env) → Keeps e e
keeps_same e = record { depth = refl; result = refl }

pub keeps_twice : (a b c : Env) → Keeps a b → Keeps b c → Keeps a c
keeps_twice a b c first second = record { depth = second.depth ∙ first.depth; result = second.result ∙ first.result }

keeps_dead : (w : World) (f t : ℕ) (facts : Known) (e : Env) → Keeps e (stop_if_dead w f t facts e)
keeps_dead w f t None e = record { depth = refl; result = refl }
keeps_dead w f t (Some m) e = record { depth = refl; result = refl }

keeps_cond : (b : Bool) (e x : Env) → Keeps e x → Keeps e (cond b e x)
keeps_cond true e x is = keeps_same e
keeps_cond false e x is = is

keeps_reach : (w : World) (f t : ℕ) (e : Env) → Keeps e (reach w f t e)
keeps_reach w f t e = keeps_cond e.notes.stopped e (stop_if_dead w f t e.facts e) (keeps_dead w f t e.facts e)

keeps_returns : (t : FlowType) (e x : Env) → Keeps x e → Keeps x (returns t e)
keeps_returns t e x is = keeps_twice x e (returns t e) is (keeps_cond e.notes.stopped e (record e { returned = e.returned ++ t ∷ [] }) (record { depth = refl; result = refl }))

keeps_assigned : (w : World) (e : Ex) (o : Option Aim) (start : Env) → Keeps start (assigned_to w e o start)
keeps_assigned w e None start = keeps_same start
keeps_assigned w e (Some a) start = record { depth = refl; result = refl }

keeps_is : (a b c : Env) → Keeps a b → c ≡ b → Keeps a c
keeps_is a b c kept is = record { depth = ap (λ (e : Env). e.scope.depth) is ∙ kept.depth; result = ap (λ (e : Env). e.scope.result) is ∙ kept.result }

keeps_returned : (t : FlowType) (e : Env) → Keeps e (returns t e)
keeps_returned t e = keeps_returns t e e (keeps_same e)

simple_keeps : (w : World) (f t : ℕ) (form : SimpleForm) (e : Env) → Keeps e (read_simple w f t form e)
simple_keeps w f t return_bare e = record {
  depth = (keeps_returned made.Void (record e { notes = asked_want w f t e.scope.result made.Void e.notes })).depth;
  result = (keeps_returned made.Void (record e { notes = asked_want w f t e.scope.result made.Void e.notes })).result;
}
simple_keeps w f t (return_value v) e =
    let o : Out = read w v e.scope e.scope.result (now_of e) in
    record { depth = (keeps_returned o.ty (with_now (after o) e)).depth; result = (keeps_returned o.ty (with_now (after o) e)).result }
simple_keeps w f t (throw_value v) e = record { depth = refl; result = refl }
simple_keeps w f t break_loop e = record { depth = refl; result = refl }
simple_keeps w f t continue_loop e = record { depth = refl; result = refl }
simple_keeps w f t (evaluate v) e = record { depth = refl; result = refl }
simple_keeps w f t (assign target v) e = keeps_is e (assigned_to w v (aim w target e.scope (now_of e)) e) (read_simple w f t (assign target v) e) (keeps_assigned w v (aim w target e.scope (now_of e)) e) (assign_is w f t target v e)

mutual
  pub stmts_keep : (w : World) (ss : Stmts) (e : Env) → Keeps e (read_stmts w ss e)
  stmts_keep w no_stmt e = keeps_same e
  stmts_keep w (more_stmt ss (stmt f t form)) e =
      let first : Env = read_stmts w ss e in
      keeps_twice e (reach w f t first) (read_stmts w (more_stmt ss (stmt f t form)) e) (keeps_twice e first (reach w f t first) (stmts_keep w ss e) (keeps_reach w f t first)) (stmt_keeps w f t form (reach w f t first))

  stmt_keeps : (w : World) (f t : ℕ) (form : StmtForm) (e : Env) → Keeps e (read_stmt w f t form e)
  stmt_keeps w f t (declares (declaration df dt binder name annotation v)) e = record { depth = refl; result = refl }
  stmt_keeps w f t (function_stmt declared_by) e = record { depth = refl; result = refl }
  stmt_keeps w f t (does (simple sf st form)) e = simple_keeps w sf st form e
  stmt_keeps w f t (branches bs last) e =
      let k : Env = (read_branches w bs e).env in
      let kept : Keeps e (read_else w last k) = keeps_twice e k (read_else w last k) (branches_keep w bs e) (else_keeps w last k) in
      record { depth = kept.depth; result = kept.result }
  stmt_keeps w f t (loop v body) e =
      let start : Env = loop_env (changes_of_ex v ++ changes_of_body body) e in
      let test : Out = read w v e.scope None (now_of start) in
      let kept : Keeps (with_now (on_yes test) start) (read_body w body (with_now (on_yes test) start)) = body_keeps w body (with_now (on_yes test) start) in
      record { depth = kept.depth; result = kept.result }
  stmt_keeps w f t (nested b) e = block_keeps w b e

  branches_keep : (w : World) (bs : Branches) (e : Env) → Keeps e (read_branches w bs e).env
  branches_keep w no_branch e = keeps_same e
  branches_keep w (more_branch bs (branch f t v body)) e =
      let k : Env = (read_branches w bs e).env in
      let test : Out = read w v k.scope None (now_of k) in
      let kept : Keeps (with_now (on_yes test) k) (read_body w body (with_now (on_yes test) k)) = body_keeps w body (with_now (on_yes test) k) in
      let before : Keeps e k = branches_keep w bs e in
      record { depth = kept.depth ∙ before.depth; result = kept.result ∙ before.result }

  else_keeps : (w : World) (last : Else) (e : Env) → Keeps e (read_else w last e)
  else_keeps w no_else e = keeps_same e
  else_keeps w (else_body body) e = body_keeps w body e

  body_keeps : (w : World) (body : Body) (e : Env) → Keeps e (read_body w body e)
  body_keeps w (block_body b) e = block_keeps w b e
  body_keeps w (simple_body (simple f t form)) e = record { depth = refl; result = refl }

  block_keeps : (w : World) (b : Block) (e : Env) → Keeps e (read_block w b e)
  block_keeps w (block f t ss) e = record { depth = refl; result = refl }
