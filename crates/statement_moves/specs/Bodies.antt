-- Functions and blocks, before and after their statements.
use Rattle.std.specs.Prelude.{◌≡◌, ◌++◌, Bool, List, Option}
use Rattle.js_grammar.specs.Code.{Sig, Stmts}
use Rattle.typing.specs.Names.{Binding}
use Rattle.typing.specs.Changes.{Change}
use Rattle.typing.specs.States.{World, Env}
use Rattle.typing.specs.Functions.{none_bound, bind_sig, bind_stmts, sig_read, result_of}
use Rattle.scopes.specs.View.{IsTop, KeepsHeights}
use Rattle.check_moves.specs.View.{now}
use Rattle.check_moves.specs.declared.state.State.{State}
use Rattle.statement_moves.specs.Outside.{function_env}
use Rattle.statement_moves.specs.declared.bodies.Outer.{Outer}

-- a function is entered, and its signature is read
abbrev pub entered_env : World → Option Binding → Bool → Sig → Env → Env
entered_env w own keeps s env = record (function_env own keeps (result_of w s) env) { notes = sig_read w s env.notes }

-- the names of its body are bound
abbrev pub bound_env : World → List Change → Sig → Stmts → Env → Env
bound_env w changes s ss env =
    let bound = bind_stmts w env.scope.depth changes ss (bind_sig w env.scope.depth changes s (none_bound env.notes)) in
    record env { scope = record env.scope { names = bound.names ++ env.scope.names }; notes = bound.notes }

-- what stands around a block is that of a state before
pub record IsInside (o : Outer) (before s : State) : Type 0 where
  pub height : IsTop o.height before.scope
  pub heights : KeepsHeights before.scope s.scope
  pub stopped : o.stopped ≡ (now before).notes.stopped
  pub depth : s.scope.depth ≡ before.scope.depth
  pub result : s.scope.result ≡ before.scope.result
