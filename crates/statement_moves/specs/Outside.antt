-- What stands around a function while its body is read.
use Rattle.std.specs.Prelude.{◌≡◌, suc, ◌++◌, Bool, [], Option, None}
use Rattle.std.specs.Option.{option_to_list}
use Rattle.type_values.specs.declared.types.FlowType.{FlowType}
use Rattle.refine_flow.specs.Standing.{EntersMark}
use Rattle.scopes.specs.View.{IsTop, KeepsHeights}
use Rattle.typing.specs.Names.{Binding}
use Rattle.typing.specs.States.{Env}
use Rattle.typing.specs.Functions.{kept_facts}
use Rattle.check_moves.specs.View.{now}
use Rattle.check_moves.specs.declared.state.State.{State}
use Rattle.statement_moves.specs.declared.functions.Outside.{Outside}

-- the names and the depth of a function that is entered
abbrev pub entered_env : Option Binding → Option FlowType → Env → Env
entered_env own output env = record env {
  scope = record { names = option_to_list own ++ env.scope.names; depth = suc env.scope.depth; result = output };
}

-- Before a function's own names are bound: it sees its own name, if it is an expression with one, and is to return a type.
abbrev pub function_env : Option Binding → Bool → Option FlowType → Env → Env
function_env own keeps output env = record env {
  scope = record { names = option_to_list own ++ env.scope.names; depth = suc env.scope.depth; result = output };
  facts = kept_facts keeps env.facts;
  returned = [];
  breaks = None;
}

-- what stands around a function is that of a state before, whose facts stand at the mark
pub record IsOutside (o : Outside) (before : State) (s : State) : Type 0 where
  pub heights : KeepsHeights before.scope s.scope
  pub marks : EntersMark o.mark before.facts s.facts
  pub height : IsTop o.height before.scope
  pub depth : o.depth ≡ before.scope.depth
  pub result : o.result ≡ before.scope.result
  pub returned : o.returned ≡ before.returned
  pub breaks : o.breaks ≡ before.breaks
  pub stopped : o.stopped ≡ (now before).notes.stopped
