-- What a state stands for, and what it passes on.
use Rattle.std.specs.Prelude.{List, Option, Some, None}
use Rattle.type_values.specs.declared.types.FlowType.{FlowType}
use Rattle.flow_facts.specs.Known.{Known}
use Rattle.refine_flow.specs.Standing.{known}
use Rattle.refine_flow.specs.declared.facts.Facts.{Facts}
use Rattle.typing.specs.Names.{Scope}
use Rattle.typing.specs.States.{Now, Out, Env}
use Rattle.check_world.specs.View.{notes_view}
use Rattle.scopes.specs.View.{scope_view}
use Rattle.fact_ways.specs.Ways.{yes_of, no_of}
use Rattle.check_moves.specs.declared.state.Read.{Read}
use Rattle.check_moves.specs.declared.state.State.{State}

-- what reading an expression leaves as it was
pub record Around : Type 0 where
  pub scope : Scope
  pub returned : List FlowType
  pub breaks : Known

-- the join of the facts at each `break` of the loop around
abbrev pub broken_facts : Option Facts → Known
broken_facts None = None
broken_facts (Some f) = known f

unfoldable pub around : State → Around
around s = record { scope = scope_view s.scope; returned = s.returned; breaks = broken_facts s.breaks }

-- the names that are seen
abbrev pub scope : State → Scope
scope s = (around s).scope

-- what an expression is read from
unfoldable pub now : State → Now
now s = record { facts = known s.facts; notes = notes_view s.notes }

-- between statements
abbrev pub env : State → Env
env s = record {
  scope = (around s).scope;
  facts = (now s).facts;
  notes = (now s).notes;
  returned = (around s).returned;
  breaks = (around s).breaks;
}

-- what a call gave, with the state that it left
unfoldable pub told : Read → State → Out
told r s = record { ty = r.ty; yes = yes_of r.fork s.facts; no = no_of r.fork s.facts; notes = notes_view s.notes }
