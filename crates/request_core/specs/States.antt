-- What a module's source says by itself and which modules it finds, as a state of the heap holds it.
use Rattle.std.specs.Prelude.{◌≡◌, true, ℕ, List, Option, Some, None}
use Rattle.std.specs.Option.{is_some}
use Rattle.check_values.specs.declared.root.RootRow.{RootRow}
use Rattle.check_values.specs.declared.signatures.Deps.{Deps}
use Rattle.place_analyst.specs.source_front.specs.declared.parse.Parse.{Parse}
use Rattle.heap_answers.specs.payloads.specs.Entities.{parse_entity, deps_entity}
use Rattle.heap_answers.specs.payloads.specs.declared.payload.Payload.{Payload}
use Rattle.heap_answers.specs.payloads.specs.declared.payload.Payload.TheVariants as payload
use Rattle.heap_answers.specs.States.{there}

abbrev pub parse_of : Payload → Option Parse
parse_of (payload.Parse parse) = Some parse
parse_of other = None

abbrev pub deps_of : Payload → Option Deps
deps_of (payload.Deps deps) = Some deps
deps_of other = None

abbrev pub parse_at : List Payload → ℕ → Option Parse
parse_at state row = there parse_of None state (parse_entity row)

abbrev pub deps_at : List Payload → ℕ → Option Deps
deps_at state row = there deps_of None state (deps_entity row)

-- both are there for the module of a row
pub record IsRead (state : List Payload) (m : RootRow) : Type 0 where
  pub parse : is_some (parse_at state m.row) ≡ true
  pub deps : is_some (deps_at state m.row) ≡ true
