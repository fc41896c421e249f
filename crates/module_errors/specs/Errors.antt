-- The errors of a module, and the type at a place of it.
use Rattle.std.specs.Prelude.{ℕ, ◌++◌, false, List, [], ◌∷◌, Option, Some, None}
use Rattle.flow_values.specs.declared.span.Span.{Span}
use Rattle.js_grammar.specs.Items.{Items, Module, module_of}
use Rattle.check_values.specs.FaultOrder.{faults_in_order}
use Rattle.check_values.specs.declared.codes.Code.{Code}
use Rattle.check_values.specs.declared.faults.Fault.{Fault}
use Rattle.type_values.specs.declared.types.FlowType.{FlowType}
use Rattle.local_signatures.specs.Faults.{signature_faults}
use Rattle.flow_facts.specs.Known.{no_facts}
use Rattle.typing.specs.Names.{prelude}
use Rattle.typing.specs.States.{World, Notes, Env, Seen}
use Rattle.typing.specs.Functions.{none_bound}
use Rattle.module_errors.specs.Program.{Program, world_of}
use Rattle.module_errors.specs.TopNames.{bind_items, changes_of_items, exportings_of, exported_twice}
use Rattle.module_errors.specs.Items.{read_items}

-- before anything is read
abbrev pub no_notes : Notes
no_notes = record { faults = []; watched = None; stopped = false }

-- before the first item: the module's names, and round them the prelude's
abbrev pub top_env : World → Program → Items → Env
top_env w p is =
    let bound = bind_items w p (changes_of_items is) is (none_bound no_notes) in
    record {
      scope = record { names = bound.names ++ prelude; depth = 0; result = None };
      facts = Some no_facts;
      notes = exported_twice w [] (exportings_of is) bound.notes;
      returned = [];
      breaks = None;
    }

-- the module once all its items were read
abbrev pub module_read : Program → Module → List Span → Option ℕ → Env
module_read p (module_of f t is) spans watch =
    let w = world_of p (module_of f t is) spans watch in
    read_items w p (module_of f t is) is (top_env w p is)

-- The errors of a module whose signature has these faults: the set of all its faults, in order.
abbrev pub errors_beside : List Fault → Program → Module → List Span → List Fault
errors_beside first p m spans = faults_in_order (first ++ (module_read p m spans None).notes.faults)

-- the errors of a module
abbrev pub module_errors : Program → Module → List Span → List Fault
module_errors p m spans = errors_beside (signature_faults m spans) p m spans

-- the one error of a source that has no tree, at a byte place
abbrev pub broken_errors : Code → ℕ → List Fault
broken_errors code place = record { span = record { start = place; end = place }; code = code; details = [] } ∷ []

-- the type of what was seen, if anything was
abbrev pub seen_type : Option Seen → Option FlowType
seen_type None = None
seen_type (Some seen) = Some seen.ty

-- The type at a byte place: that of the innermost expression that is read and covers it.
abbrev pub type_at_place : Program → Module → List Span → ℕ → Option FlowType
type_at_place p m spans place = seen_type (module_read p m spans (Some place)).notes.watched
