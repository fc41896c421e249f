-- The rule of each form of a statement, on parts that were read.
use Rattle.std.specs.Prelude.{ℕ, suc, ◌==◌, ◌&&◌, Bool, true, false, List, [], ◌∷◌, fold, map, Option, Some, None, if◌then◌else◌}
use Rattle.std.specs.List.{filter_map, list_any}
use Rattle.js_grammar.specs.Code.{Binder, const, let_word, Ex, ex}
use Rattle.check_values.specs.Rows.{Bytes}
use Rattle.check_values.specs.declared.codes.Code.TheVariants.{ReassignConst}
use Rattle.check_values.specs.declared.faults.Fault.{Fault}
use Rattle.type_values.specs.declared.types.FlowType.{FlowType}
use Rattle.type_values.specs.declared.types.FlowType as made
use Rattle.type_terms.specs.Join.{widened}
use Rattle.flow_facts.specs.declared.place.Place.{Place}
use Rattle.flow_facts.specs.declared.place.Killed.{Killed}
use Rattle.flow_facts.specs.Known.{Known, joined, live, without, is_named, without_properties, variable_place, assigned, entered_loop}
use Rattle.typing.specs.Names.{Kind, shared, Binding, Scope, Meaning, variable_of, no_variable, is_constant, has_facts, number_at, is_const, declares_type, numbers_of}
use Rattle.typing.specs.Changes.{Change, variable_set, property_set, sets_all}
use Rattle.typing.specs.States.{World, Want, Notes, Out, Env, no_of, after, with_now, asked, asked_want, add_faults, name_fault, fault_at, returns, dead}
use Rattle.typing.specs.Members.{levels, Part, steps_type, steps_faults, property_read, property_written, index_written, target_of_prop, target_of_index, the_one}
use Rattle.type_terms.specs.Show.{brief}

-- the first token of an expression
abbrev pub first_of : Ex → ℕ
first_of (ex f t form) = f

-- the token behind its last
abbrev pub end_of : Ex → ℕ
end_of (ex f t form) = t

-- ---- assignments

-- what an assignment sets
pub data Target : Type 0 where
  set_nothing : Target
  -- a place of this declared type
  set_place : Place → FlowType → Target
  -- a property of this name, of what is no place
  set_property : Bytes → Target
  set_element : Target

-- the facts once a value of type t is assigned
abbrev pub target_set : World → Target → FlowType → Known → Known
target_set w set_nothing t facts = facts
target_set w (set_place p declared) t facts = live (assigned w.members w.below p declared t) facts
target_set w (set_property key) t facts = live (without (is_named key)) facts
target_set w set_element t facts = live without_properties facts

-- A target once its parts were read: the types that a value is read against, where there is one, or else asked to be below each;
-- the faults; and what is set.
pub record Goal : Type 0 where
  pub wants : List FlowType
  pub faults : List Fault
  pub target : Target

-- the one type that the value is read against
abbrev pub goal_want : Goal → Want
goal_want g = the_one g.wants

-- a value that was read plainly is asked to be below each of the types
abbrev pub asked_each : World → Ex → List FlowType → FlowType → Notes → Notes
asked_each w e (want ∷ []) ty notes = notes
asked_each w e wants ty notes = fold (λ so_far want. asked w (first_of e) (end_of e) want ty so_far) notes wants

-- the value was read
abbrev pub assigned_env : World → Ex → Goal → Out → Env → Env
assigned_env w e g v env =
    record env { facts = target_set w g.target v.ty (after v).facts; notes = add_faults g.faults (asked_each w e g.wants v.ty v.notes) }

-- a variable, at this token
abbrev pub variable_goal_of : World → ℕ → Bytes → Binding → FlowType → Goal
variable_goal_of w f name b declared =
    if is_constant b then record { wants = []; faults = fault_at w f (suc f) ReassignConst name ∷ []; target = set_nothing }
    else record {
      wants = declared ∷ [];
      faults = [];
      target = if has_facts b then set_place (variable_place b.number) declared else set_nothing;
    }

-- a name, at this token, that may mean no variable
abbrev pub variable_goal : World → ℕ → Bytes → Meaning → Goal
variable_goal w f name (no_variable code) = record { wants = []; faults = []; target = set_nothing }
variable_goal w f name (variable_of b declared) = variable_goal_of w f name b declared

-- a name that means no variable
abbrev pub variable_named : World → ℕ → Bytes → Meaning → Notes → Notes
variable_named w f name (no_variable code) notes = name_fault (fault_at w f (suc f) code name) notes
variable_named w f name (variable_of b declared) notes = notes

-- a property that is a place, or one of what is none
abbrev pub property_target : Bytes → FlowType → Option Place → Target
property_target key declared None = set_property key
property_target key declared (Some p) = set_place p declared

-- the property `.key` of an object that was read
abbrev pub property_goal : World → ℕ → ℕ → ℕ → Bytes → Option Place → Out → Goal
property_goal w f at t key place o =
    let part : Part = record { object_first = f; object_end = at; object_type = o.ty; first = suc at; end = t; details = key } in
    record {
      wants = filter_map (target_of_prop key) (levels w o.ty);
      faults = steps_faults (map (property_written w part key) (levels w o.ty));
      target = property_target key (steps_type (map (property_read w part key) (levels w o.ty))) place;
    }

-- the element `[i]` of an object, once the index was read
abbrev pub element_goal : World → ℕ → ℕ → Ex → Out → Out → Goal
element_goal w f at e o i =
    let part : Part = record { object_first = f; object_end = at; object_type = o.ty; first = first_of e; end = end_of e; details = brief i.ty } in
    record {
      wants = filter_map (target_of_index w i.ty) (levels w o.ty);
      faults = steps_faults (map (index_written w part i.ty) (levels w o.ty));
      target = set_element;
    }

-- ---- declarations

-- the type of a variable without annotation: a `let` widens that of its value
abbrev pub binder_type : Binder → FlowType → FlowType
binder_type const t = t
binder_type let_word t = widened t

abbrev pub is_shared_kind : Kind → Bool
is_shared_kind shared = true
is_shared_kind kind = false

-- whether a place is that of a variable without facts
abbrev pub is_shared : Scope → ℕ → Bool
is_shared scope number = list_any (λ b. b.number == number && is_shared_kind b.kind) scope.names

-- The declared type is the annotation, and the value is assigned to it; without it, it is the value's.
abbrev pub declared_facts : World → Scope → ℕ → Want → FlowType → Known → Known
declared_facts w scope number None t facts = facts
declared_facts w scope number (Some declared) t facts =
    if is_shared scope number then facts else live (assigned w.members w.below (variable_place number) declared t) facts

-- the annotation, or else by the value's type
abbrev pub declared_type : Binder → Want → FlowType → FlowType
declared_type binder None t = binder_type binder t
declared_type binder (Some declared) t = declared

-- the value of a declaration that begins at a token was read
abbrev pub declared_env : World → ℕ → Binder → Want → Out → Env → Env
declared_env w f binder annotation v env =
    record env {
      scope = declares_type (number_at (is_const binder) (suc f)) (declared_type binder annotation v.ty) env.scope;
      facts = declared_facts w env.scope (number_at (is_const binder) (suc f)) annotation v.ty (after v).facts;
      notes = v.notes;
    }

-- ---- `return` and `break`

-- a bare `return`, at these tokens
abbrev pub returned_bare : World → ℕ → ℕ → Env → Env
returned_bare w f t env =
    dead (returns made.Void (record env { notes = asked_want w f t env.scope.result made.Void env.notes }))

-- the value of a `return` was read
abbrev pub returned_value : Out → Env → Env
returned_value v env = dead (returns v.ty (with_now (after v) env))

-- a `break` leaves the loop around with its facts
abbrev pub broken : Env → Env
broken env = dead (record env { breaks = joined env.breaks env.facts })

-- ---- `if`

-- What the next test is read from, and the join of the facts after each arm so far.
pub record Fork : Type 0 where
  pub env : Env
  pub arms : Known

-- before the first arm
abbrev pub fork : Env → Fork
fork env = record { env = env; arms = None }

-- an arm was read behind its test
abbrev pub forked : Fork → Out → Env → Fork
forked k test arm = record { env = record arm { facts = no_of test }; arms = joined k.arms arm.facts }

-- the last arm, or what there is without it
abbrev pub merged : Known → Env → Env
merged arms last = record last { facts = joined arms last.facts }

-- ---- `while`

-- what a loop with these changes may change of the facts
abbrev pub killed_by : Scope → List Change → Killed
killed_by scope changes = record {
  bindings = numbers_of scope (filter_map variable_set changes);
  props = filter_map property_set changes;
  all_props = list_any sets_all changes;
}

-- before the test
abbrev pub loop_env : List Change → Env → Env
loop_env changes env = record env { facts = live (entered_loop (killed_by env.scope changes)) env.facts; breaks = None }

-- after the loop: where the test is falsy, and at each `break`
abbrev pub after_loop : Env → Out → Env → Env
after_loop outer test body = record body { facts = joined (no_of test) body.breaks; breaks = outer.breaks }
