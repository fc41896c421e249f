-- What reading gives, and what it passes on.
use Rattle.std.specs.Prelude.{ℕ, ◌-◌, ◌&&◌, nat_le, nat_lt, Bool, true, List, [], ◌∷◌, ◌++◌, fold, Option, Some, None, if◌then◌else◌, codes}
use Rattle.std.specs.List.{list_any}
use Rattle.std.specs.Ordering.{is_eq}
use Rattle.flow_values.specs.declared.span.Span.{Span}
use Rattle.check_values.specs.Rows.{Bytes}
use Rattle.check_values.specs.FaultOrder.{fault_cmp}
use Rattle.check_values.specs.declared.codes.Code.{Code}
use Rattle.check_values.specs.declared.codes.Code.TheVariants.{IncompatibleType, UnreachableCode}
use Rattle.check_values.specs.declared.faults.Fault.{Fault}
use Rattle.type_values.specs.declared.types.FlowType.{FlowType}
use Rattle.type_terms.specs.Show.{brief}
use Rattle.flow_facts.specs.declared.place.Place.{Place}
use Rattle.flow_facts.specs.declared.test.Test.{Test}
use Rattle.flow_facts.specs.Known.{Known, joined, live, narrowed_at}
use Rattle.local_signatures.specs.Faults.{span_over}
use Rattle.typing.specs.Names.{Scope}

-- what a name means as a type: a type, or a fault
pub data TypeMeaning : Type 0 where
  a_type : FlowType → TypeMeaning
  no_type_of : Code → TypeMeaning

-- What stands around a module's code: the members of a type and subtyping, as functions; the types of its imports and aliases by
-- their names; the span of each token; and the byte place that is watched, if there is one.
pub record World : Type 0 where
  pub members : FlowType → List FlowType
  pub below : FlowType → FlowType → Bool
  pub type_meaning : Bytes → TypeMeaning
  pub spans : List Span
  pub watch : Option ℕ

-- an expression that was read, and its type
pub record Seen : Type 0 where
  pub span : Span
  pub ty : FlowType

-- The faults so far, in the order of finding, each once; the innermost expression so far that covers the watched place; and whether
-- the code cannot be reached, so that its names alone count.
pub record Notes : Type 0 where
  pub faults : List Fault
  pub watched : Option Seen
  pub stopped : Bool

-- before an expression
pub record Now : Type 0 where
  pub facts : Known
  pub notes : Notes

-- What reading an expression gives: its type, the facts where it is truthy, those where it is falsy (None where they are the same),
-- and the notes.
pub record Out : Type 0 where
  pub ty : FlowType
  pub yes : Known
  pub no : Option Known
  pub notes : Notes

-- Between statements: the scope, the facts, the notes, the types that the function returned so far, and the join of the facts at
-- each `break` of the loop around.
pub record Env : Type 0 where
  pub scope : Scope
  pub facts : Known
  pub notes : Notes
  pub returned : List FlowType
  pub breaks : Known

-- the type that an expression is read against, if there is one
abbrev pub Want : Type 0
Want = Option FlowType

-- ---- facts

-- the facts where an expression is falsy
abbrev pub no_of : Out → Known
no_of o = elim o.no [ None ↦ o.yes | Some facts ↦ facts ]

-- the facts after an expression
abbrev pub after : Out → Now
after o = record { facts = joined o.yes (no_of o); notes = o.notes }

-- what follows where it is truthy
abbrev pub on_yes : Out → Now
on_yes o = record { facts = o.yes; notes = o.notes }

-- what follows where it is falsy
abbrev pub on_no : Out → Now
on_no o = record { facts = no_of o; notes = o.notes }

-- what an expression of the next statement is read from
abbrev pub now_of : Env → Now
now_of env = record { facts = env.facts; notes = env.notes }

-- after an expression of a statement
abbrev pub with_now : Now → Env → Env
with_now now env = record env { facts = now.facts; notes = now.notes }

-- a type, where the facts are the same for truthy and falsy
abbrev pub plainly : FlowType → Now → Out
plainly t now = record { ty = t; yes = now.facts; no = None; notes = now.notes }

abbrev pub change_facts : (Known → Known) → Now → Now
change_facts change now = record now { facts = change now.facts }

-- a place that has this type is narrowed by a test
abbrev pub assume : World → Test → Place → FlowType → Known → Known
assume w test place t facts = live (narrowed_at w.members test place t) facts

-- ---- notes

abbrev pub is_same_fault : Fault → Fault → Bool
is_same_fault a b = is_eq (fault_cmp a b)

-- a fault that stands already is not listed again
abbrev pub with_fault : List Fault → Fault → List Fault
with_fault faults fault = if list_any (is_same_fault fault) faults then faults else faults ++ fault ∷ []

-- the fault at the tokens from one number up to another
abbrev pub fault_at : World → ℕ → ℕ → Code → Bytes → Fault
fault_at w f t code details = record { span = span_over w.spans f t; code = code; details = details }

-- a fault of a name, in code that is reached or not
abbrev pub name_fault : Fault → Notes → Notes
name_fault fault notes = record notes { faults = with_fault notes.faults fault }

-- a fault of code that is reached
abbrev pub add_fault : Fault → Notes → Notes
add_fault fault notes = if notes.stopped then notes else name_fault fault notes

-- faults of code that is reached
abbrev pub add_faults : List Fault → Notes → Notes
add_faults faults notes = fold (λ so_far fault. add_fault fault so_far) notes faults

abbrev pub change_notes : (Notes → Notes) → Now → Now
change_notes change now = record now { notes = change now.notes }

-- two types as details
abbrev pub two_types : FlowType → FlowType → Bytes
two_types a b = brief a ++ (codes " " ++ brief b)

-- a type at these tokens is asked to be below another one
abbrev pub asked : World → ℕ → ℕ → FlowType → FlowType → Notes → Notes
asked w f t want ty notes = if w.below ty want then notes else add_fault (fault_at w f t IncompatibleType (two_types ty want)) notes

-- and to be below what it is read against, if that is told
abbrev pub asked_want : World → ℕ → ℕ → Want → FlowType → Notes → Notes
asked_want w f t None ty notes = notes
asked_want w f t (Some want) ty notes = asked w f t want ty notes

-- an expression that was read plainly, against a type
abbrev pub against : World → ℕ → ℕ → Want → Out → Out
against w f t want o = record o { notes = asked_want w f t want o.ty o.notes }

-- ---- what is watched

-- the place is that of a byte of the span
abbrev pub covers : Span → ℕ → Bool
covers span place = nat_le span.start place && nat_lt place span.end

-- the span is shorter than that of what was seen, if anything was
abbrev pub is_shorter : Span → Option Seen → Bool
is_shorter span None = true
is_shorter span (Some seen) = nat_lt (span.end - span.start) (seen.span.end - seen.span.start)

-- what is seen of the watched place, once this was read too
abbrev pub watched_with : Option ℕ → Seen → Option Seen → Option Seen
watched_with None seen before = before
watched_with (Some place) seen before = if covers seen.span place && is_shorter seen.span before then Some seen else before

-- the expression at these tokens was read and has this type
abbrev pub noted : World → ℕ → ℕ → FlowType → Notes → Notes
noted w f t ty notes =
    if notes.stopped then notes
    else record notes { watched = watched_with w.watch (record { span = span_over w.spans f t; ty = ty }) notes.watched }

-- what reading the expression at these tokens gives, with its type noted
abbrev pub noted_out : World → ℕ → ℕ → Out → Out
noted_out w f t o = record o { notes = noted w f t o.ty o.notes }

-- ---- what cannot be reached

-- nothing from the statement at these tokens on is reached
abbrev pub stop : World → ℕ → ℕ → Env → Env
stop w f t env = record env { notes = record (add_fault (fault_at w f t UnreachableCode []) env.notes) { stopped = true } }

-- and so where facts are dead
abbrev pub stop_if_dead : World → ℕ → ℕ → Known → Env → Env
stop_if_dead w f t None env = stop w f t env
stop_if_dead w f t (Some facts) env = env

-- Before a statement at these tokens: where facts are dead, it and the rest of its list are not reached.
abbrev pub reach : World → ℕ → ℕ → Env → Env
reach w f t env = if env.notes.stopped then env else stop_if_dead w f t env.facts env

-- behind this statement nothing is reached
abbrev pub dead : Env → Env
dead env = record env { facts = None }

-- a type that is returned
abbrev pub returns : FlowType → Env → Env
returns t env = if env.notes.stopped then env else record env { returned = env.returned ++ t ∷ [] }

-- After a block: its scope has ended, and what could not be reached ends with it.
abbrev pub leave : Env → Env → Env
leave outer inner = record inner { scope = outer.scope; notes = record inner.notes { stopped = outer.notes.stopped } }
