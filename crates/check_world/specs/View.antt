-- What the world and the notes of the code stand for.
use Rattle.std.specs.Prelude.{ℕ, Bool, true, false, ◌&&◌, List, Option, Some, None, map}
use Rattle.std.specs.Option.{option_map}
use Rattle.std.specs.Borrow.{Bor}
use Rattle.std.specs.BTreeMap.{get}
use Rattle.std.specs.Cmp.Lexicographic.{slice_cmp}
use Rattle.std.specs.Ordering.{nat_cmp}
use Rattle.check_values.specs.declared.codes.Code.{Code}
use Rattle.check_values.specs.declared.codes.Code.TheVariants.{CannotResolveName}
use Rattle.type_values.specs.declared.types.FlowType.{FlowType, out-FlowType}
use Rattle.alias_table.specs.Members.{seen}
use Rattle.alias_members.specs.MembersIn.{members_in}
use Rattle.subtype_rules.specs.Answer.{below}
use Rattle.flow_values.specs.declared.span.Span.{Span}
use Rattle.flow_facts.specs.Cells.{Level}
use Rattle.typing.specs.States as typing
use Rattle.typing.specs.States.{covers, is_shorter}
use Rattle.check_world.specs.declared.names.TypeMeaning.{TypeMeaning}
use Rattle.check_world.specs.declared.names.TypeMeaning.TheVariants as means
use Rattle.check_world.specs.declared.names.TypeScope.{TypeScope}
use Rattle.check_world.specs.declared.world.World.{World}
use Rattle.check_world.specs.declared.notes.Seen.{Seen}
use Rattle.check_world.specs.declared.notes.Notes.{Notes}

-- what a name means as a type
abbrev pub meaning_view : TypeMeaning → typing.TypeMeaning
meaning_view (means.Type t) = typing.a_type t
meaning_view (means.NoType code) = typing.no_type_of code

-- by its row, if it has one
abbrev pub meaning_by_row : Option TypeMeaning → typing.TypeMeaning
meaning_by_row None = typing.no_type_of CannotResolveName
meaning_by_row (Some meaning) = meaning_view meaning

-- the row of a name, if it has one
unfoldable pub row_of : TypeScope → List ℕ → Option TypeMeaning
row_of scope name = get (slice_cmp nat_cmp) scope.rows name

-- what a name of a module means as a type
abbrev pub meaning_in : TypeScope → List ℕ → typing.TypeMeaning
meaning_in scope name = meaning_by_row (row_of scope name)

-- the fault of a name, if it means no type
abbrev pub fault_code : typing.TypeMeaning → Option Code
fault_code (typing.a_type t) = None
fault_code (typing.no_type_of code) = Some code

-- the row of a name, once this one was given a meaning where it had none
abbrev pub with_row : Option TypeMeaning → Bool → TypeMeaning → Option TypeMeaning
with_row None true meaning = Some meaning
with_row row is_its_name meaning = row

-- the world, as the definition of typing has it
unfoldable pub world_view : World → typing.World
world_view w = record {
  members = members_in w.table.now;
  below = below w.table.now;
  type_meaning = meaning_in w.names.now;
  spans = w.spans.now;
  watch = w.watch;
}

-- the outermost levels of members
abbrev pub levels_seen : List (Bor FlowType) → List Level
levels_seen members = map (λ m. out-FlowType m) (seen members)

-- an expression that was read
abbrev pub seen_view : Seen → typing.Seen
seen_view s = record { span = s.span; ty = s.ty }

-- the notes, as the definition of typing has them
unfoldable pub notes_view : Notes → typing.Notes
notes_view n = record { faults = n.faults; watched = option_map seen_view n.watched; stopped = n.stopped }

-- the span covers the watched place, if there is one, and is shorter than that of what was seen
abbrev pub is_innermost : Option ℕ → Span → Option typing.Seen → Bool
is_innermost None span before = false
is_innermost (Some place) span before = covers span place && is_shorter span before
