-- Object and array literals against a type.
use Rattle.std.specs.Prelude.{ℕ, suc, ◌+◌, ◌++◌, ◌==◌, nat_lt, not, ◌&&◌, ◌||◌, Bool, true, false, List, [], ◌∷◌, map, filter, length, slice_get, Option, Some, None, if◌then◌else◌}
use Rattle.std.specs.List.{filter_map, list_any, list_all}
use Rattle.std.specs.Str.{bytes_eq}
use Rattle.js_grammar.specs.Types.{key}
use Rattle.js_grammar.specs.Code.{field, FieldForm, shorthand, valued, Fields, no_field, more_field, Exs, no_ex, more_ex}
use Rattle.check_values.specs.Rows.{Bytes}
use Rattle.check_values.specs.declared.codes.Code.TheVariants.{NameAlreadyBound, PropMissing}
use Rattle.check_values.specs.declared.faults.Fault.{Fault}
use Rattle.type_values.specs.declared.types.FlowType.{FlowType}
use Rattle.type_values.specs.declared.types.FlowType as made
use Rattle.type_values.specs.declared.types.FlowProp.{FlowProp, out-FlowProp}
use Rattle.type_values.specs.declared.types.Variance.TheVariants.{Both}
use Rattle.type_values.specs.declared.types.FlowType.TheOpen.{Object, Tuple, Array, ReadArray}
use Rattle.type_terms.specs.Join.{join_of, widened, level_is_any}
use Rattle.type_terms.specs.Show.{shown_key}
use Rattle.tree_types.specs.TreeTypes.{key_text, last_of_each}
use Rattle.flow_facts.specs.Cells.{Level}
use Rattle.flow_facts.specs.Properties.{prop_of, read_type}
use Rattle.typing.specs.States.{World, Want, Notes, fault_at, add_fault, add_faults, name_fault}
use Rattle.typing.specs.Members.{levels, the_one}
use Rattle.typing.specs.Tests.{literal_type}

-- ---- the keys of a literal

-- a property of a literal: the tokens of its key, the key, and the type of its value where that is a literal or `null`
pub record Entry : Type 0 where
  pub first : ℕ
  pub end : ℕ
  pub name : Bytes
  pub literal : Option FlowType

-- a property that begins at a token
abbrev pub entry_of : FieldForm → ℕ → Entry
entry_of (shorthand name) f = record { first = f; end = suc f; name = name; literal = None }
entry_of (valued (key kf kt form) e) f = record { first = kf; end = kt; name = key_text (key kf kt form); literal = literal_type e }

-- the properties of a literal, in order
abbrev pub entries_of : Fields → List Entry
entries_of no_field = []
entries_of (more_field fs (field f t form)) = entries_of fs ++ entry_of form f ∷ []

-- a later property has its key
abbrev pub is_repeated : List Entry → Entry → Bool
is_repeated entries entry = list_any (λ other. nat_lt entry.first other.first && bytes_eq other.name entry.name) entries

-- of a repeated key the last one counts
abbrev pub counts : List Entry → Entry → Bool
counts entries entry = not (is_repeated entries entry)

-- an earlier property has its key
abbrev pub stands_before : List Entry → Entry → Bool
stands_before entries entry = list_any (λ other. nat_lt other.first entry.first && bytes_eq other.name entry.name) entries

-- a key that stands before already
abbrev pub key_bound : World → List Entry → Entry → Notes → Notes
key_bound w entries entry notes =
    if stands_before entries entry then name_fault (fault_at w entry.first entry.end NameAlreadyBound (shown_key entry.name)) notes else notes

-- ---- candidates

-- what an object literal is read against
pub record Candidate : Type 0 where
  pub exact : Bool
  pub props : List FlowProp

-- a member that is an object
abbrev pub object_of : Level → Option Candidate
object_of (Object exact props) = Some (record { exact = exact; props = props })
object_of level = None

-- the property is there, and its type takes the literal
abbrev pub takes_literal : World → FlowType → Option FlowProp → Bool
takes_literal w literal None = false
takes_literal w literal (Some p) = w.below literal (read_type p)

-- a value that is no literal is always taken
abbrev pub takes_value : World → Bytes → Option FlowType → Candidate → Bool
takes_value w own None c = true
takes_value w own (Some literal) c = takes_literal w literal (prop_of own c.props)

-- it has each property whose value is a literal or `null`, with a type that takes the value
abbrev pub is_candidate : World → List Entry → Candidate → Bool
is_candidate w entries c = list_all (λ entry. takes_value w entry.name entry.literal c) (filter (counts entries) entries)

-- Where there is no `any`, one object is the candidate whatever its properties.
abbrev pub candidate_among : World → List Entry → Bool → List Candidate → Option Candidate
candidate_among w entries false (c ∷ []) = Some c
candidate_among w entries has_any objects = the_one (filter (is_candidate w entries) objects)

-- the one candidate of a type, if it has exactly one
abbrev pub candidate_of : World → List Entry → FlowType → Option Candidate
candidate_of w entries t = candidate_among w entries (list_any level_is_any (levels w t)) (filter_map object_of (levels w t))

-- and of the type that the literal is read against
abbrev pub candidate_for : World → List Entry → Want → Option Candidate
candidate_for w entries None = None
candidate_for w entries (Some t) = candidate_of w entries t

-- ---- what the candidate asks of each property

-- the type that the value of this property is read against
abbrev pub prop_want : Option FlowProp → Want
prop_want None = None
prop_want (Some p) = Some (read_type p)

-- the type that the value of a property is read against
abbrev pub value_want : Option Candidate → List Entry → Entry → Want
value_want None entries entry = None
value_want (Some c) entries entry = if counts entries entry then prop_want (prop_of entry.name c.props) else None

-- there is no such property, and there may be none
abbrev pub is_lacking : Bool → Option FlowProp → Bool
is_lacking exact None = exact
is_lacking exact (Some p) = false

-- the fault at these tokens
abbrev pub missing_prop : World → ℕ → ℕ → Bytes → Fault
missing_prop w f t own = fault_at w f t PropMissing (shown_key own)

-- an exact candidate lacks the property
abbrev pub key_asked : World → Option Candidate → List Entry → Entry → Notes → Notes
key_asked w None entries entry notes = notes
key_asked w (Some c) entries entry notes =
    if counts entries entry && is_lacking c.exact (prop_of entry.name c.props)
    then add_fault (missing_prop w entry.first entry.end entry.name) notes
    else notes

-- the literal has a property with this key
abbrev pub is_given : List Entry → Bytes → Bool
is_given entries own = list_any (λ entry. bytes_eq entry.name own) entries

-- the property is required, and the literal has none with its key
abbrev pub lacks : List Entry → FlowProp → Bool
lacks entries p = not ((out-FlowProp p).optional || is_given entries (out-FlowProp p).key)

-- the literal, at these tokens, lacks properties that the candidate requires
abbrev pub missing_props : World → ℕ → ℕ → List Entry → List FlowProp → List Fault
missing_props w f t entries props = map (λ p. missing_prop w f t (out-FlowProp p).key) (filter (lacks entries) props)

-- a literal, at these tokens, is asked for each property that its candidate requires
abbrev pub all_given : World → ℕ → ℕ → List Entry → Option Candidate → Notes → Notes
all_given w f t entries None notes = notes
all_given w f t entries (Some c) notes = add_faults (missing_props w f t entries c.props) notes

-- ---- the types of literals

-- a property in the type of an object literal
abbrev pub prop_read : Bytes → FlowType → FlowProp
prop_read own t = record { key = own; variance = Both; optional = false; ty = widened t }

-- the type of an object literal with these properties
abbrev pub object_type : List FlowProp → FlowType
object_type props = made.Object true (last_of_each props)

-- the type of an array literal with elements of these types
abbrev pub array_type : List FlowType → FlowType
array_type [] = made.Array made.Any
array_type (t ∷ types) = made.Array (join_of (map widened (t ∷ types)))

-- ---- arrays

-- what the elements of an array literal are read against: one type, or one a place
pub data Elements : Type 0 where
  elements_of : FlowType → Elements
  elements_in : List FlowType → Elements

-- a member that is an array or a tuple
abbrev pub list_of : Level → Option Elements
list_of (Array element) = Some (elements_of element)
list_of (ReadArray element) = Some (elements_of element)
list_of (Tuple all) = Some (elements_in all)
list_of level = None

-- the one of them, where it takes so many elements
abbrev pub list_of_length : ℕ → List Elements → Option Elements
list_of_length count (elements_of element ∷ []) = Some (elements_of element)
list_of_length count (elements_in all ∷ []) = if count == length all then Some (elements_in all) else None
list_of_length count lists = None

-- the one array or tuple of a type, where a tuple has as many members as there are elements
abbrev pub elements_for : World → ℕ → Want → Option Elements
elements_for w count None = None
elements_for w count (Some t) = list_of_length count (filter_map list_of (levels w t))

-- the type that the k-th element is read against
abbrev pub element_want : Option Elements → ℕ → Want
element_want None k = None
element_want (Some (elements_of element)) k = Some element
element_want (Some (elements_in all)) k = slice_get all k

abbrev pub count_of : Exs → ℕ
count_of no_ex = 0
count_of (more_ex es e) = count_of es + 1
