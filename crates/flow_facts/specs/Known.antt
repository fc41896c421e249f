-- Facts: a map from places to types, or dead, and what changes them.
use Rattle.std.specs.Prelude.{ℕ, suc, ◌+◌, ◌%◌, ◌==◌, ◌&&◌, ◌||◌, Bool, true, false, not, List, [], ◌∷◌, filter, Option, Some, None, unwrap_or, if◌then◌else◌}
use Rattle.std.specs.List.{list_any}
use Rattle.std.specs.Option.{is_some, option_map, option_cmp}
use Rattle.std.specs.Ordering.{nat_cmp, is_eq, ordering_then}
use Rattle.std.specs.Cmp.Lexicographic.{slice_cmp}
use Rattle.std.specs.declared.cmp.Ordering.{Ordering}
use Rattle.type_values.specs.declared.types.FlowType.{FlowType}
use Rattle.type_terms.specs.Join.{join_of, is_any}
use Rattle.flow_facts.specs.declared.place.Place.{Place}
use Rattle.flow_facts.specs.declared.place.Killed.{Killed}
use Rattle.flow_facts.specs.declared.test.Test.{Test}
use Rattle.flow_facts.specs.Cells.{is_text}
use Rattle.flow_facts.specs.Narrowing.{narrowed}

-- The number of the n-th variable, one that is constant (true) or not: the number of a constant is odd.
abbrev pub numbered : Bool → ℕ → ℕ
numbered true n = suc (n + n)
numbered false n = n + n

-- whether a number is that of a constant
abbrev pub is_constant_number : ℕ → Bool
is_constant_number number = number % 2 == 1

-- variables before properties, and properties by their names and then by their variables
abbrev pub place_cmp : Place → Place → Ordering
place_cmp p q = ordering_then (option_cmp (slice_cmp nat_cmp) p.prop q.prop) (nat_cmp p.binding q.binding)

-- the same place
abbrev pub is_place : Place → Place → Bool
is_place p q = is_eq (place_cmp p q)

-- the variable itself
abbrev pub variable_place : ℕ → Place
variable_place binding = record { prop = None; binding = binding }

-- one property of a variable
abbrev pub property_place : ℕ → List ℕ → Place
property_place binding name = record { prop = Some name; binding = binding }

-- The types of the places that have a fact.
abbrev pub Map : Type 0
Map = Place → Option FlowType

-- A map, and None where facts are dead.
abbrev pub Known : Type 0
Known = Option Map

-- no place has a fact
abbrev pub no_facts : Map
no_facts q = None

-- the map with this at a place
abbrev pub at_place : Place → Option FlowType → Map → Map
at_place p fact m q = if is_place p q then fact else m q

-- a change of the map, and none of dead facts
abbrev pub live : (Map → Map) → Known → Known
live change None = None
live change (Some m) = Some (change m)

-- the type at a place: its fact, or the declared type
abbrev pub type_at : Known → Place → FlowType → FlowType
type_at None q declared = declared
type_at (Some m) q declared = unwrap_or (m q) declared

-- the type at a place narrowed by a test
abbrev pub narrowed_at : (FlowType → List FlowType) → Test → Place → FlowType → Map → Map
narrowed_at members test p declared m = at_place p (Some (narrowed members test (unwrap_or (m p) declared))) m

-- a fact of both maps has the joined type, and a fact of one alone is none
abbrev pub both : Option FlowType → Option FlowType → Option FlowType
both None u = None
both (Some t) None = None
both (Some t) (Some u) = Some (join_of (t ∷ u ∷ []))

-- the join of facts: joining with dead gives the other
abbrev pub joined : Known → Known → Known
joined None others = others
joined (Some m) None = Some m
joined (Some m) (Some n) = Some (λ q. both (m q) (n q))

-- the facts on the places that are not gone
abbrev pub without : (Place → Bool) → Map → Map
without gone m q = if gone q then None else m q

-- a property, of whatever variable
abbrev pub is_property : Place → Bool
is_property q = is_some q.prop

-- there is a text, and it is this one
abbrev pub is_some_text : List ℕ → Option (List ℕ) → Bool
is_some_text name None = false
is_some_text name (Some own) = is_text own name

-- a property with this name, of whatever variable
abbrev pub is_named : List ℕ → Place → Bool
is_named name q = is_some_text name q.prop

-- the variable, or a property of it
abbrev pub is_of : ℕ → Place → Bool
is_of binding q = binding == q.binding

-- A call, and an assignment to an element, drops all facts on properties.
abbrev pub without_properties : Map → Map
without_properties = without is_property

-- An assignment to a variable drops the facts on it and on its properties, one to a property those on all properties of its name.
abbrev pub overwrites : Place → Place → Bool
overwrites p q = unwrap_or (option_map (λ name. is_named name q) p.prop) (is_of p.binding q)

-- the members of the declared type that some member of the value's type is below
abbrev pub reached : (FlowType → List FlowType) → (FlowType → FlowType → Bool) → FlowType → FlowType → List FlowType
reached members below declared t = filter (λ d. list_any (λ u. below u d) (members t)) (members declared)

-- what an assigned value tells of its place
abbrev pub fact_of_value : (FlowType → List FlowType) → (FlowType → FlowType → Bool) → FlowType → FlowType → Option FlowType
fact_of_value members below declared t =
    if not (is_any t) && below t declared then Some (join_of (reached members below declared t)) else None

-- a value of type t is assigned to a place
abbrev pub assigned : (FlowType → List FlowType) → (FlowType → FlowType → Bool) → Place → FlowType → FlowType → Map → Map
assigned members below p declared t m = at_place p (fact_of_value members below declared t) (without (overwrites p) m)

-- what a loop may change
abbrev pub is_killed : Killed → Place → Bool
is_killed killed q =
    list_any (λ binding. is_of binding q) killed.bindings || list_any (λ name. is_named name q) killed.props
    || killed.all_props && is_property q

-- before a loop's test
abbrev pub entered_loop : Killed → Map → Map
entered_loop killed = without (is_killed killed)

-- a variable that inner functions know, and no property of it
abbrev pub is_kept : (ℕ → Bool) → Place → Bool
is_kept constant q = not (is_property q) && constant q.binding

-- Before a function's body: the facts on these variables, and none where facts were dead.
abbrev pub entered_function : (ℕ → Bool) → Known → Known
entered_function constant None = Some no_facts
entered_function constant (Some m) = Some (without (λ q. not (is_kept constant q)) m)
