-- Chains that repeat, and what holds of the names that they lead to.
use Rattle.std.specs.Prelude.{◌≡◌, ◌<◌, Bool, true, ◌&&◌, ◌↔◌, List, length, Option, Some, None}
use Rattle.std.specs.List.{list_any}
use Rattle.std.specs.Str.{bytes_eq}
use Rattle.check_values.specs.Rows.{Bytes}
use Rattle.type_names.specs.Names.{Name}
use Rattle.merged_signatures.specs.Chains.{View, cyclic, Step, ends, goes, step_in, end_of, most, denotes}

-- the name at which a step goes on, if it does
abbrev pub onward : Step → Option Name
onward (ends end) = None
onward (goes is_type path name) = Some (path, name)

-- the name at which the chain from a name goes on
abbrev pub next : View → Name → Option Name
next v x = onward (step_in x.0 (v x.0) x.1)

-- zero or more steps
pub data Leads {X : Type 0} (following : X → Option X) : X → X → Type 0 where
  here : {x : X} → Leads following x x
  along : {x y z : X} → following x ≡ Some y → Leads following y z → Leads following x z

-- from x one comes to some y, and from y on one comes back to it
abbrev pub Repeats : {X : Type 0} → (X → Option X) → X → Type 0
Repeats {X} following x = (y z : X) × Leads following x y × (following y ≡ Some z) × Leads following z y

-- the same module, and the same name in it
abbrev pub name_eq : Name → Name → Bool
name_eq a b = bytes_eq a.0 b.0 && bytes_eq a.1 b.1

-- fewer names than the bound are all from which a chain goes on
pub record IsSmall (v : View) : Type 0 where
  pub names : List Name
  -- each name from which a chain goes on is among them
  pub all : (x y : Name) → next v x ≡ Some y → list_any (name_eq x) names ≡ true
  pub few : length names < most

-- one step and what the next name denotes tell what a name denotes: the bound is nowhere felt
abbrev pub IsToldByOneStep : Type 0
IsToldByOneStep = (v : View) → IsSmall v → (path name : Bytes) → denotes v path name ≡ end_of (denotes v) (step_in path (v path) name)

-- a name is cyclic exactly where its chain repeats
abbrev pub IsCyclicWhereItRepeats : Type 0
IsCyclicWhereItRepeats = (v : View) → IsSmall v → (path name : Bytes) → (denotes v path name ≡ cyclic) ↔ Repeats (next v) (path, name)
