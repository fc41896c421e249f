-- What serves on of one old module, and what is made in its place.
use Rattle.std.specs.Prelude.{◌≡◌, ◌≢◌, ◌<◌, ◌⊎◌, ℕ, Bool, true, false, List, [], ◌∷◌, map, length, slice_get, Option, Some, None}
use Rattle.flow_base.specs.Program.{Bytes}
use Rattle.check_values.specs.declared.signatures.Deps.{Deps}
use Rattle.check_values.specs.declared.signatures.LocalSig.{LocalSig}
use Rattle.export_counts.specs.source_front.specs.declared.parse.Parse.{Parse}
use Rattle.graph_search.specs.Cycles.{IsOn}
use Rattle.check_phases.specs.program_check.specs.Full.{deps_in}
use Rattle.path_numbers.specs.recheck_law.specs.Lists.{again}
use Rattle.moved_paths.specs.Moved.{IsUnmoved}
use Rattle.moved_paths.specs.declared.moving.Moved.{Moved}

-- the part of the old module of a number, where the module is not fresh
abbrev pub kept_in : {X : Type 0} → List X → Option ℕ → Bool → Option X
kept_in was number true = None
kept_in was None false = None
kept_in was (Some o) false = slice_get was o

-- how many parts are made where this one is kept, if one is
abbrev pub made_for : {X : Type 0} → Option X → ℕ
made_for None = 1
made_for (Some part) = 0

-- the elements where the flag is on, in order
abbrev pub where_on : {X : Type 0} → List Bool → List X → List X
where_on [] xs = []
where_on (on ∷ flags) [] = []
where_on (true ∷ flags) (x ∷ xs) = x ∷ where_on flags xs
where_on (false ∷ flags) (x ∷ xs) = where_on flags xs

-- a part serves in place of another one
abbrev pub IsInPlace : {X : Type 0} → Option X → X → Type 0
IsInPlace None part = Unit {0}
IsInPlace (Some kept) part = part ≡ kept

-- made again by its own specifiers, a list is that of its module; it stays where no path that they may find came or went, and is that of
-- its module as it stands where no path did
pub record ServesOn (paths : List Bytes) (path : Bytes) (parse : Parse) (moved : Moved) (stays : Bool) (old : Deps) : Type 0 where
  pub made_again : again paths path old ≡ deps_in paths path parse
  pub unmoved : IsUnmoved moved path old → again paths path old ≡ old
  pub as_it_is : stays ≡ true → old ≡ deps_in paths path parse

-- a flag tells whether a part is new, or another one than that of the old module of a number
pub record TellsOther {X : Type 0} (was : List X) (number : Option ℕ) (part : X) (flag : Bool) : Type 0 where
  pub other : (o : ℕ) (old : X) → flag ≡ true → number ≡ Some o → slice_get was o ≡ Some old → part ≢ old
  pub same : flag ≡ false → (o : ℕ) × (number ≡ Some o) × (slice_get was o ≡ Some part)

-- the local signatures of sources
abbrev pub signatures_of : List Parse → List LocalSig
signatures_of parses = map (λ parse. parse.sig) parses

-- each module was the one of its own number, and there were as many
pub record StandStill (from : List (Option ℕ)) (many : ℕ) : Type 0 where
  pub as_many : length from ≡ many
  pub each : (x : ℕ) → x < many → slice_get from x ≡ Some (Some x)

-- one of two flags is on at a number
abbrev pub IsOnEither : List Bool → List Bool → ℕ → Type 0
IsOnEither first second x = IsOn first x ⊎ IsOn second x
