-- Numbers for names.
use Rattle.std.specs.Prelude.{ℕ, ◌≡◌, ◌≤◌, ◌⊎◌, List, Option, Some, None, length}
use Rattle.std.specs.List.{slice_get}
use Rattle.std.specs.Ordering.{nat_cmp}
use Rattle.std.specs.Cmp.Lexicographic.{slice_cmp}
use Rattle.std.specs.BTreeMap.{get}
use Rattle.fact_trail.specs.declared.slot.Slot.TheVariants.{Variable, Property}
use Rattle.fact_trail.specs.declared.slot.Slot.{Slot}
use Rattle.refine_flow.specs.declared.names.Names.{Names}

-- the number of a name
abbrev pub number_of : Names → List ℕ → Option ℕ
number_of names x = get (slice_cmp nat_cmp) names.numbers x

-- the name with a number
abbrev pub name_of : Names → ℕ → Option (List ℕ)
name_of names n = slice_get names.texts.items n

-- how many names have a number: the numbers are those below it
abbrev pub names_len : Names → ℕ
names_len names = length names.texts.items

-- a name keeps its number, or gets one that no name had
abbrev pub GrowsNames : Names → Names → Type 0
GrowsNames old new =
    (names_len old ≤ names_len new)
    × ((x : List ℕ) → (number_of new x ≡ number_of old x) ⊎ ((number_of old x ≡ None) × (n : ℕ) × (number_of new x ≡ Some n) × (names_len old ≤ n)))

-- a property of a name that has no number yet
abbrev pub IsBeyond : Names → Slot → Type 0
IsBeyond names (Variable b) = ⊥
IsBeyond names (Property k) = names_len names ≤ k.name
