-- The slots at the start.
use Rattle.std.specs.Prelude.{◌≡◌, ℕ, zero, suc, ◌*◌, ◌/◌, ◌%◌, ◌<◌, ◌==◌, Bool, true, false, List, length, replicate, slice_get, slice_index_or, Option, Some, None, if◌then◌else◌}
use Rattle.std.specs.Arc.{arc_value}
use Rattle.std.specs.declared.sync.Arc.{Arc}
use Rattle.heap_core.specs.Meaning.{names}
use Rattle.entity_heap.specs.declared.board.Fill.{Fill}
use Rattle.entity_heap.specs.declared.board.Terms.{Terms}
use Rattle.entity_heap.specs.Rule.{spot}
use Rattle.entity_heap.specs.Plans.{first_state}

-- each slot of an entity has its first payload
abbrev pub IsLaid : {P Z : Type 0} → Terms P → List (Option (Arc P Z)) → Type 0
IsLaid {P} {Z} key xs = (length xs ≡ 2 * (key.lanes * key.entities))
    × ((n e b : ℕ) (x : P) → n < key.lanes → e < key.entities → b < 2 → slice_get (first_state key) e ≡ Some x → (a : Arc P Z) × (slice_get xs (spot key.entities n e b) ≡ Some (Some a)) × (arc_value a ≡ x))

-- the slots of entity e were filled in n lanes, each with x
abbrev pub fill_of : {P : Type 0} → ℕ → ℕ → P → Option (Fill P)
fill_of zero e x = None
fill_of (suc n) e x = Some (record { entity = e; payloads = replicate (suc n) x })

-- each is a share of x
abbrev pub AreShares : {P Z : Type 0} → P → List (Arc P Z) → Type 0
AreShares {P} {Z} x shares = (i : ℕ) (a : Arc P Z) → slice_get shares i ≡ Some a → arc_value a ≡ x

-- the slots in their order, among m entities: each of entity 0 has the root
abbrev pub AreLaid : {P Z : Type 0} → P → P → ℕ → List (Option (Arc P Z)) → Type 0
AreLaid {P} {Z} root absent m xs = (k : ℕ) → k < length xs → (a : Arc P Z) × (slice_get xs k ≡ Some (Some a)) × (arc_value a ≡ (if (k / 2) % m == 0 then root else absent))

-- the numbers of all that are staged are listed
abbrev pub AreListed : List ℕ → List Bool → Type 0
AreListed numbers staged = (e : ℕ) → slice_index_or staged e false ≡ true → names numbers e ≡ true
