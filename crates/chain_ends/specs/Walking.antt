-- Walks along chains: what is known of the names that they passed.
use Rattle.std.specs.Prelude.{◌≡◌, ◌<◌, ◌⊎◌, ℕ, suc, Bool, List, [], ◌∷◌, ◌++◌, length, slice_get, Option, Some, None}
use Rattle.graph_search.specs.Cycles.{Has}
use Rattle.chain_ends.specs.declared.links.End.{End}
use Rattle.chain_ends.specs.declared.links.End.TheVariants.{Unknown, Cyclic}
use Rattle.chain_ends.specs.declared.links.Link.{Link}
use Rattle.chain_ends.specs.declared.links.Link.TheVariants.{Ends, Goes}
use Rattle.chain_ends.specs.declared.walking.Mark.{Mark}
use Rattle.chain_ends.specs.declared.walking.Mark.TheVariants.{New, Open, Done}
use Rattle.chain_ends.specs.Following.{of_kind, end_within}

-- a name whose chain ends there is known from the start
abbrev pub first_mark : Link → Mark
first_mark (Ends end) = Done end
first_mark (Goes is_type next) = New

abbrev pub next_by : Option Mark → Option Link → Option ℕ
next_by (Some New) (Some (Goes is_type next)) = Some next
next_by (Some New) (Some (Ends end)) = None
next_by (Some New) None = None
next_by (Some Open) link = None
next_by (Some (Done end)) link = None
next_by None link = None

-- where a walk goes on from a name
abbrev pub next_of : List Link → List Mark → ℕ → Option ℕ
next_of links marks n = next_by (slice_get marks n) (slice_get links n)

-- the end that a walk takes for the name at which it stops
abbrev pub end_marked : Option Mark → End
end_marked (Some (Done end)) = end
end_marked (Some Open) = Cyclic
end_marked (Some New) = Cyclic
end_marked None = Unknown

abbrev pub through : Option Link → End → End
through (Some (Goes is_type next)) end = of_kind is_type end
through (Some (Ends other)) end = end
through None end = end

-- how many names' ends are known
abbrev pub done_count : List Mark → ℕ
done_count [] = 0
done_count (New ∷ marks) = done_count marks
done_count (Open ∷ marks) = done_count marks
done_count (Done end ∷ marks) = suc (done_count marks)

-- the end of a chain, told by more than so many steps
abbrev pub Settled : List Link → ℕ → ℕ → End → Type 0
Settled links count n end = (steps : ℕ) → count < steps → end_within links steps n ≡ end

-- the chain from one name goes on at the other
abbrev pub LeadsTo : List Link → ℕ → ℕ → Type 0
LeadsTo links n m = (is_type : Bool) × (slice_get links n ≡ Some (Goes is_type m))

-- the names of a trail lead each to the one behind it, and the last one to this name
pub data Leads (links : List Link) : List ℕ → ℕ → Type 0 where
  starts : {at : ℕ} → Leads links [] at
  longer : {trail more : List ℕ} {n at : ℕ} → Leads links trail n → LeadsTo links n at → more ≡ trail ++ n ∷ [] → Leads links more at

-- what is known of all names while a walk is on its way
pub record IsWalk (links : List Link) (marks : List Mark) (trail : List ℕ) : Type 0 where
  pub len : length marks ≡ length links
  -- a new name's chain goes on
  pub fresh : (n : ℕ) → slice_get marks n ≡ Some New → (m : ℕ) × LeadsTo links n m
  pub settled : (n : ℕ) (end : End) → slice_get marks n ≡ Some (Done end) → Settled links (done_count marks) n end
  -- the open names are those on the trail, and each stands there once
  pub listed : (n : ℕ) → slice_get marks n ≡ Some Open → Has trail n
  pub opened : (i n : ℕ) → slice_get trail i ≡ Some n → slice_get marks n ≡ Some Open
  pub once : (i j n : ℕ) → slice_get trail i ≡ Some n → slice_get trail j ≡ Some n → i ≡ j

-- no name becomes new
abbrev pub NoneRenewed : List Mark → List Mark → Type 0
NoneRenewed before after = (n : ℕ) → slice_get after n ≡ Some New → slice_get before n ≡ Some New

-- an open name leads to an open one, or to the one at which the walk is
abbrev pub OpenLead : List Link → List Mark → ℕ → Type 0
OpenLead links marks at = (n : ℕ) → slice_get marks n ≡ Some Open → (m : ℕ) × LeadsTo links n m × ((slice_get marks m ≡ Some Open) ⊎ (m ≡ at))

-- a walk on its way
pub record Walking (links : List Link) (before marks : List Mark) (trail : List ℕ) (start at : ℕ) : Type 0 where
  pub walk : IsWalk links marks trail
  pub leads : Leads links trail at
  pub open_lead : OpenLead links marks at
  pub begun : (start ≡ at) ⊎ (slice_get marks start ≡ Some New → ⊥)
  pub kept : NoneRenewed before marks

-- a walk whose last name's end is known: names of its trail can be given theirs, the last one first
pub record HasWalked (links : List Link) (before marks : List Mark) (trail : List ℕ) (start : ℕ) (end : End) : Type 0 where
  pub walk : IsWalk links marks trail
  pub at : ℕ
  pub leads : Leads links trail at
  pub told : Settled links (done_count marks) at end
  pub begun : slice_get marks start ≡ Some New → ⊥
  pub kept : NoneRenewed before marks
