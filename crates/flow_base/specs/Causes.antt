-- When a fault is counted, and how often.
use Rattle.std.specs.Prelude.{◌≡◌, ℕ, ◌+◌, ◌-◌, ◌^◌, ◌≤◌, min}
use Rattle.flow_base.specs.Seen.{FolderSeen}
use Rattle.flow_base.specs.declared.outside.LastFault.{LastFault}

-- one more, where the count is not at its end
abbrev pub raised : ℕ → ℕ
raised count = min (count + 1) (2 ^ 64 - 1)

-- the count rose by exactly so many, or up to its end
abbrev pub RoseBy : ℕ → ℕ → ℕ → Type 0
RoseBy faults before now = now ≡ min (before + faults) (2 ^ 64 - 1)

-- a call counts one fault where it fails, and none where it doesn't
pub record Counts (fails : Type 0) (before now : ℕ) : Type 0 where
  pub later : before ≤ now
  pub rises : fails → now ≡ raised before
  pub stays : (fails → ⊥) → now ≡ before

-- the same of a folder, which keeps the call of its last fault, where this call is `call`
pub record CountsLast (fails : Type 0) (call : LastFault) (before now : FolderSeen) : Type 0 where
  pub later : before.faults ≤ now.faults
  pub rises : fails → now.faults ≡ raised before.faults
  pub blames : fails → now.last_fault ≡ call
  pub stays : (fails → ⊥) → now.faults ≡ before.faults
  pub keeps : (fails → ⊥) → now.last_fault ≡ before.last_fault
