-- Ends that fail at listed calls.
use Rattle.std.specs.Prelude.{◌≡◌, Contains}
use Rattle.flow_base.specs.Causes.{raised}
use Rattle.flow_base.specs.declared.calls.Calls.{Calls}

-- one call more was made, and the same calls fail
pub record CountsCall (before now : Calls) : Type 0 where
  pub failing : now.failing ≡ before.failing
  pub made : now.made ≡ raised before.made

-- the last call that was made is one of those that fail
abbrev pub IsListed : Calls → Type 0
IsListed calls = Contains calls.failing calls.made
