-- Which object takes the properties of a literal.
use Rattle.std.specs.Prelude.{Bool, true, List, if◌then◌else◌}
use Rattle.typing.specs.States.{World}
use Rattle.typing.specs.Objects.{Entry, Candidate, counts, takes_value}

-- a property is taken, if it counts
abbrev pub accepts : World → List Entry → Candidate → Entry → Bool
accepts w entries c entry = if counts entries entry then takes_value w entry.name entry.literal c else true
