-- Where chains of numbered names end.
use Rattle.std.specs.Prelude.{◌≡◌, ◌<◌, ℕ, zero, suc, ◌^◌, Bool, true, false, List, length, slice_get, Option, Some, None}
use Rattle.chain_ends.specs.declared.links.End.{End}
use Rattle.chain_ends.specs.declared.links.End.TheVariants.{Value, Alias, Unknown, Cyclic}
use Rattle.chain_ends.specs.declared.links.Link.{Link}
use Rattle.chain_ends.specs.declared.links.Link.TheVariants.{Ends, Goes}

-- an end that is of the other kind than what was asked for is unknown
abbrev pub of_kind : Bool → End → End
of_kind true (Value n) = Unknown
of_kind true (Alias n) = Alias n
of_kind true Unknown = Unknown
of_kind true Cyclic = Cyclic
of_kind false (Value n) = Value n
of_kind false (Alias n) = Unknown
of_kind false Unknown = Unknown
of_kind false Cyclic = Cyclic

-- the end of a link, where rest tells the end from the next name; nothing is known of a number that has none
abbrev pub end_of : (ℕ → End) → Option Link → End
end_of rest None = Unknown
end_of rest (Some (Ends end)) = end
end_of rest (Some (Goes is_type next)) = of_kind is_type (rest next)

-- the end of the chain from a name, where it comes within some steps
abbrev pub end_within : List Link → ℕ → ℕ → End
end_within links zero n = Cyclic
end_within links (suc steps) n = end_of (end_within links steps) (slice_get links n)

-- more steps than there can be names, so that a chain of so many repeats
unfoldable pub most : ℕ
most = 2 ^ 64

-- the end of the chain from a name
abbrev pub chain_end : List Link → ℕ → End
chain_end links n = end_within links most n

-- the end of each chain, in order
abbrev pub AreEnds : List Link → List End → Type 0
AreEnds links ends = (length ends ≡ length links) × ((n : ℕ) → n < length links → slice_get ends n ≡ Some (chain_end links n))
