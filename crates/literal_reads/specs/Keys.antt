-- The keys of a literal and of a candidate, by maps.
use Rattle.std.specs.Prelude.{◌≡◌, ℕ, ◌+◌, nat_lt, ◌&&◌, Bool, false, List, [], ◌∷◌, map, min, max, Option, Some, None, if◌then◌else◌}
use Rattle.std.specs.Option.{is_some}
use Rattle.std.specs.List.{list_any}
use Rattle.std.specs.Str.{bytes_eq}
use Rattle.std.specs.BTreeMap.{BTreeMap, get}
use Rattle.std.specs.Cmp.Lexicographic.{slice_cmp}
use Rattle.std.specs.Ordering.{nat_cmp}
use Rattle.check_values.specs.Rows.{Bytes}
use Rattle.type_values.specs.declared.types.FlowProp.{FlowProp, out-FlowProp}
use Rattle.flow_facts.specs.Cells.{is_text}
use Rattle.typing.specs.Objects as typing
use Rattle.literal_reads.specs.declared.entries.Entry.{Entry}
use Rattle.literal_reads.specs.declared.entries.Places.{Places}

-- a property of a literal
abbrev pub entry_view : Entry → typing.Entry
entry_view e = record { first = e.first; end = e.end; name = e.name; literal = e.literal }

-- properties of a literal, in order
abbrev pub rows_view : List Entry → List typing.Entry
rows_view rows = map entry_view rows

-- what stands at a key
abbrev pub at_key : {X : Type 0} → BTreeMap Bytes X → Bytes → Option X
at_key rows key = get (slice_cmp nat_cmp) rows key

-- a property with this key begins behind a token
abbrev pub begins_behind : ℕ → Bytes → typing.Entry → Bool
begins_behind n key e = nat_lt n e.first && bytes_eq e.name key

-- and one before it
abbrev pub begins_before : ℕ → Bytes → typing.Entry → Bool
begins_before n key e = nat_lt e.first n && bytes_eq e.name key

abbrev pub has_key : Bytes → typing.Entry → Bool
has_key key e = bytes_eq e.name key

-- the last token where a key begins is behind this one
abbrev pub ends_behind : ℕ → Option Places → Bool
ends_behind n None = false
ends_behind n (Some p) = nat_lt n p.last

-- the first one is before it
abbrev pub starts_before : ℕ → Option Places → Bool
starts_before n None = false
starts_before n (Some p) = nat_lt p.first n

-- the map has the first and the last place of each key
pub record HasPlaces (places : BTreeMap Bytes Places) (rows : List typing.Entry) : Type 0 where
  pub behind : (n : ℕ) (key : Bytes) → list_any (begins_behind n key) rows ≡ ends_behind n (at_key places key)
  pub before : (n : ℕ) (key : Bytes) → list_any (begins_before n key) rows ≡ starts_before n (at_key places key)
  pub among : (key : Bytes) → list_any (has_key key) rows ≡ is_some (at_key places key)

-- the places of a key, with one more
abbrev pub widened : Option Places → ℕ → Places
widened None at = record { first = at; last = at }
widened (Some p) at = record { first = min p.first at; last = max p.last at }

-- the place of the first property with a key, counted from i
abbrev pub place_from : ℕ → Bytes → List FlowProp → Option ℕ
place_from i key [] = None
place_from i key (p ∷ props) = if is_text (out-FlowProp p).key key then Some i else place_from (i + 1) key props

-- the map has the place of the first property of each key, of those from the i-th on
pub record HasProps (places : BTreeMap Bytes ℕ) (i : ℕ) (props : List FlowProp) : Type 0 where
  pub at : (key : Bytes) → at_key places key ≡ place_from i key props
