-- What is told of a folder, a source and a sink.
use Rattle.std.specs.Prelude.{◌≡◌, ◌≢◌, ◌⊎◌, ℕ, ◌≤◌, List, [], ◌++◌, length, take, drop, Option, Some, None, Result, Ok, Err, IsErrOf, ⊤}
use Rattle.std.specs.Option.{option_map}
use Rattle.flow_base.specs.Program.{Program, Bytes, paths_of, text_at}

-- a fact of what is told, if it is told
abbrev pub WhereTold : {A : Type 0} → Option A → (A → Type 0) → Type 0
WhereTold None P = ⊤
WhereTold (Some a) P = P a

-- the answer of a listing
abbrev pub IsListing : {E : Type 0} → Option Program → Result (List Bytes) E → Type 0
IsListing told (Ok paths) = WhereTold told (λ program. paths ≡ paths_of program)
IsListing told (Err e) = ⊤

-- the answer of a reading
abbrev pub IsReading : {E : Type 0} → Option Program → Bytes → Result (Option Bytes) E → Type 0
IsReading told path (Ok found) = WhereTold told (λ program. found ≡ text_at program path)
IsReading told path (Err e) = ⊤

-- what stands in the buffer after a read, and what is left
abbrev pub Takes : {E : Type 0} → Option Bytes → Option Bytes → Bytes → Bytes → Result ℕ E → Type 0
Takes before now old new (Ok n) =
    (n ≤ length old) × (now ≡ option_map (λ left. drop n left) before)
    × WhereTold before (λ left. (n ≤ length left) × (new ≡ take n left ++ drop n old))
Takes before now old new (Err e) = now ≡ before

-- what a sink holds after a write
abbrev pub Appends : {E : Type 0} → Option Bytes → Option Bytes → Bytes → Result ℕ E → Type 0
Appends before now piece (Ok n) = (n ≤ length piece) × (now ≡ option_map (λ held. held ++ take n piece) before)
Appends before now piece (Err e) = now ≡ before

-- a sink failed: it says so, or it took nothing of a piece that isn't empty
abbrev pub IsStuck : {E : Type 0} → E → Bytes → Result ℕ E → Type 0
IsStuck failed piece result = IsErrOf result failed ⊎ ((result ≡ Ok 0) × (piece ≢ []))

-- what is told of a sink after these bytes
abbrev pub appended : Option Bytes → Bytes → Option Bytes
appended before piece = option_map (λ held. held ++ piece) before

-- a sink holds a front of these bytes behind what it held
abbrev pub HoldsFront : Option Bytes → Option Bytes → Bytes → Type 0
HoldsFront before now piece = (n : ℕ) × (n ≤ length piece) × (now ≡ appended before (take n piece))
