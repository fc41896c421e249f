-- The lines of a script.
use Rattle.std.specs.Prelude.{◌≡◌, ◌==◌, ◌<◌, ℕ, List, [], ◌∷◌, ◌++◌, length, All, false, Option, if◌then◌else◌}
use Rattle.std.specs.List.{onto_first}
use Rattle.std.specs.Option.{option_map}
use Rattle.flow_base.specs.Program.{Bytes}
use Rattle.flow_base.specs.Outside.{WhereTold}

-- LF
abbrev pub FEED : ℕ
FEED = 10

-- each line ends before an LF; what stands behind the last LF is a line where it is not empty
abbrev pub script_lines : Bytes → List Bytes
script_lines [] = []
script_lines (b ∷ bytes) = if b == FEED then [] ∷ script_lines bytes else onto_first b (script_lines bytes)

-- no byte of it is an LF
abbrev pub HasNoFeed : Bytes → Type 0
HasNoFeed bytes = All (λ b. (b == FEED) ≡ false) bytes

-- a whole line is among these bytes
abbrev pub HasLine : Bytes → Type 0
HasLine bytes = HasNoFeed bytes → ⊥

-- the most bytes that a line may have, without its LF
abbrev pub LINE_LIMIT : ℕ
LINE_LIMIT = 4194304

-- the bytes that are to come, where the source tells what it has left: those that were read ahead, and the rest
abbrev pub bytes_left : Bytes → Option Bytes → Option Bytes
bytes_left ahead left = option_map (λ rest. ahead ++ rest) left

-- the lines of these bytes
abbrev pub lines_left : Bytes → Option Bytes → Option (List Bytes)
lines_left ahead left = option_map script_lines (bytes_left ahead left)

-- the first of the lines to come has this property
abbrev pub FirstLine : (Bytes → Type 0) → List Bytes → Type 0
FirstLine P [] = ⊥
FirstLine P (line ∷ lines) = P line

-- a line was taken
abbrev pub TakesLine : Bytes → Option (List Bytes) → Option (List Bytes) → Type 0
TakesLine line before after = before ≡ option_map (λ lines. line ∷ lines) after

-- no line is left
abbrev pub IsAtEnd : Option (List Bytes) → Type 0
IsAtEnd before = WhereTold before (λ lines. lines ≡ [])

-- the next line is longer than a line may be
abbrev pub IsTooLong : Option (List Bytes) → Type 0
IsTooLong before = WhereTold before (FirstLine (λ line. LINE_LIMIT < length line))

-- these bytes were taken, from the front of those to come
abbrev pub TakesBytes : Bytes → Option Bytes → Option Bytes → Type 0
TakesBytes front before after = before ≡ option_map (λ rest. front ++ rest) after

-- some bytes were taken, from the front of those to come
abbrev pub TakesFront : Option Bytes → Option Bytes → Type 0
TakesFront before after = (front : Bytes) × TakesBytes front before after

-- no LF was taken, but maybe a part of a line
abbrev pub BreaksLine : Option Bytes → Option Bytes → Type 0
BreaksLine before after = (part : Bytes) × HasNoFeed part × TakesBytes part before after
