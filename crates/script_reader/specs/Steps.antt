-- What a step of reading a line does: the bytes of the line so far, and the bytes that are left.
use Rattle.std.specs.Prelude.{◌≡◌, ◌<◌, [], ◌∷◌, ◌++◌, length, Option}
use Rattle.flow_base.specs.Program.{Bytes}
use Rattle.flow_base.specs.Outside.{WhereTold}
use Rattle.script_reader.specs.declared.reader.Step.{Step}
use Rattle.script_reader.specs.declared.reader.Step.TheVariants.{More, Line, End}
use Rattle.script_reader.specs.Lines.{FEED, HasNoFeed, TakesBytes}

-- this part of a line was taken
abbrev pub TakesSome : Bytes → Option Bytes → Option Bytes → Type 0
TakesSome part before after = HasNoFeed part × TakesBytes part before after

-- this part of a line was taken, and the LF behind it
abbrev pub TakesRest : Bytes → Option Bytes → Option Bytes → Type 0
TakesRest part before after = HasNoFeed part × TakesBytes (part ++ FEED ∷ []) before after

-- no byte is left
abbrev pub HasEnded : Option Bytes → Type 0
HasEnded before = WhereTold before (λ rest. rest ≡ [])

-- what one step did: the bytes of the line before and after it, and those that were left
abbrev pub Steps : Step → Bytes → Bytes → Option Bytes → Option Bytes → Type 0
Steps More line line' before after = (part : Bytes) × (line' ≡ line ++ part) × (length line < length line') × TakesSome part before after
Steps Line line line' before after = (part : Bytes) × (line' ≡ line ++ part) × TakesRest part before after
Steps End line line' before after = (line' ≡ line) × HasEnded before × (after ≡ before)

-- what was read since the line began
abbrev pub Reads : Step → Bytes → Option Bytes → Option Bytes → Type 0
Reads More line before after = TakesSome line before after
Reads Line line before after = TakesRest line before after
Reads End line before after = TakesSome line before after × HasEnded after
