-- What is taken from the bytes that were read ahead.
use Rattle.std.specs.Prelude.{◌≡◌, [], ◌∷◌, ◌++◌, Bool, true, false}
use Rattle.flow_base.specs.Program.{Bytes}
use Rattle.script_reader.specs.Lines.{FEED, HasNoFeed}

-- the bytes before the next LF, and the LF, or all where there is none
abbrev pub TakesPart : Bytes → Bytes → Bytes → Bytes → Bool → Type 0
TakesPart ahead ahead' line line' true = (part : Bytes) × HasNoFeed part × (ahead ≡ part ++ FEED ∷ ahead') × (line' ≡ line ++ part)
TakesPart ahead ahead' line line' false = (ahead' ≡ []) × HasNoFeed ahead × (line' ≡ line ++ ahead)
