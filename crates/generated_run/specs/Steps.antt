-- The parts of a run on made-up modules, over a folder that holds its program and doesn't fail.
use Rattle.std.specs.Prelude.{◌≡◌, ◌⊎◌, ℕ, Option, Some}
use Rattle.flow_base.specs.Program.{Bytes, Program, paths_of}
use Rattle.flow_base.specs.Outside.{appended, HoldsFront}
use Rattle.script_line.specs.declared.line.Line.{Line}
use Rattle.script_run.specs.Transcript.{Standing, start, Rechecks, Turns}

-- something that leads to a standing was done, and what it prints was written
pub record HasDone (Prints : Standing → Bytes → Type 0) (t : Standing) (before now : Option Bytes) : Type 0 where
  pub printed : Bytes
  pub prints : Prints t printed
  pub written : now ≡ appended before printed

-- a front of what it prints was written
pub record HasBegun (Prints : Standing → Bytes → Type 0) (before now : Option Bytes) : Type 0 where
  pub standing : Standing
  pub printed : Bytes
  pub prints : Prints standing printed
  pub front : HoldsFront before now printed

-- the load of a folder, over so many lanes
abbrev pub Loads : ℕ → Program → Standing → Bytes → Type 0
Loads lanes folder t printed = Rechecks (Some folder) 0 (start (paths_of folder) lanes) t 0 printed

-- a turn
abbrev pub TakesTurn : ℕ → Program → Line → Standing → Standing → Bytes → Type 0
TakesTurn most folder said s t printed = Turns most (Some folder) said s t 0 printed

-- a turn broke off: nothing of it was written, or a front
abbrev pub BreaksOff : ℕ → Program → Line → Standing → Option Bytes → Option Bytes → Type 0
BreaksOff most folder said s before now = (now ≡ before) ⊎ HasBegun (TakesTurn most folder said s) before now
