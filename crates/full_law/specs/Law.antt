-- Each program has a full check.
use Rattle.std.specs.Prelude.{List}
use Rattle.flow_base.specs.Program.{Program}
use Rattle.program_check.specs.Full.{Results, IsFull}

abbrev pub EachFull : Type 0
EachFull = (program : Program) → (results : List Results) × IsFull program results
