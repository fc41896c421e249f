use Rattle.std.proofs.Common.{◌≡◌, take}
use Rattle.flow_base.specs.Program.{paths_of}
use Rattle.flow_base.proofs.mem_folder.listed.Given as goal

abbrev pub invariant-loop-i : goal.invariant-loop-i
invariant-loop-i l = l.paths ≡ paths_of (take l.i l.rows)
