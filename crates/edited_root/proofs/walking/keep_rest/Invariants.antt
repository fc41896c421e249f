use Rattle.std.proofs.Common.{[]}
use Rattle.flow_base.specs.Program.{Program}
use Rattle.edited_root.specs.Walk.{StandsBefore}
use Rattle.edited_root.proofs.walking.keep_rest.Given as goal

-- as far as modules are taken over
abbrev pub invariant-loop-i : goal.invariant-loop-i
invariant-loop-i l = (program : Program) → StandsBefore l.modules program [] l.fn.at l.fn.drafts.items → StandsBefore l.modules program [] l.i l.drafts.items
