use Rattle.std.proofs.Common.{◌≡◌, ◌++◌, take}
use Rattle.named_rows.specs.Seen.{seen}
use Rattle.job_ends.specs.Nodes.{outer_modules}
use Rattle.job_ends.specs.Views.{rows_view}
use Rattle.job_ends.proofs.nodes.add_outer_modules.Given as goal

abbrev pub invariant-loop-i : goal.invariant-loop-i
invariant-loop-i l = seen rows_view l.modules.items ≡ seen rows_view l.fn.modules.items ++ outer_modules (take l.i l.outside)
