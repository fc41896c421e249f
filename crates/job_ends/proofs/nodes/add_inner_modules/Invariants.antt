use Rattle.std.proofs.Common.{◌≡◌, ◌++◌, map, take}
use Rattle.named_rows.specs.Seen.{seen}
use Rattle.job_ends.specs.Jobs.{member_view}
use Rattle.job_ends.specs.Nodes.{inner_module}
use Rattle.job_ends.specs.Views.{rows_view}
use Rattle.job_ends.proofs.nodes.add_inner_modules.Given as goal

abbrev pub invariant-loop-i : goal.invariant-loop-i
invariant-loop-i l = seen rows_view l.modules.items ≡ seen rows_view l.fn.modules.items ++ map (λ own. inner_module (member_view own.member.now)) (take l.i l.members)
