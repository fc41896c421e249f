use Rattle.std.proofs.Common.{◌≡◌, ◌≤◌, take, count_by}
use Rattle.check_values.specs.Rows.{is_among}
use Rattle.check_values.specs.Roots.{paths_of}
use Rattle.pending_edits.proofs.modules.count_modules.Given as goal

abbrev pub invariant-loop-path : goal.invariant-loop-path
invariant-loop-path l = (l.count ≡ count_by (is_among (paths_of l.root)) (take l.path-index l.paths)) × (l.count ≤ l.path-index)
