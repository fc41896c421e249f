use Rattle.std.proofs.Common.{◌≡◌, ◌++◌, length, map}
use Rattle.flow_values.specs.PathForm.{cut}
use Rattle.dep_lists.proofs.folder.folder_of.Given as goal

-- the parts so far, and those that are left
abbrev pub invariant-loop-part : goal.invariant-loop-part
invariant-loop-part l = cut l.path ≡ map (λ part. part.now) l.parts.items ++ cut l.rest

abbrev pub decreases-loop-part : goal.decreases-loop-part
decreases-loop-part l = length l.rest
