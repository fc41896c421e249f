use Rattle.std.proofs.Common.{◌≡◌, length, map, reverse, Some}
use Rattle.flow_values.specs.PathForm.{cut}
use Rattle.module_resolution.specs.Resolution.{all_applied}
use Rattle.dep_lists.proofs.folder.apply_all.Given as goal

-- the parts that are left lead where all parts did
abbrev pub invariant-loop-part : goal.invariant-loop-part
invariant-loop-part l =
    all_applied (Some (reverse (map (λ p. p.now) l.place.items))) (cut l.rest)
    ≡ all_applied (Some (reverse (map (λ p. p.now) l.initial.place.items))) (cut l.initial.rest)

abbrev pub decreases-loop-part : goal.decreases-loop-part
decreases-loop-part l = length l.rest
