use Rattle.std.proofs.Common.{◌≡◌, [], map, length}
use Rattle.std.specs.List.{AllByRecursion}
use Rattle.job_crew.proofs.setting.places_of.Given as goal

-- the deques that have a place
abbrev pub invariant-loop-own : goal.invariant-loop-own
invariant-loop-own g l = record {
  deques : map (λ s. s.own) l.seats.items ≡ l.yielded;
  none : AllByRecursion (λ s. (s.links.items ≡ []) × (s.kept.items ≡ [])) l.seats.items;
}
