-- New lanes are taken off a list.
use Rattle.std.specs.Prelude.{IfSome, MatchOption}
use Rattle.std.proofs.Common.{◌≡◌, List, [], ◌∷◌, ◌++◌, Option}
use Rattle.heap_core.specs.declared.traits.Program.{Ghosts}
use Rattle.entity_heap.specs.declared.heap.Heap.{Heap}
use Rattle.entity_heap.specs.declared.heap.Lane.{Lane}
use Rattle.entity_heap.specs.Lanes.{visit_in, IsLaneOf}
use Rattle.entity_heap.proofs.Takes.{last_of_new, rest_of_new}
use Rattle.heap_runs.specs.Fresh.{AreFresh}

module _ {P : Type 0} {G : Ghosts P} where
  pub last_fresh : (h : Heap P) (xs ys : List (Lane P G)) (o : Option (Lane P G)) → AreFresh h xs → MatchOption o ((xs ≡ []) × (ys ≡ [])) (λ l. xs ≡ ys ++ l ∷ []) → IfSome o (λ l. IsLaneOf h l × ((visit_in l).pins ≡ 0))
  last_fresh h xs ys o all is = last_of_new h all.0 xs ys o all.1 is

  pub rest_fresh : (h : Heap P) (xs ys : List (Lane P G)) (o : Option (Lane P G)) → AreFresh h xs → MatchOption o ((xs ≡ []) × (ys ≡ [])) (λ l. xs ≡ ys ++ l ∷ []) → AreFresh h ys
  rest_fresh h xs ys o all is = (all.0, rest_of_new h all.0 xs ys o all.1 is)
