-- Lanes are taken off the list that `open` gives.
use Rattle.std.specs.Prelude.{IfSome, MatchOption}
use Rattle.std.proofs.Common.{◌≡◌, ℕ, List, [], ◌∷◌, ◌++◌, length, slice_get, refl, sym, ap, ◌∙◌, Option, Some, None}
use Rattle.heap_core.specs.declared.traits.Program.{Ghosts}
use Rattle.entity_heap.specs.declared.board.Visit.{Visit}
use Rattle.entity_heap.specs.declared.heap.Heap.{Heap}
use Rattle.entity_heap.specs.declared.heap.Lane.{Lane}
use Rattle.entity_heap.specs.Lanes.{visit_in, IsLaneOf, AreNew}
use Rattle.entity_heap.proofs.Lists.{get_last, get_longer}

module _ {P : Type 0} {G : Ghosts P} where
  -- the last of them is the heap's, and has not pinned
  pub last_of_new : (h : Heap P) (m : ℕ) (xs ys : List (Lane P G)) (o : Option (Lane P G)) → AreNew h m xs → MatchOption o ((xs ≡ []) × (ys ≡ [])) (λ l. xs ≡ ys ++ l ∷ []) → IfSome o (λ l. IsLaneOf h l × ((visit_in l).pins ≡ 0))
  last_of_new h m xs ys None all is = tt
  last_of_new h m xs ys (Some l) all is = let o = all (length ys) l (ap (λ (z : List (Lane P G)). slice_get z (length ys)) is ∙ get_last ys l (length ys) refl) in (o.0, ap (λ (v : Visit P). v.pins) o.1)

  -- the others are new still
  pub rest_of_new : (h : Heap P) (m : ℕ) (xs ys : List (Lane P G)) (o : Option (Lane P G)) → AreNew h m xs → MatchOption o ((xs ≡ []) × (ys ≡ [])) (λ l. xs ≡ ys ++ l ∷ []) → AreNew h m ys
  rest_of_new h m xs ys None all is = λ k l at. absurd (let z : None ≡ Some l = ap (λ (z : List (Lane P G)). slice_get z k) (sym is.1) ∙ at in cc)
  rest_of_new h m xs ys (Some last) all is = λ k l at. all k l (ap (λ (z : List (Lane P G)). slice_get z k) is ∙ get_longer ys (last ∷ []) k l at)
