-- Nothing is asked: all lanes stay as they are, and there is nothing to tell.
use Rattle.std.proofs.Common.{◌≡◌, ℕ, suc, ◌≤◌, List, [], ◌∷◌, length, refl, sym, ◌∙◌, subst, arith, Bool, true}
use Rattle.std.specs.Prelude.{◌==◌}
use Rattle.std.proofs.lemmas.Bool.Decides.{nat_tests}
use Rattle.std.specs.List.{AllZip}
use Rattle.heap_core.specs.declared.traits.Program.{Ghosts}
use Rattle.entity_heap.specs.declared.heap.Heap.{Heap}
use Rattle.entity_heap.specs.declared.heap.Lane.{Lane}
use Rattle.entity_heap.specs.Lanes.{visit_in}
use Rattle.lane_asks.specs.Telling.{AreTold, RowTold, AllTold, IsReady, IsSameLane}
use Rattle.lane_asks.specs.declared.dealing.Row.{Row}
use Rattle.lane_asks.specs.declared.told.Told.{Told}

empty : {Q : Type 0} (asks : List Q) (t : Bool) → t ≡ (length asks == 0) → t ≡ true → asks ≡ []
empty [] t is on = refl
empty (a ∷ asks) t is on = absurd (let z : (suc (length asks) == 0) ≡ true = sym is ∙ on in let n = never (length asks) z in omega (arith, n))
  where
    never : (n : ℕ) → (suc n == 0) ≡ true → 1 ≤ 0
    never n z = grind (arith, nat_tests)

pub lanes_stay : {P Q X : Type 0} {G : Ghosts P} (h : Heap P) (asks : List Q) (ls : List (Lane P G)) (rows : List (Row X)) → AllZip (IsReady h asks) ls rows → AllZip (IsSameLane h) ls ls
lanes_stay h asks [] [] ready = tt
lanes_stay h asks [] (r ∷ rows) ready = absurd ready
lanes_stay h asks (l ∷ ls) [] ready = absurd ready
lanes_stay h asks (l ∷ ls) (r ∷ rows) ready = ((ready.0.0.0, refl), lanes_stay h asks ls rows ready.1)

module _ {P A Q X : Type 0} {G : Ghosts P} (answers : List P → Q → X → Type 0) (works : Q → X → A → A → Type 0) (h : Heap P) where
  row_stays : (l : Lane P G) (a : A) (r : Row (Told X)) → r.told.items ≡ [] → RowTold answers works [] l l a a r r
  row_stays l a r bare = subst (λ (told : List (Told X)). AreTold answers works (visit_in l) (visit_in l) a a [] told) (sym bare) (refl, refl)

  rows_stay : (ls : List (Lane P G)) (every : List A) (rows : List (Row (Told X))) → length every ≡ length ls → AllZip (IsReady {Q = Q} h []) ls rows → AllTold answers works [] ls ls every every rows rows
  rows_stay [] [] [] long ready = tt
  rows_stay [] [] (r ∷ rows) long ready = absurd ready
  rows_stay [] (a ∷ every) rows long ready = absurd (omega arith)
  rows_stay (l ∷ ls) [] rows long ready = absurd (omega arith)
  rows_stay (l ∷ ls) (a ∷ every) [] long ready = absurd ready
  rows_stay (l ∷ ls) (a ∷ every) (r ∷ rows) long ready = (row_stays l a r ready.0.1.1, rows_stay ls every rows (omega arith) ready.1)

  pub nothing_told : (asks : List Q) (ls : List (Lane P G)) (every : List A) (rows : List (Row (Told X))) (t : Bool) → t ≡ (length asks == 0) → t ≡ true → length every ≡ length ls → AllZip (IsReady h asks) ls rows → AllTold answers works asks ls ls every every rows rows
  nothing_told asks ls every rows t is on long ready =
      let none : asks ≡ [] = empty asks t is on in
      subst (λ (l : List Q). AllTold answers works l ls ls every every rows rows) (sym none)
      (rows_stay ls every rows long (subst (λ (l : List Q). AllZip (IsReady h l) ls rows) none ready))
