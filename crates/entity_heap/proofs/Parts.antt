-- What the writer's loops keep.
use Rattle.std.proofs.Common.{◌≡◌, ℕ, zero, suc, ◌+◌, ◌-◌, ◌*◌, ◌/◌, ◌%◌, ◌<◌, Bool, true, false, List, [], ◌∷◌, ◌++◌, length, map, replicate, set, get_or, slice_get, refl, sym, ap, ◌∙◌, ⊎_elim, arith, Option, Some, get_or-set_same, get_or-set_other}
use Rattle.std.specs.Prelude.{option_to_list}
use mathlib.Core.Logic.{dite}
use native.Mathlib.Decide.{ℕ_discrete}
use Rattle.std.specs.Arc.{arc_value}
use Rattle.std.specs.declared.sync.Arc.{Arc}
use Rattle.heap_core.specs.Meaning.{none_of, stamped}
use Rattle.entity_heap.specs.Rule.{word_for}
use Rattle.entity_heap.specs.Plans.{new_words, restored}
use Rattle.entity_heap.specs.Starts.{AreShares}
use Rattle.entity_heap.proofs.Lists.{not_both, same_some, at_more, get_longer, get_last}
use Rattle.entity_heap.proofs.Plans.{restored_here, restored_else}

module _ {P Z : Type 0} where
  pub shares_more : (x : P) (xs ys : List (Arc P Z)) (a : Arc P Z) → AreShares x xs → arc_value a ≡ x → ys ≡ xs ++ a ∷ [] → AreShares x ys
  shares_more x xs ys a all here is = λ i b at. ⊎_elim (all i b) (λ (t : (i ≡ length xs) × (a ≡ b)). ap arc_value (sym t.1) ∙ here) (at_more xs a b i (ap (λ (zs : List (Arc P Z)). slice_get zs i) (sym is) ∙ at))

  pub shares_less : (x : P) (xs ys : List (Arc P Z)) (o : Option (Arc P Z)) (a : Arc P Z) → AreShares x xs → xs ≡ ys ++ option_to_list o → o ≡ Some a → AreShares x ys × (arc_value a ≡ x)
  shares_less x xs ys o a all is some =
      let is' : xs ≡ ys ++ a ∷ [] = is ∙ ap (λ (z : Option (Arc P Z)). ys ++ option_to_list z) some in
      (λ i b at. all i b (ap (λ (zs : List (Arc P Z)). slice_get zs i) is' ∙ get_longer ys (a ∷ []) i b at), all (length ys) a (ap (λ (zs : List (Arc P Z)). slice_get zs (length ys)) is' ∙ get_last ys a (length ys) refl))

-- none of these is true
pub all_false : (bs cs : List Bool) → length bs ≡ length cs → ((k : ℕ) → k < length bs → get_or bs k false ≡ false) → bs ≡ none_of cs
all_false [] [] same none = refl
all_false [] (c ∷ cs) same none = absurd (omega arith)
all_false (b ∷ bs) [] same none = absurd (omega arith)
all_false (b ∷ bs) (c ∷ cs) same none = λ j. none 0 (omega arith) j ∷ all_false bs cs (omega arith) (λ k h. none (suc k) (omega arith)) j

module _ {A : Type 0} where
  pub same_list : (xs ys : List A) → length xs ≡ length ys → ((k : ℕ) → slice_get xs k ≡ slice_get ys k) → xs ≡ ys
  same_list [] [] same each = refl
  same_list [] (y ∷ ys) same each = absurd (omega arith)
  same_list (x ∷ xs) [] same each = absurd (omega arith)
  same_list (x ∷ xs) (y ∷ ys) same each = λ j. same_some (Some x) x y refl (each 0) j ∷ same_list xs ys (omega arith) (λ k. each (suc k)) j

-- where none is staged, the words stay
pub words_stay : (c : ℕ) (bs : List Bool) (ws : List ℕ) → ((k : ℕ) → k < length bs → get_or bs k false ≡ false) → new_words c bs ws ≡ ws
words_stay c [] ws none = refl
words_stay c (b ∷ bs) [] none = refl
words_stay c (b ∷ bs) (w ∷ ws) none = λ j. ap (λ (z : Bool). word_for c z w) (none 0 (omega arith)) j ∷ words_stay c bs ws (λ k h. none (suc k) (omega arith)) j

-- a word that is renewed is not staged any more
pub words_moved : (c : ℕ) (bs : List Bool) (ws : List ℕ) (e w : ℕ) → get_or bs e false ≡ true → e < length ws → w ≡ word_for c true (get_or ws e 0) → new_words c (set bs e false) (set ws e w) ≡ new_words c bs ws
words_moved c [] ws e w up inside is = not_both false up refl
words_moved c (b ∷ bs) [] e w up inside is = absurd (omega arith)
words_moved c (b ∷ bs) (v ∷ ws) zero w up inside is = λ j. (is ∙ ap (λ (z : Bool). word_for c z v) (sym up)) j ∷ new_words c bs ws
words_moved c (b ∷ bs) (v ∷ ws) (suc e) w up inside is = λ j. word_for c b v ∷ words_moved c bs ws e w up (omega arith) is j

module _ {P : Type 0} where
  -- an entity more has its committed payload
  pub restored_more : (cs xs : List P) (bs : List Bool) (e : ℕ) → length cs ≡ length xs → ((k : ℕ) → get_or bs k false ≡ false → slice_get xs k ≡ slice_get cs k)
      → (k : ℕ) → get_or (set bs e false) k false ≡ false → slice_get (restored cs xs e) k ≡ slice_get cs k
  restored_more cs xs bs e same old k down = dite (ℕ_discrete k e)
      (λ (i : k ≡ e). ap (slice_get (restored cs xs e)) i ∙ (restored_here cs xs e same ∙ ap (slice_get cs) (sym i)))
      (λ ne. restored_else cs xs e k ne ∙ old k (sym (get_or-set_other bs e k false false ne) ∙ down))

module _ {A : Type 0} where
  pub unstaged_all : (bs : List Bool) (xs ys : List A) → length xs ≡ length bs → length ys ≡ length bs → ((e : ℕ) → slice_get bs e ≡ Some false → slice_get xs e ≡ slice_get ys e) → (e : ℕ) → get_or bs e false ≡ false → slice_get xs e ≡ slice_get ys e
  unstaged_all [] [] [] l m same e off = refl
  unstaged_all [] (x ∷ xs) ys l m same e off = absurd (omega arith)
  unstaged_all [] [] (y ∷ ys) l m same e off = absurd (omega arith)
  unstaged_all (b ∷ bs) [] ys l m same e off = absurd (omega arith)
  unstaged_all (b ∷ bs) (x ∷ xs) [] l m same e off = absurd (omega arith)
  unstaged_all (b ∷ bs) (x ∷ xs) (y ∷ ys) l m same zero off = same 0 (ap (λ (z : Bool). Some z) off)
  unstaged_all (b ∷ bs) (x ∷ xs) (y ∷ ys) l m same (suc e) off = unstaged_all bs xs ys (omega arith) (omega arith) (λ k h. same (suc k) h) e off

  pub get_any : (xs : List A) (i : ℕ) (d d' : A) → i < length xs → get_or xs i d ≡ get_or xs i d'
  get_any [] i d d' h = absurd (omega arith)
  get_any (x ∷ xs) zero d d' h = refl
  get_any (x ∷ xs) (suc i) d d' h = get_any xs i d d' (omega arith)

-- none is true, and past the end there is none
pub none_here : (bs : List Bool) (k : ℕ) → ((i : ℕ) → i < length bs → get_or bs i false ≡ false) → get_or bs k false ≡ false
none_here [] k none = refl
none_here (b ∷ bs) zero none = none 0 (omega arith)
none_here (b ∷ bs) (suc k) none = none_here bs k (λ i h. none (suc i) (omega arith))

-- the versions that the words have, after a commit
pub halves_new : (c : ℕ) (bs : List Bool) (ws : List ℕ) → stamped (c + 1) bs (map (λ k. k / 2) ws) ≡ map (λ k. k / 2) (new_words c bs ws)
halves_new c [] ws = refl
halves_new c (b ∷ bs) [] = refl
halves_new c (true ∷ bs) (w ∷ ws) = let h : c + 1 ≡ (2 * (c + 1) + (1 - w % 2)) / 2 = omega arith in λ j. h j ∷ halves_new c bs ws j
halves_new c (false ∷ bs) (w ∷ ws) = λ j. w / 2 ∷ halves_new c bs ws j

pub halves_zero : (n : ℕ) → map (λ k. k / 2) (replicate n 0) ≡ replicate n 0
halves_zero zero = refl
halves_zero (suc n) = ap (λ (xs : List ℕ). 0 ∷ xs) (halves_zero n)
