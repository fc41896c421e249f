-- Numbers of names where one name gets the next number.
use Rattle.std.proofs.Common.{◌≡◌, ◌≤◌, ◌<◌, ◌⊎◌, ℕ, zero, suc, Bool, true, false, List, [], ◌∷◌, ◌++◌, length, Option, Some, None, refl, sym, ap, ◌∙◌, subst, inl, inr, arith}
use Rattle.std.specs.List.{slice_get}
use Rattle.std.specs.Map.{lookup}
use Rattle.std.specs.Ordering.{nat_cmp}
use Rattle.std.specs.Cmp.Lexicographic.{slice_cmp}
use Rattle.std.specs.BTreeMap.{BTreeMap, get, is_at}
use Rattle.std.proofs.lemmas.List.{length-append}
use Rattle.std.proofs.lemmas.Option.{slice_get_within}
use Rattle.alias_table.specs.Aliases.{is_text}
use Rattle.alias_table.proofs.Texts.{same_text}
use Rattle.fact_trail.specs.declared.trail.Trail.{Trail}
use Rattle.fact_trail.specs.declared.slot.Slot.TheVariants.{Variable, Property}
use Rattle.fact_trail.specs.declared.slot.Slot.{Slot}
use Rattle.fact_trail.specs.Moments.{IsNew}
use Rattle.refine_flow.specs.declared.names.Names.{Names}
use Rattle.refine_flow.specs.Numbers.{number_of, names_len, GrowsNames, IsBeyond}

abbrev Numbers : Type 0
Numbers = List ℕ → Option ℕ

-- a number is that of its name
abbrev pub AreTold : Numbers → List (List ℕ) → Type 0
AreTold f texts = (x : List ℕ) (n : ℕ) → f x ≡ Some n → slice_get texts n ≡ Some x

-- each name has its number
abbrev pub AreNumbered : Numbers → List (List ℕ) → Type 0
AreNumbered f texts = (n : ℕ) (x : List ℕ) → slice_get texts n ≡ Some x → f x ≡ Some n

pub some_same : {A : Type 0} (x y : A) → Some x ≡ Some y → x ≡ y
some_same x y is = cc

get_front : (xs ys : List (List ℕ)) (n : ℕ) (x : List ℕ) → slice_get xs n ≡ Some x → slice_get (xs ++ ys) n ≡ Some x
get_front [] ys n x is = cc
get_front (y ∷ xs) ys zero x is = is
get_front (y ∷ xs) ys (suc n) x is = get_front xs ys n x is

get_end : (xs : List (List ℕ)) (x : List ℕ) → slice_get (xs ++ x ∷ []) (length xs) ≡ Some x
get_end [] x = refl
get_end (y ∷ xs) x = get_end xs x

get_more : (xs : List (List ℕ)) (key : List ℕ) (n : ℕ) (x : List ℕ) → slice_get (xs ++ key ∷ []) n ≡ Some x → (slice_get xs n ≡ Some x) ⊎ ((n ≡ length xs) × (key ≡ x))
get_more [] key zero x is = inr (refl, some_same key x is)
get_more [] key (suc n) x is = cc
get_more (y ∷ xs) key zero x is = inl is
get_more (y ∷ xs) key (suc n) x is = at (get_more xs key n x is)
  where
    at : (slice_get xs n ≡ Some x) ⊎ ((n ≡ length xs) × (key ≡ x)) → (slice_get xs n ≡ Some x) ⊎ ((suc n ≡ suc (length xs)) × (key ≡ x))
    at (inl before) = inl before
    at (inr last) = inr (ap suc last.0, last.1)

pub grown : (f g : Numbers) (key : List ℕ) (n : ℕ) → f key ≡ None → ((x : List ℕ) → is_text key x ≡ false → g x ≡ f x) → g key ≡ Some n → (x : List ℕ) →
    (g x ≡ f x) ⊎ ((f x ≡ None) × (m : ℕ) × (g x ≡ Some m) × (n ≤ m))
grown f g key n none others there x = at (is_text key x) refl
  where
    at : (b : Bool) → is_text key x ≡ b → (g x ≡ f x) ⊎ ((f x ≡ None) × (m : ℕ) × (g x ≡ Some m) × (n ≤ m))
    at false other = inl (others x other)
    at true same = let is = same_text key x same in inr (sym (ap f is) ∙ none, n, sym (ap g is) ∙ there, omega arith)

pub still_told : (f g : Numbers) (texts : List (List ℕ)) (key : List ℕ) → AreTold f texts → ((x : List ℕ) → is_text key x ≡ false → g x ≡ f x) → g key ≡ Some (length texts) → AreTold g (texts ++ key ∷ [])
still_told f g texts key told others there x n is = at (is_text key x) refl
  where
    at : (b : Bool) → is_text key x ≡ b → slice_get (texts ++ key ∷ []) n ≡ Some x
    at false other = get_front texts (key ∷ []) n x (told x n (sym (others x other) ∙ is))
    at true same =
        let equal = same_text key x same in
        let last = some_same (length texts) n (sym there ∙ ap g equal ∙ is) in
        ap (slice_get (texts ++ key ∷ [])) (sym last) ∙ get_end texts key ∙ ap Some equal

pub still_numbered : (f g : Numbers) (texts : List (List ℕ)) (key : List ℕ) → AreNumbered f texts → f key ≡ None → ((x : List ℕ) → is_text key x ≡ false → g x ≡ f x) → g key ≡ Some (length texts) → AreNumbered g (texts ++ key ∷ [])
still_numbered f g texts key numbered none others there n x is = at (get_more texts key n x is)
  where
    at : (slice_get texts n ≡ Some x) ⊎ ((n ≡ length texts) × (key ≡ x)) → g x ≡ Some n
    at (inr last) = ap g (sym last.1) ∙ there ∙ ap Some (sym last.0)
    at (inl before) = by (is_text key x) refl
      where
        by : (b : Bool) → is_text key x ≡ b → g x ≡ Some n
        by false other = others x other ∙ numbered n x before
        by true same = absurd (let clash : None ≡ Some n = sym none ∙ ap f (same_text key x same) ∙ numbered n x before in cc)

-- the next number goes to a name that has none
pub names_told : (f g : Numbers) (texts more : List (List ℕ)) (name key : List ℕ) (n : ℕ) → more ≡ texts ++ name ∷ [] → key ≡ name → n ≡ length texts → AreTold f texts → ((x : List ℕ) → is_text key x ≡ false → g x ≡ f x) → g key ≡ Some n → AreTold g more
names_told f g texts more name key n are key_is last told others there = subst (AreTold g) (sym (are ∙ ap (λ x. texts ++ x ∷ []) (sym key_is))) (still_told f g texts key told others (there ∙ ap Some last))

pub names_numbered : (f g : Numbers) (texts more : List (List ℕ)) (name key : List ℕ) (n : ℕ) → more ≡ texts ++ name ∷ [] → key ≡ name → n ≡ length texts → f name ≡ None → AreNumbered f texts → ((x : List ℕ) → is_text key x ≡ false → g x ≡ f x) →
    g key ≡ Some n → AreNumbered g more
names_numbered f g texts more name key n are key_is last none numbered others there =
    subst (AreNumbered g) (sym (are ∙ ap (λ x. texts ++ x ∷ []) (sym key_is))) (still_numbered f g texts key numbered (ap f key_is ∙ none) others (there ∙ ap Some last))

pub names_grown : (old : Names) (g : Numbers) (more : List (List ℕ)) (name key : List ℕ) (n : ℕ) → more ≡ old.texts.items ++ name ∷ [] → key ≡ name → n ≡ length old.texts.items → number_of old name ≡ None →
    ((x : List ℕ) → is_text key x ≡ false → g x ≡ number_of old x) → g key ≡ Some n →
    (names_len old ≤ length more) × ((x : List ℕ) → (g x ≡ number_of old x) ⊎ ((number_of old x ≡ None) × (m : ℕ) × (g x ≡ Some m) × (names_len old ≤ m)))
names_grown old g more name key n are key_is last none others there = (
  omega (arith, ap length are ∙ length-append old.texts.items (name ∷ [])),
  λ x. at x (grown (number_of old) g key n (ap (number_of old) key_is ∙ none) others there x),
)
  where
    at : (x : List ℕ) → (g x ≡ number_of old x) ⊎ ((number_of old x ≡ None) × (m : ℕ) × (g x ≡ Some m) × (n ≤ m)) → (g x ≡ number_of old x) ⊎ ((number_of old x ≡ None) × (m : ℕ) × (g x ≡ Some m) × (names_len old ≤ m))
    at x (inl same) = inl same
    at x (inr given) = inr (given.0, given.1, given.2, let more = given.3 in omega (arith, more, last))

-- names that stay
pub names_kept : (old new : Names) → new.texts.items ≡ old.texts.items → new.numbers.entries ≡ old.numbers.entries → GrowsNames old new
names_kept old new texts same = (omega (arith, ap length texts), λ x. inl (ap (λ es. lookup (is_at (slice_cmp nat_cmp x)) es) same))

-- ---- no names

pub no_number : (numbers : BTreeMap (List ℕ) ℕ) → numbers.entries ≡ [] → (x : List ℕ) → get (slice_cmp nat_cmp) numbers x ≡ None
no_number numbers empty x = ap (lookup (is_at (slice_cmp nat_cmp x))) empty

pub nothing_told : (numbers : BTreeMap (List ℕ) ℕ) (texts : List (List ℕ)) → numbers.entries ≡ [] → (x : List ℕ) (n : ℕ) → get (slice_cmp nat_cmp) numbers x ≡ Some n → slice_get texts n ≡ Some x
nothing_told numbers texts empty x n is = absurd (let clash : None ≡ Some n = sym (no_number numbers empty x) ∙ is in cc)

pub nothing_numbered : (numbers : BTreeMap (List ℕ) ℕ) (texts : List (List ℕ)) → texts ≡ [] → (n : ℕ) (x : List ℕ) → slice_get texts n ≡ Some x → get (slice_cmp nat_cmp) numbers x ≡ Some n
nothing_numbered numbers texts empty n x is = absurd (let clash : None ≡ Some x = sym (ap (λ l. slice_get l n) empty) ∙ is in cc)

-- ---- names that have numbers

-- a number is below how many there are
pub number_below : (names : Names) (x : List ℕ) (n : ℕ) → number_of names x ≡ Some n → n < names_len names
number_below names x n is = slice_get_within names.texts.items n x (names.told x n is)

-- no two names have one number
pub names_apart : (names : Names) (x y : List ℕ) (n : ℕ) → number_of names x ≡ Some n → number_of names y ≡ Some n → x ≡ y
names_apart names x y n first second = some_same x y (sym (names.told x n first) ∙ names.told y n second)

pub beyond_before : (old new : Names) (s : Slot) → names_len old ≤ names_len new → IsBeyond new s → IsBeyond old s
beyond_before old new (Variable b) more beyond = beyond
beyond_before old new (Property k) more beyond = omega (arith, more, beyond)

-- more names with numbers
pub tidy_grown : (old new : Names) (trail : Trail) → GrowsNames old new → ((s : Slot) → IsBeyond old s → IsNew s trail) → (s : Slot) → IsBeyond new s → IsNew s trail
tidy_grown old new trail grows tidy s beyond = tidy s (beyond_before old new s grows.0 beyond)
