-- Lists that a loop makes of the elements so far.
use Rattle.std.proofs.Common.{◌≡◌, ℕ, ◌+◌, ◌<◌, Bool, true, false, cond, Option, Some, None, List, [], ◌∷◌, ◌++◌, map, filter, length, take, get_or, take-suc, add-one, refl, sym, ap, ◌∙◌, append_assoc, append-nil}
use Rattle.std.specs.List.{flat_map, filter_map, cons_option}
use Rattle.std.specs.Option.{option_to_list}
use Rattle.std.proofs.lemmas.List.{map-append}
use Rattle.std.proofs.lemmas.List.Elements.{filter_map-append}
use Rattle.check_values.specs.Rows.{Bytes, Rows}
use Rattle.named_rows.specs.Seen.{seen}
use Rattle.named_rows.proofs.Lists.{flat_last, seen_more, filter_last}

one : {A B : Type 0} (g : A → Option B) (x : A) → filter_map g (x ∷ []) ≡ option_to_list (g x)
one {A} {B} g x = go (g x)
  where
    go : (o : Option B) → cons_option o [] ≡ option_to_list o
    go None = refl
    go (Some y) = refl

-- ---- the rows so far

module _ {A B : Type 0} (f : A → B) (rows : Rows A) (i : ℕ) (row : Bytes × A) (within : i < length rows) (at : row ≡ get_or rows i row) where
  pub seen_next : seen f (take (i + 1) rows) ≡ seen f (take i rows) ++ (row.0, f row.1) ∷ []
  seen_next =
      ap (λ (k : ℕ). seen f (take k rows)) (add-one i) ∙ ap (seen f) (take-suc rows i row within ∙ ap (λ (r : Bytes × A). take i rows ++ r ∷ []) (sym at))
      ∙ seen_more f (take i rows) row

  pub mapped_next : {C : Type 0} (g : Bytes × B → C) (before after : List C) → before ≡ map g (seen f (take i rows)) → after ≡ before ++ g (row.0, f row.1) ∷ [] → after ≡ map g (seen f (take (i + 1) rows))
  mapped_next {C} g before after is pushed = pushed ∙ ap (λ (l : List C). l ++ g (row.0, f row.1) ∷ []) is ∙ sym (map-append g (seen f (take i rows)) ((row.0, f row.1) ∷ [])) ∙ ap (map g) (sym seen_next)

  pub joined_next : {C : Type 0} (g : Bytes × B → List C) (before after : List C) → before ≡ flat_map g (seen f (take i rows)) → after ≡ before ++ g (row.0, f row.1) → after ≡ flat_map g (seen f (take (i + 1) rows))
  joined_next {C} g before after is pushed = pushed ∙ ap (λ (l : List C). l ++ g (row.0, f row.1)) is ∙ sym (flat_last g (seen f (take i rows)) (row.0, f row.1)) ∙ ap (flat_map g) (sym seen_next)

  pub chosen_next : {C : Type 0} (g : Bytes × B → Option C) (before after : List C) → before ≡ filter_map g (seen f (take i rows)) → after ≡ before ++ option_to_list (g (row.0, f row.1)) → after ≡ filter_map g (seen f (take (i + 1) rows))
  chosen_next {C} g before after is pushed = pushed ∙ ap (λ (l : List C). l ++ option_to_list (g (row.0, f row.1))) is ∙ ap (λ (l : List C). filter_map g (seen f (take i rows)) ++ l) (sym (one g (row.0, f row.1))) ∙ sym (filter_map-append g (seen f (take i rows)) ((row.0, f row.1) ∷ [])) ∙ ap (filter_map g) (sym seen_next)

-- those that pass a test, with one element more
pub filter_more : {A : Type 0} (p : A → Bool) (xs : List A) (i : ℕ) (d : A) → i < length xs → filter p (take (i + 1) xs) ≡ filter p (take i xs) ++ cond (p (get_or xs i d)) (get_or xs i d ∷ []) []
filter_more p xs i d within = ap (λ (k : ℕ). filter p (take k xs)) (add-one i) ∙ ap (filter p) (take-suc xs i d within) ∙ filter_last p (take i xs) (get_or xs i d)
