-- Flags that are turned on number by number, and the rows beside those that are off.
use Rattle.std.proofs.Common.{◌≡◌, ℕ, zero, suc, ◌+◌, ◌<◌, ◌≤◌, Bool, true, false, List, [], ◌∷◌, ◌++◌, length, set, take, get_or, slice_get, replicate, Option, Some, None, refl, sym, ap, ◌∙◌, subst, inl, inr, arith, length-set}
use Rattle.std.proofs.lemmas.Bool.{cases_lt}
use Rattle.std.proofs.lemmas.List.{length-replicate}
use Rattle.std.proofs.lemmas.Option.{none-some, same_Some, slice_get-get_or}
use mathlib.Core.Logic.{dite}
use native.Mathlib.Decide.{ℕ_discrete}
use Rattle.heap_core.proofs.Lists.{put_here, put_else}
use Rattle.graph_search.specs.Cycles.{IsOn}
use Rattle.graph_search.proofs.Fills.{get-replicate}
use Rattle.moved_paths.specs.Flags.{where_off, IsAmongFirst, AreMet}

-- ---- flags turned on

pub none_met : (from : List (Option ℕ)) (many : ℕ) (flags : List Bool) → flags ≡ replicate many false → AreMet from many 0 flags
none_met from many flags is = subst (AreMet from many 0) (sym is) (record {
  as_many = length-replicate many false;
  sound = λ o on. absurd (let z : true ≡ false = get-replicate many o false true on in cc);
  complete = λ o low first. absurd (let l = first.1 in omega (arith, l));
})

module _ (from : List (Option ℕ)) (many i : ℕ) (flags : List Bool) (low : i < length from) (met : AreMet from many i flags) where
  number_at : (number : Option ℕ) → get_or from i None ≡ number → slice_get from i ≡ Some number
  number_at number is = slice_get-get_or from i None low ∙ ap Some is

  later : (o : ℕ) → IsAmongFirst from i o → IsAmongFirst from (i + 1) o
  later o first = (first.0, (let l = first.1 in omega (arith, l)), first.2)

  -- what is among the first ones, with one more, was among them before or is the last one
  earlier : (o : ℕ) → IsAmongFirst from (i + 1) o → (slice_get from i ≡ Some (Some o) → IsOn flags o) → o < many → IsOn flags o
  earlier o first last small = elim (cases_lt first.0 i) [
    | inl before ↦ met.complete o small (first.0, before, first.2)
    | inr behind ↦ last (let l = first.1 in let same : i ≡ first.0 = omega (arith, behind, l) in ap (slice_get from) same ∙ first.2)
  ]

  -- the flags stay, where the number is none of theirs
  same_flags : ((o : ℕ) → o < many → slice_get from i ≡ Some (Some o) → IsOn flags o) → AreMet from many (i + 1) flags
  same_flags last = record {
    as_many = met.as_many;
    sound = λ o on. later o (met.sound o on);
    complete = λ o small first. earlier o first (last o small) small;
  }

  none_told : get_or from i None ≡ None → AreMet from many (i + 1) flags
  none_told none = same_flags (λ o small at. absurd (none-some o (same_Some None (Some o) (sym (number_at None none) ∙ at))))

  past_told : (n : ℕ) → get_or from i None ≡ Some n → many ≤ n → AreMet from many (i + 1) flags
  past_told n is past = same_flags (λ o small at. absurd (
      let same : n ≡ o = same_Some n o (same_Some (Some n) (Some o) (sym (number_at (Some n) is) ∙ at)) in
      omega (arith, past, small, same)))

  one_told : (n : ℕ) → get_or from i None ≡ Some n → n < many → AreMet from many (i + 1) (set flags n true)
  one_told n is small = record {
    as_many = length-set flags n true ∙ met.as_many;
    sound = λ o on. dite (ℕ_discrete o n) (λ same. here o same) (λ other. later o (met.sound o (sym (put_else flags n o true other) ∙ on)));
    complete = λ o inside first. dite (ℕ_discrete o n) (λ same. on_there o same) (λ other. put_else flags n o true other ∙ earlier o first (λ at. absurd (other (sym (same_Some n o (same_Some (Some n) (Some o) (sym (number_at (Some n) is) ∙ at)))))) inside);
  }
    where
      here : (o : ℕ) → o ≡ n → IsAmongFirst from (i + 1) o
      here o same = (i, omega arith, number_at (Some n) is ∙ ap (λ (k : ℕ). Some (Some k)) (sym same))

      on_there : (o : ℕ) → o ≡ n → IsOn (set flags n true) o
      on_there o same = ap (slice_get (set flags n true)) same ∙ put_here flags n true (let m = met.as_many in omega (arith, m, small))

pub none_more : (from : List (Option ℕ)) (i : ℕ) (flags : List Bool) → i < length from → AreMet from (length flags) i flags → get_or from i None ≡ None → AreMet from (length flags) (i + 1) flags
none_more from i flags low met none = none_told from (length flags) i flags low met none

pub one_more : (from : List (Option ℕ)) (i n : ℕ) (flags : List Bool) → i < length from → AreMet from (length flags) i flags → get_or from i None ≡ Some n → n < length flags → AreMet from (length flags) (i + 1) (set flags n true)
one_more from i n flags low met is small = one_told from (length flags) i flags low met n is small

pub past_more : (from : List (Option ℕ)) (i n : ℕ) (flags : List Bool) → i < length from → AreMet from (length flags) i flags → get_or from i None ≡ Some n → length flags ≤ n → AreMet from (length flags) (i + 1) flags
past_more from i n flags low met is past = past_told from (length flags) i flags low met n is past

-- ---- rows beside flags

module _ {X : Type 0} where
  off_append : (flags : List Bool) (rows : List X) (f : Bool) (x : X) → length flags ≡ length rows → where_off (flags ++ f ∷ []) (rows ++ x ∷ []) ≡ where_off flags rows ++ where_off (f ∷ []) (x ∷ [])
  off_append [] [] f x many = refl
  off_append [] (y ∷ rows) f x many = absurd (omega (arith, many))
  off_append (g ∷ flags) [] f x many = absurd (omega (arith, many))
  off_append (true ∷ flags) (y ∷ rows) f x many = off_append flags rows f x (omega (arith, many))
  off_append (false ∷ flags) (y ∷ rows) f x many = ap (λ (l : List X). y ∷ l) (off_append flags rows f x (omega (arith, many)))

  take_next : (xs : List X) (i : ℕ) (x : X) → slice_get xs i ≡ Some x → take (suc i) xs ≡ take i xs ++ x ∷ []
  take_next [] i x at = absurd (none-some x at)
  take_next (y ∷ xs) zero x at = ap (λ (z : X). z ∷ []) (same_Some y x at)
  take_next (y ∷ xs) (suc i) x at = ap (λ (l : List X). y ∷ l) (take_next xs i x at)

  take_length : (xs : List X) (i : ℕ) → i ≤ length xs → length (take i xs) ≡ i
  take_length xs zero le = refl
  take_length [] (suc i) le = absurd (omega (arith, le))
  take_length (x ∷ xs) (suc i) le = ap suc (take_length xs i (omega (arith, le)))

  take_whole : (xs : List X) → take (length xs) xs ≡ xs
  take_whole [] = refl
  take_whole (x ∷ xs) = ap (λ (l : List X). x ∷ l) (take_whole xs)

first_flags : (flags : List Bool) (i : ℕ) (f : Bool) → slice_get flags i ≡ Some f → take (suc i) flags ≡ take i flags ++ f ∷ []
first_flags flags i f at = take_next flags i f at

pub off_next : {X : Type 0} (flags : List Bool) (rows : List X) (i : ℕ) (f : Bool) (x : X) (old new : List X) → length flags ≡ length rows → i < length rows → slice_get rows i ≡ Some x → slice_get flags i ≡ Some f → old ≡ where_off (take i flags) (take i rows)
    → new ≡ old ++ where_off (f ∷ []) (x ∷ []) → new ≡ where_off (take (i + 1) flags) (take (i + 1) rows)
off_next {X} flags rows i f x old new many low at_row at_flag so_far pushed =
    let n : suc i ≡ i + 1 = omega arith in
    let lens : length (take i flags) ≡ length (take i rows) = take_length flags i (omega (arith, many, low)) ∙ sym (take_length rows i (omega (arith, low))) in
    pushed ∙ (ap (λ (l : List X). l ++ where_off (f ∷ []) (x ∷ [])) so_far ∙ (sym (off_append (take i flags) (take i rows) f x lens)
    ∙ ((λ j. where_off (sym (first_flags flags i f at_flag) j) (sym (take_next rows i x at_row) j)) ∙ ap (λ (k : ℕ). where_off (take k flags) (take k rows)) n)))

pub off_all : {X : Type 0} (flags : List Bool) (rows modules : List X) (i : ℕ) → length flags ≡ length rows → i ≡ length rows → modules ≡ where_off (take i flags) (take i rows) → modules ≡ where_off flags rows
off_all {X} flags rows modules i many whole is =
    is ∙ (ap (λ (k : ℕ). where_off (take k flags) (take k rows)) whole ∙ (λ j. where_off ((ap (λ (k : ℕ). take k flags) (sym many) ∙ take_whole flags) j) (take_whole rows j)))
