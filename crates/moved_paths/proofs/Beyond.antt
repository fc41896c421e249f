-- The modules of one root that another one does not have.
use Rattle.std.proofs.Common.{◌≡◌, ◌↔◌, ℕ, zero, suc, ◌<◌, Bool, true, false, not, cond, ◌||◌, List, [], ◌∷◌, length, map, slice_get, Option, Some, None, refl, sym, ap, ◌∙◌, subst, inl, inr, arith, bytes_eq}
use Rattle.std.specs.Prelude.{◌&&◌}
use Rattle.std.specs.Option.{is_some, option_map}
use Rattle.std.specs.Cmp.Lexicographic.{bytes_decides}
use Rattle.std.proofs.lemmas.Bool.{cases_Bool, false≢true}
use Rattle.std.proofs.lemmas.List.{length-map}
use Rattle.std.proofs.lemmas.Option.{none-some, same_Some}
use Rattle.flow_values.specs.Path.{IsRising}
use Rattle.flow_base.proofs.Rising.{IsBelowAll, below_all, rising_rest}
use Rattle.check_values.specs.Rows.{Bytes, is_among}
use Rattle.check_values.specs.Roots.{paths_of, paths_of_rows}
use Rattle.check_values.specs.declared.root.RootRow.{RootRow}
use Rattle.check_values.specs.declared.root.Root.{Root}
use Rattle.graph_search.specs.Cycles.{IsOn}
use Rattle.edited_root.specs.From.{number_in, numbers_from}
use Rattle.edited_root.proofs.Walked.{number_here}
use Rattle.moved_paths.specs.Flags.{where_off, AreMet}
use Rattle.moved_paths.specs.Moved.{AreBeyond, AreMoved}
use Rattle.moved_paths.specs.declared.moving.Moved.{Moved}

turned : (a b : Bytes) → bytes_eq a b ≡ bytes_eq b a
turned a b = elim (cases_Bool (bytes_eq a b)) [
  | inl same ↦ same ∙ sym ((bytes_decides b a).1 (sym ((bytes_decides a b).0 same)))
  | inr differ ↦ differ ∙ elim (cases_Bool (bytes_eq b a)) [
    | inl same ↦ absurd (false≢true (sym differ ∙ (bytes_decides a b).1 (sym ((bytes_decides b a).0 same))))
    | inr other ↦ sym other
  ]
]

-- ---- what is left out

module _ (others : Bytes → Bool) where
  abbrev flags_of : List RootRow → List Bool
  flags_of ms = map (λ m. others m.path) ms

  abbrev left : List RootRow → List RootRow
  left ms = where_off (flags_of ms) ms

  -- a path is among those that are left where it is one of them, and none of the others
  pub left_told : (ms : List RootRow) (path : Bytes) → is_among (paths_of_rows (left ms)) path ≡ (is_among (paths_of_rows ms) path && not (others path))
  left_told [] path = refl
  left_told (m ∷ ms) path = go (others m.path) refl (left_told ms path)
    where
      here : bytes_eq path m.path ≡ true → others m.path ≡ others path
      here same = ap others (sym ((bytes_decides path m.path).0 same))

      kept : (b c d r : Bool) → r ≡ (c && not d) → (b ≡ true → d ≡ false) → (b || r) ≡ ((b || c) && not d)
      kept true c true r rest off = absurd (false≢true (sym (off refl)))
      kept true c false r rest off = refl
      kept false c d r rest off = rest

      gone : (b c d r : Bool) → r ≡ (c && not d) → (b ≡ true → d ≡ true) → r ≡ ((b || c) && not d)
      gone true true true r rest on = rest
      gone true false true r rest on = rest
      gone true c false r rest on = absurd (false≢true (on refl))
      gone false c d r rest on = rest

      go : (f : Bool) → others m.path ≡ f → is_among (paths_of_rows (left ms)) path ≡ (is_among (paths_of_rows ms) path && not (others path)) → is_among (paths_of_rows (where_off (f ∷ flags_of ms) (m ∷ ms))) path ≡ (is_among (paths_of_rows (m ∷ ms)) path && not (others path))
      go true is rest = gone (bytes_eq path m.path) (is_among (paths_of_rows ms) path) (others path) (is_among (paths_of_rows (left ms)) path) rest (λ same. sym (here same) ∙ is)
      go false is rest = kept (bytes_eq path m.path) (is_among (paths_of_rows ms) path) (others path) (is_among (paths_of_rows (left ms)) path) rest (λ same. sym (here same) ∙ is)

-- what is left of rising paths rises
below_left : (path : Bytes) (flags : List Bool) (ms : List RootRow) → IsBelowAll path (paths_of_rows ms) → IsBelowAll path (paths_of_rows (where_off flags ms))
below_left path [] ms below = tt
below_left path (f ∷ flags) [] below = tt
below_left path (true ∷ flags) (m ∷ ms) below = below_left path flags ms below.1
below_left path (false ∷ flags) (m ∷ ms) below = (below.0, below_left path flags ms below.1)

rising_behind : (path : Bytes) (paths : List Bytes) → IsBelowAll path paths → IsRising paths → IsRising (path ∷ paths)
rising_behind path [] below rising = tt
rising_behind path (next ∷ paths) below rising = (below.0, rising)

rising_left : (flags : List Bool) (ms : List RootRow) → IsRising (paths_of_rows ms) → IsRising (paths_of_rows (where_off flags ms))
rising_left [] ms rising = tt
rising_left (f ∷ flags) [] rising = tt
rising_left (true ∷ flags) (m ∷ ms) rising = rising_left flags ms (rising_rest m.path (paths_of_rows ms) rising)
rising_left (false ∷ flags) (m ∷ ms) rising =
    rising_behind m.path (paths_of_rows (where_off flags ms)) (below_left m.path flags ms (below_all m.path (paths_of_rows ms) rising)) (rising_left flags ms (rising_rest m.path (paths_of_rows ms) rising))

-- ---- the flags

-- a path has a number where it is one of the paths
numbered : (ms : List RootRow) (path : Bytes) → is_some (number_in ms path) ≡ is_among (paths_of_rows ms) path
numbered [] path = refl
numbered (m ∷ ms) path = go (bytes_eq m.path path) (bytes_eq path m.path) (turned m.path path) (number_in ms path) (numbered ms path)
  where
    go : (b c : Bool) → b ≡ c → (n : Option ℕ) → is_some n ≡ is_among (paths_of_rows ms) path → is_some (cond b (Some 0) (option_map suc n)) ≡ (c || is_among (paths_of_rows ms) path)
    go true true e n rest = refl
    go true false e n rest = absurd (false≢true (sym e))
    go false true e n rest = absurd (false≢true e)
    go false false e None rest = rest
    go false false e (Some x) rest = rest

came_flags : (old : List RootRow) (new : List RootRow) → map is_some (map (λ (m : RootRow). number_in old m.path) new) ≡ flags_of (is_among (paths_of_rows old)) new
came_flags old [] = refl
came_flags old (m ∷ ms) = λ j. numbered old m.path j ∷ came_flags old ms j

-- a module that has a number stands there
stands : (ms : List RootRow) (path : Bytes) (o : ℕ) → number_in ms path ≡ Some o → slice_get (paths_of_rows ms) o ≡ Some path
stands [] path o is = absurd (none-some o is)
stands (m ∷ ms) path o is = go (bytes_eq m.path path) refl (number_in ms path) refl (stands ms path) is
  where
    go : (b : Bool) → bytes_eq m.path path ≡ b → (n : Option ℕ) → number_in ms path ≡ n → ((p : ℕ) → number_in ms path ≡ Some p → slice_get (paths_of_rows ms) p ≡ Some path) → cond b (Some 0) (option_map suc n) ≡ Some o
        → slice_get (m.path ∷ paths_of_rows ms) o ≡ Some path
    go true e n at rest h = subst (λ (k : ℕ). slice_get (m.path ∷ paths_of_rows ms) k ≡ Some path) (same_Some 0 o h) (ap Some ((bytes_decides m.path path).0 e))
    go false e None at rest h = absurd (none-some o h)
    go false e (Some p) at rest h = subst (λ (k : ℕ). slice_get (m.path ∷ paths_of_rows ms) k ≡ Some path) (same_Some (suc p) o h) (rest p at)

-- what stands where in a list that another one is made to
at_map : {X Y : Type 0} (f : X → Y) (xs : List X) (i : ℕ) (y : Y) → slice_get (map f xs) i ≡ Some y → (x : X) × (slice_get xs i ≡ Some x) × (f x ≡ y)
at_map f [] i y at = absurd (none-some y at)
at_map f (x ∷ xs) zero y at = (x, refl, same_Some (f x) y at)
at_map f (x ∷ xs) (suc i) y at = at_map f xs i y at

to_map : {X Y : Type 0} (f : X → Y) (xs : List X) (i : ℕ) (x : X) → slice_get xs i ≡ Some x → slice_get (map f xs) i ≡ Some (f x)
to_map f [] i x at = absurd (none-some x at)
to_map f (y ∷ xs) zero x at = ap (λ (z : _). Some (f z)) (same_Some y x at)
to_map f (y ∷ xs) (suc i) x at = to_map f xs i x at

among_at : (paths : List Bytes) (i : ℕ) (path : Bytes) → slice_get paths i ≡ Some path → is_among paths path ≡ true
among_at [] i path at = absurd (none-some path at)
among_at (p ∷ paths) zero path at = ap (λ (b : Bool). b || is_among paths path) ((bytes_decides path p).1 (sym (same_Some p path at)))
among_at (p ∷ paths) (suc i) path at = go (bytes_eq path p) (among_at paths i path at)
  where
    go : (b : Bool) → is_among paths path ≡ true → (b || is_among paths path) ≡ true
    go true rest = refl
    go false rest = rest

at_among : (paths : List Bytes) (path : Bytes) → is_among paths path ≡ true → (i : ℕ) × (slice_get paths i ≡ Some path)
at_among [] path is = absurd (false≢true is)
at_among (p ∷ paths) path is = go (bytes_eq path p) refl (at_among paths path) is
  where
    go : (b : Bool) → bytes_eq path p ≡ b → (is_among paths path ≡ true → (i : ℕ) × (slice_get paths i ≡ Some path)) → (b || is_among paths path) ≡ true → (i : ℕ) × (slice_get (p ∷ paths) i ≡ Some path)
    go true e rest h = (0, ap Some (sym ((bytes_decides path p).0 e)))
    go false e rest h = let r = rest h in (suc r.0, r.1)

-- flags that are on at the same places
same_flags : (xs ys : List Bool) → length xs ≡ length ys → ((i : ℕ) → i < length ys → IsOn xs i ↔ IsOn ys i) → xs ≡ ys
same_flags [] [] many same = refl
same_flags [] (y ∷ ys) many same = absurd (omega (arith, many))
same_flags (x ∷ xs) [] many same = absurd (omega (arith, many))
same_flags (x ∷ xs) (y ∷ ys) many same =
    let first = one x y (same 0 (omega arith)) in
    let rest = same_flags xs ys (omega (arith, many)) (λ i low. same (suc i) (omega (arith, low))) in
    λ j. first j ∷ rest j
  where
    one : (a b : Bool) → (Some a ≡ Some true) ↔ (Some b ≡ Some true) → a ≡ b
    one true true h = refl
    one true false h = absurd (false≢true (same_Some false true (h.0 refl)))
    one false true h = absurd (false≢true (same_Some false true (h.1 refl)))
    one false false h = refl

module _ (old new : Root) (rising : IsRising (paths_of old)) where
  abbrev number_of : RootRow → Option ℕ
  number_of m = number_in old.modules m.path

  went_flags : (flags : List Bool) → AreMet (numbers_from old new) (length old.modules) (length (numbers_from old new)) flags → flags ≡ flags_of (is_among (paths_of new)) old.modules
  went_flags flags met = same_flags flags _ (met.as_many ∙ sym (length-map old.modules _)) (λ o low. (there o, back o (let n = length-map old.modules (λ (m : RootRow). is_among (paths_of new) m.path) in omega (arith, low, n))))
    where
      there : (o : ℕ) → IsOn flags o → IsOn (flags_of (is_among (paths_of new)) old.modules) o
      there o on =
          let first = met.sound o on in
          let m = at_map number_of new.modules first.0 (Some o) first.2 in
          let path = stands old.modules m.0.path o m.2 in
          let row = at_map (λ (r : RootRow). r.path) old.modules o m.0.path path in
          to_map (λ (r : RootRow). is_among (paths_of new) r.path) old.modules o row.0 row.1
          ∙ ap (λ (p : Bytes). Some (is_among (paths_of new) p)) row.2 ∙ ap Some (among_at (paths_of new) first.0 m.0.path (to_map (λ (r : RootRow). r.path) new.modules first.0 m.0 m.1))

      back : (o : ℕ) → o < length old.modules → IsOn (flags_of (is_among (paths_of new)) old.modules) o → IsOn flags o
      back o low on =
          let row = at_map (λ (r : RootRow). is_among (paths_of new) r.path) old.modules o true on in
          let place = at_among (paths_of new) row.0.path row.2 in
          let m = at_map (λ (r : RootRow). r.path) new.modules place.0 row.0.path place.1 in
          let number : number_in old.modules m.0.path ≡ Some o = ap (number_in old.modules) m.2 ∙ (number_here old.modules o row.0 rising row.1).0 in
          let at : slice_get (numbers_from old new) place.0 ≡ Some (Some o) = to_map number_of new.modules place.0 m.0 m.1 ∙ ap Some number in
          met.complete o low (place.0, within (numbers_from old new) place.0 (Some o) at, at)
        where
          within : {X : Type 0} (xs : List X) (i : ℕ) (x : X) → slice_get xs i ≡ Some x → i < length xs
          within [] i x at = absurd (none-some x at)
          within (y ∷ xs) zero x at = omega arith
          within (y ∷ xs) (suc i) x at = let l = within xs i x at in omega (arith, l)

-- ---- as the code has them

beyond : (ms : List RootRow) (others : List Bytes) (flags : List Bool) (beyond : List RootRow) → IsRising (paths_of_rows ms) → flags ≡ flags_of (is_among others) ms → beyond ≡ where_off flags ms → AreBeyond (paths_of_rows ms) others (paths_of_rows beyond)
beyond ms others flags rest rising flags_are is =
    let own : rest ≡ where_off (flags_of (is_among others) ms) ms = is ∙ ap (λ (l : List Bool). where_off l ms) flags_are in
    subst (λ (l : List RootRow). AreBeyond (paths_of_rows ms) others (paths_of_rows l)) (sym own)
    (record { rising = rising_left (flags_of (is_among others) ms) ms rising; those = left_told (is_among others) ms })

pub all_moved : (old new : Root) (from : List (Option ℕ)) (there met there_view met_view : List Bool) (old_view new_view : List RootRow) (moved : Moved) → IsRising (paths_of old) → IsRising (paths_of new) → from ≡ numbers_from old new → there ≡ map is_some from
    → there_view ≡ there → new_view ≡ new.modules → moved.came.modules ≡ where_off there_view new_view → AreMet from (length old.modules) (length from) met → met_view ≡ met → old_view ≡ old.modules → moved.went.modules ≡ where_off met_view old_view
    → AreMoved (paths_of old) (paths_of new) moved
all_moved old new from there met there_view met_view old_view new_view moved old_rises new_rises from_is there_is there_seen new_seen came met_is met_seen old_seen went = record {
  came = beyond new.modules (paths_of old) there_view moved.came.modules new_rises (there_seen ∙ (there_is ∙ (ap (map is_some) from_is ∙ came_flags old.modules new.modules))) (came ∙ ap (where_off there_view) new_seen);
  went = beyond old.modules (paths_of new) met_view moved.went.modules old_rises
      (met_seen ∙ went_flags old new old_rises met (subst (λ (f : List (Option ℕ)). AreMet f (length old.modules) (length f) met) from_is met_is)) (went ∙ ap (where_off met_view) old_seen);
}

-- where the paths are the same, none came or went
pub none_moved : (old new : Root) (moved : Moved) → paths_of new ≡ paths_of old → moved.came.modules ≡ [] → moved.went.modules ≡ [] → AreMoved (paths_of old) (paths_of new) moved
none_moved old new moved same came went = record {
  came = nothing (paths_of new) (paths_of old) moved.came.modules same came;
  went = nothing (paths_of old) (paths_of new) moved.went.modules (sym same) went;
}
  where
    both : (b : Bool) → false ≡ (b && not b)
    both true = refl
    both false = refl

    nothing : (paths others : List Bytes) (ms : List RootRow) → paths ≡ others → ms ≡ [] → AreBeyond paths others (paths_of_rows ms)
    nothing paths others ms e none = subst (λ (l : List RootRow). AreBeyond paths others (paths_of_rows l)) (sym none)
        (record { rising = tt; those = λ path. both (is_among others path) ∙ ap (λ (ps : List Bytes). is_among ps path && not (is_among others path)) (sym e) })
