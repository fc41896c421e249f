-- What stands where in a list.
use Rattle.std.proofs.Common.{◌≡◌, ℕ, zero, suc, ◌+◌, ◌<◌, List, [], ◌∷◌, ◌++◌, map, length, take, drop, get_or, slice_get, Some, None, refl, sym, ap, arith}
use Rattle.check_values.specs.Roots as roots
use Rattle.check_values.specs.declared.root.Root.{Root}
use Rattle.check_values.specs.declared.root.RootRow.{RootRow}
use Rattle.flow_base.specs.Program.{Bytes, paths_of}
use Rattle.payloads.specs.State.{program_of}

-- what is in one `Some` is in the other
pub one_value : {X : Type 0} (x y : X) → Some x ≡ Some y → x ≡ y
one_value x y e = cc

module _ {A : Type 0} where
  pub take_whole : (xs : List A) → take (length xs) xs ≡ xs
  take_whole [] = refl
  take_whole (x ∷ xs) = ap (λ (l : List A). x ∷ l) (take_whole xs)

  pub within_there : (xs : List A) (i : ℕ) (x : A) → slice_get xs i ≡ Some x → i < length xs
  within_there [] i x at = absurd (let z : None ≡ Some x = at in cc)
  within_there (y ∷ xs) zero x at = omega arith
  within_there (y ∷ xs) (suc i) x at = let below = within_there xs i x at in omega arith

  pub place_at : (xs : List A) (i : ℕ) (d : A) → i < length xs → slice_get xs i ≡ Some (get_or xs i d)
  place_at [] i d low = absurd (omega arith)
  place_at (x ∷ xs) zero d low = refl
  place_at (x ∷ xs) (suc i) d low = place_at xs i d (omega arith)

  pub drop_none : (xs : List A) → drop 0 xs ≡ xs
  drop_none [] = refl
  drop_none (x ∷ xs) = refl

  pub take_next : (xs : List A) (i : ℕ) (x : A) → slice_get xs i ≡ Some x → take (i + 1) xs ≡ take i xs ++ x ∷ []
  take_next [] i x at = absurd (let z : None ≡ Some x = at in cc)
  take_next (y ∷ xs) zero x at = ap (λ (z : A). z ∷ []) (one_value y x at)
  take_next (y ∷ xs) (suc i) x at = let n : suc i + 1 ≡ suc (i + 1) = omega arith in rw n (ap (λ (l : List A). y ∷ l) (take_next xs i x at))

-- the paths of a root are those of its program
same_paths_of : (ms : List RootRow) → map (λ (r : Bytes × Bytes). r.0) (map (λ (m : RootRow). (m.path, m.text)) ms) ≡ map (λ (m : RootRow). m.path) ms
same_paths_of [] = refl
same_paths_of (m ∷ ms) = ap (λ (l : List Bytes). m.path ∷ l) (same_paths_of ms)

pub same_paths : (root : Root) → paths_of (program_of root) ≡ roots.paths_of root
same_paths root = same_paths_of root.modules
