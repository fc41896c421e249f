-- Lists that grow at their end beside others.
use Rattle.std.proofs.Common.{◌≡◌, ℕ, zero, suc, ◌+◌, ◌<◌, List, [], ◌∷◌, ◌++◌, map, length, take, get_or, slice_get, Some, None, refl, sym, ap, subst, arith}
use Rattle.std.specs.List.{AllZip}
use Rattle.check_values.specs.Roots as roots
use Rattle.check_values.specs.declared.root.Root.{Root}
use Rattle.check_values.specs.declared.root.RootRow.{RootRow}
use Rattle.flow_base.specs.Program.{Bytes, paths_of}
use Rattle.payloads.specs.State.{program_of}

-- what is in one `Some` is in the other
pub one_value : {X : Type 0} (x y : X) → Some x ≡ Some y → x ≡ y
one_value x y e = cc

module _ {A : Type 0} where
  pub take_whole : (xs : List A) → take (length xs) xs ≡ xs
  take_whole [] = refl
  take_whole (x ∷ xs) = ap (λ (l : List A). x ∷ l) (take_whole xs)

  -- what stands at a place
  pub within_there : (xs : List A) (i : ℕ) (x : A) → slice_get xs i ≡ Some x → i < length xs
  within_there [] i x at = absurd (let z : None ≡ Some x = at in cc)
  within_there (y ∷ xs) zero x at = omega arith
  within_there (y ∷ xs) (suc i) x at = let below = within_there xs i x at in omega arith

  pub value_at : (xs : List A) (i : ℕ) (x d : A) → slice_get xs i ≡ Some x → x ≡ get_or xs i d
  value_at [] i x d at = absurd (let z : None ≡ Some x = at in cc)
  value_at (y ∷ xs) zero x d at = sym (one_value y x at)
  value_at (y ∷ xs) (suc i) x d at = value_at xs i x d at

  pub place_at : (xs : List A) (i : ℕ) (d : A) → i < length xs → slice_get xs i ≡ Some (get_or xs i d)
  place_at [] i d low = absurd (omega arith)
  place_at (x ∷ xs) zero d low = refl
  place_at (x ∷ xs) (suc i) d low = place_at xs i d (omega arith)

  -- one more element
  pub take_next : (xs : List A) (i : ℕ) (x : A) → slice_get xs i ≡ Some x → take (i + 1) xs ≡ take i xs ++ x ∷ []
  take_next [] i x at = absurd (let z : None ≡ Some x = at in cc)
  take_next (y ∷ xs) zero x at = ap (λ (z : A). z ∷ []) (one_value y x at)
  take_next (y ∷ xs) (suc i) x at = let n : suc i + 1 ≡ suc (i + 1) = omega arith in rw n (ap (λ (l : List A). y ∷ l) (take_next xs i x at))

module _ {A B : Type 0} where
  -- one more of both
  pub zip_more : (R : A → B → Type 0) (xs : List A) (ys : List B) (i : ℕ) (x : A) (y : B) → AllZip R (take i xs) ys → slice_get xs i ≡ Some x → R x y → AllZip R (take (i + 1) xs) (ys ++ y ∷ [])
  zip_more R [] ys i x y all at here = absurd (let z : None ≡ Some x = at in cc)
  zip_more R (w ∷ xs) [] zero x y all at here = (subst (λ (v : A). R v y) (one_value x w (sym at)) here, tt)
  zip_more R (w ∷ xs) (z ∷ ys) zero x y all at here = absurd all
  zip_more R (w ∷ xs) [] (suc i) x y all at here = absurd all
  zip_more R (w ∷ xs) (z ∷ ys) (suc i) x y all at here = let n : suc i + 1 ≡ suc (i + 1) = omega arith in rw n (all.0, zip_more R xs ys i x y all.1 at here)

  -- all of both
  pub zip_whole : (R : A → B → Type 0) (xs : List A) (ys : List B) → AllZip R (take (length xs) xs) ys → AllZip R xs ys
  zip_whole R xs ys all = subst (λ (l : List A). AllZip R l ys) (take_whole xs) all

  -- of elements that were made of others
  pub zip_mapped : {C : Type 0} (f : A → C) (R : C → B → Type 0) (xs : List A) (ys : List B) → AllZip (λ x y. R (f x) y) xs ys → AllZip R (map f xs) ys
  zip_mapped f R [] [] all = tt
  zip_mapped f R [] (y ∷ ys) all = absurd all
  zip_mapped f R (x ∷ xs) [] all = absurd all
  zip_mapped f R (x ∷ xs) (y ∷ ys) all = (all.0, zip_mapped f R xs ys all.1)

  pub zip_length : (R : A → B → Type 0) (xs : List A) (ys : List B) → AllZip R xs ys → length ys ≡ length xs
  zip_length R [] [] all = refl
  zip_length R [] (y ∷ ys) all = absurd all
  zip_length R (x ∷ xs) [] all = absurd all
  zip_length R (x ∷ xs) (y ∷ ys) all = ap suc (zip_length R xs ys all.1)

-- the paths of a root are those of its program
same_paths_of : (ms : List RootRow) → map (λ (r : Bytes × Bytes). r.0) (map (λ (m : RootRow). (m.path, m.text)) ms) ≡ map (λ (m : RootRow). m.path) ms
same_paths_of [] = refl
same_paths_of (m ∷ ms) = ap (λ (l : List Bytes). m.path ∷ l) (same_paths_of ms)

pub same_paths : (root : Root) → paths_of (program_of root) ≡ roots.paths_of root
same_paths root = same_paths_of root.modules
