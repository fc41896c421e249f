-- What pends, and where it is filled, as lists.
use Rattle.std.proofs.Common.{◌≡◌, ◌≢◌, ◌⊎◌, ℕ, zero, suc, ◌+◌, ◌-◌, ◌*◌, ◌/◌, ◌%◌, ◌<◌, ◌≤◌, Bool, true, false, cond, List, [], ◌∷◌, ◌++◌, length, map, replicate, set, get_or, slice_get, refl, sym, ap, ◌∙◌, inl, inr, arith, Option, Some, None, set-set}
use mathlib.Core.Logic.{dite}
use native.Mathlib.Decide.{ℕ_discrete}
use Rattle.std.specs.Prelude.{unwrap_or}
use Rattle.heap_core.specs.Meaning.{none_of}
use Rattle.heap_world.specs.World.{last_state, replaced, renewed, emptied, filled_at}
use Rattle.entity_heap.specs.Rule.{word_for}
use Rattle.entity_heap.specs.Plans.{new_words, restored}
use Rattle.entity_heap.specs.Worlds.{pending_of, filled_to}
use Rattle.entity_heap.proofs.Lists.{same_some, not_both}

pub same_or_not : (n m : ℕ) → (n ≡ m) ⊎ (n ≢ m)
same_or_not n m = dite (ℕ_discrete n m) inl inr

pub flag_at : (bs : List Bool) (e : ℕ) → slice_get bs e ≡ Some true → get_or bs e false ≡ true
flag_at [] e h = absurd (let z : None ≡ Some true = h in cc)
flag_at (b ∷ bs) zero h = same_some (Some b) b true refl h
flag_at (b ∷ bs) (suc e) h = flag_at bs e h

pub flag_there : (bs : List Bool) (e : ℕ) → get_or bs e false ≡ true → slice_get bs e ≡ Some true
flag_there [] e h = absurd (let z : false ≡ true = h in cc)
flag_there (b ∷ bs) zero h = ap (λ (z : Bool). Some z) h
flag_there (b ∷ bs) (suc e) h = flag_there bs e h

pub none_falses : (bs : List Bool) → replicate (length bs) false ≡ none_of bs
none_falses [] = refl
none_falses (b ∷ bs) = ap (λ (l : List Bool). false ∷ l) (none_falses bs)

pub map_same : (n : ℕ) (bs : List Bool) (e : ℕ) → emptied (replicate n bs) e ≡ replicate n (set bs e false)
map_same zero bs e = refl
map_same (suc n) bs e = ap (λ (l : List (List Bool)). set bs e false ∷ l) (map_same n bs e)

pub emptied_all : (n : ℕ) (bs : List Bool) (e : ℕ) → emptied (replicate n bs) e ≡ filled_to n 0 bs e
emptied_all n bs e = map_same n bs e ∙ (let t : n ≡ n - 0 = omega arith in ap (λ (k : ℕ). replicate k (set bs e false)) t)

module _ {A : Type 0} where
  -- rows of one value, and then others
  row_at : (k : ℕ) (t f : A) (rest : List A) → slice_get (replicate k t ++ f ∷ rest) k ≡ Some f
  row_at zero t f rest = refl
  row_at (suc k) t f rest = row_at k t f rest

  row_set : (k : ℕ) (t f x : A) (rest : List A) → set (replicate k t ++ f ∷ rest) k x ≡ replicate k t ++ x ∷ rest
  row_set zero t f x rest = refl
  row_set (suc k) t f x rest = ap (λ (l : List A). t ∷ l) (row_set k t f x rest)

  row_more : (k : ℕ) (t : A) (rest : List A) → replicate k t ++ t ∷ rest ≡ replicate (suc k) t ++ rest
  row_more zero t rest = refl
  row_more (suc k) t rest = ap (λ (l : List A). t ∷ l) (row_more k t rest)

  pub length-rows : (k : ℕ) (t : A) (rest : List A) → length (replicate k t ++ rest) ≡ k + length rest
  length-rows zero t rest = omega arith
  length-rows (suc k) t rest = let h = length-rows k t rest in omega arith

  -- a row is one of the two
  pub row_is : (k m n : ℕ) (t f x : A) → slice_get (replicate k t ++ replicate m f) n ≡ Some x → (t ≡ x) ⊎ (f ≡ x)
  row_is zero m n t f x h = inr (Rattle.entity_heap.proofs.Lists.all_same m n f x h)
  row_is (suc k) m zero t f x h = inl (same_some (Some t) t x refl h)
  row_is (suc k) m (suc n) t f x h = row_is k m n t f x h

  all_to : (n k : ℕ) (t f : A) → n ≡ k → replicate k t ++ replicate (n - k) f ≡ replicate n t
  all_to n k t f is = let z : n - k ≡ 0 = omega arith in ap (λ (m : ℕ). replicate k t ++ replicate m f) z ∙ (end k t ∙ ap (λ (m : ℕ). replicate m t) (sym is))
    where
      end : (k : ℕ) (t : A) → replicate k t ++ [] ≡ replicate k t
      end zero t = refl
      end (suc k) t = ap (λ (l : List A). t ∷ l) (end k t)

-- one lane more is filled
pub filled_more : (n k : ℕ) (bs : List Bool) (e : ℕ) → k < n → filled_at (filled_to n k bs e) k e ≡ filled_to n (k + 1) bs e
filled_more n k bs e room =
    let t : List Bool = set bs e true in let f : List Bool = set bs e false in let m : ℕ = n - (k + 1) in let i : n - k ≡ suc m = omega arith in let j : suc k ≡ k + 1 = omega arith in
    let rows : filled_to n k bs e ≡ replicate k t ++ f ∷ replicate m f = ap (λ (z : ℕ). replicate k t ++ replicate z f) i in
    ap (λ (z : List (List Bool)). filled_at z k e) rows
    ∙ (ap (λ (z : Option (List Bool)). set (replicate k t ++ f ∷ replicate m f) k (set (unwrap_or z []) e true)) (row_at k t f (replicate m f))
    ∙ (ap (set (replicate k t ++ f ∷ replicate m f) k) (set-set bs e false true)
    ∙ (row_set k t f t (replicate m f) ∙ (row_more k t (replicate m f) ∙ ap (λ (z : ℕ). replicate z t ++ replicate m f) j))))

pub filled_whole : (n : ℕ) (bs : List Bool) (e : ℕ) → filled_to n n bs e ≡ replicate n (set bs e true)
filled_whole n bs e = all_to n n (set bs e true) (set bs e false) refl

module _ {P : Type 0} where
  pub length-pending : (bs : List Bool) (xs : List P) → length bs ≡ length xs → length (pending_of bs xs) ≡ length xs
  length-pending [] [] same = refl
  length-pending [] (x ∷ xs) same = absurd (omega arith)
  length-pending (b ∷ bs) [] same = absurd (omega arith)
  length-pending (b ∷ bs) (x ∷ xs) same = ap suc (length-pending bs xs (omega arith))

  -- what pends is staged
  pub pends_staged : (bs : List Bool) (xs : List P) (e : ℕ) (x : P) → slice_get (pending_of bs xs) e ≡ Some (Some x) → get_or bs e false ≡ true
  pends_staged [] xs e x h = absurd (let z : None ≡ Some (Some x) = h in cc)
  pends_staged (b ∷ bs) [] e x h = absurd (let z : None ≡ Some (Some x) = h in cc)
  pends_staged (true ∷ bs) (y ∷ xs) zero x h = refl
  pends_staged (false ∷ bs) (y ∷ xs) zero x h = absurd (let z : Some None ≡ Some (Some x) = h in let w : None ≡ Some x = same_some (Some None) None (Some x) refl z in cc)
  pends_staged (b ∷ bs) (y ∷ xs) (suc e) x h = pends_staged bs xs e x h

  -- what is staged pends
  pub staged_pends : (bs : List Bool) (xs : List P) (e : ℕ) → length bs ≡ length xs → slice_get bs e ≡ Some true → (x : P) × (slice_get (pending_of bs xs) e ≡ Some (Some x))
  staged_pends [] xs e same h = absurd (let z : None ≡ Some true = h in cc)
  staged_pends (b ∷ bs) [] e same h = absurd (omega arith)
  staged_pends (true ∷ bs) (x ∷ xs) zero same h = (x, refl)
  staged_pends (false ∷ bs) (x ∷ xs) zero same h = absurd (let z : false ≡ true = same_some (Some false) false true refl h in cc)
  staged_pends (b ∷ bs) (x ∷ xs) (suc e) same h = staged_pends bs xs e (omega arith) h

  pub last_is : (hs : List (List P)) (v : ℕ) (c : List P) → length hs ≡ v + 1 → slice_get hs v ≡ Some c → last_state hs ≡ c
  last_is [] v c long h = absurd (let z : None ≡ Some c = h in cc)
  last_is (x ∷ []) zero c long h = same_some (Some x) x c refl h
  last_is (x ∷ []) (suc v) c long h = absurd (omega arith)
  last_is (x ∷ y ∷ ys) zero c long h = absurd (omega arith)
  last_is (x ∷ y ∷ ys) (suc v) c long h = last_is (y ∷ ys) v c (omega arith) h

  -- the committed state, with what is staged in place, is the next one
  pub replaced_next : (cs : List P) (bs : List Bool) (xs : List P) → length bs ≡ length xs → length cs ≡ length xs → ((e : ℕ) → get_or bs e false ≡ false → slice_get xs e ≡ slice_get cs e) → replaced cs (pending_of bs xs) ≡ xs
  replaced_next [] bs [] same same_c still = refl
  replaced_next [] bs (x ∷ xs) same same_c still = absurd (omega arith)
  replaced_next (c ∷ cs) bs [] same same_c still = absurd (omega arith)
  replaced_next (c ∷ cs) [] (x ∷ xs) same same_c still = absurd (omega arith)
  replaced_next (c ∷ cs) (true ∷ bs) (x ∷ xs) same same_c still = ap (λ (l : List P). x ∷ l) (replaced_next cs bs xs (omega arith) (omega arith) (λ e. still (suc e)))
  replaced_next (c ∷ cs) (false ∷ bs) (x ∷ xs) same same_c still = let i : c ≡ x = same_some (Some c) c x refl (sym (still 0 refl)) in λ j. i j ∷ replaced_next cs bs xs (omega arith) (omega arith) (λ e. still (suc e)) j

  -- the versions after a commit
  pub renewed_new : (c : ℕ) (bs : List Bool) (xs : List P) (ws : List ℕ) → length bs ≡ length xs → renewed (c + 1) (pending_of bs xs) (map (λ k. k / 2) ws) ≡ map (λ k. k / 2) (new_words c bs ws)
  renewed_new c [] xs ws same = refl
  renewed_new c (b ∷ bs) [] ws same = absurd (omega arith)
  renewed_new c (true ∷ bs) (x ∷ xs) [] same = refl
  renewed_new c (false ∷ bs) (x ∷ xs) [] same = refl
  renewed_new c (true ∷ bs) (x ∷ xs) (w ∷ ws) same = let h : c + 1 ≡ (2 * (c + 1) + (1 - w % 2)) / 2 = omega arith in λ j. h j ∷ renewed_new c bs xs ws (omega arith) j
  renewed_new c (false ∷ bs) (x ∷ xs) (w ∷ ws) same = ap (λ (l : List ℕ). w / 2 ∷ l) (renewed_new c bs xs ws (omega arith))

  -- where nothing is staged, nothing pends
  pub none_pending : (bs : List Bool) (xs : List P) → length bs ≡ length xs → replicate (length bs) None ≡ pending_of (none_of bs) xs
  none_pending [] [] same = refl
  none_pending [] (x ∷ xs) same = refl
  none_pending (b ∷ bs) [] same = absurd (omega arith)
  none_pending (b ∷ bs) (x ∷ xs) same = ap (λ (l : List (Option P)). None ∷ l) (none_pending bs xs (omega arith))

  -- one more is staged
  pub pending_stage : (bs : List Bool) (xs : List P) (e : ℕ) (x : P) → set (pending_of bs xs) e (Some x) ≡ pending_of (set bs e true) (set xs e x)
  pending_stage [] xs e x = refl
  pending_stage (b ∷ bs) [] zero x = refl
  pending_stage (b ∷ bs) [] (suc e) x = refl
  pending_stage (b ∷ bs) (y ∷ xs) zero x = refl
  pending_stage (b ∷ bs) (y ∷ xs) (suc e) x = ap (λ (l : List (Option P)). cond b (Some y) None ∷ l) (pending_stage bs xs e x)

  -- one is staged no more
  pub pending_roll : (bs : List Bool) (cs xs : List P) (e : ℕ) → length cs ≡ length xs → set (pending_of bs xs) e None ≡ pending_of (set bs e false) (restored cs xs e)
  pending_roll [] cs xs e same = refl
  pending_roll (b ∷ bs) [] [] zero same = refl
  pending_roll (b ∷ bs) [] [] (suc e) same = refl
  pending_roll (b ∷ bs) [] (x ∷ xs) e same = absurd (omega arith)
  pending_roll (b ∷ bs) (c ∷ cs) [] e same = absurd (omega arith)
  pending_roll (b ∷ bs) (c ∷ cs) (x ∷ xs) zero same = refl
  pending_roll (b ∷ bs) (c ∷ cs) (x ∷ xs) (suc e) same = ap (λ (l : List (Option P)). cond b (Some x) None ∷ l) (pending_roll bs cs xs e (omega arith))
