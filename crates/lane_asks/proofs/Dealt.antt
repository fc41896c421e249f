-- What was dealt out in turn, put back in order.
use Rattle.std.proofs.Common.{◌≡◌, ◌≢◌, ◌⊎◌, inl, inr, ⊎_elim, ℕ, zero, suc, ◌+◌, ◌-◌, ◌*◌, ◌/◌, ◌%◌, ◌<◌, ◌≤◌, List, [], ◌∷◌, ◌++◌, length, set, slice_get, get_or, Some, refl, sym, ap, ◌∙◌, subst, arith}
use mathlib.Core.Logic.{dite}
use native.Mathlib.Decide.{ℕ_discrete}
use Rattle.std.proofs.lemmas.Bool.{cases_lt}
use Rattle.std.proofs.lemmas.List.{append_assoc, length-append}
use Rattle.std.proofs.lemmas.Nat.{mod_below, div-add-mod'}
use Rattle.std.proofs.lemmas.Option.{slice_get-get_or}
use Rattle.heap_core.proofs.Lists.{put_here, put_else}
use Rattle.entity_heap.proofs.Lists.{at_more, get_short, same_some}
use Rattle.std.specs.List.{AllZip}
use Rattle.lane_asks.specs.declared.dealing.Row.{Row}
use Rattle.lane_asks.specs.Dealing.{dealt, IsOpen, AreOpen, AreRows, AreFull}

module _ {X : Type 0} where
  -- the next one comes to the place whose turn it is
  pub dealt_next : (n k q : ℕ) (xs : List X) (x : X) → k < n → length xs ≡ q * n + k → dealt n k (xs ++ x ∷ []) ≡ dealt n k xs ++ x ∷ []
  dealt_next n zero q [] x small long = refl
  dealt_next n (suc k) q [] x small long = absurd (omega arith)
  dealt_next n zero zero (y ∷ ys) x small long = absurd (omega arith)
  dealt_next n zero (suc q) (y ∷ ys) x small long = ap (λ (l : List X). y ∷ l) (dealt_next n (n - 1) q ys x (omega arith) (omega arith))
  dealt_next n (suc k) q (y ∷ ys) x small long = dealt_next n k q ys x (omega arith) (omega arith)

  -- and to no other one
  pub dealt_other : (n k j q : ℕ) (xs : List X) (x : X) → k < n → j < n → k ≢ j → length xs ≡ q * n + j → dealt n k (xs ++ x ∷ []) ≡ dealt n k xs
  dealt_other n zero j q [] x small less apart long = absurd (apart (omega arith))
  dealt_other n (suc k) j q [] x small less apart long = refl
  dealt_other n zero zero q (y ∷ ys) x small less apart long = absurd (apart refl)
  dealt_other n zero (suc j) q (y ∷ ys) x small less apart long = ap (λ (l : List X). y ∷ l) (dealt_other n (n - 1) j q ys x (omega arith) (omega arith) (λ e. omega arith) (omega arith))
  dealt_other n (suc k) zero zero (y ∷ ys) x small less apart long = absurd (omega arith)
  dealt_other n (suc k) zero (suc q) (y ∷ ys) x small less apart long = dealt_other n k (n - 1) q ys x (omega arith) (omega arith) (λ e. omega arith) (omega arith)
  dealt_other n (suc k) (suc j) q (y ∷ ys) x small less apart long = dealt_other n k j q ys x (omega arith) (omega arith) (λ e. apart (ap suc e)) (omega arith)

module _ {X Y : Type 0} where
  -- of as many as much
  pub dealt_same : (n k : ℕ) (xs : List X) (ys : List Y) → length xs ≡ length ys → length (dealt n k xs) ≡ length (dealt n k ys)
  dealt_same n k [] [] long = refl
  dealt_same n k [] (y ∷ ys) long = absurd (omega arith)
  dealt_same n k (x ∷ xs) [] long = absurd (omega arith)
  dealt_same n zero (x ∷ xs) (y ∷ ys) long = ap suc (dealt_same n (n - 1) xs ys (omega arith))
  dealt_same n (suc k) (x ∷ xs) (y ∷ ys) long = dealt_same n k xs ys (omega arith)

  -- of more the one whose turn it is has more
  pub dealt_more : (n k q : ℕ) (xs : List X) (ys : List Y) → k < n → length xs ≡ q * n + k → length xs < length ys → length (dealt n k xs) < length (dealt n k ys)
  dealt_more n k q xs [] small long less = absurd (omega arith)
  dealt_more n zero q [] (y ∷ ys) small long less = omega arith
  dealt_more n (suc k) q [] (y ∷ ys) small long less = absurd (omega arith)
  dealt_more n zero zero (x ∷ xs) (y ∷ ys) small long less = absurd (omega arith)
  dealt_more n zero (suc q) (x ∷ xs) (y ∷ ys) small long less = let more = dealt_more n (n - 1) q xs ys (omega arith) (omega arith) (omega arith) in omega arith
  dealt_more n (suc k) q (x ∷ xs) (y ∷ ys) small long less = dealt_more n k q xs ys (omega arith) (omega arith) (omega arith)

  from_rest : (F : X → Y → Type 0) (n k : ℕ) (x : X) (xs : List X) (y : Y) (ys : List Y) → 0 < n → k < n → ((j : ℕ) → j < n → AllZip F (dealt n j (x ∷ xs)) (dealt n j (y ∷ ys))) → (suc k < n) ⊎ (n ≤ suc k) → AllZip F (dealt n k xs) (dealt n k ys)
  from_rest F n k x xs y ys some small all (inl less) = all (suc k) less
  from_rest F n k x xs y ys some small all (inr last) = let e : n - 1 ≡ k = omega arith in subst (λ (j : ℕ). AllZip F (dealt n j xs) (dealt n j ys)) e (all 0 some).1

  -- what holds of each pair that comes to a place holds of all pairs
  pub zip_dealt : (F : X → Y → Type 0) (n : ℕ) (xs : List X) (ys : List Y) → 0 < n → length xs ≡ length ys → ((k : ℕ) → k < n → AllZip F (dealt n k xs) (dealt n k ys)) → AllZip F xs ys
  zip_dealt F n [] [] some long all = tt
  zip_dealt F n [] (y ∷ ys) some long all = absurd (omega arith)
  zip_dealt F n (x ∷ xs) [] some long all = absurd (omega arith)
  zip_dealt F n (x ∷ xs) (y ∷ ys) some long all = ((all 0 some).0, zip_dealt F n xs ys some (omega arith) (λ k small. from_rest F n k x xs y ys some small all (cases_lt (suc k) n)))

module _ {X : Type 0} where
  -- some were taken from the rows in turn, and the rows have the others
  abbrev pub AreTaken : List X → List (Row X) → List (Row X) → Type 0
  AreTaken all old new = (k : ℕ) (row : Row X) → slice_get old k ≡ Some row → (left : Row X) × (slice_get new k ≡ Some left) × (row.told.items ≡ dealt (length old) k all ++ left.told.items)

  pub none_taken : (rows : List (Row X)) → AreTaken [] rows rows
  none_taken rows k row is = (row, is, refl)

  pub taken_more : (all : List X) (old new : List (Row X)) (x : X) (row left : Row X) → AreTaken all old new → 0 < length old → slice_get new (length all % length old) ≡ Some row → row.told.items ≡ x ∷ left.told.items
      → AreTaken (all ++ x ∷ []) old (set new (length all % length old) left)
  taken_more all old new x row left taken some here first = λ k was at.
      let n = length old in let turn = length all % n in let less : turn < n = mod_below (length all) n some in let long : length all ≡ length all / n * n + turn = sym (div-add-mod' (length all) n) in
      let o = taken k was at in let small : k < n = get_short old k was at in
      dite (ℕ_discrete k turn)
      (λ (e : k ≡ turn).
      let same : o.0 ≡ row = same_some (slice_get new turn) o.0 row (ap (slice_get new) (sym e) ∙ o.1) here in
      let next : dealt n k (all ++ x ∷ []) ≡ dealt n k all ++ x ∷ [] = dealt_next n k (length all / n) all x small (long ∙ ap (λ (j : ℕ). length all / n * n + j) (sym e)) in (
        left,
        ap (slice_get (set new turn left)) e ∙ put_here new turn left (get_short new turn row here),
        o.2 ∙ ap (λ (r : Row X). dealt n k all ++ r.told.items) same ∙ ap (λ (l : List X). dealt n k all ++ l) first
            ∙ sym (append_assoc (dealt n k all) (x ∷ []) left.told.items) ∙ ap (λ (l : List X). l ++ left.told.items) (sym next),
      ))
      (λ ne. (o.0, put_else new turn k left ne ∙ o.1, o.2 ∙ ap (λ (l : List X). l ++ o.0.told.items) (sym (dealt_other n k turn (length all / n) all x small less ne long))))

nothing_left : {X : Type 0} (xs ys zs : List X) → zs ≡ xs ++ ys → length zs ≡ length xs → zs ≡ xs
nothing_left xs [] zs is long = is ∙ append_nothing xs
  where
    append_nothing : {X : Type 0} (xs : List X) → xs ++ [] ≡ xs
    append_nothing [] = refl
    append_nothing (x ∷ xs) = ap (λ l. x ∷ l) (append_nothing xs)
nothing_left xs (y ∷ ys) zs is long = absurd (let l = ap (λ l. length l) is ∙ length-append xs (y ∷ ys) in omega arith)

module _ {Q X : Type 0} where
  -- all were taken
  pub all_taken : (all : List X) (asks : List Q) (old new : List (Row X)) → AreTaken all old new → AreFull asks old → length all ≡ length asks → AreRows all old
  all_taken all asks old new taken full long = λ k row at.
      let o = taken k row at in nothing_left (dealt (length old) k all) o.0.told.items row.told.items o.2 (full k row at ∙ sym (dealt_same (length old) k all asks long))

  -- where fewer were taken, the row whose turn it is has one
  pub one_left : (all : List X) (asks : List Q) (old new : List (Row X)) (row : Row X) → AreTaken all old new → AreFull asks old → 0 < length old → length all < length asks → slice_get new (length all % length old) ≡ Some row → 0 < length row.told.items
  one_left all asks old new row taken full some fewer here =
      let n = length old in let turn = length all % n in let less : turn < n = mod_below (length all) n some in let long : length all ≡ length all / n * n + turn = sym (div-add-mod' (length all) n) in
      let there = slice_get-get_or old turn row less in let o = taken turn (get_or old turn row) there in
      let same : o.0 ≡ row = same_some (slice_get new turn) o.0 row o.1 here in
      let many : length (get_or old turn row).told.items ≡ length (dealt n turn all) + length row.told.items = ap (λ (l : List X). length l) o.2 ∙ length-append (dealt n turn all) o.0.told.items ∙ ap (λ (r : Row X). length (dealt n turn all) + length r.told.items) same in
      let whole = full turn (get_or old turn row) there in let more = dealt_more n turn (length all / n) all asks less long fewer in omega arith

  pub one_left_at : (all : List X) (asks : List Q) (old new : List (Row X)) (row : Row X) (i n : ℕ) → length all ≡ i → n ≡ length old → AreTaken all old new → AreFull asks old → 0 < length old → i < length asks → slice_get new (i % n) ≡ Some row → 0 < length row.told.items
  one_left_at all asks old new row i n long many taken full some fewer =
      subst (λ (p : ℕ × ℕ). slice_get new (p.0 % p.1) ≡ Some row → 0 < length row.told.items) (λ j. (long j, sym many j)) (one_left all asks old new row taken full some (omega arith))

module _ {X : Type 0} where
  pub taken_at : (all : List X) (old new : List (Row X)) (x : X) (row left : Row X) (i n : ℕ) → length all ≡ i → n ≡ length old → AreTaken all old new → 0 < length old → slice_get new (i % n) ≡ Some row → row.told.items ≡ x ∷ left.told.items → AreTaken (all ++ x ∷ []) old (set new (i % n) left)
  taken_at all old new x row left i n long many taken some =
      subst (λ (p : ℕ × ℕ). slice_get new (p.0 % p.1) ≡ Some row → row.told.items ≡ x ∷ left.told.items → AreTaken (all ++ x ∷ []) old (set new (p.0 % p.1) left)) (λ j. (long j, sym many j)) (taken_more all old new x row left taken some)

module _ {X : Type 0} where
  -- rows with nothing in them for the first places of so many
  abbrev pub AreOpened : ℕ → List (Row X) → Type 0
  AreOpened n rows = (k : ℕ) (row : Row X) → slice_get rows k ≡ Some row → (row.place ≡ k) × (row.many ≡ n) × (row.told.items ≡ [])

  pub opened_more : (n : ℕ) (rows : List (Row X)) (row : Row X) → AreOpened n rows → (row.place ≡ length rows) × (row.many ≡ n) × (row.told.items ≡ []) → AreOpened n (rows ++ row ∷ [])
  opened_more n rows row opened one = λ k r at. ⊎_elim (λ (old : slice_get rows k ≡ Some r). opened k r old) (λ (new : (k ≡ length rows) × (row ≡ r)). subst (λ (s : Row X). (s.place ≡ k) × (s.many ≡ n) × (s.told.items ≡ [])) new.1 (one.0 ∙ sym new.0, one.1, one.2)) (at_more rows row r k at)
