-- What holds of each of some places, where they are split and put together.
use Rattle.std.proofs.Common.{◌≡◌, ℕ, List, [], ◌∷◌, ◌++◌, length, sym, subst, arith, Result, Ok, Err}
use Rattle.std.specs.Prelude.{OnOk}
use Rattle.std.specs.List.{AllZip}
use Rattle.lane_asks.specs.Each.{AllDone, Both}

module _ {A B : Type 0} (F : A → B → Type 0) where
  pub zip_joined : (xs zs : List A) (ys ws : List B) → AllZip F xs ys → AllZip F zs ws → AllZip F (xs ++ zs) (ys ++ ws)
  zip_joined [] zs [] ws h i = i
  zip_joined [] zs (y ∷ ys) ws h i = absurd h
  zip_joined (x ∷ xs) zs [] ws h i = absurd h
  zip_joined (x ∷ xs) zs (y ∷ ys) ws h i = (h.0, zip_joined xs zs ys ws h.1 i)

  parts : (xs zs : List A) (ys ws : List B) → length ys ≡ length xs → AllZip F (xs ++ zs) (ys ++ ws) → AllZip F xs ys × AllZip F zs ws
  parts [] zs [] ws long h = (tt, h)
  parts [] zs (y ∷ ys) ws long h = absurd (omega arith)
  parts (x ∷ xs) zs [] ws long h = absurd (omega arith)
  parts (x ∷ xs) zs (y ∷ ys) ws long h = let p = parts xs zs ys ws (omega arith) h.1 in ((h.0, p.0), p.1)

  pub zip_parts : (all xs zs : List A) (every ys ws : List B) → all ≡ xs ++ zs → every ≡ ys ++ ws → length ys ≡ length xs → AllZip F all every → AllZip F xs ys × AllZip F zs ws
  zip_parts all xs zs every ys ws is are long h = parts xs zs ys ws long (subst (λ (p : List A × List B). AllZip F p.0 p.1) (λ k. (is k, are k)) h)

  pub zip_whole : (all xs zs : List A) (ys ws : List B) → all ≡ xs ++ zs → AllZip F xs ys → AllZip F zs ws → AllZip F all (ys ++ ws)
  zip_whole all xs zs ys ws is h i = subst (λ (l : List A). AllZip F l (ys ++ ws)) (sym is) (zip_joined xs zs ys ws h i)

module _ {L A X : Type 0} (F : L → L → A → A → X → X → Type 0) where
  done_joined : (ls ms ls2 ms2 : List L) (as1 bs as2 bs2 : List A) (rs ts rs2 ts2 : List X) → AllDone F ls ms as1 bs rs ts → AllDone F ls2 ms2 as2 bs2 rs2 ts2 → AllDone F (ls ++ ls2) (ms ++ ms2) (as1 ++ as2) (bs ++ bs2) (rs ++ rs2) (ts ++ ts2)
  done_joined [] [] ls2 ms2 [] [] as2 bs2 [] [] rs2 ts2 h i = i
  done_joined (l ∷ ls) (m ∷ ms) ls2 ms2 (a ∷ as1) (b ∷ bs) as2 bs2 (r ∷ rs) (t ∷ ts) rs2 ts2 h i = (h.0, done_joined ls ms ls2 ms2 as1 bs as2 bs2 rs ts rs2 ts2 h.1 i)
  done_joined ls ms ls2 ms2 as1 bs as2 bs2 rs ts rs2 ts2 h i = absurd h

  module _ {V E : Type 0} where
    ended : (front back result : Result V E) (ls ms ls2 ms2 : List L) (as1 bs as2 bs2 : List A) (rs ts rs2 ts2 : List X) → Both front back result → OnOk front (AllDone F ls ms as1 bs rs ts) → OnOk back (AllDone F ls2 ms2 as2 bs2 rs2 ts2)
        → OnOk result (AllDone F (ls ++ ls2) (ms ++ ms2) (as1 ++ as2) (bs ++ bs2) (rs ++ rs2) (ts ++ ts2))
    ended (Ok x) (Ok y) (Ok z) ls ms ls2 ms2 as1 bs as2 bs2 rs ts rs2 ts2 both h i = done_joined ls ms ls2 ms2 as1 bs as2 bs2 rs ts rs2 ts2 h i
    ended (Ok x) (Err y) (Ok z) ls ms ls2 ms2 as1 bs as2 bs2 rs ts rs2 ts2 both h i = absurd both
    ended (Err x) back (Ok z) ls ms ls2 ms2 as1 bs as2 bs2 rs ts rs2 ts2 both h i = absurd both
    ended front back (Err z) ls ms ls2 ms2 as1 bs as2 bs2 rs ts rs2 ts2 both h i = tt

    -- two groups
    pub groups_ended : (front back result : Result V E) (all ls ms ls2 ms2 : List L) (every as1 bs as2 bs2 : List A) (rows rs ts rs2 ts2 : List X) → all ≡ ls ++ ls2 → every ≡ as1 ++ as2 → rows ≡ rs ++ rs2 → Both front back result
        → OnOk front (AllDone F ls ms as1 bs rs ts) → OnOk back (AllDone F ls2 ms2 as2 bs2 rs2 ts2) → OnOk result (AllDone F all (ms ++ ms2) every (bs ++ bs2) rows (ts ++ ts2))
    groups_ended front back result all ls ms ls2 ms2 every as1 bs as2 bs2 rows rs ts rs2 ts2 e f g both h i =
        subst (λ (p : List L × List A × List X). OnOk result (AllDone F p.0 (ms ++ ms2) p.1 (bs ++ bs2) p.2 (ts ++ ts2))) (λ k. (sym e k, sym f k, sym g k)) (ended front back result ls ms ls2 ms2 as1 bs as2 bs2 rs ts rs2 ts2 both h i)
