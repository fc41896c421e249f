-- The parts that deques lack, and the numbers of links that places have.
use Rattle.std.proofs.Common.{◌≡◌, ℕ, zero, suc, ◌+◌, ◌<◌, ◌≤◌, List, [], ◌∷◌, length, set, get_or, refl, ap, ◌∙◌, arith}
use Rattle.std.specs.List.{AllByRecursion, AllZip}
use Rattle.number_draws.specs.Hands.{all_parts}
use Rattle.job_seats.specs.declared.place.Seat.{Seat}
use Rattle.job_crew.specs.Tying.{own_view, LackParts, HaveLinks}

module _ {X : Type 0} where
  pub parts_keep : (rows k : ℕ) (ss : List (Seat X)) (j : ℕ) (s d : Seat X) → j < length ss → (own_view s).parts ≡ (own_view (get_or ss j d)).parts → LackParts rows k ss → LackParts rows k (set ss j s)
  parts_keep rows k [] j s d within same lack = absurd (omega arith)
  parts_keep rows zero (x ∷ ss) zero s d within same lack = (ap (λ n. n + rows) same ∙ lack.0, lack.1)
  parts_keep rows (suc k) (x ∷ ss) zero s d within same lack = (ap (λ n. n + (rows + 1)) same ∙ lack.0, lack.1)
  parts_keep rows zero (x ∷ ss) (suc j) s d within same lack = (lack.0, parts_keep rows zero ss j s d (omega arith) same lack.1)
  parts_keep rows (suc k) (x ∷ ss) (suc j) s d within same lack = (lack.0, parts_keep rows k ss j s d (omega arith) same lack.1)

  pub parts_at : (rows k : ℕ) (ss : List (Seat X)) (d : Seat X) → k < length ss → LackParts rows k ss → (own_view (get_or ss k d)).parts + rows ≡ all_parts
  parts_at rows k [] d within lack = absurd (omega arith)
  parts_at rows zero (x ∷ ss) d within lack = let l = lack.0 in omega arith
  parts_at rows (suc k) (x ∷ ss) d within lack = parts_at rows k ss d (omega arith) lack.1

  pub parts_there : (rows k : ℕ) (ss : List (Seat X)) (d : Seat X) → k < length ss → LackParts rows (suc k) ss → (own_view (get_or ss k d)).parts + (rows + 1) ≡ all_parts
  parts_there rows k [] d within lack = absurd (omega arith)
  parts_there rows zero (x ∷ ss) d within lack = let l = lack.0 in omega arith
  parts_there rows (suc k) (x ∷ ss) d within lack = parts_there rows k ss d (omega arith) lack.1

  -- the next deque gives one part away
  pub parts_less : (rows k : ℕ) (ss : List (Seat X)) (s d : Seat X) → k < length ss → (own_view s).parts + 1 ≡ (own_view (get_or ss k d)).parts → LackParts rows k ss → LackParts rows (suc k) (set ss k s)
  parts_less rows k [] s d within same lack = absurd (omega arith)
  parts_less rows zero (x ∷ ss) s d within same lack = ((let l = lack.0 in omega arith), lack.1)
  parts_less rows (suc k) (x ∷ ss) s d within same lack = ((let l = lack.0 in omega arith), parts_less rows k ss s d (omega arith) same lack.1)

  -- it gets one part back
  pub parts_more : (rows k : ℕ) (ss : List (Seat X)) (s d : Seat X) → k < length ss → (own_view s).parts ≡ (own_view (get_or ss k d)).parts + 1 → LackParts rows (suc k) ss → LackParts rows k (set ss k s)
  parts_more rows k [] s d within same lack = absurd (omega arith)
  parts_more rows zero (x ∷ ss) s d within same lack = ((let l = lack.0 in omega arith), lack.1)
  parts_more rows (suc k) (x ∷ ss) s d within same lack = ((let l = lack.0 in omega arith), parts_more rows k ss s d (omega arith) same lack.1)

  -- all have given one part, and so one row more is out
  pub row_done : (rows k : ℕ) (ss : List (Seat X)) → length ss ≤ k → LackParts rows k ss → LackParts (suc rows) 0 ss
  row_done rows k [] all lack = tt
  row_done rows zero (x ∷ ss) all lack = absurd (omega arith)
  row_done rows (suc k) (x ∷ ss) all lack = ((let l = lack.0 in omega arith), row_done rows k ss (omega arith) lack.1)

  pub row_begun : (rows k : ℕ) (ss : List (Seat X)) → length ss ≤ k → LackParts (suc rows) 0 ss → LackParts rows k ss
  row_begun rows k [] all lack = tt
  row_begun rows zero (x ∷ ss) all lack = absurd (omega arith)
  row_begun rows (suc k) (x ∷ ss) all lack = ((let l = lack.0 in omega arith), row_begun rows k ss (omega arith) lack.1)

  pub parts_whole : (ss : List (Seat X)) → LackParts 0 0 ss → AllByRecursion (λ s. (own_view s).parts ≡ all_parts) ss
  parts_whole [] lack = tt
  parts_whole (x ∷ ss) lack = ((let l = lack.0 in omega arith), parts_whole ss lack.1)

  pub whole_parts : (ss : List (Seat X)) → AllByRecursion (λ s. (own_view s).parts ≡ all_parts) ss → LackParts 0 0 ss
  whole_parts [] all = tt
  whole_parts (x ∷ ss) all = ((let l = all.0 in omega arith), whole_parts ss all.1)

  -- where fewer rows are out than parts, each deque has a part
  pub parts_some : (rows : ℕ) (ss : List (Seat X)) → rows < all_parts → LackParts rows 0 ss → AllByRecursion (λ s. 0 < (own_view s).parts) ss
  parts_some rows [] few lack = tt
  parts_some rows (x ∷ ss) few lack = ((let l = lack.0 in omega arith), parts_some rows ss few lack.1)

  module _ (R : Seat X → Seat X → Type 0) where
    pub parts_same : ((s t : Seat X) → R s t → (own_view t).parts ≡ (own_view s).parts) → (rows k : ℕ) (ss ts : List (Seat X)) → AllZip R ss ts → LackParts rows k ss → LackParts rows k ts
    parts_same same rows k [] [] h lack = tt
    parts_same same rows k [] (t ∷ ts) h lack = absurd h
    parts_same same rows k (s ∷ ss) [] h lack = absurd h
    parts_same same rows zero (s ∷ ss) (t ∷ ts) h lack = (ap (λ n. n + rows) (same s t h.0) ∙ lack.0, parts_same same rows zero ss ts h.1 lack.1)
    parts_same same rows (suc k) (s ∷ ss) (t ∷ ts) h lack = (ap (λ n. n + (rows + 1)) (same s t h.0) ∙ lack.0, parts_same same rows k ss ts h.1 lack.1)

    pub long_same : ((s t : Seat X) → R s t → length t.links.items ≡ length s.links.items) → (a b m : ℕ) (ss ts : List (Seat X)) → AllZip R ss ts → HaveLinks a b m ss → HaveLinks a b m ts
    long_same same a b m [] [] h long = tt
    long_same same a b m [] (t ∷ ts) h long = absurd h
    long_same same a b m (s ∷ ss) [] h long = absurd h
    long_same same a b zero (s ∷ ss) (t ∷ ts) h long = (same s t h.0 ∙ long.0, long_same same a b zero ss ts h.1 long.1)
    long_same same a b (suc m) (s ∷ ss) (t ∷ ts) h long = (same s t h.0 ∙ long.0, long_same same a b m ss ts h.1 long.1)

  pub long_next : (a b m : ℕ) (ss : List (Seat X)) (s : Seat X) → m < length ss → length s.links.items ≡ a → HaveLinks a b m ss → HaveLinks a b (suc m) (set ss m s)
  long_next a b m [] s within same long = absurd (omega arith)
  long_next a b zero (x ∷ ss) s within same long = (same, long.1)
  long_next a b (suc m) (x ∷ ss) s within same long = (long.0, long_next a b m ss s (omega arith) same long.1)

  pub long_at : (a b m : ℕ) (ss : List (Seat X)) (d : Seat X) → m < length ss → HaveLinks a b m ss → length (get_or ss m d).links.items ≡ b
  long_at a b m [] d within long = absurd (omega arith)
  long_at a b zero (x ∷ ss) d within long = long.0
  long_at a b (suc m) (x ∷ ss) d within long = long_at a b m ss d (omega arith) long.1

  pub long_first : (a b m : ℕ) (ss : List (Seat X)) → length ss ≤ m → HaveLinks a b m ss → AllByRecursion (λ s. length s.links.items ≡ a) ss
  long_first a b m [] all long = tt
  long_first a b zero (x ∷ ss) all long = absurd (omega arith)
  long_first a b (suc m) (x ∷ ss) all long = (long.0, long_first a b m ss (omega arith) long.1)

  pub long_last : (a b : ℕ) (ss : List (Seat X)) → AllByRecursion (λ s. length s.links.items ≡ b) ss → HaveLinks a b 0 ss
  long_last a b [] all = tt
  long_last a b (x ∷ ss) all = (all.0, long_last a b ss all.1)

  -- all places have as many links: the first ones are all of them, or none
  pub long_turned : (a b c : ℕ) (ss : List (Seat X)) → HaveLinks a b (length ss) ss → HaveLinks c a 0 ss
  long_turned a b c ss long = long_last c a ss (long_first a b (length ss) ss (omega arith) long)
