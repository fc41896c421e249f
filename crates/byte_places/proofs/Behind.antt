-- Lines and columns, byte by byte.
use Rattle.std.proofs.Common.{◌≡◌, ℕ, zero, suc, ◌+◌, ◌-◌, ◌<◌, ◌≤◌, Bool, true, false, not, cond, List, [], ◌∷◌, ◌++◌, length, take, drop, get_or, refl, sym, ap, ap₂, ◌∙◌, subst, ◌↔◌, Option, Some, None, ◌⊎◌, inl, inr, arith}
use Rattle.std.specs.List.{count_by, suffix_len, after_last}
use Rattle.std.proofs.lemmas.List.{take_more, length-take-le, length-drop, drop-append-le, drop_all}
use Rattle.std.proofs.lemmas.List.Sums.{count_by-le-length, count_by_more_yes, count_by_more_no, suffix_len-take_yes, suffix_len-take_no, suffix_len-le-length, sum_by-append, sum_by-cons}
use borrow.Author.Count.{below_more}
use Rattle.source_characters.specs.Bytes.{begins_char, char_count}
use Rattle.source_place.specs.Place.{Bytes, is_feed, line_at, line_front, column_at}
use Rattle.byte_places.specs.Places.{StandsAt, line_behind, column_behind}

count_last : (p : ℕ → Bool) (xs : List ℕ) (y : ℕ) → count_by p (xs ++ y ∷ []) ≡ count_by p xs + cond (p y) 1 0
count_last p xs y = omega (arith, sum_by-append (λ (x : ℕ). cond (p x) 1 0) xs (y ∷ []), sum_by-cons (λ (x : ℕ). cond (p x) 1 0) y [])

-- ---- one byte more

module _ (text : Bytes) (i : ℕ) (within : i < length text) where
  pub line_next : line_at text (i + 1) ≡ line_behind (line_at text i) (get_or text i 0)
  line_next = go (is_feed (get_or text i 0)) refl
    where
      go : (b : Bool) → is_feed (get_or text i 0) ≡ b → line_at text (i + 1) ≡ cond b (line_at text i + 1) (line_at text i)
      go true e = ap (λ n. n + 1) (count_by_more_yes is_feed text i 0 within e)
      go false e = ap (λ n. n + 1) (count_by_more_no is_feed text i 0 within e)

  low : i ≤ length text
  low = omega arith

  long : length (take i text) ≡ i
  long = length-take-le i text low

  here : is_feed (get_or text (i + 1 - 1) 0) ≡ is_feed (get_or text i 0)
  here = ap (λ (n : ℕ). is_feed (get_or text n 0)) (omega arith)

  -- behind a line's end
  front_fed : is_feed (get_or text i 0) ≡ true → line_front (take (i + 1) text) ≡ []
  front_fed e =
      let none : suffix_len (λ b. not (is_feed b)) (take (i + 1) text) ≡ 0 = suffix_len-take_no (λ b. not (is_feed b)) text (i + 1) 0 (omega arith) (omega arith) (ap not (here ∙ e)) in
      drop_all (length (take (i + 1) text) - suffix_len (λ b. not (is_feed b)) (take (i + 1) text)) (take (i + 1) text) (omega (arith, none))

  -- within a line
  front_more : is_feed (get_or text i 0) ≡ false → line_front (take (i + 1) text) ≡ line_front (take i text) ++ get_or text i 0 ∷ []
  front_more e =
      let left = suffix_len (λ b. not (is_feed b)) (take i text) in
      let one : suffix_len (λ b. not (is_feed b)) (take (i + 1) text) ≡ 1 + left =
      suffix_len-take_yes (λ b. not (is_feed b)) text (i + 1) 0 (omega arith) (omega arith) (ap not (here ∙ e)) ∙ ap (λ (n : ℕ). 1 + suffix_len (λ b. not (is_feed b)) (take n text)) (omega arith) in
      let within_front : left ≤ length (take i text) = suffix_len-le-length (λ b. not (is_feed b)) (take i text) in
      let all : length (take (i + 1) text) ≡ i + 1 = length-take-le (i + 1) text (omega arith) in
      let same : length (take (i + 1) text) - suffix_len (λ b. not (is_feed b)) (take (i + 1) text) ≡ length (take i text) - left = omega (arith, one, within_front, all, long) in
      ap₂ (λ (n : ℕ) (l : List ℕ). drop n l) same (take_more text i 0 within)
      ∙ drop-append-le (length (take i text) - left) (take i text) (get_or text i 0 ∷ []) (omega arith)

  pub column_next : column_at text (i + 1) ≡ column_behind (column_at text i) (get_or text i 0)
  column_next = go (is_feed (get_or text i 0)) (begins_char (get_or text i 0)) refl refl
    where
      go : (b c : Bool) → is_feed (get_or text i 0) ≡ b → begins_char (get_or text i 0) ≡ c → column_at text (i + 1) ≡ cond b 1 (cond c (column_at text i + 1) (column_at text i))
      go true c e f = ap (λ (l : List ℕ). char_count l + 1) (front_fed e)
      go false c e f = ap (λ (l : List ℕ). char_count l + 1) (front_more e) ∙ ap (λ n. n + 1) (count_last begins_char (line_front (take i text)) (get_or text i 0)) ∙ counted c f
        where
          counted : (c : Bool) → begins_char (get_or text i 0) ≡ c → char_count (line_front (take i text)) + cond (begins_char (get_or text i 0)) 1 0 + 1 ≡ cond c (column_at text i + 1) (column_at text i)
          counted true f = ap (λ (b : Bool). char_count (line_front (take i text)) + cond b 1 0 + 1) f
          counted false f = ap (λ (b : Bool). char_count (line_front (take i text)) + cond b 1 0 + 1) f ∙ omega arith

-- ---- bounds

pub line_low : (text : Bytes) (i : ℕ) → i ≤ length text → line_at text i ≤ i + 1
line_low text i within = omega (arith, count_by-le-length is_feed (take i text), length-take-le i text within)

pub column_low : (text : Bytes) (i : ℕ) → i ≤ length text → column_at text i ≤ i + 1
column_low text i within =
    let few : char_count (line_front (take i text)) ≤ length (line_front (take i text)) = count_by-le-length begins_char (line_front (take i text)) in
    let short : length (line_front (take i text)) ≤ length (take i text) = omega (arith, length-drop (length (take i text) - suffix_len (λ b. not (is_feed b)) (take i text)) (take i text)) in
    omega (arith, few, short, length-take-le i text within)

-- ---- there is one place

-- a place stands behind a character: in a later line, or further in the same one
abbrev IsBehind : Bytes → ℕ → ℕ → Type 0
IsBehind text i n = (line_at text i < line_at text n) ⊎ ((line_at text i ≡ line_at text n) × (column_at text i < column_at text n))

behind_next : (text : Bytes) (i n : ℕ) → n < length text → IsBehind text i n → IsBehind text i (n + 1)
behind_next text i n within behind = go (is_feed (get_or text n 0)) (begins_char (get_or text n 0)) behind (line_next text n within) (column_next text n within)
  where
    go : (b c : Bool) → IsBehind text i n → line_at text (n + 1) ≡ cond b (line_at text n + 1) (line_at text n) → column_at text (n + 1) ≡ cond b 1 (cond c (column_at text n + 1) (column_at text n)) → IsBehind text i (n + 1)
    go true c (inl low) l k = inl (omega arith)
    go true c (inr (same, low)) l k = inl (omega arith)
    go false c (inl low) l k = inl (omega arith)
    go false true (inr (same, low)) l k = inr (omega arith, omega arith)
    go false false (inr (same, low)) l k = inr (omega arith, omega arith)

behind_first : (text : Bytes) (i : ℕ) → i < length text → begins_char (get_or text i 0) ≡ true → IsBehind text i (i + 1)
behind_first text i within begins = go (is_feed (get_or text i 0)) (line_next text i within) (column_next text i within ∙ ap (λ (c : Bool). cond (is_feed (get_or text i 0)) 1 (cond c (column_at text i + 1) (column_at text i))) begins)
  where
    go : (b : Bool) → line_at text (i + 1) ≡ cond b (line_at text i + 1) (line_at text i) → column_at text (i + 1) ≡ cond b 1 (column_at text i + 1) → IsBehind text i (i + 1)
    go true l k = inl (omega arith)
    go false l k = inr (omega arith, omega arith)

behind_all : (text : Bytes) (i k n : ℕ) → n ≡ i + 1 + k → n ≤ length text → begins_char (get_or text i 0) ≡ true → IsBehind text i n
behind_all text i zero n is within begins =
    let e : i + 1 ≡ n = omega arith in
    subst (λ (m : ℕ). IsBehind text i m) e (behind_first text i (omega arith) begins)
behind_all text i (suc k) n is within begins =
    let e : i + 1 + k + 1 ≡ n = omega arith in
    subst (λ (m : ℕ). IsBehind text i m) e (behind_next text i (i + 1 + k) (omega arith) (behind_all text i k (i + 1 + k) refl (omega arith) begins))

-- where none stood before, the one that stands here is the only one
pub only_one : (text : Bytes) (line column i at : ℕ) → StandsAt text line column i → StandsAt text line column at → i < at → ⊥
only_one text line column i at first second later = ends (behind_all text i (at - (i + 1)) at (omega arith) (omega (arith, second.within)) first.begins)
  where
    ends : IsBehind text i at → ⊥
    ends (inl low) = omega (arith, first.in_line, second.in_line)
    ends (inr (same, low)) = omega (arith, first.in_column, second.in_column)

-- the place that was found is the one
pub found_here : (text : Bytes) (line column i : ℕ) → ((k : ℕ) → k < i → StandsAt text line column k → ⊥) → StandsAt text line column i → (at : ℕ) → (Some i ≡ Some at) ↔ StandsAt text line column at
found_here text line column i none_before stands at = (there, back)
  where
    there : Some i ≡ Some at → StandsAt text line column at
    there e = subst (λ (n : ℕ). StandsAt text line column n) (cc) stands

    back : StandsAt text line column at → Some i ≡ Some at
    back other =
        let after : i < at → ⊥ = only_one text line column i at stands other in
        let before : at < i → ⊥ = λ low. none_before at low other in
        ap Some (omega arith)

-- behind the last byte there is none
pub found_nowhere : (text : Bytes) (line column i : ℕ) → length text ≤ i → ((k : ℕ) → k < i → StandsAt text line column k → ⊥) → (at : ℕ) → (None ≡ Some at) ↔ StandsAt text line column at
found_nowhere text line column i all none_before at = (λ e. absurd (cc), λ stands. absurd (none_before at (omega (arith, stands.within)) stands))

-- none stands up to a byte that is not the one
pub none_so_far : (text : Bytes) (line column i : ℕ) → (StandsAt text line column i → ⊥) → ((k : ℕ) → k < i → StandsAt text line column k → ⊥) → (k : ℕ) → k < i + 1 → StandsAt text line column k → ⊥
none_so_far text line column i not_here before = below_more (λ (k : ℕ). StandsAt text line column k → ⊥) i before not_here
