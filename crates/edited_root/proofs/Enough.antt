-- There is a free row for each new module.
use Rattle.std.proofs.Common.{◌≡◌, ℕ, zero, suc, ◌+◌, ◌-◌, ◌<◌, ◌≤◌, Bool, true, false, List, [], ◌∷◌, length, take, drop, get_or, slice_get, replicate, Option, Some, None, refl, sym, ap, ◌∙◌, subst, inl, inr, arith}
use Rattle.std.proofs.lemmas.Bool.{cases_lt}
use Rattle.heap_core.proofs.Lists.{drop_step, drop_past, get_index}
use Rattle.pending_edits.specs.Rows.{next_from}
use Rattle.edited_root.specs.Numbering.{FindsFree, IsGivenRow, ons, offs, new_one, news}
use Rattle.edited_root.proofs.Lists.{one_value, take_whole, place_at, within_there, drop_none}

-- each mark is on or off
on_or_off : (marks : List Bool) → ons marks + offs marks ≡ length marks
on_or_off [] = refl
on_or_off (true ∷ marks) = let r = on_or_off marks in omega (arith, r)
on_or_off (false ∷ marks) = let r = on_or_off marks in omega (arith, r)

pub none_on : (n : ℕ) → ons (replicate n false) ≡ 0
none_on zero = refl
none_on (suc n) = none_on n

-- one more that is kept
pub news_more : (kept : List (Option ℕ)) (i : ℕ) (d : Option ℕ) → i < length kept → news (take (i + 1) kept) ≡ news (take i kept) + new_one (get_or kept i d)
news_more [] i d low = absurd (omega arith)
news_more (k ∷ kept) zero d low = omega arith
news_more (k ∷ kept) (suc i) d low = let n : suc i + 1 ≡ suc (i + 1) = omega arith in rw n (let r = news_more kept i d (omega arith) in omega (arith, r))

pub ons_more : (kept : List (Option ℕ)) (i : ℕ) (old new : List Bool) → i < length kept → ons old + news (take i kept) ≤ i → ons new + new_one (get_or kept i None) ≤ ons old + 1
    → ons new + news (take (i + 1) kept) ≤ i + 1
ons_more kept i old new low so_far more = let n = news_more kept i None low in omega (arith, n, so_far, more)

pub ons_none_yet : (kept : List (Option ℕ)) (capacity : ℕ) (marks : List Bool) → marks ≡ replicate capacity false → ons marks + news (take 0 kept) ≤ 0
ons_none_yet kept capacity marks is = let o = ap ons is in let n = none_on capacity in let z = first kept in omega (arith, o, n, z)
  where
    first : (kept : List (Option ℕ)) → news (take 0 kept) ≡ 0
    first [] = refl
    first (k ∷ kept) = refl

pub ons_all : (kept : List (Option ℕ)) (i : ℕ) (marks : List Bool) → i ≡ length kept → ons marks + news (take i kept) ≤ i → ons marks + news kept ≤ length kept
ons_all kept i marks all few = let n = ap news (ap (λ (k : ℕ). take k kept) all ∙ take_whole kept) in omega (arith, n, few, all)

-- there are as many free rows as new modules
pub enough_free : (kept : List (Option ℕ)) (marks : List Bool) (capacity : ℕ) → length marks ≡ capacity → length kept ≤ capacity → ons marks + news kept ≤ length kept → news kept ≤ offs marks
enough_free kept marks capacity size few on = let all = on_or_off marks in omega (arith, all, size, few, on)

-- where some mark is off, the next one is there
pub off_within : (marks : List Bool) (at : ℕ) → 0 < offs (drop at marks) → at < length marks
off_within [] zero some = absurd (omega (arith, some))
off_within [] (suc at) some = absurd (omega (arith, some))
off_within (m ∷ marks) zero some = omega arith
off_within (m ∷ marks) (suc at) some = let r = off_within marks at some in omega (arith, r)

-- a mark that is on is passed
pub off_later : (marks : List Bool) (at : ℕ) → slice_get marks at ≡ Some true → offs (drop (at + 1) marks) ≡ offs (drop at marks)
off_later marks at on = sym (ap offs (drop_step marks at true on))

-- and one that is off is taken
off_taken : (marks : List Bool) (at : ℕ) → slice_get marks at ≡ Some false → offs (drop at marks) ≡ suc (offs (drop (at + 1) marks))
off_taken marks at off = ap offs (drop_step marks at false off)

-- behind the free row that was found there is one less
off_found : (marks : List Bool) (n at free : ℕ) → free ≡ at + n → ((k : ℕ) → at ≤ k → k < free → slice_get marks k ≡ Some true) → offs (drop free marks) ≡ offs (drop at marks)
off_found marks zero at free is on = ap (λ (k : ℕ). offs (drop k marks)) (let e : free ≡ at = omega (arith, is) in e)
off_found marks (suc n) at free is on =
    off_found marks n (at + 1) free (omega (arith, is)) (λ k low high. on k (omega (arith, low)) high) ∙ off_later marks at (on at (omega arith) (omega (arith, is)))

pub row_given : (kept : List (Option ℕ)) (marks : List Bool) (i at row next : ℕ) (k : Option ℕ) → slice_get kept i ≡ Some k → news (drop i kept) ≤ offs (drop at marks) → IsGivenRow marks at k row → next ≡ next_from at k row
    → news (drop (i + 1) kept) ≤ offs (drop next marks)
row_given kept marks i at row next k at_i so_far given goes = go k at_i given goes
  where
    go : (k : Option ℕ) → slice_get kept i ≡ Some k → IsGivenRow marks at k row → next ≡ next_from at k row → news (drop (i + 1) kept) ≤ offs (drop next marks)
    go None there finds goes =
        let step = ap news (drop_step kept i None there) in
        let found = off_found marks (row - at) at row (let b = finds.behind in omega (arith, b)) finds.least in
        let taken = off_taken marks row finds.free in
        let after : offs (drop next marks) ≡ offs (drop (row + 1) marks) = ap (λ (n : ℕ). offs (drop n marks)) (let e : next ≡ row + 1 = omega (arith, goes) in e) in
        omega (arith, step, found, taken, after, so_far)
    go (Some r) there same goes =
        let step = ap news (drop_step kept i (Some r) there) in
        let after : offs (drop next marks) ≡ offs (drop at marks) = ap (λ (n : ℕ). offs (drop n marks)) goes in
        omega (arith, step, after, so_far)

-- so the next module has its row
pub row_left : (kept : List (Option ℕ)) (marks : List Bool) (i at : ℕ) (k : Option ℕ) → i < length kept → k ≡ get_or kept i k → news (drop i kept) ≤ offs (drop at marks) → new_one k ≤ offs (drop at marks)
row_left kept marks i at k low is so_far = let step = ap news (drop_step kept i k (get_index kept i k low is)) in omega (arith, step, so_far)

-- ---- the next free row

pub free_more : (marks : List Bool) (first at : ℕ) (d : Bool) → at < length marks → get_or marks at d ≡ true → ((k : ℕ) → first ≤ k → k < at → slice_get marks k ≡ Some true) → 0 < offs (drop at marks)
    → ((k : ℕ) → first ≤ k → k < at + 1 → slice_get marks k ≡ Some true) × (0 < offs (drop (at + 1) marks))
free_more marks first at d low on so_far some =
    let here : slice_get marks at ≡ Some true = place_at marks at d low ∙ ap Some on in (
      (λ k from below. elim (cases_lt k at) [ inl less ↦ so_far k from less | inr more ↦ subst (λ (n : ℕ). slice_get marks n ≡ Some true) (let e : at ≡ k = omega (arith, more, below) in e) here ]),
      (let same = off_later marks at here in omega (arith, same, some)),
    )

pub free_found : (marks : List Bool) (first at : ℕ) (d : Bool) → at < length marks → get_or marks at d ≡ false → first ≤ at → ((k : ℕ) → first ≤ k → k < at → slice_get marks k ≡ Some true) → FindsFree marks first at
free_found marks first at d low off from so_far = record { behind = from; free = place_at marks at d low ∙ ap Some off; least = so_far }
