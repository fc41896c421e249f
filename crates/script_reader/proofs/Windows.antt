-- What a read leaves in the window.
use Rattle.std.proofs.Common.{◌≡◌, ℕ, suc, ◌+◌, ◌-◌, ◌<◌, ◌≤◌, ◌==◌, ◌∷◌, ◌++◌, length, length-take, get_or, position, inl, inr, true, false, subst, take, drop, Option, Some, None, sym, ap, ◌∙◌, arith}
use Rattle.std.specs.Option.{option_map}
use Rattle.std.proofs.lemmas.List.{take-append-drop, drop-take, drop-drop}
use Rattle.std.proofs.lemmas.List.Quantifiers.{position-Some}
use Rattle.std.proofs.lemmas.Bool.Decides.{nat_tests}
use Rattle.std.proofs.lemmas.Bool.{cases_lt}
use Rattle.std.proofs.lemmas.List.Sums.{fails_before_first}
use Rattle.std.specs.List.{position_or_len}
use Rattle.std.proofs.Math.Seq.{split_at}
use Rattle.script_reader.specs.Lines.{FEED, HasNoFeed}
use Rattle.script_reader.specs.Window.{TakesPart}
use Rattle.std.proofs.lemmas.Grind.{common_steps}
use Rattle.flow_base.specs.Program.{Bytes}
use Rattle.flow_base.specs.Outside.{WhereTold}

front : (n : ℕ) (left old : Bytes) → n ≤ length left → take (n - 0) (drop 0 (take n left ++ drop n old)) ≡ take n left
front n left old within = grind (arith, common_steps)

pub filled : (before after : Option Bytes) (n : ℕ) (old new : Bytes) → after ≡ option_map (λ left. drop n left) before →
    WhereTold before (λ left. (n ≤ length left) × (new ≡ take n left ++ drop n old)) → before ≡ option_map (λ left. take (n - 0) (drop 0 new) ++ left) after
filled None after n old new is told = sym (ap (option_map (λ left. take (n - 0) (drop 0 new) ++ left)) is)
filled (Some left) after n old new is told =
    ap Some (sym (take-append-drop n left) ∙ ap (λ f. f ++ drop n left) (sym (ap (λ w. take (n - 0) (drop 0 w)) told.1 ∙ front n left old told.0)))
    ∙ sym (ap (option_map (λ left. take (n - 0) (drop 0 new) ++ left)) is)

-- ---- what is taken

before_feed : (rest : Bytes) (at : ℕ) → position (λ b. b == FEED) rest ≡ Some at → HasNoFeed (take at rest)
before_feed rest at found = let p = position-Some (λ b. b == FEED) rest at 0 found in λ k d within. grind (arith, common_steps, nat_tests, p.2 k)

cut_at : (rest : Bytes) (at : ℕ) → position (λ b. b == FEED) rest ≡ Some at → rest ≡ take at rest ++ FEED ∷ drop (at + 1) rest
cut_at rest at found =
    let p = position-Some (λ b. b == FEED) rest at 0 found in
    let feed : get_or rest at 0 ≡ FEED = grind (arith, nat_tests, p.1) in
    let next : suc at ≡ at + 1 = omega arith in
    split_at rest at 0 p.0 ∙ ap (λ b. take at rest ++ b ∷ drop (suc at) rest) feed ∙ ap (λ n. take at rest ++ FEED ∷ drop n rest) next

moved : (bytes : Bytes) (start end at : ℕ) → at < length (take (end - start) (drop start bytes)) → drop (at + 1) (take (end - start) (drop start bytes)) ≡ take (end - (start + at + 1)) (drop (start + at + 1) bytes)
moved bytes start end at within =
    let sum : end - start ≡ (at + 1) + (end - (start + at + 1)) = omega (arith, length-take (end - start) (drop start bytes)) in
    let place : start + (at + 1) ≡ start + at + 1 = omega arith in
    ap (λ n. drop (at + 1) (take n (drop start bytes))) sum
    ∙ drop-take (at + 1) (end - (start + at + 1)) (drop start bytes)
    ∙ ap (take (end - (start + at + 1))) (drop-drop (at + 1) start bytes)
    ∙ ap (λ n. take (end - (start + at + 1)) (drop n bytes)) place

-- up to the first LF
pub met_at : (bytes : Bytes) (start end at : ℕ) (now line line' : Bytes) → now ≡ take (end - start) (drop start bytes) → position (λ b. b == FEED) now ≡ Some at → line' ≡ line ++ take at now
    → TakesPart now (take (end - (start + at + 1)) (drop (start + at + 1) bytes)) line line' true
met_at bytes start end at now line line' is found more =
    let within : at < length now = (position-Some (λ b. b == FEED) now at 0 found).0 in
    let same : drop (at + 1) now ≡ take (end - (start + at + 1)) (drop (start + at + 1) bytes) = ap (drop (at + 1)) is ∙ moved bytes start end at (subst (λ r. at < length r) is within) in
    (take at now, before_feed now at found, cut_at now at found ∙ ap (λ r. take at now ++ FEED ∷ r) same, more)

past_end : (rest : Bytes) → position (λ b. b == FEED) rest ≡ None → length rest ≤ position_or_len (λ b. b == FEED) rest
past_end rest none = elim (cases_lt (position_or_len (λ b. b == FEED) rest) (length rest)) [
  | inl below ↦ absurd (grind (arith, nat_tests))
  | inr past ↦ past
]

none_fed : (rest : Bytes) → position (λ b. b == FEED) rest ≡ None → HasNoFeed rest
none_fed rest none = λ k d within. fails_before_first (λ b. b == FEED) rest k d (omega (arith, past_end rest none))

-- all, where there is no LF
pub unmet : (bytes : Bytes) (end : ℕ) (now line line' : Bytes) → position (λ b. b == FEED) now ≡ None → line' ≡ line ++ now → TakesPart now (take (end - end) (drop end bytes)) line line' false
unmet bytes end now line line' none more = (grind (arith, common_steps), none_fed now none, more)
