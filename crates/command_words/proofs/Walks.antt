-- The walk reads exactly the words that are pieces.
use Rattle.std.proofs.Common.{◌≡◌, ℕ, suc, ◌≤◌, ◌+◌, List, [], ◌∷◌, ◌++◌, length, take, drop, Option, Some, None, false, refl, sym, ap, ◌∙◌, subst, arith, inl, inr, append_assoc}
use Rattle.std.specs.Prelude.{option_and_then, flat_map, IsTrue, if◌then◌else◌}
use Rattle.std.specs.List.{AllByRecursion}
use Rattle.std.specs.Str.Parse.{digits_value}
use Rattle.std.proofs.lemmas.Bool.{cases_Bool}
use Rattle.std.proofs.lemmas.List.{append-nil}
use Rattle.std.proofs.lemmas.Option.{same_Some, option_and_then_some}
use Rattle.flow_values.specs.Path.{Bytes}
use Rattle.command_words.specs.declared.command.Setting.{Setting}
use Rattle.command_words.specs.declared.seen.Seen.{Seen}
use Rattle.command_words.specs.Words.{name_of, Piece, root, joined, apart, words_of, is_root, IsDigits, IsPiece, Told, the_root, the, told_by, told_from}
use Rattle.command_words.specs.Reading as reading
use Rattle.command_words.specs.Reading.{setting_named, number_of, equals_in, joined_at, put, put_root, waits_for, walk, step, step_at, start, dashed, dashed_at}
use Rattle.command_words.proofs.Slots.{given, number_told, root_told, Puts, put_tells, can_put, put_root_tells, can_put_root, waits_gives}
use Rattle.command_words.proofs.Pieces.{is_named, named, no_root, not_bare, reads_joined, is_cut, is_number, number, told_joined, told_apart, told_root}

-- ---- what was read is pieces

-- some words from a place on are pieces, and tell what came
pub record Reads (from : ℕ) (words : List Bytes) (seen after : Seen) : Type 0 where
  pub pieces : List Piece
  pub spelled : flat_map words_of pieces ≡ words
  pub each : AllByRecursion IsPiece pieces
  pub gives : (what : Told) → given what after ≡ given what seen ++ told_from what from pieces

abbrev Gives : (Told → List ℕ) → Seen → Seen → Type 0
Gives told seen after = (what : Told) → given what after ≡ given what seen ++ told what

reads_none : (from : ℕ) (seen : Seen) → Reads from [] seen seen
reads_none from seen = record { pieces = []; spelled = refl; each = tt; gives = λ what. sym (append-nil (given what seen)) }

reads_more : (from next : ℕ) (piece : Piece) (words : List Bytes) (seen between after : Seen) → next ≡ from + length (words_of piece) → IsPiece piece → Gives (λ what. told_by what from piece) seen between
    → Reads next words between after → Reads from (words_of piece ++ words) seen after
reads_more from next piece words seen between after at is tells more = record {
  pieces = piece ∷ more.pieces;
  spelled = ap (λ l. words_of piece ++ l) more.spelled;
  each = (is, more.each);
  gives = λ what. more.gives what ∙ (λ i. tells what i ++ told_from what (at i) more.pieces) ∙ append_assoc (given what seen) (told_by what from piece) (told_from what (from + length (words_of piece)) more.pieces);
}

abbrev pending : Option Setting → List Bytes
pending None = []
pending (Some s) = name_of s ∷ []

-- what a joined word tells
record IsJoined (word : Bytes) (seen after : Seen) : Type 0 where
  s : Setting
  value : Bytes
  word_is : word ≡ name_of s ++ (61 ∷ value)
  digits : IsDigits value
  puts : Puts (number_told s (digits_value 10 value)) seen after

puts_number : (s : Setting) (value : Bytes) (n : ℕ) (seen after : Seen) → IsDigits value × (n ≡ digits_value 10 value) → put s n seen ≡ Some after → Puts (number_told s (digits_value 10 value)) seen after
puts_number s value n seen after is puts = subst (λ m. Puts (number_told s m) seen after) is.1 (put_tells s n seen after puts)

is_joined : (word : Bytes) (seen after : Seen) → reading.joined word seen ≡ Some after → IsJoined word seen after
is_joined word seen after is =
    option_and_then_some (joined_at word seen) (equals_in word) after is (λ k found rest.
    option_and_then_some (λ s. option_and_then (λ n. put s n seen) (number_of (drop (k + 1) word))) (setting_named (take k word)) after rest (λ s name value.
    option_and_then_some (λ n. put s n seen) (number_of (drop (k + 1) word)) after value (λ n digits puts.
    let cut = is_cut word 0 k found in
    let at : cut.0 ≡ k = omega (arith, cut.1) in
    let behind : suc cut.0 ≡ k + 1 = omega (arith, cut.1) in
    let whole : (take k word ++ (61 ∷ drop (k + 1) word)) ≡ word = sym (λ i. take (at i) word ++ (61 ∷ drop (behind i) word)) ∙ cut.2 in
    record {
      s = s;
      value = drop (k + 1) word;
      word_is = sym whole ∙ ap (λ l. l ++ (61 ∷ drop (k + 1) word)) (is_named (take k word) s name);
      digits = (is_number (drop (k + 1) word) n digits).0;
      puts = puts_number s (drop (k + 1) word) n seen after (is_number (drop (k + 1) word) n digits) puts;
    })))

-- a word for which nothing waits is the folder's, or the name of a setting, or a joined one
data Starts (place : ℕ) (word : Bytes) (seen after : Seen) : Type 0 where
  roots : IsTrue (is_root word) → Puts (root_told place) seen after → Starts place word seen after
  names : (s : Setting) → word ≡ name_of s → after ≡ waits_for (Some s) seen → Starts place word seen after
  joins : IsJoined word seen after → Starts place word seen after

dashes : (place : ℕ) (word : Bytes) (seen after : Seen) (name : Option Setting) → setting_named word ≡ name → dashed_at name word seen ≡ Some after → Starts place word seen after
dashes place word seen after (Some s) name is = names s (is_named word s name) (sym (same_Some (waits_for (Some s) seen) after is))
dashes place word seen after None name is = joins (is_joined word seen after is)

starts : (place : ℕ) (word : Bytes) (seen after : Seen) → start place word seen ≡ Some after → Starts place word seen after
starts place word seen after is = elim (cases_Bool (is_root word)) [
  | inl holds ↦ roots holds (put_root_tells place seen after (sym (ap (λ b. if b then put_root place seen else dashed word seen) holds) ∙ is))
  | inr fails ↦ dashes place word seen after (setting_named word) refl (sym (ap (λ b. if b then put_root place seen else dashed word seen) fails) ∙ is)
]

abbrev Goes : List Bytes → Type 0
Goes words = (from place : ℕ) (waiting : Option Setting) (seen after : Seen) → seen.waiting ≡ waiting → place ≡ from + length (pending waiting) → walk place words seen ≡ Some after → after.waiting ≡ None
    → Reads from (pending waiting ++ words) seen after

step_waits : (from place : ℕ) (s : Setting) (word : Bytes) (words : List Bytes) (seen between after : Seen) → Goes words → place ≡ from + 1
    → option_and_then (λ n. put s n (waits_for None seen)) (number_of word) ≡ Some between → walk (place + 1) words between ≡ Some after → after.waiting ≡ None → Reads from (name_of s ∷ word ∷ words) seen after
step_waits from place s word words seen between after goes at is walked done =
    option_and_then_some (λ n. put s n (waits_for None seen)) (number_of word) between is (λ n value puts.
    let digits = is_number word n value in
    let told = puts_number s word n (waits_for None seen) between digits puts in
    let gives : Gives (λ what. told_by what from (apart s word)) seen between = λ what. told.gives what ∙ (λ i. waits_gives None seen what i ++ told_apart s word from what i) in
    reads_more from (place + 1) (apart s word) words seen between after (omega (arith, at)) digits.0 gives
    (goes (place + 1) (place + 1) None between after told.waits (omega arith) walked done))

step_starts : (place : ℕ) (word : Bytes) (words : List Bytes) (seen between after : Seen) → Goes words → seen.waiting ≡ None → Starts place word seen between → walk (place + 1) words between ≡ Some after
    → after.waiting ≡ None → Reads place (word ∷ words) seen after
step_starts place word words seen between after goes waits (roots is told) walked done =
    let gives : Gives (λ what. told_by what place (root word)) seen between = λ what. told.gives what ∙ ap (λ l. given what seen ++ l) (told_root word place what) in
    reads_more place (place + 1) (root word) words seen between after refl is gives (goes (place + 1) (place + 1) None between after (told.waits ∙ waits) (omega arith) walked done)
step_starts place word words seen between after goes waits (names s name is) walked done =
    let more = goes place (place + 1) (Some s) between after (ap (λ b. b.waiting) is) refl walked done in
    let same : (name_of s ∷ words) ≡ (word ∷ words) = ap (λ w. w ∷ words) (sym name) in
    record {
      pieces = more.pieces;
      spelled = more.spelled ∙ same;
      each = more.each;
      gives = λ what. more.gives what ∙ ap (λ l. l ++ told_from what place more.pieces) (ap (λ b. given what b) is ∙ waits_gives (Some s) seen what);
    }
step_starts place word words seen between after goes waits (joins is) walked done =
    let gives : Gives (λ what. told_by what place (joined is.s is.value)) seen between = λ what. is.puts.gives what ∙ ap (λ l. given what seen ++ l) (told_joined is.s is.value place what) in
    subst (λ w. Reads place (w ∷ words) seen after) (sym is.word_is)
    (reads_more place (place + 1) (joined is.s is.value) words seen between after refl is.digits gives (goes (place + 1) (place + 1) None between after (is.puts.waits ∙ waits) (omega arith) walked done))

pub reads : (words : List Bytes) → Goes words
reads [] from place waiting seen after waits at is done =
    let same = same_Some seen after is in
    let none : waiting ≡ None = sym waits ∙ ap (λ s. s.waiting) same ∙ done in
    subst (λ s. Reads from (pending waiting ++ []) seen s) same (subst (λ w. Reads from (pending w ++ []) seen seen) (sym none) (reads_none from seen))
reads (word ∷ words) from place waiting seen after waits at is done =
    option_and_then_some (walk (place + 1) words) (step place word seen) after is (λ between stepped walked.
    by (reads words) waiting waits at between (sym (ap (λ w. step_at w place word seen) waits) ∙ stepped) walked) where
      by : Goes words → (waiting : Option Setting) → seen.waiting ≡ waiting → place ≡ from + length (pending waiting) → (between : Seen) → step_at waiting place word seen ≡ Some between → walk (place + 1) words between ≡ Some after
          → Reads from (pending waiting ++ (word ∷ words)) seen after
      by goes (Some s) waits at between stepped walked = step_waits from place s word words seen between after goes at stepped walked done
      by goes None waits at between stepped walked =
          let here : place ≡ from = omega (arith, at) in
          subst (λ f. Reads f (word ∷ words) seen after) here (step_starts place word words seen between after goes waits (starts place word seen between stepped) walked done)

-- ---- pieces are read

pub record Walks (from : ℕ) (words : List Bytes) (pieces : List Piece) (seen : Seen) : Type 0 where
  pub after : Seen
  pub walked : walk from words seen ≡ Some after
  pub done : after.waiting ≡ None
  pub gives : (what : Told) → given what after ≡ given what seen ++ told_from what from pieces

-- a piece is read, whatever follows
record Passes (from : ℕ) (piece : Piece) (seen : Seen) : Type 0 where
  between : Seen
  passed : (words : List Bytes) → walk from (words_of piece ++ words) seen ≡ walk (from + length (words_of piece)) words between
  waits : between.waiting ≡ None
  gives : Gives (λ what. told_by what from piece) seen between

abbrev Fits : (Told → List ℕ) → Seen → Type 0
Fits told seen = (what : Told) → length (given what seen ++ told what) ≤ 1

passes_root : (from : ℕ) (word : Bytes) (more : Told → List ℕ) (seen : Seen) → seen.waiting ≡ None → IsTrue (is_root word) → Fits (λ what. told_by what from (root word) ++ more what) seen → Passes from (root word) seen
passes_root from word more seen waits is fits =
    let made = can_put_root from seen (more the_root) (fits the_root) in
    let told = put_root_tells from seen made.0 made.1 in
    let stepped : step from word seen ≡ Some made.0 = ap (λ w. step_at w from word seen) waits ∙ ap (λ b. if b then put_root from seen else dashed word seen) is ∙ made.1 in
    record {
      between = made.0;
      passed = λ words. ap (λ o. option_and_then (walk (from + 1) words) o) stepped;
      waits = told.waits ∙ waits;
      gives = λ what. told.gives what ∙ ap (λ l. given what seen ++ l) (told_root word from what);
    }

passes_joined : (from : ℕ) (s : Setting) (value : Bytes) (more : Told → List ℕ) (seen : Seen) → seen.waiting ≡ None → IsDigits value → Fits (λ what. told_by what from (joined s value) ++ more what) seen → Passes from (joined s value) seen
passes_joined from s value more seen waits is fits =
    let n = digits_value 10 value in
    let word = name_of s ++ (61 ∷ value) in
    let made = can_put s n seen (more (the s)) (subst (λ l. length (given (the s) seen ++ (l ++ more (the s))) ≤ 1) (sym (told_joined s value from (the s))) (fits (the s))) in
    let told = put_tells s n seen made.0 made.1 in
    let stepped : step from word seen ≡ Some made.0 =
    ap (λ w. step_at w from word seen) waits ∙ ap (λ b. if b then put_root from seen else dashed word seen) (no_root s (61 ∷ value)) ∙ ap (λ o. dashed_at o word seen) (not_bare s value)
    ∙ reads_joined s value seen ∙ ap (λ o. option_and_then (λ m. put s m seen) o) (number value is) ∙ made.1 in
    record {
      between = made.0;
      passed = λ words. ap (λ o. option_and_then (walk (from + 1) words) o) stepped;
      waits = told.waits ∙ waits;
      gives = λ what. told.gives what ∙ ap (λ l. given what seen ++ l) (told_joined s value from what);
    }

name_root : (s : Setting) → is_root (name_of s) ≡ false
name_root s = subst (λ l. is_root l ≡ false) (append-nil (name_of s)) (no_root s [])

passes_apart : (from : ℕ) (s : Setting) (value : Bytes) (more : Told → List ℕ) (seen : Seen) → seen.waiting ≡ None → IsDigits value → Fits (λ what. told_by what from (apart s value) ++ more what) seen → Passes from (apart s value) seen
passes_apart from s value more seen waits is fits =
    let n = digits_value 10 value in
    let name = name_of s in
    let waiting = waits_for (Some s) seen in
    let again = waits_for None waiting in
    let same : (what : Told) → given what again ≡ given what seen = λ what. waits_gives None waiting what ∙ waits_gives (Some s) seen what in
    let fit : length (given (the s) again ++ (number_told s n (the s) ++ more (the s))) ≤ 1 =
    subst (λ l. length (l ++ (number_told s n (the s) ++ more (the s))) ≤ 1) (sym (same (the s)))
    (subst (λ l. length (given (the s) seen ++ (l ++ more (the s))) ≤ 1) (sym (told_apart s value from (the s))) (fits (the s))) in
    let made = can_put s n again (more (the s)) fit in
    let told = put_tells s n again made.0 made.1 in
    let stepped : step from name seen ≡ Some waiting =
    ap (λ w. step_at w from name seen) waits ∙ ap (λ b. if b then put_root from seen else dashed name seen) (name_root s) ∙ ap (λ o. dashed_at o name seen) (named s) in
    let stepped_on : step (from + 1) value waiting ≡ Some made.0 = ap (λ o. option_and_then (λ m. put s m again) o) (number value is) ∙ made.1 in
    let two : from + 1 + 1 ≡ from + 2 = omega arith in
    record {
      between = made.0;
      passed = λ words. ap (λ o. option_and_then (walk (from + 1) (value ∷ words)) o) stepped ∙ ap (λ o. option_and_then (walk (from + 1 + 1) words) o) stepped_on ∙ ap (λ (m : ℕ). walk m words made.0) two;
      waits = told.waits;
      gives = λ what. told.gives what ∙ (λ i. same what i ++ told_apart s value from what i);
    }

passes : (from : ℕ) (piece : Piece) (more : Told → List ℕ) (seen : Seen) → seen.waiting ≡ None → IsPiece piece → Fits (λ what. told_by what from piece ++ more what) seen → Passes from piece seen
passes from (root word) more seen waits is fits = passes_root from word more seen waits is fits
passes from (joined s value) more seen waits is fits = passes_joined from s value more seen waits is fits
passes from (apart s value) more seen waits is fits = passes_apart from s value more seen waits is fits

pub walks : (pieces : List Piece) (from : ℕ) (seen : Seen) → seen.waiting ≡ None → AllByRecursion IsPiece pieces → Fits (λ what. told_from what from pieces) seen → Walks from (flat_map words_of pieces) pieces seen
walks [] from seen waits each fits = record { after = seen; walked = refl; done = waits; gives = λ what. sym (append-nil (given what seen)) }
walks (piece ∷ pieces) from seen waits each fits =
    let next = from + length (words_of piece) in
    let passed = passes from piece (λ what. told_from what next pieces) seen waits each.0 fits in
    let whole : (what : Told) → given what passed.between ++ told_from what next pieces ≡ given what seen ++ told_from what from (piece ∷ pieces) =
    λ what. ap (λ l. l ++ told_from what next pieces) (passed.gives what) ∙ append_assoc (given what seen) (told_by what from piece) (told_from what next pieces) in
    let more = walks pieces next passed.between passed.waits each.1 (λ what. subst (λ l. length l ≤ 1) (sym (whole what)) (fits what)) in
    record {
      after = more.after;
      walked = passed.passed (flat_map words_of pieces) ∙ more.walked;
      done = more.done;
      gives = λ what. more.gives what ∙ whole what;
    }
