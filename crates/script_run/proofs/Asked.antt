-- What is asked, as it is answered and printed.
use Rattle.std.proofs.Common.{◌≡◌, ◌⊎◌, inl, inr, ℕ, zero, suc, ◌+◌, ◌<◌, ◌≤◌, List, [], ◌∷◌, ◌++◌, length, take, get_or, refl, sym, ap, ◌∙◌, subst, arith, append_assoc}
use Rattle.std.proofs.lemmas.List.{take_more, take_all, append-nil}
use Rattle.std.specs.Prelude.{Result, Ok, Err, IfOk}
use Rattle.std.specs.List.{AllZip}
use Rattle.flow_base.specs.Program.{Bytes, Program}
use Rattle.heap_core.specs.Meaning.{Meaning}
use Rattle.payloads.specs.declared.payload.Payload.{Payload}
use Rattle.payloads.specs.declared.payload.Payload.TheVariants as payload
use Rattle.pending_edits.specs.Pending.{Pending}
use Rattle.asks.specs.declared.ask.Ask.{Ask}
use Rattle.asks.specs.declared.answer.AskFault.TheVariants as ask_fault
use Rattle.beside.specs.answers_law.specs.Answers.{Answered, IsAnswer}
use Rattle.beside.specs.heap_answers.specs.States.{Answers}
use Rattle.beside.specs.heap_answers.specs.States as answers_of
use Rattle.answer_print.specs.Lines.{answer_lines}
use Rattle.beside.specs.Uses.{LaneUse, lanes_after}
use Rattle.beside.specs.Told.{Told}
use Rattle.beside.specs.Telling.{versions}
use Rattle.beside.specs.Server.{Moment, IsToldOf, IsToldOfEither}
use Rattle.script_run.specs.Transcript.{IsAnsweredAt, AnswersBeside}
use Rattle.script_run.specs.Session.{modules_of, program_in, program_with, Held, held, standing_of, standing_in, IsFound, IsToldOfSome, PrintsTold, PrintAllTold, HasAsked}

-- the program of a state is one, whoever reads it
same_modules : (root : Payload) → answers_of.modules_of root ≡ modules_of root
same_modules payload.Absent = refl
same_modules (payload.Root root) = refl
same_modules (payload.Parse parse) = refl
same_modules (payload.Deps deps) = refl
same_modules (payload.Sig sig) = refl
same_modules (payload.Errs errs) = refl

same_program : (state : List Payload) → answers_of.program_in state ≡ program_in state
same_program [] = refl
same_program (root ∷ state) = ap program_with (same_modules root)

-- what is answered, where memory was not refused
pub is_answer : (program : Program) (asked : Ask) (answer : Answered) → (answer ≡ Err ask_fault.NoMemory → ⊥) → Answers program asked answer → IsAnswer program asked answer
is_answer program asked (Ok answer) found is = is
is_answer program asked (Err ask_fault.UnknownPath) found is = is
is_answer program asked (Err ask_fault.NoExpression) found is = is
is_answer program asked (Err ask_fault.NoMemory) found is = absurd (found refl)

-- what a reader's state answers is the answer to what is asked of its program
pub found_there : (state : List Payload) (asked : Ask) (answer : Answered) → (answer ≡ Err ask_fault.NoMemory → ⊥) → Answers (answers_of.program_in state) asked answer → IsAnswer (program_in state) asked answer
found_there state asked answer found is = subst (λ program. IsAnswer program asked answer) (same_program state) (is_answer (answers_of.program_in state) asked answer found is)

-- ---- what is told

abbrev pub moment_of : Meaning Payload → Moment
moment_of m = record { version = m.version; state = m.committed }

-- it is told of some program
pub told_of_some : (asked : Ask) (told : Told Answered) (moment : Moment) → IsToldOf moment asked told → IsToldOfSome asked told
told_of_some asked told moment is = (answers_of.program_in moment.state, is.answer)

either_of_some : (asked : Ask) (told : Told Answered) (before now : Moment) → IsToldOfEither before now asked told → IsToldOfSome asked told
either_of_some asked told before now (inl is) = told_of_some asked told before is
either_of_some asked told before now (inr is) = told_of_some asked told now is

pub all_of_some : (before now : Moment) (asks : List Ask) (told : List (Told Answered)) → AllZip (IsToldOfEither before now) asks told → AllZip IsToldOfSome asks told
all_of_some before now [] [] all = tt
all_of_some before now [] (t ∷ told) all = absurd all
all_of_some before now (asked ∷ asks) [] all = absurd all
all_of_some before now (asked ∷ asks) (t ∷ told) all = (either_of_some asked t before now all.0, all_of_some before now asks told all.1)

pub all_of_some_at : (before now : Moment) (asks : List Ask) (told list : List (Told Answered)) → list ≡ told → AllZip (IsToldOfEither before now) asks told → AllZip IsToldOfSome asks list
all_of_some_at before now asks told list same all = subst (λ (ts : List (Told Answered)). AllZip IsToldOfSome asks ts) (sym same) (all_of_some before now asks told all)

-- it can be printed, and is found
pub found_of_some : (asked : Ask) (told : Told Answered) → IsFound told.answer → (some : IsToldOfSome asked told) → IsAnswer some.0 asked told.answer
found_of_some asked told found some = is_answer some.0 asked told.answer found some.1

pub prints_told : {E : Type 0} (asked : Ask) (told : Told Answered) (lines : Result Bytes E) → IsFound told.answer → IfOk lines (λ text. text ≡ answer_lines told.version asked told.answer) → IfOk lines (PrintsTold asked told)
prints_told asked told (Ok text) found printed = (found, printed)
prints_told asked told (Err e) found printed = tt

-- ---- what is told of some asks, printed one after the other

answered_at : (m : Meaning Payload) (w : Pending) (ls : List LaneUse) (asked : Ask) (told : Told Answered) → IsToldOf (moment_of m) asked told → IsFound told.answer → IsAnsweredAt (standing_of m w ls) told.version asked told.answer
answered_at m w ls asked told is found = (is.version, found_there m.committed asked told.answer found is.answer)

answered_by : (m n : Meaning Payload) (w v : Pending) (ls : List LaneUse) (asked : Ask) (told : Told Answered) → IsToldOfEither (moment_of m) (moment_of n) asked told → IsFound told.answer
    → IsAnsweredAt (standing_of m w ls) told.version asked told.answer ⊎ IsAnsweredAt (standing_of n v ls) told.version asked told.answer
answered_by m n w v ls asked told (inl is) found = inl (answered_at m w ls asked told is found)
answered_by m n w v ls asked told (inr is) found = inr (answered_at n v ls asked told is found)

-- what is told beside a recheck, of either of two moments, are the answers beside it
answers_told : (m n : Meaning Payload) (w v : Pending) (ls : List LaneUse) (asks : List Ask) (told : List (Told Answered)) (answered : Bytes) → AllZip (IsToldOfEither (moment_of m) (moment_of n)) asks told
    → PrintAllTold asks told answered → AnswersBeside (standing_of m w ls) (standing_of n v ls) asks (versions told) answered
answers_told m n w v ls [] [] answered all prints = prints
answers_told m n w v ls [] (t ∷ told) answered all prints = absurd all
answers_told m n w v ls (asked ∷ asks) [] answered all prints = absurd all
answers_told m n w v ls (asked ∷ asks) (t ∷ told) answered all (first, rest, one, others, is) =
    (t.answer, rest, answered_by m n w v ls asked t all.0 one.0, answers_told m n w v ls asks told rest all.1 others, is ∙ ap (λ (b : Bytes). b ++ rest) one.1)

pub answers_told_at : (m n : Meaning Payload) (w v : Pending) (ls : List LaneUse) (asks : List Ask) (told list : List (Told Answered)) (answered : Bytes) → list ≡ told → AllZip (IsToldOfEither (moment_of m) (moment_of n)) asks told
    → PrintAllTold asks list answered → AnswersBeside (standing_of m w ls) (standing_of n v ls) asks (versions told) answered
answers_told_at m n w v ls asks told list answered same all prints = answers_told m n w v ls asks told answered all (subst (λ (ts : List (Told Answered)). PrintAllTold asks ts answered) same prints)

-- they are as many
pub told_long : {X Y : Type 0} (F : X → Y → Type 0) (xs : List X) (ys : List Y) → AllZip F xs ys → length xs ≡ length ys
told_long F [] [] all = refl
told_long F [] (y ∷ ys) all = absurd all
told_long F (x ∷ xs) [] all = absurd all
told_long F (x ∷ xs) (y ∷ ys) all = ap suc (told_long F xs ys all.1)

-- what holds of all that stand beside one another holds at a place
there : {X Y : Type 0} (F : X → Y → Type 0) (xs : List X) (ys : List Y) (i : ℕ) (x : X) (y : Y) → AllZip F xs ys → i < length xs → F (get_or xs i x) (get_or ys i y)
there F [] ys i x y all within = absurd (omega arith)
there F (a ∷ xs) [] i x y all within = absurd all
there F (a ∷ xs) (b ∷ ys) zero x y all within = all.0
there F (a ∷ xs) (b ∷ ys) (suc i) x y all within = there F xs ys i x y all.1 (omega arith)

pub told_at : {X Y : Type 0} (F : X → Y → Type 0) (xs : List X) (ys : List Y) (i : ℕ) (x : X) (y : Y) → AllZip F xs ys → i < length xs → x ≡ get_or xs i x → y ≡ get_or ys i y → F x y
told_at F xs ys i x y all within is at = subst (λ a. F a y) (sym is) (subst (λ b. F (get_or xs i x) b) (sym at) (there F xs ys i x y all within))

-- what was told of some asks, and then of one more
print_more : (asks : List Ask) (told : List (Told Answered)) (printed : Bytes) (asked : Ask) (t : Told Answered) (text : Bytes) → PrintAllTold asks told printed → PrintsTold asked t text
    → PrintAllTold (asks ++ asked ∷ []) (told ++ t ∷ []) (printed ++ text)
print_more [] [] printed asked t text all one = (text, [], one, refl, ap (λ (b : Bytes). b ++ text) all ∙ sym (append-nil text))
print_more [] (u ∷ told) printed asked t text all one = absurd all
print_more (other ∷ asks) [] printed asked t text all one = absurd all
print_more (other ∷ asks) (u ∷ told) printed asked t text (first, rest, this, others, is) one =
    (first, rest ++ text, this, print_more asks told rest asked t text others one, ap (λ (b : Bytes). b ++ text) is ∙ append_assoc first rest text)

-- the answers up to a place were printed behind what was there
abbrev pub PrintsTo : List Ask → List (Told Answered) → ℕ → Bytes → Bytes → Type 0
PrintsTo asks told i old now = (answered : Bytes) × PrintAllTold (take i asks) (take i told) answered × (now ≡ old ++ answered)

pub prints_more : (asks : List Ask) (told : List (Told Answered)) (i : ℕ) (asked : Ask) (t : Told Answered) (old now new text piece : Bytes) → i < length asks → i < length told → asked ≡ get_or asks i asked → t ≡ get_or told i t
    → PrintsTo asks told i old now → PrintsTold asked t text → piece ≡ text → new ≡ now ++ piece → PrintsTo asks told (i + 1) old new
prints_more asks told i asked t old now new text piece within there is at (answered, all, sofar) one same more =
    let next : take (i + 1) asks ≡ take i asks ++ asked ∷ [] = take_more asks i asked within ∙ ap (λ (a : Ask). take i asks ++ a ∷ []) (sym is) in
    let after : take (i + 1) told ≡ take i told ++ t ∷ [] = take_more told i t there ∙ ap (λ (u : Told Answered). take i told ++ u ∷ []) (sym at) in (
      answered ++ text,
      subst (λ (l : List Ask). PrintAllTold l (take (i + 1) told) (answered ++ text)) (sym next)
          (subst (λ (l : List (Told Answered)). PrintAllTold (take i asks ++ asked ∷ []) l (answered ++ text)) (sym after) (print_more (take i asks) (take i told) answered asked t text all one)),
      more ∙ ((λ j. sofar j ++ same j) ∙ append_assoc old answered text),
    )

pub prints_all : (asks : List Ask) (told : List (Told Answered)) (i : ℕ) (old now : Bytes) → AllZip IsToldOfSome asks told → length asks ≤ i → PrintsTo asks told i old now → (answered : Bytes) × PrintAllTold asks told answered × (now ≡ old ++ answered)
prints_all asks told i old now every past (answered, all, sofar) =
    let long = told_long IsToldOfSome asks told every in
    (answered, subst (λ (l : List Ask). PrintAllTold l told answered) (take_all i asks past) (subst (λ (l : List (Told Answered)). PrintAllTold (take i asks) l answered) (take_all i told (omega (arith, long, past))) all), sofar)

-- an ask line: it is told of the committed version
pub asked_there : (m n : Meaning Payload) (w : Pending) (ls ks : List LaneUse) (h : Held) (asked : Ask) (told : Told Answered) (text printed : Bytes) → held m w ls ≡ h → n ≡ m → IsToldOf (moment_of m) asked told
    → ks ≡ lanes_after ls (told.version ∷ []) → PrintsTold asked told text → printed ≡ text → HasAsked asked (standing_in h) (standing_of n w ks) printed
asked_there m n w ls ks h asked told text printed at same is lanes prints both =
    subst (λ (k : Held). HasAsked asked (standing_in k) (standing_of n w ks) printed) at (
      (λ i. standing_of (same i) w ((lanes ∙ ap (λ (v : ℕ). lanes_after ls (v ∷ [])) is.version) i)),
      (told.answer, found_there m.committed asked told.answer prints.0 is.answer, both ∙ (prints.1 ∙ ap (λ (v : ℕ). answer_lines v asked told.answer) is.version)),
    )
