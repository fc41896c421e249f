-- What the lanes answer beside a recheck.
use Rattle.std.proofs.Common.{◌≡◌, ℕ, suc, ◌+◌, ◌≤◌, List, [], ◌∷◌, ◌++◌, length, map, Option, refl, sym, ap, ◌∙◌, subst, arith, inl, inr, ◌⊎◌}
use Rattle.std.specs.List.{AllByRecursion}
use Rattle.std.proofs.lemmas.List.{append-nil, length-map, length-replicate}
use Rattle.flow_base.specs.Program.{Bytes, Program}
use Rattle.asks.specs.declared.ask.Ask.{Ask}
use Rattle.beside.specs.answers_law.specs.Answers.{Answered}
use Rattle.beside.specs.Uses.{LaneUse, new_lane, lanes_after, AnsweredAtMost}
use Rattle.beside.proofs.Uses.{lanes_none, lanes_long, none_falls, still_at_most, at_most_more}
use Rattle.script_line.specs.declared.line.Line.{Line}
use Rattle.script_line.specs.declared.line.Line.TheVariants as line
use Rattle.script_line.specs.Says.{Says, MOST_ASKS}
use Rattle.script_line.proofs.Commanding.{within_most}
use Rattle.script_run.specs.Transcript.{Standing, start, after_asks, Rechecks, done, cancelled, cannot_read, IsAnsweredAt, AnswersBeside, RechecksBeside, Turns, blank, edits, refuses, touches, refuses_touch, deletes, rechecks, answers, asks_of, Walked, loads, goes}

-- ---- rechecks

pub recheck_later : {told : Option Program} {stop : ℕ} {s t : Standing} {f : ℕ} {p : Bytes} → Rechecks told stop s t f p → s.version ≤ t.version
recheck_later (done s program parsed checked polls errors comes through counts) = omega arith
recheck_later (cancelled s program parsed checked polls comes some within) = omega arith
recheck_later (cannot_read s path touched) = omega arith

pub recheck_lanes : {told : Option Program} {stop : ℕ} {s t : Standing} {f : ℕ} {p : Bytes} → Rechecks told stop s t f p → t.lanes ≡ s.lanes
recheck_lanes (done s program parsed checked polls errors comes through counts) = refl
recheck_lanes (cancelled s program parsed checked polls comes some within) = refl
recheck_lanes (cannot_read s path touched) = refl

-- ---- answers beside one

one_up_to : (s t : Standing) (version : ℕ) (asked : Ask) (answer : Answered) → s.version ≤ t.version → IsAnsweredAt s version asked answer ⊎ IsAnsweredAt t version asked answer → version ≤ t.version
one_up_to s t version asked answer later (inl before) = let e = before.0 in omega arith
one_up_to s t version asked answer later (inr now) = let e = now.0 in omega arith

pub versions_up_to : (s t : Standing) (asks : List Ask) (versions : List ℕ) (printed : Bytes) → s.version ≤ t.version → AnswersBeside s t asks versions printed → AllByRecursion (λ v. v ≤ t.version) versions
versions_up_to s t [] [] printed later answered = tt
versions_up_to s t [] (version ∷ versions) printed later answered = absurd answered
versions_up_to s t (asked ∷ asks) [] printed later answered = absurd answered
versions_up_to s t (asked ∷ asks) (version ∷ versions) printed later (answer, rest, one, others, is) = (one_up_to s t version asked answer later one, versions_up_to s t asks versions rest later others)

pub answers_long : (s t : Standing) (asks : List Ask) (versions : List ℕ) (printed : Bytes) → AnswersBeside s t asks versions printed → length versions ≡ length asks
answers_long s t [] [] printed answered = refl
answers_long s t [] (version ∷ versions) printed answered = absurd answered
answers_long s t (asked ∷ asks) [] printed answered = absurd answered
answers_long s t (asked ∷ asks) (version ∷ versions) printed (answer, rest, one, others, is) = ap suc (answers_long s t asks versions rest others)

-- where nothing is asked, nothing is answered
pub no_answers : (s t : Standing) (versions : List ℕ) (printed : Bytes) → AnswersBeside s t [] versions printed → (versions ≡ []) × (printed ≡ [])
no_answers s t [] printed answered = (refl, answered)
no_answers s t (version ∷ versions) printed answered = absurd answered

pub no_asks_answers : (s t : Standing) (asks : List Ask) (versions : List ℕ) (printed : Bytes) → asks ≡ [] → AnswersBeside s t asks versions printed → (versions ≡ []) × (printed ≡ [])
no_asks_answers s t asks versions printed none answered = no_answers s t versions printed (subst (λ (xs : List Ask). AnswersBeside s t xs versions printed) none answered)

-- and all is as before
pub after_none : (s : Standing) → after_asks s [] ≡ s
after_none s = ap (λ (ls : List LaneUse). let t : Standing = record { program = s.program; version = s.version; waiting = s.waiting; lanes = ls } in t) (lanes_none s.lanes)

pub beside_nothing : (told : Option Program) (stop : ℕ) (s t : Standing) (f : ℕ) (p : Bytes) → Rechecks told stop s t f p → RechecksBeside told stop [] s t f p
beside_nothing told stop s t f p recheck = record {
  next = t;
  line = p;
  rechecks = recheck;
  versions = [];
  answered = [];
  answers = refl;
  falls_not = none_falls s.lanes;
  leads = sym (after_none t);
  prints = sym (append-nil p);
}

pub nothing_beside : (told : Option Program) (stop : ℕ) (s t : Standing) (f : ℕ) (p : Bytes) → RechecksBeside told stop [] s t f p → Rechecks told stop s t f p
nothing_beside told stop s t f p beside =
    let none = no_answers s beside.next beside.versions beside.answered beside.answers in
    let there : beside.next ≡ t = sym (after_none beside.next) ∙ ap (after_asks beside.next) (sym none.0) ∙ sym beside.leads in
    let prints : beside.line ≡ p = sym (append-nil beside.line) ∙ ap (λ (more : Bytes). beside.line ++ more) (sym none.1) ∙ sym beside.prints in
    subst (λ (n : Standing). Rechecks told stop s n f p) there (subst (λ (l : Bytes). Rechecks told stop s beside.next f l) prints beside.rechecks)

-- ---- how much the lanes answer

-- a line asks no more than there may be
pub asks_within : (bytes : Bytes) (l : Line) → Says bytes l → length (asks_of l) ≤ MOST_ASKS
asks_within bytes line.Blank says = omega arith
asks_within bytes (line.Edit path text) says = omega arith
asks_within bytes (line.Delete path) says = omega arith
asks_within bytes (line.Touch path) says = omega arith
asks_within bytes (line.Recheck stop asks) says = within_most bytes (line.Recheck stop asks) says
asks_within bytes (line.Ask asked) says = omega arith
asks_within bytes line.End says = omega arith

-- after a line each lane has answered no more than it asks besides
pub turn_answered : {most : ℕ} {told : Option Program} {said : Line} {s t : Standing} {f : ℕ} {p : Bytes} → (n : ℕ) → Turns most told said s t f p → AnsweredAtMost n s.lanes → AnsweredAtMost (n + length (asks_of said)) t.lanes
turn_answered n (blank s) few = at_most_more n (n + 0) s.lanes (omega arith) few
turn_answered n (edits s path text less) few = at_most_more n (n + 0) s.lanes (omega arith) few
turn_answered n (refuses s path text over) few = at_most_more n (n + 0) s.lanes (omega arith) few
turn_answered n (touches s path less) few = at_most_more n (n + 0) s.lanes (omega arith) few
turn_answered n (refuses_touch s path over) few = at_most_more n (n + 0) s.lanes (omega arith) few
turn_answered n (deletes s path) few = at_most_more n (n + 0) s.lanes (omega arith) few
turn_answered n (rechecks s t stop asks f p beside) few =
    let lanes : t.lanes ≡ lanes_after s.lanes beside.versions = ap (λ (x : Standing). x.lanes) beside.leads ∙ ap (λ (ls : List LaneUse). lanes_after ls beside.versions) (recheck_lanes beside.rechecks) in
    let long = answers_long s beside.next asks beside.versions beside.answered beside.answers in
    subst (AnsweredAtMost (n + length asks)) (sym lanes)
    (at_most_more (n + length beside.versions) (n + length asks) (lanes_after s.lanes beside.versions) (omega (arith, long)) (still_at_most n s.lanes beside.versions few))
turn_answered n (answers s asked answer is) few = still_at_most n s.lanes (s.version ∷ []) few

-- ---- how many lanes there are

turn_lanes : {most : ℕ} {told : Option Program} {said : Line} {s t : Standing} {f : ℕ} {p : Bytes} → Turns most told said s t f p → length t.lanes ≡ length s.lanes
turn_lanes (blank s) = refl
turn_lanes (edits s path text less) = refl
turn_lanes (refuses s path text over) = refl
turn_lanes (touches s path less) = refl
turn_lanes (refuses_touch s path over) = refl
turn_lanes (deletes s path) = refl
turn_lanes (rechecks s t stop asks f p beside) =
    ap (λ (x : Standing). length x.lanes) beside.leads ∙ lanes_long beside.next.lanes beside.versions ∙ ap (λ (ls : List LaneUse). length ls) (recheck_lanes beside.rechecks)
turn_lanes (answers s asked answer is) = lanes_long s.lanes (s.version ∷ [])

pub walked_lanes : {most lanes : ℕ} {told : Option Program} {listed taken : List Bytes} {s : Standing} {f : ℕ} {p : Bytes} → Walked most lanes told listed taken s f p → length s.lanes ≡ lanes
walked_lanes {lanes = lanes} (loads s f p load) = ap (λ (ls : List LaneUse). length ls) (recheck_lanes load) ∙ length-replicate lanes new_lane
walked_lanes (goes taken s f p bytes said t more_f more_p walk few short says turn) = turn_lanes turn ∙ walked_lanes walk

-- what has these uses are as many as they
pub used_many : {A : Type 0} (f : A → LaneUse) (xs : List A) (s t : Standing) (lanes : ℕ) → map f xs ≡ t.lanes → t ≡ s → length s.lanes ≡ lanes → length xs ≡ lanes
used_many f xs s t lanes uses same many = sym (length-map xs f) ∙ (ap (λ (ls : List LaneUse). length ls) uses ∙ (ap (λ (x : Standing). length x.lanes) same ∙ many))
