-- Over a folder and a script that tell their content there is one run without a read fault.
use Rattle.std.proofs.Common.{◌≡◌, ℕ, zero, suc, ◌+◌, ◌<◌, ◌≤◌, List, [], ◌∷◌, ◌++◌, length, take, drop, Option, Some, refl, sym, ap, ◌∙◌, subst, arith, inl, inr, length-append}
use Rattle.std.specs.Prelude.{slice_get}
use Rattle.std.specs.List.{AllByRecursion}
use Rattle.std.proofs.lemmas.Bool.{cases_lt}
use Rattle.std.proofs.lemmas.List.{same_from_push}
use Rattle.std.proofs.lemmas.Option.{none-some, same_Some, slice_get_past}
use Rattle.std.proofs.Math.Seq.{take_at, drop_at}
use Rattle.flow_base.specs.Program.{Bytes, Program, paths_of}
use Rattle.beside.specs.affected_sizes.specs.Law.{EachHasSizes, HaveOneSize}
use Rattle.beside.specs.affected_sizes.specs.Sizes.{AreSizes}
use Rattle.check_values.specs.Rows.{Rows}
use Rattle.pending_edits.specs.Pending.{MayBecome, edited}
use Rattle.pending_edits.specs.Pending as pending
use Rattle.pending_edits.specs.Counting.{counted}
use Rattle.pending_edits.specs.declared.edit.Edit.{Edit}
use Rattle.pending_edits.specs.declared.edit.Edit.TheVariants.{Put, Touch, Delete}
use Rattle.program_check.specs.Law.{OneFull}
use Rattle.asks.specs.declared.ask.Ask.{Ask}
use Rattle.beside.specs.answers_law.specs.Answers.{IsAnswer}
use Rattle.beside.specs.answers_law.specs.Law.{OneAnswer, EachHasAnswer}
use Rattle.beside.specs.Uses.{LaneUse, lanes_after}
use Rattle.answer_print.specs.Lines.{answer_lines}
use Rattle.script_line.specs.declared.line.Line.{Line}
use Rattle.script_line.specs.declared.line.Line.TheVariants as line
use Rattle.script_line.specs.Says.{Says, asks_beside}
use Rattle.script_line.proofs.Commanding.{same_line, same_many, says_not_both}
use Rattle.script_print.specs.Printed.{done_line, cancelled_line, refused_line}
use Rattle.script_reader.specs.Lines.{LINE_LIMIT}
use Rattle.script_run.specs.Checked.{HasErrorCount}
use Rattle.script_run.specs.declared.ending.WalkEnd.{WalkEnd}
use Rattle.script_run.specs.declared.ending.WalkEnd.TheVariants as ending
use Rattle.script_run.specs.Transcript.{Standing, MOST_LINES, modules_counted, with_edit, GoesThrough, ComesTo, Rechecks, done, cancelled, cannot_read, RechecksBeside, Turns, blank, edits, refuses, touches, refuses_touch, deletes, rechecks, answers, Walked, loads, goes, Ends, no_line, end_line, bad, long, many_asks, many, last_line, IsRun, IsQuietRun, AsksNothingBeside}
use Rattle.script_run.proofs.Checks.{one_count}
use Rattle.script_run.proofs.Lanes.{recheck_lanes, no_asks_answers}
use Rattle.script_run.proofs.Completing.{some_run}

-- two walks stand at one place, but for the lanes
abbrev AreAlike : Standing → Standing → Type 0
AreAlike s t = (s.program ≡ t.program) × (s.version ≡ t.version) × (s.waiting ≡ t.waiting)

-- the lanes have answered the same, and the same was printed
abbrev PrintSame : Standing → Standing → Bytes → Bytes → Type 0
PrintSame s t p q = (s.lanes ≡ t.lanes) × (p ≡ q)

-- ---- places of a list

at_left : {A : Type 0} (xs ys : List A) (k : ℕ) → k < length xs → slice_get (xs ++ ys) k ≡ slice_get xs k
at_left [] ys k within = absurd (omega arith)
at_left (x ∷ xs) ys zero within = refl
at_left (x ∷ xs) ys (suc k) within = at_left xs ys k (omega arith)

at_seam : {A : Type 0} (xs : List A) (y : A) (ys : List A) → slice_get (xs ++ y ∷ ys) (length xs) ≡ Some y
at_seam [] y ys = refl
at_seam (x ∷ xs) y ys = at_seam xs y ys

module _ {A : Type 0} (F : A → Type 0) where
  all_left : (xs ys : List A) → AllByRecursion F (xs ++ ys) → AllByRecursion F xs
  all_left [] ys all = tt
  all_left (x ∷ xs) ys all = (all.0, all_left xs ys all.1)

  all_seam : (xs : List A) (y : A) (ys : List A) → AllByRecursion F (xs ++ y ∷ ys) → F y
  all_seam [] y ys all = all.0
  all_seam (x ∷ xs) y ys all = all_seam xs y ys all.1

-- ---- rechecks and turns

same_program : (folder p q before : Program) (rows : Rows Edit) → MayBecome (Some folder) before rows p → MayBecome (Some folder) before rows q → p ≡ q
same_program folder p q before rows may also = may.2 ∙ (ap (λ f. edited f before rows) (may.1 ∙ sym also.1) ∙ sym also.2)

-- a recheck that goes through all polls is not cancelled at one
not_both : (stop polls polls' : ℕ) → polls ≡ polls' → GoesThrough stop polls → 1 ≤ stop → stop ≤ polls' → ⊥
not_both stop polls polls' same (inl none) some within = omega (arith, none)
not_both stop polls polls' same (inr later) some within = omega (arith, same)

comes_at : (told : Option Program) (s t : Standing) (program : Program) (parsed checked polls : ℕ) → AreAlike s t → ComesTo told t program parsed checked polls → ComesTo told s program parsed checked polls
comes_at told s t program parsed checked polls alike comes = record {
  may = subst (λ p. MayBecome told p s.waiting program) (sym alike.0) (subst (λ (ws : Rows Edit). MayBecome told t.program ws program) (sym alike.2) comes.may);
  sizes = subst (λ p. AreSizes p program parsed checked polls) (sym alike.0) comes.sizes;
}

counted_alike : (s t : Standing) (path : Bytes) (edit : Edit) → AreAlike s t → modules_counted (with_edit s path edit) ≡ modules_counted (with_edit t path edit)
counted_alike s t path edit alike = λ i. counted (paths_of (alike.0 i)) (pending.with_edit (alike.2 i) path edit)

edit_alike : (s t : Standing) (path : Bytes) (edit : Edit) → AreAlike s t → AreAlike (with_edit s path edit) (with_edit t path edit)
edit_alike s t path edit alike = (alike.0, alike.1, ap (λ (ws : Rows Edit). pending.with_edit ws path edit) alike.2)

module _ (one : OneFull) (sized : HaveOneSize) (folder : Program) where
  module _ (s s' : Standing) (alike : AreAlike s s') (a b : Program) (parsed parsed' checked checked' polls polls' : ℕ) (comes : ComesTo (Some folder) s a parsed checked polls) (also : ComesTo (Some folder) s' b parsed' checked' polls') where
    there : ComesTo (Some folder) s b parsed' checked' polls'
    there = comes_at (Some folder) s s' b parsed' checked' polls' alike also

    one_program : a ≡ b
    one_program = same_program folder a b s.program s.waiting comes.may (comes_at (Some folder) s s' b parsed' checked' polls' alike also).may

    one_size : (parsed ≡ parsed') × (checked ≡ checked') × (polls ≡ polls')
    one_size =
        sized s.program b parsed checked polls parsed' checked' polls' (subst (λ p. AreSizes s.program p parsed checked polls) one_program comes.sizes)
        (comes_at (Some folder) s s' b parsed' checked' polls' alike also).sizes

    one_done : (m n : ℕ) → HasErrorCount a m → HasErrorCount b n →
        AreAlike (record { program = a; version = s.version + 1; waiting = []; lanes = s.lanes }) (record { program = b; version = s'.version + 1; waiting = []; lanes = s'.lanes })
        × (done_line (s.version + 1) parsed checked m ≡ done_line (s'.version + 1) parsed' checked' n)
    one_done m n first second =
        let count : m ≡ n = one_count one a m n first (subst (λ p. HasErrorCount p n) (sym one_program) second) in
        ((one_program, ap (λ (v : ℕ). v + 1) alike.1, refl), (λ i. done_line (alike.1 i + 1) (one_size.0 i) (one_size.1 i) (count i)))

    never_both : (stop : ℕ) → GoesThrough stop polls → 1 ≤ stop → stop ≤ polls' → ⊥
    never_both stop through some within = not_both stop polls polls' one_size.2 through some within

  alike_back : (s t : Standing) → AreAlike s t → AreAlike t s
  alike_back s t alike = (sym alike.0, sym alike.1, sym alike.2)

  same_recheck : {stop : ℕ} {s s' t u : Standing} {f g : ℕ} {p q : Bytes} → Rechecks (Some folder) stop s t f p → Rechecks (Some folder) stop s' u g q → AreAlike s s' → f ≡ 0 → g ≡ 0 → AreAlike t u × (p ≡ q)
  same_recheck (done s a parsed checked polls m comes through counts) (done s' b parsed' checked' polls' n also through' counts') alike quiet still =
      one_done s s' alike a b parsed parsed' checked checked' polls polls' comes also m n counts counts'
  same_recheck {stop = stop} (done s a parsed checked polls m comes through counts) (cancelled s' b parsed' checked' polls' also some within) alike quiet still =
      absurd (never_both s s' alike a b parsed parsed' checked checked' polls polls' comes also stop through some within)
  same_recheck (done s a parsed checked polls m comes through counts) (cannot_read s' path touched) alike quiet still = absurd (omega arith)
  same_recheck {stop = stop} (cancelled s a parsed checked polls comes some within) (done s' b parsed' checked' polls' n also through counts) alike quiet still =
      absurd (never_both s' s (alike_back s s' alike) b a parsed' parsed checked' checked polls' polls also comes stop through some within)
  same_recheck {stop = stop} (cancelled s a parsed checked polls comes some within) (cancelled s' b parsed' checked' polls' also some' within') alike quiet still = (alike, ap (λ (v : ℕ). cancelled_line stop v) alike.1)
  same_recheck (cancelled s a parsed checked polls comes some within) (cannot_read s' path touched) alike quiet still = absurd (omega arith)
  same_recheck (cannot_read s path touched) other alike quiet still = absurd (omega arith)

  same_beside : (stop : ℕ) (asks : List Ask) (s s' t u : Standing) (f g : ℕ) (p q : Bytes) → RechecksBeside (Some folder) stop asks s t f p → RechecksBeside (Some folder) stop asks s' u g q → AreAlike s s' → f ≡ 0 → g ≡ 0
      → AreAlike t u × (s.lanes ≡ s'.lanes → asks ≡ [] → PrintSame t u p q)
  same_beside stop asks s s' t u f g p q beside other alike quiet still =
      let next = same_recheck beside.rechecks other.rechecks alike quiet still in
      let alike' : AreAlike t u = (
        ap (λ (x : Standing). x.program) beside.leads ∙ (next.0.0 ∙ ap (λ (x : Standing). x.program) (sym other.leads)),
        ap (λ (x : Standing). x.version) beside.leads ∙ (next.0.1 ∙ ap (λ (x : Standing). x.version) (sym other.leads)),
        ap (λ (x : Standing). x.waiting) beside.leads ∙ (next.0.2 ∙ ap (λ (x : Standing). x.waiting) (sym other.leads)),
      ) in (
        alike',
        λ lanes none.
            let here = no_asks_answers s beside.next asks beside.versions beside.answered none beside.answers in
            let there = no_asks_answers s' other.next asks other.versions other.answered none other.answers in
            let before : beside.next.lanes ≡ other.next.lanes = recheck_lanes beside.rechecks ∙ (lanes ∙ sym (recheck_lanes other.rechecks)) in
            let versions : beside.versions ≡ other.versions = here.0 ∙ sym there.0 in
            let answered : beside.answered ≡ other.answered = here.1 ∙ sym there.1 in (
              ap (λ (x : Standing). x.lanes) beside.leads ∙ ((λ i. lanes_after (before i) (versions i)) ∙ ap (λ (x : Standing). x.lanes) (sym other.leads)),
              beside.prints ∙ ((λ i. next.1 i ++ answered i) ∙ sym other.prints),
            ),
      )

  module _ (one_answer : OneAnswer) (most : ℕ) where
    same_turn : {said : Line} {s s' t u : Standing} {f g : ℕ} {p q : Bytes} → Turns most (Some folder) said s t f p → Turns most (Some folder) said s' u g q → AreAlike s s' → f ≡ 0 → g ≡ 0
        → AreAlike t u × (s.lanes ≡ s'.lanes → asks_beside said ≡ [] → PrintSame t u p q)
    same_turn (blank s) (blank s') alike quiet still = (alike, λ lanes none. (lanes, refl))
    same_turn (edits s path text few) (edits s' path' text' few') alike quiet still = (edit_alike s s' path (Put text) alike, λ lanes none. (lanes, refl))
    same_turn (edits s path text few) (refuses s' path' text' over) alike quiet still = absurd (omega (arith, counted_alike s s' path (Put text) alike))
    same_turn (refuses s path text over) (edits s' path' text' few) alike quiet still = absurd (omega (arith, counted_alike s s' path (Put text) alike))
    same_turn (refuses s path text over) (refuses s' path' text' over') alike quiet still = (alike, λ lanes none. (lanes, ap refused_line (counted_alike s s' path (Put text) alike)))
    same_turn (touches s path few) (touches s' path' few') alike quiet still = (edit_alike s s' path Touch alike, λ lanes none. (lanes, refl))
    same_turn (touches s path few) (refuses_touch s' path' over) alike quiet still = absurd (omega (arith, counted_alike s s' path Touch alike))
    same_turn (refuses_touch s path over) (touches s' path' few) alike quiet still = absurd (omega (arith, counted_alike s s' path Touch alike))
    same_turn (refuses_touch s path over) (refuses_touch s' path' over') alike quiet still = (alike, λ lanes none. (lanes, ap refused_line (counted_alike s s' path Touch alike)))
    same_turn (deletes s path) (deletes s' path') alike quiet still = (edit_alike s s' path Delete alike, λ lanes none. (lanes, refl))
    same_turn (rechecks s t stop asks f p beside) (rechecks s' u stop' asks' g q other) alike quiet still = same_beside stop asks s s' t u f g p q beside other alike quiet still
    same_turn (answers s asked a is) (answers s' asked' b is') alike quiet still =
        let answer : a ≡ b = one_answer s.program asked a b is (subst (λ p. IsAnswer p asked b) (sym alike.0) is') in
        (alike, λ lanes none. ((λ i. lanes_after (lanes i) (alike.1 i ∷ [])), (λ i. answer_lines (alike.1 i) asked (answer i))))

    turn_at : (said said' : Line) (s s' t u : Standing) (f g : ℕ) (p q : Bytes) → said' ≡ said → AreAlike s s' → Turns most (Some folder) said s t f p → Turns most (Some folder) said' s' u g q → f ≡ 0 → g ≡ 0
        → AreAlike t u × (s.lanes ≡ s'.lanes → asks_beside said ≡ [] → PrintSame t u p q)
    turn_at said said' s s' t u f g p q same alike turn other quiet still = same_turn turn (subst (λ l. Turns most (Some folder) l s' u g q) same other) alike quiet still

    -- ---- walks

    module _ (lanes : ℕ) (listed : List Bytes) where
      same_walk : {xs ys : List Bytes} {s t : Standing} {f g : ℕ} {p q : Bytes} → Walked most lanes (Some folder) listed xs s f p → Walked most lanes (Some folder) listed ys t g q → xs ≡ ys → f ≡ 0 → g ≡ 0
          → AreAlike s t × (AsksNothingBeside xs → PrintSame s t p q)
      same_walk (loads s f p load) (loads t g q other) same quiet still =
          let both = same_recheck load other (refl, refl, refl) quiet still in
          (both.0, λ none. (recheck_lanes load ∙ sym (recheck_lanes other), both.1))
      same_walk (loads s f p load) (goes ys t g q bytes said t' more_g more_q walk few short says turn) same quiet still = absurd (omega (arith, ap length same, length-append ys (bytes ∷ [])))
      same_walk (goes xs s f p bytes said s' more_f more_p walk few short says turn) (loads t g q other) same quiet still = absurd (omega (arith, ap length same, length-append xs (bytes ∷ [])))
      same_walk (goes xs s f p bytes said s' more_f more_p walk few short says turn) (goes ys t g q bytes' said' t' more_g more_q walk' few' short' says' turn') same quiet still =
          let lists = same_from_push xs ys bytes bytes' same in
          let there = same_walk walk walk' lists.0 (omega arith) (omega arith) in
          let word : said' ≡ said = same_line bytes said' said (subst (λ b. Says b said') (sym lists.1) says') says in
          let next = turn_at said said' s t s' t' more_f more_g more_p more_q word there.0 turn turn' (omega arith) (omega arith) in (
            next.0,
            λ none.
                let before = there.1 (all_left (λ (b : Bytes). (l : Line) → Says b l → asks_beside l ≡ []) xs (bytes ∷ []) none) in
                let here = next.1 before.0 (all_seam (λ (b : Bytes). (l : Line) → Says b l → asks_beside l ≡ []) xs bytes [] none said says) in
                (here.0, both p q more_p more_q before.1 here.1),
          ) where
            both : (a b c d : Bytes) → a ≡ b → c ≡ d → a ++ c ≡ b ++ d
            both a b c d first second = cc

-- ---- where a walk ends

-- this line, behind so many, was taken
record Passes (taken : ℕ) (bytes : Bytes) : Type 0 where
  few : taken < MOST_LINES
  short : length bytes ≤ LINE_LIMIT
  said : Line
  says : Says bytes said
  goes_on : said ≡ line.End → ⊥

turn_goes_on : {most : ℕ} {told : Option Program} {said : Line} {s t : Standing} {f : ℕ} {p : Bytes} → Turns most told said s t f p → said ≡ line.End → ⊥
turn_goes_on (blank s) is = absurd (cc (is))
turn_goes_on (edits s path text few) is = absurd (cc (is))
turn_goes_on (refuses s path text over) is = absurd (cc (is))
turn_goes_on (touches s path few) is = absurd (cc (is))
turn_goes_on (refuses_touch s path over) is = absurd (cc (is))
turn_goes_on (deletes s path) is = absurd (cc (is))
turn_goes_on (rechecks s t stop asks f p beside) is = absurd (cc (is))
turn_goes_on (answers s asked answer has) is = absurd (cc (is))

passes_at : (n k : ℕ) (bytes b : Bytes) → k ≡ n → bytes ≡ b → Passes n bytes → Passes k b
passes_at n k bytes b place same passes = subst (λ m. Passes m b) (sym place) (subst (Passes n) same passes)

passed : {most lanes : ℕ} {told : Option Program} {listed xs : List Bytes} {s : Standing} {f : ℕ} {p : Bytes} → Walked most lanes told listed xs s f p → (k : ℕ) (b : Bytes) → slice_get xs k ≡ Some b → Passes k b
passed (loads s f p load) k b at = absurd (none-some _ (sym (slice_get_past [] k (omega arith)) ∙ at))
passed (goes xs s f p bytes said s' more_f more_p walk few short says turn) k b at = elim (cases_lt k (length xs)) [
  | inl within ↦ passed walk k b (sym (at_left xs (bytes ∷ []) k within) ∙ at)
  | inr past ↦ elim (cases_lt (length xs) k) [
    | inl behind ↦ absurd (none-some _ (sym (slice_get_past (xs ++ bytes ∷ []) k (omega (arith, length-append xs (bytes ∷ [])))) ∙ at))
    | inr not_behind ↦
        let there : k ≡ length xs = omega arith in
        passes_at (length xs) k bytes b there (same_Some bytes b (sym (at_seam xs bytes []) ∙ ap (slice_get (xs ++ bytes ∷ [])) (sym there) ∙ at))
        (record { few = few; short = short; said = said; says = says; goes_on = turn_goes_on turn })
  ]
]

no_end : (n : ℕ) (bytes : Bytes) (rest : List Bytes) (how : WalkEnd) → Ends n (bytes ∷ rest) how → Passes n bytes → ⊥
no_end n bytes rest how (end_line b r few short says) passes = passes.goes_on (same_line bytes passes.said line.End passes.says says)
no_end n bytes rest how (bad b r few short never) passes = never.0 passes.said passes.says
no_end n bytes rest how (many_asks b r count few short says) passes = says_not_both bytes passes.said count passes.says says
no_end n bytes rest how (long b r few over) passes = let short = passes.short in absurd (omega arith)
no_end n bytes rest how (many b r past) passes = let few = passes.few in absurd (omega arith)

-- a walk that ends earlier than another one, over the same lines, would end at a line that the other one took
no_earlier : {most lanes : ℕ} {told : Option Program} {listed : List Bytes} {t : Standing} {g : ℕ} {q : Bytes} → (xs rest ys rest' : List Bytes) (how : WalkEnd) → xs ++ rest ≡ ys ++ rest' → length xs < length ys
    → Ends (length xs) rest how → Walked most lanes told listed ys t g q → ⊥
no_earlier xs [] ys rest' how same shorter ends walk = absurd (omega (arith, ap length same, length-append xs [], length-append ys rest'))
no_earlier xs (b ∷ rest) ys rest' how same shorter ends walk =
    let at : slice_get ys (length xs) ≡ Some b = sym (at_left ys rest' (length xs) shorter) ∙ ap (λ l. slice_get l (length xs)) (sym same) ∙ at_seam xs b rest in
    no_end (length xs) b rest how ends (passed walk (length xs) b at)

same_end : (n : ℕ) (rest : List Bytes) (how how' : WalkEnd) → Ends n rest how → Ends n rest how' → how ≡ how'
same_end n rest how how' no_line no_line = refl
same_end n rest how how' (end_line b r few short says) (end_line b' r' few' short' says') = refl
same_end n rest how how' (end_line b r few short says) (bad b' r' few' short' never') = absurd (never'.0 line.End says)
same_end n rest how how' (end_line b r few short says) (long b' r' few' over') = absurd (omega arith)
same_end n rest how how' (end_line b r few short says) (many_asks b' r' count' few' short' over_asks') = absurd (says_not_both b line.End count' says over_asks')
same_end n rest how how' (end_line b r few short says) (many b' r' past') = absurd (omega arith)
same_end n rest how how' (bad b r few short never) (end_line b' r' few' short' says') = absurd (never.0 line.End says')
same_end n rest how how' (bad b r few short never) (bad b' r' few' short' never') = refl
same_end n rest how how' (bad b r few short never) (long b' r' few' over') = absurd (omega arith)
same_end n rest how how' (bad b r few short never) (many_asks b' r' count' few' short' over_asks') = absurd (never.1 count' over_asks')
same_end n rest how how' (bad b r few short never) (many b' r' past') = absurd (omega arith)
same_end n rest how how' (long b r few over) (end_line b' r' few' short' says') = absurd (omega arith)
same_end n rest how how' (long b r few over) (bad b' r' few' short' never') = absurd (omega arith)
same_end n rest how how' (long b r few over) (long b' r' few' over') = refl
same_end n rest how how' (long b r few over) (many_asks b' r' count' few' short' over_asks') = absurd (omega arith)
same_end n rest how how' (long b r few over) (many b' r' past') = absurd (omega arith)
same_end n rest how how' (many_asks b r count few short over_asks) (end_line b' r' few' short' says') = absurd (says_not_both b line.End count says' over_asks)
same_end n rest how how' (many_asks b r count few short over_asks) (bad b' r' few' short' never') = absurd (never'.1 count over_asks)
same_end n rest how how' (many_asks b r count few short over_asks) (long b' r' few' over') = absurd (omega arith)
same_end n rest how how' (many_asks b r count few short over_asks) (many_asks b' r' count' few' short' over_asks') = ap (λ (c : ℕ). ending.ManyAsks c) (same_many b count count' over_asks over_asks')
same_end n rest how how' (many_asks b r count few short over_asks) (many b' r' past') = absurd (omega arith)
same_end n rest how how' (many b r past) (end_line b' r' few' short' says') = absurd (omega arith)
same_end n rest how how' (many b r past) (bad b' r' few' short' never') = absurd (omega arith)
same_end n rest how how' (many b r past) (long b' r' few' over') = absurd (omega arith)
same_end n rest how how' (many b r past) (many_asks b' r' count' few' short' over_asks') = absurd (omega arith)
same_end n rest how how' (many b r past) (many b' r' past') = refl

-- ---- runs

pub some_quiet_run : EachHasSizes → EachHasAnswer → (most lanes : ℕ) (folder : Program) (listed lines : List Bytes)
    → (printed : Bytes) × (how : WalkEnd) × (program : Program) × (version : ℕ) × (uses : List LaneUse) × IsQuietRun most lanes folder listed lines printed how program version uses
some_quiet_run each answer most lanes folder listed lines =
    let run = some_run each answer most (Some folder) lanes listed (Some lines) in
    let on = run.3 in
    (run.2 ++ on.more, on.how, on.program, on.version, on.uses, subst (λ f. IsRun most lanes (Some folder) listed (Some lines) f (run.2 ++ on.more) on.how on.program on.version on.uses) run.1 on.run)

module _ (one : OneFull) (sized : HaveOneSize) (one_answer : OneAnswer) (most lanes : ℕ) (folder : Program) (listed lines : List Bytes) where
  module _ (p q : Bytes) (h k : WalkEnd) (a b : Program) (v w : ℕ) (x y : List LaneUse) (run : IsQuietRun most lanes folder listed lines p h a v x) (other : IsQuietRun most lanes folder listed lines q k b w y) where
    as_long : length run.taken ≡ length other.taken
    as_long = elim (cases_lt (length run.taken) (length other.taken)) [
      | inl shorter ↦ absurd (no_earlier run.taken run.rest other.taken other.rest h (sym run.lines ∙ other.lines) shorter run.ends other.walk)
      | inr not_shorter ↦ elim (cases_lt (length other.taken) (length run.taken)) [
        | inl longer ↦ absurd (no_earlier other.taken other.rest run.taken run.rest k (sym other.lines ∙ run.lines) longer other.ends run.walk)
        | inr not_longer ↦ omega arith
      ]
    ]

    same_taken : run.taken ≡ other.taken
    same_taken =
        sym (take_at run.taken run.rest (length run.taken) refl) ∙ ap (take (length run.taken)) (sym run.lines ∙ other.lines) ∙ take_at other.taken other.rest (length run.taken) (sym as_long)

    same_rest : run.rest ≡ other.rest
    same_rest =
        sym (drop_at run.taken run.rest (length run.taken) refl) ∙ ap (drop (length run.taken)) (sym run.lines ∙ other.lines) ∙ drop_at other.taken other.rest (length run.taken) (sym as_long)

    same_how : h ≡ k
    same_how = same_end (length run.taken) run.rest h k run.ends (subst (λ r. Ends (length run.taken) r k) (sym same_rest) (subst (λ n. Ends n other.rest k) (sym as_long) other.ends))

  pub one_end : (p q : Bytes) (h k : WalkEnd) (a b : Program) (v w : ℕ) (x y : List LaneUse) → IsQuietRun most lanes folder listed lines p h a v x → IsQuietRun most lanes folder listed lines q k b w y → (h ≡ k) × (a ≡ b) × (v ≡ w)
  one_end p q h k a b v w x y run other =
      let walk = same_walk one sized folder one_answer most lanes listed run.walk other.walk (same_taken p q h k a b v w x y run other) refl refl in
      (same_how p q h k a b v w x y run other, walk.0.0, walk.0.1)

  pub same_run : (p q : Bytes) (h k : WalkEnd) (a b : Program) (v w : ℕ) (x y : List LaneUse) → AsksNothingBeside lines → IsQuietRun most lanes folder listed lines p h a v x → IsQuietRun most lanes folder listed lines q k b w y → (p ≡ q) × (x ≡ y)
  same_run p q h k a b v w x y none run other =
      let walk = same_walk one sized folder one_answer most lanes listed run.walk other.walk (same_taken p q h k a b v w x y run other) refl refl in
      let nothing : AsksNothingBeside run.taken = all_left (λ (b : Bytes). (l : Line) → Says b l → asks_beside l ≡ []) run.taken run.rest (subst AsksNothingBeside run.lines none) in
      let same = walk.1 nothing in
      (run.prints ∙ printed run.before other.before (length run.taken) (length other.taken) h k same.1 (as_long p q h k a b v w x y run other) (same_how p q h k a b v w x y run other) ∙ sym other.prints, same.0) where
        printed : (c d : Bytes) (m n : ℕ) (g l : WalkEnd) → c ≡ d → m ≡ n → g ≡ l → c ++ last_line (m + 1) g ≡ d ++ last_line (n + 1) l
        printed c d m n g l same as_far how = cc
