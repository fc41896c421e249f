-- What was printed up to a line goes on to a whole transcript; over a folder and a script that tell their content there is one without a
-- read fault.
use Rattle.std.proofs.Common.{◌≡◌, ℕ, ◌<◌, ◌≤◌, List, length, Option, Some, None, refl, sym, ap, ◌∙◌, subst, arith, inl, inr, ◌⊎◌}
use Rattle.std.specs.Int.{IsInRange}
use Rattle.std.proofs.lemmas.Bool.{cases_lt}
use Rattle.flow_base.specs.Program.{Bytes, Program, paths_of}
use Rattle.affected_sizes.specs.Law.{EachHasSizes}
use Rattle.generated_run.specs.Script.{LaneUse, HasErrorCount, MayList, IsRunSoFar, GoesOn, IsRun, IsQuietRun, AsksNothingBeside}
use Rattle.command_words.specs.Words.{Says, AreOfCommand, usage_line}
use Rattle.command_words.specs.declared.command.Command.{Command}
use Rattle.command_words.specs.declared.command.Form.{Form}
use Rattle.command_words.specs.declared.command.Form.TheVariants.{Folder, Generated}
use Rattle.program_check.specs.Law.{OneFull}
use Rattle.script_print.specs.Printed.{files_line}
use Rattle.generated_run.specs.WalkEnd.{WalkEnd}
use Rattle.generated_run.specs.WalkEnd.TheVariants as ending
use Rattle.generated_run.proofs.Script.{one_count, walk_counts}
use Rattle.generated_run.specs.Run.{IsGeneratedRun}
use Rattle.generated_run.proofs.OneRun.{errors_of}
use Rattle.flowd_top.specs.Run.{NamesFolder, MakesUp, status_after, RunEnd, left_after, EndsAlike, IsTranscript, no_command, many_files, runs, generates, GoesOnTo}
use Rattle.flowd_top.specs.declared.status.Status.{Status}
use Rattle.flowd_top.specs.declared.status.Status.TheVariants as status
use Rattle.flowd_top.proofs.Endings.{few_made, not_both}

-- where a run ended
abbrev end_at : Program → ℕ → List LaneUse → RunEnd
end_at program version uses = record { program = program; version = version; lanes = uses }

-- ---- a front

-- what was printed up to a line goes on
abbrev pub EachGoesOn : Type 0
EachGoesOn = (most lanes : ℕ) (told : Option Program) (listed : List Bytes) (script : Option (List Bytes)) (faults : ℕ) (printed : Bytes) → IsRunSoFar most lanes told listed script faults printed
    → GoesOn most lanes told listed script faults printed

pub goes_on_to : EachGoesOn → (words : List Bytes) (c : Command) (told : Option Program) (script : Option (List Bytes)) (listed : List Bytes) (faults : ℕ) (printed : Bytes) → NamesFolder words c
    → MayList told listed → length listed ≤ c.modules → IsRunSoFar c.modules c.lanes told listed script faults printed → GoesOnTo words told script faults printed
goes_on_to each words c told script listed faults printed folder lists few run =
    let on = each c.modules c.lanes told listed script faults printed run in
    let whole = on.run in
    let count = walk_counts whole.walk in
    let end = end_at on.program on.version on.uses in
    record {
      more = on.more;
      how = status_after on.how count.0;
      left = left_after on.how end;
      transcript = runs c listed faults _ on.how end count.0 folder lists few on.run count.1;
    }

-- ---- some transcript

-- one command at most
abbrev pub OneCommand : Type 0
OneCommand = (words : List Bytes) (a b : Command) → Says words a → Says words b → a ≡ b

-- words are of the command, or they are not
abbrev pub CommandOrNot : Type 0
CommandOrNot = (words : List Bytes) → AreOfCommand words ⊎ (AreOfCommand words → ⊥)

-- there is a run over a folder and a script that tell their content
abbrev pub SomeRun : Type 0
SomeRun = (most lanes : ℕ) (folder : Program) (listed script : List Bytes) → (printed : Bytes) × (how : WalkEnd) × (program : Program) × (version : ℕ) × (uses : List LaneUse) × IsQuietRun most lanes folder listed script printed how program version uses

-- and one on so many modules
abbrev pub SomeMadeRun : Type 0
SomeMadeRun = (most lanes n seed : ℕ) → IsInRange 1 4096 n → (printed : Bytes) × (program : Program) × (version : ℕ) × (uses : List LaneUse) × IsGeneratedRun most lanes n seed printed program version uses

-- two runs end alike, and they are one where nothing is asked beside a recheck
abbrev pub RunsEndAlike : Type 0
RunsEndAlike = (most lanes : ℕ) (folder : Program) (listed script : List Bytes) (p q : Bytes) (h k : WalkEnd) (a b : Program) (v w : ℕ) (x y : List LaneUse) →
    IsQuietRun most lanes folder listed script p h a v x → IsQuietRun most lanes folder listed script q k b w y → (h ≡ k) × (a ≡ b) × (v ≡ w)

abbrev pub OneRun : Type 0
OneRun = (most lanes : ℕ) (folder : Program) (listed script : List Bytes) (p q : Bytes) (h k : WalkEnd) (a b : Program) (v w : ℕ) (x y : List LaneUse) → AsksNothingBeside script →
    IsQuietRun most lanes folder listed script p h a v x → IsQuietRun most lanes folder listed script q k b w y → (p ≡ q) × (x ≡ y)

abbrev pub OneMadeRun : Type 0
OneMadeRun = (most lanes n seed : ℕ) (p q : Bytes) (a b : Program) (v w : ℕ) (x y : List LaneUse) → IsGeneratedRun most lanes n seed p a v x → IsGeneratedRun most lanes n seed q b w y → (p ≡ q) × (a ≡ b) × (v ≡ w) × (x ≡ y)

module _ (each : EachHasSizes) (some : SomeRun) (made : SomeMadeRun) (words : List Bytes) (folder : Program) (script : List Bytes) (lists : MayList (Some folder) (paths_of folder)) where
  abbrev Has : Type 0
  Has = (printed : Bytes) × (how : Status) × (left : Option RunEnd) × IsTranscript words (Some folder) (Some script) 0 printed how left

  of_folder : (c : Command) → NamesFolder words c → Has
  of_folder c names = elim (cases_lt c.modules (length (paths_of folder))) [
    | inl over ↦ (files_line (length (paths_of folder)), status.Limit, None, many_files c (paths_of folder) names lists over)
    | inr few ↦
        let run = some c.modules c.lanes folder (paths_of folder) script in
        let whole = run.5 in
        let count = walk_counts whole.walk in
        let end = end_at run.2 run.3 run.4 in
        (run.0, status_after run.1 count.0, left_after run.1 end, runs c (paths_of folder) 0 run.0 run.1 end count.0 names lists (omega arith) run.5 count.1)
  ]

  of_made : (c : Command) (n seed : ℕ) → MakesUp words c n seed → Has
  of_made c n seed makes =
      let few = few_made words c n seed makes.0 makes.1 in
      let most = makes.0.tells.some_modules in
      let run = made c.modules c.lanes n seed (omega (arith, few.0), omega (arith, few.1, most.1)) in
      let count = errors_of each run.1 in
      let end = end_at run.1 run.2 run.3 in
      (run.0, status_after ending.Finished count.0, Some end, generates c n seed run.0 end count.0 makes run.4 count.1)

  of_form : (c : Command) → Says words c → (form : Form) → c.form ≡ form → Has
  of_form c says (Folder place) is = of_folder c (place, says, is)
  of_form c says (Generated n seed) is = of_made c n seed (says, is)

  pub some_transcript : CommandOrNot → Has
  some_transcript decide = elim (decide words) [
    | inr other ↦ (usage_line, status.Usage, None, no_command other)
    | inl command ↦ of_form command.0 command.1 command.0.form refl
  ]

-- ---- one transcript

ends_alike : (h k : WalkEnd) (e f : RunEnd) → h ≡ k → e.program ≡ f.program → e.version ≡ f.version → EndsAlike (left_after h e) (left_after k f)
ends_alike h k e f same program version = subst (λ j. EndsAlike (left_after h e) (left_after j f)) same (at h)
  where
    at : (j : WalkEnd) → EndsAlike (left_after j e) (left_after j f)
    at ending.Finished = (program, version)
    at ending.BadLine = refl
    at ending.LongLine = refl
    at ending.ManyLines = refl
    at (ending.ManyAsks count) = refl

one_end : (e f : RunEnd) → e.program ≡ f.program → e.version ≡ f.version → e.lanes ≡ f.lanes → e ≡ f
one_end e f program version lanes = λ i. end_at (program i) (version i) (lanes i)

module _ (full : OneFull) (alike : RunsEndAlike) (one : OneRun) (one_command : OneCommand) (one_made : OneMadeRun) (words : List Bytes) (folder : Program) (script : List Bytes) where
  of_command : (c : Command) → NamesFolder words c → AreOfCommand words
  of_command c names = (c, names.1)

  -- two listings of a folder that tells its program are one
  one_listing : (a b : List Bytes) → MayList (Some folder) a → MayList (Some folder) b → a ≡ b
  one_listing a b lists also = lists.same ∙ sym also.same

  too_many : (c d : Command) (a b : List Bytes) → NamesFolder words c → NamesFolder words d → MayList (Some folder) a → MayList (Some folder) b → c.modules < length a → length b ≤ d.modules → ⊥
  too_many c d a b names others lists also over few =
      absurd (omega (arith, ap length (one_listing a b lists also), ap (λ (e : Command). e.modules) (one_command words c d names.1 others.1), over, few))

  -- no words name a folder and ask for made-up modules
  not_made : (c d : Command) (n seed : ℕ) → NamesFolder words c → MakesUp words d n seed → ⊥
  not_made c d n seed names makes = not_both c.form names.0 n seed names.2 (ap (λ (e : Command). e.form) (one_command words c d names.1 makes.0) ∙ makes.1)

  -- two transcripts have one status and end alike, and they are one where nothing is asked beside a recheck
  abbrev Same : Bytes → Bytes → Status → Status → Option RunEnd → Option RunEnd → Type 0
  Same p q h k x y = (h ≡ k) × EndsAlike x y × (AsksNothingBeside script → (p ≡ q) × (x ≡ y))

  status_at : (h k : WalkEnd) (a b : Program) (m n : ℕ) → h ≡ k → a ≡ b → HasErrorCount a m → HasErrorCount b n → status_after h m ≡ status_after k n
  status_at h k a b m n how program first second =
      let count : m ≡ n = one_count full a m n first (subst (λ p. HasErrorCount p n) (sym program) second) in
      λ i. status_after (how i) (count i)

  abbrev QuietRun : ℕ → ℕ → List Bytes → Bytes → WalkEnd → RunEnd → Type 0
  QuietRun most lanes listed p h e = IsQuietRun most lanes folder listed script p h e.program e.version e.lanes

  both_run : (most lanes : ℕ) (a b : List Bytes) (p q : Bytes) (h k : WalkEnd) (e f : RunEnd) (m n : ℕ) → a ≡ b → QuietRun most lanes a p h e → QuietRun most lanes b q k f
      → HasErrorCount e.program m → HasErrorCount f.program n → Same p q (status_after h m) (status_after k n) (left_after h e) (left_after k f)
  both_run most lanes a b p q h k e f m n same run other first second =
      let also = subst (λ l. QuietRun most lanes l q k f) (sym same) other in
      let is = alike most lanes folder a script p q h k e.program f.program e.version f.version e.lanes f.lanes run also in (
        status_at h k e.program f.program m n is.0 is.1 first second,
        ends_alike h k e f is.0 is.1 is.2,
        λ quiet.
            let whole = one most lanes folder a script p q h k e.program f.program e.version f.version e.lanes f.lanes quiet run also in
            (whole.0, λ i. left_after (is.0 i) (one_end e f is.1 is.2 whole.1 i)),
      )

  quiet : (most lanes : ℕ) (a : List Bytes) (n : ℕ) (p : Bytes) (h : WalkEnd) (e : RunEnd) → n ≡ 0 → IsRun most lanes (Some folder) a (Some script) n p h e.program e.version e.lanes → QuietRun most lanes a p h e
  quiet most lanes a n p h e none_failed run = subst (λ z. IsRun most lanes (Some folder) a (Some script) z p h e.program e.version e.lanes) none_failed run

  abbrev MadeRun : Command → ℕ → ℕ → Bytes → RunEnd → Type 0
  MadeRun c n seed p e = IsGeneratedRun c.modules c.lanes n seed p e.program e.version e.lanes

  both_made : (c d : Command) (n seed n' seed' : ℕ) (p q : Bytes) (e f : RunEnd) (m k : ℕ) → MakesUp words c n seed → MakesUp words d n' seed' → MadeRun c n seed p e → MadeRun d n' seed' q f
      → HasErrorCount e.program m → HasErrorCount f.program k → Same p q (status_after ending.Finished m) (status_after ending.Finished k) (Some e) (Some f)
  both_made c d n seed n' seed' p q e f m k makes others run other first second =
      let same = one_command words d c others.0 makes.0 in
      let forms : Generated n' seed' ≡ Generated n seed = sym others.1 ∙ ap (λ (e : Command). e.form) same ∙ makes.1 in
      let is = one_made c.modules c.lanes n seed p q e.program f.program e.version f.version e.lanes f.lanes run
      (subst (λ (j : ℕ). MadeRun c n j q f) (ap seed_in forms) (subst (λ (j : ℕ). MadeRun c j seed' q f) (ap number_in forms) (subst (λ (e : Command). MadeRun e n' seed' q f) same other))) in (
        status_at ending.Finished ending.Finished e.program f.program m k refl is.1 first second,
        (is.1, is.2),
        λ quiet. (is.0, ap Some (one_end e f is.1 is.2 is.3)),
      )
    where
      number_in : Form → ℕ
      number_in (Folder place) = 0
      number_in (Generated j s) = j

      seed_in : Form → ℕ
      seed_in (Folder place) = 0
      seed_in (Generated j s) = s

  same_at : {f g : ℕ} {p q : Bytes} {h k : Status} {x y : Option RunEnd} → IsTranscript words (Some folder) (Some script) f p h x → IsTranscript words (Some folder) (Some script) g q k y → f ≡ 0 → g ≡ 0 → Same p q h k x y
  same_at (no_command other) (no_command other') quiet_f quiet_g = (refl, refl, λ quiet. (refl, refl))
  same_at (no_command other) (many_files d b names lists over) quiet_f quiet_g = absurd (other (of_command d names))
  same_at (no_command other) (runs d b g q k y n names lists few run counts) quiet_f quiet_g = absurd (other (of_command d names))
  same_at (no_command other) (generates d n seed q y m makes run counts) quiet_f quiet_g = absurd (other (d, makes.0))
  same_at (many_files c a names lists over) (no_command other) quiet_f quiet_g = absurd (other (of_command c names))
  same_at (many_files c a names lists over) (many_files d b names' lists' over') quiet_f quiet_g = (refl, refl, λ quiet. (ap (λ l. files_line (length l)) (one_listing a b lists lists'), refl))
  same_at (many_files c a names lists over) (runs d b g q k y n names' lists' few run counts) quiet_f quiet_g = absurd (too_many c d a b names names' lists lists' over few)
  same_at (many_files c a names lists over) (generates d n seed q y m makes run counts) quiet_f quiet_g = absurd (not_made c d n seed names makes)
  same_at (runs c a f p h x m names lists few run counts) (no_command other) quiet_f quiet_g = absurd (other (of_command c names))
  same_at (runs c a f p h x m names lists few run counts) (many_files d b names' lists' over) quiet_f quiet_g = absurd (too_many d c b a names' names lists' lists over few)
  same_at (runs c a f p h x m names lists few run counts) (runs d b g q k y n names' lists' few' other counts') quiet_f quiet_g =
      let same = one_command words d c names'.1 names.1 in
      both_run c.modules c.lanes a b p q h k x y m n (one_listing a b lists lists') (quiet c.modules c.lanes a f p h x quiet_f run)
      (subst (λ (e : Command). QuietRun e.modules e.lanes b q k y) same (quiet d.modules d.lanes b g q k y quiet_g other)) counts counts'
  same_at (runs c a f p h x m names lists few run counts) (generates d n seed q y k makes made counts') quiet_f quiet_g = absurd (not_made c d n seed names makes)
  same_at (generates c n seed p x m makes run counts) (no_command other) quiet_f quiet_g = absurd (other (c, makes.0))
  same_at (generates c n seed p x m makes run counts) (many_files d b names lists over) quiet_f quiet_g = absurd (not_made d c n seed names makes)
  same_at (generates c n seed p x m makes run counts) (runs d b g q k y j names lists few other counts') quiet_f quiet_g = absurd (not_made d c n seed names makes)
  same_at (generates c n seed p x m makes run counts) (generates d n' seed' q y k makes' other counts') quiet_f quiet_g = both_made c d n seed n' seed' p q x y m k makes makes' run other counts counts'

  pub same_transcript : (p q : Bytes) (h k : Status) (x y : Option RunEnd) → IsTranscript words (Some folder) (Some script) 0 p h x → IsTranscript words (Some folder) (Some script) 0 q k y → Same p q h k x y
  same_transcript p q h k x y is also = same_at is also refl refl
