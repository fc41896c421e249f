-- A run on made-up modules: there is one, and each part of it goes on to the whole.
use Rattle.std.proofs.Common.{◌≡◌, ℕ, ◌+◌, ◌≤◌, List, [], ◌∷◌, ◌++◌, Some, refl, sym, ap, ◌∙◌, subst, arith, inl, inr, append_assoc}
use Rattle.std.specs.List.{flat_map}
use Rattle.std.proofs.lemmas.Bool.{cases_lt}
use Rattle.std.proofs.lemmas.List.{append-nil}
use Rattle.flow_base.specs.Program.{Bytes, Program, paths_of}
use Rattle.check_values.specs.Rows.{Rows}
use Rattle.script_run.specs.beside.specs.Uses.{LaneUse}
use Rattle.pending_edits.specs.Pending.{MayBecome, edited}
use Rattle.pending_edits.specs.declared.edit.Edit.{Edit}
use Rattle.pending_edits.specs.declared.edit.Edit.TheVariants.{Put}
use Rattle.script_run.specs.affected_sizes.specs.Law.{EachHasSizes, HaveOneSize}
use Rattle.script_run.specs.affected_sizes.specs.Sizes.{AreSizes}
use Rattle.program_check.specs.Law.{OneFull}
use Rattle.program_check.specs.Status.{error_count}
use Rattle.script_line.specs.declared.line.Line.{Line}
use Rattle.script_line.specs.declared.line.Line.TheVariants as line
use Rattle.script_print.specs.Printed.{done_line}
use Rattle.script_run.specs.Checked.{HasErrorCount}
use Rattle.script_run.specs.Transcript.{Standing, start, with_edit, modules_counted, ComesTo, Rechecks, done, cancelled, cannot_read, Turns, edits, refuses, rechecks}
use Rattle.script_run.proofs.Checks.{one_count}
use Rattle.script_run.proofs.Lanes.{beside_nothing, nothing_beside}
use Rattle.generator.specs.Modules.{edits_of}
use Rattle.generated_run.specs.Run.{IsFolder, put_and_check, turns_of, Goes, generated_line, IsGeneratedRun}
use Rattle.generated_run.proofs.InOrder.{some_folder, one_folder}

-- ---- turns, one behind the other

module _ (most : ℕ) (folder : Program) where
  pub goes_one : (said : Line) (s t : Standing) (printed : Bytes) → Turns most (Some folder) said s t 0 printed → Goes most folder (said ∷ []) s t printed
  goes_one said s t printed turns = (t, printed, [], turns, (refl, refl), sym (append-nil printed))

  pub goes_both : (lines more : List Line) (s t u : Standing) (p q : Bytes) → Goes most folder lines s t p → Goes most folder more t u q → Goes most folder (lines ++ more) s u (p ++ q)
  goes_both [] more s t u p q first then_more =
      subst (λ r. Goes most folder more s u (r ++ q)) (sym first.1) (subst (λ r. Goes most folder more r u q) first.0 then_more)
  goes_both (said ∷ lines) more s t u p q first then_more =
      let rest = goes_both lines more first.0 t u first.2 q first.4 then_more in
      (first.0, first.1, first.2 ++ q, first.3, rest, ap (λ l. l ++ q) first.5 ∙ append_assoc first.1 first.2 q)

-- ---- some run

pub errors_of : EachHasSizes → (program : Program) → (errors : ℕ) × HasErrorCount program errors
errors_of each program = let sizes = (each [] program).3 in (error_count sizes.after, ∣ (sizes.after, sizes.full_after, refl) ∣₁)

module _ (each : EachHasSizes) (folder : Program) where
  pub some_recheck : (s : Standing) → (t : Standing) × (printed : Bytes) × Rechecks (Some folder) 0 s t 0 printed
  some_recheck s =
      let program = edited folder s.program s.waiting in
      let sizes = each s.program program in
      let errors = errors_of each program in
      let comes : ComesTo (Some folder) s program sizes.0 sizes.1 sizes.2 = record { may = (folder, refl, refl); sizes = sizes.3 } in
      (_, _, done s program sizes.0 sizes.1 sizes.2 errors.0 comes (inl refl) errors.1)

  module _ (most : ℕ) where
    some_edit : (s : Standing) (path text : Bytes) → (t : Standing) × (printed : Bytes) × Turns most (Some folder) (line.Edit path text) s t 0 printed
    some_edit s path text = elim (cases_lt most (modules_counted (with_edit s path (Put text)))) [
      | inl over ↦ (_, _, refuses s path text over)
      | inr few ↦ (_, _, edits s path text few)
    ]

    -- the recheck behind an edit
    pub some_check : (s : Standing) → (t : Standing) × (printed : Bytes) × Turns most (Some folder) (line.Recheck 0 []) s t 0 printed
    some_check s = let recheck = some_recheck s in (recheck.0, recheck.1, rechecks s recheck.0 0 [] 0 recheck.1 (beside_nothing _ _ _ _ _ _ recheck.2))

    pub some_round : (s : Standing) (edit : Bytes × Bytes) → (t : Standing) × (printed : Bytes) × Goes most folder (put_and_check edit) s t printed
    some_round s edit =
        let first = some_edit s edit.0 edit.1 in
        let check = some_check first.0 in (
          check.0,
          first.1 ++ check.1,
          goes_both most folder (line.Edit edit.0 edit.1 ∷ []) (line.Recheck 0 [] ∷ []) s first.0 check.0 first.1 check.1
              (goes_one most folder (line.Edit edit.0 edit.1) s first.0 first.1 first.2) (goes_one most folder (line.Recheck 0 []) first.0 check.0 check.1 check.2),
        )

    pub some_rounds : (all : List (Bytes × Bytes)) (s : Standing) → (t : Standing) × (printed : Bytes) × Goes most folder (flat_map put_and_check all) s t printed
    some_rounds [] s = (s, [], (refl, refl))
    some_rounds (edit ∷ all) s =
        let first = some_round s edit in
        let rest = some_rounds all first.0 in
        (rest.0, first.1 ++ rest.1, goes_both most folder (put_and_check edit) (flat_map put_and_check all) s first.0 rest.0 first.1 rest.1 first.2 rest.2)

-- a load and the turns behind it make a run
pub makes_run : (most lanes n seed : ℕ) (folder : Program) (loaded ended : Standing) (load lines : Bytes) → IsFolder n seed folder → Rechecks (Some folder) 0 (start (paths_of folder) lanes) loaded 0 load
    → Goes most folder (turns_of n seed) loaded ended lines → IsGeneratedRun most lanes n seed (load ++ (lines ++ generated_line n)) ended.program ended.version ended.lanes
makes_run most lanes n seed folder loaded ended load lines is_folder loads goes = record {
  folder = folder;
  is_folder = is_folder;
  loaded = loaded;
  load = load;
  loads = loads;
  waiting = ended.waiting;
  lines = lines;
  goes = goes;
  prints = refl;
}

-- what such a run may print and where it may end, behind these bytes
abbrev pub RunsOn : ℕ → ℕ → ℕ → ℕ → Bytes → Type 0
RunsOn most lanes n seed before = (more : Bytes) × (program : Program) × (version : ℕ) × (uses : List LaneUse) × IsGeneratedRun most lanes n seed (before ++ more) program version uses

-- what was loaded goes on to a whole run
pub goes_on : EachHasSizes → (most lanes n seed : ℕ) (folder : Program) (loaded : Standing) (load : Bytes) → IsFolder n seed folder → Rechecks (Some folder) 0 (start (paths_of folder) lanes) loaded 0 load
    → RunsOn most lanes n seed load
goes_on each most lanes n seed folder loaded load is_folder loads =
    let rest = some_rounds each folder most (edits_of n seed) loaded in
    (rest.1 ++ generated_line n, rest.0.program, rest.0.version, rest.0.lanes, makes_run most lanes n seed folder loaded rest.0 load rest.1 is_folder loads rest.2)

pub some_run : EachHasSizes → (most lanes n seed : ℕ) → n ≤ 4096 → (printed : Bytes) × (program : Program) × (version : ℕ) × (uses : List LaneUse) × IsGeneratedRun most lanes n seed printed program version uses
some_run each most lanes n seed few =
    let folder = some_folder n seed few in
    let load = some_recheck each folder.0 (start (paths_of folder.0) lanes) in
    let on = goes_on each most lanes n seed folder.0 load.0 load.1 folder.1 load.2 in
    (load.1 ++ on.0, on.1, on.2, on.3, on.4)

-- ---- one run

same_program : (folder p q before : Program) (rows : Rows Edit) → MayBecome (Some folder) before rows p → MayBecome (Some folder) before rows q → p ≡ q
same_program folder p q before rows may also = may.2 ∙ (ap (λ f. edited f before rows) (may.1 ∙ sym also.1) ∙ sym also.2)

abbrev Same : Standing → Standing → Bytes → Bytes → Type 0
Same s t p q = (s ≡ t) × (p ≡ q)

same_done : (s : Standing) (a b : Program) (parsed parsed' checked checked' m n : ℕ) → a ≡ b → parsed ≡ parsed' → checked ≡ checked' → m ≡ n →
    Same (record { program = a; version = s.version + 1; waiting = []; lanes = s.lanes }) (record { program = b; version = s.version + 1; waiting = []; lanes = s.lanes })
    (done_line (s.version + 1) parsed checked m) (done_line (s.version + 1) parsed' checked' n)
same_done s a b parsed parsed' checked checked' m n same parses checks count = (
  ap (λ (r : Program). let t : Standing = record { program = r; version = s.version + 1; waiting = []; lanes = s.lanes } in t) same,
  (λ i. done_line (s.version + 1) (parses i) (checks i) (count i)),
)

module _ (one : OneFull) (sized : HaveOneSize) (folder : Program) where
  both_done : (s : Standing) (a b : Program) (parsed parsed' checked checked' polls polls' m n : ℕ) → ComesTo (Some folder) s a parsed checked polls → ComesTo (Some folder) s b parsed' checked' polls'
      → HasErrorCount a m → HasErrorCount b n → Same (record { program = a; version = s.version + 1; waiting = []; lanes = s.lanes }) (record { program = b; version = s.version + 1; waiting = []; lanes = s.lanes })
      (done_line (s.version + 1) parsed checked m) (done_line (s.version + 1) parsed' checked' n)
  both_done s a b parsed parsed' checked checked' polls polls' m n comes also first second =
      let same = same_program folder a b s.program s.waiting comes.may also.may in
      let sizes = sized s.program b parsed checked polls parsed' checked' polls' (subst (λ p. AreSizes s.program p parsed checked polls) same comes.sizes) also.sizes in
      same_done s a b parsed parsed' checked checked' m n same sizes.0 sizes.1 (one_count one a m n first (subst (λ p. HasErrorCount p n) (sym same) second))

  same_recheck : {stop : ℕ} {s t u : Standing} {f g : ℕ} {p q : Bytes} → Rechecks (Some folder) stop s t f p → Rechecks (Some folder) stop s u g q → stop ≡ 0 → f ≡ 0 → g ≡ 0 → Same t u p q
  same_recheck (done s a parsed checked polls m comes through counts) (done s' b parsed' checked' polls' n also through' counts') never quiet still =
      both_done s a b parsed parsed' checked checked' polls polls' m n comes also counts counts'
  same_recheck (done s a parsed checked polls m comes through counts) (cancelled s' b parsed' checked' polls' also some within) never quiet still = absurd (omega arith)
  same_recheck (done s a parsed checked polls m comes through counts) (cannot_read s' path touched) never quiet still = absurd (omega arith)
  same_recheck (cancelled s a parsed checked polls comes some within) other never quiet still = absurd (omega arith)
  same_recheck (cannot_read s path touched) other never quiet still = absurd (omega arith)

  module _ (most : ℕ) where
    same_edit : {path text : Bytes} {s t u : Standing} {f g : ℕ} {p q : Bytes} → Turns most (Some folder) (line.Edit path text) s t f p → Turns most (Some folder) (line.Edit path text) s u g q → Same t u p q
    same_edit (edits s path text few) (edits s' path' text' few') = (refl, refl)
    same_edit (edits s path text few) (refuses s' path' text' over) = absurd (omega arith)
    same_edit (refuses s path text over) (edits s' path' text' few) = absurd (omega arith)
    same_edit (refuses s path text over) (refuses s' path' text' over') = (refl, refl)

    same_check : {s t u : Standing} {f g : ℕ} {p q : Bytes} → Turns most (Some folder) (line.Recheck 0 []) s t f p → Turns most (Some folder) (line.Recheck 0 []) s u g q → f ≡ 0 → g ≡ 0 → Same t u p q
    same_check (rechecks s t stop asks f p recheck) (rechecks s' u stop' asks' g q other) quiet still = same_recheck (nothing_beside _ _ _ _ _ _ recheck) (nothing_beside _ _ _ _ _ _ other) refl quiet still

    joined : (a b c d e f : Bytes) → e ≡ a ++ c → f ≡ b ++ d → a ≡ b → c ≡ d → e ≡ f
    joined a b c d e f left right first second = cc

    same_rounds : (all : List (Bytes × Bytes)) (s t u : Standing) (p q : Bytes) → Goes most folder (flat_map put_and_check all) s t p → Goes most folder (flat_map put_and_check all) s u q → Same t u p q
    same_rounds [] s t u p q goes also = (goes.0 ∙ sym also.0, goes.1 ∙ sym also.1)
    same_rounds (edit ∷ all) s t u p q (m, a, b, edits_one, (m', c, d, checks_one, rest, joins'), joins) (k, a', b', edits_other, (k', c', d', checks_other, rest', joins_other'), joins_other) =
        let first = same_edit edits_one edits_other in
        let second = same_check checks_one (subst (λ r. Turns most (Some folder) (line.Recheck 0 []) r k' 0 c') (sym first.0) checks_other) refl refl in
        let third = same_rounds all m' t u d d' rest (subst (λ r. Goes most folder (flat_map put_and_check all) r u d') (sym second.0) rest') in
        (third.0, joined a a' b b' p q joins joins_other first.1 (joined c c' d d' b b' joins' joins_other' second.1 third.1))

  same_runs : (most lanes n seed : ℕ) (x y : Standing) (p q : Bytes) (s t : Standing) (a b : Bytes) → Rechecks (Some folder) 0 (start (paths_of folder) lanes) x 0 p → Rechecks (Some folder) 0 (start (paths_of folder) lanes) y 0 q
      → Goes most folder (turns_of n seed) x s a → Goes most folder (turns_of n seed) y t b → Same s t (p ++ (a ++ generated_line n)) (q ++ (b ++ generated_line n))
  same_runs most lanes n seed x y p q s t a b loads also goes other =
      let load = same_recheck loads also refl refl refl in
      let rest = same_rounds most (edits_of n seed) x s t a b goes (subst (λ r. Goes most folder (turns_of n seed) r t b) (sym load.0) other) in
      (rest.0, λ i. load.1 i ++ (rest.1 i ++ generated_line n))

pub same_run : OneFull → HaveOneSize → (most lanes n seed : ℕ) (p q : Bytes) (a b : Program) (v w : ℕ) (x y : List LaneUse) → IsGeneratedRun most lanes n seed p a v x → IsGeneratedRun most lanes n seed q b w y
    → (p ≡ q) × (a ≡ b) × (v ≡ w) × (x ≡ y)
same_run one sized most lanes n seed p q a b v w x y run other =
    let same = one_folder n seed other.folder run.folder other.is_folder run.is_folder in
    let s : Standing = record { program = a; version = v; waiting = run.waiting; lanes = x } in
    let t : Standing = record { program = b; version = w; waiting = other.waiting; lanes = y } in
    let loads = subst (λ f. Rechecks (Some f) 0 (start (paths_of f) lanes) other.loaded 0 other.load) same other.loads in
    let goes = subst (λ f. Goes most f (turns_of n seed) other.loaded t other.lines) same other.goes in
    let is = same_runs one sized run.folder most lanes n seed run.loaded other.loaded run.load other.load s t run.lines other.lines run.loads loads run.goes goes in (
      run.prints ∙ is.1 ∙ sym other.prints,
      ap (λ (r : Standing). r.program) is.0,
      ap (λ (r : Standing). r.version) is.0,
      ap (λ (r : Standing). r.lanes) is.0,
    )
