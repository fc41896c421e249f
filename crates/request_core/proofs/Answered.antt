-- What a job gives is what the full check of the state's program answers.
use Rattle.std.proofs.Common.{◌≡◌, ◌↔◌, ℕ, zero, suc, ◌^◌, ◌<◌, List, [], ◌∷◌, map, length, get_or, slice_get, Option, Some, None, refl, sym, ap, ◌∙◌, subst, subst₂, arith}
use Rattle.std.specs.Prelude.{Ok, Err}
use Rattle.std.specs.List.{AllByRecursion}
use mathlib.Core.Logic.{∥∥₁_map}
use Rattle.std.proofs.lemmas.Option.{none-some, same_Some}
use Rattle.flow_base.specs.Program.{Bytes, IsRising, paths_of}
use Rattle.heap_core.proofs.Lists.{get_there}
use Rattle.check_values.specs.Rows.{row_at}
use Rattle.check_values.specs.Roots.{paths_of_rows}
use Rattle.check_values.specs.declared.faults.Fault.{Fault}
use Rattle.check_values.specs.declared.root.RootRow.{RootRow}
use Rattle.check_values.specs.declared.root.Root.{Root}
use Rattle.check_values.specs.declared.signatures.Deps.{Deps}
use Rattle.type_values.specs.declared.types.FlowType.{FlowType}
use Rattle.js_lexer.specs.Answers.{source_limit}
use Rattle.place_analyst.specs.source_front.specs.Front.{Says, IsParse}
use Rattle.place_analyst.specs.source_front.specs.declared.parse.Parse.{Parse}
use Rattle.place_analyst.specs.source_front.specs.declared.parse.ParseTree.{ParseTree}
use Rattle.place_analyst.specs.source_front.specs.declared.parse.ParseTree.TheVariants.{Tree, Broken}
use Rattle.merged_signatures.specs.Merged.{merged}
use Rattle.errors_by_reach.specs.Law.{Agree, HasErrors}
use Rattle.errors_by_reach.specs.Seen.{Sigs}
use Rattle.reach_law.specs.Law.{KeyLaw}
use Rattle.byte_places.specs.Places.{StandsAt}
use Rattle.place_analyst.specs.check_job.specs.Jobs.{source_in, source_of, HasFaults, IsFronted, AreErrorsOf}
use Rattle.place_analyst.specs.check_job.specs.declared.job.CheckJob.{CheckJob}
use Rattle.place_analyst.specs.check_job.proofs.Fronted.{fronted_errors}
use Rattle.heap_answers.specs.program_check.specs.Full.{Results, beside, view_in, sigs_in, deps_in, IsFull}
use Rattle.heap_answers.specs.program_check.specs.Law.{OneFull}
use Rattle.heap_answers.specs.payloads.specs.Entities.{parse_entity}
use Rattle.heap_answers.specs.payloads.specs.State.{program_of, payload_at, StandsIn}
use Rattle.heap_answers.specs.payloads.specs.declared.payload.Payload.{Payload}
use Rattle.heap_answers.specs.payloads.specs.declared.payload.Payload.TheVariants as payload
use Rattle.shown_types.specs.Shown.{IsTypeIn, IsShown}
use Rattle.asks.specs.Places.{errors_at}
use Rattle.asks.specs.declared.answer.Located.{Located}
use Rattle.asks.specs.declared.answer.Answer.TheVariants.{Faults}
use Rattle.asks.specs.declared.answer.AskFault.TheVariants.{UnknownPath, NoExpression}
use Rattle.asks.specs.declared.ask.Ask.{Ask}
use Rattle.asks.specs.declared.ask.Ask.TheVariants as ask
use Rattle.heap_answers.specs.answers_law.specs.Answers.{Answered, OfModule, AnswersBy, AreInstead, IsAnswer, shown}
use Rattle.dep_lists.specs.Looking.{IsPlaceOf}
use Rattle.heap_answers.specs.States.{program_in, HasPlace, sigs_by}
use Rattle.heap_answers.proofs.Standing.{IsLawful, HasRoot, program_there, placed, AllHold, each_holds}
use Rattle.heap_answers.proofs.Answered.{rising_rows}
use Rattle.heap_answers.proofs.Found.{standing_at, stands_nowhere, stands_there, IsFound, found}
use Rattle.place_analyst.specs.Law.{TypesAreRight}
use Rattle.request_core.specs.States.{deps_at, IsRead}
use Rattle.request_core.specs.CheckedBy.{IsJobOf, IsJobInstead, AreFoundInstead}
use Rattle.request_core.proofs.Standing.{has_root, same_paths, parse_stands, one_list, result_there, results_of, all_signed, place_there, parse_of_full, read_there}

-- ---- what is asked of a module

of_nowhere : (o : Option (Bytes × Results)) (is : Bytes → Results → Type 0) → o ≡ None → OfModule o is (Err UnknownPath)
of_nowhere o is none = subst (λ p. OfModule p is (Err UnknownPath)) (sym none) refl

of_there : (o : Option (Bytes × Results)) (is : Bytes → Results → Type 0) (answer : Answered) (text : Bytes) (r : Results) → o ≡ Some (text, r) → is text r → OfModule o is answer
of_there o is answer text r at has = subst (λ p. OfModule p is answer) (sym at) has

get_or_there : {X : Type 0} (xs : List X) (i : ℕ) (x : X) → slice_get xs i ≡ Some x → get_or xs i x ≡ x
get_or_there [] i x at = absurd (none-some x at)
get_or_there (y ∷ xs) zero x at = same_Some y x at
get_or_there (y ∷ xs) (suc i) x at = get_or_there xs i x at

-- ---- parses

-- the faults that come with a parse are those of its tree's signature
fronted : (job : CheckJob) (text : Bytes) → IsParse text job.parse → IsFronted job
fronted job text is = go job.parse.tree is
  where
    go : (t : ParseTree) → Says text t job.parse.sig job.parse.faults → HasFaults job (source_in t)
    go (Tree m spans) says = says.2
    go (Broken f) says = tt

-- a source that is too long has no tree
too_long : (path text : Bytes) (deps : Deps) (sigs : Sigs) (p : Parse) (at : ℕ) → source_limit < length text → IsParse text p → IsTypeIn path deps (source_in p.tree) sigs at None
too_long path text deps sigs p at long is = go p.tree is
  where
    go : (t : ParseTree) → Says text t p.sig p.faults → IsTypeIn path deps (source_in t) sigs at None
    go (Tree m spans) says = let (tokens, lexed, parsed, listed) = says.0 in let few = lexed.0 in absurd (omega (arith, few, long))
    go (Broken f) says = refl

-- ---- places

module _ (path : Bytes) (deps : Deps) (p : Parse) (sigs : Sigs) (text : Bytes) (line column : ℕ) (placed : Option ℕ) (tells : (n : ℕ) → (placed ≡ Some n) ↔ StandsAt text line column n) where
  shown_at : (place : ℕ) (t : Option FlowType) → placed ≡ Some place → IsTypeIn path deps (source_in p.tree) sigs place t → IsShown path deps (source_in p.tree) sigs text line column t
  shown_at place t is has = record {
    at_character = λ n stands. subst (λ (k : ℕ). IsTypeIn path deps (source_in p.tree) sigs k t) (same_Some place n (sym is ∙ (tells n).1 stands)) has;
    at_none = λ none. absurd (none place ((tells place).0 is));
  }

  shown_nowhere : placed ≡ None → IsShown path deps (source_in p.tree) sigs text line column None
  shown_nowhere none = record {
    at_character = λ n stands. absurd (none-some n (sym none ∙ (tells n).1 stands));
    at_none = λ _. refl;
  }

-- ---- answers over a lawful state

module _ (one : OneFull) (state later : List Payload) (lawful : IsLawful state) (root : Root) (modules : List RootRow) (first : slice_get state 0 ≡ Some (payload.Root root)) (same : later ≡ state) (is : modules ≡ root.modules) where
  has : HasRoot state root
  has = has_root state lawful root first

  pub rising_told : IsRising (paths_of_rows modules)
  rising_told = subst (λ ms. IsRising (paths_of_rows ms)) (sym is) (rising_rows state root has)

  pub placed_told : length state < 2 ^ 32 → AllByRecursion (HasPlace later) modules
  placed_told few = subst₂ (λ (st : List Payload) (ms : List RootRow). AllByRecursion (HasPlace st) ms) (sym same) (sym is) (placed state root few has)

  -- by any full check of the state's program
  by_full : (asked : Ask) (answer : Answered) → ((results : List Results) → IsFull (program_of root) results → AllHold state root.modules results → AnswersBy (program_of root) results asked answer)
      → IsAnswer (program_in state) asked answer
  by_full asked answer told =
      subst (λ p. IsAnswer p asked answer) (sym (program_there state root has))
      (∥∥₁_map (has.fit 0 (payload.Root root) first) (λ (stood : StandsIn root 0 (payload.Root root)).
      (stood.0, stood.1, told stood.0 stood.1 (each_holds one state root has stood.0 stood.1))))

  module _ (path : Bytes) where
    none_there : IsPlaceOf modules path None → IsPlaceOf root.modules path None
    none_there none = subst (λ ms. IsPlaceOf ms path None) is none

    pub no_contents_told : (text : Bytes) → IsPlaceOf modules path None → IsAnswer (program_in state) (ask.CheckContents path text) (Err UnknownPath)
    no_contents_told text none = by_full (ask.CheckContents path text) _ (λ results full hold. of_nowhere (standing_at root.modules results path) _ (stands_nowhere root.modules results path (none_there none)))

    pub no_type_told : (line column : ℕ) → IsPlaceOf modules path None → IsAnswer (program_in state) (ask.TypeAtPos path line column) (Err UnknownPath)
    no_type_told line column none = by_full (ask.TypeAtPos path line column) _ (λ results full hold. of_nowhere (standing_at root.modules results path) _ (stands_nowhere root.modules results path (none_there none)))

    module _ (at : ℕ) (m : RootRow) (there_at : IsPlaceOf modules path (Some at)) (here : m ≡ get_or modules at m) where
      found_there : IsFound root.modules path at m
      found_there = subst (λ ms. IsFound ms path at m) is (subst (IsFound modules path at) (sym here) (found modules path at there_at m))

      pub place_told : length state < 2 ^ 32 → HasPlace later m
      place_told few = subst (λ st. HasPlace st m) (sym same) (place_there one state root has at m found_there.stands few)

      pub read_told : IsRead later m
      read_told = subst (λ st. IsRead st m) (sym same) (read_there one state root has at m found_there.stands)

      stands : (results : List Results) (r : Results) → slice_get results at ≡ Some r → standing_at root.modules results path ≡ Some (m.text, r)
      stands results r of = subst (λ p. standing_at root.modules results p ≡ Some (m.text, r)) found_there.has_path (stands_there root.modules results at m r (rising_rows state root has) found_there.stands of)

      -- what a job was told is what all signatures say
      agree_all : (results : List Results) (deps : Deps) (told : Sigs) → AllHold state root.modules results → Agree (sigs_by later modules) deps told → Agree (sigs_in (program_of root) results) deps told
      agree_all results deps told hold agree =
          subst (λ (sigs : Sigs). Agree sigs deps told) ((λ i. sigs_by (same i) (is i)) ∙ all_signed state root.modules results hold) agree

      -- ---- another text

      are_instead : KeyLaw → (text : Bytes) (job : CheckJob) (faults : List Fault) → IsJobInstead later modules path text job → AreErrorsOf job faults
          → (results : List Results) (r : Results) → IsFull (program_of root) results → AllHold state root.modules results → slice_get results at ≡ Some r
          → AreInstead (program_of root) results path text (record { parse = job.parse; deps = job.deps; sig = r.sig; errors = faults })
      are_instead key text job faults made errors results r full hold of = record {
        parse = made.parse;
        deps = made.deps ∙ ap (λ (paths : List Bytes). deps_in paths path job.parse) (ap paths_of_rows is ∙ sym (same_paths root.modules));
        sig = subst (λ (p : Bytes). merged (view_in (program_of root) results) p ≡ Some r.sig) found_there.has_path
            (results_of (paths_of (program_of root)) (view_in (program_of root) results) (sigs_in (program_of root) results) root.modules results at m r full found_there.stands of).sig;
        errors = (key path job.deps (source_of job) (beside (program_of root) (map (λ (s : Results). s.sig) results)) job.sigs.rows faults (agree_all results job.deps (row_at job.sigs.rows) hold made.signed)).1
            (subst (λ (p : Bytes). HasErrors p job.deps (source_of job) (row_at job.sigs.rows) faults) made.at_path (fronted_errors job faults (fronted job text made.parse) errors));
      }

      contents_told : KeyLaw → (text : Bytes) (faults : List Fault) → AreFoundInstead later modules path text faults → IsAnswer (program_in state) (ask.CheckContents path text) (Ok (Faults (errors_at path text faults)))
      contents_told key text faults (job, made, errors) = by_full (ask.CheckContents path text) _ (λ results full hold.
          let (r, of, holds) = result_there state root.modules results at m hold found_there.stands in
          of_there (standing_at root.modules results path) _ _ m.text r (stands results r of)
          (record { parse = job.parse; deps = job.deps; sig = r.sig; errors = faults }, are_instead key text job faults made errors results r full hold of, refl))

      -- ---- the type at a place

      module _ (line column : ℕ) (text : Bytes) (seen : text ≡ m.text) (placed : Option ℕ) (tells : (n : ℕ) → (placed ≡ Some n) ↔ StandsAt text line column n) where
        tells_there : (n : ℕ) → (placed ≡ Some n) ↔ StandsAt m.text line column n
        tells_there = subst (λ (t : Bytes). (n : ℕ) → (placed ≡ Some n) ↔ StandsAt t line column n) seen tells

        -- where there is none, whatever the source says
        by_none : ((r : Results) (sigs : Sigs) → IsParse m.text r.parse → IsShown path r.deps (source_in r.parse.tree) sigs m.text line column None) → IsAnswer (program_in state) (ask.TypeAtPos path line column) (Err NoExpression)
        by_none is_none = by_full (ask.TypeAtPos path line column) _ (λ results full hold.
            let (r, of, holds) = result_there state root.modules results at m hold found_there.stands in
            let are = results_of (paths_of (program_of root)) (view_in (program_of root) results) (sigs_in (program_of root) results) root.modules results at m r full found_there.stands of in
            of_there (standing_at root.modules results path) _ _ m.text r (stands results r of) (None, is_none r (sigs_in (program_of root) results) are.parse, refl))

        pub no_character_told : placed ≡ None → IsAnswer (program_in state) (ask.TypeAtPos path line column) (Err NoExpression)
        no_character_told none = by_none (λ r sigs parse. shown_nowhere path r.deps r.parse sigs m.text line column placed tells_there none)

        pub far_character_told : (place : ℕ) → placed ≡ Some place → source_limit < place → IsAnswer (program_in state) (ask.TypeAtPos path line column) (Err NoExpression)
        far_character_told place stood far = by_none (λ r sigs parse.
            let low = ((tells_there place).0 stood).within in
            shown_at path r.deps r.parse sigs m.text line column placed tells_there place None stood (too_long path m.text r.deps sigs r.parse place (omega (arith, low, far)) parse))

        pub type_told : TypesAreRight → (job : CheckJob) (place byte : ℕ) (t : Option FlowType) → IsJobOf later modules m job → placed ≡ Some place → byte ≡ place
            → IsTypeIn job.path job.deps (source_of job) (row_at job.sigs.rows) byte t → IsAnswer (program_in state) (ask.TypeAtPos path line column) (shown t)
        type_told right job place byte t made stood same_place type_is =
            let at_parse = parse_stands later m.row job.parse made.parse in
            let there : slice_get state (parse_entity m.row) ≡ Some (payload.Parse job.parse) = ap (λ (st : List Payload). slice_get st (parse_entity m.row)) (sym same) ∙ at_parse in
            subst (λ p. IsAnswer p (ask.TypeAtPos path line column) (shown t)) (sym (program_there state root has))
            (∥∥₁_map (has.fit (parse_entity m.row) (payload.Parse job.parse) there) (λ (stood_in : StandsIn root (parse_entity m.row) (payload.Parse job.parse)).
            (stood_in.0, stood_in.1, by_results stood_in.0 stood_in.1 stood_in.2)))
          where
            at_path : job.path ≡ path
            at_path = made.path ∙ found_there.has_path

            by_results : (results : List Results) → IsFull (program_of root) results → payload.Parse job.parse ≡ payload_at root results (parse_entity m.row) → AnswersBy (program_of root) results (ask.TypeAtPos path line column) (shown t)
            by_results results full puts =
                let (r, of, holds, is_parse) = parse_of_full one state root has at m found_there.stands (payload.Parse job.parse) results full puts in
                let hold = each_holds one state root has results full in
                let parses : job.parse ≡ r.parse = (let e : payload.Parse job.parse ≡ payload.Parse r.parse = is_parse in cc) in
                let lists : job.deps ≡ r.deps = one_list state m r job.deps holds (ap (λ (st : List Payload). deps_at st m.row) (sym same) ∙ made.deps) in
                let agree = agree_all results job.deps (row_at job.sigs.rows) hold made.signed in
                let typed : IsTypeIn path job.deps (source_of job) (row_at job.sigs.rows) place t = subst₂ (λ (p : Bytes) (n : ℕ). IsTypeIn p job.deps (source_of job) (row_at job.sigs.rows) n t) at_path same_place type_is in
                let by_all : IsTypeIn path job.deps (source_of job) (sigs_in (program_of root) results) place t = right path job.deps (source_of job) (sigs_in (program_of root) results) (row_at job.sigs.rows) place t agree typed in
                let shown_by : IsShown path job.deps (source_in job.parse.tree) (sigs_in (program_of root) results) m.text line column t = shown_at path job.deps job.parse (sigs_in (program_of root) results) m.text line column placed tells_there place t stood by_all in
                of_there (standing_at root.modules results path) _ _ m.text r (stands results r of)
                (t, subst₂ (λ (ds : Deps) (p : Parse). IsShown path ds (source_in p.tree) (sigs_in (program_of root) results) m.text line column t) lists parses shown_by, refl)

    -- the same of another text, where the row itself isn't read
    pub text_told : KeyLaw → (at : ℕ) (there_at : IsPlaceOf modules path (Some at)) (text : Bytes) (faults : List Fault) (errors : List Located) → AreFoundInstead later root.modules path text faults → errors ≡ errors_at path text faults
        → IsAnswer (program_in state) (ask.CheckContents path text) (Ok (Faults errors))
    text_told key at there_at text faults errors found_so are =
        let (row, stands_at) = get_there modules at there_at.0 in
        subst (λ (es : List Located). IsAnswer (program_in state) (ask.CheckContents path text) (Ok (Faults es))) (sym are)
        (contents_told at row there_at (sym (get_or_there modules at row stands_at)) key text faults (subst (λ (ms : List RootRow). AreFoundInstead later ms path text faults) (sym is) found_so))
