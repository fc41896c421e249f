-- What is read of a lawful state is what the full check of its program answers.
use Rattle.std.proofs.Common.{◌≡◌, ℕ, zero, suc, ◌<◌, ◌^◌, List, [], ◌∷◌, ◌++◌, length, slice_get, get_or, Option, Some, None, refl, sym, ap, ◌∙◌, subst}
use Rattle.std.specs.Prelude.{Ok, Err, true, if◌then◌else◌}
use Rattle.std.specs.Option.{is_some}
use Rattle.std.specs.Coded.{coded_bool}
use denote.Struct.Props.{≡_prop}
use Rattle.std.specs.List.{AllByRecursion}
use mathlib.Core.Logic.{∥∥₁_elim, ∥∥₁_map}
use Rattle.std.proofs.lemmas.Option.{none-some, same_Some}
use Rattle.flow_base.specs.Program.{Bytes, IsRising, paths_of}
use Rattle.check_values.specs.Roots.{paths_of_rows}
use Rattle.check_values.specs.declared.root.RootRow.{RootRow}
use Rattle.check_values.specs.declared.root.Root.{Root}
use Rattle.check_values.specs.declared.signatures.Sig.{Sig}
use Rattle.payloads.specs.program_check.specs.Full.{Results}
use Rattle.payloads.specs.program_check.specs.Law.{OneFull}
use Rattle.module_resolution.specs.Resolution.{resolved}
use Rattle.payloads.specs.State.{program_of, StandsIn}
use Rattle.payloads.specs.declared.payload.Payload.{Payload}
use Rattle.payloads.specs.declared.payload.Payload.TheVariants as payload
use Rattle.asks.specs.Places.{errors_at}
use Rattle.asks.specs.declared.answer.Located.{Located}
use Rattle.asks.specs.declared.answer.Answer.TheVariants.{Faults, Found, Paths, Sig as TheSig}
use Rattle.asks.specs.declared.answer.AskFault.TheVariants.{UnknownPath}
use Rattle.asks.specs.declared.ask.Ask.{Ask}
use Rattle.asks.specs.declared.ask.Ask.TheVariants as ask
use Rattle.answers_law.specs.Answers.{Answered, all_errors, importers, OfModule, AnswersBy, IsAnswer}
use Rattle.heap_answers.specs.States.{is_root, modules_of, program_in, faults_of, faults_at, specifiers_of, specifiers_at, signature_of, signature_at, HasPlace, errors_in, any_finds, importers_in}
use Rattle.dep_lists.specs.Looking.{IsPlaceOf}
use Rattle.heap_core.proofs.Lists.{get_there}
use Rattle.heap_answers.proofs.Standing.{IsLawful, HasRoot, root_of, program_there, placed, all_at, Holds, AllHold, each_holds}
use Rattle.heap_answers.proofs.Found.{standing_at, stands_nowhere, stands_there, IsFound, found}

-- ---- parts of what stands there

faults_there : (state : List Payload) (m : RootRow) (r : Results) → Holds state m r → faults_at state m.row ≡ r.errors
faults_there state m r holds = ap (λ o. elim o [ Some x ↦ faults_of x | None ↦ [] ]) holds.errors

specifiers_there : (state : List Payload) (m : RootRow) (r : Results) → Holds state m r → specifiers_at state m.row ≡ r.deps.rows
specifiers_there state m r holds = ap (λ o. elim o [ Some x ↦ specifiers_of x | None ↦ [] ]) holds.deps

signature_there : (state : List Payload) (m : RootRow) (r : Results) → Holds state m r → signature_at state m.row ≡ Some r.sig
signature_there state m r holds = ap (λ o. elim o [ Some x ↦ signature_of x | None ↦ None ]) holds.sig

errors_by : (state : List Payload) (ms : List RootRow) (rs : List Results) → AllHold state ms rs → errors_in state ms ≡ all_errors (program_of (record { modules = ms })) rs
errors_by state [] [] hold = refl
errors_by state [] (r ∷ rs) hold = absurd hold
errors_by state (m ∷ ms) [] hold = absurd hold
errors_by state (m ∷ ms) (r ∷ rs) hold =
    let first = faults_there state m r hold.0 in
    let rest = errors_by state ms rs hold.1 in
    λ i. errors_at m.path m.text (first i) ++ rest i

importers_by : (path : Bytes) (state : List Payload) (ms : List RootRow) (rs : List Results) → AllHold state ms rs → importers_in path state ms ≡ importers path (program_of (record { modules = ms })) rs
importers_by path state [] [] hold = refl
importers_by path state [] (r ∷ rs) hold = absurd hold
importers_by path state (m ∷ ms) [] hold = absurd hold
importers_by path state (m ∷ ms) (r ∷ rs) hold =
    let first = specifiers_there state m r hold.0 in
    let rest = importers_by path state ms rs hold.1 in
    λ i. if any_finds path (first i) then m.path ∷ rest i else rest i

result_there : (state : List Payload) (ms : List RootRow) (rs : List Results) (i : ℕ) (m : RootRow) → AllHold state ms rs → slice_get ms i ≡ Some m → (r : Results) × (slice_get rs i ≡ Some r) × Holds state m r
result_there state [] rs i m hold at = absurd (none-some m at)
result_there state (n ∷ ms) [] i m hold at = absurd hold
result_there state (n ∷ ms) (r ∷ rs) zero m hold at = (r, refl, subst (λ (k : RootRow). Holds state k r) (same_Some n m at) hold.0)
result_there state (n ∷ ms) (r ∷ rs) (suc i) m hold at = result_there state ms rs i m hold.1 at

same_paths : (ms : List RootRow) → paths_of (program_of (record { modules = ms })) ≡ paths_of_rows ms
same_paths [] = refl
same_paths (m ∷ ms) = ap (λ l. m.path ∷ l) (same_paths ms)

pub rising_rows : (state : List Payload) (root : Root) → HasRoot state root → IsRising (paths_of_rows root.modules)
rising_rows state root has = subst IsRising (same_paths root.modules) has.is_root.rising

-- what is asked of a module that stands there
of_there : (o : Option (Bytes × Results)) (is : Bytes → Results → Type 0) (answer : Answered) (text : Bytes) (r : Results) → o ≡ Some (text, r) → is text r → OfModule o is answer
of_there o is answer text r at has = subst (λ p. OfModule p is answer) (sym at) has

-- ---- answers over a lawful state

module _ (one : OneFull) (state : List Payload) (root : Root) (has : HasRoot state root) where
  -- a full check of the state's program, with what stands at the entities by it
  by_full : (asked : Ask) (answer : Answered) → ((results : List Results) → AllHold state root.modules results → AnswersBy (program_of root) results asked answer) → IsAnswer (program_in state) asked answer
  by_full asked answer is =
      subst (λ p. IsAnswer p asked answer) (sym (program_there state root has))
      (∥∥₁_map (has.fit 0 (payload.Root root) has.first) (λ (stood : StandsIn root 0 (payload.Root root)).
      (stood.0, stood.1, is stood.0 (each_holds one state root has stood.0 stood.1))))

  pub answers_status : IsAnswer (program_in state) ask.Status (Ok (Faults (errors_in state root.modules)))
  answers_status = by_full ask.Status _ (λ results hold. ap (λ errors. Ok (Faults errors)) (errors_by state root.modules results hold))

  pub answers_ls : IsAnswer (program_in state) ask.Ls (Ok (Paths (paths_of_rows root.modules)))
  answers_ls = by_full ask.Ls _ (λ results hold. ap (λ paths. Ok (Paths paths)) (sym (same_paths root.modules)))

  module _ (path : Bytes) where
    pub answers_unknown : (asked : Ask) → ((results : List Results) → standing_at root.modules results path ≡ None → AnswersBy (program_of root) results asked (Err UnknownPath))
        → IsPlaceOf root.modules path None → IsAnswer (program_in state) asked (Err UnknownPath)
    answers_unknown asked is none = by_full asked _ (λ results hold. is results (stands_nowhere root.modules results path none))

    module _ (at : ℕ) (m : RootRow) (is : IsFound root.modules path at m) where
      -- what is asked of a module that stands there, by its results
      of_module : (asked : Ask) (answer : Answered) → ((results : List Results) (r : Results) → AllHold state root.modules results → Holds state m r → standing_at root.modules results path ≡ Some (m.text, r)
          → AnswersBy (program_of root) results asked answer) → IsAnswer (program_in state) asked answer
      of_module asked answer by = by_full asked answer (λ results hold.
          let r = result_there state root.modules results at m hold is.stands in
          by results r.0 hold r.2 (subst (λ p. standing_at root.modules results p ≡ Some (m.text, r.0)) is.has_path (stands_there root.modules results at m r.0 (rising_rows state root has) is.stands r.1)))

      pub answers_errors : IsAnswer (program_in state) (ask.Errors path) (Ok (Faults (errors_at m.path m.text (faults_at state m.row))))
      answers_errors = of_module (ask.Errors path) _ (λ results r hold holds stands.
          of_there (standing_at root.modules results path) _ _ m.text r stands (λ i. Ok (Faults (errors_at (is.has_path i) m.text (faults_there state m r holds i)))))

      pub answers_importers : IsAnswer (program_in state) (ask.Importers path) (Ok (Paths (importers_in path state root.modules)))
      answers_importers = of_module (ask.Importers path) _ (λ results r hold holds stands.
          of_there (standing_at root.modules results path) _ _ m.text r stands (λ i. Ok (Paths (importers_by path state root.modules results hold i))))

      pub answers_signature : (sig : Sig) → signature_at state m.row ≡ Some sig → IsAnswer (program_in state) (ask.Signature path) (Ok (TheSig sig))
      answers_signature sig told = of_module (ask.Signature path) _ (λ results r hold holds stands.
          let same : sig ≡ r.sig = same_Some sig r.sig (sym told ∙ signature_there state m r holds) in
          of_there (standing_at root.modules results path) _ _ m.text r stands (λ i. Ok (TheSig (same i))))

      pub answers_found : (spec : Bytes) (target : Option Bytes) → target ≡ resolved (paths_of_rows root.modules) path spec → IsAnswer (program_in state) (ask.FindModule path spec) (Ok (Found target))
      answers_found spec target finds = of_module (ask.FindModule path spec) _ (λ results r hold holds stands.
          let same : target ≡ resolved (paths_of (program_of root)) path spec = finds ∙ ap (λ paths. resolved paths path spec) (sym (same_paths root.modules)) in
          of_there (standing_at root.modules results path) _ _ m.text r stands (λ i. Ok (Found (same i))))

-- a module's signature is there
signed : (one : OneFull) (state : List Payload) (root : Root) → HasRoot state root → (at : ℕ) (m : RootRow) → slice_get root.modules at ≡ Some m → is_some (signature_at state m.row) ≡ true
signed one state root has at m there_at =
    ∥∥₁_elim (has.fit 0 (payload.Root root) has.first) (≡_prop coded_bool _ _) (λ (stood : StandsIn root 0 (payload.Root root)).
    let r = result_there state root.modules stood.0 at m (each_holds one state root has stood.0 stood.1) there_at in
    ap is_some (signature_there state m r.0 r.2))

get_or_there : {X : Type 0} (xs : List X) (i : ℕ) (x : X) → slice_get xs i ≡ Some x → get_or xs i x ≡ x
get_or_there [] i x at = absurd (none-some x at)
get_or_there (y ∷ xs) zero x at = same_Some y x at
get_or_there (y ∷ xs) (suc i) x at = get_or_there xs i x at

-- ---- what the code reads

module _ (one : OneFull) (state later : List Payload) (lawful : IsLawful state) (x : Payload) (modules : List RootRow) (first : slice_get state 0 ≡ Some x) (same : later ≡ state) (is : modules ≡ modules_of x) where
  root_there : (root : Root) × (x ≡ payload.Root root) × HasRoot state root
  root_there = root_of state lawful x first

  rows_are : modules ≡ root_there.0.modules
  rows_are = is ∙ ap modules_of root_there.1

  pub rising_told : IsRising (paths_of_rows modules)
  rising_told = subst (λ ms. IsRising (paths_of_rows ms)) (sym rows_are) (rising_rows state root_there.0 root_there.2)

  pub placed_told : length state < 2 ^ 32 → AllByRecursion (HasPlace later) modules
  placed_told few = subst (λ st. AllByRecursion (HasPlace st) modules) (sym same) (subst (λ ms. AllByRecursion (HasPlace state) ms) (sym rows_are) (placed state root_there.0 few root_there.2))

  pub status_told : (errors : List Located) → errors ≡ errors_in later modules → IsAnswer (program_in state) ask.Status (Ok (Faults errors))
  status_told errors are =
      let path : errors ≡ errors_in state root_there.0.modules = are ∙ (λ i. errors_in (same i) (rows_are i)) in
      subst (λ es. IsAnswer (program_in state) ask.Status (Ok (Faults es))) (sym path) (answers_status one state root_there.0 root_there.2)

  pub ls_told : (paths : List Bytes) → paths ≡ paths_of_rows modules → IsAnswer (program_in state) ask.Ls (Ok (Paths paths))
  ls_told paths are = subst (λ ps. IsAnswer (program_in state) ask.Ls (Ok (Paths ps))) (sym (are ∙ ap paths_of_rows rows_are)) (answers_ls one state root_there.0 root_there.2)

  module _ (path : Bytes) where
    none_there : IsPlaceOf modules path None → IsPlaceOf root_there.0.modules path None
    none_there none = subst (λ ms. IsPlaceOf ms path None) rows_are none

    unknown : (asked : Ask) → ((results : List Results) → standing_at root_there.0.modules results path ≡ None → AnswersBy (program_of root_there.0) results asked (Err UnknownPath))
        → IsPlaceOf modules path None → IsAnswer (program_in state) asked (Err UnknownPath)
    unknown asked by none = answers_unknown one state root_there.0 root_there.2 path asked by (none_there none)

    pub no_errors_told : IsPlaceOf modules path None → IsAnswer (program_in state) (ask.Errors path) (Err UnknownPath)
    no_errors_told = unknown (ask.Errors path) (λ results none.
        subst (λ o. OfModule o (λ text r. Err UnknownPath ≡ Ok (Faults (errors_at path text r.errors))) (Err UnknownPath)) (sym none) refl)

    pub no_importers_told : IsPlaceOf modules path None → IsAnswer (program_in state) (ask.Importers path) (Err UnknownPath)
    no_importers_told = unknown (ask.Importers path) (λ results none.
        subst (λ o. OfModule o (λ text r. Err UnknownPath ≡ Ok (Paths (importers path (program_of root_there.0) results))) (Err UnknownPath)) (sym none) refl)

    pub no_signature_told : IsPlaceOf modules path None → IsAnswer (program_in state) (ask.Signature path) (Err UnknownPath)
    no_signature_told = unknown (ask.Signature path) (λ results none.
        subst (λ o. OfModule o (λ text r. Err UnknownPath ≡ Ok (TheSig r.sig)) (Err UnknownPath)) (sym none) refl)

    pub no_module_told : (spec : Bytes) → IsPlaceOf modules path None → IsAnswer (program_in state) (ask.FindModule path spec) (Err UnknownPath)
    no_module_told spec = unknown (ask.FindModule path spec) (λ results none.
        subst (λ o. OfModule o (λ text r. Err UnknownPath ≡ Ok (Found (resolved (paths_of (program_of root_there.0)) path spec))) (Err UnknownPath)) (sym none) refl)

    module _ (at : ℕ) (m : RootRow) (there_at : IsPlaceOf modules path (Some at)) (here : m ≡ get_or modules at m) where
      found_there : IsFound root_there.0.modules path at m
      found_there = subst (λ ms. IsFound ms path at m) rows_are (subst (IsFound modules path at) (sym here) (found modules path at there_at m))

      pub place_told : length state < 2 ^ 32 → HasPlace later m
      place_told few = subst (λ st. HasPlace st m) (sym same) (all_at (HasPlace state) root_there.0.modules at m (placed state root_there.0 few root_there.2) found_there.stands)

      pub errors_told : (errors : List Located) → errors ≡ errors_at m.path m.text (faults_at later m.row) → IsAnswer (program_in state) (ask.Errors path) (Ok (Faults errors))
      errors_told errors are =
          subst (λ es. IsAnswer (program_in state) (ask.Errors path) (Ok (Faults es))) (sym (are ∙ (λ i. errors_at m.path m.text (faults_at (same i) m.row))))
          (answers_errors one state root_there.0 root_there.2 path at m found_there)

      pub importers_told : (paths : List Bytes) → paths ≡ importers_in path later modules → IsAnswer (program_in state) (ask.Importers path) (Ok (Paths paths))
      importers_told paths are =
          subst (λ ps. IsAnswer (program_in state) (ask.Importers path) (Ok (Paths ps))) (sym (are ∙ (λ i. importers_in path (same i) (rows_are i))))
          (answers_importers one state root_there.0 root_there.2 path at m found_there)

      pub signature_told : (sig : Sig) → signature_at later m.row ≡ Some sig → IsAnswer (program_in state) (ask.Signature path) (Ok (TheSig sig))
      signature_told sig told = answers_signature one state root_there.0 root_there.2 path at m found_there sig (sym (ap (λ st. signature_at st m.row) same) ∙ told)

      pub found_told : (spec : Bytes) (target : Option Bytes) → target ≡ resolved (paths_of_rows modules) path spec → IsAnswer (program_in state) (ask.FindModule path spec) (Ok (Found target))
      found_told spec target finds =
          answers_found one state root_there.0 root_there.2 path at m found_there spec target (finds ∙ ap (λ ms. resolved (paths_of_rows ms) path spec) rows_are)

      pub signed_told : is_some (signature_at later m.row) ≡ true
      signed_told = ap (λ st. is_some (signature_at st m.row)) same ∙ signed one state root_there.0 root_there.2 at m found_there.stands

    -- the same, where the row itself isn't read
    module _ (at : ℕ) (there_at : IsPlaceOf modules path (Some at)) where
      abbrev row_there : RootRow
      row_there = (get_there modules at there_at.0).0

      row_is : row_there ≡ get_or modules at row_there
      row_is = sym (get_or_there modules at row_there (get_there modules at there_at.0).1)

      pub importers_found : (paths : List Bytes) → paths ≡ importers_in path later modules → IsAnswer (program_in state) (ask.Importers path) (Ok (Paths paths))
      importers_found = importers_told at row_there there_at row_is

      pub module_found : (spec : Bytes) (target : Option Bytes) → target ≡ resolved (paths_of_rows modules) path spec → IsAnswer (program_in state) (ask.FindModule path spec) (Ok (Found target))
      module_found = found_told at row_there there_at row_is

-- a payload that is a root
pub root_told : (state : List Payload) → IsLawful state → (x : Payload) → slice_get state 0 ≡ Some x → is_root x ≡ true
root_told state lawful x first = let root = root_of state lawful x first in ap is_root root.1
