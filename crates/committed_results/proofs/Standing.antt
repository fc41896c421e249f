-- What stands at the entities of the modules is what one full check gives.
use Rattle.std.proofs.Common.{◌≡◌, ℕ, zero, suc, ◌+◌, ◌*◌, ◌<◌, Bool, true, List, [], ◌∷◌, map, length, slice_get, Option, Some, None, refl, sym, ap, ◌∙◌, subst, arith}
use Rattle.std.specs.List.{AllByRecursion}
use Rattle.std.proofs.lemmas.List.{length-map}
use mathlib.Core.Bool.{Bool-set}
use mathlib.Core.Logic.{∥∥₁_elim, ∥∥₁_map}
use denote.Struct.Props.{≡_prop}
use Rattle.flow_base.specs.Program.{Bytes, Program, paths_of}
use Rattle.heap_core.specs.Meaning.{AllFit}
use Rattle.heap_core.proofs.Lists.{get_there}
use Rattle.check_values.specs.declared.faults.Errs.{Errs}
use Rattle.check_values.specs.declared.root.RootRow.{RootRow}
use Rattle.check_values.specs.declared.root.Root.{Root}
use Rattle.check_values.specs.declared.signatures.Deps.{Deps}
use Rattle.check_values.specs.declared.signatures.Sig.{Sig}
use Rattle.export_counts.specs.source_front.specs.declared.parse.Parse.{Parse}
use Rattle.merged_signatures.specs.Chains.{View}
use Rattle.errors_by_reach.specs.Seen.{Sigs}
use Rattle.full_law.specs.program_check.specs.Full.{Results, AreResults, IsFull, view_in, sigs_in}
use Rattle.state_law.specs.payloads.specs.Entities.{parse_entity, deps_entity, signature_entity, errors_entity}
use Rattle.state_law.specs.payloads.specs.State.{program_of, IsRoot, fits, payload_in, payload_at}
use Rattle.state_law.specs.payloads.specs.contracts.payload.Payload as payload_type
use Rattle.state_law.specs.payloads.specs.declared.payload.Payload.{Payload}
use Rattle.state_law.specs.payloads.specs.declared.payload.Payload.TheVariants as payload
use Rattle.state_law.specs.payloads.proofs.Places.{stand_here}
use Rattle.recheck_staging.specs.result_parts.specs.Kinds.{is_parse, is_deps, is_sig, is_errs}
use Rattle.state_law.specs.Law.{IsCheckOf, EachStateHasACheck}
use Rattle.recheck_staging.specs.check_phases.specs.Phases.{results_by}
use Rattle.recheck_staging.specs.check_phases.proofs.Jobs.{zip_at}
use Rattle.recheck_staging.specs.check_phases.proofs.Lists.{one_value, within_there, zip_length}
use Rattle.committed_results.specs.Held.{is_root, IsOfKind, AreHeld}
use Rattle.committed_results.proofs.Parts.{HaveSize, results_many, results_get}

-- ---- the root of a state

pub is_root_first : (state : List Payload) → AllFit fits state → (x : Payload) → slice_get state 0 ≡ Some x → is_root x ≡ true
is_root_first state fit (payload.Root root) first = refl
is_root_first state fit payload.Absent first = absurd (fit payload.Absent first 0 payload.Absent first)
is_root_first state fit (payload.Parse parse) first = absurd (fit (payload.Parse parse) first 0 (payload.Parse parse) first)
is_root_first state fit (payload.Deps deps) first = absurd (fit (payload.Deps deps) first 0 (payload.Deps deps) first)
is_root_first state fit (payload.Sig sig) first = absurd (fit (payload.Sig sig) first 0 (payload.Sig sig) first)
is_root_first state fit (payload.Errs errs) first = absurd (fit (payload.Errs errs) first 0 (payload.Errs errs) first)

pub root_there : (state : List Payload) (root : Root) → AllFit fits state → slice_get state 0 ≡ Some (payload.Root root) → IsRoot (length state) root
root_there state root fit first = (fit (payload.Root root) first 0 (payload.Root root) first).0

-- ---- the modules of a check

-- beyond the root's entity, it is what the modules have
beyond : (root : Root) (results : List Results) (e : ℕ) → 0 < e → payload_at root results e ≡ payload_in root.modules results e
beyond root results zero low = absurd (omega (arith, low))
beyond root results (suc e) low = refl

module _ (paths : List Bytes) (view : View) (sigs : Sigs) where
  as_many : (program : Program) (results : List Results) → AreResults paths view sigs program results → length results ≡ length program
  as_many [] [] are = refl
  as_many [] (r ∷ results) are = absurd are
  as_many (m ∷ program) [] are = absurd are
  as_many (m ∷ program) (r ∷ results) are = ap suc (as_many program results are.1)

-- what stands at the four entities of a module with these results
pub record Stands (state : List Payload) (row : ℕ) (r : Results) : Type 0 where
  pub parse : (x : Payload) → slice_get state (parse_entity row) ≡ Some x → x ≡ payload.Parse r.parse
  pub deps : (x : Payload) → slice_get state (deps_entity row) ≡ Some x → x ≡ payload.Deps r.deps
  pub sig : (x : Payload) → slice_get state (signature_entity row) ≡ Some x → x ≡ payload.Sig r.sig
  pub errors : (x : Payload) → slice_get state (errors_entity row) ≡ Some x → x ≡ payload.Errs (record { faults = r.errors })

module _ (state : List Payload) (root : Root) (is_root : IsRoot (length state) root) (results : List Results) (check : IsCheckOf root state results) where
  pub many_results : length results ≡ length root.modules
  many_results = as_many (paths_of (program_of root)) (view_in (program_of root) results) (sigs_in (program_of root) results) (program_of root) results check.full ∙ length-map root.modules (λ (m : RootRow). (m.path, m.text))

  pub stands : (i : ℕ) (m : RootRow) (r : Results) → slice_get root.modules i ≡ Some m → slice_get results i ≡ Some r → Stands state m.row r
  stands i m r at_m at_r =
      let here = stand_here root.modules results i m r is_root.rows at_m at_r in
      record {
        parse = λ x at. check.stands (parse_entity m.row) x at ∙ (beyond root results (parse_entity m.row) (omega arith) ∙ here.parse);
        deps = λ x at. check.stands (deps_entity m.row) x at ∙ (beyond root results (deps_entity m.row) (omega arith) ∙ here.deps);
        sig = λ x at. check.stands (signature_entity m.row) x at ∙ (beyond root results (signature_entity m.row) (omega arith) ∙ here.sig);
        errors = λ x at. check.stands (errors_entity m.row) x at ∙ (beyond root results (errors_entity m.row) (omega arith) ∙ here.errors);
      }

  pub module_stands : (i : ℕ) (m : RootRow) → slice_get root.modules i ≡ Some m → (r : Results) × (slice_get results i ≡ Some r) × Stands state m.row r
  module_stands i m at_m =
      let r = get_there results i (let low = within_there root.modules i m at_m in let many = many_results in omega arith) in
      (r.0, r.1, stands i m r.0 at_m r.1)
