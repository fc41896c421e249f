-- The payloads at the entities of the modules are of the right kinds.
use Rattle.std.proofs.Common.{◌≡◌, ℕ, zero, suc, Bool, true, List, [], ◌∷◌, length, slice_get, Some, refl, ap, ◌∙◌}
use Rattle.std.specs.List.{AllByRecursion}
use mathlib.Core.Bool.{Bool-set}
use mathlib.Core.Logic.{∥∥₁_elim}
use Rattle.heap_core.specs.Meaning.{AllFit}
use Rattle.check_values.specs.declared.root.RootRow.{RootRow}
use Rattle.check_values.specs.declared.root.Root.{Root}
use Rattle.full_law.specs.program_check.specs.Full.{Results}
use Rattle.state_law.specs.payloads.specs.Entities.{parse_entity, deps_entity, signature_entity, errors_entity}
use Rattle.state_law.specs.payloads.specs.State.{fits}
use Rattle.state_law.specs.payloads.specs.declared.payload.Payload.{Payload}
use Rattle.state_law.specs.payloads.specs.declared.payload.Payload.TheVariants as payload
use Rattle.recheck_staging.specs.result_parts.specs.Kinds.{is_parse, is_deps, is_sig, is_errs}
use Rattle.state_law.specs.Law.{IsCheckOf, EachStateHasACheck}
use Rattle.committed_results.specs.Held.{IsOfKind}
use Rattle.committed_results.proofs.Standing.{Stands, root_there, module_stands}

-- what holds at each place holds of all
all_by : {X : Type 0} (P : X → Type 0) (xs : List X) → ((i : ℕ) (x : X) → slice_get xs i ≡ Some x → P x) → AllByRecursion P xs
all_by P [] each = tt
all_by P (x ∷ xs) each = (each 0 x refl, all_by P xs (λ i y at. each (suc i) y at))

module _ (checks : EachStateHasACheck) (state : List Payload) (root : Root) (fit : AllFit fits state) (first : slice_get state 0 ≡ Some (payload.Root root)) where
  -- whatever a full check gives it, it has this kind
  one_kind : (is_of : Payload → Bool) (place : ℕ → ℕ) → ((row : ℕ) (r : Results) (x : Payload) → Stands state row r → slice_get state (place row) ≡ Some x → is_of x ≡ true)
      → AllByRecursion (λ m. IsOfKind is_of state (place m.row)) root.modules
  one_kind is_of place each =
      all_by (λ (m : RootRow). IsOfKind is_of state (place m.row)) root.modules
      (λ i m at_m x at.
      ∥∥₁_elim (checks root state first fit) (Bool-set (is_of x) true) (λ (some : (results : List Results) × IsCheckOf root state results).
      let there = module_stands state root (root_there state root fit first) some.0 some.1 i m at_m in
      each m.row there.0 x there.2 at))

  pub parse_kinds : AllByRecursion (λ m. IsOfKind is_parse state (parse_entity m.row)) root.modules
  parse_kinds = one_kind is_parse parse_entity (λ row r x there at. ap is_parse (there.parse x at))

  pub deps_kinds : AllByRecursion (λ m. IsOfKind is_deps state (deps_entity m.row)) root.modules
  deps_kinds = one_kind is_deps deps_entity (λ row r x there at. ap is_deps (there.deps x at))

  pub sig_kinds : AllByRecursion (λ m. IsOfKind is_sig state (signature_entity m.row)) root.modules
  sig_kinds = one_kind is_sig signature_entity (λ row r x there at. ap is_sig (there.sig x at))

  pub errs_kinds : AllByRecursion (λ m. IsOfKind is_errs state (errors_entity m.row)) root.modules
  errs_kinds = one_kind is_errs errors_entity (λ row r x there at. ap is_errs (there.errors x at))
