-- What stands in a lawful state: the full check of its program.
use Rattle.std.proofs.Common.{◌≡◌, ℕ, zero, suc, ◌^◌, ◌<◌, List, [], ◌∷◌, length, slice_get, Some, None, refl, ap, ◌∙◌, subst, arith}
use Rattle.std.specs.List.{AllByRecursion}
use denote.Struct.Props.{≡_prop}
use mathlib.Core.Logic.{∥∥₁_elim}
use Rattle.std.proofs.lemmas.Option.{none-some, same_Some}
use Rattle.flow_base.specs.Program.{Bytes, Program}
use Rattle.heap_core.proofs.Lists.{get_there}
use Rattle.heap_core.specs.Meaning.{AllFit}
use Rattle.check_values.specs.declared.root.RootRow.{RootRow}
use Rattle.check_values.specs.declared.root.Root.{Root}
use Rattle.merged_signatures.specs.Chains.{View}
use Rattle.errors_by_reach.specs.Seen.{Sigs}
use Rattle.payloads.specs.program_check.specs.Full.{Results, AreResults, IsFull}
use Rattle.payloads.specs.program_check.specs.Law.{Alike, AllAlike, OneFull}
use Rattle.payloads.specs.Entities.{deps_entity, signature_entity, errors_entity}
use Rattle.payloads.specs.State.{program_of, IsRoot, fits, payload_at, payload_in, StandsIn}
use Rattle.payloads.proofs.Places.{stand_here}
use Rattle.payloads.specs.contracts.payload.Payload as payload_type
use Rattle.payloads.specs.declared.payload.Payload.{Payload}
use Rattle.payloads.specs.declared.payload.Payload.TheVariants as payload
use Rattle.heap_answers.specs.States.{modules_of, modules_in, program_in, HasPlace}

-- ---- the state's root

-- a lawful state
abbrev pub IsLawful : List Payload → Type 0
IsLawful state = (0 < length state) × AllFit fits state

-- its root is one
pub record HasRoot (state : List Payload) (root : Root) : Type 0 where
  pub first : slice_get state 0 ≡ Some (payload.Root root)
  pub is_root : IsRoot (length state) root
  pub fit : (e : ℕ) (x : Payload) → slice_get state e ≡ Some x → ∥ StandsIn root e x ∥₁

pub root_of : (state : List Payload) → IsLawful state → (x : Payload) → slice_get state 0 ≡ Some x → (root : Root) × (x ≡ payload.Root root) × HasRoot state root
root_of state fit payload.Absent first = absurd (fit.1 payload.Absent first 0 payload.Absent first)
root_of state fit (payload.Parse parse) first = absurd (fit.1 (payload.Parse parse) first 0 (payload.Parse parse) first)
root_of state fit (payload.Deps deps) first = absurd (fit.1 (payload.Deps deps) first 0 (payload.Deps deps) first)
root_of state fit (payload.Sig sig) first = absurd (fit.1 (payload.Sig sig) first 0 (payload.Sig sig) first)
root_of state fit (payload.Errs errs) first = absurd (fit.1 (payload.Errs errs) first 0 (payload.Errs errs) first)
root_of state fit (payload.Root root) first =
    (root, refl, record { first = first; is_root = (fit.1 (payload.Root root) first 0 (payload.Root root) first).0; fit = λ e x at. (fit.1 (payload.Root root) first e x at).1 })

pub modules_there : (state : List Payload) (root : Root) → HasRoot state root → modules_in state ≡ root.modules
modules_there state root has = ap (λ o. elim o [ Some x ↦ modules_of x | None ↦ [] ]) has.first

pub program_there : (state : List Payload) (root : Root) → HasRoot state root → program_in state ≡ program_of root
program_there state root has = ap (λ ms. program_of (record { modules = ms })) (modules_there state root has)

-- the modules' entities have places
all_placed : (state : List Payload) (ms : List RootRow) → length state < 2 ^ 32 → AllByRecursion (λ m. errors_entity m.row < length state) ms → AllByRecursion (HasPlace state) ms
all_placed state [] few room = tt
all_placed state (m ∷ ms) few room = let here = room.0 in (record { numbered = omega (arith, here, few); within = here }, all_placed state ms few room.1)

pub placed : (state : List Payload) (root : Root) → length state < 2 ^ 32 → HasRoot state root → AllByRecursion (HasPlace state) root.modules
placed state root few has = all_placed state root.modules few has.is_root.room

-- ---- one module

pub all_at : {X : Type 0} (P : X → Type 0) (xs : List X) (i : ℕ) (x : X) → AllByRecursion P xs → slice_get xs i ≡ Some x → P x
all_at P [] i x all at = absurd (none-some x at)
all_at P (y ∷ xs) zero x all at = subst P (same_Some y x at) all.0
all_at P (y ∷ xs) (suc i) x all at = all_at P xs i x all.1 at

-- where two full checks are alike, so is what stands at a place
alike_there : (a b : List Results) (i : ℕ) (r : Results) → AllAlike a b → slice_get b i ≡ Some r → (s : Results) × (slice_get a i ≡ Some s) × Alike s r
alike_there [] [] i r alike at = absurd (none-some r at)
alike_there [] (z ∷ b) i r alike at = absurd alike
alike_there (y ∷ a) [] i r alike at = absurd alike
alike_there (y ∷ a) (z ∷ b) zero r alike at = (y, refl, subst (λ s. Alike y s) (same_Some z r at) alike.0)
alike_there (y ∷ a) (z ∷ b) (suc i) r alike at = alike_there a b i r alike.1 at

-- beyond the root's entity, it is what the modules have
beyond : (root : Root) (results : List Results) (e : ℕ) → 0 < e → payload_at root results e ≡ payload_in root.modules results e
beyond root results zero low = absurd (omega arith)
beyond root results (suc e) low = refl

-- what stands at the entities of a module with these results
pub record Holds (state : List Payload) (m : RootRow) (r : Results) : Type 0 where
  pub deps : slice_get state (deps_entity m.row) ≡ Some (payload.Deps r.deps)
  pub sig : slice_get state (signature_entity m.row) ≡ Some (payload.Sig r.sig)
  pub errors : slice_get state (errors_entity m.row) ≡ Some (payload.Errs (record { faults = r.errors }))

-- and of each module, in order
abbrev pub AllHold : List Payload → List RootRow → List Results → Type 0
AllHold state [] [] = Unit {0}
AllHold state (m ∷ ms) (r ∷ rs) = Holds state m r × AllHold state ms rs
AllHold state ms rs = ⊥

all_hold : (state : List Payload) (ms : List RootRow) (rs : List Results) → length rs ≡ length ms → ((i : ℕ) (m : RootRow) (r : Results) → slice_get ms i ≡ Some m → slice_get rs i ≡ Some r → Holds state m r) → AllHold state ms rs
all_hold state [] [] same each = tt
all_hold state [] (r ∷ rs) same each = absurd (omega (arith, same))
all_hold state (m ∷ ms) [] same each = absurd (omega (arith, same))
all_hold state (m ∷ ms) (r ∷ rs) same each = (each 0 m r refl refl, all_hold state ms rs (omega (arith, same)) (λ i n s at of. each (suc i) n s at of))

-- there are results for each module
as_many : (paths : List Bytes) (view : View) (sigs : Sigs) (program : Program) (results : List Results) → AreResults paths view sigs program results → length results ≡ length program
as_many paths view sigs [] [] are = refl
as_many paths view sigs [] (r ∷ results) are = absurd are
as_many paths view sigs (m ∷ program) [] are = absurd are
as_many paths view sigs (m ∷ program) (r ∷ results) are = ap (λ n. suc n) (as_many paths view sigs program results are.1)

many_in : (ms : List RootRow) → length (program_of (record { modules = ms })) ≡ length ms
many_in [] = refl
many_in (m ∷ ms) = ap (λ n. suc n) (many_in ms)

module _ (one : OneFull) (state : List Payload) (root : Root) (has : HasRoot state root) (results : List Results) (full : IsFull (program_of root) results) where
  -- what stands at an entity is what every full check puts there
  entity : (e : ℕ) (value : Payload) → e < length state → ((stood : List Results) → IsFull (program_of root) stood → payload_at root stood e ≡ value) → slice_get state e ≡ Some value
  entity e value within is =
      let at = get_there state e within in
      at.1 ∙ ap Some (∥∥₁_elim (has.fit e at.0 at.1) (≡_prop payload_type.the_row.coded at.0 value) (λ (stood : StandsIn root e at.0). stood.2 ∙ is stood.0 stood.1))

  holds : (i : ℕ) (m : RootRow) (r : Results) → slice_get root.modules i ≡ Some m → slice_get results i ≡ Some r → Holds state m r
  holds i m r at of =
      let room = all_at (λ (n : RootRow). errors_entity n.row < length state) root.modules i m has.is_root.room at in
      let same = λ (stood : List Results) (also : IsFull (program_of root) stood). alike_there stood results i r (one (program_of root) stood results also full) of in
      record {
        deps = entity (deps_entity m.row) (payload.Deps r.deps) (omega (arith, room)) (λ stood also.
            let s = same stood also in
            beyond root stood (deps_entity m.row) (omega arith) ∙ (stand_here root.modules stood i m s.0 has.is_root.rows at s.1).deps ∙ ap payload.Deps s.2.deps);
        sig = entity (signature_entity m.row) (payload.Sig r.sig) (omega (arith, room)) (λ stood also.
            let s = same stood also in
            beyond root stood (signature_entity m.row) (omega arith) ∙ (stand_here root.modules stood i m s.0 has.is_root.rows at s.1).sig ∙ ap payload.Sig s.2.sig);
        errors = entity (errors_entity m.row) (payload.Errs (record { faults = r.errors })) room (λ stood also.
            let s = same stood also in
            beyond root stood (errors_entity m.row) (omega arith) ∙ (stand_here root.modules stood i m s.0 has.is_root.rows at s.1).errors ∙ ap (λ faults. payload.Errs (record { faults = faults })) s.2.errors);
      }

  pub each_holds : AllHold state root.modules results
  each_holds = all_hold state root.modules results (as_many _ _ _ (program_of root) results full ∙ many_in root.modules) holds
