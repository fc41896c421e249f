-- What the entities of one version hold: the full check of one program.
use Rattle.std.specs.Prelude.{◌≡◌, ◌≢◌, ◌<◌, ◌==◌, ℕ, zero, suc, List, [], ◌∷◌, map, if◌then◌else◌}
use Rattle.std.specs.List.{AllByRecursion, AllByRecursion-prop}
use Rattle.std.specs.Ordering.{Ordering-set}
use Rattle.std.proofs.Math.Bridge.{le_prop}
use Rattle.flow_base.specs.Program.{Bytes, Program, IsRising, paths_of}
use Rattle.check_values.specs.declared.root.RootRow.{RootRow}
use Rattle.check_values.specs.declared.root.Root.{Root}
use Rattle.program_check.specs.Full.{Results, IsFull}
use Rattle.payloads.specs.Entities.{parse_entity, deps_entity, signature_entity, errors_entity}
use Rattle.payloads.specs.declared.payload.Payload.{Payload}
use Rattle.payloads.specs.declared.payload.Payload.TheVariants as payload

-- the program that a root names
abbrev pub program_of : Root → Program
program_of root = map (λ m. (m.path, m.text)) root.modules

-- each row differs from those of the later modules
abbrev pub HaveOwnRows : List RootRow → Type 0
HaveOwnRows [] = Unit {0}
HaveOwnRows (m ∷ ms) = AllByRecursion (λ n. m.row ≢ n.row) ms × HaveOwnRows ms

-- a root of a heap with this many entities
pub record IsRoot (entities : ℕ) (root : Root) : Type 0 where
  pub rising : IsRising (paths_of (program_of root))
  pub rows : HaveOwnRows root.modules
  pub room : AllByRecursion (λ m. errors_entity m.row < entities) root.modules

-- what the results of the module of a row put at an entity, and elsewhere what stands there
abbrev pub result_at : ℕ → Results → ℕ → Payload → Payload
result_at row r e other =
    if e == parse_entity row then payload.Parse r.parse else
    if e == deps_entity row then payload.Deps r.deps else
    if e == signature_entity row then payload.Sig r.sig else
    if e == errors_entity row then payload.Errs (record { faults = r.errors }) else other

-- what stands at an entity that isn't the root's, by the results of all modules: nothing, where it is none's
abbrev pub payload_in : List RootRow → List Results → ℕ → Payload
payload_in (m ∷ ms) (r ∷ rs) e = result_at m.row r e (payload_in ms rs e)
payload_in ms rs e = payload.Absent

-- what stands at an entity, where the root is this one
abbrev pub payload_at : Root → List Results → ℕ → Payload
payload_at root results zero = payload.Root root
payload_at root results (suc e) = payload_in root.modules results (suc e)

-- a full check of the root's program puts this payload at the entity
abbrev pub StandsIn : Root → ℕ → Payload → Type 0
StandsIn root e x = (results : List Results) × IsFull (program_of root) results × (x ≡ payload_at root results e)

-- In a heap of so many entities with this root, this payload may stand at an entity.
abbrev pub fits : ℕ → Payload → ℕ → Payload → Type 0
fits entities (payload.Root root) e x = IsRoot entities root × ∥ StandsIn root e x ∥₁
fits entities other e x = ⊥

-- ---- a payload fits in one way at most

IsRising-once : (paths : List Bytes) → IsProp (IsRising paths)
IsRising-once [] = hlevel
IsRising-once (path ∷ []) = hlevel
IsRising-once (path ∷ next ∷ more) = let more_once : IsProp (IsRising (next ∷ more)) = IsRising-once (next ∷ more) in hlevel (more_once, Ordering-set)

HaveOwnRows-once : (ms : List RootRow) → IsProp (HaveOwnRows ms)
HaveOwnRows-once [] = hlevel
HaveOwnRows-once (m ∷ ms) =
    let here : IsProp (AllByRecursion (λ n. m.row ≢ n.row) ms) = AllByRecursion-prop (λ n. m.row ≢ n.row) (λ n. hlevel) ms in
    let later : IsProp (HaveOwnRows ms) = HaveOwnRows-once ms in
    hlevel (here, later)

IsRoot-once : (entities : ℕ) (root : Root) → IsProp (IsRoot entities root)
IsRoot-once entities root =
    let rising = IsRising-once (paths_of (program_of root)) in
    let rows = HaveOwnRows-once root.modules in
    let room : IsProp (AllByRecursion (λ m. errors_entity m.row < entities) root.modules) = AllByRecursion-prop (λ m. errors_entity m.row < entities) (λ m. le_prop) root.modules in
    hlevel (rising, rows, room)

pub fits_once : (entities : ℕ) (root : Payload) (e : ℕ) (x : Payload) → IsProp (fits entities root e x)
fits_once entities payload.Absent e x = hlevel
fits_once entities (payload.Parse parse) e x = hlevel
fits_once entities (payload.Deps deps) e x = hlevel
fits_once entities (payload.Sig sig) e x = hlevel
fits_once entities (payload.Errs errs) e x = hlevel
fits_once entities (payload.Root root) e x = let once = IsRoot-once entities root in hlevel once
