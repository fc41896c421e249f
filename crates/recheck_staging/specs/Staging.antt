-- What a recheck stages, and the state that it comes to.
use Rattle.std.specs.Prelude.{◌≡◌, ℕ, ◌<◌, Bool, false, List, [], ◌∷◌, ◌++◌, length, slice_get, Some, if◌then◌else◌}
use Rattle.std.specs.List.{flat_map}
use Rattle.check_values.specs.declared.root.RootRow.{RootRow}
use Rattle.check_values.specs.declared.root.Root.{Root}
use Rattle.check_phases.specs.payloads.specs.Entities.{parse_entity, deps_entity, signature_entity, errors_entity}
use Rattle.check_phases.specs.payloads.specs.State.{payload_at}
use Rattle.check_phases.specs.payloads.specs.declared.payload.Payload.{Payload}
use Rattle.check_phases.specs.payloads.specs.declared.payload.Payload.TheVariants as payload
use Rattle.check_phases.specs.Phases.{results_by}
use Rattle.check_phases.specs.declared.phases.Made.{Made}
use Rattle.edited_root.specs.From.{freed_from}
use Rattle.recheck_staging.specs.declared.staging.Anew.{Anew}

-- an entity with its new payload
abbrev pub Change : Type 0
Change = ℕ × Payload

-- one result of the module of a row, where its flag is on
abbrev pub flagged_one : {X : Type 0} → (ℕ → ℕ) → (X → Payload) → ℕ → X → Bool → List Change
flagged_one place put row x flag = if flag then (place row, put x) ∷ [] else []

-- the results of one kind of the modules whose flag is on, in order
abbrev pub flagged : {X : Type 0} → (ℕ → ℕ) → (X → Payload) → List RootRow → List X → List Bool → List Change
flagged place put (m ∷ ms) (x ∷ xs) (flag ∷ flags) = flagged_one place put m.row x flag ++ flagged place put ms xs flags
flagged place put ms xs flags = []

-- nothing at the entities of a row, and of some rows
abbrev pub vacated_row : ℕ → List Change
vacated_row row = (parse_entity row, payload.Absent) ∷ (deps_entity row, payload.Absent) ∷ (signature_entity row, payload.Absent) ∷ (errors_entity row, payload.Absent) ∷ []

abbrev pub vacated : List ℕ → List Change
vacated rows = flat_map vacated_row rows

-- the results of all four kinds that were made anew
abbrev pub parts_of : Made → Anew → List Change
parts_of made anew =
    flagged parse_entity payload.Parse made.sources.root.modules made.sources.parses.items anew.fresh.items
    ++ (flagged deps_entity payload.Deps made.sources.root.modules made.sources.lists.items anew.relisted.items
    ++ (flagged signature_entity payload.Sig made.sources.root.modules made.signatures.items anew.moved.items
    ++ flagged errors_entity payload.Errs made.sources.root.modules made.errors.items anew.checked.items))

-- What is staged: the root, what was made anew, and nothing at the freed rows.
abbrev pub changes_of : Made → Anew → List ℕ → List Change
changes_of made anew freed = (0, payload.Root made.sources.root) ∷ (parts_of made anew ++ vacated freed)

-- the state by all results
abbrev pub state_of : Made → ℕ → Payload
state_of made = payload_at made.sources.root (results_by made.sources.parses.items made.sources.lists.items made.signatures.items made.errors.items)

-- this state stands at each entity
abbrev pub HasState : (ℕ → Payload) → List Payload → Type 0
HasState at latest = (e : ℕ) → e < length latest → slice_get latest e ≡ Some (at e)

-- what was not made anew is what is committed at its entity; there are as many results, and flags, as modules
abbrev pub AreKept : {X : Type 0} → List Payload → (ℕ → ℕ) → (X → Payload) → List RootRow → List X → List Bool → Type 0
AreKept committed place put [] [] [] = Unit {0}
AreKept committed place put (m ∷ ms) (x ∷ xs) (flag ∷ flags) = (flag ≡ false → slice_get committed (place m.row) ≡ Some (put x)) × AreKept committed place put ms xs flags
AreKept committed place put ms xs flags = ⊥

-- and so for each kind
pub record KeepsTheRest (committed : List Payload) (made : Made) (anew : Anew) : Type 0 where
  pub parses : AreKept committed parse_entity payload.Parse made.sources.root.modules made.sources.parses.items anew.fresh.items
  pub lists : AreKept committed deps_entity payload.Deps made.sources.root.modules made.sources.lists.items anew.relisted.items
  pub signatures : AreKept committed signature_entity payload.Sig made.sources.root.modules made.signatures.items anew.moved.items
  pub errors : AreKept committed errors_entity payload.Errs made.sources.root.modules made.errors.items anew.checked.items

-- these are the rows of the committed root that the new one doesn't use
abbrev pub Frees : List Payload → Root → List ℕ → Type 0
Frees committed new freed = (old : Root) → slice_get committed 0 ≡ Some (payload.Root old) → freed ≡ freed_from old new

-- there are as many results, and flags, as modules
pub record HaveSizes (made : Made) (anew : Anew) : Type 0 where
  pub parses : length made.sources.parses.items ≡ length made.sources.root.modules
  pub lists : length made.sources.lists.items ≡ length made.sources.root.modules
  pub signatures : length made.signatures.items ≡ length made.sources.root.modules
  pub errors : length made.errors.items ≡ length made.sources.root.modules
  pub fresh : length anew.fresh.items ≡ length made.sources.root.modules
  pub relisted : length anew.relisted.items ≡ length made.sources.root.modules
  pub moved : length anew.moved.items ≡ length made.sources.root.modules
  pub checked : length anew.checked.items ≡ length made.sources.root.modules
