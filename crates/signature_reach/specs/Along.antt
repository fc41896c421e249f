-- The merged signatures of the modules that a module reaches, looked for along names.
use Rattle.std.specs.Prelude.{◌≡◌, ◌≤◌, ◌<◌, ◌+◌, ◌++◌, ℕ, true, List, [], ◌∷◌, length, slice_get, Some, option_to_list, if◌then◌else◌}
use Rattle.std.specs.List.{AllByRecursion, flat_map}
use Rattle.std.specs.BTreeSet.{BTreeSet, contains}
use Rattle.std.specs.Cmp.Lexicographic.{slice_cmp}
use Rattle.std.specs.Ordering.{nat_cmp}
use Rattle.check_values.specs.Rows.{Bytes, Rows, row_at}
use Rattle.check_values.specs.declared.root.RootRow.{RootRow}
use Rattle.check_values.specs.declared.signatures.Deps.{Deps}
use Rattle.check_values.specs.declared.signatures.Sig.{Sig}
use Rattle.merged_signatures.specs.Reach.{paths_named}
use Rattle.errors_by_reach.specs.Law.{Agree}
use Rattle.errors_by_reach.specs.Seen.{Sigs}

-- the signatures of modules by their paths
abbrev pub signed : List RootRow → List Sig → Rows Sig
signed [] sigs = []
signed (m ∷ ms) [] = []
signed (m ∷ ms) (s ∷ sigs) = (m.path, s) ∷ signed ms sigs

-- some rows say of a path what all signatures do
abbrev pub IsMet : Sigs → Rows Sig → Bytes → Type 0
IsMet sigs rows path = row_at rows path ≡ sigs path

abbrev pub AreMet : Sigs → Rows Sig → List Bytes → Type 0
AreMet sigs rows paths = AllByRecursion (IsMet sigs rows) paths

-- Rows that were found so far say what all do, and so they do of each path that was looked at.
pub record Knows (sigs : Sigs) (seen : BTreeSet Bytes) (rows : Rows Sig) : Type 0 where
  pub sound : (path : Bytes) (s : Sig) → row_at rows path ≡ Some s → sigs path ≡ Some s
  pub met : (path : Bytes) → contains (slice_cmp nat_cmp) seen path ≡ true → IsMet sigs rows path

-- how many of the modules at these paths were not looked at yet
abbrev pub unseen : BTreeSet Bytes → List Bytes → ℕ
unseen seen [] = 0
unseen seen (p ∷ ps) = (if contains (slice_cmp nat_cmp) seen p then 0 else 1) + unseen seen ps

-- Some paths were looked at: rows came behind those before, each for a module that was not looked at yet.
pub record Grows (sigs : Sigs) (modules : List Bytes) (seen : BTreeSet Bytes) (rows : Rows Sig) (later : BTreeSet Bytes) (more : Rows Sig) : Type 0 where
  pub known : Knows sigs later more
  pub behind : (added : Rows Sig) × (more ≡ rows ++ added)
  pub stays : (path : Bytes) → IsMet sigs rows path → IsMet sigs more path
  pub left : length more + unseen later modules ≤ length rows + unseen seen modules

-- the modules that the first rows name were looked at
abbrev pub IsClosedTo : Sigs → Rows Sig → ℕ → Type 0
IsClosedTo sigs rows n = (i : ℕ) (row : Bytes × Sig) → i < n → slice_get rows i ≡ Some row → AreMet sigs rows (paths_named row.1)

-- and so those that any row names
abbrev pub IsClosed : Sigs → Rows Sig → Type 0
IsClosed sigs rows = IsClosedTo sigs rows (length rows)

-- these are the modules that the row at a place names
abbrev pub AreNamedAt : Rows Sig → ℕ → List Bytes → Type 0
AreNamedAt rows at named = (row : Bytes × Sig) → slice_get rows at ≡ Some row → named ≡ paths_named row.1

-- the modules that the specifiers of a dependency list find
abbrev pub starts_of : Deps → List Bytes
starts_of deps = flat_map (λ row. option_to_list row.found) deps.rows

-- the modules that the first of these numbers' specifiers find were looked at, by the dependency list of each number
abbrev pub AreStartedTo : Sigs → Rows Sig → List Deps → List ℕ → ℕ → Type 0
AreStartedTo sigs rows lists numbers n = (i x : ℕ) (deps : Deps) → i < n → slice_get numbers i ≡ Some x → slice_get lists x ≡ Some deps → AreMet sigs rows (starts_of deps)

-- and so those of all of them
abbrev pub AreStarted : Sigs → Rows Sig → List Deps → List ℕ → Type 0
AreStarted sigs rows lists numbers = AreStartedTo sigs rows lists numbers (length numbers)

-- other signatures say the same as these where the modules of some numbers reach, each by its dependency list
abbrev pub AgreeForAll : Sigs → List Deps → List ℕ → Sigs → Type 0
AgreeForAll sigs lists numbers others = (i x : ℕ) (deps : Deps) → slice_get numbers i ≡ Some x → slice_get lists x ≡ Some deps → Agree sigs deps others
