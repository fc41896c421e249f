-- What the members of a job ask of modules outside, and the job with that alone.
use Rattle.std.specs.Prelude.{ℕ, Bool, true, ◌&&◌, nat_le, List, [], ◌∷◌, ◌++◌, map, length, Option, Some, None, if◌then◌else◌}
use Rattle.std.specs.List.{flat_map}
use Rattle.std.specs.Str.{bytes_eq}
use Rattle.flow_values.specs.Path.{IsRising}
use Rattle.check_values.specs.Rows.{Bytes, Rows, row_at}
use Rattle.check_values.specs.declared.signatures.Origin.{Origin}
use Rattle.check_values.specs.declared.signatures.Origin.TheVariants as origin
use Rattle.check_values.specs.declared.signatures.ImportRow.{ImportRow}
use Rattle.check_values.specs.declared.signatures.Deps.{Deps}
use Rattle.check_values.specs.declared.signatures.Export.{Export}
use Rattle.check_values.specs.declared.signatures.Sig.{Sig}
use Rattle.type_names.specs.Names.{Name}
use Rattle.merged_signatures.specs.Chains.{Known, found}
use Rattle.merged_signatures.specs.Job.{Job}

-- a name of the module that was found, if one was
abbrev pub asked_name : Option Bytes → Bytes → List Name
asked_name None name = []
asked_name (Some path) name = (path, name) ∷ []

-- the name to which an export leads
abbrev pub asked_by_origin : Deps → Origin → List Name
asked_by_origin deps (origin.Import spec name is_type) = asked_name (found deps spec) name
asked_by_origin deps o = []

-- an export's own name, since a module outside may hide its module, and the name to which it leads
abbrev pub asked_by_export : Bytes → Deps → Bytes × Origin → List Name
asked_by_export path deps row = (path, row.0) ∷ asked_by_origin deps row.1

-- the name that an import stands for
abbrev pub asked_by_import : Deps → ImportRow → List Name
asked_by_import deps row = asked_name (found deps row.spec) row.name

abbrev pub asked_by_member : Bytes × Known → List Name
asked_by_member (path, m) = flat_map (asked_by_export path m.deps) m.sig.exports ++ flat_map (asked_by_import m.deps) m.sig.imports

-- all names that a job asks for
abbrev pub asked : Job → List Name
asked job = flat_map asked_by_member job.members

-- those of one module
abbrev pub name_of : Bytes → Name → List Bytes
name_of path n = if bytes_eq n.0 path then n.1 ∷ [] else []

abbrev pub asked_of : List Name → Bytes → List Bytes
asked_of names path = flat_map (name_of path) names

-- ---- a signature with the rows that are asked for

abbrev pub names_rise : Rows Export → Type 0
names_rise exports = IsRising (map (λ row. row.0) exports)

-- the row of a name, if there is one
abbrev pub row_with : Bytes → Option Export → Rows Export
row_with name None = []
row_with name (Some e) = (name, e) ∷ []

abbrev pub row_of : Rows Export → Bytes → Rows Export
row_of exports name = row_with name (row_at exports name)

abbrev pub rows_of : Rows Export → List Bytes → Rows Export
rows_of exports names = flat_map (row_of exports) names

-- at most so many exports are handed on whole
abbrev pub FEW : ℕ
FEW = 32

abbrev pub is_small : Sig → Bool
is_small s = nat_le (length s.exports) FEW

-- merging looks at no aliases of modules outside
abbrev pub cut : List Bytes → Sig → Sig
cut names s = if is_small s then s else record { broken = s.broken; exports = rows_of s.exports names; aliases = [] }

-- nothing is asked of a path any more
abbrev pub without : Bytes → (Bytes → List Bytes) → Bytes → List Bytes
without path names q = if bytes_eq path q then [] else names q

-- of signatures under one path the first is asked
abbrev pub cut_all : (Bytes → List Bytes) → Rows Sig → Rows Sig
cut_all names [] = []
cut_all names (row ∷ rows) = (row.0, cut (names row.0) row.1) ∷ cut_all (without row.0 names) rows

abbrev pub are_small : Rows Sig → Bool
are_small [] = true
are_small (row ∷ rows) = is_small row.1 && are_small rows

-- the job with what it asks for
abbrev pub asked_job : Job → Job
asked_job job = record { members = job.members; outside = cut_all (asked_of (asked job)) job.outside }
