-- Reach by names: from each module that is found, along the names in merged signatures.
use Rattle.std.specs.Prelude.{◌≡◌, ◌≢◌, ◌↔◌, Bool, true, List, Some}
use Rattle.flow_base.specs.Program.{Bytes, Program}
use Rattle.check_values.specs.Rows.{is_among}
use Rattle.check_values.specs.declared.signatures.Deps.{Deps}
use Rattle.check_values.specs.declared.signatures.Sig.{Sig}
use Rattle.merged_signatures.specs.Chains.{found}
use Rattle.merged_signatures.specs.Reach.{Reach, paths_named}
use Rattle.errors_by_reach.specs.Seen.{Sigs}
use Rattle.errors_by_reach.specs.Law.{Agree}
use Rattle.affected_law.specs.program_check.specs.Full.{Results, sigs_in}
use Rattle.affected_law.specs.Affected.{results_at, Differs, Parsed, Checked}

-- a specifier of the list finds the path
abbrev pub IsFound : Deps → Bytes → Type 0
IsFound deps path = (spec : Bytes) × (found deps spec ≡ Some path)

-- the merged signature of one path names the other
abbrev pub Names : Sigs → Bytes → Bytes → Type 0
Names sigs path other = (s : Sig) × (sigs path ≡ Some s) × (is_among (paths_named s) other ≡ true)

-- zero or more names lead from one path to the other
pub data LeadsByNames (sigs : Sigs) (start : Bytes) : Bytes → Type 0 where
  itself : LeadsByNames sigs start start
  further : (path other : Bytes) → LeadsByNames sigs start path → Names sigs path other → LeadsByNames sigs start other

-- A module reaches exactly the paths to which one that it finds leads by names.
abbrev pub ReachIsByNames : Type 0
ReachIsByNames = (sigs : Sigs) (deps : Deps) (other : Bytes) → Reach sigs deps other ↔ ((first : Bytes) × IsFound deps first × LeadsByNames sigs first other)

-- each path to which one leads by names has the signature that others tell
abbrev pub KeepsNames : Sigs → Sigs → Bytes → Type 0
KeepsNames others sigs path = (other : Bytes) → LeadsByNames sigs path other → others other ≡ sigs other

-- Signatures agree where a module reaches exactly where each path that it finds keeps all to which it leads by names.
abbrev pub AgreeIsByNames : Type 0
AgreeIsByNames = (sigs others : Sigs) (deps : Deps) → Agree sigs deps others ↔ ((first : Bytes) → IsFound deps first → KeepsNames others sigs first)

-- Marks that no name leaves keep the names, where the signature of each that is marked is what it was.
abbrev pub MarksKeepNames : Type 0
MarksKeepNames =
    (others sigs : Sigs) (marked : Bytes → Bool) → ((path other : Bytes) → marked path ≡ true → Names sigs path other → marked other ≡ true)
    → ((path : Bytes) → marked path ≡ true → others path ≡ sigs path) → (path : Bytes) → marked path ≡ true → KeepsNames others sigs path

module _ (old new : Program) (before after : List Results) where
  -- a path that leads by names to one of which the merged signature is new or differs
  abbrev pub LeadsToMoved : Bytes → Type 0
  LeadsToMoved path = (other : Bytes) × LeadsByNames (sigs_in new after) path other × Differs (sigs_in old before) (sigs_in new after) other

  -- The paths that are new, or of which the bytes or the dependency list differ, or that find one which leads by names to one of which
  -- the merged signature is new or differs.
  pub data CheckedByNames (path : Bytes) : Type 0 where
    text_differs : Parsed old new path → CheckedByNames path
    deps_differ : (r s : Results) → results_at old before path ≡ Some r → results_at new after path ≡ Some s → s.deps ≢ r.deps → CheckedByNames path
    finds_moved : (s : Results) (first : Bytes) → results_at new after path ≡ Some s → IsFound s.deps first → LeadsToMoved first → CheckedByNames path

-- These are the checked paths: one search back from the moved signatures along names, and one step back along dependency lists.
abbrev pub CheckedIsByNames : Type 0
CheckedIsByNames = (old new : Program) (before after : List Results) (path : Bytes) → Checked old new before after path ↔ CheckedByNames old new before after path
