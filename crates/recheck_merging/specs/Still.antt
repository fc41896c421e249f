-- What an edit leaves as it was: which components of a wave have their old signatures, and which are merged anew.
use Rattle.std.specs.Prelude.{◌≡◌, ◌↔◌, ◌&&◌, ℕ, Bool, IsTrue, true, false, not, is_some, filter, List, [], ◌∷◌, length, get_or, slice_get, Option, Some, None}
use Rattle.std.specs.List.{list_all}
use Rattle.flow_base.specs.Program.{Bytes}
use Rattle.check_values.specs.declared.signatures.Sig.{Sig}
use Rattle.graph_search.specs.Cycles.{IsOn}
use Rattle.graph_search.specs.Components.{StandsIn}
use Rattle.merged_signatures.specs.Merged.{merged}
use Rattle.path_numbers.specs.affected_sizes.specs.Polls.{IsImport}
use Rattle.recheck_plan.specs.Marks.{AreMarksOf}
use Rattle.check_phases.specs.Sourced.{paths_in, view_in, AreSources}
use Rattle.check_phases.specs.Whole.{AreMade}
use Rattle.recheck_merging.specs.Plans.{IsPlan, members_of}
use Rattle.recheck_merging.specs.Keeping.{kept_in, ComeFrom, AreTouched}
use Rattle.recheck_merging.specs.Merging.{IsMember, AreMergedTo}
use Rattle.recheck_merging.specs.declared.planning.MergePlan.{MergePlan}
use Rattle.recheck_merging.specs.declared.still.Edit.{Edit}

-- the results are those of the program before, and the flags are on at the modules that are touched
pub record IsEdit (e : Edit) : Type 0 where
  pub made : AreMade e.was.now
  pub sources : AreSources e.sources.now
  pub plan : IsPlan e.sources.now e.plan.now
  pub come : ComeFrom e.was.now.sources e.sources.now e.from.now
  pub numbers : List ℕ
  pub touched : AreTouched e.was.now.sources e.sources.now e.from.now numbers
  pub marks : AreMarksOf (length e.sources.now.root.modules) numbers e.touched.now

-- the module of a number has an old signature
abbrev pub HasOld : List Sig → List (Option ℕ) → ℕ → Type 0
HasOld was from x = (sig : Sig) × (kept_in was (get_or from x None) ≡ Some sig)

-- A flag is on where the signature that is made is the old one, and where none is made yet; so the flags follow from what is made.
pub record AreOld (was : List Sig) (from : List (Option ℕ)) (made : List (Option Sig)) (same : List Bool) : Type 0 where
  pub many : length same ≡ length made
  pub old : (x : ℕ) (sig : Sig) (b : Bool) → slice_get same x ≡ Some b → slice_get made x ≡ Some (Some sig) → IsTrue b ↔ (kept_in was (get_or from x None) ≡ Some sig)
  pub yet : (x : ℕ) → slice_get made x ≡ Some None → slice_get same x ≡ Some true

-- ---- which components

-- the module at a place of a plan isn't touched, and the flag of each that it imports is on
abbrev pub is_still : List Bool → List Bool → MergePlan → ℕ → Bool
is_still touched same p place = not (get_or touched (get_or p.merged place 0) true) && list_all (λ y. get_or same y false) (get_or p.edges.items place [])

-- this is so of all of these
abbrev pub are_still : List Bool → List Bool → MergePlan → List ℕ → Bool
are_still touched same p places = list_all (is_still touched same p) places

-- a component has its old signatures where this is so of all its members
abbrev pub is_kept : List Bool → List Bool → MergePlan → ℕ → Bool
is_kept touched same p k = are_still touched same p (get_or p.components k [])

-- something is there for a component that has its old signatures, and for no other one
abbrev pub TellsKept : {X : Type 0} → List Bool → List Bool → MergePlan → ℕ → Option X → Type 0
TellsKept touched same p k o = is_some o ≡ is_kept touched same p k

-- the components for which nothing is there
abbrev pub lacking : {X : Type 0} → List ℕ → List (Option X) → List ℕ
lacking (k ∷ ks) (None ∷ os) = k ∷ lacking ks os
lacking (k ∷ ks) (Some o ∷ os) = lacking ks os
lacking ks os = []

-- the components among these that are merged anew, and how many modules they have
abbrev pub anew : List Bool → List Bool → MergePlan → List ℕ → List ℕ
anew touched same p ks = filter (λ k. not (is_kept touched same p k)) ks

abbrev pub members_anew : List Bool → List Bool → MergePlan → ℕ → ℕ
members_anew touched same p wave = members_of p (anew touched same p (get_or p.waves wave []))

-- ---- what that says of the program

-- the signature of a module is the one that the module of its path had
pub record HasItsOld (e : Edit) (x : ℕ) : Type 0 where
  pub number : ℕ
  pub path : Bytes
  pub came : slice_get e.from.now x ≡ Some (Some number)
  pub at_path : slice_get (paths_in e.sources.now) x ≡ Some path
  pub same : merged (view_in e.sources.now) path ≡ merged (view_in e.was.now.sources) path

-- no member of a component is touched, and each module that one of them imports has its old signature
abbrev pub IsLeftAlone : Edit → ℕ → Type 0
IsLeftAlone e k = (x : ℕ) → IsMember e.plan.now k x → (¬ (IsOn e.touched.now x)) × ((y : ℕ) → IsImport (view_in e.sources.now) (paths_in e.sources.now) x y → HasItsOld e y)

-- A component of a wave is kept exactly where it is left alone.
abbrev pub KeptAreLeftAlone : Type 0
KeptAreLeftAlone =
    (e : Edit) (wave k : ℕ) (made : List (Option Sig)) (same : List Bool) → IsEdit e → StandsIn e.plan.now.waves wave k → AreMergedTo e.sources.now e.plan.now wave made → AreOld e.was.now.signatures.items e.from.now made same
    → IsTrue (is_kept e.touched.now same e.plan.now k) ↔ IsLeftAlone e k
