-- Which of the old signatures are kept, and that they are right.
use Rattle.std.specs.Prelude.{◌≡◌, ◌≢◌, ◌<◌, ℕ, List, length, slice_get, Option, Some, None}
use Rattle.flow_base.specs.Program.{Bytes}
use Rattle.check_values.specs.declared.signatures.Deps.{Deps}
use Rattle.check_values.specs.declared.signatures.Sig.{Sig}
use Rattle.check_phases.specs.source_front.specs.declared.parse.Parse.{Parse}
use Rattle.graph_search.specs.Cycles.{Has}
use Rattle.check_phases.specs.Sourced.{paths_in, AreSources}
use Rattle.check_phases.specs.Whole.{AreMade}
use Rattle.check_phases.specs.declared.merging.Sources.{Sources}
use Rattle.check_phases.specs.declared.phases.Made.{Made}
use Rattle.recheck_merging.specs.Plans.{IsPlanOf}
use Rattle.recheck_merging.specs.Merging.{AreMergedTo}
use Rattle.recheck_merging.specs.declared.planning.MergePlan.{MergePlan}

-- the old signature of a module, if it was a module
abbrev pub kept_in : List Sig → Option ℕ → Option Sig
kept_in was None = None
kept_in was (Some o) = slice_get was o

-- the old signature of each module outside of these, and none of theirs
pub record AreKept (was : List Sig) (from : List (Option ℕ)) (merged : List ℕ) (slots : List (Option Sig)) : Type 0 where
  pub many : length slots ≡ length from
  pub kept : (x : ℕ) (o : Option ℕ) → slice_get from x ≡ Some o → ¬ (Has merged x) → slice_get slots x ≡ Some (kept_in was o)
  pub anew : (x : ℕ) → x < length from → Has merged x → slice_get slots x ≡ Some None

-- ---- what keeps them right

-- each module has the number of the old one of its path, if there is one
pub record ComeFrom (old new : Sources) (from : List (Option ℕ)) : Type 0 where
  pub many : length from ≡ length new.root.modules
  pub comes : (x o : ℕ) → slice_get from x ≡ Some (Some o) → (path : Bytes) × (slice_get (paths_in old) o ≡ Some path) × (slice_get (paths_in new) x ≡ Some path)

-- each module that is new, or of which the local signature or the dependency list differs, is touched
pub record AreTouched (old new : Sources) (from : List (Option ℕ)) (touched : List ℕ) : Type 0 where
  pub fresh : (x : ℕ) → slice_get from x ≡ Some None → Has touched x
  pub signed : (x o : ℕ) (p q : Parse) → slice_get from x ≡ Some (Some o) → slice_get old.parses.items o ≡ Some p → slice_get new.parses.items x ≡ Some q → q.sig ≢ p.sig → Has touched x
  pub listed : (x o : ℕ) (d e : Deps) → slice_get from x ≡ Some (Some o) → slice_get old.lists.items o ≡ Some d → slice_get new.lists.items x ≡ Some e → e ≢ d → Has touched x

-- What is kept is right, where what is merged leads to all that is touched: no wave is merged yet.
abbrev pub KeptAreRight : Type 0
KeptAreRight =
    (was : Made) (s : Sources) (from : List (Option ℕ)) (touched : List ℕ) (p : MergePlan) (slots : List (Option Sig)) → AreMade was → AreSources s
    → ComeFrom was.sources s from → AreTouched was.sources s from touched → IsPlanOf s touched p → AreKept was.signatures.items from p.merged slots
    → AreMergedTo s p 0 slots
