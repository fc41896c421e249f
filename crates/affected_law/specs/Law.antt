-- What an edit of a program cannot change in its full check.
use Rattle.std.specs.Prelude.{◌≡◌, ◌↔◌, List, Some}
use Rattle.flow_base.specs.Program.{Bytes, Program, text_at}
use Rattle.program_check.specs.source_front.specs.Law.{Same}
use Rattle.merged_signatures.specs.Reach.{Reach}
use Rattle.reach_law.specs.errors_by_reach.specs.Law.{Agree}
use Rattle.program_check.specs.Full.{Results, view_in, sigs_in, IsFull}
use Rattle.program_check.specs.Law.{Alike}
use Rattle.affected_law.specs.Affected.{results_at, Parsed, Merged, Checked}
use Rattle.affected_law.specs.Kept.{KeepsImports}

-- This holds of any two programs with their full checks, at each path that both have, with its results before and after.
abbrev pub AtEachPath : ((old new : Program) (before after : List Results) → Bytes → Results → Results → Type 0) → Type 0
AtEachPath Holds =
    (old new : Program) (before after : List Results) (path : Bytes) (r s : Results) → IsFull old before → IsFull new after
    → results_at old before path ≡ Some r → results_at new after path ≡ Some s → Holds old new before after path r s

-- ---- outside the affected paths

-- Outside `Parsed` the source says the same by itself.
abbrev pub ParsesStay : Type 0
ParsesStay = AtEachPath (λ old new before after path r s. ¬ (Parsed old new path) → Same r.parse s.parse)

-- Outside `Merged` the merged signature is the same.
abbrev pub SignaturesStay : Type 0
SignaturesStay = AtEachPath (λ old new before after path r s. ¬ (Merged old new before after path) → r.sig ≡ s.sig)

-- Outside `Checked` the errors are the same.
abbrev pub ErrorsStay : Type 0
ErrorsStay = AtEachPath (λ old new before after path r s. ¬ (Checked old new before after path) → r.errors ≡ s.errors)

-- Outside all of them all results are the same; what is outside `Checked` is outside `Parsed`.
abbrev pub ResultsStay : Type 0
ResultsStay = AtEachPath (λ old new before after path r s. ¬ (Merged old new before after path) → ¬ (Checked old new before after path) → Alike r s)

-- ---- what it is to be outside

-- the text and the dependency list are what they were, and so is each merged signature that the module reaches
pub record KeepsCheck (old new : Program) (before after : List Results) (path : Bytes) (r s : Results) : Type 0 where
  pub text : text_at new path ≡ text_at old path
  pub deps : s.deps ≡ r.deps
  pub reach : Agree (sigs_in new after) s.deps (sigs_in old before)

-- Outside `Parsed` are exactly the paths that keep their text,
abbrev pub UnparsedKeepsText : Type 0
UnparsedKeepsText = AtEachPath (λ old new before after path r s. ¬ (Parsed old new path) ↔ (text_at new path ≡ text_at old path))

-- outside `Merged` exactly those that keep their imports,
abbrev pub UnmergedKeepsImports : Type 0
UnmergedKeepsImports = AtEachPath (λ old new before after path r s. ¬ (Merged old new before after path) ↔ KeepsImports (view_in old before) (view_in new after) path)

-- outside `Checked` exactly those that keep all that their check depends on.
abbrev pub UncheckedKeepsCheck : Type 0
UncheckedKeepsCheck = AtEachPath (λ old new before after path r s. ¬ (Checked old new before after path) ↔ KeepsCheck old new before after path r s)

-- ---- how the sets lie

-- `Parsed` is within `Checked`.
abbrev pub ParsedAreChecked : Type 0
ParsedAreChecked = (old new : Program) (before after : List Results) (path : Bytes) → Parsed old new path → Checked old new before after path

-- A path outside `Parsed`, with the dependency list that it had, is outside `Checked` where all that it reaches is outside `Merged`.
abbrev pub ChecksGoByMerging : Type 0
ChecksGoByMerging =
    AtEachPath (λ old new before after path r s. ¬ (Parsed old new path) → s.deps ≡ r.deps
    → ((other : Bytes) → Reach (sigs_in new after) s.deps other → ¬ (Merged old new before after other)) → ¬ (Checked old new before after path))
