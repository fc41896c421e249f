-- A full check that is made in part, and kept in part from the one before.
use Rattle.std.specs.Prelude.{◌≡◌, ◌⊎◌, List, [], ◌∷◌, Some}
use Rattle.flow_base.specs.Program.{Bytes, Program, paths_of, text_at}
use Rattle.program_check.specs.source_front.specs.Front.{IsParse}
use Rattle.merged_signatures.specs.Merged.{merged}
use Rattle.reach_law.specs.errors_by_reach.specs.Law.{HasErrors, Agree}
use Rattle.program_check.specs.check_job.specs.Jobs.{source_in}
use Rattle.program_check.specs.Full.{Results, view_in, sigs_in, deps_in, IsFull}
use Rattle.affected_law.specs.Affected.{results_at}
use Rattle.affected_law.specs.Kept.{KeepsImports}

-- there are results at a path of which this holds
abbrev pub Kept : Program → List Results → Bytes → (Results → Type 0) → Type 0
Kept old before path Holds = (r : Results) × (results_at old before path ≡ Some r) × Holds r

module _ (old new : Program) (before after : List Results) where
  -- Each part of the results of a module is what the full check asks, or the old one, where what it depends on stays.
  pub record IsRechecked (path text : Bytes) (s : Results) : Type 0 where
    pub parse : IsParse text s.parse ⊎ Kept old before path (λ r. (s.parse ≡ r.parse) × (text_at old path ≡ Some text))
    pub deps : (s.deps ≡ deps_in (paths_of new) path s.parse) ⊎ Kept old before path (λ r. (s.deps ≡ r.deps) × (text_at old path ≡ Some text) × (paths_of new ≡ paths_of old))
    pub sig : (merged (view_in new after) path ≡ Some s.sig) ⊎ Kept old before path (λ r. (s.sig ≡ r.sig) × KeepsImports (view_in old before) (view_in new after) path)
    pub errors :
        HasErrors path s.deps (source_in s.parse.tree) (sigs_in new after) s.errors
        ⊎ Kept old before path (λ r. (s.errors ≡ r.errors) × (text_at old path ≡ Some text) × (s.deps ≡ r.deps) × Agree (sigs_in new after) s.deps (sigs_in old before))

  -- and so for each module, in order
  abbrev pub AreRechecked : Program → List Results → Type 0
  AreRechecked [] [] = Unit {0}
  AreRechecked (m ∷ program) (s ∷ results) = IsRechecked m.0 m.1 s × AreRechecked program results
  AreRechecked program results = ⊥

-- What is rechecked is the full check of the new program.
abbrev pub RecheckedIsFull : Type 0
RecheckedIsFull = (old new : Program) (before after : List Results) → IsFull old before → AreRechecked old new before after new after → IsFull new after
