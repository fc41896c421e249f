-- A full check that is made in part, where each part that isn't made is read off the old one.
use Rattle.std.specs.Prelude.{◌≡◌, ◌⊎◌, List, [], ◌∷◌, Option, Some, None, MatchOption}
use Rattle.std.specs.Option.{option_map}
use Rattle.flow_base.specs.Program.{Bytes, Program, paths_of, text_at}
use Rattle.check_values.specs.declared.faults.Fault.{Fault}
use Rattle.check_values.specs.declared.signatures.Deps.{Deps}
use Rattle.check_values.specs.declared.signatures.Sig.{Sig}
use Rattle.affected_law.specs.source_front.specs.declared.parse.Parse.{Parse}
use Rattle.affected_law.specs.source_front.specs.Front.{IsParse}
use Rattle.merged_signatures.specs.Merged.{merged}
use Rattle.errors_by_reach.specs.Law.{HasErrors, Agree}
use Rattle.affected_law.specs.check_job.specs.Jobs.{source_in}
use Rattle.affected_law.specs.program_check.specs.Full.{Results, view_in, sigs_in, deps_in, IsFull}
use Rattle.affected_law.specs.Affected.{results_at}
use Rattle.affected_law.specs.Kept.{KeepsImports}
use Rattle.affected_law.specs.Recheck.{Kept}
use Rattle.recheck_law.specs.Lists.{again}

-- what a recheck makes anew of a module: each part, or nothing where the old one serves on
pub record Remade : Type 0 where
  pub parse : Option Parse
  pub deps : Option Deps
  pub sig : Option Sig
  pub errors : Option (List Fault)

-- a part: what was made, or else the old one, which there must be then
abbrev pub IsPart : {X : Type 0} → Option X → Option X → X → Type 0
IsPart (Some made) old part = part ≡ made
IsPart None old part = old ≡ Some part

-- the results of a module: what was made, and else the old ones
pub record IsLaid (old : Option Results) (made : Remade) (s : Results) : Type 0 where
  pub parse : IsPart made.parse (option_map (λ r. r.parse) old) s.parse
  pub deps : IsPart made.deps (option_map (λ r. r.deps) old) s.deps
  pub sig : IsPart made.sig (option_map (λ r. r.sig) old) s.sig
  pub errors : IsPart made.errors (option_map (λ r. r.errors) old) s.errors

module _ (old new : Program) (before after : List Results) where
  -- the list of the module at a path, made again by its own specifiers, where its text stays
  abbrev pub IsListAgain : Bytes → Bytes → Deps → Type 0
  IsListAgain path text deps = Kept old before path (λ r. (text_at old path ≡ Some text) × (deps ≡ again (paths_of new) path r.deps))

  -- Each part that was made is what the full check asks, and each that was not may stay, by what it depends on.
  pub record IsRight (path text : Bytes) (made : Remade) (s : Results) : Type 0 where
    pub parse : MatchOption made.parse (text_at old path ≡ Some text) (IsParse text)
    pub deps : MatchOption made.deps (IsListAgain path text s.deps) (λ deps. (deps ≡ deps_in (paths_of new) path s.parse) ⊎ IsListAgain path text deps)
    pub sig : MatchOption made.sig (KeepsImports (view_in old before) (view_in new after) path) (λ sig. merged (view_in new after) path ≡ Some sig)
    pub errors :
        MatchOption made.errors (Kept old before path (λ r. (text_at old path ≡ Some text) × (s.deps ≡ r.deps) × Agree (sigs_in new after) s.deps (sigs_in old before)))
        (HasErrors path s.deps (source_in s.parse.tree) (sigs_in new after))

  -- and so for each module, in order
  abbrev pub AreRemade : Program → List Remade → List Results → Type 0
  AreRemade [] [] [] = Unit {0}
  AreRemade (m ∷ program) (x ∷ made) (s ∷ results) = (IsLaid (results_at old before m.0) x s × IsRight m.0 m.1 x s) × AreRemade program made results
  AreRemade program made results = ⊥

-- What is remade is the full check of the new program.
abbrev pub RemadeIsFull : Type 0
RemadeIsFull =
    (old new : Program) (before after : List Results) (made : List Remade) → IsFull old before → AreRemade old new before after new made after → IsFull new after
