-- What the flags tell of all modules, as `told_sources` has it.
use Rattle.std.proofs.Common.{◌≡◌, ℕ, Bool, List, length, Option, sym, ap, ◌∙◌, subst, arith}
use Rattle.check_values.specs.declared.signatures.Deps.{Deps}
use Rattle.export_counts.specs.source_front.specs.declared.parse.Parse.{Parse}
use Rattle.graph_search.specs.Reach.{IsRising}
use Rattle.edited_root.specs.affected_law.specs.Affected.{Differs}
use Rattle.path_numbers.specs.Sets.{ArePlaces}
use Rattle.recheck_plan.specs.Marks.{AreBelow}
use Rattle.check_phases.specs.Sourced.{paths_in, view_in, AreSources}
use Rattle.check_phases.specs.declared.merging.Sources.{Sources}
use Rattle.check_phases.proofs.Merges.{many_parses, many_lists}
use Rattle.edited_root.specs.From.{numbers_from, fresh_from}
use Rattle.edited_root.proofs.Users.{many_from, many_fresh}
use Rattle.recheck_sources.specs.Keeping.{signatures_of, IsOnEither}
use Rattle.recheck_sources.specs.Parts.{TellsOthers}
use Rattle.recheck_sources.specs.Changed.{IsChanged}
use Rattle.recheck_sources.proofs.Loops.{many_mapped}
use Rattle.recheck_sources.proofs.Changes.{touched_places, changed_places}

module _ (was s : Sources) (old : AreSources was) (new : AreSources s) (from : List (Option ℕ)) (fresh : List Bool) (from_is : from ≡ numbers_from was.root s.root) (fresh_is : fresh ≡ fresh_from was.root s.root) where
  pub from_many : (lists : List Deps) → lists ≡ s.lists.items → length from ≡ length lists
  from_many lists same = let a = many_from was.root s.root from from_is in let b = many_lists s new in let n = ap length same in omega (arith, a, b, n)

  pub fresh_many : (lists : List Deps) → lists ≡ s.lists.items → length fresh ≡ length lists
  fresh_many lists same = let a = many_fresh was.root s.root fresh fresh_is in let b = many_lists s new in let n = ap length same in omega (arith, a, b, n)

  module _ (olds lists : List Deps) (relisted other : List Bool) (same_olds : olds ≡ was.lists.items) (same_lists : lists ≡ s.lists.items) (told : TellsOthers olds from lists relisted) (seen : other ≡ relisted) where
    pub other_many : length other ≡ length s.root.modules
    other_many = ap length seen ∙ (told.many ∙ (ap length same_lists ∙ many_lists s new))

    they : TellsOthers was.lists.items from s.lists.items other
    they =
        subst (λ (l : List Deps). TellsOthers l from s.lists.items other) same_olds
        (subst (λ (l : List Deps). TellsOthers olds from l other) same_lists (subst (TellsOthers olds from lists) (sym seen) told))

    pub fresh_other : length fresh ≡ length other
    fresh_other = many_fresh was.root s.root fresh fresh_is ∙ sym other_many

    pub changed_told : (all : List ℕ) → AreBelow (IsOnEither other fresh) (length other) all → IsRising all × ArePlaces (IsChanged was s) (paths_in s) all
    changed_told all below = changed_places was s old new from from_is other they fresh fresh_is (length other) all other_many below

    module _ (was_said said : List Parse) (resigned signed : List Bool) (same_was : was_said ≡ was.parses.items) (same_said : said ≡ s.parses.items) (told_too : TellsOthers (signatures_of was_said) from (signatures_of said) resigned) (seen_too : signed ≡ resigned) where
      pub signed_other : length signed ≡ length other
      signed_other = ap length seen_too ∙ (told_too.many ∙ (many_mapped (λ (p : Parse). p.sig) said ∙ (ap length same_said ∙ (many_parses s new ∙ sym other_many))))

      they_too : TellsOthers (signatures_of was.parses.items) from (signatures_of s.parses.items) signed
      they_too =
          subst (λ (l : List Parse). TellsOthers (signatures_of l) from (signatures_of s.parses.items) signed) same_was
          (subst (λ (l : List Parse). TellsOthers (signatures_of was_said) from (signatures_of l) signed) same_said (subst (TellsOthers (signatures_of was_said) from (signatures_of said)) (sym seen_too) told_too))

      pub touched_told : (all : List ℕ) → AreBelow (IsOnEither other signed) (length other) all → IsRising all × ArePlaces (Differs (view_in was) (view_in s)) (paths_in s) all
      touched_told all below = touched_places was s old new from from_is other they signed they_too (length other) all other_many below
