-- What is known where the dependency lists are made, and where all signatures are merged.
use Rattle.std.proofs.Common.{◌≡◌, ℕ, suc, ◌<◌, ◌≤◌, Bool, true, List, [], ◌∷◌, All, map, length, slice_get, Option, Some, None, refl, sym, ap, ◌∙◌, subst, inl, inr, arith}
use Rattle.std.specs.Prelude.{◌==◌, ◌↔◌, IsTrue, false}
use Rattle.std.proofs.lemmas.Bool.Decides.{nat_tests}
use Rattle.flow_base.specs.Program.{Bytes}
use Rattle.committed_results.specs.full_law.specs.Law.{EachFull}
use Rattle.heap_core.specs.Meaning.{names}
use Rattle.heap_core.proofs.Lists.{get_there}
use Rattle.check_values.specs.declared.faults.Errs.{Errs}
use Rattle.check_values.specs.declared.root.Root.{Root}
use Rattle.check_values.specs.declared.signatures.Sig.{Sig}
use Rattle.graph_search.specs.Cycles.{Has, IsOn}
use Rattle.graph_search.specs.Reach.{IsRising}
use Rattle.merged_signatures.specs.Imports.{Imports}
use Rattle.recheck_checking.specs.affected_law.specs.Affected.{Differs}
use Rattle.recheck_reach.specs.affected_sizes.specs.Polls.{AreImports}
use Rattle.recheck_reach.specs.path_numbers.specs.Sets.{ArePlaces}
use Rattle.recheck_plan.specs.Affected.{AreExactly}
use Rattle.recheck_reach.specs.check_phases.specs.Phases.{AreMerged}
use Rattle.recheck_reach.specs.check_phases.specs.Sourced.{program_in, paths_in, view_in, AreSources}
use Rattle.recheck_reach.specs.check_phases.specs.declared.merging.Sources.{Sources}
use Rattle.recheck_reach.specs.check_phases.proofs.Lists.{one_value, within_there}
use Rattle.recheck_reach.specs.check_phases.proofs.Waves.{many_merged, named_has, has_named}
use Rattle.recheck_checking.specs.edited_root.specs.From.{numbers_from}
use Rattle.recheck_reach.specs.recheck_merging.specs.Keeping as keeping
use Rattle.recheck_reach.specs.recheck_merging.specs.Keeping.{ComeFrom, AreTouched, KeptAreRight}
use Rattle.recheck_reach.specs.recheck_merging.specs.Plans.{IsPlanOf, IsPlanOfNothing}
use Rattle.recheck_reach.specs.recheck_merging.specs.declared.planning.MergePlan.{MergePlan}
use Rattle.recheck_reach.specs.recheck_merging.specs.Merging.{AreMergedTo, IsFilled, WavesMakeAll}
use Rattle.recheck_reach.specs.recheck_merging.proofs.Imported.{low_path}
use Rattle.recheck_reach.specs.recheck_merging.proofs.Mapped.{has_all, all_has, rising_all}
use Rattle.recheck_reach.specs.recheck_sources.specs.Parts.{TellsOthers}
use Rattle.recheck_reach.specs.recheck_sources.specs.Changed.{IsChanged}
use Rattle.recheck_reach.specs.Moved.{IsSameOutside}
use Rattle.recheck_reach.specs.Checked.{AreLeading, IsToCheckIn}
use Rattle.recheck_reach.specs.Law.{RestIsSame, CheckedAreOfChecked, UnmovedAreChanged, DiffersAreTouched}
use Rattle.recheck_reach.proofs.Leads.{onward}
use Rattle.recheck_checking.specs.Keeping as errors
use Rattle.recheck_checking.specs.Checking.{IsCheckedBy, AreCheckedTo}
use Rattle.recheck_checking.specs.Full.{results_of, MadeIsFull}
use Rattle.recheck_checking.specs.Right.{AreToCheck, KeptErrorsAreRight}
use Rattle.recheck_run.specs.Stages.{old_of, IsBase, IsMerging, AreAffected, KeepsErrors}
use Rattle.recheck_run.specs.declared.stages.Base.{Base}
use Rattle.recheck_run.specs.declared.stages.Merging.{Merging}

-- places of modules are low
pub places_low : (s : Sources) (Holds : Bytes → Type 0) (all : List ℕ) → ArePlaces Holds (paths_in s) all → All (λ x. x < length s.root.modules) all
places_low s Holds all are = has_all (λ (x : ℕ). x < length s.root.modules) all (λ x has. let p = are.sound x has in low_path s x p.0 p.1)

-- as the code has them
pub numbers_here : (b : Base) (root : Root) → IsBase b → root ≡ b.root → b.from.items ≡ numbers_from (old_of b) root
numbers_here b root base same = base.from ∙ ap (numbers_from (old_of b)) (sym same)

module _ (b : Base) (base : IsBase b) (s : Sources) (root : s.root ≡ b.root) (sources : AreSources s) (touched : List ℕ) (differs : ArePlaces (Differs (view_in b.was.sources) (view_in s)) (paths_in s) touched) (law : DiffersAreTouched) where
  pub both : ComeFrom b.was.sources s b.from.items × AreTouched b.was.sources s b.from.items touched
  both = law b.was.sources s b.from.items touched base.made.sources sources (numbers_here b s.root base root) differs

  pub many_numbers : length b.from.items ≡ length s.root.modules
  many_numbers = both.0.many

  -- no wave is merged yet
  pub kept_merged : KeptAreRight → (m : Merging) → IsPlanOf s touched m.plan → keeping.AreKept b.was.signatures.items b.from.items m.plan.merged m.slots.items → m.wave ≡ 0 → AreMergedTo s m.plan m.wave m.slots.items
  kept_merged right m plan kept none = subst (λ (w : ℕ). AreMergedTo s m.plan w m.slots.items) (sym none) (right b.was s b.from.items touched m.plan m.slots.items base.made sources both.0 both.1 plan kept)

  -- outside of the plan all is the same
  pub same_outside : RestIsSame → (m : Merging) → IsPlanOf s touched m.plan → (sigs : List Sig) → AreMerged (view_in s) (program_in s) sigs → IsSameOutside b.was.signatures.items b.from.items m.plan.merged sigs
  same_outside rest m plan sigs merged = rest b.was s b.from.items touched m.plan sigs base.made sources both.0 both.1 plan merged

-- the numbers of the plan have an old number, or not
pub plan_low : (b : Base) (m : Merging) (n : ℕ) → IsBase b → DiffersAreTouched → n ≡ length m.listed.sources.root.modules → IsPlanOf m.listed.sources m.listed.touched m.plan → All (λ x. x < n) m.plan.merged
plan_low b m n base law many plan = subst (λ (k : ℕ). All (λ x. x < k) m.plan.merged) (sym many) plan.plan.within

-- ---- all signatures are merged

module _ (b : Base) (m : Merging) (base : IsBase b) (is : IsMerging b m) (past : length m.plan.waves ≤ m.wave) (law : DiffersAreTouched) where
  abbrev s : Sources
  s = m.listed.sources

  all_merged : AreMergedTo s m.plan (length m.plan.waves) m.slots.items
  all_merged = (let low = is.low in let e : m.wave ≡ length m.plan.waves = omega (arith, low, past) in subst (λ (w : ℕ). AreMergedTo s m.plan w m.slots.items) e is.merged)

  pub filled : WavesMakeAll → IsFilled m.slots.items
  filled make = (make s m.plan m.slots.items is.listed.sources is.plan.plan all_merged).0

  pub signatures_merged : WavesMakeAll → (sigs : List Sig) → map Some sigs ≡ m.slots.items → AreMerged (view_in s) (program_in s) sigs
  signatures_merged make sigs same = (make s m.plan m.slots.items is.listed.sources is.plan.plan all_merged).1 sigs same

  module _ (make : WavesMakeAll) (sigs : List Sig) (same : map Some sigs ≡ m.slots.items) where
    merged : AreMerged (view_in s) (program_in s) sigs
    merged = signatures_merged make sigs same

    pub many_signatures : length sigs ≡ length s.root.modules
    many_signatures = many_merged s sigs merged

    pub many_from : length b.from.items ≡ length sigs
    many_from = many_numbers b base s is.listed.root is.listed.sources m.listed.touched is.touched law ∙ sym many_signatures

    pub outside_same : RestIsSame → IsSameOutside b.was.signatures.items b.from.items m.plan.merged sigs
    outside_same rest = same_outside b base s is.listed.root is.listed.sources m.listed.touched is.touched law rest m is.plan sigs merged

    pub plan_within : All (λ x. x < length sigs) m.plan.merged
    plan_within = subst (λ (n : ℕ). All (λ x. x < n) m.plan.merged) (sym many_signatures) is.plan.plan.within

    -- the modules whose signatures moved are among those of the plan, and so are those from which imports lead to one
    module _ (rest : RestIsSame) (moved : List Bool) (tells : TellsOthers b.was.signatures.items b.from.items sigs moved) where
      moved_merged : (x : ℕ) → IsOn moved x → Has m.plan.merged x
      moved_merged x on = go (names m.plan.merged x) refl
        where
          go : (named : Bool) → names m.plan.merged x ≡ named → Has m.plan.merged x
          go true is = named_has m.plan.merged x is
          go false is =
              let out : ¬ (Has m.plan.merged x) = λ has. (let z : false ≡ true = sym is ∙ has_named m.plan.merged x has in cc) in
              let was = (outside_same rest).same x (let many = tells.many in let low = within_there moved x true on in omega (arith, many, low)) out in
              absurd (tells.others x was.0 was.1 was.1 on was.2 was.3 was.4 refl)

      pub plan_leads : AreLeading s moved m.plan.merged
      plan_leads x number path other on at_x at_number leads =
          let to = is.plan.merged.sound number (moved_merged number on) in
          let same : to.path ≡ other = one_value to.path other (sym to.at_path ∙ at_number) in
          is.plan.merged.complete x (record {
            number = to.number;
            path = path;
            other = to.other;
            is_touched = to.is_touched;
            at_path = at_x;
            at_other = to.at_other;
            leads = onward (view_in s) path other to.other leads (subst (λ (p : Bytes). Imports (view_in s) p to.other) same to.leads);
          })

      -- where a signature moved, the edges are made
      pub moved_edges : (x : ℕ) → IsOn moved x → AreImports (view_in s) (paths_in s) m.edges.items
      moved_edges x on = elim is.edges [ inr are ↦ are | inl none ↦ absurd (never none) ]
        where
          never : m.listed.touched ≡ [] → ⊥
          never none = let to = is.plan.merged.sound x (moved_merged x on) in let t = subst (λ (l : List ℕ). Has l to.number) none to.is_touched in let z : None ≡ Some to.number = t.1 in cc

    -- which modules are to be checked
    pub affected : CheckedAreOfChecked → (moved : List Bool) (checked : List ℕ) → TellsOthers b.was.signatures.items b.from.items sigs moved → AreExactly (IsToCheckIn s sigs moved m.listed.changed) checked → AreAffected b s checked
    affected checks moved checked tells exactly = record {
      rising = exactly.rising;
      within = has_all (λ (x : ℕ). x < length s.root.modules) checked (λ x has. elim (exactly.sound x has) [
        | inl changed ↦ all_has (λ (y : ℕ). y < length s.root.modules) m.listed.changed (places_low s (IsChanged b.was.sources s) m.listed.changed is.changed.1) x changed
        | inr finds ↦ low_path s x finds.1.path finds.1.at_path
      ]);
      paths = λ before after was_full is_full.
          checks b.was s sigs b.from.items moved m.listed.changed checked before after base.made is.listed.sources merged was_full is_full (numbers_here b s.root base is.listed.root) tells is.changed.1 exactly;
    }

    -- the errors that are kept
    module _ (checked : List ℕ) (are : AreAffected b s checked) (slots : List (Option Errs)) (kept : errors.AreKept b.was.errors.items b.from.items checked slots) where
      pub errors_right : EachFull → MadeIsFull → KeptErrorsAreRight → AreCheckedTo s sigs checked 0 slots
      errors_right each full right =
          let after = each (program_in s) in
          let to : AreToCheck b.was s checked = record { after = after.0; full = after.1; within = are.within; paths = are.paths (results_of b.was) after.0 (full b.was base.made) after.1 } in
          right b.was s sigs b.from.items checked slots base.made is.listed.sources merged (numbers_here b s.root base is.listed.root) to kept

      pub errors_kept : AreCheckedTo s sigs checked 0 slots → (x : ℕ) → x < length s.root.modules → ¬ (Has checked x) → KeepsErrors b s sigs x
      errors_kept right x low out =
          let e = right.kept x low out in
          let o = get_there b.from.items x (let many = many_from in let all = many_signatures in omega (arith, many, all, low)) in
          go o.0 o.1 e.0 (one_value (errors.kept_in b.was.errors.items o.0) (Some e.0) (sym (kept.kept x o.0 o.1 out) ∙ e.1)) (right.right x e.0 e.1)
        where
          go : (o : Option ℕ) → slice_get b.from.items x ≡ Some o → (errs : Errs) → errors.kept_in b.was.errors.items o ≡ Some errs → IsCheckedBy s sigs x errs → KeepsErrors b s sigs x
          go None at errs none is = absurd (let z : None ≡ Some errs = none in cc)
          go (Some o) at errs there is = (o, errs, at, there, is)

-- ---- where nothing is touched

empty : (xs : List ℕ) (t : Bool) → t ≡ (length xs == 0) → t ≡ true → xs ≡ []
empty [] t is on = refl
empty (x ∷ xs) t is on = absurd (let z : (suc (length xs) == 0) ≡ true = sym is ∙ on in let n = never (length xs) z in omega (arith, n))
  where
    never : (n : ℕ) → (suc n == 0) ≡ true → 1 ≤ 0
    never n z = grind (arith, nat_tests)

pub nothing_planned : (s : Sources) (touched : List ℕ) (p : MergePlan) (t : Bool) → t ≡ (length touched == 0) → t ≡ true → IsPlanOfNothing p → IsPlanOf s touched p
nothing_planned s touched p t is on nothing = subst (λ (l : List ℕ). IsPlanOf s l p) (sym (empty touched t is on)) (nothing s)

pub nothing_touched : (touched : List ℕ) (t : Bool) → t ≡ (length touched == 0) → t ≡ true → touched ≡ []
nothing_touched touched t is on = empty touched t is on

-- where nothing moved, what changed is to be checked
pub unmoved : UnmovedAreChanged → (s : Sources) (sigs : List Sig) (moved : List Bool) (changed all : List ℕ) (t : Bool) → (IsTrue t ↔ ((x : ℕ) × IsOn moved x)) → t ≡ false → IsRising changed → all ≡ changed → AreExactly (IsToCheckIn s sigs moved changed) all
unmoved law s sigs moved changed all t tells off rising same =
    subst (AreExactly (IsToCheckIn s sigs moved changed)) (sym same) (law s sigs moved changed (λ x on. let z : true ≡ false = sym (tells.1 (x, on)) ∙ off in cc) rising)

-- where as many changed as there are, all are to be checked
pub all_changed : (s : Sources) (sigs : List Sig) (moved : List Bool) (changed view all : List ℕ) → IsRising changed → All (λ x. x < length s.root.modules) changed → view ≡ changed → length view ≡ length moved → length moved ≡ length s.root.modules → all ≡ view
    → AreExactly (IsToCheckIn s sigs moved changed) all
all_changed s sigs moved changed view all rising within same many modules copied = subst (AreExactly (IsToCheckIn s sigs moved changed)) (sym (copied ∙ same)) (record {
  rising = rising;
  sound = λ x has. inl has;
  complete = λ x is. elim is [ inl has ↦ has | inr finds ↦ rising_all changed (length s.root.modules) x rising within (ap length (sym same) ∙ (many ∙ modules)) (low_path s x finds.1.path finds.1.at_path) ];
})
