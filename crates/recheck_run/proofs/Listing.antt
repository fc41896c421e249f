-- The dependency lists are made, as the code has them.
use Rattle.std.proofs.Common.{◌≡◌, ◌⊎◌, ℕ, ◌^◌, ◌<◌, Bool, true, List, [], All, length, replicate, Option, refl, sym, ap, ◌∙◌, subst, arith}
use Rattle.std.specs.Global.{Vec}
use Rattle.flow_values.specs.Path as paths
use Rattle.check_values.specs.Roots.{paths_of}
use Rattle.check_values.specs.declared.root.Root.{Root}
use Rattle.check_values.specs.declared.signatures.Sig.{Sig}
use Rattle.committed_results.specs.source_front.specs.declared.parse.Parse.{Parse}
use Rattle.graph_search.specs.Reach.{IsRising}
use Rattle.recheck_checking.specs.affected_law.specs.Affected.{Differs}
use Rattle.recheck_reach.specs.affected_sizes.specs.Polls.{AreImports}
use Rattle.recheck_checking.specs.payloads.specs.State.{program_of}
use Rattle.recheck_reach.specs.path_numbers.specs.Sets.{ArePlaces}
use Rattle.recheck_reach.specs.check_phases.specs.Phases.{AreParsed}
use Rattle.recheck_reach.specs.check_phases.specs.Sourced.{paths_in, view_in, AreSources}
use Rattle.recheck_checking.specs.edited_root.specs.From.{numbers_from, fresh_from}
use Rattle.recheck_reach.specs.recheck_merging.specs.Keeping as keeping
use Rattle.recheck_reach.specs.recheck_merging.specs.Keeping.{KeptAreRight}
use Rattle.recheck_reach.specs.recheck_merging.specs.Plans.{IsPlanOf}
use Rattle.recheck_reach.specs.recheck_merging.specs.declared.planning.MergePlan.{MergePlan}
use Rattle.recheck_reach.specs.recheck_sources.specs.Parts.{AreKeptBy, TellsOthers}
use Rattle.recheck_reach.specs.recheck_sources.specs.Changed.{IsChanged}
use Rattle.recheck_reach.specs.recheck_sources.specs.declared.sourcing.Listed.{Listed}
use Rattle.recheck_reach.specs.Law.{DiffersAreTouched}
use Rattle.recheck_run.specs.Stages.{old_of, IsBase, AreListed, IsMerging}
use Rattle.recheck_run.specs.declared.stages.Base.{Base}
use Rattle.recheck_run.specs.declared.stages.Merging.{Merging}
use Rattle.recheck_plan.specs.Marks.{AreMarksOf}
use Rattle.recheck_reach.specs.recheck_merging.proofs.Unmoved.{kept_are_old}
use Rattle.recheck_run.proofs.Planned.{places_low, numbers_here, many_numbers, kept_merged}

-- ---- of the shared root

module _ (b : Base) (base : IsBase b) (root : Root) (same : root ≡ b.root) where
  pub rising_here : paths.IsRising (paths_of root)
  rising_here = subst (λ (r : Root). paths.IsRising (paths_of r)) (sym same) base.new_rising

  pub few_here : length root.modules < 2 ^ 32
  few_here = (let few = base.new_few in let many = ap (λ (r : Root). length r.modules) same in omega (arith, few, many))

  pub from_here : (from : List (Option ℕ)) → from ≡ b.from.items → from ≡ numbers_from (old_of b) root
  from_here from is = is ∙ numbers_here b root base same

  pub fresh_here : (fresh : List Bool) → fresh ≡ b.fresh.items → fresh ≡ fresh_from (old_of b) root
  fresh_here fresh is = is ∙ (base.fresh ∙ ap (fresh_from (old_of b)) (sym same))

  pub parsed_here : (parses : List Parse) → AreParsed (program_of b.root) parses → AreParsed (program_of root) parses
  parsed_here parses are = subst (λ (r : Root). AreParsed (program_of r) parses) (sym same) are

pub kept_here : (b : Base) (parses : List Parse) (from : List (Option ℕ)) (fresh : List Bool) → from ≡ b.from.items → fresh ≡ b.fresh.items → AreKeptBy b.was.sources.parses.items b.from.items b.fresh.items parses → AreKeptBy b.was.sources.parses.items from fresh parses
kept_here b parses from fresh is_from is_fresh kept =
    subst (λ (f : List (Option ℕ)). AreKeptBy b.was.sources.parses.items f fresh parses) (sym is_from) (subst (λ (f : List Bool). AreKeptBy b.was.sources.parses.items b.from.items f parses) (sym is_fresh) kept)

-- ---- of what is listed

module _ (b : Base) (base : IsBase b) (listed : Listed) (root : Root) (from : List (Option ℕ)) (touched : List ℕ) (is_root : root ≡ b.root) (is_from : from ≡ b.from.items) (is_touched : touched ≡ listed.touched) (its_root : listed.sources.root ≡ root)
    (sources : AreSources listed.sources) (differs : ArePlaces (Differs (view_in b.was.sources) (view_in listed.sources)) (paths_in listed.sources) listed.touched) where
  own_root : listed.sources.root ≡ b.root
  own_root = its_root ∙ is_root

  pub listed_few : length listed.sources.root.modules < 2 ^ 32
  listed_few = few_here b base listed.sources.root own_root

  pub touched_low : All (λ t. t < length listed.sources.root.modules) touched
  touched_low = subst (All (λ (t : ℕ). t < length listed.sources.root.modules)) (sym is_touched) (places_low listed.sources (Differs (view_in b.was.sources) (view_in listed.sources)) listed.touched differs)

  pub flags_low : DiffersAreTouched → All (λ t. t < length from) touched
  flags_low law =
      let many : length from ≡ length listed.sources.root.modules = ap length is_from ∙ many_numbers b base listed.sources own_root sources listed.touched differs law in
      subst (λ (n : ℕ). All (λ t. t < n) touched) (sym many) touched_low

  plan_here : (p : MergePlan) → IsPlanOf listed.sources touched p → IsPlanOf listed.sources listed.touched p
  plan_here p plan = subst (λ (l : List ℕ). IsPlanOf listed.sources l p) is_touched plan

  pub plan_low : DiffersAreTouched → (p : MergePlan) → IsPlanOf listed.sources touched p → All (λ x. x < length from) p.merged
  plan_low law p plan =
      let many : length from ≡ length listed.sources.root.modules = ap length is_from ∙ many_numbers b base listed.sources own_root sources listed.touched differs law in
      subst (λ (n : ℕ). All (λ x. x < n) p.merged) (sym many) plan.plan.within

  pub are_listed : (parses : List Parse) → listed.sources.parses.items ≡ parses → AreKeptBy b.was.sources.parses.items b.from.items b.fresh.items parses → TellsOthers b.was.sources.lists.items from listed.sources.lists.items listed.relisted.items
      → AreListed b listed.sources listed.relisted.items
  are_listed parses same kept tells = record {
    root = own_root;
    sources = sources;
    parses = subst (AreKeptBy b.was.sources.parses.items b.from.items b.fresh.items) (sym same) kept;
    lists = subst (λ (f : List (Option ℕ)). TellsOthers b.was.sources.lists.items f listed.sources.lists.items listed.relisted.items) is_from tells;
  }

  pub is_merging : KeptAreRight → DiffersAreTouched → AreListed b listed.sources listed.relisted.items → IsRising listed.changed × ArePlaces (IsChanged b.was.sources listed.sources) (paths_in listed.sources) listed.changed
      → (edges : Vec (List ℕ)) (flags : Vec Bool) (plan : MergePlan) (slots : Vec (Option Sig)) (same : Vec Bool) (was : List Sig) → was ≡ b.was.signatures.items → IsPlanOf listed.sources touched plan
      → (touched ≡ []) ⊎ AreImports (view_in listed.sources) (paths_in listed.sources) edges.items → keeping.AreKept was from plan.merged slots.items → AreMarksOf (length from) touched flags.items → same.items ≡ replicate (length from) true
      → IsMerging b (record { listed = listed; edges = edges; touched = flags; plan = plan; wave = 0; slots = slots; same = same })
  is_merging right law are changed edges flags plan slots same was is_was planned imports kept marks all =
      let mine : keeping.AreKept b.was.signatures.items b.from.items plan.merged slots.items =
      subst (λ (w : List Sig). keeping.AreKept w b.from.items plan.merged slots.items) is_was (subst (λ (f : List (Option ℕ)). keeping.AreKept was f plan.merged slots.items) is_from kept) in
      let m : Merging = record { listed = listed; edges = edges; touched = flags; plan = plan; wave = 0; slots = slots; same = same } in
      let modules : length from ≡ length listed.sources.root.modules = ap length is_from ∙ many_numbers b base listed.sources own_root sources listed.touched differs law in
      record {
        listed = are;
        touched = differs;
        changed = changed;
        marks = subst (λ (n : ℕ). AreMarksOf n listed.touched flags.items) modules (subst (λ (l : List ℕ). AreMarksOf (length from) l flags.items) is_touched marks);
        plan = plan_here plan planned;
        edges = subst (λ (l : List ℕ). (l ≡ []) ⊎ AreImports (view_in listed.sources) (paths_in listed.sources) edges.items) is_touched imports;
        merged = kept_merged b base listed.sources own_root sources listed.touched differs law right m (plan_here plan planned) mine refl;
        same = kept_are_old b.was.signatures.items b.from.items plan.merged slots.items same.items mine (all ∙ ap (λ (n : ℕ). replicate n true) (ap length is_from ∙ sym mine.many));
        low = omega arith;
      }
