-- What is kept outside of a plan is right.
use Rattle.std.proofs.Common.{◌≡◌, ℕ, ◌<◌, List, length, slice_get, Option, Some, None, sym, ap, ◌∙◌, subst, arith}
use Rattle.flow_base.specs.Program.{Bytes}
use Rattle.heap_core.proofs.Lists.{get_there}
use Rattle.check_values.specs.contracts.signatures.LocalSig as local_type
use Rattle.check_values.specs.declared.signatures.Sig.{Sig}
use Rattle.graph_search.specs.Cycles.{Has}
use Rattle.merged_signatures.specs.Chains.{Known, View, found}
use Rattle.merged_signatures.specs.Imports.{Imports, itself, further, Edge, IsLocal}
use Rattle.merged_signatures.specs.Merged.{merged}
use Rattle.path_numbers.specs.affected_law.proofs.Deciding.{same_by, same_deps}
use Rattle.check_phases.specs.Merging.{IsMade}
use Rattle.check_phases.specs.Sourced.{program_in, paths_in, view_in, AreSources}
use Rattle.check_phases.specs.Whole.{AreMade}
use Rattle.check_phases.specs.declared.merging.Sources.{Sources}
use Rattle.check_phases.specs.declared.phases.Made.{Made}
use Rattle.check_phases.proofs.Jobs.{zip_at}
use Rattle.check_phases.proofs.Lists.{one_value}
use Rattle.check_phases.proofs.Merges.{program_get}
use Rattle.recheck_merging.specs.Plans.{IsPlanOf}
use Rattle.recheck_merging.specs.Merging.{AreMergedTo}
use Rattle.recheck_merging.specs.Keeping.{AreKept, ComeFrom, AreTouched, KeptAreRight}
use Rattle.recheck_merging.specs.declared.planning.MergePlan.{MergePlan}
use Rattle.recheck_merging.proofs.Imported.{known_here, here, low_path}
use Rattle.recheck_merging.proofs.Jobs.{imported}
use Rattle.recheck_merging.proofs.Leads.{seen_place, touched_merges}

joined : (view : View) (p q r : Bytes) → Imports view p q → Imports view q r → Imports view p r
joined view p q _ first itself = first
joined view p q _ first (further r other leads step) = further r other (joined view p q r first leads) step

-- what a module imports is a module
edge_place : (s : Sources) → AreSources s → (path other : Bytes) → Edge (view_in s) path other → (y : ℕ) × (slice_get (paths_in s) y ≡ Some other)
edge_place s sources path other step =
    let z = seen_place s path step.0 step.2 in
    let h = here s sources z.0 (low_path s z.0 path z.1) in
    let same : h.row.path ≡ path = one_value h.row.path path (sym h.at_path ∙ z.1) in
    let known : known_here s z.0 h ≡ step.0 = one_value (known_here s z.0 h) step.0 (sym h.seen ∙ (ap (view_in s) same ∙ step.2)) in
    let y = imported s sources z.0 h step.1 other (ap (λ (k : Known). found k.deps step.1) known ∙ step.3) in
    (y.0, y.2)

pub imports_place : (s : Sources) → AreSources s → (path other : Bytes) → Imports (view_in s) path other → (x : ℕ) → slice_get (paths_in s) x ≡ Some path → (y : ℕ) × (slice_get (paths_in s) y ≡ Some other)
imports_place s sources path _ itself x at = (x, at)
imports_place s sources path _ (further r other leads step) x at = edge_place s sources r other step

-- ---- what is not touched

module _ (old new : Sources) (olds : AreSources old) (sources : AreSources new) (from : List (Option ℕ)) (touched : List ℕ) (come : ComeFrom old new from) (are_touched : AreTouched old new from touched) where
  -- a module that isn't touched was a module
  pub old_number : (x : ℕ) → x < length new.root.modules → ¬ (Has touched x) → (o : ℕ) × (slice_get from x ≡ Some (Some o))
  old_number x low outside = go at.0 at.1
    where
      at : (o : Option ℕ) × (slice_get from x ≡ Some o)
      at = get_there from x (let many = come.many in omega arith)

      go : (o : Option ℕ) → slice_get from x ≡ Some o → (n : ℕ) × (slice_get from x ≡ Some (Some n))
      go None is = absurd (outside (are_touched.fresh x is))
      go (Some n) is = (n, is)

  -- and what merging sees of it is what it saw
  pub sees_same : (y : ℕ) (other : Bytes) → slice_get (paths_in new) y ≡ Some other → ¬ (Has touched y) → view_in new other ≡ view_in old other
  sees_same y other at outside =
      let low = low_path new y other at in
      let h = here new sources y low in
      let o = old_number y low outside in
      let comes = come.comes y o.0 o.1 in
      let h_old = here old olds o.0 (low_path old o.0 comes.0 comes.1) in
      let new_path : h.row.path ≡ other = one_value h.row.path other (sym h.at_path ∙ at) in
      let old_path : h_old.row.path ≡ other = one_value h_old.row.path other (sym h_old.at_path ∙ (comes.1 ∙ (sym comes.2 ∙ at))) in
      let sig : h.parse.sig ≡ h_old.parse.sig = same_by local_type.the_row.coded h.parse.sig h_old.parse.sig (λ differs. outside (are_touched.signed y o.0 h_old.parse h.parse o.1 h_old.at_parse h.at_parse differs)) in
      let deps : h.deps ≡ h_old.deps = same_deps h.deps h_old.deps (λ differs. outside (are_touched.listed y o.0 h_old.deps h.deps o.1 h_old.at_deps h.at_deps differs)) in
      let same : known_here new y h ≡ known_here old o.0 h_old = (λ i. record { sig = sig i; deps = deps i }) in
      ap (view_in new) (sym new_path) ∙ (h.seen ∙ (ap Some same ∙ (sym h_old.seen ∙ ap (view_in old) old_path)))

-- each module has its signature among those that are made
pub signed_at : (made : Made) → AreMade made → (o : ℕ) (path : Bytes) → slice_get (paths_in made.sources) o ≡ Some path → (sig : Sig) × (slice_get made.signatures.items o ≡ Some sig) × (merged (view_in made.sources) path ≡ Some sig)
signed_at made are o path at =
    let h = here made.sources are.sources o (low_path made.sources o path at) in
    let same : h.row.path ≡ path = one_value h.row.path path (sym h.at_path ∙ at) in
    let sig = zip_at _ (program_in made.sources) made.signatures.items o (h.row.path, h.row.text) are.merged (program_get made.sources.root.modules o h.row h.at_row) in
    (sig.0, sig.1, ap (merged (view_in made.sources)) (sym same) ∙ sig.2)

-- ---- what is kept

module _ (local : IsLocal) (was : Made) (s : Sources) (from : List (Option ℕ)) (touched : List ℕ) (p : MergePlan) (slots : List (Option Sig)) (made : AreMade was) (sources : AreSources s)
    (come : ComeFrom was.sources s from) (are_touched : AreTouched was.sources s from touched) (plan : IsPlanOf s touched p) (kept : AreKept was.signatures.items from p.merged slots) where
  -- a module that is touched is merged, and one that leads to a module that is merged
  merges : (x : ℕ) → x < length s.root.modules → Has touched x → Has p.merged x
  merges x low has = let h = here s sources x low in plan.merged.complete x (touched_merges s touched x h.row.path has h.at_path)

  leads_on : (x y : ℕ) (path other : Bytes) → slice_get (paths_in s) x ≡ Some path → slice_get (paths_in s) y ≡ Some other → Imports (view_in s) path other → Has p.merged y → Has p.merged x
  leads_on x y path other at_x at_y leads has =
      let is = plan.merged.sound y has in
      plan.merged.complete x (record {
        number = is.number;
        path = path;
        other = is.other;
        is_touched = is.is_touched;
        at_path = at_x;
        at_other = is.at_other;
        leads = joined (view_in s) path other is.other leads (subst (λ (t : Bytes). Imports (view_in s) t is.other) (one_value is.path other (sym is.at_path ∙ at_y)) is.leads);
      })

  untouched : (x : ℕ) → x < length s.root.modules → ¬ (Has p.merged x) → ¬ (Has touched x)
  untouched x low outside has = outside (merges x low has)

  -- a module outside of the plan was a module
  number_of : (x : ℕ) → x < length s.root.modules → ¬ (Has p.merged x) → (o : ℕ) × (slice_get from x ≡ Some (Some o))
  number_of x low outside = old_number was.sources s made.sources sources from touched come are_touched x low (untouched x low outside)

  keeps_imports : (x : ℕ) (path : Bytes) → slice_get (paths_in s) x ≡ Some path → ¬ (Has p.merged x) → (other : Bytes) → Imports (view_in s) path other → view_in s other ≡ view_in was.sources other
  keeps_imports x path at outside other leads =
      let y = imports_place s sources path other leads x at in
      sees_same was.sources s made.sources sources from touched come are_touched y.0 other y.1 (untouched y.0 (low_path s y.0 other y.1) (λ has. outside (leads_on x y.0 path other at y.1 leads has)))

  -- its old signature is there, and serves
  serves : (x : ℕ) (path : Bytes) (o : ℕ) → slice_get (paths_in s) x ≡ Some path → ¬ (Has p.merged x) → slice_get from x ≡ Some (Some o) → (sig : Sig) × (slice_get was.signatures.items o ≡ Some sig) × (merged (view_in s) path ≡ Some sig)
  serves x path o at outside is =
      let comes = come.comes x o is in
      let sig = signed_at was made o path (comes.1 ∙ (sym comes.2 ∙ at)) in
      (sig.0, sig.1, local (view_in was.sources) (view_in s) path (keeps_imports x path at outside) ∙ sig.2)

  -- nothing stands in a slot of the plan
  empty_slot : (x : ℕ) (sig : Sig) → x < length s.root.modules → slice_get slots x ≡ Some (Some sig) → ¬ (Has p.merged x)
  empty_slot x sig low there has =
      let none = kept.anew x (let many = come.many in omega arith) has in
      let both : Some None ≡ Some (Some sig) = sym none ∙ there in
      let z : None ≡ Some sig = one_value None (Some sig) both in
      let f : ⊥ = cc in f

  right_each : (x : ℕ) (path : Bytes) (sig : Sig) → slice_get (paths_in s) x ≡ Some path → slice_get slots x ≡ Some (Some sig) → merged (view_in s) path ≡ Some sig
  right_each x path sig at there =
      let low = low_path s x path at in
      let outside = empty_slot x sig low there in
      let o = number_of x low outside in
      let old = serves x path o.0 at outside o.1 in
      let slot = kept.kept x (Some o.0) o.1 outside in
      let same : Some old.0 ≡ Some sig = one_value (Some old.0) (Some sig) (ap Some (sym old.1) ∙ (sym slot ∙ there)) in
      old.2 ∙ same

  kept_made : (x : ℕ) → x < length s.root.modules → ¬ (Has p.merged x) → IsMade slots x
  kept_made x low outside =
      let h = here s sources x low in
      let o = number_of x low outside in
      let old = serves x h.row.path o.0 h.at_path outside o.1 in
      (old.0, kept.kept x (Some o.0) o.1 outside ∙ ap Some old.1)

  all_kept : AreMergedTo s p 0 slots
  all_kept = record {
    right = record { many = kept.many ∙ come.many; each = right_each };
    kept = kept_made;
    before = λ w k x less in_w member. absurd (omega arith);
  }

pub kept_are_right : IsLocal → KeptAreRight
kept_are_right local was s from touched p slots made sources come are_touched plan kept = all_kept local was s from touched p slots made sources come are_touched plan kept
