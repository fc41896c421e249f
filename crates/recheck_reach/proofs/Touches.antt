-- Modules of which what merging sees differs are touched.
use Rattle.std.proofs.Common.{◌≡◌, ◌≢◌, ℕ, ◌<◌, List, length, slice_get, Option, Some, None, sym, ap, ◌∙◌, arith}
use Rattle.flow_base.specs.Program.{Bytes, text_at}
use Rattle.heap_core.proofs.Lists.{get_there}
use Rattle.check_values.specs.declared.signatures.Deps.{Deps}
use Rattle.recheck_sources.specs.source_front.specs.declared.parse.Parse.{Parse}
use Rattle.graph_search.specs.Cycles.{Has}
use Rattle.merged_signatures.specs.Chains.{Known}
use Rattle.recheck_sources.specs.affected_law.specs.Affected.{Differs}
use Rattle.recheck_merging.specs.path_numbers.specs.Sets.{ArePlaces}
use Rattle.recheck_merging.specs.payloads.specs.State.{program_of}
use Rattle.recheck_sources.specs.edited_root.specs.From.{numbers_from}
use Rattle.recheck_sources.specs.edited_root.proofs.Users.{many_from, was_module, was_none}
use Rattle.recheck_sources.specs.edited_root.proofs.Walked.{number_here}
use Rattle.recheck_merging.specs.check_phases.specs.Sourced.{paths_in, view_in, AreSources}
use Rattle.recheck_merging.specs.check_phases.specs.declared.merging.Sources.{Sources}
use Rattle.recheck_merging.specs.check_phases.proofs.Lists.{one_value, within_there}
use Rattle.recheck_merging.specs.check_phases.proofs.Merges.{path_get}
use Rattle.recheck_merging.specs.Keeping.{ComeFrom, AreTouched}
use Rattle.recheck_merging.proofs.Imported.{known_here, here, low_path}
use Rattle.recheck_merging.proofs.Leads.{seen_place}
use Rattle.recheck_reach.specs.Law.{DiffersAreTouched}

module _ (was s : Sources) (from : List (Option ℕ)) (is : from ≡ numbers_from was.root s.root) where
  low_from : (x : ℕ) (o : Option ℕ) → slice_get from x ≡ Some o → x < length s.root.modules
  low_from x o at = let low = within_there from x o at in let many = many_from was.root s.root from is in omega arith

  comes : (x o : ℕ) → slice_get from x ≡ Some (Some o) → (path : Bytes) × (slice_get (paths_in was) o ≡ Some path) × (slice_get (paths_in s) x ≡ Some path)
  comes x o at =
      let m = get_there s.root.modules x (low_from x (Some o) at) in
      let n = was_module was.root s.root from is x o m.0 m.1 at in
      (m.0.path, path_get was.root.modules o n.0 n.1 ∙ ap Some n.2, path_get s.root.modules x m.0 m.1)

  come_from : ComeFrom was s from
  come_from = record { many = many_from was.root s.root from is; comes = comes }

  module _ (touched : List ℕ) (old : AreSources was) (sources : AreSources s) (places : ArePlaces (Differs (view_in was) (view_in s)) (paths_in s) touched) where
    -- one that was no module
    fresh : (x : ℕ) → slice_get from x ≡ Some None → Has touched x
    fresh x at =
        let h = here s sources x (low_from x None at) in
        places.complete x h.row.path h.at_path (λ same. (
        let z = seen_place was h.row.path (known_here s x h) (sym same ∙ h.seen) in
        let n = get_there was.root.modules z.0 (low_path was z.0 h.row.path z.1) in
        let there : n.0.path ≡ h.row.path = one_value n.0.path h.row.path (sym (path_get was.root.modules z.0 n.0 n.1) ∙ z.1) in
        let had : text_at (program_of was.root) h.row.path ≡ Some n.0.text = ap (text_at (program_of was.root)) (sym there) ∙ (number_here was.root.modules z.0 n.0 old.rising n.1).1 in
        let bad : None ≡ Some n.0.text = sym (was_none was.root s.root from is x h.row h.at_row at) ∙ had in let f : ⊥ = cc in f))

    -- one that is seen as it was says and lists what it did
    seen_same : (x o : ℕ) (p q : Parse) (d e : Deps) (path : Bytes) → slice_get from x ≡ Some (Some o) → slice_get was.parses.items o ≡ Some p → slice_get s.parses.items x ≡ Some q → slice_get was.lists.items o ≡ Some d → slice_get s.lists.items x ≡ Some e
        → slice_get (paths_in s) x ≡ Some path → view_in s path ≡ view_in was path → (q.sig ≡ p.sig) × (e ≡ d)
    seen_same x o p q d e path at at_p at_q at_d at_e at_path same =
        let h = here s sources x (low_from x (Some o) at) in
        let c = comes x o at in
        let g = here was old o (low_path was o c.0 c.1) in
        let new_path : h.row.path ≡ path = one_value h.row.path path (sym h.at_path ∙ at_path) in
        let old_path : g.row.path ≡ path = one_value g.row.path path (sym g.at_path ∙ (c.1 ∙ (sym c.2 ∙ at_path))) in
        let known : known_here s x h ≡ known_here was o g = one_value (known_here s x h) (known_here was o g) (sym h.seen ∙ (ap (view_in s) new_path ∙ (same ∙ (ap (view_in was) (sym old_path) ∙ g.seen)))) in
        let parse_q : h.parse ≡ q = one_value h.parse q (sym h.at_parse ∙ at_q) in
        let parse_p : g.parse ≡ p = one_value g.parse p (sym g.at_parse ∙ at_p) in
        let deps_e : h.deps ≡ e = one_value h.deps e (sym h.at_deps ∙ at_e) in
        let deps_d : g.deps ≡ d = one_value g.deps d (sym g.at_deps ∙ at_d) in (
          ap (λ (t : Parse). t.sig) (sym parse_q) ∙ (ap (λ (k : Known). k.sig) known ∙ ap (λ (t : Parse). t.sig) parse_p),
          sym deps_e ∙ (ap (λ (k : Known). k.deps) known ∙ deps_d),
        )

    signed : (x o : ℕ) (p q : Parse) → slice_get from x ≡ Some (Some o) → slice_get was.parses.items o ≡ Some p → slice_get s.parses.items x ≡ Some q → q.sig ≢ p.sig → Has touched x
    signed x o p q at at_p at_q differs =
        let h = here s sources x (low_from x (Some o) at) in
        let c = comes x o at in
        let g = here was old o (low_path was o c.0 c.1) in
        places.complete x h.row.path h.at_path (λ same. differs (seen_same x o p q g.deps h.deps h.row.path at at_p at_q g.at_deps h.at_deps h.at_path same).0)

    listed : (x o : ℕ) (d e : Deps) → slice_get from x ≡ Some (Some o) → slice_get was.lists.items o ≡ Some d → slice_get s.lists.items x ≡ Some e → e ≢ d → Has touched x
    listed x o d e at at_d at_e differs =
        let h = here s sources x (low_from x (Some o) at) in
        let c = comes x o at in
        let g = here was old o (low_path was o c.0 c.1) in
        places.complete x h.row.path h.at_path (λ same. differs (seen_same x o g.parse h.parse d e h.row.path at g.at_parse h.at_parse at_d at_e h.at_path same).1)

    are_touched : AreTouched was s from touched
    are_touched = record { fresh = fresh; signed = signed; listed = listed }

pub differs_are_touched : DiffersAreTouched
differs_are_touched was s from touched old sources is places = (come_from was s from is, are_touched was s from is touched old sources places)
