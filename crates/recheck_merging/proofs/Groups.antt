-- The components of a plan are merged one after the other, and its waves.
use Rattle.std.proofs.Common.{◌≡◌, ◌≢◌, ℕ, ◌+◌, ◌<◌, Bool, true, false, List, [], All, length, take, get_or, slice_get, Option, Some, refl, sym, ap, ◌∙◌, subst, inl, inr, arith}
use Rattle.std.proofs.lemmas.Bool.{cases_lt}
use Rattle.heap_core.specs.Meaning.{names}
use Rattle.heap_core.proofs.Lists.{get_index}
use Rattle.check_values.specs.declared.signatures.Sig.{Sig}
use Rattle.graph_search.specs.Cycles.{Has}
use Rattle.graph_search.specs.Components.{AreComponents, StandsIn}
use Rattle.graph_search.specs.Waves.{AreWaves, DependsOn}
use Rattle.graph_search.proofs.Lists.{has_more, has_none}
use Rattle.path_numbers.specs.affected_sizes.specs.Polls.{IsImport}
use Rattle.check_phases.specs.Sourced.{paths_in, view_in, AreSources}
use Rattle.check_phases.specs.Merging.{IsMade, HasMerged}
use Rattle.check_phases.specs.declared.merging.Sources.{Sources}
use Rattle.check_phases.proofs.Lists.{one_value, within_there, value_at, place_at, take_whole}
use Rattle.check_phases.proofs.Waves.{named_has, has_named}
use Rattle.recheck_merging.specs.Plans.{AreEdgesOf, IsPlan, numbers_at, edges_at}
use Rattle.recheck_merging.specs.Merging.{AreMergedTo, AreMergedIn, IsReady}
use Rattle.recheck_merging.specs.declared.planning.MergePlan.{MergePlan}
use Rattle.recheck_merging.proofs.Among.{path_at_place}
use Rattle.recheck_merging.proofs.Imported.{low_path}
use Rattle.recheck_merging.proofs.Mapped.{get_mapped, mapped_from, length_mapped, all_has, has_all}

-- ---- the components and waves of a plan

module _ (s : Sources) (p : MergePlan) (plan : IsPlan s p) where
  abbrev inner : List (List ℕ)
  inner = plan.waves.edges

  pub grouped : AreComponents inner p.components
  grouped = subst (AreComponents inner) plan.components plan.waves.are_components

  pub waved : AreWaves inner p.components p.waves
  waved = subst (λ (c : List (List ℕ)). AreWaves inner c p.waves) plan.components plan.waves.are_waves

  pub many_inner : length inner ≡ length p.merged
  many_inner = plan.waves.are_imports.len ∙ length_mapped (λ (y : ℕ). get_or (paths_in s) y []) p.merged

  -- the members of a component are places of the plan
  pub low_member : (k i : ℕ) → StandsIn p.components k i → i < length p.merged
  low_member k i stands = let low = grouped.within k i stands in let many = many_inner in omega arith

-- ---- as the code has the components of a wave

pub wave_numbers : (all waves : List (List ℕ)) (wave : ℕ) (ks numbers : List ℕ) → waves ≡ all → wave < length waves → ks ≡ get_or waves wave ks → numbers ≡ ks → numbers ≡ get_or all wave []
wave_numbers all waves wave ks numbers is_waves low_wave is_ks is_numbers =
    is_numbers ∙ (one_value ks (get_or waves wave []) (sym (get_index waves wave ks low_wave is_ks) ∙ place_at waves wave [] low_wave) ∙ ap (λ (l : List (List ℕ)). get_or l wave []) is_waves)

pub component_there : (waves all components : List (List ℕ)) (wave i k : ℕ) (numbers members group : List ℕ) → numbers ≡ get_or waves wave [] → k ≡ get_or numbers i 0 → components ≡ all → k < length components → members ≡ get_or components k members
    → group ≡ members → slice_get all (get_or (get_or waves wave []) i 0) ≡ Some group
component_there waves all components wave i k numbers members group is_numbers is_k is_components low_k is_members is_group =
    let number : get_or (get_or waves wave []) i 0 ≡ k = ap (λ (l : List ℕ). get_or l i 0) (sym is_numbers) ∙ sym is_k in
    (λ j. slice_get (sym is_components j) (number j)) ∙ (get_index components k members low_k is_members ∙ ap Some (sym is_group))

pub component_low : (s : Sources) (p : MergePlan) (wave i : ℕ) → IsPlan s p → wave < length p.waves → i < length (get_or p.waves wave []) → get_or (get_or p.waves wave []) i 0 < length p.components
component_low s p wave i plan low_wave low =
    (waved s p plan).within wave (get_or (get_or p.waves wave []) i 0) (get_or p.waves wave [], place_at p.waves wave [] low_wave, (i, place_at (get_or p.waves wave []) i 0 low))

pub places_low : (s : Sources) (p : MergePlan) (k : ℕ) (places : List ℕ) → IsPlan s p → slice_get p.components k ≡ Some places → All (λ i. i < length p.merged) places
places_low s p k places plan at = has_all (λ (i : ℕ). i < length p.merged) places (λ i has. low_member s p plan k i (places, at, has))

pub places_within : (s : Sources) (p : MergePlan) (k : ℕ) (places : List ℕ) → IsPlan s p → slice_get p.components k ≡ Some places → All (λ i. i < length p.edges.items) places
places_within s p k places plan at = has_all (λ (i : ℕ). i < length p.edges.items) places (λ i has. let low = low_member s p plan k i (places, at, has) in let many = plan.edges.len in omega arith)

-- ---- a component of the wave that is merged now is ready

-- a number of a group has a place in the plan
pub number_place : (s : Sources) (p : MergePlan) → IsPlan s p → (k : ℕ) (places : List ℕ) → slice_get p.components k ≡ Some places → (x : ℕ) → Has (numbers_at p.merged places) x
    → (i : ℕ) × Has places i × (slice_get p.merged i ≡ Some x)
number_place s p plan k places at x has =
    let from = mapped_from (λ (i : ℕ). get_or p.merged i 0) places has.0 x has.1 in
    let low = low_member s p plan k from.0 (places, at, (has.0, from.1)) in
    (from.0, (has.0, from.1), place_at p.merged from.0 0 low ∙ ap Some (sym from.2))

-- and a place of a component its number
pub place_number : (p : MergePlan) (places : List ℕ) (i x : ℕ) → Has places i → slice_get p.merged i ≡ Some x → Has (numbers_at p.merged places) x
place_number p places i x has at =
    (has.0, get_mapped (λ (j : ℕ). get_or p.merged j 0) places has.0 i has.1 ∙ ap Some (sym (value_at p.merged i x 0 at)))

module _ (s : Sources) (p : MergePlan) (plan : IsPlan s p) (k : ℕ) (places : List ℕ) (at : slice_get p.components k ≡ Some places) where
  abbrev number : ℕ → ℕ
  number i = get_or p.merged i 0

  abbrev list : ℕ → List ℕ
  list i = get_or p.edges.items i []

  number_there : (i : ℕ) → Has places i → slice_get p.merged i ≡ Some (number i)
  number_there i has = place_at p.merged i 0 (low_member s p plan k i (places, at, has))

  list_there : (i : ℕ) → Has places i → slice_get p.edges.items i ≡ Some (list i)
  list_there i has = place_at p.edges.items i [] (let small = low_member s p plan k i (places, at, has) in let many = plan.edges.len in omega arith)

  group_edges : AreEdgesOf s (numbers_at p.merged places) (edges_at p.edges.items places)
  group_edges = record {
    len = length_mapped list places ∙ sym (length_mapped number places);
    sound = λ j x y at_x edge.
        let i = mapped_from number places j x at_x in
        let e = mapped_from list places j edge.0 edge.1 in
        let same : e.0 ≡ i.0 = one_value e.0 i.0 (sym e.1 ∙ i.1) in
        plan.edges.sound i.0 x y (number_there i.0 (j, i.1) ∙ ap Some (sym i.2)) (edge.0, list_there i.0 (j, i.1) ∙ ap Some (sym (e.2 ∙ ap list same)), edge.2);
    complete = λ j x y at_x import.
        let i = mapped_from number places j x at_x in
        let edge = plan.edges.complete i.0 x y (number_there i.0 (j, i.1) ∙ ap Some (sym i.2)) import in
        (edge.0, get_mapped list places j i.0 i.1 ∙ ap Some (sym (value_at p.edges.items i.0 edge.0 [] edge.1)), edge.2);
  }

pub ready_now : (s : Sources) (p : MergePlan) (wave n k : ℕ) (ks places : List ℕ) (made : List (Option Sig)) → AreSources s → IsPlan s p → slice_get p.waves wave ≡ Some ks → slice_get ks n ≡ Some k → slice_get p.components k ≡ Some places
    → AreMergedTo s p wave made → IsReady s (numbers_at p.merged places) (edges_at p.edges.items places) made
ready_now s p wave n k ks places made sources plan at_wave at_k at_places merged = record {
  within = λ x named. let it = place_of x named in all_has (λ (y : ℕ). y < length s.root.modules) p.merged plan.within x (it.0, it.2);
  edges_are = group_edges s p plan k places at_places;
  before = λ x y named import apart. go x y named import apart (names p.merged y) refl;
}
  where
    place_of : (x : ℕ) → names (numbers_at p.merged places) x ≡ true → (i : ℕ) × Has places i × (slice_get p.merged i ≡ Some x)
    place_of x named = number_place s p plan k places at_places x (named_has (numbers_at p.merged places) x named)

    go : (x y : ℕ) → names (numbers_at p.merged places) x ≡ true → IsImport (view_in s) (paths_in s) x y → names (numbers_at p.merged places) y ≡ false → (b : Bool) → names p.merged y ≡ b → IsMade made y
    go x y named import apart false other =
        merged.kept y (low_path s y import.other import.at_other) (λ has. let z : false ≡ true = sym other ∙ has_named p.merged y has in cc)
    go x y named import apart true among =
        let i = place_of x named in
        let j = named_has p.merged y among in
        let edge = plan.waves.are_imports.complete i.0 j.0 (record {
          path = import.path;
          other = import.other;
          at_path = path_at_place (paths_in s) p.merged i.0 x import.path i.2 import.at_path;
          at_other = path_at_place (paths_in s) p.merged j.0 y import.other j.1 import.at_other;
          edge = import.edge;
        }) in
        let there = (grouped s p plan).whole j.0 (let low = within_there p.merged j.0 y j.1 in let many = many_inner s p plan in omega arith) in
        let l = there.0 in
        let ne : k ≢ l = (λ (same : k ≡ l).
        let mine : there.1.0 ≡ places = one_value there.1.0 places (sym there.1.1 ∙ (ap (slice_get p.components) (sym same) ∙ at_places)) in
        let z : false ≡ true = sym apart ∙ has_named (numbers_at p.merged places) y (place_number p places j.0 y (subst (λ (m : List ℕ). Has m j.0) mine there.1.2) j.1) in
        cc) in
        let stands : StandsIn p.components k i.0 = (places, at_places, i.1) in
        let depends : DependsOn (plan.waves.edges) p.components k l = (ne, (i.0, j.0, stands, there.1, edge)) in
        let v = (waved s p plan).whole l (within_there p.components l there.1.0 there.1.1) in
        let earlier = (waved s p plan).later k l wave v.0 depends (ks, at_wave, (n, at_k)) v.1 in
        merged.before v.0 l y earlier v.1 (j.0, there.1, j.1)

-- one more component of the wave is merged
pub merged_here : (s : Sources) (p : MergePlan) (wave i : ℕ) (places : List ℕ) (old new : List (Option Sig)) → slice_get p.components (get_or (get_or p.waves wave []) i 0) ≡ Some places
    → AreMergedIn s p wave (take i (get_or p.waves wave [])) old → HasMerged s (numbers_at p.merged places) old new → AreMergedIn s p wave (take (i + 1) (get_or p.waves wave [])) new
merged_here s p wave i places old new at so_far now = record {
  to = record {
    right = now.right;
    kept = λ x low outside. now.keeps x (so_far.to.kept x low outside);
    before = λ w k x less in_w member. now.keeps x (so_far.to.before w k x less in_w member);
  };
  so_far = λ k x has member. elim (has_more (get_or p.waves wave []) i k has) [
    | inl earlier ↦ now.keeps x (so_far.so_far k x earlier member)
    | inr same ↦
        let mine : member.1.0 ≡ places = one_value member.1.0 places (sym member.1.1 ∙ (ap (slice_get p.components) (sym same) ∙ at)) in
        now.made x (has_named (numbers_at p.merged places) x (place_number p places member.0 x (subst (λ (l : List ℕ). Has l member.0) mine member.1.2) member.2))
  ];
}

-- none of the wave is merged yet
pub wave_begins : (s : Sources) (p : MergePlan) (wave : ℕ) (made : List (Option Sig)) → AreMergedTo s p wave made → AreMergedIn s p wave [] made
wave_begins s p wave made merged = record { to = merged; so_far = λ k x has. absurd (has_none k has) }

-- all of it is merged
pub wave_ends : (s : Sources) (p : MergePlan) (wave i : ℕ) (ks : List ℕ) (made : List (Option Sig)) → slice_get p.waves wave ≡ Some ks → i ≡ length ks → AreMergedIn s p wave (take i ks) made → AreMergedTo s p (wave + 1) made
wave_ends s p wave i ks made at_wave all now = record {
  right = now.to.right;
  kept = now.to.kept;
  before = λ w k x less in_w member. elim (cases_lt w wave) [
    | inl before ↦ now.to.before w k x before in_w member
    | inr behind ↦
        let same : w ≡ wave = omega arith in
        let mine : in_w.0 ≡ ks = one_value in_w.0 ks (sym in_w.1 ∙ (ap (slice_get p.waves) same ∙ at_wave)) in
        let here : Has (take i ks) k = subst (λ (l : List ℕ). Has l k) (mine ∙ (sym (take_whole ks) ∙ ap (λ (n : ℕ). take n ks) (sym all))) in_w.2 in
        now.so_far k x here member
  ];
}
