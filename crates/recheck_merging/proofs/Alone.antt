-- A component is kept exactly where it is left alone.
use Rattle.std.proofs.Common.{◌≡◌, ◌&&◌, ℕ, suc, ◌<◌, Bool, true, false, not, List, [], ◌∷◌, length, get_or, slice_get, Option, Some, None, refl, sym, ap, ◌∙◌, subst, arith}
use Rattle.std.specs.List.{list_all}
use Rattle.flow_base.specs.Program.{Bytes}
use Rattle.heap_core.specs.Meaning.{names}
use Rattle.heap_core.proofs.Lists.{get_there}
use Rattle.check_values.specs.declared.signatures.Sig.{Sig}
use Rattle.graph_search.specs.Cycles.{Has}
use Rattle.graph_search.specs.Components.{StandsIn}
use Rattle.merged_signatures.specs.Merged.{merged}
use Rattle.merged_signatures.specs.Settled.{AJobTellsTheProgram}
use Rattle.path_numbers.specs.affected_sizes.specs.Polls.{IsImport}
use Rattle.check_phases.specs.Sourced.{paths_in, view_in}
use Rattle.check_phases.specs.Merging.{IsMade}
use Rattle.check_phases.specs.declared.merging.Sources.{Sources}
use Rattle.check_phases.proofs.Lists.{one_value, value_at, place_at}
use Rattle.check_phases.proofs.Waves.{named_has, has_named}
use Rattle.recheck_merging.specs.Plans.{numbers_at, edges_at}
use Rattle.recheck_merging.specs.Keeping.{kept_in}
use Rattle.recheck_merging.specs.Merging.{IsMember, IsReady, AreMergedTo}
use Rattle.recheck_merging.specs.Still.{IsEdit, AreOld, HasItsOld, IsLeftAlone, KeptAreLeftAlone, is_still, are_still}
use Rattle.recheck_merging.specs.declared.planning.MergePlan.{MergePlan}
use Rattle.recheck_merging.specs.declared.still.Edit.{Edit}
use Rattle.recheck_merging.proofs.Groups.{waved, low_member, place_number, ready_now}
use Rattle.recheck_merging.proofs.Imported.{low_path}
use Rattle.recheck_merging.proofs.Keeps.{signed_at}
use Rattle.recheck_merging.proofs.Mapped.{all_has}
use Rattle.recheck_merging.proofs.OldJobs.{kept_told, kept_signed}
use Rattle.recheck_merging.proofs.Unmoved.{list_each, on_at, at_place, calm, olds, has_old}

both_on : (a b : Bool) → a ≡ true → b ≡ true → (a && b) ≡ true
both_on true b on rest = rest
both_on false b on rest = absurd (let z : false ≡ true = on in cc)

each_list : {A : Type 0} (test : A → Bool) (xs : List A) → ((i : ℕ) (x : A) → slice_get xs i ≡ Some x → test x ≡ true) → list_all test xs ≡ true
each_list test [] each = refl
each_list test (x ∷ xs) each = both_on (test x) (list_all test xs) (each 0 x refl) (each_list test xs (λ i y at. each (suc i) y at))

module _ (e : Edit) (is : IsEdit e) where
  abbrev s : Sources
  s = e.sources.now

  abbrev p : MergePlan
  p = e.plan.now

  -- a module whose signature is its old one had that in the old program
  had : (y : ℕ) (path : Bytes) (sig : Sig) → slice_get (paths_in s) y ≡ Some path → kept_in e.was.now.signatures.items (get_or e.from.now y None) ≡ Some sig → merged (view_in s) path ≡ Some sig → HasItsOld e y
  had y path sig at kept now = go (get_or e.from.now y None) (place_at e.from.now y None (let low = low_path s y path at in let many = is.come.many in omega arith)) kept
    where
      go : (n : Option ℕ) → slice_get e.from.now y ≡ Some n → kept_in e.was.now.signatures.items n ≡ Some sig → HasItsOld e y
      go None at_n none = absurd (let z : None ≡ Some sig = none in cc)
      go (Some o) at_n there = record { number = o; path = path; came = at_n; at_path = at; same = now ∙ sym (kept_told e is y path sig at kept) }

  -- and the other way round
  kept_of : (y : ℕ) (sig : Sig) (h : HasItsOld e y) → merged (view_in s) h.path ≡ Some sig → kept_in e.was.now.signatures.items (get_or e.from.now y None) ≡ Some sig
  kept_of y sig h now =
      let comes = is.come.comes y h.number h.came in
      let signed = signed_at e.was.now is.made h.number h.path (comes.1 ∙ (sym comes.2 ∙ h.at_path)) in
      let same : signed.0 ≡ sig = one_value signed.0 sig (sym signed.2 ∙ (sym h.same ∙ now)) in
      ap (kept_in e.was.now.signatures.items) (sym (value_at e.from.now y (Some h.number) None h.came)) ∙ (signed.1 ∙ ap Some same)

  module _ (wave k : ℕ) (made : List (Option Sig)) (same : List Bool) (to : AreMergedTo s p wave made) (old : AreOld e.was.now.signatures.items e.from.now made same) (places : List ℕ) (at : slice_get p.components k ≡ Some places)
      (ready : IsReady s (numbers_at p.merged places) (edges_at p.edges.items places) made) where
    abbrev group : List ℕ
    group = numbers_at p.merged places

    -- the place of a member
    member_here : (x : ℕ) → IsMember p k x → (i : ℕ) × Has places i × (slice_get p.merged i ≡ Some x)
    member_here x member =
        let mine : member.1.0 ≡ places = one_value member.1.0 places (sym member.1.1 ∙ at) in
        (member.0, subst (λ (l : List ℕ). Has l member.0) mine member.1.2, member.2)

    in_group : (x : ℕ) → IsMember p k x → Has group x
    in_group x member = let here = member_here x member in place_number p places here.0 x here.1 here.2

    module _ (tells : AJobTellsTheProgram) (still : are_still e.touched.now same p places ≡ true) where
      -- what one of its members imports has its old signature
      inside : (y : ℕ) (path : Bytes) → slice_get (paths_in s) y ≡ Some path → Has group y → HasItsOld e y
      inside y path at_path has =
          let sig = has_old e is same k places at still y has (low_path s y path at_path) in
          had y path sig.0 at_path sig.1 (kept_signed e is made group (edges_at p.edges.items places) to.right ready (calm e is same k places at still) (olds e is same k places at still made old) tells y sig.0 has sig.1 path at_path)

      outside : (x y : ℕ) (path : Bytes) → IsMember p k x → slice_get (paths_in s) y ≡ Some path → IsImport (view_in s) (paths_in s) x y → IsMade made y → HasItsOld e y
      outside x y path member at_path import is_made =
          let here = member_here x member in
          let edge = is.plan.edges.complete here.0 x y here.2 import in
          let on = (at_place e is same k places at still here.0 here.1).1 in
          let listed : slice_get (get_or p.edges.items here.0 []) edge.2.0 ≡ Some y = ap (λ (ys : List ℕ). slice_get ys edge.2.0) (sym (value_at p.edges.items here.0 edge.0 [] edge.1)) ∙ edge.2.1 in
          let flag = on_at same y (list_each (λ (n : ℕ). get_or same n false) (get_or p.edges.items here.0 []) edge.2.0 y on listed) in
          had y path is_made.0 at_path ((old.old y is_made.0 true flag is_made.1).0 refl) (to.right.each y path is_made.0 at_path is_made.1)

      alone : IsLeftAlone e k
      alone x member = (
        λ on. calm e is same k places at still x (in_group x member) (is.marks.only x on),
        λ y import. go y import (names group y) refl,
      )
        where
          go : (y : ℕ) → IsImport (view_in s) (paths_in s) x y → (b : Bool) → names group y ≡ b → HasItsOld e y
          go y import true named = inside y import.other import.at_other (named_has group y named)
          go y import false apart = outside x y import.other member import.at_other import (ready.before x y (has_named group x (in_group x member)) import apart)

    module _ (alone : IsLeftAlone e k) where
      -- the flag of what has its old signature is on
      flag_on : (y : ℕ) → HasItsOld e y → get_or same y false ≡ true
      flag_on y h =
          let low = low_path s y h.path h.at_path in
          let slot = get_there made y (let many = to.right.many in omega (arith, many, low)) in
          let flag = get_there same y (let many = old.many in let all = to.right.many in omega (arith, many, all, low)) in
          sym (value_at same y flag.0 false flag.1) ∙ go slot.0 slot.1 flag.0 flag.1
        where
          go : (o : Option Sig) → slice_get made y ≡ Some o → (b : Bool) → slice_get same y ≡ Some b → b ≡ true
          go None none b is_b = one_value b true (sym is_b ∙ old.yet y none)
          go (Some sig) there b is_b = (old.old y sig b is_b there).1 (kept_of y sig h (to.right.each y h.path sig h.at_path there))

      -- that of a member as touched is off
      flag_off : (x : ℕ) → IsMember p k x → x < length s.root.modules → not (get_or e.touched.now x true) ≡ true
      flag_off x member low =
          let flag = get_there e.touched.now x (let many = is.marks.len in omega (arith, many, low)) in
          ap not (sym (value_at e.touched.now x flag.0 true flag.1)) ∙ go flag.0 flag.1
        where
          go : (b : Bool) → slice_get e.touched.now x ≡ Some b → not b ≡ true
          go true on = absurd ((alone x member).0 on)
          go false off = refl

      still_at : (j i : ℕ) → slice_get places j ≡ Some i → is_still e.touched.now same p i ≡ true
      still_at j i at_i =
          let stands : StandsIn p.components k i = (places, at, (j, at_i)) in
          let low = low_member s p is.plan k i stands in
          let x = get_or p.merged i 0 in
          let at_x : slice_get p.merged i ≡ Some x = place_at p.merged i 0 low in
          let member : IsMember p k x = (i, stands, at_x) in
          let small = all_has (λ (n : ℕ). n < length s.root.modules) p.merged is.plan.within x (i, at_x) in
          let low_edges : i < length p.edges.items = (let many = is.plan.edges.len in omega (arith, many, low)) in
          both_on (not (get_or e.touched.now x true)) (list_all (λ y. get_or same y false) (get_or p.edges.items i [])) (flag_off x member small)
          (each_list (λ (y : ℕ). get_or same y false) (get_or p.edges.items i []) (λ n y at_y.
          flag_on y ((alone x member).1 y (is.plan.edges.sound i x y at_x (get_or p.edges.items i [], place_at p.edges.items i [] low_edges, (n, at_y))))))

      are_alone : are_still e.touched.now same p places ≡ true
      are_alone = each_list (is_still e.touched.now same p) places still_at

pub kept_are_left_alone : AJobTellsTheProgram → KeptAreLeftAlone
kept_are_left_alone tells e wave k made same is in_wave to old =
    let components = get_there e.plan.now.components k ((waved e.sources.now e.plan.now is.plan).within wave k in_wave) in
    let places = components.0 in
    let ready = ready_now e.sources.now e.plan.now wave in_wave.2.0 k in_wave.0 places made is.sources is.plan in_wave.1 in_wave.2.1 components.1 to in
    let here : get_or e.plan.now.components k [] ≡ places = sym (value_at e.plan.now.components k places [] components.1) in (
      λ kept. alone e is wave k made same to old places components.1 ready tells (ap (are_still e.touched.now same e.plan.now) (sym here) ∙ kept),
      λ left. ap (are_still e.touched.now same e.plan.now) here ∙ are_alone e is wave k made same to old places components.1 ready left,
    )
