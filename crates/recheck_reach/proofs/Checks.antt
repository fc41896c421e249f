-- What is to be checked, by what changed and what moved, are the paths that an edit may give other errors.
use Rattle.std.proofs.Common.{◌≡◌, ℕ, ◌<◌, Bool, true, false, List, [], ◌∷◌, map, length, slice_get, Option, Some, None, option_map, refl, sym, ap, ◌∙◌, subst, inl, inr, arith}
use Rattle.flow_base.specs.Program.{Bytes, text_at}
use Rattle.heap_core.proofs.Lists.{get_there}
use Rattle.check_values.specs.Rows.{row_at}
use Rattle.check_values.specs.declared.signatures.Deps.{Deps}
use Rattle.check_values.specs.declared.signatures.Sig.{Sig}
use Rattle.recheck_sources.specs.source_front.specs.declared.parse.Parse.{Parse}
use Rattle.recheck_sources.specs.source_front.specs.Law.{OneParse}
use Rattle.graph_search.specs.Cycles.{Has, IsOn}
use Rattle.merged_signatures.specs.Chains.{Known, View, found}
use Rattle.merged_signatures.specs.Imports as imports
use Rattle.errors_by_reach.specs.Seen.{Sigs}
use Rattle.recheck_merging.specs.program_check.specs.Full as whole
use Rattle.recheck_merging.specs.program_check.specs.Full.{Results, beside, known_of}
use Rattle.recheck_sources.specs.affected_law.specs.Affected.{IsPathOf, results_at, Differs, Checked, by_text, by_deps}
use Rattle.recheck_sources.specs.affected_law.specs.Inside.{NamedIsKnown}
use Rattle.recheck_sources.specs.affected_law.proofs.Places.{made_at, module_at, is_path}
use Rattle.recheck_merging.specs.affected_sizes.specs.Polls.{IsImport}
use Rattle.recheck_plan.specs.Affected.{AreExactly}
use Rattle.recheck_merging.specs.recheck_law.specs.Names.{LeadsByNames, LeadsToMoved, text_differs, deps_differ, finds_moved, CheckedIsByNames}
use Rattle.recheck_merging.specs.path_numbers.specs.Sets.{ArePlaces}
use Rattle.recheck_merging.specs.path_numbers.proofs.Sets.{are_paths}
use Rattle.recheck_merging.specs.path_numbers.proofs.Ways.{has_path_of, names_inside}
use Rattle.recheck_merging.specs.payloads.specs.State.{program_of}
use Rattle.recheck_sources.specs.edited_root.specs.From.{numbers_from}
use Rattle.recheck_sources.specs.edited_root.proofs.Users.{many_from, was_module, was_none}
use Rattle.recheck_sources.specs.edited_root.proofs.Walked.{number_here}
use Rattle.recheck_merging.specs.check_phases.specs.Phases.{knowns, AreMerged}
use Rattle.recheck_merging.specs.check_phases.specs.Sourced.{program_in, paths_in, view_in, AreSources}
use Rattle.recheck_merging.specs.check_phases.specs.Whole.{sigs_by, AreMade}
use Rattle.recheck_merging.specs.check_phases.specs.declared.merging.Sources.{Sources}
use Rattle.recheck_merging.specs.check_phases.specs.declared.phases.Made.{Made}
use Rattle.recheck_merging.specs.check_phases.proofs.Lists.{one_value, same_paths}
use Rattle.recheck_merging.specs.check_phases.proofs.Merges.{many_parses, many_lists, path_get}
use Rattle.recheck_merging.proofs.Imported.{low_path}
use Rattle.recheck_merging.proofs.Keeps.{imports_place}
use Rattle.recheck_sources.specs.Changed.{list_at, IsChanged}
use Rattle.recheck_sources.specs.Parts.{TellsOthers}
use Rattle.recheck_reach.specs.Checked.{IsStirred, IsToCheckIn}
use Rattle.recheck_reach.specs.Law.{CheckedAreOfChecked, UnmovedAreChanged}
use Rattle.recheck_reach.proofs.Leads.{signed_place}
use Rattle.recheck_reach.proofs.Named.{sig_at}
use Rattle.recheck_reach.proofs.Rests.{many_merged}
use Rattle.recheck_reach.proofs.Wholes.{IsCheckOf, check_of}

-- ---- what a full check says of a module

some_mapped : {X Y : Type 0} (f : X → Y) (o : Option X) (y : Y) → option_map f o ≡ Some y → (x : X) × (o ≡ Some x) × (f x ≡ y)
some_mapped f None y is = absurd (let z : None ≡ Some y = is in cc)
some_mapped f (Some x) y is = (x, refl, one_value (f x) y is)

deps_of_known : (parses : List Parse) (lists : List Deps) → length parses ≡ length lists → map (λ (k : Known). k.deps) (knowns parses lists) ≡ lists
deps_of_known [] [] many = refl
deps_of_known [] (d ∷ lists) many = absurd (omega (arith, many))
deps_of_known (p ∷ parses) [] many = absurd (omega (arith, many))
deps_of_known (p ∷ parses) (d ∷ lists) many = ap (λ (l : List Deps). d ∷ l) (deps_of_known parses lists (omega (arith, many)))

module _ (s : Sources) (sigs : List Sig) (results : List Results) (sources : AreSources s) (check : IsCheckOf s sigs results) where
  view_results : (path : Bytes) → view_in s path ≡ option_map known_of (results_at (program_in s) results path)
  view_results path = ap (λ (v : View). v path) (sym check.seen) ∙ made_at known_of (program_in s) results path

  list_results : (path : Bytes) → list_at s path ≡ option_map (λ (r : Results). r.deps) (results_at (program_in s) results path)
  list_results path =
      let many = many_parses s sources in
      let lists = many_lists s sources in
      let all = deps_of_known s.parses.items s.lists.items (omega arith) in
      ap (λ (l : List Deps). row_at (beside (program_in s) l) path) (sym all) ∙ (made_at (λ (k : Known). k.deps) (program_in s) (knowns s.parses.items s.lists.items) path
      ∙ (ap (option_map (λ (k : Known). k.deps)) (view_results path) ∙ twice (results_at (program_in s) results path)))
    where
      twice : (o : Option Results) → option_map (λ (k : Known). k.deps) (option_map known_of o) ≡ option_map (λ (r : Results). r.deps) o
      twice None = refl
      twice (Some r) = refl

  listed : (path : Bytes) (d : Deps) → list_at s path ≡ Some d → (r : Results) × (results_at (program_in s) results path ≡ Some r) × (r.deps ≡ d)
  listed path d is = some_mapped (λ (r : Results). r.deps) (results_at (program_in s) results path) d (sym (list_results path) ∙ is)

  list_of : (path : Bytes) (r : Results) → results_at (program_in s) results path ≡ Some r → list_at s path ≡ Some r.deps
  list_of path r is = list_results path ∙ ap (option_map (λ (t : Results). t.deps)) is

  known : (path : Bytes) (k : Known) → view_in s path ≡ Some k → (r : Results) × (results_at (program_in s) results path ≡ Some r) × (known_of r ≡ k)
  known path k is = some_mapped known_of (results_at (program_in s) results path) k (sym (view_results path) ∙ is)

  known_as : (path : Bytes) (r : Results) → results_at (program_in s) results path ≡ Some r → view_in s path ≡ Some (known_of r)
  known_as path r is = view_results path ∙ ap (option_map known_of) is

  -- the place of a path of the program
  place_of : (path : Bytes) → IsPathOf (program_in s) path → (x : ℕ) × (slice_get (paths_in s) x ≡ Some path)
  place_of path is = let has = has_path_of (program_in s) path is in (has.0, ap (λ (ps : List Bytes). slice_get ps has.0) (sym (same_paths s.root)) ∙ has.1)

  place_with : (path : Bytes) (r : Results) → results_at (program_in s) results path ≡ Some r → (x : ℕ) × (slice_get (paths_in s) x ≡ Some path)
  place_with path r is = let m = module_at (program_in s) results path r check.full is in place_of path (is_path (program_in s) path m.0 m.1.has_text)

-- ---- flags

module _ (was : Made) (s : Sources) (sigs : List Sig) (from : List (Option ℕ)) (moved : List Bool) (made : AreMade was) (sources : AreSources s) (merged : AreMerged (view_in s) (program_in s) sigs)
    (is : from ≡ numbers_from was.sources.root s.root) (tells : TellsOthers was.signatures.items from sigs moved) where
  abbrev old_sigs : Sigs
  old_sigs = sigs_by was.sources was.signatures.items

  abbrev new_sigs : Sigs
  new_sigs = sigs_by s sigs

  -- the module was this one
  was_path : (x o : ℕ) (path : Bytes) → slice_get (paths_in s) x ≡ Some path → slice_get from x ≡ Some (Some o) → slice_get (paths_in was.sources) o ≡ Some path
  was_path x o path at has =
      let m = get_there s.root.modules x (low_path s x path at) in
      let n = was_module was.sources.root s.root from is x o m.0 m.1 has in
      let same : m.0.path ≡ path = one_value m.0.path path (sym (path_get s.root.modules x m.0 m.1) ∙ at) in
      path_get was.sources.root.modules o n.0 n.1 ∙ ap Some (n.2 ∙ same)

  -- it was none, so it had no signature
  was_unsigned : (x : ℕ) (path : Bytes) (sig : Sig) → slice_get (paths_in s) x ≡ Some path → slice_get from x ≡ Some None → old_sigs path ≡ Some sig → ⊥
  was_unsigned x path sig at has signed =
      let m = get_there s.root.modules x (low_path s x path at) in
      let same : m.0.path ≡ path = one_value m.0.path path (sym (path_get s.root.modules x m.0 m.1) ∙ at) in
      let gone : text_at (program_of was.sources.root) path ≡ None = ap (text_at (program_of was.sources.root)) (sym same) ∙ was_none was.sources.root s.root from is x m.0 m.1 has in
      let z = signed_place was.sources was.signatures.items path sig signed in
      let n = get_there was.sources.root.modules z.0 (low_path was.sources z.0 path z.1) in
      let there : n.0.path ≡ path = one_value n.0.path path (sym (path_get was.sources.root.modules z.0 n.0 n.1) ∙ z.1) in
      let had : text_at (program_of was.sources.root) path ≡ Some n.0.text = ap (text_at (program_of was.sources.root)) (sym there) ∙ (number_here was.sources.root.modules z.0 n.0 made.sources.rising n.1).1 in
      let bad : None ≡ Some n.0.text = sym gone ∙ had in let f : ⊥ = cc in f

  flag_differs : (x : ℕ) (path : Bytes) → slice_get (paths_in s) x ≡ Some path → IsOn moved x → Differs old_sigs new_sigs path
  flag_differs x path at on same = go o.0 o.1
    where
      low : x < length s.root.modules
      low = low_path s x path at

      sig : (g : Sig) × (slice_get sigs x ≡ Some g)
      sig = get_there sigs x (let many = many_merged s sigs merged in omega (arith, low))

      signed : old_sigs path ≡ Some sig.0
      signed = sym same ∙ sig_at s sigs sources x path sig.0 at sig.1

      o : (q : Option ℕ) × (slice_get from x ≡ Some q)
      o = get_there from x (let many = many_from was.sources.root s.root from is in omega (arith, low))

      go : (q : Option ℕ) → slice_get from x ≡ Some q → ⊥
      go None has = was_unsigned x path sig.0 at has signed
      go (Some n) has =
          let there = was_path x n path at has in
          let old = get_there was.signatures.items n (let many = many_merged was.sources was.signatures.items made.merged in let less = low_path was.sources n path there in omega arith) in
          let g : sig.0 ≡ old.0 = one_value sig.0 old.0 (sym signed ∙ sig_at was.sources was.signatures.items made.sources n path old.0 there old.1) in
          tells.others x n old.0 sig.0 on has old.1 sig.1 g

  differs_flag : (x : ℕ) (path : Bytes) → slice_get (paths_in s) x ≡ Some path → Differs old_sigs new_sigs path → IsOn moved x
  differs_flag x path at differs = go flag.0 flag.1
    where
      flag : (b : Bool) × (slice_get moved x ≡ Some b)
      flag = get_there moved x (let low = low_path s x path at in let many = many_merged s sigs merged in let all = tells.many in omega arith)

      go : (b : Bool) → slice_get moved x ≡ Some b → IsOn moved x
      go true has = has
      go false has =
          let old = tells.same x has in
          let there = was_path x old.0 path at old.2 in
          absurd (differs (sig_at s sigs sources x path old.1 at old.4 ∙ sym (sig_at was.sources was.signatures.items made.sources old.0 path old.1 there old.3)))

-- ---- the checked ones

module _ (known_named : NamedIsKnown) (by_names : CheckedIsByNames) (was : Made) (s : Sources) (sigs : List Sig) (from : List (Option ℕ)) (moved : List Bool) (changed all : List ℕ) (before after : List Results) (made : AreMade was)
    (sources : AreSources s) (merged : AreMerged (view_in s) (program_in s) sigs) (old_check : IsCheckOf was.sources was.signatures.items before) (new_check : IsCheckOf s sigs after) (is : from ≡ numbers_from was.sources.root s.root)
    (tells : TellsOthers was.signatures.items from sigs moved) (places : ArePlaces (IsChanged was.sources s) (paths_in s) changed) (exactly : AreExactly (IsToCheckIn s sigs moved changed) all) where
  abbrev IsChecked : Bytes → Type 0
  IsChecked = Checked (program_in was.sources) (program_in s) before after

  abbrev OldSigs : Sigs
  OldSigs = sigs_by was.sources was.signatures.items

  -- the signatures that the full checks have
  as_full : (path : Bytes) → Differs OldSigs (sigs_by s sigs) path → Differs (whole.sigs_in (program_in was.sources) before) (whole.sigs_in (program_in s) after) path
  as_full path differs = subst (λ (v : Sigs). Differs v (whole.sigs_in (program_in s) after) path) (sym old_check.signed) (subst (λ (v : Sigs). Differs OldSigs v path) (sym new_check.signed) differs)

  from_full : (path : Bytes) → Differs (whole.sigs_in (program_in was.sources) before) (whole.sigs_in (program_in s) after) path → Differs OldSigs (sigs_by s sigs) path
  from_full path differs = subst (λ (v : Sigs). Differs OldSigs v path) new_check.signed (subst (λ (v : Sigs). Differs v (whole.sigs_in (program_in s) after) path) old_check.signed differs)

  changed_checked : (path : Bytes) → IsChanged was.sources s path → IsChecked path
  changed_checked path (inl parsed) = by_text parsed
  changed_checked path (inr (d, e, at_old, at_new, differs)) =
      let r = listed was.sources was.signatures.items before made.sources old_check path d at_old in
      let t = listed s sigs after sources new_check path e at_new in
      by_deps r.0 t.0 r.1 t.1 (λ same. differs (sym t.2 ∙ (same ∙ r.2)))

  found_checked : (x y : ℕ) → IsImport (view_in s) (paths_in s) x y → IsStirred s sigs moved y → (path : Bytes) × (slice_get (paths_in s) x ≡ Some path) × IsChecked path
  found_checked x y i stirred =
      let t = known s sigs after sources new_check i.path i.edge.0 i.edge.2 in
      let same : stirred.path ≡ i.other = one_value stirred.path i.other (sym stirred.at_path ∙ i.at_other) in
      let leads = subst (λ (p : Bytes). LeadsByNames (sigs_by s sigs) p stirred.other) same stirred.leads in
      let differs = flag_differs was s sigs from moved made sources merged is tells stirred.number stirred.other stirred.at_other stirred.has_moved in
      let to : LeadsToMoved (program_in was.sources) (program_in s) before after i.other =
      (stirred.other, subst (λ (v : Sigs). LeadsByNames v i.other stirred.other) (sym new_check.signed) leads, as_full stirred.other differs) in
      (i.path, i.at_path, (by_names (program_in was.sources) (program_in s) before after i.path).1 (finds_moved t.0 i.other t.1 (i.edge.1, ap (λ (k : Known). found k.deps i.edge.1) t.2 ∙ i.edge.3) to))

  sound : (x : ℕ) → Has all x → (path : Bytes) × (slice_get (paths_in s) x ≡ Some path) × IsChecked path
  sound x has = elim (exactly.sound x has) [
    | inl own ↦ let p = places.sound x own in (p.0, p.1, changed_checked p.0 p.2)
    | inr finds ↦ found_checked x finds.0 finds.1 finds.2
  ]

  abbrev HasPlace : Bytes → Type 0
  HasPlace path = (x : ℕ) × (slice_get (paths_in s) x ≡ Some path) × Has all x

  changed_place : (path : Bytes) (x : ℕ) → slice_get (paths_in s) x ≡ Some path → IsChanged was.sources s path → HasPlace path
  changed_place path x at changes = (x, at, exactly.complete x (inl (places.complete x path at changes)))

  -- the module of a path to which names lead
  stirs : (y : ℕ) (first : Bytes) → slice_get (paths_in s) y ≡ Some first → LeadsToMoved (program_in was.sources) (program_in s) before after first → IsStirred s sigs moved y
  stirs y first at leads =
      let has = names_inside (program_in s) after new_check.full known_named first leads.0 (y, ap (λ (ps : List Bytes). slice_get ps y) (same_paths s.root) ∙ at) leads.1 in
      let there : slice_get (paths_in s) has.0 ≡ Some leads.0 = ap (λ (ps : List Bytes). slice_get ps has.0) (sym (same_paths s.root)) ∙ has.1 in
      record {
        number = has.0;
        path = first;
        other = leads.0;
        has_moved = differs_flag was s sigs from moved made sources merged is tells has.0 leads.0 there (from_full leads.0 leads.2);
        at_path = at;
        at_other = there;
        leads = subst (λ (v : Sigs). LeadsByNames v first leads.0) new_check.signed leads.1;
      }

  complete : (path : Bytes) → IsChecked path → HasPlace path
  complete path checked = elim ((by_names (program_in was.sources) (program_in s) before after path).0 checked) [
    | text_differs parsed ↦ let x = place_of s sigs after sources new_check path parsed.0 in changed_place path x.0 x.1 (inl parsed)
    | deps_differ r t was_r is_t differs ↦ (
        let x = place_with s sigs after sources new_check path t is_t in
        changed_place path x.0 x.1 (inr (r.deps, t.deps, list_of was.sources was.signatures.items before made.sources old_check path r was_r, list_of s sigs after sources new_check path t is_t, differs)))
    | finds_moved t first is_t finds leads ↦ (
        let x = place_with s sigs after sources new_check path t is_t in
        let edge : imports.Edge (view_in s) path first = (known_of t, finds.0, known_as s sigs after sources new_check path t is_t, finds.1) in
        let y = imports_place s sources path first (imports.further path first imports.itself edge) x.0 x.1 in
        (x.0, x.1, exactly.complete x.0 (inr (y.0, record { path = path; other = first; at_path = x.1; at_other = y.1; edge = edge }, stirs y.0 first y.1 leads))))
  ]

pub checked_are_of_checked : OneParse → NamedIsKnown → CheckedIsByNames → CheckedAreOfChecked
checked_are_of_checked one known_named by_names was s sigs from moved changed all before after made sources merged full_before full_after is tells places exactly =
    let old_check = check_of one was.sources was.signatures.items before made.sources made.merged full_before in
    let new_check = check_of one s sigs after sources merged full_after in
    are_paths (Checked (program_in was.sources) (program_in s) before after) (paths_in s) sources.rising all exactly.rising
    (sound known_named by_names was s sigs from moved changed all before after made sources merged old_check new_check is tells places exactly)
    (complete known_named by_names was s sigs from moved changed all before after made sources merged old_check new_check is tells places exactly)

-- where nothing moved
pub unmoved_are_changed : UnmovedAreChanged
unmoved_are_changed s sigs moved changed none rising = record {
  rising = rising;
  sound = λ x has. inl has;
  complete = λ x is. elim is [ inl own ↦ own | inr finds ↦ absurd (none finds.2.number finds.2.has_moved) ];
}
