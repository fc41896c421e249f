-- Numbers lead along names where their modules do.
use Rattle.std.proofs.Common.{◌≡◌, ℕ, suc, ◌<◌, ◌^◌, Bool, true, false, cond, List, [], ◌∷◌, All, length, get_or, slice_get, Some, None, refl, sym, ap, ◌∙◌, subst, inl, inr, arith, bytes_eq}
use Rattle.std.specs.Cmp.Lexicographic.{bytes_decides}
use Rattle.std.proofs.lemmas.List.Elements.{All-from_get_or}
use Rattle.flow_base.specs.Program.{Bytes}
use Rattle.check_values.specs.Rows.{Rows, row_at}
use Rattle.check_values.specs.declared.signatures.Sig.{Sig}
use Rattle.heap_core.proofs.Lists.{get_there}
use Rattle.graph_search.specs.Cycles.{Has, Leads, here, along, Edge, IsOn, AreWithin}
use Rattle.merged_signatures.specs.Chains.{View}
use Rattle.merged_signatures.specs.Imports as imports
use Rattle.merged_signatures.specs.Imports.{Imports}
use Rattle.merged_signatures.specs.Merged.{merged}
use Rattle.recheck_merging.specs.affected_sizes.specs.Polls.{AreImports}
use Rattle.recheck_plan.specs.Affected.{AreExactly, LeadsToTouched, IsToCheck}
use Rattle.recheck_merging.specs.recheck_law.specs.Names.{Names, LeadsByNames, itself, further}
use Rattle.recheck_merging.specs.check_phases.specs.Phases.{AreMerged}
use Rattle.recheck_merging.specs.check_phases.specs.Sourced.{program_in, paths_in, view_in, AreSources}
use Rattle.recheck_merging.specs.check_phases.specs.Whole.{sigs_by}
use Rattle.recheck_merging.specs.check_phases.specs.declared.merging.Sources.{Sources}
use Rattle.recheck_merging.specs.check_phases.proofs.Edges.{one_place}
use Rattle.recheck_merging.specs.check_phases.proofs.Jobs.{beside_path, zip_at}
use Rattle.recheck_merging.specs.check_phases.proofs.Lists.{one_value, same_paths, place_at, within_there}
use Rattle.recheck_merging.specs.check_phases.proofs.Merges.{program_get, path_get}
use Rattle.recheck_merging.proofs.Among as among
use Rattle.recheck_merging.proofs.Imported.{as_many, low_path}
use Rattle.recheck_merging.proofs.Mapped.{has_all}
use Rattle.recheck_merging.proofs.Plans.{touched_low}
use Rattle.recheck_reach.specs.Checked.{AreLeading, IsStirred, IsToCheckIn}
use Rattle.recheck_reach.specs.Law.{NamedIsImported}
use Rattle.recheck_reach.specs.Named.{AreStepsOf}
use Rattle.recheck_reach.proofs.Named.{sig_at}
use Rattle.recheck_reach.proofs.Rests.{many_merged}

row_place : {X : Type 0} (rows : Rows X) (path : Bytes) (x : X) → row_at rows path ≡ Some x → (i : ℕ) × (slice_get rows i ≡ Some (path, x))
row_place [] path x is = absurd (let z : None ≡ Some x = is in cc)
row_place {X} (row ∷ rows) path x is = go (bytes_eq row.0 path) refl (row_place rows path x) is
  where
    go : (b : Bool) → bytes_eq row.0 path ≡ b → (row_at rows path ≡ Some x → (i : ℕ) × (slice_get rows i ≡ Some (path, x))) → cond b (Some row.1) (row_at rows path) ≡ Some x → (i : ℕ) × (slice_get (row ∷ rows) i ≡ Some (path, x))
    go true e rest h = let a = (bytes_decides row.0 path).0 e in let b = one_value row.1 x h in (0, λ j. Some (a j, b j))
    go false e rest h = let later = rest h in (suc later.0, later.1)

-- a signature is that of a module
pub signed_place : (s : Sources) (sigs : List Sig) (path : Bytes) (sig : Sig) → sigs_by s sigs path ≡ Some sig → (z : ℕ) × (slice_get (paths_in s) z ≡ Some path)
signed_place s sigs path sig is =
    let row = row_place _ path sig is in
    (row.0, ap (λ (ps : List Bytes). slice_get ps row.0) (sym (same_paths s.root)) ∙ beside_path (program_in s) sigs row.0 (path, sig) row.1)

-- and it is the merged one
signed_merged : (s : Sources) (sigs : List Sig) (path : Bytes) (sig : Sig) → AreSources s → AreMerged (view_in s) (program_in s) sigs → sigs_by s sigs path ≡ Some sig → merged (view_in s) path ≡ Some sig
signed_merged s sigs path sig sources are is =
    let z = signed_place s sigs path sig is in
    let m = get_there s.root.modules z.0 (low_path s z.0 path z.1) in
    let same : m.0.path ≡ path = one_value m.0.path path (sym (path_get s.root.modules z.0 m.0 m.1) ∙ z.1) in
    let mine = zip_at (λ (r : Bytes × Bytes) (g : Sig). merged (view_in s) r.0 ≡ Some g) (program_in s) sigs z.0 (m.0.path, m.0.text) are (program_get s.root.modules z.0 m.0 m.1) in
    let own : mine.0 ≡ sig = one_value mine.0 sig (sym (sig_at s sigs sources z.0 path mine.0 z.1 mine.1) ∙ is) in
    ap (merged (view_in s)) (sym same) ∙ (mine.2 ∙ ap Some own)

pub onward : (view : View) (p q r : Bytes) → Imports view p q → Imports view q r → Imports view p r
onward view p q _ first imports.itself = first
onward view p q _ first (imports.further r other leads step) = imports.further r other (onward view p q r first leads) step

-- ---- the names of some modules, among them each from which imports lead to one that moved

module _ (s : Sources) (sigs : List Sig) (leading : List ℕ) (named : List (List ℕ)) (sources : AreSources s) (are : AreStepsOf (Names (sigs_by s sigs)) (paths_in s) leading named) where
  before : (p q r : Bytes) → Names (sigs_by s sigs) p q → LeadsByNames (sigs_by s sigs) q r → LeadsByNames (sigs_by s sigs) p r
  before p q _ step itself = further p q itself step
  before p q _ step (further r other leads next) = further r other (before p q r step leads) next

  -- what leads to a path has one
  starts : {x y : ℕ} → Leads (Edge named) x y → (q : Bytes) → slice_get (paths_in s) y ≡ Some q → (p : Bytes) × (slice_get (paths_in s) x ≡ Some p)
  starts here q at = (q, at)
  starts (along {p = x} {q = z} edge rest) q at = let i = (are.sound x z edge).1 in (i.path, i.at_path)

  leads_there : {x y : ℕ} → Leads (Edge named) x y → (p q : Bytes) → slice_get (paths_in s) x ≡ Some p → slice_get (paths_in s) y ≡ Some q → LeadsByNames (sigs_by s sigs) p q
  leads_there (here {p = x}) p q at_x at_y = subst (LeadsByNames (sigs_by s sigs) p) (one_value p q (sym at_x ∙ at_y)) itself
  leads_there (along {p = x} {q = z} edge rest) p q at_x at_y =
      let i = (are.sound x z edge).1 in
      before p i.other q (subst (λ (t : Bytes). Names (sigs_by s sigs) t i.other) (one_value i.path p (sym i.at_path ∙ at_x)) i.step) (leads_there rest i.other q i.at_other at_y)

  module _ (law : NamedIsImported) (signed : AreMerged (view_in s) (program_in s) sigs) (moved : List Bool) (imported : AreLeading s moved leading) where
    -- from each module on the way imports lead to the last one, so that its names are there
    leads_back : (p q last : Bytes) (x y number : ℕ) → slice_get (paths_in s) x ≡ Some p → slice_get (paths_in s) y ≡ Some q → slice_get (paths_in s) number ≡ Some last → IsOn moved number
        → LeadsByNames (sigs_by s sigs) p q → Imports (view_in s) q last → Leads (Edge named) y number → Leads (Edge named) x number
    leads_back p _ last x y number at_x at_y at_last on itself led rest = subst (λ (z : ℕ). Leads (Edge named) z number) (one_place (paths_in s) y x p sources.rising at_y at_x) rest
    leads_back p _ last x y number at_x at_y at_last on (further r other leads step) led rest =
        let z = signed_place s sigs r step.0 step.1 in
        let imports = onward (view_in s) r other last (law (view_in s) r other step.0 (signed_merged s sigs r step.0 sources signed step.1) step.2) led in
        let mine = imported z.0 number r last on z.1 at_last imports in
        leads_back p r last x z.0 number at_x z.1 at_last on leads imports (along (are.complete z.0 y mine (record { path = r; other = other; at_path = z.1; at_other = at_y; step = step })) rest)

    module _ (ones stirred : List ℕ) (many : length moved ≡ length s.root.modules) (on : AreExactly (IsOn moved) ones) (exactly : AreExactly (LeadsToTouched named ones) stirred) where
      stirred_there : (x : ℕ) → Has stirred x → IsStirred s sigs moved x
      stirred_there x has =
          let leads = exactly.sound x has in
          let flag = on.sound leads.0 leads.1 in
          let q = (let low = within_there moved leads.0 true flag in let all = as_many s in place_at (paths_in s) leads.0 [] (omega arith)) in
          let p = starts leads.2 _ q in
          record {
            number = leads.0;
            path = p.0;
            other = _;
            has_moved = flag;
            at_path = p.1;
            at_other = q;
            leads = leads_there leads.2 p.0 _ p.1 q;
          }

      stirred_back : (x : ℕ) → IsStirred s sigs moved x → Has stirred x
      stirred_back x is =
          let has = on.complete is.number is.has_moved in
          exactly.complete x (is.number, has, leads_back is.path is.other is.other x is.number is.number is.at_path is.at_other is.at_other is.has_moved is.leads imports.itself here)

      are_stirred : AreExactly (IsStirred s sigs moved) stirred
      are_stirred = record { rising = exactly.rising; sound = stirred_there; complete = stirred_back }

-- ---- as the code has them

-- each that leads has a signature
pub signed_low : (s : Sources) (sigs : List Sig) (leading : List ℕ) → AreMerged (view_in s) (program_in s) sigs → All (λ x. x < length s.root.modules) leading → All (λ x. x < length sigs) leading
signed_low s sigs leading signed low = subst (λ (n : ℕ). All (λ x. x < n) leading) (sym (many_merged s sigs signed)) low

-- the numbers whose flags are on have names
pub ones_low : (s : Sources) (sigs : List Sig) (moved : List Bool) (ones ones_view leading : List ℕ) (named view : List (List ℕ)) → length moved ≡ length s.root.modules → AreExactly (IsOn moved) ones → ones_view ≡ ones
    → AreStepsOf (Names (sigs_by s sigs)) (paths_in s) leading named → view ≡ named → All (λ t. t < length view) ones_view
ones_low s sigs moved ones ones_view leading named view many on same_ones are same =
    let whole : length view ≡ length s.root.modules = ap length same ∙ (are.len ∙ as_many s) in
    has_all (λ (t : ℕ). t < length view) ones_view (λ t has. (let low = within_there moved t true (on.sound t (subst (λ (l : List ℕ). Has l t) same_ones has)) in omega arith))

-- each name ends at a number that has names
pub within_steps : (s : Sources) (sigs : List Sig) (leading : List ℕ) (named view : List (List ℕ)) → AreStepsOf (Names (sigs_by s sigs)) (paths_in s) leading named → view ≡ named → AreWithin view
within_steps s sigs leading named view are same = subst AreWithin (sym same) (All-from_get_or (λ (ys : List ℕ). All (λ y. y < length named) ys) named [] (λ x low.
    has_all (λ y. y < length named) (get_or named x []) (λ y has. (
    let st = (are.sound x y (get_or named x [], place_at named x [] low, has)).1 in
    let small = within_there (paths_in s) y st.other st.at_other in
    let len = are.len in omega arith))))

pub few_steps : (s : Sources) (sigs : List Sig) (leading : List ℕ) (named view : List (List ℕ)) → AreStepsOf (Names (sigs_by s sigs)) (paths_in s) leading named → view ≡ named → length s.root.modules < 2 ^ 32 → length view < 2 ^ 32
few_steps s sigs leading named view are same few = let e : length view ≡ length named = ap length same in let len = are.len in let many = as_many s in omega arith

pub stirred_all : NamedIsImported → (s : Sources) (sigs : List Sig) (moved : List Bool) (ones ones_view leading : List ℕ) (named view : List (List ℕ)) (stirred : List ℕ) → AreSources s → AreMerged (view_in s) (program_in s) sigs
    → length moved ≡ length s.root.modules → AreLeading s moved leading → AreExactly (IsOn moved) ones → ones_view ≡ ones → AreStepsOf (Names (sigs_by s sigs)) (paths_in s) leading named → view ≡ named
    → AreExactly (LeadsToTouched view ones_view) stirred → AreExactly (IsStirred s sigs moved) stirred
stirred_all law s sigs moved ones ones_view leading named view stirred sources signed many leads on same_ones are same_named exactly =
    are_stirred s sigs leading named sources are law signed moved leads ones_view stirred many (subst (AreExactly (IsOn moved)) (sym same_ones) on)
    (subst (λ (es : List (List ℕ)). AreExactly (LeadsToTouched es ones_view) stirred) same_named exactly)

pub checked_all : (s : Sources) (sigs : List Sig) (moved : List Bool) (edges : List (List ℕ)) (changed stirred view all : List ℕ) → AreImports (view_in s) (paths_in s) edges → AreExactly (IsStirred s sigs moved) stirred → view ≡ stirred
    → AreExactly (IsToCheck edges changed view) all → AreExactly (IsToCheckIn s sigs moved changed) all
checked_all s sigs moved edges changed stirred view all imports stirs same check =
    let are : AreExactly (IsStirred s sigs moved) view = subst (AreExactly (IsStirred s sigs moved)) (sym same) stirs in
    record {
      rising = check.rising;
      sound = λ x has. elim (check.sound x has) [ inl own ↦ inl own | inr finds ↦ inr (finds.0, imports.sound x finds.0 finds.1, are.sound finds.0 finds.2) ];
      complete = λ x is. check.complete x (elim is [ inl own ↦ inl own | inr finds ↦ inr (finds.0, imports.complete x finds.0 finds.1, are.complete finds.0 finds.2) ]);
    }

-- those that lead along names are modules
pub stirred_low : (s : Sources) (sigs : List Sig) (moved : List Bool) (edges : List (List ℕ)) (stirred view : List ℕ) → AreImports (view_in s) (paths_in s) edges → AreExactly (IsStirred s sigs moved) stirred → view ≡ stirred
    → All (λ m. m < length edges) view
stirred_low s sigs moved edges stirred view imports stirs same =
    has_all (λ (m : ℕ). m < length edges) view (λ m has. (
    let is = stirs.sound m (subst (λ (l : List ℕ). Has l m) same has) in
    let low = within_there (paths_in s) m is.path is.at_path in
    let len = imports.len in omega arith))

-- the edges are those of modules
pub few_imports : (s : Sources) (edges : List (List ℕ)) → AreImports (view_in s) (paths_in s) edges → length s.root.modules < 2 ^ 32 → length edges < 2 ^ 32
few_imports s edges are few = among.few_imports s edges are few

pub within_imports : (s : Sources) (edges : List (List ℕ)) → AreImports (view_in s) (paths_in s) edges → AreWithin edges
within_imports s edges are = among.within_imports (view_in s) (paths_in s) edges are

pub changed_low : (s : Sources) (edges : List (List ℕ)) (changed : List ℕ) → AreImports (view_in s) (paths_in s) edges → All (λ x. x < length s.root.modules) changed → All (λ t. t < length edges) changed
changed_low s edges changed are low = touched_low s edges changed are low
