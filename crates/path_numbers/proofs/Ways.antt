-- What leads from path to path leads from place to place.
use Rattle.std.proofs.Common.{◌≡◌, ◌⊎◌, inl, inr, ℕ, Bool, true, false, cond, List, [], ◌∷◌, slice_get, Option, Some, None, is_some, IsSome, bytes_eq, refl, sym, ap, ◌∙◌, subst}
use Rattle.std.specs.Cmp.Lexicographic.{bytes_decides}
use Rattle.std.proofs.lemmas.Bool.{cases_order}
use Rattle.flow_base.specs.Program.{Bytes, Program, IsRising, paths_of, text_at}
use Rattle.flow_base.proofs.Rising.{not_below_itself}
use Rattle.graph_search.specs.Cycles.{Leads, here, along, Edge}
use Rattle.graph_search.proofs.Searches.{joined}
use Rattle.graph_search.proofs.Rising.{one_at}
use Rattle.merged_signatures.specs.Imports as imports
use Rattle.merged_signatures.specs.Imports.{Imports}
use Rattle.merged_signatures.specs.Chains.{View}
use Rattle.errors_by_reach.specs.Seen.{Sigs}
use Rattle.affected_sizes.specs.program_check.specs.Full.{Results, view_in, sigs_in, IsFull}
use Rattle.graph_laws.proofs.Ways.{HasPlace}
use Rattle.affected_sizes.specs.affected_law.specs.Affected.{IsPathOf, results_at}
use Rattle.affected_sizes.specs.affected_law.specs.Inside.{NamedIsKnown, ImportsStayInside}
use Rattle.affected_sizes.specs.affected_law.proofs.Places.{is_path, module_at, known_at, sigs_are_merged}
use Rattle.affected_sizes.specs.Paths.{HasPath}
use Rattle.affected_sizes.specs.Polls.{AreImports}
use Rattle.affected_sizes.proofs.Lists.{in_order, place_has, has_place}
use Rattle.affected_sizes.proofs.Deciding.{path_place}
use Rattle.recheck_law.specs.Names as names
use Rattle.recheck_law.specs.Names.{Names, LeadsByNames}
use Rattle.path_numbers.specs.Ways.{AreSteps, ImportsLeadAsEdges, NamesLeadAsEdges}

pub one_place : (paths : List Bytes) → IsRising paths → (x y : ℕ) (p : Bytes) → slice_get paths x ≡ Some p → slice_get paths y ≡ Some p → x ≡ y
one_place paths rising x y p at_x at_y = elim (cases_order x y) [
  | inl same ↦ same
  | inr (inl less) ↦ absurd (not_below_itself p (in_order paths rising x y p p less at_x at_y))
  | inr (inr more) ↦ absurd (not_below_itself p (in_order paths rising y x p p more at_y at_x))
]

-- zero or more steps
data LeadsAlong (Along : Bytes → Bytes → Type 0) (start : Bytes) : Bytes → Type 0 where
  itself : LeadsAlong Along start start
  further : (path other : Bytes) → LeadsAlong Along start path → Along path other → LeadsAlong Along start other

-- no step leads out of the paths
abbrev pub StaysAmong : (Bytes → Bytes → Type 0) → List Bytes → Type 0
StaysAmong Along paths = (path other : Bytes) → HasPath paths path → Along path other → HasPath paths other

module _ (Along : Bytes → Bytes → Type 0) where
  before : (p q r : Bytes) → Along p q → LeadsAlong Along q r → LeadsAlong Along p r
  before p q _ step itself = further p q itself step
  before p q _ step (further r other leads next) = further r other (before p q r step leads) next

module _ (Along : Bytes → Bytes → Type 0) (paths : List Bytes) (edges : List (List ℕ)) (are : AreSteps Along paths edges) where
  -- what leads to a path has one
  pub has_start : {x y : ℕ} → Leads (Edge edges) x y → (q : Bytes) → slice_get paths y ≡ Some q → (p : Bytes) × (slice_get paths x ≡ Some p)
  has_start here q at = (q, at)
  has_start (along {p = x} {q = z} edge rest) q at = let s = are.sound x z edge in (s.path, s.at_path)

  leads_there : {x y : ℕ} → Leads (Edge edges) x y → (p q : Bytes) → slice_get paths x ≡ Some p → slice_get paths y ≡ Some q → LeadsAlong Along p q
  leads_there (here {p = x}) p q at_x at_y = subst (LeadsAlong Along p) (one_at paths x p q at_x at_y) itself
  leads_there (along {p = x} {q = z} edge rest) p q at_x at_y =
      let s = are.sound x z edge in
      before Along p s.other q (subst (λ (t : Bytes). Along t s.other) (one_at paths x s.path p s.at_path at_x) s.step) (leads_there rest s.other q s.at_other at_y)

  module _ (rising : IsRising paths) (stays : StaysAmong Along paths) where
    inside : (p q : Bytes) → HasPath paths p → LeadsAlong Along p q → HasPath paths q
    inside p _ has itself = has
    inside p _ has (further r other leads step) = stays r other (inside p r has leads) step

    leads_back : (p q : Bytes) → LeadsAlong Along p q → (x y : ℕ) → slice_get paths x ≡ Some p → slice_get paths y ≡ Some q → Leads (Edge edges) x y
    leads_back p _ itself x y at_x at_y = subst (Leads (Edge edges) x) (one_place paths rising x y p at_x at_y) here
    leads_back p _ (further r other leads step) x y at_x at_y =
        let z = inside p r (x, at_x) leads in
        joined (Edge edges) (leads_back p r leads x z.0 at_x z.1) (along (are.complete z.0 y (record { path = r; other = other; at_path = z.1; at_other = at_y; step = step })) here)

-- ---- imports

pub import_steps : (view : View) (paths : List Bytes) (edges : List (List ℕ)) → AreImports view paths edges → AreSteps (imports.Edge view) paths edges
import_steps view paths edges are = record {
  len = are.len;
  sound = λ x y edge. (let s = are.sound x y edge in record { path = s.path; other = s.other; at_path = s.at_path; at_other = s.at_other; step = s.edge });
  complete = λ x y s. are.complete x y (record { path = s.path; other = s.other; at_path = s.at_path; at_other = s.at_other; edge = s.step });
}

module _ (view : View) where
  as_imports : (p q : Bytes) → LeadsAlong (imports.Edge view) p q → Imports view p q
  as_imports p _ itself = imports.itself
  as_imports p _ (further r other leads step) = imports.further r other (as_imports p r leads) step

  from_imports : (p q : Bytes) → Imports view p q → LeadsAlong (imports.Edge view) p q
  from_imports p _ imports.itself = itself
  from_imports p _ (imports.further r other leads step) = further r other (from_imports p r leads) step

module _ (sigs : Sigs) where
  as_names : (p q : Bytes) → LeadsAlong (Names sigs) p q → LeadsByNames sigs p q
  as_names p _ itself = names.itself
  as_names p _ (further r other leads step) = names.further r other (as_names p r leads) step

  from_names : (p q : Bytes) → LeadsByNames sigs p q → LeadsAlong (Names sigs) p q
  from_names p _ names.itself = itself
  from_names p _ (names.further r other leads step) = further r other (from_names p r leads) step

-- ---- paths of a program

pub is_path_of : (program : Program) (p : Bytes) → HasPath (paths_of program) p → IsPathOf program p
is_path_of program p has = go program (place_has (paths_of program) p has)
  where
    go : (program : Program) → HasPlace (paths_of program) p → IsPathOf program p
    go [] has = absurd has
    go (m ∷ program) has = by (bytes_eq m.0 p) refl has (λ later. go program later)
      where
        by : (b : Bool) → bytes_eq m.0 p ≡ b → (m.0 ≡ p) ⊎ HasPlace (paths_of program) p → (HasPlace (paths_of program) p → IsPathOf program p) → IsSome (cond b (Some m.1) (text_at program p))
        by true is has rest = refl
        by false is (inl same) rest = absurd (let s : bytes_eq m.0 p ≡ true = (bytes_decides m.0 p).1 same in let z : false ≡ true = sym is ∙ s in cc)
        by false is (inr later) rest = rest later

pub has_path_of : (program : Program) (p : Bytes) → IsPathOf program p → HasPath (paths_of program) p
has_path_of program p is = has_place (paths_of program) p (path_place program p is)

module _ (program : Program) (results : List Results) (full : IsFull program results) where
  known_inside : (path : Bytes) → IsSome (view_in program results path) → IsPathOf program path
  known_inside path known = go (results_at program results path) refl
    where
      go : (o : Option Results) → results_at program results path ≡ o → IsPathOf program path
      go None is = absurd (let z : false ≡ true = sym (ap is_some (known_at program results path None is)) ∙ known in cc)
      go (Some r) is = let m = module_at program results path r full is in is_path program path m.0 m.1.has_text

  pub imports_stay : ImportsStayInside → StaysAmong (imports.Edge (view_in program results)) (paths_of program)
  imports_stay inside path other has edge =
      has_path_of program other (inside program results full path other (is_path_of program path has) (imports.further path other imports.itself edge))

  pub names_stay : NamedIsKnown → StaysAmong (Names (sigs_in program results)) (paths_of program)
  names_stay known path other has named =
      has_path_of program other (known_inside other (known (view_in program results) path other named.0 (sym (sigs_are_merged program results path full) ∙ named.1) named.2))

pub names_inside : (program : Program) (results : List Results) → IsFull program results → NamedIsKnown → (p q : Bytes) → HasPath (paths_of program) p → LeadsByNames (sigs_in program results) p q
    → HasPath (paths_of program) q
names_inside program results full known p _ has names.itself = has
names_inside program results full known p _ has (names.further r other leads step) =
    names_stay program results full known r other (names_inside program results full known p r has leads) step

pub imports_lead : ImportsStayInside → ImportsLeadAsEdges
imports_lead inside program results edges full rising are x y path other at =
    let view = view_in program results in
    let steps = import_steps view (paths_of program) edges are in (
      (λ leads. as_imports view path other (leads_there (imports.Edge view) (paths_of program) edges steps leads path other at.at_path at.at_other)),
      (λ leads. leads_back (imports.Edge view) (paths_of program) edges steps rising (imports_stay program results full inside) path other (from_imports view path other leads) x y at.at_path at.at_other),
    )

pub names_lead : NamedIsKnown → NamesLeadAsEdges
names_lead known program results edges full rising are x y path other at =
    let sigs = sigs_in program results in (
      (λ leads. as_names sigs path other (leads_there (Names sigs) (paths_of program) edges are leads path other at.at_path at.at_other)),
      (λ leads. leads_back (Names sigs) (paths_of program) edges are rising (names_stay program results full known) path other (from_names sigs path other leads) x y at.at_path at.at_other),
    )
