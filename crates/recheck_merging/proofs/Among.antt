-- The import edges among some modules.
use Rattle.std.proofs.Common.{◌≡◌, ℕ, ◌<◌, ◌^◌, List, [], All, map, length, get_or, slice_get, Option, Some, sym, ap, ◌∙◌, subst, arith}
use Rattle.std.proofs.lemmas.List.Elements.{All-from_get_or}
use Rattle.check_values.specs.declared.root.RootRow.{RootRow}
use Rattle.flow_base.specs.Program.{Bytes}
use Rattle.heap_core.proofs.Lists.{get_there}
use Rattle.graph_search.specs.Cycles.{Has, Edge, AreWithin}
use Rattle.graph_search.specs.Reach.{IsRising}
use Rattle.merged_signatures.specs.Chains.{View}
use Rattle.path_numbers.specs.affected_sizes.specs.Polls.{IsImport, AreImports}
use Rattle.path_numbers.specs.Sets.{paths_at}
use Rattle.check_phases.specs.Sourced.{paths_in, view_in}
use Rattle.check_phases.specs.declared.merging.Sources.{Sources}
use Rattle.check_phases.proofs.Lists.{one_value, within_there, value_at, place_at}
use Rattle.recheck_merging.specs.Inner.{ArePlacesTo, placed, lists_of}
use Rattle.recheck_merging.specs.Plans.{AreEdgesOf}
use Rattle.recheck_merging.proofs.Imported.{as_many, low_path}
use Rattle.recheck_merging.proofs.Mapped.{get_mapped, mapped_from, length_mapped, all_has, has_all, rising_few_of}
use Rattle.recheck_merging.proofs.Places.{has_placed, placed_has}

-- all edges lead to places of paths
pub within_imports : (view : View) (paths : List Bytes) (edges : List (List ℕ)) → AreImports view paths edges → AreWithin edges
within_imports view paths edges are = All-from_get_or (λ (ys : List ℕ). All (λ y. y < length edges) ys) edges [] (λ x low.
    has_all (λ y. y < length edges) (get_or edges x []) (λ y has.
    let i = are.sound x y (get_or edges x [], place_at edges x [] low, has) in
    let small = within_there paths y i.other i.at_other in
    let many = are.len in
    omega arith))

pub many_imports : (view : View) (s : Sources) (edges : List (List ℕ)) → AreImports view (paths_in s) edges → length edges ≡ length s.root.modules
many_imports view s edges are = are.len ∙ as_many s

module _ (s : Sources) (all : List (List ℕ)) (numbers : List ℕ) (are : AreImports (view_in s) (paths_in s) all) (low : All (λ x. x < length s.root.modules) numbers) where
  abbrev list_of : ℕ → List ℕ
  list_of x = get_or all x []

  at_list : (x : ℕ) → Has numbers x → slice_get all x ≡ Some (list_of x)
  at_list x has = place_at all x [] (let small = all_has (λ (z : ℕ). z < length s.root.modules) numbers low x has in let many = many_imports (view_in s) s all are in omega arith)

  lists_are_edges : AreEdgesOf s numbers (lists_of all numbers)
  lists_are_edges = record {
    len = length_mapped list_of numbers;
    sound = λ i x y at edge.
        let from = mapped_from list_of numbers i edge.0 edge.1 in
        let same : from.0 ≡ x = one_value from.0 x (sym from.1 ∙ at) in
        are.sound x y (edge.0, at_list x (i, at) ∙ ap Some (sym (from.2 ∙ ap list_of same)), edge.2);
    complete = λ i x y at import.
        let edge = are.complete x y import in
        let mine : list_of x ≡ edge.0 = one_value (list_of x) edge.0 (sym (at_list x (i, at)) ∙ edge.1) in
        (edge.0, get_mapped list_of numbers i x at ∙ ap Some mine, edge.2);
  }

-- the edges of some modules are lists of all edges
pub edges_of_numbers : (s : Sources) (all : List (List ℕ)) (numbers : List ℕ) (own : List (List ℕ)) → AreImports (view_in s) (paths_in s) all → All (λ x. x < length s.root.modules) numbers → own ≡ lists_of all numbers
    → AreEdgesOf s numbers own
edges_of_numbers s all numbers own are low is = subst (λ (l : List (List ℕ)). AreEdgesOf s numbers l) (sym is) (lists_are_edges s all numbers are low)

-- their edges lead to modules
pub all_low : (s : Sources) (numbers : List ℕ) (edges : List (List ℕ)) (n : ℕ) → AreEdgesOf s numbers edges → n ≡ length s.root.modules → All (λ ys. All (λ y. y < n) ys) edges
all_low s numbers edges n are many = All-from_get_or (λ (ys : List ℕ). All (λ y. y < n) ys) edges [] (λ i low.
    has_all (λ y. y < n) (get_or edges i []) (λ y has.
    let x = get_there numbers i (let len = are.len in omega arith) in
    let import = are.sound i x.0 y x.1 (get_or edges i [], place_at edges i [] low, has) in
    let small = low_path s y import.other import.at_other in
    omega arith))

-- ---- by places

pub path_at_place : (paths : List Bytes) (numbers : List ℕ) (i x : ℕ) (path : Bytes) → slice_get numbers i ≡ Some x → slice_get paths x ≡ Some path → slice_get (paths_at paths numbers) i ≡ Some path
path_at_place paths numbers i x path at there = get_mapped (λ (y : ℕ). get_or paths y []) numbers i x at ∙ ap Some (sym (value_at paths x path [] there))

path_of_place : (s : Sources) (numbers : List ℕ) (i : ℕ) (path : Bytes) → All (λ x. x < length s.root.modules) numbers → slice_get (paths_at (paths_in s) numbers) i ≡ Some path
    → (x : ℕ) × (slice_get numbers i ≡ Some x) × (slice_get (paths_in s) x ≡ Some path)
path_of_place s numbers i path low at =
    let from = mapped_from (λ (y : ℕ). get_or (paths_in s) y []) numbers i path at in
    let small = all_has (λ (z : ℕ). z < length s.root.modules) numbers low from.0 (i, from.1) in
    (from.0, from.1, place_at (paths_in s) from.0 [] (let many = as_many s in omega arith) ∙ ap Some (sym from.2))

module _ (s : Sources) (numbers : List ℕ) (edges : List (List ℕ)) (places : List (Option ℕ)) (low : All (λ x. x < length s.root.modules) numbers) (are : AreEdgesOf s numbers edges)
    (places_are : ArePlacesTo numbers (length numbers) places) where
  abbrev paths : List Bytes
  paths = paths_at (paths_in s) numbers

  among_sound : (i j : ℕ) → Edge (map (placed places) edges) i j → IsImport (view_in s) paths i j
  among_sound i j edge =
      let from = mapped_from (placed places) edges i edge.0 edge.1 in
      let it = has_placed places from.0 j (subst (λ (l : List ℕ). Has l j) from.2 edge.2) in
      let y = it.0 in
      let at_y = places_are.sound y j it.2 in
      let small = within_there edges i from.0 from.1 in
      let x = get_there numbers i (let len = are.len in omega arith) in
      let import = are.sound i x.0 y x.1 (from.0, from.1, it.1) in
      record {
        path = import.path;
        other = import.other;
        at_path = path_at_place (paths_in s) numbers i x.0 import.path x.1 import.at_path;
        at_other = path_at_place (paths_in s) numbers j y import.other at_y import.at_other;
        edge = import.edge;
      }

  among_complete : (i j : ℕ) → IsImport (view_in s) paths i j → Edge (map (placed places) edges) i j
  among_complete i j import =
      let x = path_of_place s numbers i import.path low import.at_path in
      let y = path_of_place s numbers j import.other low import.at_other in
      let edge = are.complete i x.0 y.0 x.1 (record { path = import.path; other = import.other; at_path = x.2; at_other = y.2; edge = import.edge }) in
      (placed places edge.0, get_mapped (placed places) edges i edge.0 edge.1, placed_has places edge.0 y.0 j edge.2 (places_are.complete y.0 j (within_there numbers j y.0 y.1) y.1))

  among_are : AreImports (view_in s) paths (map (placed places) edges)
  among_are = record {
    len = length_mapped (placed places) edges ∙ (are.len ∙ sym (length_mapped (λ (y : ℕ). get_or (paths_in s) y []) numbers));
    sound = among_sound;
    complete = among_complete;
  }

pub imports_among : (s : Sources) (numbers : List ℕ) (edges : List (List ℕ)) (places : List (Option ℕ)) (inner : List (List ℕ)) → All (λ x. x < length s.root.modules) numbers → AreEdgesOf s numbers edges
    → ArePlacesTo numbers (length numbers) places → inner ≡ map (placed places) edges → AreImports (view_in s) (paths_at (paths_in s) numbers) inner
imports_among s numbers edges places inner low are places_are is =
    subst (λ (l : List (List ℕ)). AreImports (view_in s) (paths_at (paths_in s) numbers) l) (sym is) (among_are s numbers edges places low are places_are)

-- ---- as the code has them

pub few_imports : (s : Sources) (edges : List (List ℕ)) → AreImports (view_in s) (paths_in s) edges → length s.root.modules < 2 ^ 32 → length edges < 2 ^ 32
few_imports s edges are few = let many = many_imports (view_in s) s edges are in omega arith

pub few_numbers : (s : Sources) (numbers : List ℕ) → IsRising numbers → All (λ x. x < length s.root.modules) numbers → length s.root.modules < 2 ^ 32 → length numbers < 2 ^ 32
few_numbers s numbers rising low few = rising_few_of numbers (length s.root.modules) rising low few

-- the numbers of modules have edges
pub low_numbers : (s : Sources) (edges : List (List ℕ)) (merged numbers : List ℕ) → AreImports (view_in s) (paths_in s) edges → numbers ≡ merged → All (λ x. x < length s.root.modules) merged → All (λ x. x < length edges) numbers
low_numbers s edges merged numbers are is low =
    subst (λ (n : ℕ). All (λ x. x < n) numbers) (sym (many_imports (view_in s) s edges are)) (subst (All (λ x. x < length s.root.modules)) (sym is) low)

-- what the edges lead to has a slot
pub low_slots : (s : Sources) (numbers : List ℕ) (edges : List (List ℕ)) (rows : List RootRow) (places slots : List (Option ℕ)) → AreEdgesOf s numbers edges → rows ≡ s.root.modules → length places ≡ length rows → slots ≡ places
    → All (λ ys. All (λ y. y < length slots) ys) edges
low_slots s numbers edges rows places slots are same many is = all_low s numbers edges (length slots) are (ap length is ∙ (many ∙ ap length same))

pub among_by : (s : Sources) (numbers : List ℕ) (edges : List (List ℕ)) (places slots : List (Option ℕ)) (inner : List (List ℕ)) → All (λ x. x < length s.root.modules) numbers → AreEdgesOf s numbers edges
    → ArePlacesTo numbers (length numbers) places → slots ≡ places → inner ≡ map (placed slots) edges → AreImports (view_in s) (paths_at (paths_in s) numbers) inner
among_by s numbers edges places slots inner low are places_are is made = imports_among s numbers edges places inner low are places_are (made ∙ ap (λ (l : List (Option ℕ)). map (placed l) edges) is)

pub own_edges : (s : Sources) (all : List (List ℕ)) (merged numbers : List ℕ) (own lists : List (List ℕ)) → AreImports (view_in s) (paths_in s) all → All (λ x. x < length s.root.modules) merged → numbers ≡ merged → own ≡ lists_of all numbers
    → lists ≡ own → AreEdgesOf s numbers lists
own_edges s all merged numbers own lists are low same is view = edges_of_numbers s all numbers lists are (subst (All (λ x. x < length s.root.modules)) (sym same) low) (view ∙ is)

pub few_among : (s : Sources) (merged numbers : List ℕ) (inner among : List (List ℕ)) → AreImports (view_in s) (paths_at (paths_in s) numbers) inner → among ≡ inner → numbers ≡ merged → IsRising merged → All (λ x. x < length s.root.modules) merged
    → length s.root.modules < 2 ^ 32 → length among < 2 ^ 32
few_among s merged numbers inner among are is same rising low few =
    let less = few_numbers s merged rising low few in
    let sizes = ap length is in
    let many = are.len in
    let places = length_mapped (λ (y : ℕ). get_or (paths_in s) y []) numbers in
    let numbered = ap length same in
    omega arith

pub within_among : (s : Sources) (numbers : List ℕ) (inner among : List (List ℕ)) → AreImports (view_in s) (paths_at (paths_in s) numbers) inner → among ≡ inner → AreWithin among
within_among s numbers inner among are is = subst AreWithin (sym is) (within_imports (view_in s) (paths_at (paths_in s) numbers) inner are)
