-- What dependency lists find are the import edges.
use Rattle.std.proofs.Common.{◌≡◌, ℕ, zero, suc, ◌+◌, ◌<◌, Bool, true, false, cond, List, [], ◌∷◌, ◌++◌, map, length, take, get_or, slice_get, Option, Some, None, refl, sym, ap, ◌∙◌, subst, arith, bytes_eq}
use Rattle.std.specs.Cmp.Lexicographic.{bytes_decides}
use Rattle.flow_base.specs.Program.{Bytes, IsRising, paths_of}
use Rattle.heap_core.proofs.Lists.{get_index, get_there}
use Rattle.check_values.specs.Roots as roots
use Rattle.check_values.specs.declared.root.Root.{Root}
use Rattle.check_values.specs.declared.root.RootRow.{RootRow}
use Rattle.check_values.specs.declared.signatures.DepRow.{DepRow}
use Rattle.check_values.specs.declared.signatures.Deps.{Deps}
use Rattle.js_grammar.specs.Items.{Module}
use Rattle.check_phases.specs.source_front.specs.declared.parse.Parse.{Parse}
use Rattle.module_resolution.specs.Resolution.{resolved}
use Rattle.module_resolution.specs.Dependencies.{specifiers, dependencies_of}
use Rattle.merged_signatures.specs.Chains.{Known, found, found_in}
use Rattle.graph_search.specs.Cycles.{Has, Edge}
use Rattle.check_phases.specs.program_check.specs.Full.{module_in, deps_in}
use Rattle.path_numbers.specs.affected_sizes.specs.Polls.{IsImport, AreImports}
use Rattle.check_phases.specs.Phases.{lists_in, knowns}
use Rattle.check_phases.specs.Sourced.{program_in, paths_in, view_in, AreSources}
use Rattle.check_phases.specs.Merging.{known_rows}
use Rattle.check_phases.specs.declared.merging.Sources.{Sources}
use Rattle.check_phases.proofs.Edges.{length_paths}
use Rattle.check_phases.proofs.Jobs.{beside_at, zip_at}
use Rattle.check_phases.proofs.Lists.{one_value, within_there, value_at, same_paths, zip_more, zip_whole, zip_length}
use Rattle.check_phases.proofs.Merges.{many_parses, many_lists, path_get, known_member}
use Rattle.recheck_merging.specs.Rows.{FollowRows, FollowList, FollowLists}

-- ---- the rows of a dependency list say what their specifiers find

module _ (paths : List Bytes) (from : Bytes) where
  abbrev row_of : Bytes → DepRow
  row_of spec = record { spec = spec; found = resolved paths from spec }

  made_by : (specs : List Bytes) (k : ℕ) (row : DepRow) → slice_get (map row_of specs) k ≡ Some row → row.found ≡ resolved paths from row.spec
  made_by [] k row at = absurd (let z : None ≡ Some row = at in cc)
  made_by (s ∷ specs) zero row at = subst (λ (r : DepRow). r.found ≡ resolved paths from r.spec) (one_value (row_of s) row at) refl
  made_by (s ∷ specs) (suc k) row at = made_by specs k row at

  head_tells : (specs : List Bytes) (s : Bytes) (b : Bool) → b ≡ true → cond b (resolved paths from s) (found_in (map row_of specs) s) ≡ resolved paths from s
  head_tells specs s true e = refl
  head_tells specs s false e = absurd (let z : false ≡ true = e in cc)

  specs_tell : (specs : List Bytes) (k : ℕ) (row : DepRow) → slice_get (map row_of specs) k ≡ Some row → found_in (map row_of specs) row.spec ≡ row.found
  specs_tell [] k row at = absurd (let z : None ≡ Some row = at in cc)
  specs_tell (s ∷ specs) zero row at =
      subst (λ (r : DepRow). found_in (map row_of (s ∷ specs)) r.spec ≡ r.found) (one_value (row_of s) row at) (head_tells specs s (bytes_eq s s) ((bytes_decides s s).1 refl))
  specs_tell (s ∷ specs) (suc k) row at = go (bytes_eq s row.spec) refl (specs_tell specs k row at)
    where
      go : (b : Bool) → bytes_eq s row.spec ≡ b → found_in (map row_of specs) row.spec ≡ row.found → cond b (resolved paths from s) (found_in (map row_of specs) row.spec) ≡ row.found
      go true e rest = ap (resolved paths from) ((bytes_decides s row.spec).0 e) ∙ sym (made_by specs k row at)
      go false e rest = rest

  rows_tell : (m : Option Module) (k : ℕ) (row : DepRow) → slice_get (dependencies_of paths from m).rows k ≡ Some row → found (dependencies_of paths from m) row.spec ≡ row.found
  rows_tell None k row at = absurd (let z : None ≡ Some row = at in cc)
  rows_tell (Some m) k row at = specs_tell (specifiers m) k row at

-- the row that tells what a specifier finds
found_row : (rows : List DepRow) (spec path : Bytes) → found_in rows spec ≡ Some path → (k : ℕ) × (row : DepRow) × (slice_get rows k ≡ Some row) × (row.found ≡ Some path)
found_row [] spec path is = absurd (let z : None ≡ Some path = is in cc)
found_row (row ∷ rows) spec path is = go (bytes_eq row.spec spec) (found_row rows spec path) is
  where
    go : (b : Bool) → (found_in rows spec ≡ Some path → (k : ℕ) × (r : DepRow) × (slice_get rows k ≡ Some r) × (r.found ≡ Some path)) → cond b row.found (found_in rows spec) ≡ Some path
        → (k : ℕ) × (r : DepRow) × (slice_get (row ∷ rows) k ≡ Some r) × (r.found ≡ Some path)
    go true rest h = (0, row, refl, h)
    go false rest h = let later = rest h in (suc later.0, later.1, later.2, later.3)

-- ---- the module of a number

-- what is known of it
pub record IsHere (s : Sources) (x : ℕ) : Type 0 where
  pub row : RootRow
  pub parse : Parse
  pub deps : Deps
  pub at_row : slice_get s.root.modules x ≡ Some row
  pub at_parse : slice_get s.parses.items x ≡ Some parse
  pub at_deps : slice_get s.lists.items x ≡ Some deps
  pub at_path : slice_get (paths_in s) x ≡ Some row.path
  pub is_list : deps ≡ deps_in (paths_in s) row.path parse
  pub at_known : slice_get (known_rows s) x ≡ Some (row.path, record { sig = parse.sig; deps = deps })
  pub seen : view_in s row.path ≡ Some (record { sig = parse.sig; deps = deps })

abbrev pub known_here : (s : Sources) (x : ℕ) → IsHere s x → Known
known_here s x h = record { sig = h.parse.sig; deps = h.deps }

list_here : (paths : List Bytes) (ms : List RootRow) (parses : List Parse) (x : ℕ) (m : RootRow) (p : Parse) → slice_get ms x ≡ Some m → slice_get parses x ≡ Some p
    → slice_get (lists_in paths (map (λ (r : RootRow). (r.path, r.text)) ms) parses) x ≡ Some (deps_in paths m.path p)
list_here paths [] parses x m p at_m at_p = absurd (let z : None ≡ Some m = at_m in cc)
list_here paths (n ∷ ms) [] x m p at_m at_p = absurd (let z : None ≡ Some p = at_p in cc)
list_here paths (n ∷ ms) (q ∷ parses) zero m p at_m at_p = let a = one_value n m at_m in let b = one_value q p at_p in λ j. Some (deps_in paths (a j).path (b j))
list_here paths (n ∷ ms) (q ∷ parses) (suc x) m p at_m at_p = list_here paths ms parses x m p at_m at_p

pub rising_program : (s : Sources) → AreSources s → IsRising (paths_of (program_in s))
rising_program s sources = subst IsRising (sym (same_paths s.root)) sources.rising

pub here : (s : Sources) → AreSources s → (x : ℕ) → x < length s.root.modules → IsHere s x
here s sources x low =
    let parses = many_parses s sources in
    let lists = many_lists s sources in
    let m = get_there s.root.modules x low in
    let p = get_there s.parses.items x (omega arith) in
    let d = get_there s.lists.items x (omega arith) in
    let k : Known = record { sig = p.0.sig; deps = d.0 } in
    let known : slice_get (known_rows s) x ≡ Some (m.0.path, k) = known_member s s.root.modules x m.0 p.0 d.0 m.0.path p.0.sig d.0 refl low (value_at s.root.modules x m.0 m.0 m.1) (omega arith) (value_at s.parses.items x p.0 p.0 p.1) (omega arith)
    (value_at s.lists.items x d.0 d.0 d.1) refl refl refl in
    record {
      row = m.0;
      parse = p.0;
      deps = d.0;
      at_row = m.1;
      at_parse = p.1;
      at_deps = d.1;
      at_path = path_get s.root.modules x m.0 m.1;
      is_list = one_value d.0 (deps_in (paths_in s) m.0.path p.0) (sym d.1 ∙ (ap (λ (ls : List Deps). slice_get ls x) sources.listed ∙ list_here (paths_in s) s.root.modules s.parses.items x m.0 p.0 m.1 p.1));
      at_known = known;
      seen = beside_at (program_in s) (knowns s.parses.items s.lists.items) x (m.0.path, k) (rising_program s sources) known;
    }

-- there are as many paths as modules
pub as_many : (s : Sources) → length (paths_in s) ≡ length s.root.modules
as_many s = length_paths s.root.modules

-- a number that has a path is that of a module
pub low_path : (s : Sources) (x : ℕ) (path : Bytes) → slice_get (paths_in s) x ≡ Some path → x < length s.root.modules
low_path s x path at = let low = within_there (paths_in s) x path at in let many = as_many s in omega arith

-- ---- all lists

pub more_lists : (paths : List Bytes) (lists : List Deps) (i : ℕ) (deps : Deps) (ys : List ℕ) (old new : List (List ℕ)) → i < length lists → deps ≡ get_or lists i deps → FollowLists paths (take i lists) old
    → FollowRows paths deps.rows (length deps.rows) ys → new ≡ old ++ ys ∷ [] → FollowLists paths (take (i + 1) lists) new
more_lists paths lists i deps ys old new low is so_far follow pushed =
    subst (λ (l : List (List ℕ)). FollowLists paths (take (i + 1) lists) l) (sym pushed) (zip_more (FollowList paths) lists old i deps ys so_far (get_index lists i deps low is) follow)

pub whole_lists : (paths : List Bytes) (lists : List Deps) (edges : List (List ℕ)) → FollowLists paths (take (length lists) lists) edges → FollowLists paths lists edges
whole_lists paths lists edges all = zip_whole (FollowList paths) lists edges all

module _ (s : Sources) (sources : AreSources s) (edges : List (List ℕ)) (follow : FollowLists (paths_in s) s.lists.items edges) where
  edges_here : (x : ℕ) (h : IsHere s x) → (ys : List ℕ) × (slice_get edges x ≡ Some ys) × FollowList (paths_in s) h.deps ys
  edges_here x h = zip_at (FollowList (paths_in s)) s.lists.items edges x h.deps follow h.at_deps

  many_edges : length edges ≡ length s.root.modules
  many_edges = zip_length (FollowList (paths_in s)) s.lists.items edges follow ∙ many_lists s sources

  sound : (x y : ℕ) → Edge edges x y → IsImport (view_in s) (paths_in s) x y
  sound x y edge =
      let low = within_there edges x edge.0 edge.1 in
      let h = here s sources x (let many = many_edges in omega arith) in
      let e = edges_here x h in
      let same : edge.0 ≡ e.0 = one_value edge.0 e.0 (sym edge.1 ∙ e.1) in
      let by = e.2.sound y (subst (λ (l : List ℕ). Has l y) same edge.2) in
      let tells : found h.deps by.1.spec ≡ by.1.found =
      subst (λ (d : Deps). slice_get d.rows by.0 ≡ Some by.1 → found d by.1.spec ≡ by.1.found) (sym h.is_list) (rows_tell (paths_in s) h.row.path (module_in h.parse.tree) by.0 by.1) by.3 in
      record {
        path = h.row.path;
        other = by.4.0;
        at_path = h.at_path;
        at_other = by.4.2;
        edge = (known_here s x h, by.1.spec, h.seen, tells ∙ by.4.1);
      }

  complete : (x y : ℕ) → IsImport (view_in s) (paths_in s) x y → Edge edges x y
  complete x y i =
      let h = here s sources x (low_path s x i.path i.at_path) in
      let e = edges_here x h in
      let path : h.row.path ≡ i.path = one_value h.row.path i.path (sym h.at_path ∙ i.at_path) in
      let known : known_here s x h ≡ i.edge.0 = one_value (known_here s x h) i.edge.0 (sym h.seen ∙ (ap (view_in s) path ∙ i.edge.2)) in
      let finds : found h.deps i.edge.1 ≡ Some i.other = ap (λ (k : Known). found k.deps i.edge.1) known ∙ i.edge.3 in
      let row = found_row h.deps.rows i.edge.1 i.other finds in
      (e.0, e.1, e.2.complete y (row.0, row.1, within_there h.deps.rows row.0 row.1 row.2, row.2, (i.other, row.3, i.at_other)))

  imports : AreImports (view_in s) (paths_in s) edges
  imports = record { len = many_edges ∙ sym (as_many s); sound = sound; complete = complete }

pub are_imports : (s : Sources) (root : Root) (lists : List Deps) (edges : List (List ℕ)) → AreSources s → root ≡ s.root → lists ≡ s.lists.items → FollowLists (roots.paths_of root) lists edges → AreImports (view_in s) (paths_in s) edges
are_imports s root lists edges sources same_root same_lists follow =
    imports s sources edges (subst (λ (r : Root). FollowLists (roots.paths_of r) s.lists.items edges) same_root (subst (λ (ls : List Deps). FollowLists (roots.paths_of root) ls edges) same_lists follow))
