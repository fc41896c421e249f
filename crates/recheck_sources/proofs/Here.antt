-- What is known of the module of a number, and by its path.
use Rattle.std.proofs.Common.{◌≡◌, ℕ, zero, suc, ◌<◌, ◌^◌, Bool, true, false, cond, List, [], ◌∷◌, map, length, slice_get, Some, None, refl, sym, ap, ◌∙◌, subst, arith, bytes_eq}
use Rattle.flow_base.specs.Program.{Bytes, Program, IsRising, paths_of, text_at}
use Rattle.heap_core.proofs.Lists.{get_there}
use Rattle.check_values.specs.Rows.{row_at}
use Rattle.check_values.specs.declared.root.RootRow.{RootRow}
use Rattle.check_values.specs.declared.root.Root.{Root}
use Rattle.check_values.specs.declared.signatures.Deps.{Deps}
use Rattle.export_counts.specs.source_front.specs.Front.{IsParse}
use Rattle.export_counts.specs.source_front.specs.declared.parse.Parse.{Parse}
use Rattle.merged_signatures.specs.Chains.{Known}
use Rattle.merged_signatures.specs.Programs.{IsSmallWithFewExports}
use Rattle.export_counts.specs.Law as exports
use Rattle.check_phases.specs.payloads.specs.State.{program_of}
use Rattle.check_phases.specs.program_check.specs.Full.{beside, deps_in}
use Rattle.check_values.specs.Roots as roots
use Rattle.check_phases.specs.Phases.{AreParsed, lists_in, knowns}
use Rattle.check_phases.specs.Sourced.{program_in, paths_in, view_in, AreSources}
use Rattle.check_phases.specs.Merging.{known_rows}
use Rattle.check_phases.specs.declared.merging.Sources.{Sources}
use Rattle.check_phases.proofs.Jobs.{beside_at, zip_at}
use Rattle.check_phases.proofs.Lists.{one_value, value_at, same_paths}
use Rattle.check_phases.proofs.Merges.{many_parses, many_lists, beside_get, program_get, path_get, known_member}
use Rattle.recheck_sources.specs.Changed.{list_at}

-- what is known of the module of a number
pub record IsHere (s : Sources) (x : ℕ) : Type 0 where
  pub row : RootRow
  pub parse : Parse
  pub deps : Deps
  pub at_row : slice_get s.root.modules x ≡ Some row
  pub at_parse : slice_get s.parses.items x ≡ Some parse
  pub at_deps : slice_get s.lists.items x ≡ Some deps
  pub at_path : slice_get (paths_in s) x ≡ Some row.path
  pub says : IsParse row.text parse
  pub is_list : deps ≡ deps_in (paths_in s) row.path parse
  pub seen : view_in s row.path ≡ Some (record { sig = parse.sig; deps = deps })
  pub listed : list_at s row.path ≡ Some deps

list_in_place : (paths : List Bytes) (ms : List RootRow) (parses : List Parse) (x : ℕ) (m : RootRow) (p : Parse) → slice_get ms x ≡ Some m → slice_get parses x ≡ Some p
    → slice_get (lists_in paths (map (λ (r : RootRow). (r.path, r.text)) ms) parses) x ≡ Some (deps_in paths m.path p)
list_in_place paths [] parses x m p at_m at_p = absurd (let z : None ≡ Some m = at_m in cc)
list_in_place paths (n ∷ ms) [] x m p at_m at_p = absurd (let z : None ≡ Some p = at_p in cc)
list_in_place paths (n ∷ ms) (q ∷ parses) zero m p at_m at_p = let a = one_value n m at_m in let b = one_value q p at_p in λ j. Some (deps_in paths (a j).path (b j))
list_in_place paths (n ∷ ms) (q ∷ parses) (suc x) m p at_m at_p = list_in_place paths ms parses x m p at_m at_p

pub here : (s : Sources) → AreSources s → (x : ℕ) → x < length s.root.modules → IsHere s x
here s sources x low =
    let parses = many_parses s sources in
    let lists = many_lists s sources in
    let rising : IsRising (paths_of (program_in s)) = subst IsRising (sym (same_paths s.root)) sources.rising in
    let m = get_there s.root.modules x low in
    let d = get_there s.lists.items x (omega arith) in
    let p = zip_at (λ (t : Bytes × Bytes) (q : Parse). IsParse t.1 q) (program_in s) s.parses.items x (m.0.path, m.0.text) sources.parsed (program_get s.root.modules x m.0 m.1) in
    let k : Known = record { sig = p.0.sig; deps = d.0 } in
    let known : slice_get (known_rows s) x ≡ Some (m.0.path, k) = known_member s s.root.modules x m.0 p.0 d.0 m.0.path p.0.sig d.0 refl low (value_at s.root.modules x m.0 m.0 m.1) (omega arith) (value_at s.parses.items x p.0 p.0 p.1) (omega arith)
    (value_at s.lists.items x d.0 d.0 d.1) refl refl refl in
    record {
      row = m.0;
      parse = p.0;
      deps = d.0;
      at_row = m.1;
      at_parse = p.1;
      at_deps = d.1;
      at_path = path_get s.root.modules x m.0 m.1;
      says = p.2;
      is_list = one_value d.0 (deps_in (paths_in s) m.0.path p.0) (sym d.1 ∙ (ap (λ (ls : List Deps). slice_get ls x) sources.listed ∙ list_in_place (paths_in s) s.root.modules s.parses.items x m.0 p.0 m.1 p.1));
      seen = beside_at (program_in s) (knowns s.parses.items s.lists.items) x (m.0.path, k) rising known;
      listed = beside_at (program_in s) s.lists.items x (m.0.path, d.0) rising (beside_get s.root.modules s.lists.items x m.0 d.0 m.1 d.1);
    }

-- at a path that has no text stands nothing
pub none_beside : {X : Type 0} (program : Program) (xs : List X) (path : Bytes) → text_at program path ≡ None → row_at (beside program xs) path ≡ None
none_beside [] xs path none = refl
none_beside (m ∷ program) [] path none = refl
none_beside (m ∷ program) (x ∷ xs) path none = go (bytes_eq m.0 path) none (none_beside program xs path)
  where
    go : (b : Bool) → cond b (Some m.1) (text_at program path) ≡ None → (text_at program path ≡ None → row_at (beside program xs) path ≡ None) → cond b (Some x) (row_at (beside program xs) path) ≡ None
    go true e rest = absurd (let z : Some m.1 ≡ None = e in cc)
    go false e rest = rest e

-- ---- sources, where nothing is counted

short_rows : {X : Type 0} (ms : List RootRow) (xs : List X) → length (beside (map (λ (m : RootRow). (m.path, m.text)) ms) xs) < suc (length ms)
short_rows [] xs = omega arith
short_rows (m ∷ ms) [] = omega arith
short_rows (m ∷ ms) (x ∷ xs) = let rest = short_rows ms xs in omega (arith, rest)

known_parsed : (program : Program) (parses : List Parse) (lists : List Deps) → AreParsed program parses → exports.AreParsed (beside program (knowns parses lists))
known_parsed [] [] lists are = tt
known_parsed [] (p ∷ parses) lists are = absurd are
known_parsed (m ∷ program) [] lists are = absurd are
known_parsed (m ∷ program) (p ∷ parses) [] are = tt
known_parsed (m ∷ program) (p ∷ parses) (d ∷ lists) are = ((m.1, p, are.0, refl), known_parsed program parses lists are.1)

pub are_sources : IsSmallWithFewExports → exports.FewNames → (s : Sources) (root : Root) (said : List Parse) → root ≡ s.root → said ≡ s.parses.items → IsRising (paths_in s) → length s.root.modules < 2 ^ 32 → AreParsed (program_in s) s.parses.items
    → s.lists.items ≡ lists_in (roots.paths_of root) (program_of root) said → AreSources s
are_sources small few s root said same same_parses rising low parsed listed = record {
  rising = rising;
  parsed = parsed;
  listed = listed ∙ (λ j. lists_in (roots.paths_of (same j)) (program_of (same j)) (same_parses j));
  small = small (known_rows s) (few (known_rows s) (let short = short_rows s.root.modules (knowns s.parses.items s.lists.items) in omega (arith, short, low)) (known_parsed (program_in s) s.parses.items s.lists.items parsed));
}
