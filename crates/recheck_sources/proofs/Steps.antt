-- One more module, as the loops have it.
use Rattle.std.proofs.Common.{◌≡◌, ℕ, ◌<◌, Bool, true, false, cond, List, length, get_or, slice_get, Option, Some, None, sym, ap, ◌∙◌, subst, arith}
use Rattle.std.specs.Prelude.{IfSome}
use Rattle.heap_core.proofs.Lists.{get_index}
use Rattle.check_values.specs.Roots.{paths_of}
use Rattle.check_values.specs.declared.root.RootRow.{RootRow}
use Rattle.check_values.specs.declared.root.Root.{Root}
use Rattle.check_values.specs.declared.signatures.Deps.{Deps}
use Rattle.export_counts.specs.source_front.specs.Front.{IsParse}
use Rattle.export_counts.specs.source_front.specs.declared.parse.Parse.{Parse}
use Rattle.path_numbers.specs.recheck_law.specs.Lists.{ListsAgain}
use Rattle.check_phases.specs.Sourced.{AreSources}
use Rattle.check_phases.specs.declared.merging.Sources.{Sources}
use Rattle.edited_root.specs.From.{numbers_from, fresh_from}
use Rattle.edited_root.proofs.Users.{many_from, many_fresh}
use Rattle.moved_paths.specs.Moved.{AreMoved}
use Rattle.moved_paths.specs.declared.moving.Moved.{Moved}
use Rattle.recheck_sources.specs.Keeping.{kept_in, made_for, IsInPlace, ServesOn}
use Rattle.recheck_sources.specs.Parts.{AreKeptBy}
use Rattle.recheck_sources.proofs.Counted.{made_where}
use Rattle.recheck_sources.proofs.Loops.{AreEach, kept_at, are_kept}
use Rattle.recheck_sources.proofs.Serves.{low_fresh, parse_serves, list_serves, old_parse, old_list}

-- what is kept of some parts is what is kept of the same ones
kept_same : {X : Type 0} (olds was : List X) (from : List (Option ℕ)) (fresh : List Bool) (i : ℕ) (kept : Option X) → olds ≡ was → kept ≡ kept_in olds (get_or from i None) (get_or fresh i false) → kept ≡ kept_at was from fresh i
kept_same olds was from fresh i kept same is = is ∙ ap (λ l. kept_in l (get_or from i None) (get_or fresh i false)) same

pub in_place : {X : Type 0} (olds was : List X) (from : List (Option ℕ)) (fresh : List Bool) (i : ℕ) (kept : Option X) (part : X) → olds ≡ was → kept ≡ kept_in olds (get_or from i None) (get_or fresh i false) → IsInPlace kept part → IsInPlace (kept_at was from fresh i) part
in_place {X} olds was from fresh i kept part same is here = subst (λ (k : Option X). IsInPlace k part) (kept_same olds was from fresh i kept same is) here

module _ (was : Sources) (sources : AreSources was) (root : Root) (from : List (Option ℕ)) (fresh : List Bool) (from_is : from ≡ numbers_from was.root root) (fresh_is : fresh ≡ fresh_from was.root root)
    (rows : List RootRow) (i : ℕ) (same_rows : rows ≡ root.modules) where
  module_there : i < length rows → (m : RootRow) → m ≡ get_or rows i m → slice_get root.modules i ≡ Some m
  module_there low m is = ap (λ (l : List RootRow). slice_get l i) (sym same_rows) ∙ get_index rows i m low is

  module _ (olds : List Parse) (kept : Option Parse) (same : olds ≡ was.parses.items) (is : kept ≡ kept_in olds (get_or from i None) (get_or fresh i false)) where
    pub made_next : i < length rows → made_for kept ≡ cond (get_or fresh i false) 1 0
    made_next low =
        ap made_for (kept_same olds was.parses.items from fresh i kept same is)
        ∙ made_where was.parses.items from fresh i (low_fresh was.root root fresh rows i fresh_is same_rows low) (old_parse was sources root from fresh from_is fresh_is i)

    pub parse_next : i < length rows → (m : RootRow) → m ≡ get_or rows i m → IfSome kept (IsParse m.text)
    parse_next low m at =
        subst (λ (k : Option Parse). IfSome k (IsParse m.text)) (sym (kept_same olds was.parses.items from fresh i kept same is)) (parse_serves was sources root from fresh from_is fresh_is i m (module_there low m at))

  pub parses_kept : (parses : List Parse) → i ≡ length rows → AreEach (λ x parse. IsInPlace (kept_at was.parses.items from fresh x) parse) i parses → AreKeptBy was.parses.items from fresh parses
  parses_kept parses all are =
      let a = many_from was.root root from from_is in let b = many_fresh was.root root fresh fresh_is in let n = ap length same_rows in
      are_kept was.parses.items from fresh i parses (omega (arith, a, n, all)) (omega (arith, b, n, all)) (old_parse was sources root from fresh from_is fresh_is) are

  pub lists_kept : (lists : List Deps) → i ≡ length rows → AreEach (λ x list. IsInPlace (kept_at was.lists.items from fresh x) list) i lists → AreKeptBy was.lists.items from fresh lists
  lists_kept lists all are =
      let a = many_from was.root root from from_is in let b = many_fresh was.root root fresh fresh_is in let n = ap length same_rows in
      are_kept was.lists.items from fresh i lists (omega (arith, a, n, all)) (omega (arith, b, n, all)) (old_list was sources root from fresh from_is fresh_is) are

  pub list_next : ListsAgain → (moved : Moved) → AreMoved (paths_of was.root) (paths_of root) moved → (stays : Bool) → (stays ≡ true → paths_of root ≡ paths_of was.root) → (parses : List Parse) → AreKeptBy was.parses.items from fresh parses
      → (olds : List Deps) (kept : Option Deps) → olds ≡ was.lists.items → kept ≡ kept_in olds (get_or from i None) (get_or fresh i false)
      → i < length rows → (m : RootRow) → m ≡ get_or rows i m → i < length parses → (parse view : Parse) → parse ≡ get_or parses i parse → view ≡ parse → IfSome kept (ServesOn (paths_of root) m.path view moved stays)
  list_next again moved are_moved stays still parses are olds kept same is low m at low_parse parse view at_parse seen =
      subst (λ (k : Option Deps). IfSome k (ServesOn (paths_of root) m.path view moved stays)) (sym (kept_same olds was.lists.items from fresh i kept same is))
      (list_serves was sources root from fresh from_is fresh_is again moved are_moved stays still parses are i m view (module_there low m at) (get_index parses i parse low_parse at_parse ∙ ap Some (sym seen)))
