-- The parts of old modules that serve on.
use Rattle.std.proofs.Common.{◌≡◌, ℕ, suc, ◌<◌, Bool, true, false, List, [], ◌∷◌, length, get_or, slice_get, Option, Some, None, refl, sym, ap, ◌∙◌, subst, arith}
use Rattle.std.specs.Prelude.{IfSome}
use Rattle.flow_base.specs.Program.{Bytes}
use Rattle.heap_core.proofs.Lists.{get_there}
use Rattle.check_values.specs.Roots.{paths_of}
use Rattle.check_values.specs.declared.root.RootRow.{RootRow}
use Rattle.check_values.specs.declared.root.Root.{Root}
use Rattle.check_values.specs.declared.signatures.Deps.{Deps}
use Rattle.export_counts.specs.source_front.specs.Front.{IsParse}
use Rattle.export_counts.specs.source_front.specs.declared.parse.Parse.{Parse}
use Rattle.check_phases.specs.program_check.specs.Full.{module_in, deps_in}
use Rattle.path_numbers.specs.recheck_law.specs.Lists.{again, ListsAgain}
use Rattle.check_phases.specs.payloads.specs.State.{program_of}
use Rattle.check_phases.specs.Phases.{AreParsed}
use Rattle.check_phases.specs.Sourced.{paths_in, AreSources}
use Rattle.check_phases.specs.declared.merging.Sources.{Sources}
use Rattle.check_phases.proofs.Edges.{length_paths}
use Rattle.check_phases.proofs.Lists.{one_value, within_there}
use Rattle.check_phases.proofs.Merges.{path_get, parses_many}
use Rattle.edited_root.specs.From.{numbers_from, fresh_from}
use Rattle.edited_root.proofs.Users.{many_from, many_fresh, was_module, kept_text}
use Rattle.moved_paths.specs.Moved.{AreMoved}
use Rattle.moved_paths.specs.declared.moving.Moved.{Moved}
use Rattle.moved_paths.proofs.Stays as moved_paths
use Rattle.recheck_sources.specs.Keeping.{kept_in, ServesOn, StandStill}
use Rattle.recheck_sources.specs.Parts.{AreKeptBy}
use Rattle.recheck_sources.proofs.Here.{IsHere, here}
use Rattle.recheck_sources.proofs.Loops.{off_at, kept_at, HasOld, is_kept}

-- there are as many numbers, and as many flags, as modules
pub low_from : (old new : Root) (from : List (Option ℕ)) (ms : List RootRow) (i : ℕ) → from ≡ numbers_from old new → ms ≡ new.modules → i < length ms → i < length from
low_from old new from ms i is same low = let a = many_from old new from is in let b = ap length same in omega (arith, a, b, low)

pub low_number : (old new : Root) (from : List (Option ℕ)) (fresh : List Bool) (i : ℕ) → from ≡ numbers_from old new → fresh ≡ fresh_from old new → i < length fresh → i < length from
low_number old new from fresh i from_is fresh_is low = let a = many_from old new from from_is in let b = many_fresh old new fresh fresh_is in omega (arith, a, b, low)

pub low_fresh : (old new : Root) (fresh : List Bool) (ms : List RootRow) (i : ℕ) → fresh ≡ fresh_from old new → ms ≡ new.modules → i < length ms → i < length fresh
low_fresh old new fresh ms i is same low = let a = many_fresh old new fresh is in let b = ap length same in omega (arith, a, b, low)

pub low_parse : (root : Root) (parses : List Parse) (ms : List RootRow) (i : ℕ) → AreParsed (program_of root) parses → ms ≡ root.modules → i < length ms → i < length parses
low_parse root parses ms i are same low = let a = parses_many root parses are in let b = ap length same in omega (arith, a, b, low)

-- lists with the same elements at the same places
same_each : {A : Type 0} (xs ys : List A) → length xs ≡ length ys → ((x : ℕ) (a : A) → slice_get xs x ≡ Some a → slice_get ys x ≡ Some a) → xs ≡ ys
same_each [] [] many each = refl
same_each [] (y ∷ ys) many each = absurd (omega (arith, many))
same_each (x ∷ xs) [] many each = absurd (omega (arith, many))
same_each {A} (x ∷ xs) (y ∷ ys) many each =
    let first : x ≡ y = one_value x y (sym (each 0 x refl)) in
    let rest = same_each xs ys (omega (arith, many)) (λ k a at. each (suc k) a at) in
    λ j. first j ∷ rest j

module _ (was : Sources) (sources : AreSources was) (root : Root) (from : List (Option ℕ)) (fresh : List Bool) (from_is : from ≡ numbers_from was.root root) (fresh_is : fresh ≡ fresh_from was.root root) where
  -- the old module of one that is not fresh
  pub record WasHere (x : ℕ) (m : RootRow) : Type 0 where
    pub o : ℕ
    pub was_at : IsHere was o
    pub from_there : slice_get from x ≡ Some (Some o)
    pub path : was_at.row.path ≡ m.path
    pub text : was_at.row.text ≡ m.text

  pub was_here : (x : ℕ) (m : RootRow) → slice_get root.modules x ≡ Some m → slice_get fresh x ≡ Some false → WasHere x m
  was_here x m at off =
      let k = kept_text was.root root fresh fresh_is from from_is x m at off in
      let h = here was sources k.0 (within_there was.root.modules k.0 k.1 k.3) in
      let same : h.row ≡ k.1 = one_value h.row k.1 (sym h.at_row ∙ k.3) in
      record { o = k.0; was_at = h; from_there = k.2; path = ap (λ (r : RootRow). r.path) same ∙ k.4; text = ap (λ (r : RootRow). r.text) same ∙ k.5 }

  many_flags : length fresh ≡ length root.modules
  many_flags = many_fresh was.root root fresh fresh_is

  off_here : (x : ℕ) → x < length root.modules → get_or fresh x false ≡ false → slice_get fresh x ≡ Some false
  off_here x low = off_at fresh x (let m = many_flags in omega (arith, m, low))

  module_off : (x : ℕ) → slice_get fresh x ≡ Some false → (m : RootRow) × (slice_get root.modules x ≡ Some m)
  module_off x off = let low = within_there fresh x false off in let m = many_flags in get_there root.modules x (omega (arith, m, low))

  pub old_parse : (x : ℕ) → slice_get fresh x ≡ Some false → HasOld was.parses.items from fresh x
  old_parse x off = let m = module_off x off in let h = was_here x m.0 m.1 off in (h.o, h.was_at.parse, h.from_there, h.was_at.at_parse)

  pub old_list : (x : ℕ) → slice_get fresh x ≡ Some false → HasOld was.lists.items from fresh x
  old_list x off = let m = module_off x off in let h = was_here x m.0 m.1 off in (h.o, h.was_at.deps, h.from_there, h.was_at.at_deps)

  -- what holds of the old part of each module that is not fresh holds of what is kept
  kept_holds : {X : Type 0} (olds : List X) (Holds : X → Type 0) (x : ℕ) → (get_or fresh x false ≡ false → (o : ℕ) × (part : X) × (slice_get fresh x ≡ Some false) × (slice_get from x ≡ Some (Some o)) × (slice_get olds o ≡ Some part) × Holds part)
      → IfSome (kept_at olds from fresh x) Holds
  kept_holds {X} olds Holds x old = go (get_or fresh x false) refl
    where
      go : (b : Bool) → get_or fresh x false ≡ b → IfSome (kept_in olds (get_or from x None) (get_or fresh x false)) Holds
      go true e = subst (λ (f : Bool). IfSome (kept_in olds (get_or from x None) f) Holds) (sym e) tt
      go false e = let k = old e in subst (λ (o : Option X). IfSome o Holds) (sym (is_kept olds from fresh x k.0 k.1 k.2 k.3 k.4)) k.5

  pub parse_serves : (x : ℕ) (m : RootRow) → slice_get root.modules x ≡ Some m → IfSome (kept_at was.parses.items from fresh x) (IsParse m.text)
  parse_serves x m at = kept_holds was.parses.items (IsParse m.text) x (λ e.
      let off = off_here x (within_there root.modules x m at) e in
      let h = was_here x m at off in
      (h.o, h.was_at.parse, off, h.from_there, h.was_at.at_parse, subst (λ (t : Bytes). IsParse t h.was_at.parse) h.text h.was_at.says))

  -- the old list is that of the module among the old paths
  old_is : (parses : List Parse) (x : ℕ) (m : RootRow) (parse : Parse) → AreKeptBy was.parses.items from fresh parses → slice_get fresh x ≡ Some false → slice_get parses x ≡ Some parse → (h : WasHere x m)
      → h.was_at.deps ≡ deps_in (paths_in was) m.path parse
  old_is parses x m parse kept off at h =
      let k = kept.kept x off in
      let number : k.0 ≡ h.o = one_value k.0 h.o (one_value (Some k.0) (Some h.o) (sym k.2 ∙ h.from_there)) in
      let old : k.1 ≡ h.was_at.parse = one_value k.1 h.was_at.parse (sym k.3 ∙ (ap (slice_get was.parses.items) number ∙ h.was_at.at_parse)) in
      let new : k.1 ≡ parse = one_value k.1 parse (sym k.4 ∙ at) in
      h.was_at.is_list ∙ ((λ j. deps_in (paths_in was) (h.path j) (sym old j)) ∙ ap (deps_in (paths_in was) m.path) new)

  pub list_serves : ListsAgain → (moved : Moved) → AreMoved (paths_of was.root) (paths_of root) moved → (stays : Bool) → (stays ≡ true → paths_of root ≡ paths_of was.root) → (parses : List Parse) → AreKeptBy was.parses.items from fresh parses
      → (x : ℕ) (m : RootRow) (parse : Parse) → slice_get root.modules x ≡ Some m → slice_get parses x ≡ Some parse → IfSome (kept_at was.lists.items from fresh x) (ServesOn (paths_of root) m.path parse moved stays)
  list_serves lists_again moved are stays still parses kept x m parse at at_parse = kept_holds was.lists.items (ServesOn (paths_of root) m.path parse moved stays) x (λ e.
      let off = off_here x (within_there root.modules x m at) e in
      let h = was_here x m at off in
      let is = old_is parses x m parse kept off at_parse h in
      (h.o, h.was_at.deps, off, h.from_there, h.was_at.at_deps, serves h.was_at.deps is))
    where
      serves : (deps : Deps) → deps ≡ deps_in (paths_in was) m.path parse → ServesOn (paths_of root) m.path parse moved stays deps
      serves deps is = record {
        unmoved = λ unmoved. moved_paths.stays (paths_of was.root) (paths_of root) moved m.path deps are unmoved (ap (again (paths_of was.root) m.path) is ∙ (lists_again (paths_in was) (paths_of was.root) m.path (module_in parse.tree) ∙ sym is));
        made_again = ap (again (paths_of root) m.path) is ∙ lists_again (paths_in was) (paths_of root) m.path (module_in parse.tree);
        as_it_is = λ on. is ∙ ap (λ (ps : List Bytes). deps_in ps m.path parse) (sym (still on));
      }

  -- where each module has its own number, no path came or went
  pub paths_stay : StandStill from (length was.root.modules) → paths_of root ≡ paths_of was.root
  paths_stay still = same_each (paths_of root) (paths_of was.root) (let a = length_paths root.modules in let b = length_paths was.root.modules in let m = many_from was.root root from from_is in let n = still.as_many in omega (arith, a, b, m, n)) each
    where
      each : (x : ℕ) (path : Bytes) → slice_get (paths_of root) x ≡ Some path → slice_get (paths_of was.root) x ≡ Some path
      each x path at =
          let low = within_there (paths_of root) x path at in
          let a = length_paths root.modules in
          let m = get_there root.modules x (omega (arith, low, a)) in
          let many = many_from was.root root from from_is in
          let all = still.as_many in
          let n = was_module was.root root from from_is x x m.0 m.1 (still.each x (omega (arith, low, a, many, all))) in
          path_get was.root.modules x n.0 n.1 ∙ (ap Some n.2 ∙ (sym (path_get root.modules x m.0 m.1) ∙ at))
