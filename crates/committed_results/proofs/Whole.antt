-- What was read is the full check of the committed program.
use Rattle.std.proofs.Common.{◌≡◌, ℕ, zero, suc, ◌+◌, ◌*◌, ◌^◌, ◌<◌, ◌≤◌, Bool, List, [], ◌∷◌, map, length, slice_get, Some, None, refl, sym, ap, ◌∙◌, subst, arith}
use Rattle.std.specs.List.{AllByRecursion}
use Rattle.std.proofs.lemmas.List.{length-map}
use mathlib.Core.Logic.{∥∥₁_elim, ∥∥₁_map}
use denote.Struct.Props.{≡_prop}
use Rattle.flow_base.specs.Program.{Bytes, Program, paths_of}
use Rattle.heap_core.specs.Meaning.{AllFit}
use Rattle.heap_core.proofs.Lists.{get_there}
use Rattle.check_values.specs.Rows.{row_at}
use Rattle.check_values.specs.declared.faults.Errs.{Errs}
use Rattle.check_values.specs.declared.root.RootRow.{RootRow}
use Rattle.check_values.specs.declared.root.Root.{Root}
use Rattle.check_values.specs.declared.signatures.Deps.{Deps}
use Rattle.check_values.specs.declared.signatures.Sig.{Sig}
use Rattle.export_counts.specs.source_front.specs.declared.parse.Parse.{Parse}
use Rattle.merged_signatures.specs.Chains.{Known, View}
use Rattle.merged_signatures.specs.Programs.{IsSmallWithFewExports}
use Rattle.errors_by_reach.specs.Seen.{Sigs}
use Rattle.export_counts.specs.Law.{FewNames}
use Rattle.full_law.specs.Trees.{EachModuleHasATree}
use Rattle.full_law.specs.Law.{EachFull}
use Rattle.full_law.specs.program_check.specs.Full as full
use Rattle.full_law.specs.program_check.specs.Full.{Results, beside, known_of, IsFull}
use Rattle.full_law.specs.program_check.specs.Law.{AllAlike, OneFull}
use Rattle.state_law.specs.payloads.specs.Entities.{parse_entity, deps_entity, signature_entity, errors_entity}
use Rattle.state_law.specs.payloads.specs.State.{program_of, IsRoot, fits}
use Rattle.state_law.specs.payloads.specs.contracts.payload.Payload as payload_type
use Rattle.state_law.specs.payloads.specs.declared.payload.Payload.{Payload}
use Rattle.state_law.specs.payloads.specs.declared.payload.Payload.TheVariants as payload
use Rattle.state_law.specs.Law.{IsCheckOf, EachStateHasACheck}
use Rattle.recheck_staging.specs.check_phases.specs.Phases.{lists_in, knowns, AreMerged, AreChecked, results_by}
use Rattle.recheck_staging.specs.check_phases.specs.Sourced.{program_in, view_in, AreSources}
use Rattle.recheck_staging.specs.check_phases.specs.Whole.{sigs_by, AreMade}
use Rattle.recheck_staging.specs.check_phases.specs.declared.phases.Made.{Made}
use Rattle.recheck_staging.specs.check_phases.proofs.Jobs.{zip_at}
use Rattle.recheck_staging.specs.check_phases.proofs.Lists.{one_value, within_there, same_paths, zip_length}
use Rattle.recheck_staging.specs.edited_root.proofs.Rooted.{few_modules, root_rising}
use Rattle.recheck_staging.specs.Staging.{state_of, HasState}
use Rattle.committed_results.specs.Held.{IsOfKind, AreHeld}
use Rattle.committed_results.proofs.Alike.{all_alike_once, full_alike}
use Rattle.committed_results.proofs.Parts as parts
use Rattle.committed_results.proofs.Parts.{HaveSize, results_many, results_get, known_by, ArePartsOf, parts_of, counted_parses, few_beside}
use Rattle.committed_results.proofs.Standing.{Stands, root_there, module_stands, many_results}

-- lists that have the same at each place are the same
same_list : {X : Type 0} (xs ys : List X) → length xs ≡ length ys → ((i : ℕ) (y : X) → slice_get ys i ≡ Some y → slice_get xs i ≡ Some y) → xs ≡ ys
same_list [] [] many each = refl
same_list [] (y ∷ ys) many each = absurd (omega (arith, many))
same_list (x ∷ xs) [] many each = absurd (omega (arith, many))
same_list (x ∷ xs) (y ∷ ys) many each =
    let first : x ≡ y = one_value x y (each 0 y refl) in
    let rest = same_list xs ys (omega (arith, many)) (λ i z at. each (suc i) z at) in
    λ j. first j ∷ rest j

-- the rows of a root fit a larger heap
more_room : (n m : ℕ) → n ≤ m → (ms : List RootRow) → AllByRecursion (λ r. errors_entity r.row < n) ms → AllByRecursion (λ r. errors_entity r.row < m) ms
more_room n m most [] all = tt
more_room n m most (r ∷ ms) all = (let low = all.0 in omega (arith, most, low), more_room n m most ms all.1)

few_rows : (n : ℕ) (root : Root) → IsRoot n root → length root.modules ≤ n
few_rows n root is = few_modules n root (record { rising = is.rising; rows = is.rows; room = more_room n (4 * n + 1) (omega arith) root.modules is.room })

-- the results that stand in a state
pub record AreRead (state : List Payload) (made : Made) : Type 0 where
  pub first : slice_get state 0 ≡ Some (payload.Root made.sources.root)
  pub parses : AreHeld state parse_entity payload.Parse made.sources.root.modules made.sources.parses.items
  pub lists : AreHeld state deps_entity payload.Deps made.sources.root.modules made.sources.lists.items
  pub signatures : AreHeld state signature_entity payload.Sig made.sources.root.modules made.signatures.items
  pub errors : AreHeld state errors_entity payload.Errs made.sources.root.modules made.errors.items

module _ (one_full : OneFull) (each_full : EachFull) (checks : EachStateHasACheck) (trees : EachModuleHasATree) (few_names : FewNames) (small : IsSmallWithFewExports) (state : List Payload) (made : Made) (fit : AllFit fits state)
    (numbered : length state < 2 ^ 32) (read : AreRead state made) where
  abbrev root : Root
  root = made.sources.root

  abbrev program : Program
  program = program_of root

  abbrev results : List Results
  results = results_by made.sources.parses.items made.sources.lists.items made.signatures.items made.errors.items

  is_root : IsRoot (length state) root
  is_root = root_there state root fit read.first

  sizes : HaveSize (length root.modules) made.sources.parses.items made.sources.lists.items made.signatures.items made.errors.items
  sizes = record {
    parses_many = zip_length _ root.modules made.sources.parses.items read.parses;
    lists_many = zip_length _ root.modules made.sources.lists.items read.lists;
    sigs_many = zip_length _ root.modules made.signatures.items read.signatures;
    errors_many = zip_length _ root.modules made.errors.items read.errors;
  }

  -- a full check that gives what stands there gives what was read
  read_there : (all : List Results) → IsCheckOf root state all → (i : ℕ) (r : Results) → slice_get all i ≡ Some r → slice_get results i ≡ Some r
  read_there all check i r at =
      let m = get_there root.modules i (let low = within_there all i r at in let many = many_results state root is_root all check in omega arith) in
      let there = module_stands state root is_root all check i m.0 m.1 in
      let p = zip_at (λ (n : RootRow) (x : Parse). slice_get state (parse_entity n.row) ≡ Some (payload.Parse x)) root.modules made.sources.parses.items i m.0 read.parses m.1 in
      let d = zip_at (λ (n : RootRow) (x : Deps). slice_get state (deps_entity n.row) ≡ Some (payload.Deps x)) root.modules made.sources.lists.items i m.0 read.lists m.1 in
      let s = zip_at (λ (n : RootRow) (x : Sig). slice_get state (signature_entity n.row) ≡ Some (payload.Sig x)) root.modules made.signatures.items i m.0 read.signatures m.1 in
      let e = zip_at (λ (n : RootRow) (x : Errs). slice_get state (errors_entity n.row) ≡ Some (payload.Errs x)) root.modules made.errors.items i m.0 read.errors m.1 in
      let same : there.0 ≡ r = one_value there.0 r (sym there.1 ∙ at) in
      let parse : p.0 ≡ there.0.parse = (let z = there.2.parse (payload.Parse p.0) p.2 in cc) in
      let deps : d.0 ≡ there.0.deps = (let z = there.2.deps (payload.Deps d.0) d.2 in cc) in
      let sig : s.0 ≡ there.0.sig = (let z = there.2.sig (payload.Sig s.0) s.2 in cc) in
      let errs : e.0 ≡ record { faults = there.0.errors } = (let z = there.2.errors (payload.Errs e.0) e.2 in cc) in
      let read_so : Results = record { parse = p.0; deps = d.0; sig = s.0; errors = e.0.faults } in
      let path : read_so ≡ there.0 = (λ j. record { parse = parse j; deps = deps j; sig = sig j; errors = (errs j).faults }) in
      results_get made.sources.parses.items made.sources.lists.items made.signatures.items made.errors.items i p.0 d.0 s.0 e.0 p.1 d.1 s.1 e.1 ∙ ap Some (path ∙ same)

  is_check : ∥ IsCheckOf root state results ∥₁
  is_check = ∥∥₁_map (checks root state read.first fit) (λ (some : (all : List Results) × IsCheckOf root state all).
      subst (IsCheckOf root state) (sym (same_list results some.0
      (results_many (length root.modules) made.sources.parses.items made.sources.lists.items made.signatures.items made.errors.items sizes ∙ sym (many_results state root is_root some.0 some.1))
      (read_there some.0 some.1))) some.1)

  pub has_state : HasState (state_of made) state
  has_state e low =
      let x = get_there state e low in
      x.1 ∙ ap Some (∥∥₁_elim is_check (≡_prop payload_type.the_row.coded x.0 (state_of made e)) (λ (check : IsCheckOf root state results). check.stands e x.0 x.1))

  -- it is like a full check that there is, so it is one
  is_full : IsFull program results
  is_full =
      let some = each_full program in
      full_alike program results some.0 (all_alike_once trees results some.0 (∥∥₁_map is_check (λ (check : IsCheckOf root state results). one_full program results some.0 check.full some.1))) some.1

  many_program : length program ≡ length root.modules
  many_program = length-map root.modules (λ (m : RootRow). (m.path, m.text))

  abbrev view : View
  view = full.view_in program results

  abbrev sigs : Sigs
  sigs = full.sigs_in program results

  are_parts : ArePartsOf (paths_of program) view sigs program made.sources.parses.items made.sources.lists.items made.signatures.items made.errors.items
  are_parts =
      parts_of (paths_of program) view sigs program made.sources.parses.items made.sources.lists.items made.signatures.items made.errors.items
      (subst (λ (n : ℕ). HaveSize n made.sources.parses.items made.sources.lists.items made.signatures.items made.errors.items) (sym many_program) sizes) is_full

  same_view : view ≡ view_in made.sources
  same_view = ap (λ (ks : List Known). row_at (beside program ks)) (known_by (length root.modules) made.sources.parses.items made.sources.lists.items made.signatures.items made.errors.items sizes)

  same_sigs : sigs ≡ sigs_by made.sources made.signatures.items
  same_sigs = ap (λ (all : List Sig). row_at (beside program all)) (parts.sigs_by (length root.modules) made.sources.parses.items made.sources.lists.items made.signatures.items made.errors.items sizes)

  are_sources : AreSources made.sources
  are_sources = record {
    rising = root_rising (length state) root is_root;
    parsed = are_parts.parsed;
    listed = are_parts.listed ∙ ap (λ (ps : List Bytes). lists_in ps program made.sources.parses.items) (same_paths root);
    small = small (beside program (knowns made.sources.parses.items made.sources.lists.items))
        (few_names (beside program (knowns made.sources.parses.items made.sources.lists.items))
        (let few = few_rows (length state) root is_root in let many = many_program in let rows = few_beside program (knowns made.sources.parses.items made.sources.lists.items) in omega (arith, numbered, few, many, rows))
        (counted_parses program made.sources.parses.items made.sources.lists.items are_parts.parsed));
  }

  pub are_made : AreMade made
  are_made = record {
    sources = are_sources;
    merged = subst (λ (v : View). AreMerged v program made.signatures.items) same_view are_parts.merged;
    checked = subst (λ (s : Sigs). AreChecked s program made.sources.parses.items made.sources.lists.items made.errors.items) same_sigs are_parts.checked;
    many = sizes.errors_many;
  }

-- ---- as the code has them

-- the entities of the modules have places in the state
pub rows_within : (state : List Payload) (root : Root) (modules : List RootRow) → AllFit fits state → slice_get state 0 ≡ Some (payload.Root root) → modules ≡ root.modules → AllByRecursion (λ m. errors_entity m.row < length state) modules
rows_within state root modules fit first same = subst (AllByRecursion (λ (m : RootRow). errors_entity m.row < length state)) (sym same) (root_there state root fit first).room

pub kinds_in : (is_of : Payload → Bool) (place : ℕ → ℕ) (state : List Payload) (root : Root) (modules : List RootRow) → AllByRecursion (λ m. IsOfKind is_of state (place m.row)) root.modules → modules ≡ root.modules
    → AllByRecursion (λ m. IsOfKind is_of state (place m.row)) modules
kinds_in is_of place state root modules kinds same = subst (AllByRecursion (λ (m : RootRow). IsOfKind is_of state (place m.row))) (sym same) kinds

held_in : {X : Type 0} (place : ℕ → ℕ) (put : X → Payload) (state : List Payload) (root : Root) (modules : List RootRow) (xs : List X) → modules ≡ root.modules → AreHeld state place put modules xs → AreHeld state place put root.modules xs
held_in place put state root modules xs same held = subst (λ (ms : List RootRow). AreHeld state place put ms xs) same held

pub all_read : (state : List Payload) (made : Made) (modules : List RootRow) → slice_get state 0 ≡ Some (payload.Root made.sources.root) → modules ≡ made.sources.root.modules → AreHeld state parse_entity payload.Parse modules made.sources.parses.items
    → AreHeld state deps_entity payload.Deps modules made.sources.lists.items → AreHeld state signature_entity payload.Sig modules made.signatures.items → AreHeld state errors_entity payload.Errs modules made.errors.items → AreRead state made
all_read state made modules first same parses lists signatures errors = record {
  first = first;
  parses = held_in parse_entity payload.Parse state made.sources.root modules made.sources.parses.items same parses;
  lists = held_in deps_entity payload.Deps state made.sources.root modules made.sources.lists.items same lists;
  signatures = held_in signature_entity payload.Sig state made.sources.root modules made.signatures.items same signatures;
  errors = held_in errors_entity payload.Errs state made.sources.root modules made.errors.items same errors;
}
