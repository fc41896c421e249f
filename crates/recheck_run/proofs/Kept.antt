-- What the edit doesn't affect is not staged.
use Rattle.std.proofs.Common.{◌≡◌, ℕ, zero, suc, ◌<◌, Bool, true, false, cond, List, [], ◌∷◌, map, length, slice_get, Option, Some, None, refl, sym, ap, ◌∙◌, subst, bytes_eq, arith}
use Rattle.std.specs.Cmp.Lexicographic.{bytes_decides}
use Rattle.flow_base.specs.Program.{Bytes, Program, IsRising}
use Rattle.heap_core.specs.Meaning.{names}
use Rattle.heap_core.specs.Transactions.{numbers_of}
use Rattle.heap_core.proofs.Lists.{get_there}
use Rattle.check_values.specs.Rows.{row_at}
use Rattle.check_values.specs.declared.root.RootRow.{RootRow}
use Rattle.check_values.specs.declared.root.Root.{Root}
use Rattle.check_values.specs.declared.signatures.Deps.{Deps}
use Rattle.check_values.specs.declared.signatures.Sig.{Sig}
use Rattle.merged_signatures.specs.Chains.{Known}
use Rattle.committed_results.specs.program_check.specs.Full.{Results, beside, known_of, IsFull}
use Rattle.recheck_checking.specs.affected_law.specs.Affected.{results_at, Parsed, Merged, Checked}
use Rattle.recheck_checking.specs.affected_law.specs.Law.{SignaturesStay}
use Rattle.recheck_checking.specs.payloads.specs.Entities.{parse_entity, deps_entity, signature_entity, errors_entity}
use Rattle.recheck_checking.specs.payloads.specs.State.{program_of, HaveOwnRows}
use Rattle.recheck_checking.specs.payloads.specs.declared.payload.Payload.{Payload}
use Rattle.pending_edits.specs.Rows.{row_of}
use Rattle.recheck_reach.specs.check_phases.specs.Phases.{AreMerged}
use Rattle.recheck_reach.specs.check_phases.specs.Sourced.{program_in, paths_in, view_in, AreSources}
use Rattle.recheck_reach.specs.check_phases.specs.declared.merging.Sources.{Sources}
use Rattle.recheck_reach.specs.check_phases.specs.declared.phases.Made.{Made}
use Rattle.recheck_reach.specs.check_phases.proofs.Lists.{one_value, within_there, same_paths}
use Rattle.recheck_reach.specs.check_phases.proofs.Merges.{path_get, beside_get, many_lists}
use Rattle.recheck_reach.specs.check_phases.proofs.Waves.{many_merged}
use Rattle.recheck_reach.specs.check_phases.proofs.Jobs.{beside_at}
use Rattle.recheck_checking.specs.edited_root.specs.From.{freed_from, number_in}
use Rattle.recheck_checking.specs.edited_root.specs.Numbering.{row_by}
use Rattle.recheck_checking.specs.edited_root.proofs.Rooted.{row_by_number}
use Rattle.recheck_checking.specs.edited_root.proofs.Users.{was_module, number_there, many_from, many_fresh, fresh_parsed}
use Rattle.recheck_reach.specs.recheck_merging.proofs.Imported.{IsHere, here}
use Rattle.recheck_reach.specs.Law.{SeenAsChecked, SignedAsChecked}
use Rattle.committed_results.specs.recheck_staging.specs.Staging.{changes_of}
use Rattle.committed_results.specs.recheck_staging.specs.declared.staging.Anew.{Anew}
use Rattle.committed_results.specs.recheck_staging.proofs.Versions.{parse_unnamed, deps_unnamed, signature_unnamed, errors_unnamed}
use Rattle.recheck_run.specs.Stages.{old_of, IsBaseIn}
use Rattle.recheck_run.specs.Steps.{AreAnew}
use Rattle.recheck_run.specs.declared.stages.Base.{Base}

-- what stands at a path in a list that was made of results
mapped_at : {X : Type 0} (f : Results → X) (program : Program) (results : List Results) (path : Bytes) (y : X) → row_at (beside program (map f results)) path ≡ Some y → (r : Results) × (results_at program results path ≡ Some r) × (f r ≡ y)
mapped_at f [] results path y is = absurd (let z : None ≡ Some y = is in cc)
mapped_at f (m ∷ program) [] path y is = absurd (let z : None ≡ Some y = is in cc)
mapped_at {X} f (m ∷ program) (r ∷ results) path y is = go (bytes_eq m.0 path) is (mapped_at f program results path y)
  where
    go : (b : Bool) → cond b (Some (f r)) (row_at (beside program (map f results)) path) ≡ Some y → (row_at (beside program (map f results)) path ≡ Some y → (s : Results) × (results_at program results path ≡ Some s) × (f s ≡ y))
        → (s : Results) × (cond b (Some r) (results_at program results path) ≡ Some s) × (f s ≡ y)
    go true h rest = (r, refl, one_value (f r) y h)
    go false h rest = rest h

-- the module of a path and a row
module_there : (ms : List RootRow) (path : Bytes) (row : ℕ) → row_of ms path ≡ Some row → (x : ℕ) × (m : RootRow) × (slice_get ms x ≡ Some m) × (m.path ≡ path) × (m.row ≡ row)
module_there [] path row is = absurd (let z : None ≡ Some row = is in cc)
module_there (m ∷ ms) path row is = go (bytes_eq m.path path) refl is (module_there ms path row)
  where
    go : (b : Bool) → bytes_eq m.path path ≡ b → cond b (Some m.row) (row_of ms path) ≡ Some row → (row_of ms path ≡ Some row → (x : ℕ) × (n : RootRow) × (slice_get ms x ≡ Some n) × (n.path ≡ path) × (n.row ≡ row))
        → (x : ℕ) × (n : RootRow) × (slice_get (m ∷ ms) x ≡ Some n) × (n.path ≡ path) × (n.row ≡ row)
    go true e h rest = (0, m, refl, (bytes_decides m.path path).0 e, one_value m.row row h)
    go false e h rest = (let r = rest h in (suc r.0, r.1, r.2, r.3, r.4))

no_row : (ms : List RootRow) (path : Bytes) (x : ℕ) (m : RootRow) → slice_get ms x ≡ Some m → m.path ≡ path → row_of ms path ≡ None → ⊥
no_row [] path x m at is none = let z : None ≡ Some m = at in cc
no_row (n ∷ ms) path zero m at is none = go (bytes_eq n.path path) ((bytes_decides n.path path).1 (ap (λ (r : RootRow). r.path) (one_value n m at) ∙ is)) none
  where
    go : (b : Bool) → b ≡ true → cond b (Some n.row) (row_of ms path) ≡ None → ⊥
    go true e h = let z : Some n.row ≡ None = h in cc
    go false e h = let z : false ≡ true = e in cc
no_row (n ∷ ms) path (suc x) m at is none = go (bytes_eq n.path path) none (no_row ms path x m at is)
  where
    go : (b : Bool) → cond b (Some n.row) (row_of ms path) ≡ None → (row_of ms path ≡ None → ⊥) → ⊥
    go true h rest = let z : Some n.row ≡ None = h in cc
    go false h rest = rest h

-- a flag that is never on is off
off : (flags : List Bool) (x : ℕ) → x < length flags → (slice_get flags x ≡ Some true → ⊥) → slice_get flags x ≡ Some false
off flags x low never = (let f = get_there flags x low in go f.0 f.1)
  where
    go : (f : Bool) → slice_get flags x ≡ Some f → slice_get flags x ≡ Some false
    go true at = absurd (never at)
    go false at = at

-- ---- of a full check

-- the list and the signature of a module
module _ (s : Sources) (sources : AreSources s) (results : List Results) (is_full : IsFull (program_in s) results) (x : ℕ) (path : Bytes) (at : slice_get (paths_in s) x ≡ Some path) (low : x < length s.root.modules) where
  h : IsHere s x
  h = here s sources x low

  same_path : h.row.path ≡ path
  same_path = one_value h.row.path path (sym h.at_path ∙ at)

  deps_of : SeenAsChecked → (d : Deps) → slice_get s.lists.items x ≡ Some d → (r : Results) → results_at (program_in s) results path ≡ Some r → r.deps ≡ d
  deps_of sees d at_d r at_r =
      let known : row_at (beside (program_in s) (map known_of results)) path ≡ Some (record { sig = h.parse.sig; deps = h.deps }) = ap (λ (v : Bytes → Option Known). v path) (sees s results sources is_full) ∙ (ap (view_in s) (sym same_path) ∙ h.seen) in
      let m = mapped_at known_of (program_in s) results path (record { sig = h.parse.sig; deps = h.deps }) known in
      let same : r ≡ m.0 = one_value r m.0 (sym at_r ∙ m.1) in
      ap (λ (t : Results). t.deps) same ∙ (ap (λ (k : Known). k.deps) m.2 ∙ one_value h.deps d (sym h.at_deps ∙ at_d))

  sig_of : SignedAsChecked → (sigs : List Sig) → AreMerged (view_in s) (program_in s) sigs → (sig : Sig) → slice_get sigs x ≡ Some sig → (r : Results) × (results_at (program_in s) results path ≡ Some r) × (r.sig ≡ sig)
  sig_of signs sigs merged sig at_sig =
      let row : row_at (beside (program_in s) sigs) h.row.path ≡ Some sig =
      beside_at (program_in s) sigs x (h.row.path, sig) (subst IsRising (sym (same_paths s.root)) sources.rising) (beside_get s.root.modules sigs x h.row sig h.at_row at_sig) in
      let told : row_at (beside (program_in s) (map (λ (r : Results). r.sig) results)) path ≡ Some sig =
      ap (λ (v : Bytes → Option Sig). v path) (signs s sigs results sources merged is_full) ∙ (ap (row_at (beside (program_in s) sigs)) (sym same_path) ∙ row) in
      mapped_at (λ (r : Results). r.sig) (program_in s) results path sig told

-- ---- what keeps its versions

module _ (committed : List Payload) (b : Base) (made : Made) (anew : Anew) (freed : List ℕ) (in_heap : IsBaseIn committed b) (are : AreAnew b made anew) (frees : freed ≡ b.freed.items) where
  abbrev unnamed : ℕ → Type 0
  unnamed e = names (numbers_of (changes_of made anew freed)) e ≡ false

  abbrev before_of : Program
  before_of = program_in b.was.sources

  abbrev after_of : Program
  after_of = program_in made.sources

  module _ (before after : List Results) (was_full : IsFull before_of before) (is_full : IsFull after_of after) (sees : SeenAsChecked) (signs : SignedAsChecked) (stay : SignaturesStay) (path : Bytes) (row : ℕ)
      (was_row : row_of (old_of b).modules path ≡ Some row) (is_row : row_of b.root.modules path ≡ Some row) where
    new_there : (x : ℕ) × (m : RootRow) × (slice_get b.root.modules x ≡ Some m) × (m.path ≡ path) × (m.row ≡ row)
    new_there = module_there b.root.modules path row is_row

    abbrev x : ℕ
    x = new_there.0

    abbrev m : RootRow
    m = new_there.1

    at : slice_get made.sources.root.modules x ≡ Some m
    at = ap (λ (r : Root). slice_get r.modules x) are.root ∙ new_there.2

    low : x < length made.sources.root.modules
    low = within_there made.sources.root.modules x m at

    at_path : slice_get (paths_in made.sources) x ≡ Some path
    at_path = path_get made.sources.root.modules x m at ∙ ap Some new_there.3

    own : HaveOwnRows made.sources.root.modules
    own = subst (λ (r : Root). HaveOwnRows r.modules) (sym are.root) in_heap.new_root.rows

    freed_is : freed ≡ freed_from (old_of b) made.sources.root
    freed_is = frees ∙ in_heap.base.freed ∙ ap (freed_from (old_of b)) (sym are.root)

    sized : (flags : List Bool) → length flags ≡ length made.sources.root.modules → x < length flags
    sized flags many = (let l = low in omega (arith, many, l))

    -- the module was one
    was_there : (o : ℕ) × (n : RootRow) × (slice_get b.from.items x ≡ Some (Some o)) × (slice_get (old_of b).modules o ≡ Some n) × (n.path ≡ m.path)
    was_there =
        let many = many_from (old_of b) b.root b.from.items in_heap.base.from in
        let f = get_there b.from.items x (let l = within_there b.root.modules x m new_there.2 in omega (arith, many, l)) in
        go f.0 f.1
      where
        go : (o : Option ℕ) → slice_get b.from.items x ≡ Some o → (o : ℕ) × (n : RootRow) × (slice_get b.from.items x ≡ Some (Some o)) × (slice_get (old_of b).modules o ≡ Some n) × (n.path ≡ m.path)
        go None at_none =
            let number : number_in (old_of b).modules m.path ≡ None = one_value (number_in (old_of b).modules m.path) None (sym (number_there (old_of b) b.root b.from.items in_heap.base.from x m new_there.2) ∙ at_none) in
            let gone : row_of (old_of b).modules m.path ≡ None = sym (row_by_number (old_of b).modules m.path) ∙ ap (row_by (old_of b).modules) number in
            absurd (let z : None ≡ Some row = sym gone ∙ (ap (row_of (old_of b).modules) new_there.3 ∙ was_row) in cc)
        go (Some o) at_some = (let n = was_module (old_of b) b.root b.from.items in_heap.base.from x o m new_there.2 at_some in (o, n.0, at_some, n.1, n.2))

    abbrev o : ℕ
    o = was_there.0

    was_low : o < length b.was.sources.root.modules
    was_low = within_there b.was.sources.root.modules o was_there.1 was_there.3

    was_path : slice_get (paths_in b.was.sources) o ≡ Some path
    was_path = path_get b.was.sources.root.modules o was_there.1 was_there.3 ∙ ap Some (was_there.4 ∙ new_there.3)

    pub parse_stays : ¬ (Parsed before_of (program_of b.root) path) → unnamed (parse_entity row)
    parse_stays never =
        let flag = off anew.fresh.items x (sized anew.fresh.items (ap length are.fresh ∙ many_fresh (old_of b) b.root b.fresh.items in_heap.base.fresh ∙ ap (λ (r : Root). length r.modules) (sym are.root)))
        (λ on. never (subst (Parsed before_of (program_of b.root)) new_there.3 ((fresh_parsed (old_of b) b.root b.fresh.items in_heap.base.fresh (length committed) x m in_heap.new_root new_there.2).0 (ap (λ (l : List Bool). slice_get l x) (sym are.fresh) ∙ on)))) in
        subst (λ (k : ℕ). unnamed (parse_entity k)) new_there.4 (parse_unnamed made anew freed (old_of b) own freed_is x m at flag)

    pub deps_stay : (r s : Results) → results_at before_of before path ≡ Some r → results_at after_of after path ≡ Some s → s.deps ≡ r.deps → unnamed (deps_entity row)
    deps_stay r s at_r at_s same =
        let flag = off anew.relisted.items x (sized anew.relisted.items (are.lists.many ∙ many_lists made.sources are.are.sources))
        (λ on.
        let d = get_there b.was.sources.lists.items o (let many = many_lists b.was.sources in_heap.base.made.sources in let l = was_low in omega (arith, many, l)) in
        let e = get_there made.sources.lists.items x (let many = many_lists made.sources are.are.sources in let l = low in omega (arith, many, l)) in
        let d_is = deps_of b.was.sources in_heap.base.made.sources before was_full o path was_path was_low sees d.0 d.1 r at_r in
        let e_is = deps_of made.sources are.are.sources after is_full x path at_path low sees e.0 e.1 s at_s in
        are.lists.others x o d.0 e.0 on was_there.2 d.1 e.1 (sym e_is ∙ (same ∙ d_is))) in
        subst (λ (k : ℕ). unnamed (deps_entity k)) new_there.4 (deps_unnamed made anew freed (old_of b) own freed_is x m at flag)

    pub signature_stays : ¬ (Merged before_of after_of before after path) → unnamed (signature_entity row)
    signature_stays never =
        let flag = off anew.moved.items x (sized anew.moved.items (are.moved.many ∙ many_merged made.sources made.signatures.items are.are.merged))
        (λ on.
        let d = get_there b.was.signatures.items o (let many = many_merged b.was.sources b.was.signatures.items in_heap.base.made.merged in let l = was_low in omega (arith, many, l)) in
        let e = get_there made.signatures.items x (let many = many_merged made.sources made.signatures.items are.are.merged in let l = low in omega (arith, many, l)) in
        let r = sig_of b.was.sources in_heap.base.made.sources before was_full o path was_path was_low signs b.was.signatures.items in_heap.base.made.merged d.0 d.1 in
        let s = sig_of made.sources are.are.sources after is_full x path at_path low signs made.signatures.items are.are.merged e.0 e.1 in
        let same = stay before_of after_of before after path r.0 s.0 was_full is_full r.1 s.1 never in
        are.moved.others x o d.0 e.0 on was_there.2 d.1 e.1 (sym s.2 ∙ (sym same ∙ r.2))) in
        subst (λ (k : ℕ). unnamed (signature_entity k)) new_there.4 (signature_unnamed made anew freed (old_of b) own freed_is x m at flag)

    pub errors_stay : ¬ (Checked before_of after_of before after path) → unnamed (errors_entity row)
    errors_stay never =
        let flag = off anew.checked.items x (sized anew.checked.items are.checked.many) (λ on. never (are.checked.each before after was_full is_full x path at_path on)) in
        subst (λ (k : ℕ). unnamed (errors_entity k)) new_there.4 (errors_unnamed made anew freed (old_of b) own freed_is x m at flag)
