-- What is not made anew is what is committed.
use Rattle.std.proofs.Common.{◌≡◌, ℕ, zero, suc, ◌<◌, ◌≤◌, Bool, false, List, [], ◌∷◌, length, slice_get, Some, None, refl, sym, ap, ◌∙◌, subst, arith}
use Rattle.std.specs.List.{AllByRecursion}
use Rattle.heap_core.proofs.Lists.{get_there}
use Rattle.check_values.specs.declared.faults.Errs.{Errs}
use Rattle.check_values.specs.declared.root.RootRow.{RootRow}
use Rattle.check_values.specs.declared.root.Root.{Root}
use Rattle.check_values.specs.declared.signatures.Deps.{Deps}
use Rattle.check_values.specs.declared.signatures.Sig.{Sig}
use Rattle.committed_results.specs.source_front.specs.declared.parse.Parse.{Parse}
use Rattle.committed_results.specs.program_check.specs.Full.{Results}
use Rattle.recheck_checking.specs.payloads.specs.Entities.{parse_entity, deps_entity, signature_entity, errors_entity}
use Rattle.recheck_checking.specs.payloads.specs.State.{IsRoot, payload_in, payload_at}
use Rattle.recheck_checking.specs.payloads.specs.declared.payload.Payload.{Payload}
use Rattle.recheck_checking.specs.payloads.specs.declared.payload.Payload.TheVariants as payload
use Rattle.recheck_checking.specs.payloads.proofs.Places.{stand_here}
use Rattle.recheck_reach.specs.check_phases.specs.Phases.{results_by}
use Rattle.recheck_reach.specs.check_phases.specs.Whole.{AreMade}
use Rattle.recheck_reach.specs.check_phases.specs.declared.phases.Made.{Made}
use Rattle.recheck_reach.specs.check_phases.proofs.Lists.{one_value, within_there}
use Rattle.recheck_reach.specs.check_phases.proofs.Merges.{many_parses, many_lists}
use Rattle.recheck_reach.specs.check_phases.proofs.Waves.{many_merged}
use Rattle.recheck_checking.specs.edited_root.proofs.Users.{was_module, many_from}
use Rattle.recheck_checking.specs.edited_root.specs.From.{freed_from}
use Rattle.committed_results.specs.recheck_staging.specs.Staging.{state_of, HasState, AreKept, KeepsTheRest, Frees}
use Rattle.committed_results.specs.recheck_staging.specs.declared.staging.Anew.{Anew}
use Rattle.committed_results.specs.recheck_staging.proofs.Kept.{kept_by_old}
use Rattle.recheck_reach.specs.recheck_sources.specs.Parts.{AreKeptBy, TellsOthers}
use Rattle.recheck_run.specs.Stages.{old_of, IsBase, IsBaseIn}
use Rattle.recheck_run.specs.Steps.{AreAnew}
use Rattle.recheck_run.specs.declared.stages.Base.{Base}

beyond : (root : Root) (results : List Results) (e : ℕ) → 0 < e → payload_at root results e ≡ payload_in root.modules results e
beyond root results zero low = absurd (omega (arith, low))
beyond root results (suc e) low = refl

results_get : (parses : List Parse) (lists : List Deps) (sigs : List Sig) (errors : List Errs) (x : ℕ) (p : Parse) (d : Deps) (s : Sig) (e : Errs) → slice_get parses x ≡ Some p → slice_get lists x ≡ Some d → slice_get sigs x ≡ Some s → slice_get errors x ≡ Some e
    → slice_get (results_by parses lists sigs errors) x ≡ Some (record { parse = p; deps = d; sig = s; errors = e.faults })
results_get [] lists sigs errors x p d s e a b c f = absurd (let z : None ≡ Some p = a in cc)
results_get (q ∷ parses) [] sigs errors x p d s e a b c f = absurd (let z : None ≡ Some d = b in cc)
results_get (q ∷ parses) (r ∷ lists) [] errors x p d s e a b c f = absurd (let z : None ≡ Some s = c in cc)
results_get (q ∷ parses) (r ∷ lists) (t ∷ sigs) [] x p d s e a b c f = absurd (let z : None ≡ Some e = f in cc)
results_get (q ∷ parses) (r ∷ lists) (t ∷ sigs) (u ∷ errors) zero p d s e a b c f =
    let qa = one_value q p a in let rb = one_value r d b in let tc = one_value t s c in let uf = one_value u e f in
    λ j. Some (record { parse = qa j; deps = rb j; sig = tc j; errors = (uf j).faults })
results_get (q ∷ parses) (r ∷ lists) (t ∷ sigs) (u ∷ errors) (suc x) p d s e a b c f = results_get parses lists sigs errors x p d s e a b c f

all_at : {A : Type 0} (P : A → Type 0) (xs : List A) (i : ℕ) (x : A) → AllByRecursion P xs → slice_get xs i ≡ Some x → P x
all_at P [] i x all at = absurd (let z : None ≡ Some x = at in cc)
all_at P (y ∷ xs) zero x all at = subst P (one_value y x at) all.0
all_at P (y ∷ xs) (suc i) x all at = all_at P xs i x all.1 at

-- ---- what is committed at the entities of a module

module _ (made : Made) (committed : List Payload) (is_root : IsRoot (length committed) made.sources.root) (are : AreMade made) (held : HasState (state_of made) committed) where
  -- all four results of a module
  record HasAll (o : ℕ) : Type 0 where
    p : Parse
    d : Deps
    s : Sig
    e : Errs
    at_p : slice_get made.sources.parses.items o ≡ Some p
    at_d : slice_get made.sources.lists.items o ≡ Some d
    at_s : slice_get made.signatures.items o ≡ Some s
    at_e : slice_get made.errors.items o ≡ Some e

  has_all : (o : ℕ) → o < length made.sources.root.modules → HasAll o
  has_all o low =
      let a = many_parses made.sources are.sources in
      let b = many_lists made.sources are.sources in
      let c = many_merged made.sources made.signatures.items are.merged in
      let f = are.many in
      let p = get_there made.sources.parses.items o (omega (arith, a, low)) in
      let d = get_there made.sources.lists.items o (omega (arith, b, low)) in
      let s = get_there made.signatures.items o (omega (arith, c, low)) in
      let e = get_there made.errors.items o (omega (arith, f, low)) in
      record { p = p.0; d = d.0; s = s.0; e = e.0; at_p = p.1; at_d = d.1; at_s = s.1; at_e = e.1 }

  module _ (o : ℕ) (m : RootRow) (at : slice_get made.sources.root.modules o ≡ Some m) where
    h : HasAll o
    h = has_all o (within_there made.sources.root.modules o m at)

    abbrev results : List Results
    results = results_by made.sources.parses.items made.sources.lists.items made.signatures.items made.errors.items

    here : (e : ℕ) → 0 < e → e ≤ errors_entity m.row → slice_get committed e ≡ Some (payload_in made.sources.root.modules results e)
    here e some most =
        let room = all_at (λ (r : RootRow). errors_entity r.row < length committed) made.sources.root.modules o m is_root.room at in
        held e (omega (arith, room, most)) ∙ ap Some (beyond made.sources.root results e some)

    pub parse_committed : (p : Parse) → slice_get made.sources.parses.items o ≡ Some p → slice_get committed (parse_entity m.row) ≡ Some (payload.Parse p)
    parse_committed p at_p =
        let stands = stand_here made.sources.root.modules results o m _ is_root.rows at (results_get made.sources.parses.items made.sources.lists.items made.signatures.items made.errors.items o p h.d h.s h.e at_p h.at_d h.at_s h.at_e) in
        here (parse_entity m.row) (omega arith) (omega arith) ∙ ap Some stands.parse

    pub deps_committed : (d : Deps) → slice_get made.sources.lists.items o ≡ Some d → slice_get committed (deps_entity m.row) ≡ Some (payload.Deps d)
    deps_committed d at_d =
        let stands = stand_here made.sources.root.modules results o m _ is_root.rows at (results_get made.sources.parses.items made.sources.lists.items made.signatures.items made.errors.items o h.p d h.s h.e h.at_p at_d h.at_s h.at_e) in
        here (deps_entity m.row) (omega arith) (omega arith) ∙ ap Some stands.deps

    pub signature_committed : (s : Sig) → slice_get made.signatures.items o ≡ Some s → slice_get committed (signature_entity m.row) ≡ Some (payload.Sig s)
    signature_committed s at_s =
        let stands = stand_here made.sources.root.modules results o m _ is_root.rows at (results_get made.sources.parses.items made.sources.lists.items made.signatures.items made.errors.items o h.p h.d s h.e h.at_p h.at_d at_s h.at_e) in
        here (signature_entity m.row) (omega arith) (omega arith) ∙ ap Some stands.sig

    pub errors_committed : (e : Errs) → slice_get made.errors.items o ≡ Some e → slice_get committed (errors_entity m.row) ≡ Some (payload.Errs e)
    errors_committed e at_e =
        let stands = stand_here made.sources.root.modules results o m _ is_root.rows at (results_get made.sources.parses.items made.sources.lists.items made.signatures.items made.errors.items o h.p h.d h.s e h.at_p h.at_d h.at_s at_e) in
        here (errors_entity m.row) (omega arith) (omega arith) ∙ ap Some stands.errors

-- ---- what is kept of one kind

module _ {X : Type 0} (committed : List Payload) (place : ℕ → ℕ) (put : X → Payload) (b : Base) (base : IsBase b) (new : Root) (root : new ≡ b.root) (was xs : List X) (flags : List Bool)
    (stands : (o : ℕ) (n : RootRow) (y : X) → slice_get (old_of b).modules o ≡ Some n → slice_get was o ≡ Some y → slice_get committed (place n.row) ≡ Some (put y)) where
  mine : AreKept committed place put b.root.modules xs flags → AreKept committed place put new.modules xs flags
  mine kept = subst (λ (r : Root). AreKept committed place put r.modules xs flags) (sym root) kept

  abbrev Was : ℕ → X → Type 0
  Was i x = (o : ℕ) × (part : X) × (slice_get b.from.items i ≡ Some (Some o)) × (slice_get was o ≡ Some part) × (slice_get xs i ≡ Some part)

  kept : length xs ≡ length b.root.modules → length flags ≡ length b.root.modules → ((i : ℕ) (x : X) → slice_get flags i ≡ Some false → Was i x) → AreKept committed place put new.modules xs flags
  kept many_xs many_flags each = mine (kept_by_old committed place put (old_of b) b.root b.from.items was xs flags base.follows base.from stands many_xs many_flags (λ i x there off.
      let w = each i x off in
      let m = get_there b.root.modules i (let low = within_there xs i x there in omega (arith, many_xs, low)) in
      let n = was_module (old_of b) b.root b.from.items base.from i w.0 m.0 m.1 w.2 in
      (w.0, n.0, w.2, n.1, w.3 ∙ sym w.4 ∙ there)))

  pub kept_by : AreKeptBy was b.from.items flags xs → length flags ≡ length b.root.modules → AreKept committed place put new.modules xs flags
  kept_by by many_flags = kept (by.many ∙ many_from (old_of b) b.root b.from.items base.from) many_flags (λ i x off. by.kept i off)

  pub kept_others : TellsOthers was b.from.items xs flags → length xs ≡ length b.root.modules → AreKept committed place put new.modules xs flags
  kept_others tells many_xs = kept many_xs (tells.many ∙ many_xs) (λ i x off. tells.same i off)

-- ---- all four kinds

pub keeps_the_rest : (committed : List Payload) (b : Base) (made : Made) (anew : Anew) → IsBaseIn committed b → AreAnew b made anew → length b.fresh.items ≡ length b.root.modules → KeepsTheRest committed made anew
keeps_the_rest committed b made anew in_heap are many_fresh =
    let base = in_heap.base in
    let modules : length made.sources.root.modules ≡ length b.root.modules = ap (λ (r : Root). length r.modules) are.root in
    let lists = many_lists made.sources are.are.sources in
    let sigs = many_merged made.sources made.signatures.items are.are.merged in
    let flags : length anew.fresh.items ≡ length b.root.modules = ap length are.fresh ∙ many_fresh in
    record {
      parses = kept_by committed parse_entity payload.Parse b base made.sources.root are.root b.was.sources.parses.items made.sources.parses.items anew.fresh.items (λ o n y at there. parse_committed b.was committed in_heap.old_root base.made in_heap.held o n at y there) are.parses flags;
      lists = kept_others committed deps_entity payload.Deps b base made.sources.root are.root b.was.sources.lists.items made.sources.lists.items anew.relisted.items (λ o n y at there. deps_committed b.was committed in_heap.old_root base.made in_heap.held o n at y there) are.lists (lists ∙ modules);
      signatures = kept_others committed signature_entity payload.Sig b base made.sources.root are.root b.was.signatures.items made.signatures.items anew.moved.items (λ o n y at there. signature_committed b.was committed in_heap.old_root base.made in_heap.held o n at y there) are.moved (sigs ∙ modules);
      errors = kept_by committed errors_entity payload.Errs b base made.sources.root are.root b.was.errors.items made.errors.items anew.checked.items (λ o n y at there. errors_committed b.was committed in_heap.old_root base.made in_heap.held o n at y there) are.errors (are.checked.many ∙ modules);
    }

pub frees : (committed : List Payload) (b : Base) (made : Made) (freed : List ℕ) → IsBaseIn committed b → made.sources.root ≡ b.root → freed ≡ b.freed.items → Frees committed made.sources.root freed
frees committed b made freed in_heap root is old at =
    let same : old_of b ≡ old = (let z : Some (payload.Root (old_of b)) ≡ Some (payload.Root old) = sym in_heap.is ∙ at in let y : payload.Root (old_of b) ≡ payload.Root old = one_value (payload.Root (old_of b)) (payload.Root old) z in root_of y) in
    is ∙ in_heap.base.freed ∙ (λ j. freed_from (same j) (sym root j))
  where
    root_of : {r t : Root} → payload.Root r ≡ payload.Root t → r ≡ t
    root_of is = cc

pub own_root : (committed : List Payload) (b : Base) (new : Root) → IsBaseIn committed b → new ≡ b.root → IsRoot (length committed) new
own_root committed b new in_heap same = subst (IsRoot (length committed)) (sym same) in_heap.new_root
