-- What stands in a lawful state for the module of a row.
use Rattle.std.proofs.Common.{◌≡◌, ℕ, zero, suc, ◌^◌, ◌<◌, Bool, true, false, List, [], ◌∷◌, length, slice_get, Option, Some, None, refl, sym, ap, ◌∙◌, subst, arith, bytes_eq}
use Rattle.std.specs.Prelude.{if◌then◌else◌, option_and_then}
use Rattle.std.specs.Option.{is_some}
use Rattle.std.specs.Coded.{coded_bool}
use denote.Struct.Props.{≡_prop}
use mathlib.Core.Logic.{∥∥₁_elim}
use Rattle.std.proofs.lemmas.Option.{none-some, same_Some}
use Rattle.flow_base.specs.Program.{Bytes, paths_of}
use Rattle.heap_core.proofs.Lists.{get_there}
use Rattle.check_values.specs.Roots.{paths_of_rows}
use Rattle.check_values.specs.declared.root.RootRow.{RootRow}
use Rattle.check_values.specs.declared.root.Root.{Root}
use Rattle.check_values.specs.declared.signatures.Deps.{Deps}
use Rattle.place_analyst.specs.source_front.specs.declared.parse.Parse.{Parse}
use Rattle.merged_signatures.specs.Chains.{View}
use Rattle.errors_by_reach.specs.Seen.{Sigs}
use Rattle.heap_answers.specs.program_check.specs.Full.{Results, sigs_in, AreResultsOf, AreResults, IsFull}
use Rattle.heap_answers.specs.program_check.specs.Law.{OneFull}
use Rattle.heap_answers.specs.payloads.specs.Entities.{parse_entity, deps_entity, errors_entity}
use Rattle.heap_answers.specs.payloads.specs.State.{program_of, payload_at, payload_in, StandsIn}
use Rattle.heap_answers.specs.payloads.proofs.Places.{stand_here}
use Rattle.heap_answers.specs.payloads.specs.declared.payload.Payload.{Payload}
use Rattle.heap_answers.specs.payloads.specs.declared.payload.Payload.TheVariants as payload
use Rattle.heap_answers.specs.States.{signature_of, signature_at, module_at, sigs_by, HasPlace}
use Rattle.heap_answers.proofs.Standing.{IsLawful, HasRoot, placed, all_at, Holds, AllHold, each_holds}
use Rattle.request_core.specs.States.{parse_of, deps_of, parse_at, deps_at, IsRead}

-- ---- the root

pub has_root : (state : List Payload) → IsLawful state → (root : Root) → slice_get state 0 ≡ Some (payload.Root root) → HasRoot state root
has_root state lawful root first = record {
  first = first;
  is_root = (lawful.1 (payload.Root root) first 0 (payload.Root root) first).0;
  fit = λ e x at. (lawful.1 (payload.Root root) first e x at).1;
}

pub same_paths : (ms : List RootRow) → paths_of (program_of (record { modules = ms })) ≡ paths_of_rows ms
same_paths [] = refl
same_paths (m ∷ ms) = ap (λ l. m.path ∷ l) (same_paths ms)

-- ---- payloads by their parts

parse_only : (x : Payload) (p : Parse) → parse_of x ≡ Some p → x ≡ payload.Parse p
parse_only payload.Absent p is = absurd (none-some p is)
parse_only (payload.Root root) p is = absurd (none-some p is)
parse_only (payload.Parse q) p is = ap payload.Parse (same_Some q p is)
parse_only (payload.Deps deps) p is = absurd (none-some p is)
parse_only (payload.Sig sig) p is = absurd (none-some p is)
parse_only (payload.Errs errs) p is = absurd (none-some p is)

-- what is there in part is there
abbrev part : {X : Type 0} → (Payload → Option X) → Option Payload → Option X
part f None = None
part f (Some x) = f x

some_part : {X : Type 0} (f : Payload → Option X) (o : Option Payload) (y : X) → part f o ≡ Some y → (x : Payload) × (o ≡ Some x) × (f x ≡ Some y)
some_part f None y is = absurd (none-some y is)
some_part f (Some x) y is = (x, refl, is)

parse_part : (o : Option Payload) → (elim o [ Some x ↦ parse_of x | None ↦ None ]) ≡ part parse_of o
parse_part None = refl
parse_part (Some x) = refl

pub parse_stands : (state : List Payload) (row : ℕ) (p : Parse) → parse_at state row ≡ Some p → slice_get state (parse_entity row) ≡ Some (payload.Parse p)
parse_stands state row p is =
    let (x, at, has) = some_part parse_of (slice_get state (parse_entity row)) p (sym (parse_part (slice_get state (parse_entity row))) ∙ is) in
    at ∙ ap Some (parse_only x p has)

parse_read : (state : List Payload) (row : ℕ) (x : Payload) → slice_get state (parse_entity row) ≡ Some x → parse_at state row ≡ parse_of x
parse_read state row x at = ap (λ o. elim o [ Some y ↦ parse_of y | None ↦ None ]) at

deps_read : (state : List Payload) (row : ℕ) (x : Payload) → slice_get state (deps_entity row) ≡ Some x → deps_at state row ≡ deps_of x
deps_read state row x at = ap (λ o. elim o [ Some y ↦ deps_of y | None ↦ None ]) at

pub one_list : (state : List Payload) (m : RootRow) (r : Results) (deps : Deps) → Holds state m r → deps_at state m.row ≡ Some deps → deps ≡ r.deps
one_list state m r deps holds is = same_Some deps r.deps (sym is ∙ deps_read state m.row (payload.Deps r.deps) holds.deps)

-- ---- results by their places

pub result_there : (state : List Payload) (ms : List RootRow) (rs : List Results) (i : ℕ) (m : RootRow) → AllHold state ms rs → slice_get ms i ≡ Some m → (r : Results) × (slice_get rs i ≡ Some r) × Holds state m r
result_there state [] rs i m hold at = absurd (none-some m at)
result_there state (n ∷ ms) [] i m hold at = absurd hold
result_there state (n ∷ ms) (r ∷ rs) zero m hold at = (r, refl, subst (λ (k : RootRow). Holds state k r) (same_Some n m at) hold.0)
result_there state (n ∷ ms) (r ∷ rs) (suc i) m hold at = result_there state ms rs i m hold.1 at

pub results_of : (paths : List Bytes) (view : View) (sigs : Sigs) (ms : List RootRow) (rs : List Results) (i : ℕ) (m : RootRow) (r : Results) → AreResults paths view sigs (program_of (record { modules = ms })) rs
    → slice_get ms i ≡ Some m → slice_get rs i ≡ Some r → AreResultsOf paths view sigs m.path m.text r
results_of paths view sigs [] rs i m r are at of = absurd (none-some m at)
results_of paths view sigs (n ∷ ms) [] i m r are at of = absurd are
results_of paths view sigs (n ∷ ms) (s ∷ rs) zero m r are at of =
    subst (λ (k : RootRow). AreResultsOf paths view sigs k.path k.text r) (same_Some n m at) (subst (λ (t : Results). AreResultsOf paths view sigs n.path n.text t) (same_Some s r of) are.0)
results_of paths view sigs (n ∷ ms) (s ∷ rs) (suc i) m r are at of = results_of paths view sigs ms rs i m r are.1 at of

-- ---- signatures

signed_at : (state : List Payload) (ms : List RootRow) (rs : List Results) (path : Bytes) → AllHold state ms rs → sigs_by state ms path ≡ sigs_in (program_of (record { modules = ms })) rs path
signed_at state [] [] path hold = refl
signed_at state [] (r ∷ rs) path hold = absurd hold
signed_at state (m ∷ ms) [] path hold = absurd hold
signed_at state (m ∷ ms) (r ∷ rs) path hold = go (bytes_eq m.path path) (signed_at state ms rs path hold.1)
  where
    go : (b : Bool) → sigs_by state ms path ≡ sigs_in (program_of (record { modules = ms })) rs path →
        option_and_then (λ (k : RootRow). signature_at state k.row) (if b then Some m else module_at ms path) ≡ (if b then Some r.sig else sigs_in (program_of (record { modules = ms })) rs path)
    go true rest = ap (λ o. elim o [ Some x ↦ signature_of x | None ↦ None ]) hold.0.sig
    go false rest = rest

pub all_signed : (state : List Payload) (ms : List RootRow) (rs : List Results) → AllHold state ms rs → sigs_by state ms ≡ sigs_in (program_of (record { modules = ms })) rs
all_signed state ms rs hold = λ i path. signed_at state ms rs path hold i

-- ---- what is read of a module

beyond : (root : Root) (results : List Results) (e : ℕ) → 0 < e → payload_at root results e ≡ payload_in root.modules results e
beyond root results zero low = absurd (omega arith)
beyond root results (suc e) low = refl

module _ (one : OneFull) (state : List Payload) (root : Root) (has : HasRoot state root) (i : ℕ) (m : RootRow) (at : slice_get root.modules i ≡ Some m) where
  room : errors_entity m.row < length state
  room = all_at (λ (n : RootRow). errors_entity n.row < length state) root.modules i m has.is_root.room at

  pub place_there : length state < 2 ^ 32 → HasPlace state m
  place_there few = all_at (HasPlace state) root.modules i m (placed state root few has) at

  -- the results of a full check that puts this at the entity of the module's parse
  pub parse_of_full : (x : Payload) (stood : List Results) → IsFull (program_of root) stood → x ≡ payload_at root stood (parse_entity m.row) → (r : Results) × (slice_get stood i ≡ Some r) × Holds state m r × (x ≡ payload.Parse r.parse)
  parse_of_full x stood full is =
      let (r, of, holds) = result_there state root.modules stood i m (each_holds one state root has stood full) at in
      (r, of, holds, is ∙ (beyond root stood (parse_entity m.row) (omega arith) ∙ (stand_here root.modules stood i m r has.is_root.rows at of).parse))

  -- both are there
  pub read_there : IsRead state m
  read_there =
      let x = get_there state (parse_entity m.row) (let r = room in omega (arith, r)) in
      record {
        parse = ∥∥₁_elim (has.fit (parse_entity m.row) x.0 x.1) (≡_prop coded_bool _ _) (λ (stood : StandsIn root (parse_entity m.row) x.0).
            let of = parse_of_full x.0 stood.0 stood.1 stood.2 in
            ap is_some (parse_read state m.row x.0 x.1 ∙ ap parse_of of.3));
        deps = ∥∥₁_elim (has.fit (parse_entity m.row) x.0 x.1) (≡_prop coded_bool _ _) (λ (stood : StandsIn root (parse_entity m.row) x.0).
            let of = parse_of_full x.0 stood.0 stood.1 stood.2 in
            ap is_some (deps_read state m.row (payload.Deps of.0.deps) of.2.deps));
      }
