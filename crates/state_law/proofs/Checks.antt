-- One full check, with the parses that stand in a state, gives all that stands there.
use Rattle.std.proofs.Common.{◌≡◌, ℕ, zero, suc, ◌<◌, Bool, true, false, cond, List, [], ◌∷◌, map, length, slice_get, Option, Some, None, refl, sym, ap, ◌∙◌, subst, arith}
use Rattle.std.specs.Prelude.{◌==◌}
use Rattle.std.specs.List.{AllByRecursion}
use Rattle.std.proofs.lemmas.Bool.Decides.{nat_tests}
use mathlib.Core.Logic.{∥∥₁_map}
use Rattle.heap_core.proofs.Lists.{get_there}
use Rattle.flow_base.specs.Program.{Bytes, Program, paths_of}
use Rattle.check_values.specs.Rows.{row_at}
use Rattle.check_values.specs.declared.root.RootRow.{RootRow}
use Rattle.check_values.specs.declared.root.Root.{Root}
use Rattle.check_values.specs.declared.faults.Fault.{Fault}
use Rattle.payloads.specs.source_front.specs.declared.parse.ParseTree.{ParseTree}
use Rattle.payloads.specs.source_front.specs.declared.parse.ParseTree.TheVariants.{Tree, Broken}
use Rattle.payloads.specs.source_front.specs.declared.parse.Parse.{Parse}
use Rattle.payloads.specs.source_front.specs.Front.{IsParse}
use Rattle.payloads.specs.source_front.specs.Law.{seen, OneParse}
use Rattle.module_resolution.specs.Dependencies.{dependencies_of}
use Rattle.merged_signatures.specs.Chains.{Known, View}
use Rattle.errors_by_reach.specs.Seen.{Sigs}
use Rattle.errors_by_reach.specs.Law.{Source, HasErrors}
use Rattle.payloads.specs.check_job.specs.Jobs.{source_in}
use Rattle.payloads.specs.program_check.specs.Full.{Results, beside, known_of, view_in, sigs_in, module_in, AreResultsOf, AreResults, IsFull}
use Rattle.payloads.specs.program_check.specs.Law.{AllAlike, OneFull}
use Rattle.payloads.specs.Entities.{parse_entity, deps_entity, signature_entity, errors_entity}
use Rattle.payloads.specs.State.{program_of, IsRoot, payload_in, payload_at, StandsIn}
use Rattle.payloads.specs.declared.payload.Payload.{Payload}
use Rattle.payloads.specs.declared.payload.Payload.TheVariants as payload
use Rattle.payloads.proofs.Places.{stand_here}
use Rattle.state_law.specs.Law.{IsCheckOf, EachStateHasACheck}
use Rattle.state_law.proofs.Choices.{AtEach, all_at_once}

same_number : (a b : ℕ) → (a == b) ≡ true → a ≡ b
same_number a b is = grind (arith, nat_tests)

-- trees that say the same
same_module : (a b : ParseTree) → seen a ≡ seen b → module_in a ≡ module_in b
same_module (Tree m spans) (Tree n others) e = cc
same_module (Tree m spans) (Broken f) e = absurd (let z : seen (Tree m spans) ≡ seen (Broken f) = e in cc)
same_module (Broken f) (Tree m spans) e = absurd (let z : seen (Broken f) ≡ seen (Tree m spans) = e in cc)
same_module (Broken f) (Broken g) e = refl

same_source : (a b : ParseTree) → seen a ≡ seen b → source_in a ≡ source_in b
same_source (Tree m spans) (Tree n others) e = cc
same_source (Tree m spans) (Broken f) e = absurd (let z : seen (Tree m spans) ≡ seen (Broken f) = e in cc)
same_source (Broken f) (Tree m spans) e = absurd (let z : seen (Broken f) ≡ seen (Tree m spans) = e in cc)
same_source (Broken f) (Broken g) e = cc

-- these results, with another parse
abbrev with_parse : Results → Parse → Results
with_parse r p = record { parse = p; deps = r.deps; sig = r.sig; errors = r.errors }

abbrev module_of_row : RootRow → Bytes × Bytes
module_of_row m = (m.path, m.text)

all_at : (Holds : RootRow → Type 0) (ms : List RootRow) (i : ℕ) (m : RootRow) → AllByRecursion Holds ms → slice_get ms i ≡ Some m → Holds m
all_at Holds [] i m all at = absurd (let z : None ≡ Some m = at in cc)
all_at Holds (n ∷ ms) zero m all at = let same : n ≡ m = (let z : Some n ≡ Some m = at in cc) in subst Holds same all.0
all_at Holds (n ∷ ms) (suc i) m all at = all_at Holds ms i m all.1 at

beyond : (root : Root) (results : List Results) (e : ℕ) → 0 < e → payload_at root results e ≡ payload_in root.modules results e
beyond root results zero low = absurd (omega arith)
beyond root results (suc e) low = refl

module _ (one_parse : OneParse) (paths : List Bytes) (view : View) (sigs : Sigs) where
  -- another parse of the text serves as well
  other_parse : (path text : Bytes) (r : Results) (p : Parse) → AreResultsOf paths view sigs path text r → IsParse text p → AreResultsOf paths view sigs path text (with_parse r p)
  other_parse path text r p are is =
      let same = one_parse text r.parse p are.parse is in
      let errors : HasErrors path r.deps (source_in p.tree) sigs r.errors =
      subst (λ (source : Source). HasErrors path r.deps source sigs r.errors) (same_source r.parse.tree p.tree same.0) are.errors in
      record { parse = is; deps = are.deps ∙ ap (dependencies_of paths path) (same_module r.parse.tree p.tree same.0); sig = are.sig; errors = errors }

  -- the results of the module of a place
  results_of : (ms : List RootRow) (rs : List Results) (i : ℕ) (m : RootRow) → AreResults paths view sigs (map module_of_row ms) rs → slice_get ms i ≡ Some m
      → (r : Results) × (slice_get rs i ≡ Some r) × IsParse m.text r.parse
  results_of [] rs i m are at = absurd (let z : None ≡ Some m = at in cc)
  results_of (n ∷ ms) [] i m are at = absurd are
  results_of (n ∷ ms) (r ∷ rs) zero m are at = let same : n ≡ m = (let z : Some n ≡ Some m = at in cc) in (r, refl, subst (λ (k : RootRow). IsParse k.text r.parse) same are.0.parse)
  results_of (n ∷ ms) (r ∷ rs) (suc i) m are at = results_of ms rs i m are.1 at

module _ (state : List Payload) where
  abbrev parse_in : Option Payload → Parse → Parse
  parse_in (Some (payload.Parse p)) other = p
  parse_in (Some payload.Absent) other = other
  parse_in (Some (payload.Root root)) other = other
  parse_in (Some (payload.Deps deps)) other = other
  parse_in (Some (payload.Sig sig)) other = other
  parse_in (Some (payload.Errs errs)) other = other
  parse_in None other = other

  abbrev given : RootRow → Parse → Parse
  given m other = parse_in (slice_get state (parse_entity m.row)) other

  -- the results, with the parses of the state
  abbrev with_parses : List RootRow → List Results → List Results
  with_parses (m ∷ ms) (r ∷ rs) = with_parse r (given m r.parse) ∷ with_parses ms rs
  with_parses ms rs = []

  -- what a like check gives an entity of the state, this one gives it
  stands_anew : (ms : List RootRow) (rs qs : List Results) (e : ℕ) (x : Payload) → AllAlike qs rs → slice_get state e ≡ Some x → x ≡ payload_in ms qs e → x ≡ payload_in ms (with_parses ms rs) e
  stands_anew [] rs qs e x alike at is = is
  stands_anew (m ∷ ms) [] [] e x alike at is = is
  stands_anew (m ∷ ms) [] (q ∷ qs) e x alike at is = absurd alike
  stands_anew (m ∷ ms) (r ∷ rs) [] e x alike at is = absurd alike
  stands_anew (m ∷ ms) (r ∷ rs) (q ∷ qs) e x alike at is =
      go (e == parse_entity m.row) (e == deps_entity m.row) (e == signature_entity m.row) (e == errors_entity m.row) refl (stands_anew ms rs qs e x alike.1 at) is
    where
      taken : e ≡ parse_entity m.row → x ≡ payload.Parse q.parse → given m r.parse ≡ q.parse
      taken there is_parse = ap (λ (o : Option Payload). parse_in o r.parse) (sym (ap (slice_get state) there) ∙ (at ∙ ap Some is_parse))

      go : (b c d f : Bool) → (e == parse_entity m.row) ≡ b → (x ≡ payload_in ms qs e → x ≡ payload_in ms (with_parses ms rs) e)
          → x ≡ cond b (payload.Parse q.parse) (cond c (payload.Deps q.deps) (cond d (payload.Sig q.sig) (cond f (payload.Errs (record { faults = q.errors })) (payload_in ms qs e))))
          → x ≡ cond b (payload.Parse (given m r.parse)) (cond c (payload.Deps r.deps) (cond d (payload.Sig r.sig) (cond f (payload.Errs (record { faults = r.errors })) (payload_in ms (with_parses ms rs) e))))
      go true c d f there later here = here ∙ ap payload.Parse (sym (taken (same_number e (parse_entity m.row) there) here))
      go false true d f there later here = here ∙ ap payload.Deps alike.0.deps
      go false false true f there later here = here ∙ ap payload.Sig alike.0.sig
      go false false false true there later here = here ∙ ap (λ (errors : List Fault). payload.Errs (record { faults = errors })) alike.0.errors
      go false false false false there later here = later here

  -- a parse of the module's text stands at its entity
  abbrev HasParse : RootRow → Type 0
  HasParse m = (p : Parse) × (slice_get state (parse_entity m.row) ≡ Some (payload.Parse p)) × IsParse m.text p

  is_given : (m : RootRow) (other : Parse) → HasParse m → IsParse m.text (given m other)
  is_given m other (p, at, is) = subst (IsParse m.text) (sym (ap (λ (o : Option Payload). parse_in o other) at)) is

  module _ (one_parse : OneParse) (paths : List Bytes) (view : View) (sigs : Sigs) where
    all_anew : (ms : List RootRow) (rs : List Results) → AtEach (λ i m. HasParse m) ms → AreResults paths view sigs (map module_of_row ms) rs → AreResults paths view sigs (map module_of_row ms) (with_parses ms rs)
    all_anew [] [] has are = tt
    all_anew [] (r ∷ rs) has are = absurd are
    all_anew (m ∷ ms) [] has are = absurd are
    all_anew (m ∷ ms) (r ∷ rs) has are =
        (other_parse one_parse paths view sigs m.path m.text r (given m r.parse) are.0 (is_given m r.parse (has 0 m refl)), all_anew ms rs (λ i n at. has (suc i) n at) are.1)

    same_known : (ms : List RootRow) (rs : List Results) → AtEach (λ i m. HasParse m) ms → AreResults paths view sigs (map module_of_row ms) rs → map known_of rs ≡ map known_of (with_parses ms rs)
    same_known [] [] has are = refl
    same_known [] (r ∷ rs) has are = absurd are
    same_known (m ∷ ms) [] has are = absurd are
    same_known (m ∷ ms) (r ∷ rs) has are =
        let same = one_parse m.text r.parse (given m r.parse) are.0.parse (is_given m r.parse (has 0 m refl)) in
        let sig = same.1 in
        let rest = same_known ms rs (λ i n at. has (suc i) n at) are.1 in
        λ j. record { sig = sig j; deps = r.deps } ∷ rest j

    same_sigs : (ms : List RootRow) (rs : List Results) → AreResults paths view sigs (map module_of_row ms) rs → map (λ (r : Results). r.sig) rs ≡ map (λ (r : Results). r.sig) (with_parses ms rs)
    same_sigs [] [] are = refl
    same_sigs [] (r ∷ rs) are = absurd are
    same_sigs (m ∷ ms) [] are = absurd are
    same_sigs (m ∷ ms) (r ∷ rs) are = let rest = same_sigs ms rs are.1 in λ j. r.sig ∷ rest j

module _ (one_parse : OneParse) (one_full : OneFull) (root : Root) (state : List Payload) (is_root : IsRoot (length state) root) (stood : AtEach (StandsIn root) state) where
  abbrev program : Program
  program = program_of root

  has_parse : AtEach (λ i m. HasParse state m) root.modules
  has_parse i m at =
      let room = all_at (λ n. errors_entity n.row < length state) root.modules i m is_root.room at in
      let there = get_there state (parse_entity m.row) (omega arith) in
      let s = stood (parse_entity m.row) there.0 there.1 in
      let r = results_of one_parse (paths_of program) (view_in program s.0) (sigs_in program s.0) root.modules s.0 i m s.1 at in
      let here = stand_here root.modules s.0 i m r.0 is_root.rows at r.1 in
      let parse : there.0 ≡ payload.Parse r.0.parse = s.2 ∙ (beyond root s.0 (parse_entity m.row) (omega arith) ∙ here.parse) in
      (r.0.parse, there.1 ∙ ap Some parse, r.2)

  module _ (first : List Results) (full : IsFull program first) where
    abbrev anew : List Results
    anew = with_parses state root.modules first

    full_anew : IsFull program anew
    full_anew =
        let view : view_in program first ≡ view_in program anew =
        ap (λ (known : List Known). row_at (beside program known)) (same_known state one_parse (paths_of program) (view_in program first) (sigs_in program first) root.modules first has_parse full) in
        let sigs : sigs_in program first ≡ sigs_in program anew =
        ap (λ (all : List _). row_at (beside program all)) (same_sigs state one_parse (paths_of program) (view_in program first) (sigs_in program first) root.modules first full) in
        subst (λ (v : View). AreResults (paths_of program) v (sigs_in program anew) program anew) view
        (subst (λ (s : Sigs). AreResults (paths_of program) (view_in program first) s program anew) sigs
        (all_anew state one_parse (paths_of program) (view_in program first) (sigs_in program first) root.modules first has_parse full))

    stands : (e : ℕ) (x : Payload) → slice_get state e ≡ Some x → x ≡ payload_at root anew e
    stands zero x at = (stood zero x at).2
    stands (suc e) x at = let s = stood (suc e) x at in stands_anew state root.modules first s.0 (suc e) x (one_full program s.0 first s.1 full) at s.2

    pub is_check : IsCheckOf root state anew
    is_check = record { full = full_anew; stands = stands }

pub each_state_has_a_check : OneParse → OneFull → EachStateHasACheck
each_state_has_a_check one_parse one_full root state at fit =
    let is_root = (fit (payload.Root root) at 0 (payload.Root root) at).0 in
    ∥∥₁_map (all_at_once (StandsIn root) state (λ e x there. (fit (payload.Root root) at e x there).1)) (λ (stood : AtEach (StandsIn root) state).
    let first = stood 0 (payload.Root root) at in
    (with_parses state root.modules first.0, is_check one_parse one_full root state is_root stood first.0 first.1))
