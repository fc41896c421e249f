-- What stands at the entities of a module, and at those of a row that is none's.
use Rattle.std.proofs.Common.{◌≡◌, ◌≢◌, ℕ, zero, suc, ◌+◌, ◌*◌, ◌<◌, ◌≤◌, Bool, true, false, cond, List, [], ◌∷◌, slice_get, Option, Some, None, refl, sym, ap, ◌∙◌, subst, arith}
use Rattle.std.specs.Prelude.{◌==◌}
use Rattle.std.specs.List.{AllByRecursion}
use Rattle.std.proofs.lemmas.Bool.Decides.{nat_tests}
use Rattle.check_values.specs.declared.root.RootRow.{RootRow}
use Rattle.program_check.specs.Full.{Results}
use Rattle.payloads.specs.Entities.{parse_entity, deps_entity, signature_entity, errors_entity}
use Rattle.payloads.specs.declared.payload.Payload.{Payload}
use Rattle.payloads.specs.declared.payload.Payload.TheVariants as payload
use Rattle.payloads.specs.State.{HaveOwnRows, result_at, payload_in}

is_not : (a b : ℕ) → a ≢ b → (a == b) ≡ false
is_not a b ne = grind (arith, nat_tests)

is_itself : (a : ℕ) → (a == a) ≡ true
is_itself a = grind (arith, nat_tests)

-- one of the four entities of a row
pub record IsOfRow (row e : ℕ) : Type 0 where
  pub low : 4 * row < e
  pub high : e ≤ 4 * row + 4

-- an entity that isn't of a row
pub off_row : (row : ℕ) (r : Results) (e : ℕ) (x : Payload) → (IsOfRow row e → ⊥) → result_at row r e x ≡ x
off_row row r e x off =
    let a : (e == parse_entity row) ≡ false = is_not e (parse_entity row) (λ same. off (record { low = omega arith; high = omega arith })) in
    let b : (e == deps_entity row) ≡ false = is_not e (deps_entity row) (λ same. off (record { low = omega arith; high = omega arith })) in
    let c : (e == signature_entity row) ≡ false = is_not e (signature_entity row) (λ same. off (record { low = omega arith; high = omega arith })) in
    let d : (e == errors_entity row) ≡ false = is_not e (errors_entity row) (λ same. off (record { low = omega arith; high = omega arith })) in
    λ i. cond (a i) (payload.Parse r.parse) (cond (b i) (payload.Deps r.deps) (cond (c i) (payload.Sig r.sig) (cond (d i) (payload.Errs (record { faults = r.errors })) x)))

-- an entity is of one row
pub one_row : (row other e : ℕ) → row ≢ other → IsOfRow other e → IsOfRow row e → ⊥
one_row row other e ne a b =
    let la = a.low in
    let ha = a.high in
    let lb = b.low in
    let hb = b.high in
    ne (omega arith)

parse_here : (row : ℕ) (r : Results) (x : Payload) → result_at row r (parse_entity row) x ≡ payload.Parse r.parse
parse_here row r x =
    let a = is_itself (parse_entity row) in
    λ i. cond (a i) (payload.Parse r.parse) (cond (parse_entity row == deps_entity row) (payload.Deps r.deps)
    (cond (parse_entity row == signature_entity row) (payload.Sig r.sig) (cond (parse_entity row == errors_entity row) (payload.Errs (record { faults = r.errors })) x)))

deps_here : (row : ℕ) (r : Results) (x : Payload) → result_at row r (deps_entity row) x ≡ payload.Deps r.deps
deps_here row r x =
    let a : (deps_entity row == parse_entity row) ≡ false = is_not (deps_entity row) (parse_entity row) (λ same. omega arith) in
    let b = is_itself (deps_entity row) in
    λ i. cond (a i) (payload.Parse r.parse) (cond (b i) (payload.Deps r.deps)
    (cond (deps_entity row == signature_entity row) (payload.Sig r.sig) (cond (deps_entity row == errors_entity row) (payload.Errs (record { faults = r.errors })) x)))

signature_here : (row : ℕ) (r : Results) (x : Payload) → result_at row r (signature_entity row) x ≡ payload.Sig r.sig
signature_here row r x =
    let a : (signature_entity row == parse_entity row) ≡ false = is_not (signature_entity row) (parse_entity row) (λ same. omega arith) in
    let b : (signature_entity row == deps_entity row) ≡ false = is_not (signature_entity row) (deps_entity row) (λ same. omega arith) in
    let c = is_itself (signature_entity row) in
    λ i. cond (a i) (payload.Parse r.parse) (cond (b i) (payload.Deps r.deps)
    (cond (c i) (payload.Sig r.sig) (cond (signature_entity row == errors_entity row) (payload.Errs (record { faults = r.errors })) x)))

errors_here : (row : ℕ) (r : Results) (x : Payload) → result_at row r (errors_entity row) x ≡ payload.Errs (record { faults = r.errors })
errors_here row r x =
    let a : (errors_entity row == parse_entity row) ≡ false = is_not (errors_entity row) (parse_entity row) (λ same. omega arith) in
    let b : (errors_entity row == deps_entity row) ≡ false = is_not (errors_entity row) (deps_entity row) (λ same. omega arith) in
    let c : (errors_entity row == signature_entity row) ≡ false = is_not (errors_entity row) (signature_entity row) (λ same. omega arith) in
    let d = is_itself (errors_entity row) in
    λ i. cond (a i) (payload.Parse r.parse) (cond (b i) (payload.Deps r.deps)
    (cond (c i) (payload.Sig r.sig) (cond (d i) (payload.Errs (record { faults = r.errors })) x)))

-- what stands at the four entities of a module
pub record StandHere (row : ℕ) (r : Results) (at : ℕ → Payload) : Type 0 where
  pub parse : at (parse_entity row) ≡ payload.Parse r.parse
  pub deps : at (deps_entity row) ≡ payload.Deps r.deps
  pub sig : at (signature_entity row) ≡ payload.Sig r.sig
  pub errors : at (errors_entity row) ≡ payload.Errs (record { faults = r.errors })

-- the row of a later module
later_row : (row : ℕ) (ms : List RootRow) (x : ℕ) (m : RootRow) → AllByRecursion (λ n. row ≢ n.row) ms → slice_get ms x ≡ Some m → row ≢ m.row
later_row row [] x m all at = absurd (let z : None ≡ Some m = at in cc)
later_row row (n ∷ ms) zero m all at = let is : n ≡ m = (let z : Some n ≡ Some m = at in cc) in subst (λ (k : RootRow). row ≢ k.row) is all.0
later_row row (n ∷ ms) (suc x) m all at = later_row row ms x m all.1 at

pub stand_here : (ms : List RootRow) (rs : List Results) (x : ℕ) (m : RootRow) (r : Results) → HaveOwnRows ms → slice_get ms x ≡ Some m → slice_get rs x ≡ Some r
    → StandHere m.row r (payload_in ms rs)
stand_here [] rs x m r own at of = absurd (let z : None ≡ Some m = at in cc)
stand_here (n ∷ ms) [] x m r own at of = absurd (let z : None ≡ Some r = of in cc)
stand_here (n ∷ ms) (s ∷ rs) zero m r own at of =
    let is_m : n ≡ m = (let z : Some n ≡ Some m = at in cc) in
    let is_r : s ≡ r = (let z : Some s ≡ Some r = of in cc) in
    let here : StandHere n.row s (payload_in (n ∷ ms) (s ∷ rs)) = record {
      parse = parse_here n.row s (payload_in ms rs (parse_entity n.row));
      deps = deps_here n.row s (payload_in ms rs (deps_entity n.row));
      sig = signature_here n.row s (payload_in ms rs (signature_entity n.row));
      errors = errors_here n.row s (payload_in ms rs (errors_entity n.row));
    } in
    subst (λ (k : RootRow). StandHere k.row r (payload_in (n ∷ ms) (s ∷ rs))) is_m (subst (λ (t : Results). StandHere n.row t (payload_in (n ∷ ms) (s ∷ rs))) is_r here)
stand_here (n ∷ ms) (s ∷ rs) (suc x) m r own at of =
    let ne : n.row ≢ m.row = later_row n.row ms x m own.0 at in
    let rest : StandHere m.row r (payload_in ms rs) = stand_here ms rs x m r own.1 at of in
    record {
      parse = off_row n.row s (parse_entity m.row) (payload_in ms rs (parse_entity m.row)) (one_row n.row m.row (parse_entity m.row) ne (record { low = omega arith; high = omega arith })) ∙ rest.parse;
      deps = off_row n.row s (deps_entity m.row) (payload_in ms rs (deps_entity m.row)) (one_row n.row m.row (deps_entity m.row) ne (record { low = omega arith; high = omega arith })) ∙ rest.deps;
      sig = off_row n.row s (signature_entity m.row) (payload_in ms rs (signature_entity m.row)) (one_row n.row m.row (signature_entity m.row) ne (record { low = omega arith; high = omega arith })) ∙ rest.sig;
      errors = off_row n.row s (errors_entity m.row) (payload_in ms rs (errors_entity m.row)) (one_row n.row m.row (errors_entity m.row) ne (record { low = omega arith; high = omega arith })) ∙ rest.errors;
    }

-- nothing stands at an entity that is of no module's row
pub nothing_here : (ms : List RootRow) (rs : List Results) (e : ℕ) → AllByRecursion (λ m. IsOfRow m.row e → ⊥) ms → payload_in ms rs e ≡ payload.Absent
nothing_here [] rs e all = refl
nothing_here (m ∷ ms) [] e all = refl
nothing_here (m ∷ ms) (r ∷ rs) e all = off_row m.row r e (payload_in ms rs e) all.0 ∙ nothing_here ms rs e all.1
