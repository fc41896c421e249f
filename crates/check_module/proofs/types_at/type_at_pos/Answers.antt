use Rattle.std.proofs.Common.{arith, subst, ◌↔◌, ◌≡◌, Some, ℕ}
use Rattle.check_values.specs.Rows.{Bytes, row_at}
use Rattle.byte_places.specs.Places.{StandsAt}
use Rattle.check_module.proofs.Placing.{at_byte}
use Rattle.check_module.proofs.types_at.type_at_pos.Goals as goal

pub returns-clause-whole : goal.returns-clause-whole
returns-clause-whole c = λ m spans told.
    let job = c.args.job.now in
    let tells : (n : ℕ) → (c.byte_place.result ≡ Some n) ↔ StandsAt job.text c.args.line c.args.column n =
    subst (λ (text : Bytes). (n : ℕ) → (c.byte_place.result ≡ Some n) ↔ StandsAt text c.args.line c.args.column n) c.as_bytes.ensures c.byte_place.ensures in
    let same : c.in-Ok.at ≡ c.in-Some.place = omega (arith, c.in-Ok.ensures) in
    at_byte job.path job.deps m spans (row_at job.sigs.rows) job.text c.args.line c.args.column c.byte_place.result c.in_ok-t.t tells c.in-Some.place c.in-Ok.at c.in-Some.is same (c.in_ok-t.ensures.whole m spans told)
