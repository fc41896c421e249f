use Rattle.std.proofs.Common.{◌≡◌, ℕ, Result, Ok, Err, OnOk, OnErr, length, sym, ap, ◌∙◌, arith}
use Rattle.fact_trail.specs.declared.trail.Trail.{Trail}
use Rattle.fact_trail.specs.Moments.{map_of, map_at, IsSame}
use Rattle.fact_arms.proofs.Staying.{stays_same, same_then, same_at}
use Rattle.fact_arms.proofs.trails.go_back_or_stay.Goals as goal

on_err : {T E : Type 0} (r : Result T E) (P : Type 0) → P → OnErr r P
on_err (Ok x) P is = tt
on_err (Err x) P is = is

went : {T E : Type 0} (r : Result T E) (number : ℕ) (old mid new : Trail) → IsSame old mid → OnOk r (map_of new ≡ map_at number mid) → OnOk r (map_of new ≡ map_at number old)
went (Ok x) number old mid new same is = is ∙ same_at number old mid same
went (Err x) number old mid new same is = tt

stayed_so : {T E : Type 0} (r : Result T E) (old mid new : Trail) → IsSame old mid → OnErr r (map_of new ≡ map_of mid) → OnErr r (map_of new ≡ map_of old)
stayed_so (Ok x) old mid new same is = tt
stayed_so (Err x) old mid new same is = is ∙ same.0

pub go_back_over-requires-clause-within : goal.go_back_over-requires-clause-within
go_back_over-requires-clause-within c = omega (arith, c.requires, ap length c.spare.ensures.same.1)

pub go_back_over-requires-clause-copy : goal.go_back_over-requires-clause-copy
go_back_over-requires-clause-copy c = c.in_ok-spare.ensures.facts ∙ sym c.spare.ensures.same.0

pub returns-in_err-spare-clause-stays : goal.returns-in_err-spare-clause-stays
returns-in_err-spare-clause-stays c = on_err c.from_residual.result _ c.spare.ensures.same.0

pub returns-in_err-spare-clause-keeps : goal.returns-in_err-spare-clause-keeps
returns-in_err-spare-clause-keeps c = stays_same c.args.number c.args.trail.now c.spare.new.self c.requires c.spare.ensures.same

pub returns-clause-back : goal.returns-clause-back
returns-clause-back c = went c.go_back_over.result c.args.number c.args.trail.now c.spare.new.self c.go_back_over.new.trail c.spare.ensures.same c.go_back_over.ensures.back

pub returns-clause-stays : goal.returns-clause-stays
returns-clause-stays c = stayed_so c.go_back_over.result c.args.trail.now c.spare.new.self c.go_back_over.new.trail c.spare.ensures.same c.go_back_over.ensures.stays

pub returns-clause-keeps : goal.returns-clause-keeps
returns-clause-keeps c = same_then c.args.number c.args.trail.now c.spare.new.self c.go_back_over.new.trail c.spare.ensures.same c.go_back_over.ensures.keeps
