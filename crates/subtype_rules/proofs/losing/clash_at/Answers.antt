use Rattle.std.proofs.Common.{subst, Some}
use Rattle.subtyping.specs.Rows.{needs_at, prop_at}
use Rattle.subtype_rules.specs.Kept.{HasDead}
use Rattle.subtype_rules.proofs.losing.clash_at.Goals as goal

pub returns-in-Some-at : goal.returns-in-Some-at
returns-in-Some-at c = λ t named. subst (λ m. HasDead named (needs_at m (prop_at c.args.qs.now.all.now c.args.key.now))) c.in-Some.ensures (subst (λ n. HasDead named (needs_at (Some c.in-Some.p.now) n)) c.in-Some-at.ensures (c.props_clash.ensures t named))
