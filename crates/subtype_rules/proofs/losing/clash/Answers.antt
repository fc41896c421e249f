use Rattle.std.proofs.Common.{arith, sym, subst}
use Rattle.type_values.specs.declared.types.FlowType.{FlowType}
use Rattle.type_values.specs.declared.types.FlowProp.{FlowProp}
use Rattle.alias_table.specs.Aliases.{Key}
use Rattle.subtyping.specs.Rows.{needs_at, prop_at}
use Rattle.subtype_rules.specs.Kept.{HasDead}
use Rattle.subtype_rules.proofs.LostPairs.{dead_at}
use Rattle.subtype_rules.proofs.losing.clash.Goals as goal

pub returns-then-clash_at : goal.returns-then-clash_at
returns-then-clash_at c = λ _ named. dead_at c.args.ps.now.all.now c.args.qs.now.all.now c.loop-i.i c.index-qs-i.result (omega (arith, c.loop-i-test.true)) c.index-qs-i.is
    (subst (λ (q : FlowProp). (named : Key → FlowType) → HasDead named (needs_at (prop_at c.args.ps.now.all.now q.key) (prop_at c.args.qs.now.all.now q.key))) (sym c.index-qs-i.is) (c.clash_at.ensures c.if-clash_at.true)) named
