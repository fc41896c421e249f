use Rattle.std.proofs.Common.{◌≡◌, ◌<◌, length, get_or, subst, rules}
use Rattle.check_values.specs.Rows.{Rows}
use Rattle.check_values.specs.declared.signatures.Origin.{Origin}
use Rattle.asked_exports.specs.Asked.{asked_by_export}
use Rattle.asked_exports.proofs.Gathered.{gathers_more}
use Rattle.asked_exports.proofs.asking.ask_exports.Goals as goal

pub loop-i-preserved : goal.loop-i-preserved
loop-i-preserved c =
    let own = c.args.member.now.member.now in
    let same : c.as_slice-exports.result.now ≡ own.sig.exports = search rules in
    let row = c.index-exports-i.result in
    gathers_more (asked_by_export own.path own.deps) own.sig.exports c.loop-i.i row c.args.asked.now c.loop-i.asked c.ask_export.new.asked
    (subst (λ (l : Rows Origin). c.loop-i.i < length l) same c.loop-i-test.true) (subst (λ (l : Rows Origin). row ≡ get_or l c.loop-i.i row) same c.index-exports-i.is)
    c.loop-i.invariant c.in_ok-ask_export.ensures
