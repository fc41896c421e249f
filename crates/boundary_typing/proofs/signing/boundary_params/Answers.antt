use Rattle.std.proofs.Common.{Some, sym, ap, ◌∙◌}
use Rattle.boundary_typing.proofs.Told.{told_next}
use Rattle.boundary_typing.proofs.signing.boundary_params.Goals as goal

pub loop-i-preserved : goal.loop-i-preserved
loop-i-preserved g c =
    told_next (g.N.Names.stands_for c.args.names.now) c.args.parameters.now c.loop-i.i c.index-parameters-i.result c.loop-i-test.true c.index-parameters-i.is c.loop-i.all c.in-Some.param c.loop-i.invariant (sym c.in_ok-param.ensures ∙ c.in-Some.is)
    ∙ ap Some (sym c.in_ok-push-in-Some.ensures.ok)
