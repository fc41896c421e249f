use Rattle.std.proofs.Common.{◌∷◌, [], ap, ◌∙◌}
use Rattle.std.proofs.lemmas.Result.{IfOk-weaker}
use Rattle.flow_facts.specs.declared.test.Test.{Test}
use Rattle.flow_facts.specs.Narrowing.{narrowed}
use Rattle.type_terms.specs.Join.{join_of}
use Rattle.check_world.specs.View.{world_view}
use Rattle.expression_moves.proofs.operands.either_type.Goals as goal

pub returns : goal.returns
returns c =
    IfOk-weaker c.left_or.result _ _ (λ t is. is ∙ ap (λ (held : Test). join_of (narrowed (world_view c.args.world.now).members held c.args.left.now ∷ c.args.right ∷ [])) c.leaving_test.ensures) c.left_or.ensures
