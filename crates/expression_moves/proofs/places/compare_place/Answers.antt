use Rattle.std.proofs.lemmas.Result.{IfOk-weaker}
use Rattle.check_moves.proofs.Following.{follows_through}
use Rattle.expression_moves.proofs.places.compare_place.Goals as goal

pub returns-in_ok-ty-in-Some-clause-follows : goal.returns-in_ok-ty-in-Some-clause-follows
returns-in_ok-ty-in-Some-clause-follows c =
    IfOk-weaker c.test_compared.result _ _ (λ r. follows_through _ _ r.fork _ _ c.test_compared.new.state c.in_ok-ty-in-Some.ensures.follows) c.test_compared.ensures.follows
