use Rattle.std.proofs.Common.{None}
use Rattle.std.proofs.lemmas.Result.{on_ok_weaker}
use Rattle.check_moves.proofs.Following.{follows_through}
use Rattle.expression_moves.proofs.places.assume_compared.Goals as goal

pub returns-then-is_literal-clause-follows : goal.returns-then-is_literal-clause-follows
returns-then-is_literal-clause-follows c =
    on_ok_weaker c.assume_on_property.result (follows_through _ _ None _ _ c.assume_on_property.new.state c.in_ok-assume.ensures.follows) c.assume_on_property.ensures.follows
