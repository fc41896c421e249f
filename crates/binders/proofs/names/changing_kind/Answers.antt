use Rattle.std.proofs.Common.{Bool, cond, ap, ◌∙◌}
use Rattle.typing.specs.Names.{shared, changing}
use Rattle.binders.proofs.names.changing_kind.Goals as goal

pub returns-then-contains : goal.returns-then-contains
returns-then-contains c =
    λ changes tells. ap (λ (b : Bool). cond b shared changing) (c.if-contains.ensures ∙ tells c.args.name.now)

pub returns-else-contains : goal.returns-else-contains
returns-else-contains c =
    λ changes tells. ap (λ (b : Bool). cond b shared changing) (c.if-contains.ensures ∙ tells c.args.name.now)
