use Rattle.std.proofs.Common.{◌∙◌}
use Rattle.refine_flow.proofs.Found.{found_among}
use Rattle.refine_flow.proofs.among.Among.has.Goals as goal

pub returns-then-self : goal.returns-then-self
returns-then-self c =
    c.is_ok.ensures.value ∙ found_among c.args.self.now.numbers.now c.args.number c.binary_search.result c.binary_search.ensures.position (c.args.self.now.rising c.if-self.true)
