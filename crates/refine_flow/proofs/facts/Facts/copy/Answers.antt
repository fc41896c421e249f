use Rattle.std.proofs.Common.{◌∙◌}
use Rattle.refine_flow.proofs.Copying.{copied}
use Rattle.refine_flow.proofs.facts.Facts.copy.Goals as goal

pub returns : goal.returns
returns c = (
  copied c.args.self.now c.new-copy.result c.take_over.new.self c.settle.new.self c.in_ok-rows.rows.items c.new-copy.ensures.facts c.in_ok-rows.ensures.told c.in_ok-take_over.ensures.facts c.settle.ensures.facts,
  c.settle.ensures.marks.count ∙ c.in_ok-take_over.ensures.marks.count ∙ c.new-copy.ensures.marks,
)
