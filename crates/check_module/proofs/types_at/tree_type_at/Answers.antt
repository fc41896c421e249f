use Rattle.std.proofs.Common.{◌∙◌}
use Rattle.js_tree.specs.View.{module_view}
use Rattle.check_module.proofs.Reading.{type_told}
use Rattle.check_module.proofs.types_at.tree_type_at.Goals as goal

pub returns : goal.returns
returns c =
    type_told c.args.job.now (module_view c.args.«module».now) c.args.spans.now c.args.at c.in_ok-checker.checker c.read_all.new.checker c.in_ok-t.t c.in_ok-checker.ensures
    (λ p is. c.in_ok-read_all.ensures.env p (module_view c.args.«module».now) is) (c.in_ok-t.ensures ∙ c.watched-seen.ensures) c.cut_is_right.ensures.types
