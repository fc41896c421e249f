use Rattle.std.proofs.Common.{◌++◌, ◌∙◌}
use Rattle.std.specs.Prelude.{codes}
use Rattle.std.specs.Fmt.{decimal}
use Rattle.answer_print.proofs.lines.type_head.Goals as goal

pub returns : goal.returns
returns c = c.in_ok-format.ensures.ok ∙ (λ i. decimal c.args.version ++ (codes " type-at-pos " ++ (c.as_str-path.ensures.text i ++ (codes ":" ++ (decimal c.args.line ++ (codes ":" ++ (decimal c.args.column ++ codes ": ")))))))
