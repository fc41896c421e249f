use Rattle.std.proofs.Common.{◌++◌, ◌∙◌}
use Rattle.std.specs.Prelude.{codes}
use Rattle.std.specs.Fmt.{decimal}
use Rattle.program_check.specs.Status.{end_of_line}
use Rattle.answer_print.proofs.lines.found_line.Goals as goal

pub returns : goal.returns
returns c = c.in_ok-format.ensures.ok ∙ (λ i. decimal c.args.version ++ (codes " find-module " ++ (c.as_str-path.ensures.text i ++ (codes ": " ++ (c.found_name-found.ensures i ++ end_of_line)))))
