use Rattle.std.proofs.Common.{rules}
use Rattle.script_line.proofs.Nothing.{says_nothing}
use Rattle.script_line.specs.Says.{IsBlankLine}
use Rattle.script_line.proofs.reading.read_line.Goals as goal

pub returns-in-None-clause-bad : goal.returns-in-None-clause-bad
returns-in-None-clause-bad c = λ _. says_nothing c.args.bytes.now (let not_blank : IsBlankLine c.args.bytes.now → ⊥ = search rules in not_blank) (rw c.in-None.is at c.in_ok-line.ensures.none)
