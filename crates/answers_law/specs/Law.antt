-- What is asked of a program has one answer.
use Rattle.std.specs.Prelude.{◌≡◌}
use Rattle.flow_base.specs.Program.{Program}
use Rattle.asks.specs.Kinds.{CanAnswer}
use Rattle.asks.specs.declared.ask.Ask.{Ask}
use Rattle.answers_law.specs.Answers.{Answered, IsAnswer}

-- one at most
abbrev pub OneAnswer : Type 0
OneAnswer = (program : Program) (ask : Ask) (a b : Answered) → IsAnswer program ask a → IsAnswer program ask b → a ≡ b

-- and one at least
abbrev pub EachHasAnswer : Type 0
EachHasAnswer = (program : Program) (ask : Ask) → (answer : Answered) × IsAnswer program ask answer

-- it can be printed
abbrev pub CanBePrinted : Type 0
CanBePrinted = (program : Program) (ask : Ask) (answer : Answered) → IsAnswer program ask answer → CanAnswer ask answer
