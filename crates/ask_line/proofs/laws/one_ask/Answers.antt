use Rattle.ask_line.proofs.Deciding.{asks_or_not}
use Rattle.ask_line.proofs.Words.{same_ask}
use Rattle.ask_line.proofs.laws.one_ask.Goals as goal

pub returns-clause-one : goal.returns-clause-one
returns-clause-one c = same_ask

pub returns-clause-some : goal.returns-clause-some
returns-clause-some c = asks_or_not
