use Rattle.command_words.proofs.Exact.{same_command, command_or_not}
use Rattle.command_words.proofs.laws.one_command.Goals as goal

pub returns-clause-one : goal.returns-clause-one
returns-clause-one c = same_command

pub returns-clause-some : goal.returns-clause-some
returns-clause-some c = command_or_not
