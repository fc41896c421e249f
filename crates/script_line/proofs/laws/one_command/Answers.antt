use Rattle.script_line.proofs.Commanding.{same_line, same_many, says_not_both}
use Rattle.script_line.proofs.Deciding.{says_or_not}
use Rattle.script_line.proofs.laws.one_command.Goals as goal

pub returns : goal.returns
returns c = record { one = same_line; one_count = same_many; apart = says_not_both; some = says_or_not }
