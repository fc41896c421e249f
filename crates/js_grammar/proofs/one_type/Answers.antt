use Rattle.js_grammar.proofs.OneAnswer.{same_type, same_front}
use Rattle.js_grammar.proofs.one_type.Goals as goal

pub returns-clause-alone : goal.returns-clause-alone
returns-clause-alone c = same_type

pub returns-clause-in_front : goal.returns-clause-in_front
returns-clause-in_front c = same_front
