use Rattle.js_grammar.proofs.OneAnswer.{finds_one, faults_once, finds_or_faults}
use Rattle.js_grammar.proofs.one_answer.Goals as goal

pub returns-clause-types : goal.returns-clause-types
returns-clause-types c = finds_one

pub returns-clause-faults : goal.returns-clause-faults
returns-clause-faults c = faults_once

pub returns-clause-either : goal.returns-clause-either
returns-clause-either c = finds_or_faults
