use Rattle.js_grammar.proofs.OneAnswer.{ends_behind, ends_before_rest}
use Rattle.js_grammar.proofs.Spans.{expressions, statements, items, modules}
use Rattle.js_grammar.proofs.ends_behind_its_tokens.Goals as goal

pub returns-clause-types : goal.returns-clause-types
returns-clause-types c = ends_behind

pub returns-clause-expressions : goal.returns-clause-expressions
returns-clause-expressions c = expressions

pub returns-clause-statements : goal.returns-clause-statements
returns-clause-statements c = statements

pub returns-clause-items : goal.returns-clause-items
returns-clause-items c = items

pub returns-clause-modules : goal.returns-clause-modules
returns-clause-modules c = modules

pub returns-clause-as_read : goal.returns-clause-as_read
returns-clause-as_read c = ends_before_rest
