use Rattle.affected_law.proofs.Kept.{parse_serves, deps_serve, sig_serves, errors_serve}
use Rattle.affected_law.proofs.what_serves_on.Goals as goal

pub returns-clause-parse : goal.returns-clause-parse
returns-clause-parse c = parse_serves

pub returns-clause-deps : goal.returns-clause-deps
returns-clause-deps c = deps_serve c.one_parse.ensures

pub returns-clause-sig : goal.returns-clause-sig
returns-clause-sig c = sig_serves c.merging_is_local.ensures

pub returns-clause-errors : goal.returns-clause-errors
returns-clause-errors c = errors_serve c.one_parse.ensures c.key_law.ensures.errors
