use Rattle.recheck_checking.proofs.Rightly.{kept_errors_are_right}
use Rattle.recheck_checking.proofs.laws.kept_errors_are_right.Goals as goal

pub returns : goal.returns
returns c = kept_errors_are_right c.one_parse.ensures c.what_stays.ensures.errors
