use Rattle.recheck_reach.proofs.Imported.{named_is_imported}
use Rattle.recheck_reach.proofs.laws.names_are_imported.Goals as goal

pub returns : goal.returns
returns c = named_is_imported
