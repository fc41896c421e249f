use Rattle.local_signatures.proofs.Single.{one_local_signature}
use Rattle.local_signatures.proofs.one_local_signature.Goals as goal

pub returns : goal.returns
returns c = one_local_signature
