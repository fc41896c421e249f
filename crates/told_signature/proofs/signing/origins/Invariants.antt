use Rattle.std.proofs.Common.{◌≡◌, map, take}
use Rattle.local_signatures.specs.Exports.{origin_of}
use Rattle.named_rows.specs.Seen.{seen}
use Rattle.told_signature.specs.Seen.{named_in, said_view}
use Rattle.told_signature.proofs.signing.origins.Given as goal

abbrev pub invariant-loop-i : goal.invariant-loop-i
invariant-loop-i l = l.origins ≡ map (λ row. (row.0, origin_of row.1)) (seen (said_view (named_in l.named.entries)) (take l.i l.exports))
