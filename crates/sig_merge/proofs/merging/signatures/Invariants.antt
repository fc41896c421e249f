use Rattle.std.proofs.Common.{◌≡◌, map, take}
use Rattle.sig_merge.specs.Merging.{signature_by}
use Rattle.sig_merge.proofs.merging.signatures.Given as goal

abbrev pub invariant-loop-i : goal.invariant-loop-i
invariant-loop-i l = l.sigs ≡ map (λ own. signature_by l.ends l.exports own.member.now) (take l.i l.members)
