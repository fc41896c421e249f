use Rattle.std.proofs.Common.{sym, ◌∙◌}
use Rattle.request_core.proofs.Modules.{signed_nowhere, signed_there, signed_read}
use Rattle.request_core.proofs.reaching.signature_at.Goals as goal

pub returns-in_default-clause-sig : goal.returns-in_default-clause-sig
returns-in_default-clause-sig g c = signed_nowhere (g.R.HeapReader.state c.args.reader.now) c.args.modules.now c.args.path.now c.in_default.ensures.place

pub returns-clause-sig : goal.returns-clause-sig
returns-clause-sig g c =
    signed_read (g.R.HeapReader.state c.args.reader.now) _ c.signature_entity.result _ c.deref.result.now c.in_ok-sig.sig c.signature_entity.ensures c.in_ok-payload.ensures.payload c.deref.ensures c.in_ok-sig.ensures
    ∙ sym (signed_there (g.R.HeapReader.state c.args.reader.now) c.args.modules.now c.args.path.now c.in-Some.at c.index-modules-at.result c.requires.rising c.in-Some.ensures.place c.index-modules-at.is)
