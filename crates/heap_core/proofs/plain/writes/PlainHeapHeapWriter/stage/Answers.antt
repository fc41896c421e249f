use Rattle.std.proofs.Common.{arith, sym, ap, ◌∙◌, Some, length, length-set, slice_get}
use Rattle.heap_core.specs.Plain.{values, overlaid, staged_of}
use Rattle.heap_core.proofs.Lists.{get_index}
use Rattle.heap_core.proofs.Overlays.{overlaid-set, staged_of-set, staged_of-at, listed_more, within_more}
use Rattle.heap_core.proofs.plain.writes.PlainHeapHeapWriter.stage.Goals as goal

pub invariant_of-self-2-clause-as_many : goal.invariant_of-self-2-clause-as_many
invariant_of-self-2-clause-as_many g c = let a = c.args.self.now.as_many in (ap length c.put.ensures ∙ length-set c.args.self.now.pending.items c.args.e (Some c.args.payload) ∙ a.0, a.1)

pub invariant_of-self-2-clause-listed : goal.invariant_of-self-2-clause-listed
invariant_of-self-2-clause-listed g c =
    let h = c.args.self.now in let a = h.as_many.0 in let r = c.requires.1 in
    let at = get_index h.pending.items c.args.e c.index.result.now (omega arith) c.index.ensures in
    let puts = sym c.put.ensures in
    λ k t. listed_more h.pending.items h.staged.items c.list.new.staged.items c.args.e c.args.payload c.is_some-is_staged.result h.listed
    (staged_of-at h.pending.items c.args.e c.index.result.now at ∙ ap Some (sym c.is_some-is_staged.ensures)) c.in_ok-list.ensures.ok k ((λ j. slice_get (staged_of (puts j)) k) ∙ t)

pub invariant_of-self-2-clause-within : goal.invariant_of-self-2-clause-within
invariant_of-self-2-clause-within g c =
    let h = c.args.self.now in let r = c.requires.1 in
    within_more h.staged.items c.list.new.staged.items c.args.e _ c.is_some-is_staged.result h.within r c.in_ok-list.ensures.ok

pub returns-clause-ok : goal.returns-clause-ok
returns-clause-ok g c =
    let h = c.args.self.now in let did = c.put.ensures in
    let latest = ap (overlaid h.committed.items) did ∙ overlaid-set h.committed.items h.pending.items c.args.e c.args.payload c.requires.1 h.as_many.0 in
    let pend = ap staged_of did ∙ staged_of-set h.pending.items c.args.e (Some c.args.payload) in
    λ j. record { version = h.version; is_open = h.is_open; committed = values h.committed.items; latest = latest j; versions = h.versions.items; staged = pend j }
