use Rattle.std.proofs.Common.{sym, false}
use Rattle.heap_core.specs.Plain.{values}
use Rattle.heap_core.proofs.Overlays.{staged_of_none, listed_none, overlaid-none, staged_of-same}
use Rattle.heap_core.proofs.plain.writes.PlainHeapHeapWriter.rollback.Goals as goal

pub invariant_of-self-clause-closed : goal.invariant_of-self-clause-closed
invariant_of-self-clause-closed g c = λ _. staged_of_none c.clear.new.pending.items c.clear.ensures.pending

pub invariant_of-self-clause-listed : goal.invariant_of-self-clause-listed
invariant_of-self-clause-listed g c = listed_none c.clear.new.pending.items c.clear.new.numbers.items c.clear.ensures.pending

pub returns-clause-meaning : goal.returns-clause-meaning
returns-clause-meaning g c =
    let h = c.args.self.now in let did = c.clear.ensures in
    let none = overlaid-none h.committed.items c.clear.new.pending.items did.pending in
    let bare = staged_of-same h.pending.items c.clear.new.pending.items (sym did.length) did.pending in
    λ j. record { version = h.version; is_open = false; committed = values h.committed.items; latest = none j; versions = h.versions.items; staged = bare j }
