use Rattle.std.proofs.Common.{◌≡◌, arith, sym, ap, ◌∙◌, Some, true, false}
use Rattle.heap_core.specs.PlainLaws.{length-values}
use Rattle.heap_core.proofs.Lists.{get_index}
use Rattle.heap_core.proofs.Overlays.{open_where_staged, staged_of-at}
use Rattle.heap_core.proofs.plain.writes.PlainHeapHeapWriter.entity_version.Goals as goal

pub overflow_add-result : goal.overflow_add-result
overflow_add-result g c =
    let len = length-values c.args.self.now.committed.items in let as_many = c.args.self.now.as_many.0 in let room = c.requires in
    let at = get_index c.args.self.now.pending.items c.args.e c.index.result.now (omega arith) c.index.ensures in
    let is = open_where_staged c.args.self.now.is_open c.args.self.now.pending.items c.args.e c.args.self.now.closed (staged_of-at c.args.self.now.pending.items c.args.e c.index.result.now at ∙ ap Some (sym c.is_some.ensures ∙ c.if-is_some.true)) in
    let fits = c.args.self.now.room is in omega arith

pub returns-then-is_some-clause-committed : goal.returns-then-is_some-clause-committed
returns-then-is_some-clause-committed g c not_staged =
    let len = length-values c.args.self.now.committed.items in let as_many = c.args.self.now.as_many.0 in let room = c.requires in
    let at = get_index c.args.self.now.pending.items c.args.e c.index.result.now (omega arith) c.index.ensures in
    let k = sym (staged_of-at c.args.self.now.pending.items c.args.e c.index.result.now at ∙ ap Some (sym c.is_some.ensures ∙ c.if-is_some.true)) ∙ not_staged in absurd (let z : Some true ≡ Some false = k in cc)

pub returns-else-is_some-clause-staged : goal.returns-else-is_some-clause-staged
returns-else-is_some-clause-staged g c is_staged =
    let len = length-values c.args.self.now.committed.items in let as_many = c.args.self.now.as_many.0 in let room = c.requires in
    let at = get_index c.args.self.now.pending.items c.args.e c.index.result.now (omega arith) c.index.ensures in
    let k = sym (staged_of-at c.args.self.now.pending.items c.args.e c.index.result.now at ∙ ap Some (sym c.is_some.ensures ∙ c.if-is_some.false)) ∙ is_staged in absurd (let z : Some false ≡ Some true = k in cc)
