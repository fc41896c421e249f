use Rattle.std.proofs.Common.{Some, sym, ap, ◌∙◌}
use Rattle.committed_results.proofs.Standing.{is_root_first}
use Rattle.committed_results.proofs.reading.root_of.Goals as goal

pub committed-requires-clause-within : goal.committed-requires-clause-within
committed-requires-clause-within g c = (g.met.W.HeapWriter.sound c.args.writer.now).some_entity

pub root_in-requires : goal.root_in-requires
root_in-requires g c = is_root_first (g.W.HeapWriter.meaning c.args.writer.now).committed (g.met.W.HeapWriter.sound c.args.writer.now).fit c.deref.result.now (c.in_ok-held.ensures ∙ ap Some (sym c.deref.ensures))
