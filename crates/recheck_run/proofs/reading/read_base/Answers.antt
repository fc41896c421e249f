use Rattle.std.proofs.Common.{refl, rules}
use Rattle.recheck_run.proofs.Dones.{was_root, was_commits, based, few_based, base_becomes}
use Rattle.recheck_run.proofs.reading.read_base.Goals as goal

pub edited_root-requires-clause-root : goal.edited_root-requires-clause-root
edited_root-requires-clause-root g c =
    was_root c.args.edits.now.capacity c.args.edits.now.capacity (g.W.HeapWriter.meaning c.args.writer.now) c.in_ok-made.made c.get-old.result.now c.sound.ensures c.requires.room refl c.in_ok-made.ensures.held c.get-old.ensures

pub edited_root-requires-clause-counted : goal.edited_root-requires-clause-counted
edited_root-requires-clause-counted g c = c.requires.counted c.get-old.result.now (was_commits (g.W.HeapWriter.meaning c.args.writer.now) c.in_ok-made.made c.get-old.result.now c.sound.ensures c.in_ok-made.ensures.held c.get-old.ensures)

pub returns-clause-base : goal.returns-clause-base
returns-clause-base g c =
    based (g.W.HeapWriter.meaning c.args.writer.now) c.args.edits.now.capacity _ c.get-old.result.now c.in_ok-next.next.root c.sound.ensures c.requires.room c.in_ok-made.ensures.made c.in_ok-made.ensures.held c.get-old.ensures (search rules)
    c.in_ok-next.ensures.root c.in_ok-next.ensures.follows c.in_ok-next.ensures.from c.in_ok-next.ensures.fresh c.in_ok-next.ensures.freed

pub returns-clause-few : goal.returns-clause-few
returns-clause-few g c = few_based c.args.edits.now.capacity c.in_ok-root.root c.in_ok-next.next.root (search rules) c.in_ok-next.ensures.root

pub returns-clause-edited : goal.returns-clause-edited
returns-clause-edited g c =
    base_becomes (g.F.Folder.seen c.args.folder.now).told c.args.edits.now.edits c.in_ok-made.made.sources.root c.in_ok-root.root c.get-old.result.now c.in_ok-next.next.root c.get-old.ensures (search rules) c.in_ok-next.ensures.edited
