use Rattle.std.proofs.Common.{refl, map}
use Rattle.recheck_run.proofs.Dones.{begun_bare, begun_open, begun_room, begun_commits, room_done, rolled_back, is_done, cancelled, refused}
use Rattle.recheck_reach.specs.work_totals.specs.Totals.{total}
use Rattle.recheck_run.proofs.rechecking.recheck.Goals as goal

pub stage_edited-requires-clause-is_open : goal.stage_edited-requires-clause-is_open
stage_edited-requires-clause-is_open g c κs within = begun_open (g.W.HeapWriter.meaning c.args.writer.now) (g.W.HeapWriter.meaning c.begin.new.self) c.begin.ensures.meaning

pub stage_edited-requires-clause-bare : goal.stage_edited-requires-clause-bare
stage_edited-requires-clause-bare g c κs within = begun_bare _ _ (g.met.W.HeapWriter.sound c.args.writer.now) c.requires.closed c.begin.ensures.meaning

pub stage_edited-requires-clause-room : goal.stage_edited-requires-clause-room
stage_edited-requires-clause-room g c κs within = begun_room _ _ _ c.begin.ensures.meaning c.requires.room

pub stage_edited-requires-clause-counted : goal.stage_edited-requires-clause-counted
stage_edited-requires-clause-counted g c κs within = λ old at. c.requires.counted old (begun_commits (g.W.HeapWriter.meaning c.args.writer.now) (g.W.HeapWriter.meaning c.begin.new.self) old c.begin.ensures.meaning at)

pub commit-version-requires : goal.commit-version-requires
commit-version-requires g c = (c.stage_edited.ensures.is_open, c.in-Ok.ensures.ok.ready.fit)

pub returns-in-Ok-clause-result : goal.returns-in-Ok-clause-result
returns-in-Ok-clause-result g c =
    is_done (g.F.Folder.seen c.args.folder.now) _ c.args.edits.now _ (g.S.Stop.seen c.args.stop.now) _ (total (map g.A.Analyst.work c.args.analysts.now)) _ (g.W.HeapWriter.meaning c.args.writer.now) (g.W.HeapWriter.meaning c.begin.new.self)
    (g.W.HeapWriter.meaning c.stage_edited.new.writer) (g.W.HeapWriter.meaning c.commit-version.new.self) c.begin.ensures.meaning c.error_laws.ensures.full c.reach_laws.ensures.seen c.reach_laws.ensures.signed c.what_stays.ensures.signatures
    c.commits.ensures (g.met.W.HeapWriter.sound c.args.writer.now) (g.met.W.HeapWriter.sound c.stage_edited.new.writer) c.requires.closed c.commit-version.result c.in-Ok.staged c.in-Ok.ensures.ok c.stage_edited.ensures.staging
    c.commit-version.ensures.meaning c.commit-version.ensures.result c.clear.ensures.edits c.clear.ensures.stands

pub returns-in-Ok-clause-room : goal.returns-in-Ok-clause-room
returns-in-Ok-clause-room g c =
    room_done (g.W.HeapWriter.meaning c.args.writer.now) (g.W.HeapWriter.meaning c.begin.new.self) (g.W.HeapWriter.meaning c.stage_edited.new.writer) (g.W.HeapWriter.meaning c.commit-version.new.self) c.args.edits.now.capacity _
    (g.met.W.HeapWriter.sound c.stage_edited.new.writer) c.begin.ensures.meaning c.stage_edited.ensures.staging c.commit-version.ensures.meaning c.requires.room c.clear.ensures.capacity

pub returns-in-Err-Stopped-clause-result : goal.returns-in-Err-Stopped-clause-result
returns-in-Err-Stopped-clause-result g c =
    let halted = rw c.in-Err-Stopped.field-0-is at c.in-Err-Stopped.ensures.err in
    let back = rolled_back (g.W.HeapWriter.meaning c.args.writer.now) (g.W.HeapWriter.meaning c.begin.new.self) (g.W.HeapWriter.meaning c.stage_edited.new.writer) (g.W.HeapWriter.meaning c.rollback.new.self) (g.met.W.HeapWriter.sound c.args.writer.now)
    (g.met.W.HeapWriter.sound c.stage_edited.new.writer) c.requires.closed c.begin.ensures.meaning c.stage_edited.ensures.staging c.rollback.ensures.meaning in
    cancelled (g.F.Folder.seen c.args.folder.now) _ c.args.edits.now c.args.edits.now (g.S.Stop.seen c.args.stop.now) _ (total (map g.A.Analyst.work c.args.analysts.now)) _ (g.W.HeapWriter.meaning c.args.writer.now) (g.W.HeapWriter.meaning c.begin.new.self)
    (g.W.HeapWriter.meaning c.stage_edited.new.writer) (g.W.HeapWriter.meaning c.rollback.new.self) c.begin.ensures.meaning c.in-Err-Stopped.poll halted back

pub returns-in-Err-Unread-clause-result : goal.returns-in-Err-Unread-clause-result
returns-in-Err-Unread-clause-result g c =
    let halted = rw c.in-Err-Unread.field-0-is at c.in-Err-Unread.ensures.err in
    let back = rolled_back (g.W.HeapWriter.meaning c.args.writer.now) (g.W.HeapWriter.meaning c.begin.new.self) (g.W.HeapWriter.meaning c.stage_edited.new.writer) (g.W.HeapWriter.meaning c.rollback-in-Err-Unread.new.self) (g.met.W.HeapWriter.sound c.args.writer.now)
    (g.met.W.HeapWriter.sound c.stage_edited.new.writer) c.requires.closed c.begin.ensures.meaning c.stage_edited.ensures.staging c.rollback-in-Err-Unread.ensures.meaning in
    ((back, refl), halted.1, halted.0, halted.2)

pub returns-in-Err-NoMemory-clause-result : goal.returns-in-Err-NoMemory-clause-result
returns-in-Err-NoMemory-clause-result g c =
    let halted = rw c.in-Err-NoMemory.field-0-is at c.in-Err-NoMemory.ensures.err in
    let back = rolled_back (g.W.HeapWriter.meaning c.args.writer.now) (g.W.HeapWriter.meaning c.begin.new.self) (g.W.HeapWriter.meaning c.stage_edited.new.writer) (g.W.HeapWriter.meaning c.rollback-in-Err-NoMemory.new.self) (g.met.W.HeapWriter.sound c.args.writer.now)
    (g.met.W.HeapWriter.sound c.stage_edited.new.writer) c.requires.closed c.begin.ensures.meaning c.stage_edited.ensures.staging c.rollback-in-Err-NoMemory.ensures.meaning in
    refused (g.F.Folder.seen c.args.folder.now) _ c.args.edits.now c.args.edits.now (g.S.Stop.seen c.args.stop.now) _ (total (map g.A.Analyst.work c.args.analysts.now)) _ (g.W.HeapWriter.meaning c.args.writer.now) (g.W.HeapWriter.meaning c.begin.new.self)
    (g.W.HeapWriter.meaning c.stage_edited.new.writer) (g.W.HeapWriter.meaning c.rollback-in-Err-NoMemory.new.self) c.begin.ensures.meaning halted back

pub returns-in-Err-Stopped-clause-reads : goal.returns-in-Err-Stopped-clause-reads
returns-in-Err-Stopped-clause-reads g c = let stopped = rw c.in-Err-Stopped.field-0-is at c.in-Err-Stopped.ensures.stopped in stopped tt

pub returns-in-Err-Unread-clause-reads : goal.returns-in-Err-Unread-clause-reads
returns-in-Err-Unread-clause-reads g c = let halted = rw c.in-Err-Unread.field-0-is at c.in-Err-Unread.ensures.err in (halted.3, halted.4)
