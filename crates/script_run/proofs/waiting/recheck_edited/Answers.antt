use Rattle.std.proofs.Common.{refl}
use Rattle.beside.specs.Server.{uses_of}
use Rattle.script_run.proofs.PendingEdits.{may_recheck, has_stayed, has_ended, has_read}
use Rattle.script_run.proofs.waiting.recheck_edited.Goals as goal

pub recheck_beside-requires-clause-may : goal.recheck_beside-requires-clause-may
recheck_beside-requires-clause-may g c κs within = may_recheck c.args.server.now c.args.edits.now (uses_of c.args.server.now.lanes) c.requires.version c.requires.ready

pub returns-clause-ready : goal.returns-clause-ready
returns-clause-ready g c =
    (has_stayed c.args.server.now c.recheck_beside.new.self _ _ (uses_of c.args.server.now.lanes) (uses_of c.recheck_beside.new.self.lanes) c.recheck_beside.result c.recheck_beside.ensures.rechecked c.recheck_beside.ensures.err refl c.requires.ready).ready

pub returns-clause-capacity : goal.returns-clause-capacity
returns-clause-capacity g c =
    (has_stayed c.args.server.now c.recheck_beside.new.self _ _ (uses_of c.args.server.now.lanes) (uses_of c.recheck_beside.new.self.lanes) c.recheck_beside.result c.recheck_beside.ensures.rechecked c.recheck_beside.ensures.err refl c.requires.ready).capacity

pub returns-clause-told : goal.returns-clause-told
returns-clause-told g c =
    (has_stayed c.args.server.now c.recheck_beside.new.self _ _ (uses_of c.args.server.now.lanes) (uses_of c.recheck_beside.new.self.lanes) c.recheck_beside.result c.recheck_beside.ensures.rechecked c.recheck_beside.ensures.err refl c.requires.ready).told

pub returns-clause-later : goal.returns-clause-later
returns-clause-later g c =
    (has_stayed c.args.server.now c.recheck_beside.new.self _ _ (uses_of c.args.server.now.lanes) (uses_of c.recheck_beside.new.self.lanes) c.recheck_beside.result c.recheck_beside.ensures.rechecked c.recheck_beside.ensures.err refl c.requires.ready).later

pub returns-clause-ended : goal.returns-clause-ended
returns-clause-ended g c =
    has_ended c.args.server.now c.recheck_beside.new.self _ _ _ _ _ _ _ _ c.args.stop _ _ _ _ c.new-asked.ensures.k c.new-asked.ensures.questions c.recheck_beside.result c.recheck_beside.ensures.rechecked

pub returns-clause-reads : goal.returns-clause-reads
returns-clause-reads g c =
    has_read c.args.server.now c.recheck_beside.new.self _ _ _ _ (uses_of c.args.server.now.lanes) (uses_of c.args.server.now.lanes) _ _ c.args.stop _ _ _ _ c.new-asked.ensures.k c.new-asked.ensures.questions c.recheck_beside.result c.recheck_beside.ensures.rechecked
