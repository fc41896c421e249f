use Rattle.std.proofs.Common.{arith, ap, ◌∙◌, ◌++◌}
use Rattle.flow_base.specs.Program.{Bytes}
use Rattle.beside.specs.Server.{uses_of}
use Rattle.beside.specs.Writers.{meaning_in}
use Rattle.beside.specs.Telling.{versions}
use Rattle.script_run.proofs.Asked.{all_of_some_at, answers_told_at}
use Rattle.script_run.proofs.Sessions.{rechecked}
use Rattle.script_run.proofs.session.Session.recheck.Goals as goal

pub print_told-requires : goal.print_told-requires
print_told-requires g c = all_of_some_at _ _ c.args.asks.now _ _ c.as_slice.ensures c.in_ok-outcome.ensures.answers

pub returns-clause-rechecked : goal.returns-clause-rechecked
returns-clause-rechecked g c =
    let old = c.self.inside.server in
    let new = c.recheck_edited.new.server in
    let printed = c.in_ok-print_told.ensures in
    rechecked c.args.stop c.args.asks.now _ _ (meaning_in old.writer) (meaning_in new.writer) c.self.inside.edits c.recheck_edited.new.edits (uses_of old.lanes) (uses_of new.lanes) c.args.self.now c.in_ok-outcome.outcome c.version.result
    _ _ printed.0 (versions c.in_ok-outcome.told) (omega arith) c.self.view_is c.in_ok-outcome.ensures.ended c.in_ok-outcome.ensures.reads (g.met.F.Folder.bounded c.args.folder.now) c.version.ensures c.in_ok-line.ensures
    (answers_told_at (meaning_in old.writer) (meaning_in new.writer) c.self.inside.edits c.recheck_edited.new.edits (uses_of old.lanes) c.args.asks.now c.in_ok-outcome.told c.as_slice.result.now printed.0 c.as_slice.ensures
    c.in_ok-outcome.ensures.answers printed.1)
    c.in_ok-outcome.ensures.falls_not c.in_ok-outcome.ensures.lanes (printed.2 ∙ ap (λ (b : Bytes). b ++ printed.0) (ap (λ v. v.items) c.into_bytes-printed.ensures.value))
