use Rattle.check_items.proofs.SecondExports.{before_more}
use Rattle.check_items.proofs.exports.note_export.Goals as goal

pub returns-then-branch-clause-before : goal.returns-then-branch-clause-before
returns-then-branch-clause-before c = λ names before.
    before_more names c.args.before.now c.insert.new.self c.in_ok-share.field-0 c.args.exporting.now.1 before c.in_ok-share.ensures c.in_ok-insert.ensures.updates.0

pub returns-clause-before : goal.returns-clause-before
returns-clause-before c = λ names before.
    before_more names c.args.before.now c.insert.new.self c.in_ok-share.field-0 c.args.exporting.now.1 before c.in_ok-share.ensures c.in_ok-insert.ensures.updates.0
