use Rattle.script_run.proofs.PendingEdits.{counts_no_more}
use Rattle.script_run.proofs.waiting.delete_path.Goals as goal

pub returns-clause-no_more : goal.returns-clause-no_more
returns-clause-no_more c = counts_no_more c.delete.result c.args.edits.now c.delete.new.self c.args.path c.delete.ensures.ok c.delete.ensures.err
