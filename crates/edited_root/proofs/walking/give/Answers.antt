use Rattle.edited_root.proofs.Walked.{gives}
use Rattle.edited_root.proofs.walking.give.Goals as goal

pub returns-clause-gives : goal.returns-clause-gives
returns-clause-gives c = gives c.args.modules.now c.args.path.now c.args.text c.args.at c.behind.result c.args.drafts.now.items c.put_down.new.drafts.items c.requires.rising c.requires.reached c.in_ok-put_down.ensures c.behind.ensures.behind
