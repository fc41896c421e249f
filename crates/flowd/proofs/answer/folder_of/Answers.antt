use Rattle.flowd.proofs.answer.folder_of.Goals as goal

pub returns-clause-root : goal.returns-clause-root
returns-clause-root c = λ d place told form. let z = c.root_of.ensures d place told form in let r = c.new.ensures.root in cc
