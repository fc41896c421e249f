use Rattle.own_alias_law.proofs.Own as own
use Rattle.own_alias_law.proofs.own_aliases.Goals as goal

pub returns-clause-same : goal.returns-clause-same
returns-clause-same c = own.signature_says_the_same

pub returns-clause-all : goal.returns-clause-all
returns-clause-all c = own.own_aliases_are_the_trees

pub returns-clause-reached : goal.returns-clause-reached
returns-clause-reached c = own.so_by_reach
