use Rattle.check_items.proofs.items.read_export.Goals as goal

pub returns-in-Alias-clause-env : goal.returns-in-Alias-clause-env
returns-in-Alias-clause-env c = rw c.in-Alias.is (λ p m sees. c.read_alias.ensures.env p m sees)

pub returns-in-Names-clause-env : goal.returns-in-Names-clause-env
returns-in-Names-clause-env c = rw c.in-Names.is (λ p m sees. c.read_own.ensures.env p m sees)

pub returns-in-From-clause-env : goal.returns-in-From-clause-env
returns-in-From-clause-env c = rw c.in-From.is (λ p m sees. c.read_from.ensures.env p m sees)
