use Rattle.check_items.proofs.items.read_item.Goals as goal

pub returns-in-Import-clause-env : goal.returns-in-Import-clause-env
returns-in-Import-clause-env c = rw c.in-Import.is (λ p m sees. c.read_import.ensures.env p m sees)

pub returns-in-Export-clause-env : goal.returns-in-Export-clause-env
returns-in-Export-clause-env c = rw c.in-Export.is (λ p m sees. c.read_export.ensures.env p m sees)

pub returns-in-Alias-clause-env : goal.returns-in-Alias-clause-env
returns-in-Alias-clause-env c = rw c.in-Alias.is (λ p m sees. c.read_alias.ensures.env p m sees)

pub returns-in-Simple-clause-env : goal.returns-in-Simple-clause-env
returns-in-Simple-clause-env c = rw c.in-Simple.is (λ p m sees. c.read_top_simple.ensures.env p m 0 0)
