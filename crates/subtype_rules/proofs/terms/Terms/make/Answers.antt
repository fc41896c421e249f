use Rattle.std.proofs.Common.{◌∙◌}
use Rattle.alias_table.specs.Table.{unfolded}
use Rattle.subtype_rules.proofs.Steps.{opened_last}
use Rattle.subtype_rules.proofs.terms.Terms.make.Goals as goal

pub returns-clause-opened : goal.returns-clause-opened
returns-clause-opened c = opened_last (unfolded c.args.table.now) _ _ _ c.args.t.now c.in_ok-parts.parts c.in_ok-effective.effective c.in_ok-blank.blank _ _ c.in_ok-parts.ensures.numbers (c.as_slice.ensures ∙ c.in_ok-some.ensures) c.in_ok-effective.ensures.grows
    c.in_ok-effective.ensures.numbers (c.as_slice-2.ensures ∙ c.in_ok-more.ensures) c.in_ok-blank.ensures.grows c.in_ok-blank.ensures.number
