use Rattle.std.proofs.Common.{ap, ◌∙◌}
use Rattle.alias_table.specs.Members.{seen}
use Rattle.plainly_below.proofs.Below.{among_below}
use Rattle.plainly_below.proofs.among.is_among.Goals as goal

pub returns : goal.returns
returns c =
    λ yes. among_below c.args.table.now c.args.a.now c.args.b.now (seen c.as_slice-2.result.now) (seen c.as_slice.result.now) (ap seen c.as_slice-2.ensures ∙ c.in_ok-some.ensures) (ap seen c.as_slice.ensures ∙ c.in_ok-all.ensures) (c.has_all.ensures yes)
