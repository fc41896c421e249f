use Rattle.std.proofs.Common.{ap, ◌∙◌}
use Rattle.check_items.specs.Aliases.{own_aliases}
use Rattle.check_job.specs.signature_table.specs.declared.table.SignatureTable.{SignatureTable}
use Rattle.check_module.proofs.Seeing.{has_aliases}
use Rattle.check_module.proofs.around.table_of.Goals as goal

pub returns : goal.returns
returns c =
    has_aliases (own_aliases c.args.job.now.path c.args.types.now) c.new-rows.result.items c.add_aliases.new.out.items c.as_slice-own.result.now c.aliases-others.result.now.rows c.args.job.now.sigs.rows c.get.result.now.rows c.in_ok-table.table
    c.new-rows.ensures.items c.in_ok-add_aliases.ensures c.as_slice-own.ensures.value (ap (λ (s : SignatureTable). s.rows) c.get.ensures) c.aliases-others.ensures c.in_ok-table.ensures.types c.in_ok-table.ensures.marks
