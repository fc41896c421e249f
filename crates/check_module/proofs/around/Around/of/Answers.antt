use Rattle.std.proofs.Common.{refl}
use Rattle.check_items.specs.Aliases.{own_aliases}
use Rattle.check_module.proofs.Seeing.{stands_parts}
use Rattle.check_module.proofs.around.Around.of.Goals as goal

pub returns : goal.returns
returns c =
    stands_parts c.args.job.now c.args.«module».now.first c.args.«module».now.end c.args.«module».now.items c.as_slice-items.result.now c.args.spans.now c.args.watch c.get-deps.result.now c.get-sigs.result.now
    c.in_ok-types.types.names (own_aliases c.args.job.now.path c.in_ok-types.types) _ c.get-deps.ensures c.get-sigs.ensures c.as_slice-items.ensures refl refl c.into_names-names.ensures c.in_ok-imports.ensures.found
    c.in_ok-imports.ensures.table c.in_ok-types.ensures.names (c.in_ok-types.ensures.aliases c.args.job.now.path) c.in_ok-table.ensures
