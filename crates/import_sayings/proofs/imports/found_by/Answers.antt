use Rattle.import_sayings.proofs.Rows.{founds_named}
use Rattle.import_sayings.proofs.imports.found_by.Goals as goal

pub returns : goal.returns
returns c =
    founds_named c.in_ok-found.found c.in_ok-rows.rows.items c.as_slice.result.now c.args.deps.now c.in_ok-found.ensures c.in_ok-rows.ensures c.as_slice.ensures
