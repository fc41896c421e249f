use Rattle.std.proofs.Common.{rules}
use Rattle.recheck_merging.proofs.Imported.{are_imports}
use Rattle.recheck_merging.proofs.importing.edges_of.Goals as goal

pub returns : goal.returns
returns c = are_imports c.args.sources.now c.get.result.now c.as_slice.result.now c.in_ok-edges.edges.items c.requires.sources (search rules) (search rules) c.in_ok-edges.ensures
