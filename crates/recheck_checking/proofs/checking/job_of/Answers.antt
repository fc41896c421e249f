use Rattle.std.proofs.Common.{length, ap, arith, rules}
use Rattle.recheck_merging.specs.check_phases.proofs.Checks.{job_made}
use Rattle.recheck_merging.specs.check_phases.proofs.Merges.{many_parses, many_lists}
use Rattle.recheck_checking.specs.Checking.{rows_by}
use Rattle.recheck_checking.proofs.Signed.{tells_there}
use Rattle.recheck_checking.proofs.checking.job_of.Goals as goal

pub returns : goal.returns
returns c =
    let many = ap length c.modules_of-modules.ensures in
    let parses = many_parses c.args.sources.now c.requires.sources in
    let lists = many_lists c.args.sources.now c.requires.sources in
    job_made c.args.sources.now (rows_by c.args.sources.now c.args.signatures.now) c.modules_of-modules.result.now c.args.x c.index-modules-x.result c.index-parse.result.now c.index-deps.result.now _ c.modules_of-modules.ensures (omega arith) c.index-modules-x.is (omega arith)
    (search rules) (omega arith) (search rules) (search rules) (search rules) c.in_ok-share-3.ensures c.in_ok-share-4.ensures
    (tells_there c.args.sources.now c.args.signatures.now c.args.x c.index-deps.result.now c.args.table.now c.in_ok-share-5.field-0 c.requires.told (omega arith) (search rules) c.in_ok-share-5.ensures)
