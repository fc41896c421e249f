use Rattle.check_module.proofs.Reading.{names}
use Rattle.check_module.proofs.checker.Checker.named.Goals as goal

pub returns : goal.returns
returns c =
    names c.args.job.now c.args.«module».now c.args.spans.now c.args.watch c.in_ok-around.around c.in_ok-state.state c.as_slice.result.now c.as_slice.ensures c.in_ok-around.ensures c.in_ok-state.ensures
