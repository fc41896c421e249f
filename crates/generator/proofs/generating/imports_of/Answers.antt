use Rattle.std.proofs.Common.{rules}
use Rattle.generator.proofs.Imported.{next_state, next_import}
use Rattle.generator.proofs.generating.imports_of.Goals as goal

pub loop-i-preserved : goal.loop-i-preserved
loop-i-preserved c =
    let state = next_state c.args.seed c.loop-i.i c.loop-i.state c.behind-state.result (search rules) c.loop-i.invariant.state c.behind-state.ensures in
    record {
      modules = next_import c.args.seed c.loop-i.i c.behind-state.result c.drawn.result c.loop-i.modules.items _ (search rules) state c.drawn.ensures.value c.loop-i.invariant.modules (search rules);
      state = state;
    }
