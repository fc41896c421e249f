use Rattle.std.proofs.Common.{rules, arith, ◌<◌}
use Rattle.generator.specs.Draws.{edited}
use Rattle.generator.specs.Modules.{module_in}
use Rattle.generator.proofs.Imported.{import_at, imports_count, next_round, after_round, next_edit, module_there, ended, drawn_there}
use Rattle.generator.proofs.generating.edits_of.Goals as goal

pub bounds-imports-i : goal.bounds-imports-i
bounds-imports-i c = omega (arith, imports_count c.args.seed c.args.n c.args.imports.now c.requires.modules, c.drawn-i.ensures.below)

pub loop-round-preserved : goal.loop-round-preserved
loop-round-preserved c =
    let some : 0 < c.loop-round.round = search rules in
    let state = next_round c.args.n c.args.seed c.loop-round.round c.loop-round.state c.behind-state.result some c.loop-round.invariant.state c.behind-state.ensures in
    let import = import_at c.args.seed c.args.n c.drawn-i.result c.args.imports.now c.requires.modules c.drawn-i.ensures.below in
    let i_is = drawn_there c.args.n c.args.seed c.loop-round.round c.behind-state.result c.drawn-i.result c.drawn-i.ensures.value state in
    record {
      so_far = next_edit (λ round. module_in c.args.seed (edited c.args.n c.args.seed round) round) c.loop-round.round c.loop-round.edits.items _ c.in_ok-module_in.field-0 some c.loop-round.invariant.so_far
          (module_there c.args.seed c.args.n c.loop-round.round c.drawn-i.result c.in_ok-module_in.field-0 i_is (c.in_ok-module_in.ensures c.args.seed import)) (search rules);
      state = after_round c.args.n c.args.seed c.loop-round.round c.behind-state.result state;
    }

pub returns : goal.returns
returns c =
    ended (λ round. module_in c.args.seed (edited c.args.n c.args.seed round) round) c.loop-round.round c.loop-round.edits.items c.from_vec.result c.from_vec.ensures c.loop-round.invariant.so_far
    (omega (arith, c.loop-round-test.false, c.loop-round.auto.round-end))
