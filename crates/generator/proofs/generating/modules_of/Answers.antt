use Rattle.std.proofs.Common.{rules, arith}
use Rattle.generator.specs.Modules.{module_in}
use Rattle.generator.proofs.Imported.{import_at, imports_count, one_more}
use Rattle.generator.proofs.generating.modules_of.Goals as goal

pub bounds-imports-i : goal.bounds-imports-i
bounds-imports-i c = omega (arith, imports_count c.args.seed c.args.n c.args.imports.now c.requires, c.loop-i-test.true)

pub loop-i-preserved : goal.loop-i-preserved
loop-i-preserved c = record {
  so_far = one_more (λ i. module_in c.args.seed i 0) c.loop-i.i c.loop-i.modules.items _ c.in_ok-module_in.field-0 c.loop-i.invariant.so_far
      (c.in_ok-module_in.ensures c.args.seed (import_at c.args.seed c.args.n c.loop-i.i c.args.imports.now c.requires c.loop-i-test.true)) (search rules);
}
