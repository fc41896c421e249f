use Rattle.std.proofs.Common.{rules, arith, length-drop, ◌∙◌}
use Rattle.script_run.proofs.Writing.{one_more}
use Rattle.script_run.proofs.sinks.write_all.Goals as goal

pub loop-at-preserved : goal.loop-at-preserved
loop-at-preserved g c = record {
  within = grind (arith, length-drop);
  written = one_more _ _ _ c.args.bytes.now c.loop-at.at c.in_ok-count.count c.loop-at.invariant.written c.in_ok-count.ensures.bytes.1;
  faults = c.in_ok-count.ensures.counts.stays (search rules) ∙ c.loop-at.invariant.faults;
}
