use Rattle.std.proofs.Common.{◌-◌, arith, subst, sym}
use Rattle.std.specs.Prelude.{List}
use Rattle.check_values.specs.declared.codes.Code.{Code}
use Rattle.fault_sets.specs.Keys.{Key, entry_fault, AreNamed}
use Rattle.fault_sets.proofs.Entries.{put_next, named_put}
use Rattle.std.proofs.Common.{map}
use Rattle.fault_sets.proofs.add_all.Goals as goal

pub loop-i-preserved : goal.loop-i-preserved
loop-i-preserved c = record {
  named = subst (λ (es : List (Key × Code)). AreNamed es) (sym c.in_ok-insert.ensures.entries) (named_put c.loop-i.keyed.entries c.in_ok-key.key c.index-faults-i.result.code c.loop-i.invariant.named c.in_ok-key.ensures.0);
  faults =
      put_next c.args.faults.now (c.loop-i.i - 1) c.loop-i.i c.index-faults-i.result c.loop-i.keyed.entries c.insert.new.self.entries c.in_ok-key.key c.index-faults-i.result.code (map entry_fault c.args.keyed.now.entries)
      (omega (arith, c.loop-i-test.true)) (omega (arith, c.loop-i-test.true, c.loop-i.auto.i)) c.index-faults-i.is c.loop-i.invariant.named c.in_ok-key.ensures.0 c.in_ok-key.ensures.1 c.in_ok-insert.ensures.entries c.loop-i.invariant.faults;
}
