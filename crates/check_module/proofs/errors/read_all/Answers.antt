use Rattle.std.proofs.Common.{arith}
use Rattle.check_module.specs.View.{checker_world, checker_env}
use Rattle.check_module.proofs.Reading.{items_read_none, items_read_next, items_read_all, stays_still, stays_twice}
use Rattle.check_module.proofs.errors.read_all.Goals as goal

pub loop-i-init : goal.loop-i-init
loop-i-init c = record {
  env = λ p m is. items_read_none (checker_world c.args.checker.now) p m (checker_env c.args.checker.now);
  stays = stays_still c.args.checker.now;
}

pub loop-i-preserved : goal.loop-i-preserved
loop-i-preserved c = record {
  env = λ p m is.
      items_read_next (checker_world c.args.checker.now) p m (checker_world c.loop-i.checker) c.as_slice-items.result.now c.loop-i.i c.index-items-i.result (checker_env c.args.checker.now) (checker_env c.loop-i.checker)
      (checker_env c.read_item.new.self) (omega arith) c.index-items-i.is c.loop-i.invariant.stays.0 (c.in_ok-read_item.ensures.env p m (c.loop-i.invariant.stays.1 p m is)) (c.loop-i.invariant.env p m is);
  stays = stays_twice c.args.checker.now c.loop-i.checker c.read_item.new.self c.loop-i.invariant.stays c.in_ok-read_item.ensures.stays;
}

pub returns-clause-env : goal.returns-clause-env
returns-clause-env c = λ p m is.
    items_read_all (checker_world c.args.checker.now) p m c.as_slice-items.result.now c.args.«module».now.items c.loop-i.i (checker_env c.args.checker.now) (checker_env c.loop-i.checker) (omega arith) c.as_slice-items.ensures
    (c.loop-i.invariant.env p m is)

pub returns-in_err-read_item-clause-stays : goal.returns-in_err-read_item-clause-stays
returns-in_err-read_item-clause-stays c = stays_twice c.args.checker.now c.loop-i.checker c.read_item.new.self c.loop-i.invariant.stays c.in_err-read_item.ensures.stays
