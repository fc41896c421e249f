use Rattle.std.proofs.Common.{◌≡◌, true, false, refl, sym, ◌∙◌}
use Rattle.std.specs.BTreeSet.{contains}
use Rattle.std.specs.BTreeSet as sets
use Rattle.fact_trail.specs.Rows.{properties_of}
use Rattle.fact_trail.specs.Slots.{Key, key_cmp, turned_cmp}
use Rattle.fact_trail.proofs.Kept.{ok_of, err_of, turned_absent, turned_more, turned_after, rough_after}
use Rattle.fact_trail.proofs.properties.Properties.insert.Goals as goal

pub invariant_of-self-then-is_err-2 : goal.invariant_of-self-then-is_err-2
invariant_of-self-then-is_err-2 c =
    let before = c.args.self.now in
    let turned : sets.Updates turned_cmp before.turned c.insert.new.self c.turn.result true = ok_of c.insert.result (sets.Updates turned_cmp before.turned c.insert.new.self c.turn.result true) (sym c.is_err.ensures.value ∙ c.if-is_err.false) c.insert.ensures.updates in
    record {
      turned_too = turned_more before.rows before.rows before.turned c.insert.new.self c.args.key c.turn.result c.turn.ensures refl turned before.turned_too;
      rough_too = λ k is.
          err_of c.mark.result ((q : Key) → contains key_cmp c.mark.new.set q ≡ contains key_cmp before.rough q) (sym c.is_err-2.ensures.value ∙ c.if-is_err-2.true) c.mark.ensures.err k ∙ before.rough_too k is;
    }

pub invariant_of-self-2 : goal.invariant_of-self-2
invariant_of-self-2 c =
    let before = c.args.self.now in
    let turned : sets.Updates turned_cmp before.turned c.insert.new.self c.turn.result true = ok_of c.insert.result (sets.Updates turned_cmp before.turned c.insert.new.self c.turn.result true) (sym c.is_err.ensures.value ∙ c.if-is_err.false) c.insert.ensures.updates in
    let marked : c.is_rough.result ≡ true → contains key_cmp c.mark.new.set c.args.key ≡ true = ok_of c.mark.result (c.is_rough.result ≡ true → contains key_cmp c.mark.new.set c.args.key ≡ true) (sym c.is_err-2.ensures.value ∙ c.if-is_err-2.false) c.mark.ensures.here in
    record {
      turned_too = turned_after c.insert-2.result before.rows c.insert-2.new.self before.turned c.insert.new.self c.args.key c.turn.result c.args.fact c.turn.ensures c.insert-2.ensures.updates c.insert-2.ensures.err turned before.turned_too;
      rough_too = rough_after c.insert-2.result before.rows c.insert-2.new.self before.rough c.mark.new.set c.args.key c.args.fact c.is_rough.result c.is_rough.ensures c.insert-2.ensures.updates c.insert-2.ensures.absent c.insert-2.ensures.err c.mark.ensures.others marked before.rough_too;
    }

pub returns-then-is_err-clause-kept : goal.returns-then-is_err-clause-kept
returns-then-is_err-clause-kept c = λ smooth.
    let before = c.args.self.now in
    turned_absent (properties_of before) (contains turned_cmp before.turned) c.args.key c.turn.result c.turn.ensures before.turned_too
    (err_of c.insert.result (contains turned_cmp before.turned c.turn.result ≡ false) (sym c.is_err.ensures.value ∙ c.if-is_err.true) c.insert.ensures.absent)
