use Rattle.std.proofs.Common.{◌≡◌, true, false, Ok, Err, Result, sym, ◌∙◌, subst}
use Rattle.std.specs.Result.{is_err, OnOk, OnErr}
use Rattle.check_world.specs.Keys.{AreKeys}
use Rattle.check_world.proofs.FaultKeys.{has_key, more_keys, same_keys, with_old, with_new}
use Rattle.check_world.proofs.Pushed.{popped}
use Rattle.check_world.proofs.notes.put.Goals as goal

from_err : {T E P : Type 0} (r : Result T E) → true ≡ is_err r → OnErr r P → P
from_err (Ok x) e h = absurd (cc)
from_err (Err y) e h = h

from_ok : {T E P : Type 0} (r : Result T E) → false ≡ is_err r → OnOk r P → P
from_ok (Ok x) e h = h
from_ok (Err y) e h = absurd (cc)

pub returns-then-contains-clause-ok : goal.returns-then-contains-clause-ok
returns-then-contains-clause-ok c =
    with_old c.args.faults.now c.args.fault
    (sym (has_key c.args.keys.now c.args.faults.now c.in_ok-key.key c.args.fault c.requires c.in_ok-key.ensures) ∙ sym c.if-contains.ensures)

pub returns-then-is_err-clause-keys : goal.returns-then-is_err-clause-keys
returns-then-is_err-clause-keys c =
    same_keys c.args.keys.now c.insert.new.self c.args.faults.now c.pop.new.self c.requires
    (from_err c.insert.result c.if-is_err.ensures.value c.insert.ensures.err)
    (popped c.args.faults.now c.push.new.self c.pop.new.self c.args.fault c.pop.result c.in_ok-push.ensures.ok c.pop.ensures)

pub returns-clause-ok : goal.returns-clause-ok
returns-clause-ok c =
    c.in_ok-push.ensures.ok
    ∙ with_new c.args.faults.now c.args.fault
    (sym (has_key c.args.keys.now c.args.faults.now c.in_ok-key.key c.args.fault c.requires c.in_ok-key.ensures) ∙ sym c.if-contains.ensures)

pub returns-clause-keys : goal.returns-clause-keys
returns-clause-keys c =
    let updates = from_ok c.insert.result c.if-is_err.ensures.value c.insert.ensures.updates in
    subst (AreKeys c.insert.new.self) (sym c.in_ok-push.ensures.ok)
    (more_keys c.args.keys.now c.insert.new.self c.args.faults.now c.in_ok-key.key c.args.fault c.requires c.in_ok-key.ensures updates.0)
