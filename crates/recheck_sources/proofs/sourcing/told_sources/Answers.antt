use Rattle.std.proofs.Common.{arith}
use Rattle.recheck_sources.proofs.Told.{from_many, fresh_many, other_many, fresh_other, signed_other, changed_told, touched_told}
use Rattle.recheck_sources.proofs.sourcing.told_sources.Goals as goal

pub relisted_of-requires-clause-from : goal.relisted_of-requires-clause-from
relisted_of-requires-clause-from c = from_many c.args.was.now c.args.sources c.requires.was c.requires.sources c.args.from.now c.args.fresh.now c.requires.from c.requires.fresh c.as_slice-new.result.now c.as_slice-new.ensures.value

pub relisted_of-requires-clause-fresh : goal.relisted_of-requires-clause-fresh
relisted_of-requires-clause-fresh c = fresh_many c.args.was.now c.args.sources c.requires.was c.requires.sources c.args.from.now c.args.fresh.now c.requires.from c.requires.fresh c.as_slice-new.result.now c.as_slice-new.ensures.value

pub either_places-requires-clause-few : goal.either_places-requires-clause-few
either_places-requires-clause-few c =
    let many = other_many c.args.was.now c.args.sources c.requires.was c.requires.sources c.args.from.now c.args.fresh.now c.requires.from c.requires.fresh c.as_slice-old.result.now c.as_slice-new.result.now c.in_ok-relisted.relisted.items c.as_slice-other.result.now
    c.as_slice-old.ensures.value c.as_slice-new.ensures.value c.in_ok-relisted.ensures c.as_slice-other.ensures.value in
    omega (arith, many, c.requires.few)

pub either_places-requires-clause-many : goal.either_places-requires-clause-many
either_places-requires-clause-many c =
    signed_other c.args.was.now c.args.sources c.requires.was c.requires.sources c.args.from.now c.args.fresh.now c.requires.from c.requires.fresh c.as_slice-old.result.now c.as_slice-new.result.now c.in_ok-relisted.relisted.items c.as_slice-other.result.now
    c.as_slice-old.ensures.value c.as_slice-new.ensures.value c.in_ok-relisted.ensures c.as_slice-other.ensures.value
    c.as_slice-was_said.result.now c.as_slice-said.result.now c.in_ok-resigned.resigned.items c.as_slice-signed.result.now c.as_slice-was_said.ensures.value c.as_slice-said.ensures.value c.in_ok-resigned.ensures c.as_slice-signed.ensures.value

pub either_places-requires-2-clause-few : goal.either_places-requires-2-clause-few
either_places-requires-2-clause-few c =
    let many = other_many c.args.was.now c.args.sources c.requires.was c.requires.sources c.args.from.now c.args.fresh.now c.requires.from c.requires.fresh c.as_slice-old.result.now c.as_slice-new.result.now c.in_ok-relisted.relisted.items c.as_slice-other.result.now
    c.as_slice-old.ensures.value c.as_slice-new.ensures.value c.in_ok-relisted.ensures c.as_slice-other.ensures.value in
    omega (arith, many, c.requires.few)

pub either_places-requires-2-clause-many : goal.either_places-requires-2-clause-many
either_places-requires-2-clause-many c =
    fresh_other c.args.was.now c.args.sources c.requires.was c.requires.sources c.args.from.now c.args.fresh.now c.requires.from c.requires.fresh c.as_slice-old.result.now c.as_slice-new.result.now c.in_ok-relisted.relisted.items c.as_slice-other.result.now
    c.as_slice-old.ensures.value c.as_slice-new.ensures.value c.in_ok-relisted.ensures c.as_slice-other.ensures.value

pub returns-clause-touched : goal.returns-clause-touched
returns-clause-touched c =
    touched_told c.args.was.now c.args.sources c.requires.was c.requires.sources c.args.from.now c.args.fresh.now c.requires.from c.requires.fresh c.as_slice-old.result.now c.as_slice-new.result.now c.in_ok-relisted.relisted.items c.as_slice-other.result.now
    c.as_slice-old.ensures.value c.as_slice-new.ensures.value c.in_ok-relisted.ensures c.as_slice-other.ensures.value
    c.as_slice-was_said.result.now c.as_slice-said.result.now c.in_ok-resigned.resigned.items c.as_slice-signed.result.now c.as_slice-was_said.ensures.value c.as_slice-said.ensures.value c.in_ok-resigned.ensures c.as_slice-signed.ensures.value
    c.in_ok-touched.touched c.in_ok-touched.ensures

pub returns-clause-changed : goal.returns-clause-changed
returns-clause-changed c =
    changed_told c.args.was.now c.args.sources c.requires.was c.requires.sources c.args.from.now c.args.fresh.now c.requires.from c.requires.fresh c.as_slice-old.result.now c.as_slice-new.result.now c.in_ok-relisted.relisted.items c.as_slice-other.result.now
    c.as_slice-old.ensures.value c.as_slice-new.ensures.value c.in_ok-relisted.ensures c.as_slice-other.ensures.value c.in_ok-changed.changed c.in_ok-changed.ensures
