use Rattle.std.proofs.Common.{◌≡◌, true, false, Ok, Err, Result}
use Rattle.std.specs.Result.{is_err, OnOk, OnErr}
use Rattle.check_world.proofs.Pushed.{popped}
use Rattle.literal_reads.proofs.KeyPlaces.{placed_more, placed_same}
use Rattle.literal_reads.proofs.entries.add.Goals as goal

from_err : {T E P : Type 0} (r : Result T E) → true ≡ is_err r → OnErr r P → P
from_err (Ok x) e h = absurd (cc)
from_err (Err y) e h = h

from_ok : {T E P : Type 0} (r : Result T E) → false ≡ is_err r → OnOk r P → P
from_ok (Ok x) e h = h
from_ok (Err y) e h = absurd (cc)

pub returns-then-is_err-clause-placed : goal.returns-then-is_err-clause-placed
returns-then-is_err-clause-placed c =
    placed_same c.args.places.now c.put.new.places c.args.rows.now c.pop.new.self c.requires
    (from_err c.put.result c.if-is_err.ensures.value c.put.ensures.err)
    (popped c.args.rows.now c.push.new.self c.pop.new.self c.args.entry c.pop.result c.in_ok-push.ensures.ok c.pop.ensures)

pub returns-clause-placed : goal.returns-clause-placed
returns-clause-placed c =
    placed_more c.args.places.now c.put.new.places c.args.rows.now c.push.new.self c.args.entry c.in_ok-name.name c.requires c.in_ok-name.ensures c.in_ok-push.ensures.ok
    (from_ok c.put.result c.if-is_err.ensures.value c.put.ensures.ok)
