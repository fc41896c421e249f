use Rattle.std.proofs.Common.{rules, ◌≡◌, map, Some}
use Rattle.std.specs.Prelude.{codes}
use Rattle.serde_json.specs.Find.{get, as_array}
use Rattle.serde_json.specs.View.{view, items_of}
use Rattle.script_line.proofs.Questions.{array_asks_none}
use Rattle.script_line.proofs.beside.beside_in.Goals as goal

pub returns-clause-none : goal.returns-clause-none
returns-clause-none c =
    let at : get (codes "asks") (view c.args.value.now) ≡ Some (view c.in-Some.asks.now) = search rules in
    let is : as_array (view c.in-Some.asks.now) ≡ Some (items_of (map view c.deref.result.now)) = search rules in
    array_asks_none (view c.args.value.now) (view c.in-Some.asks.now) (map view c.deref.result.now) c.asks_of.result at is c.asks_of.ensures.none
