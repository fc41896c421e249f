use Rattle.std.proofs.Common.{rules, ◌≡◌, Some}
use Rattle.std.specs.Prelude.{codes}
use Rattle.serde_json.specs.Find.{get}
use Rattle.serde_json.specs.View.{view}
use Rattle.script_line.proofs.Nothing.{asks_nothing}
use Rattle.script_line.proofs.reading.ask_of.Goals as goal

pub returns-in_default-2-clause-none : goal.returns-in_default-2-clause-none
returns-in_default-2-clause-none c =
    let at : get (codes "ask") (view c.args.value.now) ≡ Some (view c.in-Some.inner.now) = search rules in
    asks_nothing (view c.args.value.now) (view c.in-Some.inner.now) c.requires at (rw c.in_default-2.is at c.in_ok-ask.ensures.none)
