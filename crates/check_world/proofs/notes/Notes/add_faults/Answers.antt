use Rattle.std.proofs.Common.{◌≡◌, List, length, Ok, Err, Result, sym, ap, ◌∙◌, map-id, rules}
use Rattle.std.specs.Result.{OnErr}
use Rattle.std.proofs.lemmas.Iterator.Adapters.{YieldsList-from_vec}
use Rattle.std.proofs.lemmas.Iterator.Consumers.{YieldsList-so_far}
use Rattle.check_values.specs.declared.faults.Fault.{Fault}
use Rattle.typing.specs.States.{add_faults}
use Rattle.check_world.specs.View.{notes_view}
use Rattle.check_world.proofs.NoteSteps.{faults_more}
use Rattle.check_world.proofs.notes.Notes.add_faults.Goals as goal

on_err : {T E P : Type 0} (r : Result T E) → P → OnErr r P
on_err (Ok x) p = tt
on_err (Err y) p = p

pub loop-fault-preserved : goal.loop-fault-preserved
loop-fault-preserved c =
    faults_more c.loop-fault.yielded c.in-Some.fault (notes_view c.args.self.now) (notes_view c.loop-fault.self) (notes_view c.add_fault.new.self)
    c.loop-fault.invariant c.in_ok-add_fault.ensures.ok

-- Those that were added before the one that memory was refused for are the first ones.
pub returns-in_err-add_fault-clause-err : goal.returns-in_err-add_fault-clause-err
returns-in_err-add_fault-clause-err c =
    let so_far =
    YieldsList-so_far (YieldsList-from_vec {s = c.into_iter-fault-iterator.result} c.args.faults (search rules) (search rules))
    c.loop-fault.yielded c.loop-fault.fault-iterator c.loop-fault.yielded_by in
    on_err c.from_residual.result (
      length c.loop-fault.yielded,
      c.in_err-add_fault.ensures.err ∙ c.loop-fault.invariant ∙ ap (λ (l : List Fault). add_faults l (notes_view c.args.self.now)) (sym (map-id c.loop-fault.yielded) ∙ so_far),
    )
