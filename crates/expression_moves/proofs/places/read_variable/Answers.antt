use Rattle.std.proofs.Common.{refl, ap, ◌∙◌, subst}
use Rattle.check_values.specs.declared.faults.Fault.{Fault}
use Rattle.scopes.specs.View.{Tells, scope_view}
use Rattle.scopes.specs.declared.binding.Meaning.{Meaning}
use Rattle.typing.specs.Names.{meaning_of}
use Rattle.typing.specs.States.{name_fault}
use Rattle.check_world.specs.View.{world_view, notes_view}
use Rattle.check_moves.specs.View.{around}
use Rattle.expression_moves.proofs.Stepping.{no_variable_read}
use Rattle.expression_moves.proofs.places.read_variable.Goals as goal

pub returns-in_ok-name_fault-in-NoVariable-clause-told : goal.returns-in_ok-name_fault-in-NoVariable-clause-told
unfolding around
returns-in_ok-name_fault-in-NoVariable-clause-told c =
    let s = c.args.state.now in
    no_variable_read (world_view c.args.world.now) c.args.first c.args.end c.args.name.now c.in_ok-share-in-NoVariable.field-0 (scope_view s.scope) c.in-NoVariable.code s (record s { notes = c.name_fault.new.self })
    (subst (λ (m : Meaning). Tells m (meaning_of (scope_view s.scope) c.args.name.now)) c.in-NoVariable.is c.in_ok-variable.ensures) c.in_ok-share-in-NoVariable.ensures refl
    (c.in_ok-name_fault-in-NoVariable.ensures.ok ∙ ap (λ (fault : Fault). name_fault fault (notes_view s.notes)) c.fault-fault.ensures)
