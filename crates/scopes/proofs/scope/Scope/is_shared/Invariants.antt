use Rattle.typing.specs.Statements.{is_shared_kind}
use Rattle.scopes.proofs.Stacks.{after_place}
use Rattle.scopes.proofs.Walks.{IsLooked}
use Rattle.scopes.proofs.scope.Scope.is_shared.Given as goal

abbrev pub invariant-loop-next : goal.invariant-loop-next
invariant-loop-next l = IsLooked is_shared_kind l.fn.number l.self.rows.items l.next

abbrev pub decreases-loop-next : goal.decreases-loop-next
decreases-loop-next l = after_place l.next
