use Rattle.std.proofs.Common.{◌≡◌}
use Rattle.scopes.specs.View.{KeepsHeights}
use Rattle.scopes.proofs.Stacks.{after_place}
use Rattle.scopes.proofs.Walks.{IsDeclared}
use Rattle.scopes.proofs.scope.Scope.declare.Given as goal

abbrev pub invariant-loop-next : goal.invariant-loop-next
invariant-loop-next l = record {
  declared : IsDeclared l.fn.number l.ty l.fn.self.rows.items l.self.rows.items l.next;
  depth : l.self.depth ≡ l.fn.self.depth;
  wanted : l.self.result ≡ l.fn.self.result;
  heights : KeepsHeights l.fn.self l.self;
}

abbrev pub decreases-loop-next : goal.decreases-loop-next
decreases-loop-next l = after_place l.next
