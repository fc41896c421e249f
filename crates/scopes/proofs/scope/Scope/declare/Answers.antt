use Rattle.std.proofs.Common.{true, Some, map, ap, ◌∙◌, arith}
use Rattle.type_values.specs.declared.types.FlowType.{FlowType}
use Rattle.typing.specs.Names as typing
use Rattle.scopes.specs.Stack.{at_place}
use Rattle.scopes.specs.Rows.{names_view, declared_row}
use Rattle.scopes.proofs.Heights.{keeps_trans}
use Rattle.scopes.proofs.Named.{same_scope}
use Rattle.scopes.proofs.Walks.{declared_within, declared_on, declared_falls, declared_all}
use Rattle.scopes.proofs.scope.Scope.declare.Goals as goal

pub index-requires : goal.index-requires
index-requires c =
    omega (arith, declared_within c.args.number c.args.ty.now c.args.self.now.rows.items c.loop-next.self.rows.items c.loop-next.next c.in-Some.at c.in-Some.is c.loop-next.invariant.declared, c.loop-next.self.rows.ok.0)

pub loop-next-smaller : goal.loop-next-smaller
loop-next-smaller c =
    declared_falls c.args.number c.args.ty.now c.args.self.now.rows.items c.loop-next.self.rows.items c.loop-next.next c.in-Some.at c.index.result.now c.in-Some.is c.index.ensures c.loop-next.self.numbers_linked c.loop-next.invariant.declared

pub loop-next-preserved : goal.loop-next-preserved
loop-next-preserved c = record {
  declared = declared_on c.args.number c.args.ty.now c.args.self.now.rows.items c.loop-next.self.rows.items c.declare_at.new.self.rows.items c.loop-next.next c.in-Some.at c.index.result.now c.in-Some.is c.index.ensures c.loop-next.self.numbers_linked
      (c.in_ok-declare_at.ensures.rows ∙ ap (λ (t : FlowType). at_place c.in-Some.at (declared_row true (Some t)) c.loop-next.self.rows.items) c.in_ok-share.ensures) c.loop-next.invariant.declared;
  depth = c.in_ok-declare_at.ensures.depth ∙ c.loop-next.invariant.depth;
  wanted = c.in_ok-declare_at.ensures.wanted ∙ c.loop-next.invariant.wanted;
  heights = keeps_trans c.args.self.now.rows.items c.loop-next.self.rows.items c.declare_at.new.self.rows.items c.args.self.now.changes.items c.loop-next.self.changes.items c.declare_at.new.self.changes.items c.loop-next.invariant.heights c.in_ok-declare_at.ensures.heights;
}

pub returns-clause-scope : goal.returns-clause-scope
returns-clause-scope c =
    same_scope c.loop-next.self.depth c.args.self.now.depth c.loop-next.self.result c.args.self.now.result (names_view c.loop-next.self.rows.items) (map (typing.binding_read c.args.number c.args.ty.now) (names_view c.args.self.now.rows.items))
    c.loop-next.invariant.depth c.loop-next.invariant.wanted
    (declared_all c.args.number c.args.ty.now c.args.self.now.rows.items c.loop-next.self.rows.items c.loop-next.next c.in_default.is c.loop-next.invariant.declared)
