use Rattle.std.proofs.Common.{◌∙◌, arith}
use Rattle.scopes.proofs.Heights.{back_one, back_trans}
use Rattle.scopes.proofs.scope.Scope.take_changes_back.Goals as goal

pub loop-height-preserved : goal.loop-height-preserved
loop-height-preserved c =
    let ((e, last, changed), depth, wanted) = c.take_back.ensures in
    let (so_far, depth_so_far, wanted_so_far) = c.loop-height.invariant in (
      back_trans c.args.height c.args.self.now.rows.items c.loop-height.self.rows.items c.take_back.new.self.rows.items c.args.self.now.changes.items c.loop-height.self.changes.items c.take_back.new.self.changes.items so_far
          (back_one c.args.height c.loop-height.self.rows.items c.take_back.new.self.rows.items c.loop-height.self.changes.items c.take_back.new.self.changes.items e (omega (arith, c.loop-height.self.changes.ok.0)) last changed),
      depth ∙ depth_so_far,
      wanted ∙ wanted_so_far,
    )
