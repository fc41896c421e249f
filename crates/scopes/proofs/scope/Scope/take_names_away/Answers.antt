use Rattle.std.proofs.Common.{◌∙◌, arith}
use Rattle.scopes.proofs.Heights.{away_one, back_trans}
use Rattle.scopes.proofs.scope.Scope.take_names_away.Goals as goal

pub loop-height-preserved : goal.loop-height-preserved
loop-height-preserved c =
    let ((row, last), same, depth, wanted) = c.pop.ensures in
    let ((so_far, depth_so_far, wanted_so_far), changes) = c.loop-height.invariant in (
      (
        back_trans c.args.height c.args.self.now.rows.items c.loop-height.self.rows.items c.pop.new.self.rows.items c.args.self.now.changes.items c.loop-height.self.changes.items c.pop.new.self.changes.items so_far
            (away_one c.args.height c.loop-height.self.rows.items c.pop.new.self.rows.items c.loop-height.self.changes.items c.pop.new.self.changes.items row (omega (arith, c.loop-height.self.rows.ok.0)) last same),
        depth ∙ depth_so_far,
        wanted ∙ wanted_so_far,
      ),
      same ∙ changes,
    )
