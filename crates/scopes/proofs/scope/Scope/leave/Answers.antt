use Rattle.std.proofs.Common.{◌≤◌, length, ap, arith}
use Rattle.scopes.proofs.Heights.{all_left, left_keeps, back_trans}
use Rattle.scopes.proofs.scope.Scope.leave.Goals as goal

pub returns-clause-heights : goal.returns-clause-heights
returns-clause-heights c =
    let first = c.take_changes_back.ensures.left.0 in
    let second = c.take_names_away.ensures.left.0 in
    let few : length c.take_names_away.new.self.changes.items ≤ c.args.height.changes = omega (arith, ap length c.take_names_away.ensures.changes, c.take_changes_back.ensures.few) in
    let all = back_trans c.args.height c.args.self.now.rows.items c.take_changes_back.new.self.rows.items c.take_names_away.new.self.rows.items c.args.self.now.changes.items c.take_changes_back.new.self.changes.items c.take_names_away.new.self.changes.items first second in
    λ before top kept.
    left_keeps c.args.height c.args.self.now.rows.items c.take_names_away.new.self.rows.items c.args.self.now.changes.items c.take_names_away.new.self.changes.items
    (all_left c.args.height c.args.self.now.rows.items c.take_names_away.new.self.rows.items c.args.self.now.changes.items c.take_names_away.new.self.changes.items c.take_names_away.ensures.few few all)
    before.rows.items before.changes.items top kept
