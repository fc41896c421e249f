use Rattle.fact_trail.proofs.Kept.{turned_unset, key_unset}
use Rattle.fact_trail.proofs.properties.Properties.remove.Goals as goal

pub invariant_of-self : goal.invariant_of-self
invariant_of-self c =
    let before = c.args.self.now in
    record {
      turned_too = turned_unset before.rows c.remove-3.new.self before.turned c.remove-2.new.self c.args.key c.turn.result c.turn.ensures c.remove-3.ensures.updates c.remove-2.ensures.updates before.turned_too;
      rough_too = key_unset before.rows c.remove-3.new.self before.rough c.remove.new.self c.args.key c.remove-3.ensures.updates c.remove.ensures.updates before.rough_too;
    }
