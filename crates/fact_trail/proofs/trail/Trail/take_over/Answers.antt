use Rattle.fact_trail.proofs.Sparing.{takes_over}
use Rattle.fact_trail.proofs.trail.Trail.take_over.Goals as goal

pub returns : goal.returns
returns c =
    takes_over c.args.spare c.args.self.now _ c.push_reserved.new.self.items c.push_reserved-2.new.self.items c.replace-variables.result c.into_parts-constants.result.0 c.into_parts-constants.result.1 c.replace-properties.result c.replace-variables.ensures.after
    c.replace-properties.ensures.after c.replace-variables.ensures.value c.replace-properties.ensures.value c.into_parts-constants.ensures.constants c.into_parts-constants.ensures.changing c.push_reserved.ensures.items c.push_reserved-2.ensures.items
    c.push_reserved-3.ensures.items
