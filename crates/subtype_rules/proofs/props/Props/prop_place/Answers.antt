use Rattle.std.proofs.Common.{ap, ◌∙◌}
use Rattle.subtype_rules.specs.Kept.{prop_of_place}
use Rattle.subtype_rules.proofs.Places.{prop_there}
use Rattle.subtype_rules.proofs.props.Props.prop_place.Goals as goal

pub returns : goal.returns
returns c = ap (prop_of_place c.args.self.now.all.now) c.place.ensures ∙ prop_there c.args.self.now.all.now c.args.key.now
