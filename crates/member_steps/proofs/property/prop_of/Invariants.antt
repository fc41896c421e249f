use Rattle.std.proofs.Common.{◌≡◌, drop}
use Rattle.flow_facts.specs.Properties.{prop_of}
use Rattle.member_steps.proofs.property.prop_of.Given as goal

-- no property before the place has the key
abbrev pub invariant-loop-i : goal.invariant-loop-i
invariant-loop-i l = prop_of l.key l.props ≡ prop_of l.key (drop l.i l.props)
