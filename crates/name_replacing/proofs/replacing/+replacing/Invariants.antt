use Rattle.std.proofs.Common.{◌≡◌, map, take}
use Rattle.std.specs.Prelude.{unwrap_or}
use Rattle.name_replacing.specs.Replacing.{type_by, prop_by, param_by}
use Rattle.name_replacing.proofs.replacing.+replacing.Given as goal

abbrev pub invariant-types_by-loop-i : goal.invariant-types_by-loop-i
invariant-types_by-loop-i g l = unwrap_or l.types (take l.i l.all) ≡ map (type_by (g.M.Meanings.stands_for l.means)) (take l.i l.all)

abbrev pub invariant-props_by-loop-i : goal.invariant-props_by-loop-i
invariant-props_by-loop-i g l = unwrap_or l.all (take l.i l.props) ≡ map (prop_by (g.M.Meanings.stands_for l.means)) (take l.i l.props)

abbrev pub invariant-params_by-loop-i : goal.invariant-params_by-loop-i
invariant-params_by-loop-i g l = unwrap_or l.all (take l.i l.params) ≡ map (param_by (g.M.Meanings.stands_for l.means)) (take l.i l.params)
