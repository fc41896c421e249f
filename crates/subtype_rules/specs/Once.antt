-- Facts that hold in one way at most.
use Rattle.std.specs.Prelude.{List, [], ◌∷◌, ℕ, Option}
use Rattle.std.specs.Ordering.{Ordering-set}
use Rattle.std.specs.BTreeMap.{BTreeMap}
use Rattle.std.specs.Coded.{Coded-set, coded_option, coded_ℕ}
use Rattle.flow_values.specs.Path.{IsRising}
use Rattle.type_values.specs.declared.types.FlowProp.{FlowProp}
use Rattle.subtype_rules.specs.Firsts.{AreFirsts}

pub rising_once : (keys : List (List ℕ)) → IsProp (IsRising keys)
rising_once [] = hlevel
rising_once (key ∷ []) = hlevel
rising_once (key ∷ next ∷ more) = let more_once : IsProp (IsRising (next ∷ more)) = rising_once (next ∷ more) in hlevel (more_once, Ordering-set)

pub firsts_once : (ps : List FlowProp) (map : BTreeMap (List ℕ) ℕ) → IsProp (AreFirsts ps map)
firsts_once ps map = let places : IsSet (Option ℕ) = Coded-set (coded_option coded_ℕ) in hlevel places
