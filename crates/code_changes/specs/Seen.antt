-- What is seen of changes outside of the scopes that stand round them.
use Rattle.std.specs.Prelude.{Bool, true, false, ◌||◌, List, [], ◌∷◌, if◌then◌else◌}
use Rattle.std.specs.List.{flat_map}
use Rattle.check_values.specs.Rows.{Bytes, is_among}
use Rattle.typing.specs.Changes.{Change, sets_variable, sets_property, may_set_all}

-- Scopes that stand one in another: which names are theirs, and whether one of them is a function.
pub record Scopes : Type 0 where
  pub owns : Bytes → Bool
  pub is_inner : Bool

-- one change, outside of the scopes
abbrev pub seen_one : Scopes → Change → List Change
seen_one s (sets_variable inner name) = if s.owns name then [] else sets_variable (inner || s.is_inner) name ∷ []
seen_one s (sets_property name) = sets_property name ∷ []
seen_one s may_set_all = if s.is_inner then [] else may_set_all ∷ []

unfoldable pub seen : Scopes → List Change → List Change
seen s changes = flat_map (seen_one s) changes

-- the same and a function (true) or a block inside, with these own names
abbrev pub with_scope : Bool → List Bytes → Scopes → Scopes
with_scope is_function names s = record { owns = λ name. s.owns name || is_among names name; is_inner = s.is_inner || is_function }

abbrev pub no_scope : Scopes
no_scope = record { owns = λ name. false; is_inner = false }
