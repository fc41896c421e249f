-- What plans of the code stand for, and what its changes tell.
use Rattle.std.specs.Prelude.{◌≡◌, ◌||◌, Bool, true, false, List, map, Option, Some, None}
use Rattle.std.specs.Ordering.{nat_cmp}
use Rattle.std.specs.Cmp.Lexicographic.{slice_cmp}
use Rattle.std.specs.BTreeSet.{BTreeSet, contains}
use Rattle.check_values.specs.Rows.{Bytes, is_among}
use Rattle.typing.specs.Changes as typing
use Rattle.typing.specs.Changes.{sets_variable, sets_property, may_set_all}
use Rattle.code_changes.specs.View.{changes_view}
use Rattle.code_changes.specs.declared.change.Change.{Change}
use Rattle.code_plans.specs.Plans as p
use Rattle.code_plans.specs.Plans.{includes, plan}
use Rattle.code_plans.specs.declared.plan.Plan.{Plan, fold-Plan}
use Rattle.code_plans.specs.declared.distinct.Met.{Met}

-- the plan for which a value stands
unfoldable pub plan_view : Plan → p.Plan
plan_view = fold-Plan p.Plan (λ level. plan (includes (changes_view level.changes)) level.parts)

unfoldable pub plans_view : List Plan → List p.Plan
plans_view all = map plan_view all

-- A plan that was handed on is the plan of this code; where none was, nothing is said.
unfoldable pub IsPlan : Option Plan → p.Plan → Type 0
IsPlan None whole = Unit {0}
IsPlan (Some given) whole = plan_view given ≡ whole

-- what was met tells whether a change was
abbrev pub is_met : Met → typing.Change → Bool
is_met m (sets_variable true name) = contains (slice_cmp nat_cmp) m.inside name
is_met m (sets_variable false name) = contains (slice_cmp nat_cmp) m.variables name
is_met m (sets_property name) = contains (slice_cmp nat_cmp) m.properties name
is_met m may_set_all = m.all

-- what was met, and the list of it, tell of these changes
abbrev pub Meets : Met → List Change → List typing.Change → Type 0
Meets m list changes = (c : typing.Change) → (is_met m c ≡ includes changes c) × (includes (changes_view list) c ≡ includes changes c)

-- these names are in the set, and no others
abbrev pub Owns : BTreeSet Bytes → List Bytes → Type 0
Owns own names = (name : Bytes) → contains (slice_cmp nat_cmp) own name ≡ is_among names name

-- changes were added that tell of these
abbrev pub Adds : List Change → List Change → List typing.Change → Type 0
Adds before after changes = (c : typing.Change) → includes (changes_view after) c ≡ (includes (changes_view before) c || includes changes c)
