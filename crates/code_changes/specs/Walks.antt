-- What a walk through code tells.
use Rattle.std.specs.Prelude.{◌≡◌, Bool, not, ◌&&◌, ◌||◌, List, ◌++◌}
use Rattle.std.specs.Ordering.{nat_cmp}
use Rattle.std.specs.Cmp.Lexicographic.{slice_cmp}
use Rattle.std.specs.BTreeSet.{BTreeSet, contains}
use Rattle.check_values.specs.Rows.{Bytes, is_among}
use Rattle.typing.specs.Changes as typing
use Rattle.code_changes.specs.View.{changes_view}
use Rattle.code_changes.specs.Seen.{Scopes, seen, no_scope}
use Rattle.code_changes.specs.declared.change.Change.{Change}
use Rattle.code_changes.specs.declared.walk.Walk.{Walk}
use Rattle.code_changes.specs.declared.walk.Outside.{Outside}

-- the scopes that stand round
abbrev pub scopes_of : Walk → Scopes
scopes_of w = record { owns = contains (slice_cmp nat_cmp) w.own; is_inner = w.is_inner }

-- The changes so far, and the scopes that stand round.
pub record Told : Type 0 where
  pub changes : List typing.Change
  pub scopes : Scopes

unfoldable pub walk_view : Walk → Told
walk_view w = record { changes = changes_view w.changes; scopes = scopes_of w }

-- with what is seen of these changes behind those so far
unfoldable pub walked : List typing.Change → Told → Told
walked changes t = record { changes = t.changes ++ seen t.scopes changes; scopes = t.scopes }

-- the walk passed these changes, and stands in the same scopes
abbrev pub Tells : Walk → Walk → List typing.Change → Type 0
Tells before after changes = walk_view after ≡ walked changes (walk_view before)

-- a walk that starts behind changes, in no scope
abbrev pub StartsBehind : List Change → Walk → Type 0
StartsBehind changes w = (w.changes ≡ changes) × (scopes_of w ≡ no_scope)

-- names were added to a set; those that are new to it are noted
abbrev pub AreAdded : List Bytes → BTreeSet Bytes → BTreeSet Bytes → List Bytes → Type 0
AreAdded names before after added =
    ((name : Bytes) → contains (slice_cmp nat_cmp) after name ≡ (contains (slice_cmp nat_cmp) before name || is_among names name))
    × ((name : Bytes) → contains (slice_cmp nat_cmp) before name ≡ (contains (slice_cmp nat_cmp) after name && not (is_among added name)))

-- names were taken out of a set
abbrev pub AreTaken : List Bytes → BTreeSet Bytes → BTreeSet Bytes → Type 0
AreTaken names before after = (name : Bytes) → contains (slice_cmp nat_cmp) after name ≡ (contains (slice_cmp nat_cmp) before name && not (is_among names name))

-- a scope was entered: a function (true) or a block with these names
abbrev pub Enters : Bool → List Bytes → Outside → Walk → Walk → Type 0
Enters is_function names outside before after =
    (after.changes ≡ before.changes) × AreAdded names before.own after.own outside.added × (after.is_inner ≡ (before.is_inner || is_function)) × (outside.is_inner ≡ before.is_inner)

-- a scope was left
abbrev pub Leaves : Outside → Walk → Walk → Type 0
Leaves outside before after = (after.changes ≡ before.changes) × AreTaken outside.added before.own after.own × (after.is_inner ≡ outside.is_inner)
