-- The paths that come and go with an edit, and what they leave as it is.
use Rattle.std.specs.Prelude.{◌≡◌, ◌&&◌, not, List, None}
use Rattle.std.specs.List.{AllByRecursion}
use Rattle.flow_values.specs.Path.{IsRising}
use Rattle.check_values.specs.Rows.{Bytes, is_among}
use Rattle.check_values.specs.Roots.{paths_of}
use Rattle.check_values.specs.declared.signatures.DepRow.{DepRow}
use Rattle.check_values.specs.declared.signatures.Deps.{Deps}
use Rattle.module_resolution.specs.Resolution.{resolved}
use Rattle.recheck_law.specs.Lists.{again}
use Rattle.moved_paths.specs.declared.moving.Moved.{Moved}

-- exactly the paths of one program that another one does not have, rising
pub record AreBeyond (paths others beyond : List Bytes) : Type 0 where
  pub rising : IsRising beyond
  pub those : (path : Bytes) → is_among beyond path ≡ (is_among paths path && not (is_among others path))

-- exactly the paths that came, and exactly those that went
pub record AreMoved (old new : List Bytes) (moved : Moved) : Type 0 where
  pub came : AreBeyond new old (paths_of moved.came)
  pub went : AreBeyond old new (paths_of moved.went)

-- the specifier of a row can find no path that came, and could find none that went
abbrev pub IsRowUnmoved : Moved → Bytes → DepRow → Type 0
IsRowUnmoved moved from row = (resolved (paths_of moved.came) from row.spec ≡ None) × (resolved (paths_of moved.went) from row.spec ≡ None)

-- and so each row of a list
abbrev pub IsUnmoved : Moved → Bytes → Deps → Type 0
IsUnmoved moved from deps = AllByRecursion (IsRowUnmoved moved from) deps.rows

-- Such a list, if it is what its specifiers found among the old paths, is what they find among the new ones.
abbrev pub UnmovedStay : Type 0
UnmovedStay = (old new : List Bytes) (moved : Moved) (from : Bytes) (deps : Deps) → AreMoved old new moved → IsUnmoved moved from deps → again old from deps ≡ deps → again new from deps ≡ deps
