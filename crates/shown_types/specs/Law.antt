-- There is one answer to what is shown at a line and a column.
use Rattle.std.specs.Prelude.{◌≡◌, ℕ, Option}
use Rattle.check_values.specs.Rows.{Bytes, Rows, row_at}
use Rattle.check_values.specs.declared.signatures.Deps.{Deps}
use Rattle.check_values.specs.declared.signatures.Sig.{Sig}
use Rattle.type_values.specs.declared.types.FlowType.{FlowType}
use Rattle.errors_by_reach.specs.Law.{Source}
use Rattle.errors_by_reach.specs.Seen.{Sigs}
use Rattle.shown_types.specs.Shown.{IsShown}

-- one at most
abbrev pub OneType : Type 0
OneType =
    (path : Bytes) (deps : Deps) (source : Source) (sigs : Sigs) (text : Bytes) (line column : ℕ) (a b : Option FlowType)
    → IsShown path deps source sigs text line column a → IsShown path deps source sigs text line column b → a ≡ b

-- and one at least, by the merged signatures of the modules that there are
abbrev pub EachHasType : Type 0
EachHasType =
    (path : Bytes) (deps : Deps) (source : Source) (sigs : Rows Sig) (text : Bytes) (line column : ℕ)
    → (answer : Option FlowType) × IsShown path deps source (row_at sigs) text line column answer
