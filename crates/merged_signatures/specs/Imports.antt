-- The modules that a module leads to by its imports, and that its merged signature depends on no others.
use Rattle.std.specs.Prelude.{◌≡◌, Some}
use Rattle.check_values.specs.Rows.{Bytes}
use Rattle.merged_signatures.specs.Chains.{Known, View, found}
use Rattle.merged_signatures.specs.Merged.{merged}

-- a specifier of one module finds the other
abbrev pub Edge : View → Bytes → Bytes → Type 0
Edge v path other = (m : Known) × (spec : Bytes) × (v path ≡ Some m) × (found m.deps spec ≡ Some other)

-- zero or more edges lead from one module to the other
pub data Imports (v : View) (start : Bytes) : Bytes → Type 0 where
  itself : Imports v start start
  further : (path other : Bytes) → Imports v start path → Edge v path other → Imports v start other

-- where two programs know the same of each module that one leads to by its imports, its merged signature is the same
abbrev pub IsLocal : Type 0
IsLocal = (v w : View) (start : Bytes) → ((path : Bytes) → Imports w start path → w path ≡ v path) → merged w start ≡ merged v start
