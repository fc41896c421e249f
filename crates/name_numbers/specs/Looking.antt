-- What stands beside a name of a module, where each module has rows of names.
use Rattle.std.specs.Prelude.{[], ◌∷◌, Option, None, if◌then◌else◌}
use Rattle.std.specs.Str.{bytes_eq}
use Rattle.check_values.specs.Rows.{Bytes, Rows, row_at}

-- what stands beside a name in the rows of the first module of a path; rest tells it where no module has the path
abbrev pub looked_or : {X : Type 0} → Rows (Rows X) → Bytes → Bytes → Option X → Option X
looked_or [] path name rest = rest
looked_or (m ∷ modules) path name rest = if bytes_eq m.0 path then row_at m.1 name else looked_or modules path name rest

-- what stands beside a name of a module, if anything
abbrev pub looked : {X : Type 0} → Rows (Rows X) → Bytes → Bytes → Option X
looked modules path name = looked_or modules path name None
