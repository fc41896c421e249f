-- A program: paths and their bytes.
use Rattle.std.specs.Prelude.{List, [], ◌∷◌, map, Option, Some, None, if◌then◌else◌, nat_eq}
use Rattle.std.specs.Cmp.Lexicographic.{pointwise}
pub use Rattle.flow_values.specs.Path.{Bytes, IsRising}

-- a path and its bytes, for each module
abbrev pub Program : Type 0
Program = List (Bytes × Bytes)

-- the paths of a program, in order
abbrev pub paths_of : Program → List Bytes
paths_of program = map (λ row. row.0) program

-- the bytes of a path, or `None` where the program lacks it
abbrev pub text_at : Program → Bytes → Option Bytes
text_at [] path = None
text_at (row ∷ program) path = if pointwise nat_eq row.0 path then Some row.1 else text_at program path

-- the row of a path that was read
abbrev pub row_at : Bytes → Option Bytes → Program
row_at path None = []
row_at path (Some text) = (path, text) ∷ []
