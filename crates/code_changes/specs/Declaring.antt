-- The names of statements.
use Rattle.std.specs.Prelude.{List}
use Rattle.check_values.specs.Rows.{Bytes}
use Rattle.js_grammar.specs.Code.{Stmt, stmt}
use Rattle.typing.specs.Changes.{declared_by}

-- the name that a statement declares, if it declares one
abbrev pub declared_by_statement : Stmt → List Bytes
declared_by_statement (stmt f t form) = declared_by form
