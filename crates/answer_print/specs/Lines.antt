-- The lines that are printed of an answer, each with its LF.
use Rattle.std.specs.Prelude.{ℕ, List, [], ◌++◌, length, flat_map, Option, Some, None, Result, Ok, Err, codes}
use Rattle.std.specs.Fmt.{decimal}
use Rattle.flow_values.specs.Path.{Bytes}
use Rattle.check_values.specs.Codes.{code_name}
use Rattle.check_values.specs.declared.signatures.Export.{Export}
use Rattle.check_values.specs.declared.signatures.Export.TheVariants as export
use Rattle.check_values.specs.declared.signatures.Sig.{Sig}
use Rattle.type_values.specs.declared.types.FlowType.{FlowType}
use Rattle.type_terms.specs.Show.{shown}
use Rattle.program_check.specs.Status.{end_of_line, error_place, details_part, status_line}
use Rattle.asks.specs.Kinds.{asked_path}
use Rattle.asks.specs.declared.answer.Located.{Located}
use Rattle.asks.specs.declared.answer.Answer.{Answer}
use Rattle.asks.specs.declared.answer.Answer.TheVariants.{Faults, Shown, Found, Paths, Sig as TheSig}
use Rattle.asks.specs.declared.answer.AskFault.{AskFault}
use Rattle.asks.specs.declared.answer.AskFault.TheVariants.{UnknownPath, NoExpression}
use Rattle.asks.specs.declared.ask.Ask.{Ask}
use Rattle.asks.specs.declared.ask.Ask.TheVariants.{Status, Errors, CheckContents, TypeAtPos, FindModule, Ls, Importers, Signature}

-- an error with its place
abbrev pub located_line : Located → Bytes
located_line e = error_place e.path e.line e.column ++ (code_name e.code ++ (details_part e.details ++ end_of_line))

-- a module
abbrev pub path_line : Bytes → Bytes
path_line path = codes "  " ++ (path ++ end_of_line)

-- an export
abbrev pub export_line : Bytes → Export → Bytes
export_line name (export.Value t) = codes "  value " ++ (name ++ (codes ": " ++ (shown t ++ end_of_line)))
export_line name (export.Alias home alias) = codes "  type " ++ (name ++ (codes " is " ++ (home ++ (codes "#" ++ (alias ++ end_of_line)))))
export_line name export.Unknown = codes "  unknown " ++ (name ++ end_of_line)
export_line name export.Cyclic = codes "  cyclic " ++ (name ++ end_of_line)

-- an alias
abbrev pub alias_line : Bytes → FlowType → Bytes
alias_line name t = codes "  alias " ++ (name ++ (codes " = " ++ (shown t ++ end_of_line)))

-- so many of something at a path, for what was asked
abbrev pub count_line : ℕ → Bytes → Bytes → ℕ → Bytes → Bytes
count_line version asked path count what =
    decimal version ++ (codes " " ++ (asked ++ (codes " " ++ (path ++ (codes ": " ++ (decimal count ++ (codes " " ++ (what ++ end_of_line))))))))

-- so many modules
abbrev pub ls_line : ℕ → ℕ → Bytes
ls_line version count = decimal version ++ (codes " ls: " ++ (decimal count ++ codes " modules\n"))

-- the place of a type, which follows
abbrev pub type_head : ℕ → Bytes → ℕ → ℕ → Bytes
type_head version path line column =
    decimal version ++ (codes " type-at-pos " ++ (path ++ (codes ":" ++ (decimal line ++ (codes ":" ++ (decimal column ++ codes ": "))))))

-- the module that was found
abbrev pub found_name : Option Bytes → Bytes
found_name None = codes "none"
found_name (Some path) = path

abbrev pub found_line : ℕ → Bytes → Option Bytes → Bytes
found_line version path found = decimal version ++ (codes " find-module " ++ (path ++ (codes ": " ++ (found_name found ++ end_of_line))))

-- where nothing is answered
abbrev pub unknown_line : ℕ → Bytes → Bytes
unknown_line version path = decimal version ++ (codes " unknown path " ++ (path ++ end_of_line))

abbrev pub nothing_line : ℕ → Bytes → ℕ → ℕ → Bytes
nothing_line version path line column = decimal version ++ (codes " no expression " ++ (path ++ (codes ":" ++ (decimal line ++ (codes ":" ++ (decimal column ++ end_of_line))))))

abbrev pub path_lines : List Bytes → Bytes
path_lines paths = flat_map path_line paths

abbrev pub signature_lines : Sig → Bytes
signature_lines sig = flat_map (λ row. export_line row.0 row.1) sig.exports ++ flat_map (λ row. alias_line row.0 row.1) sig.aliases

-- the errors of a module
abbrev pub errors_text : ℕ → Bytes → Bytes → List Located → Bytes
errors_text version asked path errors = count_line version asked path (length errors) (codes "errors") ++ flat_map located_line errors

-- what a module says to others
abbrev pub signature_text : ℕ → Bytes → Sig → Bytes
signature_text version path sig = count_line version (codes "signature") path (length sig.exports) (codes "exports") ++ signature_lines sig

-- what is printed of an answer of a version to what was asked
abbrev pub answered : ℕ → Ask → Answer → Bytes
answered version Status (Faults errors) = status_line version (length errors) ++ flat_map located_line errors
answered version (Errors path) (Faults errors) = errors_text version (codes "errors") path errors
answered version (CheckContents path text) (Faults errors) = errors_text version (codes "check-contents") path errors
answered version (TypeAtPos path line column) (Shown t) = type_head version path line column ++ (shown t ++ end_of_line)
answered version (FindModule path spec) (Found found) = found_line version path found
answered version Ls (Paths paths) = ls_line version (length paths) ++ path_lines paths
answered version (Importers path) (Paths paths) = count_line version (codes "importers") path (length paths) (codes "modules") ++ path_lines paths
answered version (Signature path) (TheSig sig) = signature_text version path sig
answered version ask answer = []

-- what is printed where no module has the path that is asked for
abbrev pub unknown_text : ℕ → Option Bytes → Bytes
unknown_text version None = []
unknown_text version (Some path) = unknown_line version path

-- what is printed where nothing is answered
abbrev pub refused : ℕ → Ask → AskFault → Bytes
refused version ask UnknownPath = unknown_text version (asked_path ask)
refused version (TypeAtPos path line column) NoExpression = nothing_line version path line column
refused version ask fault = []

-- the lines that are printed
abbrev pub answer_lines : ℕ → Ask → Result Answer AskFault → Bytes
answer_lines version ask (Ok answer) = answered version ask answer
answer_lines version ask (Err fault) = refused version ask fault
