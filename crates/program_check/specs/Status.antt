-- What is printed of a full check.
use Rattle.std.specs.Prelude.{ℕ, ◌+◌, List, [], ◌∷◌, ◌++◌, length, codes}
use Rattle.std.specs.List.{flat_map}
use Rattle.std.specs.Fmt.{decimal}
use Rattle.flow_base.specs.Program.{Bytes, Program}
use Rattle.check_values.specs.Codes.{code_name}
use Rattle.check_values.specs.Rows.{Rows}
use Rattle.check_values.specs.declared.faults.Fault.{Fault}
use Rattle.source_place.specs.Place.{line_at, column_at}
use Rattle.program_check.specs.Full.{Results}

-- the number of errors of all modules
abbrev pub error_count : List Results → ℕ
error_count [] = 0
error_count (r ∷ results) = length r.errors + error_count results

-- LF
abbrev pub end_of_line : Bytes
end_of_line = 10 ∷ []

-- what stands behind a code: nothing, or a space and the details
abbrev pub details_part : Bytes → Bytes
details_part [] = []
details_part (b ∷ details) = codes " " ++ (b ∷ details)

-- where an error stands
abbrev pub error_place : Bytes → ℕ → ℕ → Bytes
error_place path line column = codes "  " ++ (path ++ (codes ":" ++ (decimal line ++ (codes ":" ++ (decimal column ++ codes " ")))))

-- an error of the module at a path, which has this text
abbrev pub error_line : Bytes → Bytes → Fault → Bytes
error_line path text fault =
    error_place path (line_at text fault.span.start) (column_at text fault.span.start) ++ (code_name fault.code ++ (details_part fault.details ++ end_of_line))

-- the errors of all modules, in order of their paths
abbrev pub error_lines : Program → List Results → Bytes
error_lines (m ∷ program) (r ∷ results) = flat_map (error_line m.0 m.1) r.errors ++ error_lines program results
error_lines program results = []

-- the first line of an answer to a question for the status: the version and the number of errors
abbrev pub status_line : ℕ → ℕ → Bytes
status_line version errors = decimal version ++ (codes " status: " ++ (decimal errors ++ codes " errors\n"))

-- the answer to a question for the status of a version, by the full check of its program
abbrev pub status_answer : ℕ → Program → List Results → Bytes
status_answer version program results = status_line version (error_count results) ++ error_lines program results
