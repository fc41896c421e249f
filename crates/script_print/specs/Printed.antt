-- The printed lines, each with its LF, but for those of answers.
use Rattle.std.specs.Prelude.{ℕ, ◌++◌, codes}
use Rattle.std.specs.Fmt.{decimal}
use Rattle.flow_base.specs.Program.{Bytes}
use Rattle.program_check.specs.Status.{end_of_line}

-- a recheck that is done
abbrev pub done_line : ℕ → ℕ → ℕ → ℕ → Bytes
done_line version parsed checked errors =
    codes "recheck " ++ (decimal version ++ (codes ": " ++ (decimal parsed ++ (codes " parsed, " ++ (decimal checked ++ (codes " checked, " ++ (decimal errors ++ codes " errors\n")))))))

-- a recheck that was cancelled at a poll
abbrev pub cancelled_line : ℕ → ℕ → Bytes
cancelled_line poll version = codes "recheck cancelled at poll " ++ (decimal poll ++ (codes ", still " ++ (decimal version ++ end_of_line)))

-- a recheck that could not read a path
abbrev pub fault_line : Bytes → ℕ → Bytes
fault_line path version = codes "recheck cannot read " ++ (path ++ (codes ", still " ++ (decimal version ++ end_of_line)))

-- an edit that would give more modules than there may be
abbrev pub refused_line : ℕ → Bytes
refused_line count = codes "too many modules " ++ (decimal count ++ end_of_line)

-- a line that is no command, by its number
abbrev pub bad_line : ℕ → Bytes
bad_line number = codes "bad line " ++ (decimal number ++ end_of_line)

-- a folder of too many files, a line that is too long, a script of too many lines
abbrev pub files_line : ℕ → Bytes
files_line count = codes "limit files " ++ (decimal count ++ end_of_line)

abbrev pub long_line : Bytes
long_line = codes "limit line 4194305\n"

abbrev pub many_lines : Bytes
many_lines = codes "limit lines 1048577\n"

-- a recheck with too many questions beside it
abbrev pub many_asks_line : ℕ → Bytes
many_asks_line count = codes "limit asks " ++ (decimal count ++ end_of_line)
