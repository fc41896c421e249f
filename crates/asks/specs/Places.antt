-- Errors with the places where they stand.
use Rattle.std.specs.Prelude.{List, map}
use Rattle.flow_values.specs.Path.{Bytes}
use Rattle.check_values.specs.declared.faults.Fault.{Fault}
use Rattle.source_place.specs.Place.{line_at, column_at}
use Rattle.asks.specs.declared.answer.Located.{Located}

-- an error of the module at a path, which has this text, with its place
abbrev pub located : Bytes → Bytes → Fault → Located
located path text fault =
    record { path = path; line = line_at text fault.span.start; column = column_at text fault.span.start; code = fault.code; details = fault.details }

-- the errors of a module
abbrev pub errors_at : Bytes → Bytes → List Fault → List Located
errors_at path text faults = map (located path text) faults
