-- The order of faults.
use Rattle.std.specs.Prelude.{List}
use Rattle.std.specs.Ordering.{nat_cmp, ordering_then}
use Rattle.std.specs.Cmp.Lexicographic.{slice_cmp}
use Rattle.std.specs.declared.cmp.Ordering.{Ordering}
use Rattle.check_values.specs.declared.faults.Fault.{Fault}
use Rattle.check_values.specs.Codes.{code_name}
use Rattle.check_values.specs.Rows.{ordered}

-- by where they begin, by where they end, by the names of their codes, by their details
abbrev pub fault_cmp : Fault → Fault → Ordering
fault_cmp a b =
    ordering_then (nat_cmp a.span.start b.span.start)
    (ordering_then (nat_cmp a.span.end b.span.end)
    (ordering_then (slice_cmp nat_cmp (code_name a.code) (code_name b.code)) (slice_cmp nat_cmp a.details b.details)))

-- the set of faults, in order
abbrev pub faults_in_order : List Fault → List Fault
faults_in_order faults = ordered fault_cmp faults
