-- Faults by what tells them apart.
use Rattle.std.specs.Prelude.{ℕ, ◌≡◌, List, [], ◌∷◌}
use Rattle.check_values.specs.Codes.{code_name}
use Rattle.check_values.specs.FaultOrder.{fault_cmp}
use Rattle.check_values.specs.Rows.{Bytes, put}
use Rattle.check_values.specs.declared.codes.Code.{Code}
use Rattle.check_values.specs.declared.faults.Fault.{Fault}

-- where a fault begins, where it ends, the name of its code, and its details
abbrev pub Key : Type 0
Key = ℕ × (ℕ × (Bytes × Bytes))

-- a fault by its key and its code
abbrev pub entry_fault : Key × Code → Fault
entry_fault e = record { span = record { start = e.0.0; end = e.0.1.0 }; code = e.1; details = e.0.1.1.1 }

-- each key has the name of its code
abbrev pub AreNamed : List (Key × Code) → Type 0
AreNamed [] = Unit {0}
AreNamed (e ∷ es) = (e.0.1.1.0 ≡ code_name e.1) × AreNamed es

-- faults put before others that are in order, the last one first
abbrev pub put_before : List Fault → List Fault → List Fault
put_before [] faults = faults
put_before (fault ∷ more) faults = put fault_cmp fault (put_before more faults)
