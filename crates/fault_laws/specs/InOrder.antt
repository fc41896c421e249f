-- What it is to list a set of faults in order.
use Rattle.std.specs.Prelude.{◌≡◌, ◌↔◌, List}
use Rattle.std.specs.List.{Contains}
use Rattle.std.specs.List.Sorted.{IsStrictlySortedBy}
use Rattle.check_values.specs.FaultOrder.{fault_cmp, faults_in_order}
use Rattle.check_values.specs.declared.faults.Fault.{Fault}

-- both lists have the same faults
abbrev pub HaveSame : List Fault → List Fault → Type 0
HaveSame a b = (fault : Fault) → Contains a fault ↔ Contains b fault

-- Each fault of the list comes before those behind it, so that none stands there twice; it has exactly the faults that were given; and
-- it is the one list of which this is so.
pub record ListsInOrder : Type 0 where
  pub rises : (faults : List Fault) → IsStrictlySortedBy fault_cmp (faults_in_order faults)
  pub same : (faults : List Fault) → HaveSame (faults_in_order faults) faults
  pub only : (faults all : List Fault) → IsStrictlySortedBy fault_cmp all → HaveSame all faults → all ≡ faults_in_order faults
