-- The faults of a set are in order.
use Rattle.std.proofs.Common.{◌≡◌, ℕ, List, ap}
use Rattle.std.specs.Ordering.{nat_cmp, ordering_then}
use Rattle.std.specs.Cmp.{IsTotalOrder, then_total}
use Rattle.std.specs.Cmp.Lexicographic.{slice_cmp}
use Rattle.std.specs.declared.cmp.Ordering.TheVariants.{Equal}
use Rattle.std.proofs.lemmas.Cmp.{nat_cmp_total, nat_list_cmp_total, on_total}
use Rattle.std.proofs.lemmas.Map.Lookups.{exact_unsigned, exact_bytes, exact_pairs}
use Rattle.check_values.specs.Codes.{code_name}
use Rattle.check_values.specs.FaultOrder.{fault_cmp}
use Rattle.check_values.specs.declared.faults.Fault.{Fault}
use Rattle.fault_laws.specs.InOrder.{ListsInOrder}
use Rattle.fault_laws.proofs.CodeNames.{same_code}
use Rattle.fault_laws.proofs.Rising.{ordered_rises, ordered_has, ordered_only, ordered_one}

fault_total : IsTotalOrder fault_cmp
fault_total =
    then_total (on_total (λ (f : Fault). f.span.start) nat_cmp_total)
    (then_total (on_total (λ (f : Fault). f.span.end) nat_cmp_total)
    (then_total (on_total (λ (f : Fault). code_name f.code) nat_list_cmp_total) (on_total (λ (f : Fault). f.details) nat_list_cmp_total)))

-- what tells a fault from the others
abbrev Key : Type 0
Key = ℕ × (ℕ × (List ℕ × List ℕ))

abbrev key_of : Fault → Key
key_of f = (f.span.start, (f.span.end, (code_name f.code, f.details)))

same_key : (a b : Fault) → fault_cmp a b ≡ Equal → key_of a ≡ key_of b
same_key a b =
    exact_pairs nat_cmp (λ x y. ordering_then (nat_cmp x.0 y.0) (ordering_then (slice_cmp nat_cmp x.1.0 y.1.0) (slice_cmp nat_cmp x.1.1 y.1.1))) exact_unsigned
    (exact_pairs nat_cmp (λ x y. ordering_then (slice_cmp nat_cmp x.0 y.0) (slice_cmp nat_cmp x.1 y.1)) exact_unsigned (exact_pairs (slice_cmp nat_cmp) (slice_cmp nat_cmp) exact_bytes exact_bytes)) (key_of a) (key_of b)

same_fault : (a b : Fault) → fault_cmp a b ≡ Equal → a ≡ b
same_fault a b alike =
    let same : key_of a ≡ key_of b = same_key a b alike in
    let code : a.code ≡ b.code = same_code a.code b.code (ap (λ (k : Key). k.1.1.0) same) in
    λ i. record { span = record { start = (same i).0; end = (same i).1.0 }; code = code i; details = (same i).1.1.1 }

pub lists_in_order : ListsInOrder
lists_in_order = record {
  rises = ordered_rises fault_cmp fault_total same_fault;
  same = λ faults fault. (ordered_only fault_cmp fault_total same_fault faults fault, ordered_has fault_cmp fault_total same_fault faults fault);
  only = ordered_one fault_cmp fault_total same_fault;
}
