-- What tells faults apart, as the keys of a set.
use Rattle.std.specs.Prelude.{◌≡◌, ℕ, List}
use Rattle.std.specs.Borrow.{Bor}
use Rattle.std.specs.BTreeSet.{BTreeSet, contains}
use Rattle.std.specs.Cmp.Lexicographic.{slice_cmp}
use Rattle.std.specs.List.{list_any}
use Rattle.std.specs.Ordering.{is_eq, nat_cmp, ordering_then}
use Rattle.std.specs.declared.cmp.Ordering.{Ordering}
use Rattle.check_values.specs.Codes.{code_name}
use Rattle.check_values.specs.declared.faults.Fault.{Fault}

-- where a fault begins and ends, the name of its code, and its details
abbrev pub Plain : Type 0
Plain = ℕ × (ℕ × (List ℕ × List ℕ))

-- the same, with a name that stands elsewhere
abbrev pub Key : Type 0
Key = ℕ × (ℕ × (Bor (List ℕ) × List ℕ))

abbrev pub plain : Key → Plain
plain k = (k.0, (k.1.0, (k.1.1.0.now, k.1.1.1)))

abbrev pub fault_key : Fault → Plain
fault_key f = (f.span.start, (f.span.end, (code_name f.code, f.details)))

-- the order of faults
abbrev pub plain_cmp : Plain → Plain → Ordering
plain_cmp a b =
    ordering_then (nat_cmp a.0 b.0)
    (ordering_then (nat_cmp a.1.0 b.1.0)
    (ordering_then (slice_cmp nat_cmp a.1.1.0 b.1.1.0) (slice_cmp nat_cmp a.1.1.1 b.1.1.1)))

abbrev pub key_cmp : Key → Key → Ordering
key_cmp a b = plain_cmp (plain a) (plain b)

-- the set has the keys of these faults
pub record AreKeys (keys : BTreeSet Key) (faults : List Fault) : Type 0 where
  pub told : (k : Key) → contains key_cmp keys k ≡ list_any (λ f. is_eq (plain_cmp (plain k) (fault_key f))) faults
