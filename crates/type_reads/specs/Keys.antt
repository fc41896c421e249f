-- The keys of an object type so far, as a set.
use Rattle.std.specs.Prelude.{◌≡◌, List}
use Rattle.std.specs.BTreeSet.{BTreeSet, contains}
use Rattle.std.specs.Cmp.Lexicographic.{slice_cmp}
use Rattle.std.specs.Ordering.{nat_cmp}
use Rattle.check_values.specs.Rows.{Bytes, is_among}

-- the set has these keys
pub record HasAll (set : BTreeSet Bytes) (keys : List Bytes) : Type 0 where
  pub has : (q : Bytes) → contains (slice_cmp nat_cmp) set q ≡ is_among keys q
