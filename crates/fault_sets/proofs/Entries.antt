-- A map takes faults in order.
use Rattle.std.proofs.Common.{◌≡◌, ℕ, ◌+◌, ◌<◌, List, [], ◌∷◌, ◌++◌, map, length, drop, get_or, refl, sym, ap, ◌∙◌}
use Rattle.std.specs.Ordering.{nat_cmp, ordering_then, match_ordering}
use Rattle.std.specs.Cmp.Lexicographic.{slice_cmp}
use Rattle.std.specs.declared.cmp.Ordering.{Ordering}
use Rattle.std.specs.declared.cmp.Ordering.TheVariants.{Less, Equal, Greater}
use Rattle.std.specs.BTreeMap.{insert_entry}
use Rattle.std.proofs.lemmas.List.{drop_more}
use Rattle.std.proofs.lemmas.Map.Lookups.{exact_unsigned, exact_bytes, exact_pairs}
use Rattle.check_values.specs.Codes.{code_name}
use Rattle.check_values.specs.Rows.{put}
use Rattle.check_values.specs.FaultOrder.{fault_cmp, faults_in_order}
use Rattle.check_values.specs.declared.codes.Code.{Code}
use Rattle.check_values.specs.declared.faults.Fault.{Fault}
use Rattle.fault_sets.specs.Keys.{Key, entry_fault, AreNamed, put_before}

abbrev pub key_cmp : Key → Key → Ordering
key_cmp a b = ordering_then (nat_cmp a.0 b.0) (ordering_then (nat_cmp a.1.0 b.1.0) (ordering_then (slice_cmp nat_cmp a.1.1.0 b.1.1.0) (slice_cmp nat_cmp a.1.1.1 b.1.1.1)))

same_key : (a b : Key) → key_cmp a b ≡ Equal → a ≡ b
same_key =
    exact_pairs nat_cmp (λ x y. ordering_then (nat_cmp x.0 y.0) (ordering_then (slice_cmp nat_cmp x.1.0 y.1.0) (slice_cmp nat_cmp x.1.1 y.1.1))) exact_unsigned
    (exact_pairs nat_cmp (λ x y. ordering_then (slice_cmp nat_cmp x.0 y.0) (slice_cmp nat_cmp x.1 y.1)) exact_unsigned
    (exact_pairs (slice_cmp nat_cmp) (slice_cmp nat_cmp) exact_bytes exact_bytes))

fault_order : (a b : Key × Code) → a.0.1.1.0 ≡ code_name a.1 → b.0.1.1.0 ≡ code_name b.1 → fault_cmp (entry_fault a) (entry_fault b) ≡ key_cmp a.0 b.0
fault_order a b first second = λ i. ordering_then (nat_cmp a.0.0 b.0.0) (ordering_then (nat_cmp a.0.1.0 b.0.1.0) (ordering_then (slice_cmp nat_cmp (sym first i) (sym second i)) (slice_cmp nat_cmp a.0.1.1.1 b.0.1.1.1)))

pub entry_put : (es : List (Key × Code)) (k : Key) (v : Code) → AreNamed es → k.1.1.0 ≡ code_name v → map entry_fault (insert_entry key_cmp es k v) ≡ put fault_cmp (entry_fault (k, v)) (map entry_fault es)
entry_put [] k v named is = refl
entry_put (e ∷ es) k v named is = go (key_cmp k e.0) refl (entry_put es k v named.1 is) ∙ ap chosen (sym (fault_order (k, v) e is named.0))
  where
    chosen : Ordering → List Fault
    chosen o = elim o as (λ _. List Fault) [ Less ↦ entry_fault (k, v) ∷ entry_fault e ∷ map entry_fault es | Equal ↦ entry_fault (k, v) ∷ map entry_fault es | Greater ↦ entry_fault e ∷ put fault_cmp (entry_fault (k, v)) (map entry_fault es) ]

    go : (o : Ordering) → key_cmp k e.0 ≡ o → map entry_fault (insert_entry key_cmp es k v) ≡ put fault_cmp (entry_fault (k, v)) (map entry_fault es) →
        map entry_fault (match_ordering o ((k, v) ∷ e ∷ es) ((e.0, v) ∷ es) (e ∷ insert_entry key_cmp es k v)) ≡ chosen o
    go Less same rest = refl
    go Equal same rest = ap (λ (z : Key). entry_fault (z, v) ∷ map entry_fault es) (sym (same_key k e.0 same))
    go Greater same rest = ap (λ (l : List Fault). entry_fault e ∷ l) rest

pub named_put : (es : List (Key × Code)) (k : Key) (v : Code) → AreNamed es → k.1.1.0 ≡ code_name v → AreNamed (insert_entry key_cmp es k v)
named_put [] k v named is = (is, tt)
named_put (e ∷ es) k v named is = go (key_cmp k e.0) refl (named_put es k v named.1 is)
  where
    go : (o : Ordering) → key_cmp k e.0 ≡ o → AreNamed (insert_entry key_cmp es k v) → AreNamed (match_ordering o ((k, v) ∷ e ∷ es) ((e.0, v) ∷ es) (e ∷ insert_entry key_cmp es k v))
    go Less same rest = (is, named)
    go Equal same rest = (ap (λ (z : Key). z.1.1.0) (sym (same_key k e.0 same)) ∙ is, named.1)
    go Greater same rest = (named.0, rest)

-- one fault more, before those that are in order
pub put_next : (faults : List Fault) (i n : ℕ) (fault : Fault) (es es' : List (Key × Code)) (k : Key) (v : Code) (before : List Fault) → n ≡ i + 1 → i < length faults → fault ≡ get_or faults i fault →
    AreNamed es → k.1.1.0 ≡ code_name v → entry_fault (k, v) ≡ fault → es' ≡ insert_entry key_cmp es k v →
    map entry_fault es ≡ put_before (drop n faults) before → map entry_fault es' ≡ put_before (drop i faults) before
put_next faults i n fault es es' k v before step within at named is same inserted so_far =
    ap (map entry_fault) inserted ∙ entry_put es k v named is ∙ (λ j. put_fault (same j) (so_far j))
    ∙ ap (λ (l : List Fault). put_before l before) (sym (drop_more faults i fault within ∙ ap (λ (f : Fault). f ∷ drop (i + 1) faults) (sym at) ∙ ap (λ (m : ℕ). fault ∷ drop m faults) (sym step)))
  where
    put_fault : Fault → List Fault → List Fault
    put_fault f l = put fault_cmp f l

put_append : (some more : List Fault) → faults_in_order (some ++ more) ≡ put_before some (faults_in_order more)
put_append [] more = refl
put_append (x ∷ some) more = ap (put fault_cmp x) (put_append some more)

put_none : (faults : List Fault) → put_before faults [] ≡ faults_in_order faults
put_none [] = refl
put_none (x ∷ faults) = ap (put fault_cmp x) (put_none faults)

-- some faults before more that stand in a map
pub both_in_order : (first more : List Fault) (a b all : List Fault) → a ≡ put_before more [] → b ≡ put_before first a → all ≡ b → all ≡ faults_in_order (first ++ more)
both_in_order first more a b all is then listed = listed ∙ then ∙ ap (put_before first) (is ∙ put_none more) ∙ sym (put_append first more)
