-- Faults in order by their keys.
use Rattle.std.proofs.Common.{◌≡◌, ℕ, suc, ◌+◌, ◌<◌, List, [], ◌∷◌, ◌++◌, map, length, drop, get_or, drop-cons, add-one, Option, None, refl, sym, ap, ◌∙◌}
use Rattle.std.specs.List.{flat_map}
use Rattle.std.specs.Ordering.{nat_cmp, ordering_then, match_ordering}
use Rattle.std.specs.Cmp.Lexicographic.{slice_cmp}
use Rattle.std.specs.declared.cmp.Ordering.{Ordering}
use Rattle.std.specs.declared.cmp.Ordering.TheVariants.{Less, Equal, Greater}
use Rattle.std.specs.BTreeSet.{insert_key}
use Rattle.std.proofs.lemmas.Map.Lookups.{exact_unsigned, exact_bytes, exact_pairs}
use Rattle.check_values.specs.Rows.{Bytes, Rows, put}
use Rattle.check_values.specs.FaultOrder.{fault_cmp, faults_in_order}
use Rattle.check_values.specs.declared.faults.Fault.{Fault}
use Rattle.flow_values.specs.declared.span.Span.{Span}
use Rattle.local_signatures.specs.Faults.{fault_of}
use Rattle.local_signatures.specs.Exports.{Told}
use Rattle.named_rows.specs.Seen.{seen}
use Rattle.check_values.specs.declared.codes.Code.TheVariants.{SignatureVerificationFailure}
use Rattle.type_values.specs.declared.types.FlowType.{FlowType}
use Rattle.told_signature.specs.declared.telling.Place.{Place}
use Rattle.told_signature.specs.declared.telling.Place.TheVariants as place
use Rattle.told_signature.specs.declared.telling.Told.TheVariants as told
use Rattle.told_signature.specs.Seen.{told_view, place_span, key_fault, put_before}

abbrev Key : Type 0
Key = ℕ × (ℕ × Bytes)

abbrev pub key_cmp : Key → Key → Ordering
key_cmp a b = ordering_then (nat_cmp a.0 b.0) (ordering_then (nat_cmp a.1.0 b.1.0) (slice_cmp nat_cmp a.1.1 b.1.1))

same_key : (a b : Key) → key_cmp a b ≡ Equal → a ≡ b
same_key = exact_pairs nat_cmp (λ x y. ordering_then (nat_cmp x.0 y.0) (slice_cmp nat_cmp x.1 y.1)) exact_unsigned (exact_pairs nat_cmp (slice_cmp nat_cmp) exact_unsigned exact_bytes)

fault_order : (a b : Key) → fault_cmp (key_fault a) (key_fault b) ≡ key_cmp a b
fault_order a b = refl

key_put : (keys : List Key) (k : Key) → map key_fault (insert_key key_cmp keys k) ≡ put fault_cmp (key_fault k) (map key_fault keys)
key_put [] k = refl
key_put (x ∷ keys) k = go (key_cmp k x) refl (key_put keys k)
  where
    go : (o : Ordering) → key_cmp k x ≡ o → map key_fault (insert_key key_cmp keys k) ≡ put fault_cmp (key_fault k) (map key_fault keys) →
        map key_fault (match_ordering o (k ∷ x ∷ keys) (x ∷ keys) (x ∷ insert_key key_cmp keys k))
        ≡ (elim o as (λ _. List Fault) [ Less ↦ key_fault k ∷ key_fault x ∷ map key_fault keys | Equal ↦ key_fault k ∷ map key_fault keys | Greater ↦ key_fault x ∷ put fault_cmp (key_fault k) (map key_fault keys) ])
    go Less is rest = refl
    go Equal is rest = ap (λ (z : Key). key_fault z ∷ map key_fault keys) (sym (same_key k x is))
    go Greater is rest = ap (λ (l : List Fault). key_fault x ∷ l) rest

put_append : (some more : List Fault) → faults_in_order (some ++ more) ≡ put_before some (faults_in_order more)
put_append [] more = refl
put_append (x ∷ some) more = ap (put fault_cmp x) (put_append some more)

-- one row more, before those that are in order
pub faults_next : {A : Type 0} (view : A → Told) (spans : List Span) (told : Rows A) (i n : ℕ) (row : Bytes × A) → n ≡ i + 1 → i < length told → row ≡ get_or told i row → (keys faults : List Fault) → keys ≡ faults_in_order (flat_map (fault_of spans) (seen view (drop n told))) →
    faults ≡ put_before (fault_of spans (row.0, view row.1)) keys → faults ≡ faults_in_order (flat_map (fault_of spans) (seen view (drop i told)))
faults_next {A} view spans told i n row step within at keys faults is put =
    put ∙ ap (put_before (fault_of spans (row.0, view row.1))) is
    ∙ sym (put_append (fault_of spans (row.0, view row.1)) (flat_map (fault_of spans) (seen view (drop n told))))
    ∙ ap (λ (l : Rows A). faults_in_order (flat_map (fault_of spans) (seen view l))) (sym (drop-cons told i row within ∙ ap (λ (r : Bytes × A). r ∷ drop (suc i) told) (sym at) ∙ ap (λ (k : ℕ). row ∷ drop k told) (sym (add-one i) ∙ sym step)))

-- the fault of a value that tells no type
pub fault_added : (spans : List Span) (name word : Bytes) (ty : Option FlowType) (where_at : Place) (span : Span) (keys keys' : List Key) → ty ≡ None → span ≡ place_span spans where_at → word ≡ name →
    keys' ≡ insert_key key_cmp keys (span.start, (span.end, word)) → map key_fault keys' ≡ put_before (fault_of spans (name, told_view (told.Value ty where_at))) (map key_fault keys)
fault_added spans name word ty where_at span keys keys' none at same put =
    ap (map key_fault) put ∙ key_put keys (span.start, (span.end, word))
    ∙ ap (λ (l : List Fault). put_before l (map key_fault keys))
    (ap (λ (s : Span). record { span = s; code = SignatureVerificationFailure; details = word } ∷ []) at ∙ ap (λ (w : Bytes). record { span = place_span spans where_at; code = SignatureVerificationFailure; details = w } ∷ []) same
    ∙ here where_at ∙ sym (ap (λ (o : Option FlowType). fault_of spans (name, told_view (told.Value o where_at))) none))
  where
    here : (p : Place) → record { span = place_span spans p; code = SignatureVerificationFailure; details = name } ∷ [] ≡ fault_of spans (name, told_view (told.Value None p))
    here (place.Name first) = refl
    here (place.Whole from to) = refl
