-- The place of the first property of each key.
use Rattle.std.proofs.Common.{◌≡◌, ℕ, suc, ◌+◌, ◌<◌, ◌≤◌, Bool, true, false, List, [], ◌∷◌, length, drop, get_or, slice_get, Option, Some, None, cond, refl, sym, ap, ◌∙◌, arith}
use Rattle.std.specs.Str.{bytes_eq}
use Rattle.std.specs.BTreeMap.{BTreeMap, get, is_at}
use Rattle.std.specs.Map.{lookup}
use Rattle.std.proofs.lemmas.List.{drop_all, drop_more}
use Rattle.std.specs.Cmp.Lexicographic.{slice_cmp}
use Rattle.std.specs.Ordering.{nat_cmp, is_eq}
use Rattle.std.proofs.lemmas.Map.Text.{is_eq-slice_cmp}
use Rattle.check_values.specs.Rows.{Bytes}
use Rattle.type_values.specs.declared.types.FlowProp.{FlowProp, out-FlowProp}
use Rattle.flow_facts.specs.Properties.{prop_of}
use Rattle.literal_reads.specs.Keys.{at_key, place_from, HasProps}

-- one property more, before those that were put in
pub place_next : (places places' : BTreeMap Bytes ℕ) (props : List FlowProp) (i n : ℕ) (p : FlowProp) (key : Bytes) → n ≡ i + 1 → i < length props → p ≡ get_or props i p → key ≡ (out-FlowProp p).key →
    ((q : Bytes) → get (slice_cmp nat_cmp) places' q ≡ cond (is_eq (slice_cmp nat_cmp key q)) (Some i) (get (slice_cmp nat_cmp) places q)) →
    HasProps places n (drop n props) → HasProps places' i (drop i props)
place_next places places' props i n p key step within at same put told = record {
  at = λ q.
      put q ∙ ap (λ (b : Bool). cond b (Some i) (at_key places q)) (is_eq-slice_cmp key q ∙ ap (λ (k : Bytes). bytes_eq k q) same)
      ∙ ap (λ (o : Option ℕ). cond (bytes_eq (out-FlowProp p).key q) (Some i) o) (told.at q ∙ ap (λ (m : ℕ). place_from m q (drop m props)) step)
      ∙ ap (place_from i q) (sym (drop_more props i p within ∙ ap (λ (r : FlowProp). r ∷ drop (i + 1) props) (sym at)));
}

-- the property at the place is the first one
found : (k i : ℕ) (key : Bytes) (props : List FlowProp) → place_from k key props ≡ Some i → (j : ℕ) × (i ≡ k + j) × (slice_get props j ≡ prop_of key props)
found k i key [] e = absurd (cc)
found k i key (p ∷ props) e = go (bytes_eq (out-FlowProp p).key key) (found (k + 1) i key props) e
  where
    go : (b : Bool) → (place_from (k + 1) key props ≡ Some i → (j : ℕ) × (i ≡ k + 1 + j) × (slice_get props j ≡ prop_of key props)) →
        cond b (Some k) (place_from (k + 1) key props) ≡ Some i → (j : ℕ) × (i ≡ k + j) × (slice_get (p ∷ props) j ≡ cond b (Some p) (prop_of key props))
    go true behind h = (0, (let same : k ≡ i = cc in omega arith), refl)
    go false behind h = let rest = behind h in (suc rest.0, omega (arith, rest.1), rest.2)

pub prop_at_place : (places : BTreeMap Bytes ℕ) (props : List FlowProp) (key : Bytes) (i : ℕ) → HasProps places 0 props → at_key places key ≡ Some i → slice_get props i ≡ prop_of key props
prop_at_place places props key i told e =
    let rest = found 0 i key props (sym (told.at key) ∙ e) in
    let same : i ≡ rest.0 = omega (arith, rest.1) in
    ap (slice_get props) same ∙ rest.2

nothing : (k : ℕ) (key : Bytes) (props : List FlowProp) → place_from k key props ≡ None → None ≡ prop_of key props
nothing k key [] e = refl
nothing k key (p ∷ props) e = go (bytes_eq (out-FlowProp p).key key) (nothing (k + 1) key props) e
  where
    go : (b : Bool) → (place_from (k + 1) key props ≡ None → None ≡ prop_of key props) → cond b (Some k) (place_from (k + 1) key props) ≡ None → None ≡ cond b (Some p) (prop_of key props)
    go true behind h = absurd (cc)
    go false behind h = behind h

pub no_prop_at : (places : BTreeMap Bytes ℕ) (props : List FlowProp) (key : Bytes) → HasProps places 0 props → at_key places key ≡ None → None ≡ prop_of key props
no_prop_at places props key told e = nothing 0 key props (sym (told.at key) ∙ e)

-- before any is put in
pub no_places : (places : BTreeMap Bytes ℕ) (props : List FlowProp) (n : ℕ) → places.entries ≡ [] → length props ≤ n → HasProps places n (drop n props)
no_places places props n none_yet long = record {
  at = λ q.
      ap (λ (l : List (Bytes × ℕ)). lookup (is_at (slice_cmp nat_cmp q)) l) none_yet ∙ ap (place_from n q) (sym (drop_all n props long));
}
