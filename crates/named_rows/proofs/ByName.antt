-- A map takes rows in order of their names.
use Rattle.std.proofs.Common.{◌≡◌, [], ◌∷◌, ◌++◌, refl, sym, ap, ◌∙◌}
use Rattle.std.specs.Ordering.{nat_cmp, match_ordering}
use Rattle.std.specs.Cmp.Lexicographic.{slice_cmp}
use Rattle.std.specs.declared.cmp.Ordering.{Ordering}
use Rattle.std.specs.declared.cmp.Ordering.TheVariants.{Less, Equal, Greater}
use Rattle.std.specs.BTreeMap.{insert_entry}
use Rattle.std.proofs.lemmas.Map.Lookups.{exact_bytes}
use Rattle.check_values.specs.Rows.{Bytes, Rows, put, by_name}
use Rattle.named_rows.specs.Seen.{seen}

module _ {X : Type 0} where
  abbrev cmp_rows : Bytes × X → Bytes × X → Ordering
  cmp_rows a b = slice_cmp nat_cmp a.0 b.0

  -- rows put before others that are in order
  abbrev pub put_all : Rows X → Rows X → Rows X
  put_all [] acc = acc
  put_all (row ∷ rows) acc = put cmp_rows row (put_all rows acc)

  put_all_last : (rows : Rows X) (row : Bytes × X) (acc : Rows X) → put_all (rows ++ row ∷ []) acc ≡ put_all rows (put cmp_rows row acc)
  put_all_last [] row acc = refl
  put_all_last (r ∷ rows) row acc = ap (put cmp_rows r) (put_all_last rows row acc)

  pub put_all_none : (rows : Rows X) → put_all rows [] ≡ by_name rows
  put_all_none [] = refl
  put_all_none (row ∷ rows) = ap (put cmp_rows row) (put_all_none rows)

  insert_is_put : (es : Rows X) (k : Bytes) (v : X) → insert_entry (slice_cmp nat_cmp) es k v ≡ put cmp_rows (k, v) es
  insert_is_put [] k v = refl
  insert_is_put (e ∷ es) k v = go (slice_cmp nat_cmp k e.0) refl (insert_is_put es k v)
    where
      go : (o : Ordering) → slice_cmp nat_cmp k e.0 ≡ o → insert_entry (slice_cmp nat_cmp) es k v ≡ put cmp_rows (k, v) es →
          match_ordering o ((k, v) ∷ e ∷ es) ((e.0, v) ∷ es) (e ∷ insert_entry (slice_cmp nat_cmp) es k v)
          ≡ (elim o as (λ _. Rows X) [ Less ↦ (k, v) ∷ e ∷ es | Equal ↦ (k, v) ∷ es | Greater ↦ e ∷ put cmp_rows (k, v) es ])
      go Less is rest = refl
      go Equal is rest = ap (λ (key : Bytes). (key, v) ∷ es) (sym (exact_bytes k e.0 is))
      go Greater is rest = ap (λ (l : Rows X). e ∷ l) rest

  -- the last row goes into the map
  pub turned : (rows more : Rows X) (row : Bytes × X) (es es' all : Rows X) → all ≡ put_all more es → more ≡ rows ++ row ∷ [] → es' ≡ insert_entry (slice_cmp nat_cmp) es row.0 row.1 → all ≡ put_all rows es'
  turned rows more row es es' all is last put =
      is ∙ ap (λ (l : Rows X). put_all l es) last ∙ put_all_last rows row es ∙ ap (put_all rows) (sym (insert_is_put es row.0 row.1) ∙ sym put)

-- what stands beside the names doesn't matter
module _ {A B : Type 0} (f : A → B) where
  seen_put : (row : Bytes × A) (rows : Rows A) → seen f (put (λ a b. slice_cmp nat_cmp a.0 b.0) row rows) ≡ put (λ a b. slice_cmp nat_cmp a.0 b.0) (row.0, f row.1) (seen f rows)
  seen_put row [] = refl
  seen_put row (r ∷ rows) = go (slice_cmp nat_cmp row.0 r.0) (seen_put row rows)
    where
      go : (o : Ordering) → seen f (put (λ a b. slice_cmp nat_cmp a.0 b.0) row rows) ≡ put (λ a b. slice_cmp nat_cmp a.0 b.0) (row.0, f row.1) (seen f rows) →
          seen f (elim o as (λ _. Rows A) [ Less ↦ row ∷ r ∷ rows | Equal ↦ row ∷ rows | Greater ↦ r ∷ put (λ a b. slice_cmp nat_cmp a.0 b.0) row rows ])
          ≡ (elim o as (λ _. Rows B) [ Less ↦ (row.0, f row.1) ∷ (r.0, f r.1) ∷ seen f rows | Equal ↦ (row.0, f row.1) ∷ seen f rows | Greater ↦ (r.0, f r.1) ∷ put (λ a b. slice_cmp nat_cmp a.0 b.0) (row.0, f row.1) (seen f rows) ])
      go Less rest = refl
      go Equal rest = refl
      go Greater rest = ap (λ (l : Rows B). (r.0, f r.1) ∷ l) rest

  pub seen_by_name : (rows : Rows A) → seen f (by_name rows) ≡ by_name (seen f rows)
  seen_by_name [] = refl
  seen_by_name (row ∷ rows) = seen_put row (by_name rows) ∙ ap (put (λ a b. slice_cmp nat_cmp a.0 b.0) (row.0, f row.1)) (seen_by_name rows)
