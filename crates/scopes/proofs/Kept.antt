-- The maps into a stack, as names are bound, taken away and changed.
use Rattle.std.proofs.Common.{◌≡◌, ℕ, ◌==◌, ◌<◌, ◌≤◌, leb, Bool, true, false, List, [], ◌∷◌, ◌++◌, length, Option, Some, None, IsSome, cond, bytes_eq, refl, sym, ap, ◌∙◌, subst}
use Rattle.std.specs.Ordering.{nat_cmp, is_eq}
use Rattle.std.specs.declared.cmp.Ordering.{Ordering}
use Rattle.std.specs.declared.cmp.Ordering.TheVariants.{Less, Equal, Greater}
use Rattle.std.specs.Cmp.Lexicographic.{slice_cmp, bytes_decides}
use Rattle.std.specs.BTreeMap.{BTreeMap, get, is_at}
use Rattle.std.specs.Map.{lookup}
use Rattle.std.proofs.lemmas.Bool.{eq-eqb, eqb-true, leb-true, leb-false}
use Rattle.std.proofs.lemmas.Cmp.{nat_cmp_total}
use Rattle.std.proofs.lemmas.Map.Text.{is_eq-slice_cmp}
use Rattle.std.proofs.lemmas.Map.Lookups.{exact_unsigned}
use Rattle.check_values.specs.Rows.{Bytes}
use Rattle.type_values.specs.declared.types.FlowType.{FlowType}
use Rattle.scopes.specs.Stack.{last_at, AreLinked, at_place}
use Rattle.scopes.specs.Rows.{has_name, has_number, is_named_like, is_numbered_like, declared_row}
use Rattle.scopes.specs.declared.row.Row.{Row}
use Rattle.scopes.specs.declared.row.Earlier.{Earlier}
use Rattle.scopes.proofs.Stacks.{last_at_more, last_at_changed, linked_changed}

-- ---- keys

apart_numbers : (a b : ℕ) (o : Ordering) → nat_cmp a b ≡ o → (o ≡ Equal → ⊥) → a ≡ b → ⊥
apart_numbers a b o is other same = let e : nat_cmp a a ≡ o = ap (nat_cmp a) same ∙ is in other (sym e ∙ equal_to_itself)
  where
    equal_to_itself : nat_cmp a a ≡ Equal
    equal_to_itself = go (nat_cmp a a) refl
      where
        go : (o : Ordering) → nat_cmp a a ≡ o → o ≡ Equal
        go Equal e = refl
        go Less e = absurd (cc (e, nat_cmp_total.antisymm a a))
        go Greater e = absurd (cc (e, nat_cmp_total.antisymm a a))

pub number_test : (a b : ℕ) → is_eq (nat_cmp a b) ≡ (a == b)
number_test a b = go (nat_cmp a b) refl (a == b) refl
  where
    go : (o : Ordering) → nat_cmp a b ≡ o → (t : Bool) → (a == b) ≡ t → is_eq o ≡ t
    go Equal is true test = refl
    go Equal is false test = absurd (let e : (a == b) ≡ true = eq-eqb a b (exact_unsigned a b is) in cc)
    go Less is false test = refl
    go Less is true test = absurd (apart_numbers a b Less is (λ e. cc) (eqb-true a b test))
    go Greater is false test = refl
    go Greater is true test = absurd (apart_numbers a b Greater is (λ e. cc) (eqb-true a b test))

same_bytes : (a : Bytes) → bytes_eq a a ≡ true
same_bytes a = go (bytes_decides a a).1
  where
    go : ((a ≡ a) → bytes_eq a a ≡ true) → bytes_eq a a ≡ true
    go h = h refl

-- ---- maps, by a test of two keys that tells whether they are equal

module _ {K : Type 0} (same : K → K → Bool) (told : (a b : K) → same a b ≡ true → a ≡ b) (key_of : Row → K) where
  abbrev with_key : K → Row → Bool
  with_key key row = same (key_of row) key

  -- a name is bound, whose key gets its place
  bound_key : (m n : K → Option ℕ) (rows : List Row) (row : Row) (key : K) (at : ℕ) → ((k : K) → m k ≡ last_at (with_key k) rows) → ((k : K) → n k ≡ cond (same key k) (Some at) (m k)) → at ≡ length rows → key ≡ key_of row →
      (k : K) → n k ≡ last_at (with_key k) (rows ++ row ∷ [])
  bound_key m n rows row key at before puts place is k =
      puts k ∙ ap (λ (o : Option ℕ). cond (same key k) (Some at) o) (before k) ∙ ap (λ (i : ℕ). cond (same key k) (Some i) (last_at (with_key k) rows)) place
      ∙ ap (λ (key : K). cond (same key k) (Some (length rows)) (last_at (with_key k) rows)) is ∙ sym (last_at_more (with_key k) rows row)

  -- a name is taken away, whose key gets the place of the next outer one
  popped_key : (m n : K → Option ℕ) (rows : List Row) (row : Row) (outer : Option ℕ) → ((k : K) → m k ≡ last_at (with_key k) (rows ++ row ∷ [])) → ((k : K) → n k ≡ cond (same (key_of row) k) outer (m k)) → outer ≡ last_at (with_key (key_of row)) rows →
      (k : K) → n k ≡ last_at (with_key k) rows
  popped_key m n rows row outer before puts linked k = puts k ∙ ap (λ (o : Option ℕ). cond (same (key_of row) k) outer o) (before k ∙ last_at_more (with_key k) rows row) ∙ go (same (key_of row) k) refl
    where
      go : (b : Bool) → same (key_of row) k ≡ b → cond b outer (cond b (Some (length rows)) (last_at (with_key k) rows)) ≡ last_at (with_key k) rows
      go true e = linked ∙ ap (λ (key : K). last_at (with_key key) rows) (told (key_of row) k e)
      go false e = refl

  -- a key gets back what it had
  put_back_key : (m n after : K → Option ℕ) (key : K) (at : ℕ) (outer : Option ℕ) → ((k : K) → n k ≡ cond (same key k) (Some at) (m k)) → outer ≡ m key → ((k : K) → after k ≡ cond (same key k) outer (n k)) → (k : K) → after k ≡ m k
  put_back_key m n after key at outer puts was back k = back k ∙ ap (λ (o : Option ℕ). cond (same key k) outer o) (puts k) ∙ go (same key k) refl
    where
      go : (b : Bool) → same key k ≡ b → cond b outer (cond b (Some at) (m k)) ≡ m k
      go true e = was ∙ ap m (told key k e)
      go false e = refl

same_text_told : (a b : Bytes) → bytes_eq a b ≡ true → a ≡ b
same_text_told a b e = (bytes_decides a b).0 e

same_number_told : (a b : ℕ) → (a == b) ≡ true → a ≡ b
same_number_told a b e = eqb-true a b e

-- a test of an order is the test of the keys
by_text : (m n : Bytes → Option ℕ) (key : Bytes) (w : Option ℕ) → ((k : Bytes) → n k ≡ cond (is_at (slice_cmp nat_cmp key) k) w (m k)) → (k : Bytes) → n k ≡ cond (bytes_eq key k) w (m k)
by_text m n key w puts k = puts k ∙ ap (λ (b : Bool). cond b w (m k)) (is_eq-slice_cmp key k)

by_digits : (m n : ℕ → Option ℕ) (key : ℕ) (w : Option ℕ) → ((k : ℕ) → n k ≡ cond (is_at (nat_cmp key) k) w (m k)) → (k : ℕ) → n k ≡ cond (key == k) w (m k)
by_digits m n key w puts k = puts k ∙ ap (λ (b : Bool). cond b w (m k)) (number_test key k)

pub name_bound : (m n : BTreeMap Bytes ℕ) (rows : List Row) (row : Row) (name : Bytes) (at : ℕ) → ((k : Bytes) → get (slice_cmp nat_cmp) m k ≡ last_at (has_name k) rows) → ((k : Bytes) → get (slice_cmp nat_cmp) n k ≡ cond (is_at (slice_cmp nat_cmp name) k) (Some at) (get (slice_cmp nat_cmp) m k)) →
    at ≡ length rows → name ≡ row.binding.name → (k : Bytes) → get (slice_cmp nat_cmp) n k ≡ last_at (has_name k) (rows ++ row ∷ [])
name_bound m n rows row name at before puts = bound_key bytes_eq same_text_told (λ (r : Row). r.binding.name) (get (slice_cmp nat_cmp) m) (get (slice_cmp nat_cmp) n) rows row name at before (by_text (get (slice_cmp nat_cmp) m) (get (slice_cmp nat_cmp) n) name (Some at) puts)

pub number_bound : (m n : BTreeMap ℕ ℕ) (rows : List Row) (row : Row) (number at : ℕ) → ((k : ℕ) → get nat_cmp m k ≡ last_at (has_number k) rows) → ((k : ℕ) → get nat_cmp n k ≡ cond (is_at (nat_cmp number) k) (Some at) (get nat_cmp m k)) →
    at ≡ length rows → number ≡ row.binding.number → (k : ℕ) → get nat_cmp n k ≡ last_at (has_number k) (rows ++ row ∷ [])
number_bound m n rows row number at before puts = bound_key (λ (a b : ℕ). a == b) same_number_told (λ (r : Row). r.binding.number) (get nat_cmp m) (get nat_cmp n) rows row number at before (by_digits (get nat_cmp m) (get nat_cmp n) number (Some at) puts)

pub name_popped : (m n : BTreeMap Bytes ℕ) (rows : List Row) (row : Row) → ((k : Bytes) → get (slice_cmp nat_cmp) m k ≡ last_at (has_name k) (rows ++ row ∷ [])) →
    ((k : Bytes) → get (slice_cmp nat_cmp) n k ≡ cond (is_at (slice_cmp nat_cmp row.binding.name) k) row.outer_name (get (slice_cmp nat_cmp) m k)) → row.outer_name ≡ last_at (is_named_like row) rows → (k : Bytes) → get (slice_cmp nat_cmp) n k ≡ last_at (has_name k) rows
name_popped m n rows row before puts = popped_key bytes_eq same_text_told (λ (r : Row). r.binding.name) (get (slice_cmp nat_cmp) m) (get (slice_cmp nat_cmp) n) rows row row.outer_name before (by_text (get (slice_cmp nat_cmp) m) (get (slice_cmp nat_cmp) n) row.binding.name row.outer_name puts)

pub number_popped : (m n : BTreeMap ℕ ℕ) (rows : List Row) (row : Row) → ((k : ℕ) → get nat_cmp m k ≡ last_at (has_number k) (rows ++ row ∷ [])) →
    ((k : ℕ) → get nat_cmp n k ≡ cond (is_at (nat_cmp row.binding.number) k) row.outer_number (get nat_cmp m k)) → row.outer_number ≡ last_at (is_numbered_like row) rows → (k : ℕ) → get nat_cmp n k ≡ last_at (has_number k) rows
number_popped m n rows row before puts = popped_key (λ (a b : ℕ). a == b) same_number_told (λ (r : Row). r.binding.number) (get nat_cmp m) (get nat_cmp n) rows row row.outer_number before (by_digits (get nat_cmp m) (get nat_cmp n) row.binding.number row.outer_number puts)

pub name_put_back : (m n after : BTreeMap Bytes ℕ) (name other : Bytes) (at : ℕ) (outer : Option ℕ) → name ≡ other → ((k : Bytes) → get (slice_cmp nat_cmp) n k ≡ cond (is_at (slice_cmp nat_cmp name) k) (Some at) (get (slice_cmp nat_cmp) m k)) →
    outer ≡ get (slice_cmp nat_cmp) m name → ((k : Bytes) → get (slice_cmp nat_cmp) after k ≡ cond (is_at (slice_cmp nat_cmp other) k) outer (get (slice_cmp nat_cmp) n k)) → (k : Bytes) → get (slice_cmp nat_cmp) after k ≡ get (slice_cmp nat_cmp) m k
name_put_back m n after name other at outer same puts was back =
    put_back_key bytes_eq same_text_told (λ (r : Row). r.binding.name) (get (slice_cmp nat_cmp) m) (get (slice_cmp nat_cmp) n) (get (slice_cmp nat_cmp) after) name at outer
    (by_text (get (slice_cmp nat_cmp) m) (get (slice_cmp nat_cmp) n) name (Some at) puts) was
    (by_text (get (slice_cmp nat_cmp) n) (get (slice_cmp nat_cmp) after) name outer (λ k. back k ∙ ap (λ (t : Bytes). cond (is_at (slice_cmp nat_cmp t) k) outer (get (slice_cmp nat_cmp) n k)) (sym same)))

-- the last name is found by its key
some_told : (o : Option ℕ) (at : ℕ) → o ≡ Some at → IsSome o
some_told (Some n) at is = refl
some_told None at is = absurd (cc)

pub last_name_found : (m : BTreeMap Bytes ℕ) (rows : List Row) (row : Row) → ((k : Bytes) → get (slice_cmp nat_cmp) m k ≡ last_at (has_name k) (rows ++ row ∷ [])) → IsSome (get (slice_cmp nat_cmp) m row.binding.name)
last_name_found m rows row before =
    some_told _ (length rows) (before row.binding.name ∙ last_at_more (has_name row.binding.name) rows row ∙ ap (λ (b : Bool). cond b (Some (length rows)) (last_at (has_name row.binding.name) rows)) (same_bytes row.binding.name))

pub last_number_found : (m : BTreeMap ℕ ℕ) (rows : List Row) (row : Row) → ((k : ℕ) → get nat_cmp m k ≡ last_at (has_number k) (rows ++ row ∷ [])) → IsSome (get nat_cmp m row.binding.number)
last_number_found m rows row before =
    some_told _ (length rows)
    (before row.binding.number ∙ last_at_more (has_number row.binding.number) rows row ∙ ap (λ (b : Bool). cond b (Some (length rows)) (last_at (has_number row.binding.number) rows)) (eq-eqb row.binding.number row.binding.number refl))

pub name_found : (m : BTreeMap Bytes ℕ) (name : Bytes) (at : ℕ) → get (slice_cmp nat_cmp) m name ≡ Some at → IsSome (get (slice_cmp nat_cmp) m name)
name_found m name at is = some_told _ at is

-- ---- a declaration changes none of the keys

module _ (rows after : List Row) (at : ℕ) (is_read : Bool) (declared : Option FlowType) (changed : after ≡ at_place at (declared_row is_read declared) rows) where
  pub names_stay : (name : Bytes) → last_at (has_name name) after ≡ last_at (has_name name) rows
  names_stay name = ap (last_at (has_name name)) changed ∙ last_at_changed (has_name name) (declared_row is_read declared) (λ x. refl) at rows

  pub numbers_stay : (number : ℕ) → last_at (has_number number) after ≡ last_at (has_number number) rows
  numbers_stay number = ap (last_at (has_number number)) changed ∙ last_at_changed (has_number number) (declared_row is_read declared) (λ x. refl) at rows

  pub name_links_stay : AreLinked is_named_like (λ (row : Row). row.outer_name) rows → AreLinked is_named_like (λ (row : Row). row.outer_name) after
  name_links_stay linked =
      subst (AreLinked is_named_like (λ (row : Row). row.outer_name)) (sym changed) (linked_changed is_named_like (λ (row : Row). row.outer_name) (declared_row is_read declared) (λ x. refl) (λ x y. refl) (λ x. refl) at rows linked)

  pub number_links_stay : AreLinked is_numbered_like (λ (row : Row). row.outer_number) rows → AreLinked is_numbered_like (λ (row : Row). row.outer_number) after
  number_links_stay linked =
      subst (AreLinked is_numbered_like (λ (row : Row). row.outer_number)) (sym changed) (linked_changed is_numbered_like (λ (row : Row). row.outer_number) (declared_row is_read declared) (λ x. refl) (λ x y. refl) (λ x. refl) at rows linked)

-- no entry was changed
pub numbers_unchanged : (m n : BTreeMap ℕ ℕ) → n.entries ≡ m.entries → (k : ℕ) → get nat_cmp n k ≡ get nat_cmp m k
numbers_unchanged m n same k = ap (lookup (is_at (nat_cmp k))) same

pub earlier_is : (at : ℕ) (r s : Bool) (d e : Option FlowType) → r ≡ s → d ≡ e → ◌≡◌ {A = Earlier} (record { at = at; is_read = r; declared = d }) (record { at = at; is_read = s; declared = e })
earlier_is at r s d e first second = ap (λ (b : Bool). noted b d) first ∙ ap (noted s) second
  where
    noted : Bool → Option FlowType → Earlier
    noted is_read declared = record { at = at; is_read = is_read; declared = declared }

pub past_of : (n k : ℕ) → (n < k → false ≡ true) → k ≤ n
past_of n k never = go (leb k n) refl
  where
    go : (b : Bool) → leb k n ≡ b → k ≤ n
    go true e = leb-true k n e
    go false e = absurd (let no = never (leb-false k n e) in cc)
