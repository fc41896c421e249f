-- The aliases of signatures, one signature after the other.
use Rattle.std.proofs.Common.{◌≡◌, ℕ, ◌+◌, ◌<◌, ◌≤◌, ◌&&◌, Bool, true, false, not, List, [], ◌∷◌, ◌++◌, length, map, take, take_all, get_or, Option, Some, None, cond, bytes_eq, refl, sym, ap, ◌∙◌, subst}
use Rattle.std.specs.Option.{option_and_then, option_or, is_some}
use Rattle.std.specs.Ordering.{nat_cmp}
use Rattle.std.specs.Cmp.Lexicographic.{slice_cmp, bytes_decides}
use Rattle.std.specs.BTreeMap.{BTreeMap, get}
use Rattle.std.proofs.lemmas.List.{take_more}
use Rattle.std.proofs.lemmas.Map.Text.{is_eq-slice_cmp}
use Rattle.type_values.specs.declared.types.FlowType.{FlowType}
use Rattle.alias_table.specs.Aliases.{Row, Key, alias_type, is_text}
use Rattle.alias_table.proofs.Beside.{types_append}
use Rattle.check_values.specs.Rows.{Bytes, Rows, row_at}
use Rattle.check_values.specs.declared.signatures.Sig.{Sig}
use Rattle.named_rows.proofs.Lists.{bytes_turned}
use Rattle.signature_table.specs.Places.{ArePlaces, place_of, is_place}
use Rattle.signature_table.specs.Telling.{rows_of, type_told, AreAliases}
use Rattle.signature_table.proofs.Placing.{first_there}

-- the type of an alias by the rows of one module
own_type : (home : Bytes) (aliases : Rows FlowType) (key : Key) → alias_type (rows_of home aliases) key ≡ cond (bytes_eq home key.0) (row_at aliases key.1) None
own_type home [] key = go (bytes_eq home key.0)
  where
    go : (b : Bool) → ◌≡◌ {A = Option FlowType} None (cond b None None)
    go true = refl
    go false = refl
own_type home (row ∷ aliases) key =
    ap (λ (b : Bool). cond (b && is_text key.1 row.0) (Some row.1) (alias_type (rows_of home aliases) key)) (is_eq-slice_cmp key.0 home ∙ bytes_turned key.0 home)
    ∙ ap (λ (b : Bool). cond (bytes_eq home key.0 && b) (Some row.1) (alias_type (rows_of home aliases) key)) (is_eq-slice_cmp key.1 row.0 ∙ bytes_turned key.1 row.0)
    ∙ go (bytes_eq home key.0) (bytes_eq row.0 key.1) (own_type home aliases key)
  where
    go : (b c : Bool) → alias_type (rows_of home aliases) key ≡ cond b (row_at aliases key.1) None → cond (b && c) (Some row.1) (alias_type (rows_of home aliases) key) ≡ cond b (cond c (Some row.1) (row_at aliases key.1)) None
    go true true rest = refl
    go true false rest = rest
    go false c rest = rest

row_append : {X : Type 0} (xs ys : Rows X) (name : Bytes) → row_at (xs ++ ys) name ≡ option_or (row_at xs name) (row_at ys name)
row_append [] ys name = refl
row_append (x ∷ xs) ys name = go (bytes_eq x.0 name) (row_append xs ys name)
  where
    go : (b : Bool) → row_at (xs ++ ys) name ≡ option_or (row_at xs name) (row_at ys name) → cond b (Some x.1) (row_at (xs ++ ys) name) ≡ option_or (cond b (Some x.1) (row_at xs name)) (row_at ys name)
    go true rest = refl
    go false rest = rest

abbrev told : Key → Option Sig → Option FlowType
told key o = option_and_then (λ sig. row_at sig.aliases key.1) o

none_there : {X : Type 0} (o : Option X) → is_some o ≡ false → o ≡ None
none_there None e = refl
none_there (Some x) e = cc

off_not : (b : Bool) → not b ≡ true → b ≡ false
off_not true e = cc
off_not false e = refl

on_not : (b : Bool) → not b ≡ false → b ≡ true
on_not true e = refl
on_not false e = cc

or_there : {X : Type 0} (o p : Option X) → is_some o ≡ true → option_or o p ≡ o
or_there None p e = cc
or_there (Some x) p e = refl

or_none : {X : Type 0} (o : Option X) → option_or o None ≡ o
or_none None = refl
or_none (Some x) = refl

module _ (before : Rows Sig) (row : Bytes × Sig) (aliases : List Row) (so_far : AreAliases before aliases) where
  -- the first signature of its path
  pub first_added : row_at before row.0 ≡ None → AreAliases (before ++ row ∷ []) (aliases ++ rows_of row.0 row.1.aliases)
  first_added none key =
      types_append aliases (rows_of row.0 row.1.aliases) key
      ∙ ap (option_or (alias_type aliases key)) (own_type row.0 row.1.aliases key) ∙ ap (λ (o : Option FlowType). option_or o (cond (bytes_eq row.0 key.0) (row_at row.1.aliases key.1) None)) (so_far key)
      ∙ go (bytes_eq row.0 key.0) refl
      ∙ ap (told key) (sym (row_append before (row ∷ []) key.0))
    where
      go : (b : Bool) → bytes_eq row.0 key.0 ≡ b → option_or (told key (row_at before key.0)) (cond b (row_at row.1.aliases key.1) None) ≡ told key (option_or (row_at before key.0) (cond b (Some row.1) None))
      go true e =
          let lacks : row_at before key.0 ≡ None = ap (row_at before) (sym ((bytes_decides row.0 key.0).0 e)) ∙ none in
          ap (λ (o : Option Sig). option_or (told key o) (row_at row.1.aliases key.1)) lacks ∙ sym (ap (λ (o : Option Sig). told key (option_or o (Some row.1))) lacks)
      go false e = or_none (told key (row_at before key.0)) ∙ ap (told key) (sym (or_none (row_at before key.0)))

  -- one whose path stands before
  pub later_passed : is_some (row_at before row.0) ≡ true → AreAliases (before ++ row ∷ []) aliases
  later_passed there key = so_far key ∙ ap (told key) (go (bytes_eq row.0 key.0) refl ∙ sym (row_append before (row ∷ []) key.0))
    where
      go : (b : Bool) → bytes_eq row.0 key.0 ≡ b → row_at before key.0 ≡ option_or (row_at before key.0) (cond b (Some row.1) None)
      go true e = sym (or_there (row_at before key.0) (Some row.1) (ap (λ (p : Bytes). is_some (row_at before p)) (sym ((bytes_decides row.0 key.0).0 e)) ∙ there))
      go false e = sym (or_none (row_at before key.0))

module _ (rows : Rows Sig) (places : BTreeMap Bytes ℕ) (are : ArePlaces rows places) (i : ℕ) (row : Bytes × Sig) (within : i < length rows) (is : row ≡ get_or rows i row) (aliases : List Row) (so_far : AreAliases (take i rows) aliases) where
  first : (b : Bool) → b ≡ is_place (get (slice_cmp nat_cmp) places row.0) i → b ≡ not (is_some (row_at (take i rows) row.0))
  first b told = told ∙ ap (λ (o : Option ℕ). is_place o i) (are row.0) ∙ first_there rows i row within is

  one_more : take (i + 1) rows ≡ take i rows ++ row ∷ []
  one_more = take_more rows i row within ∙ ap (λ (u : Bytes × Sig). take i rows ++ u ∷ []) (sym is)

  pub aliases_added : (b : Bool) (home : Bytes) (sig : Sig) (own : Rows FlowType) (after : List Row) → b ≡ is_place (get (slice_cmp nat_cmp) places row.0) i → b ≡ true → sig ≡ row.1 → own ≡ sig.aliases → after ≡ aliases ++ rows_of row.0 own → AreAliases (take (i + 1) rows) after
  aliases_added b home sig own after told on same listed adds =
      subst (λ (l : Rows Sig). AreAliases l after) (sym one_more)
      (subst (AreAliases (take i rows ++ row ∷ [])) (sym (adds ∙ ap (λ (l : Rows FlowType). aliases ++ rows_of row.0 l) (listed ∙ ap (λ (s : Sig). s.aliases) same)))
      (first_added (take i rows) row aliases so_far (none_there (row_at (take i rows) row.0) (off_not (is_some (row_at (take i rows) row.0)) (sym (first b told) ∙ on)))))

  pub aliases_passed : (b : Bool) → b ≡ is_place (get (slice_cmp nat_cmp) places row.0) i → b ≡ false → AreAliases (take (i + 1) rows) aliases
  aliases_passed b told off =
      subst (λ (l : Rows Sig). AreAliases l aliases) (sym one_more)
      (later_passed (take i rows) row aliases so_far (on_not (is_some (row_at (take i rows) row.0)) (sym (first b told) ∙ off)))

pub aliases_end : (rows : Rows Sig) (i : ℕ) (aliases : List Row) → length rows ≤ i → AreAliases (take i rows) aliases → AreAliases rows aliases
aliases_end rows i aliases past so_far = subst (λ (l : Rows Sig). AreAliases l aliases) (take_all i rows past) so_far
