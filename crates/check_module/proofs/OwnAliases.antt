-- The aliases of a module itself, which are the first rows of their names.
use Rattle.std.proofs.Common.{◌≡◌, Bool, true, false, not, ◌&&◌, cond, List, [], ◌∷◌, ◌++◌, filter, Option, Some, None, bytes_eq, refl, sym, ap, ap₂, ◌∙◌}
use Rattle.std.specs.Option.{option_or}
use Rattle.std.specs.Cmp.Lexicographic.{bytes_decides}
use Rattle.std.proofs.lemmas.Map.Text.{is_eq-slice_cmp}
use Rattle.alias_table.specs.Aliases.{Row, Key, alias_type, is_row_of}
use Rattle.type_values.specs.declared.types.FlowType.{FlowType}
use Rattle.js_grammar.specs.Types.{Ty}
use Rattle.check_values.specs.Rows.{Bytes, Rows, row_at, first_of_each}
use Rattle.local_signatures.specs.Scope.{Binding, Scope, bound_import, bound_variable, bound_function, bound_alias}
use Rattle.named_rows.specs.Seen.{seen}
use Rattle.named_rows.proofs.Lists.{bytes_turned}
use Rattle.typing.specs.States.{TypeMeaning}
use Rattle.typing.specs.TypeFaults.{written_by}
use Rattle.errors_by_reach.specs.Seen.{own_alias}
use Rattle.check_items.specs.Meant.{meant, own_rows}

-- ---- no name stands twice

abbrev pub AreOnce : {X : Type 0} → Rows X → Type 0
AreOnce [] = Unit {0}
AreOnce (row ∷ rows) = (row_at rows row.0 ≡ None) × AreOnce rows

module _ {X : Type 0} where
  none_left : (p : Bytes × X → Bool) (rows : Rows X) (name : Bytes) → row_at rows name ≡ None → row_at (filter p rows) name ≡ None
  none_left p [] name none = refl
  none_left p (row ∷ rows) name none = go (p row) (bytes_eq row.0 name) refl none (none_left p rows name)
    where
      go : (b c : Bool) → bytes_eq row.0 name ≡ c → cond c (Some row.1) (row_at rows name) ≡ None → (row_at rows name ≡ None → row_at (filter p rows) name ≡ None) → row_at (cond b (row ∷ filter p rows) (filter p rows)) name ≡ None
      go true true e h rest = absurd (cc)
      go false true e h rest = absurd (cc)
      go true false e h rest = ap (λ (c : Bool). cond c (Some row.1) (row_at (filter p rows) name)) e ∙ rest h
      go false false e h rest = rest h

  others_lack : (name : Bytes) (rows : Rows X) → row_at (filter (λ later. not (bytes_eq later.0 name)) rows) name ≡ None
  others_lack name [] = refl
  others_lack name (row ∷ rows) = go (bytes_eq row.0 name) refl (others_lack name rows)
    where
      go : (b : Bool) → bytes_eq row.0 name ≡ b → row_at (filter (λ later. not (bytes_eq later.0 name)) rows) name ≡ None →
          row_at (cond (not b) (row ∷ filter (λ later. not (bytes_eq later.0 name)) rows) (filter (λ later. not (bytes_eq later.0 name)) rows)) name ≡ None
      go true e rest = rest
      go false e rest = ap (λ (c : Bool). cond c (Some row.1) (row_at (filter (λ later. not (bytes_eq later.0 name)) rows) name)) e ∙ rest

  left_once : (p : Bytes × X → Bool) (rows : Rows X) → AreOnce rows → AreOnce (filter p rows)
  left_once p [] once = tt
  left_once p (row ∷ rows) once = go (p row) (left_once p rows once.1)
    where
      go : (b : Bool) → AreOnce (filter p rows) → AreOnce (cond b (row ∷ filter p rows) (filter p rows))
      go true rest = (none_left p rows row.0 once.0, rest)
      go false rest = rest

  pub firsts_once : (rows : Rows X) → AreOnce (first_of_each rows)
  firsts_once [] = tt
  firsts_once (row ∷ rows) = (others_lack row.0 (first_of_each rows), left_once (λ later. not (bytes_eq later.0 row.0)) (first_of_each rows) (firsts_once rows))

-- ---- the types of aliases

module _ (path : Bytes) (meaning : Bytes → TypeMeaning) (key : Key) where
  -- a row of the module itself
  own_type : (name : Bytes) (t : FlowType) (rows : List Row) → alias_type ((path, name, t) ∷ rows) key ≡ cond (bytes_eq key.0 path && bytes_eq name key.1) (Some t) (alias_type rows key)
  own_type name t rows =
      ap₂ (λ (a b : Bool). cond (a && b) (Some t) (alias_type rows key)) (is_eq-slice_cmp key.0 path) (is_eq-slice_cmp key.1 name ∙ bytes_turned key.1 name)

  -- no row, no alias
  none_own : (scope : Scope) → row_at scope key.1 ≡ None → alias_type (own_rows path meaning (seen meant scope)) key ≡ None
  none_own [] none = refl
  none_own ((name, b) ∷ scope) none = go (bytes_eq name key.1) refl none (none_own scope)
    where
      left : bytes_eq name key.1 ≡ false → alias_type (own_rows path meaning (seen meant scope)) key ≡ None → (x : Binding) → alias_type (own_rows path meaning (seen meant ((name, x) ∷ scope))) key ≡ None
      left e rest (bound_alias t) =
          own_type name (written_by meaning t) (own_rows path meaning (seen meant scope))
          ∙ ap (λ (c : Bool). cond (bytes_eq key.0 path && c) (Some (written_by meaning t)) (alias_type (own_rows path meaning (seen meant scope)) key)) e ∙ off (bytes_eq key.0 path) ∙ rest
        where
          off : (a : Bool) → cond (a && false) (Some (written_by meaning t)) (alias_type (own_rows path meaning (seen meant scope)) key) ≡ alias_type (own_rows path meaning (seen meant scope)) key
          off true = refl
          off false = refl
      left e rest (bound_import spec outer true) = rest
      left e rest (bound_import spec outer false) = rest
      left e rest (bound_variable d) = rest
      left e rest (bound_function f) = rest

      go : (c : Bool) → bytes_eq name key.1 ≡ c → cond c (Some b) (row_at scope key.1) ≡ None → (row_at scope key.1 ≡ None → alias_type (own_rows path meaning (seen meant scope)) key ≡ None) →
          alias_type (own_rows path meaning (seen meant ((name, b) ∷ scope))) key ≡ None
      go true e h rest = absurd (cc)
      go false e h rest = left e (rest h) b

  -- the type of the module's own alias, where the name's row is one
  pub own_told : (scope : Scope) → AreOnce scope → alias_type (own_rows path meaning (seen meant scope)) key ≡ cond (bytes_eq key.0 path) (own_alias meaning (row_at scope key.1)) None
  own_told [] once = go (bytes_eq key.0 path)
    where
      go : (a : Bool) → ◌≡◌ {A = Option FlowType} None (cond a None None)
      go true = refl
      go false = refl
  own_told ((name, b) ∷ scope) once = of_binding b (own_told scope once.1)
    where
      lacks : bytes_eq name key.1 ≡ true → alias_type (own_rows path meaning (seen meant scope)) key ≡ None
      lacks e = none_own scope (ap (row_at scope) (sym ((bytes_decides name key.1).0 e)) ∙ once.0)

      same : (x : Binding) → own_alias meaning (Some x) ≡ None → (a : Bool) → ◌≡◌ {A = Option FlowType} None (cond a (own_alias meaning (Some x)) None)
      same x lack true = sym lack
      same x lack false = refl

      -- what is no alias
      other : (x : Binding) (c : Bool) → own_alias meaning (Some x) ≡ None → bytes_eq name key.1 ≡ c →
          alias_type (own_rows path meaning (seen meant scope)) key ≡ cond (bytes_eq key.0 path) (own_alias meaning (row_at scope key.1)) None →
          alias_type (own_rows path meaning (seen meant scope)) key ≡ cond (bytes_eq key.0 path) (own_alias meaning (cond c (Some x) (row_at scope key.1))) None
      other x true lack e rest = lacks e ∙ same x lack (bytes_eq key.0 path)
      other x false lack e rest = rest

      own : (t : Ty) (a c : Bool) → alias_type (own_rows path meaning (seen meant scope)) key ≡ cond a (own_alias meaning (row_at scope key.1)) None →
          cond (a && c) (Some (written_by meaning t)) (alias_type (own_rows path meaning (seen meant scope)) key) ≡ cond a (own_alias meaning (cond c (Some (bound_alias t)) (row_at scope key.1))) None
      own t true true rest = refl
      own t true false rest = rest
      own t false true rest = rest
      own t false false rest = rest

      of_binding : (x : Binding) → alias_type (own_rows path meaning (seen meant scope)) key ≡ cond (bytes_eq key.0 path) (own_alias meaning (row_at scope key.1)) None →
          alias_type (own_rows path meaning (seen meant ((name, x) ∷ scope))) key ≡ cond (bytes_eq key.0 path) (own_alias meaning (cond (bytes_eq name key.1) (Some x) (row_at scope key.1))) None
      of_binding (bound_alias t) rest = own_type name (written_by meaning t) (own_rows path meaning (seen meant scope)) ∙ own t (bytes_eq key.0 path) (bytes_eq name key.1) rest
      of_binding (bound_import spec outer true) rest = other (bound_import spec outer true) (bytes_eq name key.1) refl refl rest
      of_binding (bound_import spec outer false) rest = other (bound_import spec outer false) (bytes_eq name key.1) refl refl rest
      of_binding (bound_variable d) rest = other (bound_variable d) (bytes_eq name key.1) refl refl rest
      of_binding (bound_function f) rest = other (bound_function f) (bytes_eq name key.1) refl refl rest
