-- What stands at a name in rows that were made of others.
use Rattle.std.proofs.Common.{◌≡◌, Bool, true, false, not, cond, List, [], ◌∷◌, map, filter, Option, Some, None, option_map, bytes_eq, refl, sym, ap, ◌∙◌}
use Rattle.std.specs.Cmp.Lexicographic.{bytes_decides}
use Rattle.std.specs.List.{filter_map}
use Rattle.check_values.specs.Rows.{Bytes, Rows, row_at, first_of_each}
use Rattle.check_values.specs.declared.signatures.ImportRow.{ImportRow}
use Rattle.type_values.specs.declared.types.FlowType.{FlowType}
use Rattle.program_check.specs.check_job.specs.errors_by_reach.specs.local_signatures.specs.Scope.{Binding, bound_import, bound_variable, bound_function, bound_alias, Scope, local_type}
use Rattle.program_check.specs.check_job.specs.errors_by_reach.specs.local_signatures.specs.LocalSignature.{alias_row, import_row}
use Rattle.program_check.specs.check_job.specs.errors_by_reach.specs.module_errors.specs.merged_signatures.specs.Merged.{import_at}

pub some_same : {X : Type 0} (x y : X) → Some x ≡ Some y → x ≡ y
some_same x y e = cc

-- ---- rows that are left, and rows with other values

module _ {X : Type 0} where
  -- those whose names pass
  pub row_left : (p : Bytes → Bool) (rows : Rows X) (name : Bytes) → row_at (filter (λ row. p row.0) rows) name ≡ cond (p name) (row_at rows name) None
  row_left p [] name = go (p name)
    where
      go : (b : Bool) → ◌≡◌ {A = Option X} None (cond b None None)
      go true = refl
      go false = refl
  row_left p (row ∷ rows) name = go (p row.0) (bytes_eq row.0 name) refl refl (row_left p rows name)
    where
      here : bytes_eq row.0 name ≡ true → p row.0 ≡ p name
      here e = ap p ((bytes_decides row.0 name).0 e)

      go : (a b : Bool) → p row.0 ≡ a → bytes_eq row.0 name ≡ b → row_at (filter (λ row. p row.0) rows) name ≡ cond (p name) (row_at rows name) None →
          row_at (cond a (row ∷ filter (λ row. p row.0) rows) (filter (λ row. p row.0) rows)) name ≡ cond (p name) (cond b (Some row.1) (row_at rows name)) None
      go true true e f rest =
          ap (λ (c : Bool). cond c (Some row.1) (row_at (filter (λ row. p row.0) rows) name)) f ∙ ap (λ (c : Bool). cond c (Some row.1) None) (sym e ∙ here f)
      go false true e f rest = rest ∙ ap (λ (c : Bool). cond c (row_at rows name) None) (sym (here f) ∙ e) ∙ ap (λ (c : Bool). cond c (Some row.1) None) (sym e ∙ here f)
      go true false e f rest = ap (λ (c : Bool). cond c (Some row.1) (row_at (filter (λ row. p row.0) rows) name)) f ∙ rest
      go false false e f rest = rest

pub row_made : {X Y : Type 0} (f : X → Y) (rows : Rows X) (name : Bytes) → row_at (map (λ row. (row.0, f row.1)) rows) name ≡ option_map f (row_at rows name)
row_made f [] name = refl
row_made f (row ∷ rows) name = go (bytes_eq row.0 name) (row_made f rows name)
  where
    go : (b : Bool) → row_at (map (λ row. (row.0, f row.1)) rows) name ≡ option_map f (row_at rows name) →
        cond b (Some (f row.1)) (row_at (map (λ row. (row.0, f row.1)) rows) name) ≡ option_map f (cond b (Some row.1) (row_at rows name))
    go true rest = refl
    go false rest = rest

-- values that are made of the names alone
pub row_named : {X Y : Type 0} (f : Bytes → Y) (rows : Rows X) (name : Bytes) → row_at (map (λ row. (row.0, f row.0)) rows) name ≡ option_map (λ x. f name) (row_at rows name)
row_named f [] name = refl
row_named f (row ∷ rows) name = go (bytes_eq row.0 name) refl (row_named f rows name)
  where
    go : (b : Bool) → bytes_eq row.0 name ≡ b → row_at (map (λ row. (row.0, f row.0)) rows) name ≡ option_map (λ x. f name) (row_at rows name) →
        cond b (Some (f row.0)) (row_at (map (λ row. (row.0, f row.0)) rows) name) ≡ option_map (λ x. f name) (cond b (Some row.1) (row_at rows name))
    go true e rest = ap (λ (w : Bytes). Some (f w)) ((bytes_decides row.0 name).0 e)
    go false e rest = rest

-- ---- no name stands twice

abbrev pub AreOnce : {X : Type 0} → Rows X → Type 0
AreOnce [] = Unit {0}
AreOnce (row ∷ rows) = (row_at rows row.0 ≡ None) × AreOnce rows

module _ {X : Type 0} where
  none_left : (p : Bytes → Bool) (rows : Rows X) (name : Bytes) → row_at rows name ≡ None → row_at (filter (λ row. p row.0) rows) name ≡ None
  none_left p rows name none = row_left p rows name ∙ ap (λ (o : Option X). cond (p name) o None) none ∙ go (p name)
    where
      go : (b : Bool) → ◌≡◌ {A = Option X} (cond b None None) None
      go true = refl
      go false = refl

  left_once : (p : Bytes → Bool) (rows : Rows X) → AreOnce rows → AreOnce (filter (λ row. p row.0) rows)
  left_once p [] once = tt
  left_once p (row ∷ rows) once = go (p row.0) (left_once p rows once.1)
    where
      go : (b : Bool) → AreOnce (filter (λ row. p row.0) rows) → AreOnce (cond b (row ∷ filter (λ row. p row.0) rows) (filter (λ row. p row.0) rows))
      go true rest = (none_left p rows row.0 once.0, rest)
      go false rest = rest

  pub firsts_once : (rows : Rows X) → AreOnce (first_of_each rows)
  firsts_once [] = tt
  firsts_once (row ∷ rows) =
      let itself : bytes_eq row.0 row.0 ≡ true = (bytes_decides row.0 row.0).1 refl in
      let others = row_left (λ w. not (bytes_eq w row.0)) (first_of_each rows) row.0 in
      (others ∙ ap (λ (b : Bool). cond (not b) (row_at (first_of_each rows) row.0) None) itself, left_once (λ w. not (bytes_eq w row.0)) (first_of_each rows) (firsts_once rows))

-- ---- the aliases and the imports of a scope

-- the type of an alias as its module's signature tells it
abbrev pub alias_bound : Scope → Option Binding → Option FlowType
alias_bound scope (Some (bound_alias t)) = Some (local_type scope t)
alias_bound scope other = None

-- the row of an import
abbrev pub import_bound : Bytes → Option Binding → Option ImportRow
import_bound name (Some (bound_import spec outer is_type)) = Some (record { local = name; spec = spec; name = outer; is_type = is_type })
import_bound name other = None

module _ {Y : Type 0} (of : Option Binding → Option Y) (nothing : of None ≡ None) (name word : Bytes) (b : Binding) (rows : Scope) (once : row_at rows word ≡ None) (x : Option Y) (rest : x ≡ of (row_at rows name)) where
  -- a row more that tells nothing
  passed_over : of (Some b) ≡ None → x ≡ of (row_at ((word, b) ∷ rows) name)
  passed_over lacks = go (bytes_eq word name) refl
    where
      go : (c : Bool) → bytes_eq word name ≡ c → x ≡ of (cond c (Some b) (row_at rows name))
      go true e = rest ∙ ap of (ap (row_at rows) (sym ((bytes_decides word name).0 e)) ∙ once) ∙ nothing ∙ sym lacks
      go false e = rest

  -- and one that tells something
  taken : (y : Bytes → Y) → of (Some b) ≡ Some (y name) → cond (bytes_eq word name) (Some (y word)) x ≡ of (row_at ((word, b) ∷ rows) name)
  taken y is = go (bytes_eq word name) refl
    where
      go : (c : Bool) → bytes_eq word name ≡ c → cond c (Some (y word)) x ≡ of (cond c (Some b) (row_at rows name))
      go true e = ap (λ (w : Bytes). Some (y w)) ((bytes_decides word name).0 e) ∙ sym is
      go false e = rest

module _ (scope : Scope) (name : Bytes) where
  pub alias_there : (rows : Scope) → AreOnce rows → row_at (filter_map (alias_row scope) rows) name ≡ alias_bound scope (row_at rows name)
  alias_there [] once = refl
  alias_there ((word, b) ∷ rows) once = by b (alias_there rows once.1)
    where
      by : (b : Binding) → row_at (filter_map (alias_row scope) rows) name ≡ alias_bound scope (row_at rows name) →
          row_at (filter_map (alias_row scope) ((word, b) ∷ rows)) name ≡ alias_bound scope (row_at ((word, b) ∷ rows) name)
      by (bound_alias t) rest = taken (alias_bound scope) refl name word (bound_alias t) rows once.0 _ rest (λ w. local_type scope t) refl
      by (bound_import spec outer is_type) rest = passed_over (alias_bound scope) refl name word (bound_import spec outer is_type) rows once.0 _ rest refl
      by (bound_variable d) rest = passed_over (alias_bound scope) refl name word (bound_variable d) rows once.0 _ rest refl
      by (bound_function f) rest = passed_over (alias_bound scope) refl name word (bound_function f) rows once.0 _ rest refl

module _ (name : Bytes) where
  pub import_there : (rows : Scope) → AreOnce rows → import_at (filter_map import_row rows) name ≡ import_bound name (row_at rows name)
  import_there [] once = refl
  import_there ((word, b) ∷ rows) once = by b (import_there rows once.1)
    where
      by : (b : Binding) → import_at (filter_map import_row rows) name ≡ import_bound name (row_at rows name) → import_at (filter_map import_row ((word, b) ∷ rows)) name ≡ import_bound name (row_at ((word, b) ∷ rows) name)
      by (bound_import spec outer is_type) rest =
          taken (import_bound name) refl name word (bound_import spec outer is_type) rows once.0 _ rest (λ w. record { local = w; spec = spec; name = outer; is_type = is_type }) refl
      by (bound_alias t) rest = passed_over (import_bound name) refl name word (bound_alias t) rows once.0 _ rest refl
      by (bound_variable d) rest = passed_over (import_bound name) refl name word (bound_variable d) rows once.0 _ rest refl
      by (bound_function f) rest = passed_over (import_bound name) refl name word (bound_function f) rows once.0 _ rest refl

-- the imports whose names pass
pub import_left : (p : Bytes → Bool) (rows : List ImportRow) (name : Bytes) → p name ≡ true → import_at (filter (λ row. p row.local) rows) name ≡ import_at rows name
import_left p [] name passes = refl
import_left p (row ∷ rows) name passes = go (p row.local) (bytes_eq row.local name) refl refl (import_left p rows name passes)
  where
    go : (a b : Bool) → p row.local ≡ a → bytes_eq row.local name ≡ b → import_at (filter (λ row. p row.local) rows) name ≡ import_at rows name →
        import_at (cond a (row ∷ filter (λ row. p row.local) rows) (filter (λ row. p row.local) rows)) name ≡ cond b (Some row) (import_at rows name)
    go true true e f rest = ap (λ (c : Bool). cond c (Some row) (import_at (filter (λ row. p row.local) rows) name)) f
    go true false e f rest = ap (λ (c : Bool). cond c (Some row) (import_at (filter (λ row. p row.local) rows) name)) f ∙ rest
    go false true e f rest = absurd (let g : p row.local ≡ p name = ap p ((bytes_decides row.local name).0 f) in let h : false ≡ true = sym e ∙ g ∙ passes in cc)
    go false false e f rest = rest
