-- What is found among the names of a stack, and what changes there.
use Rattle.std.proofs.Common.{◌≡◌, ℕ, Bool, true, false, ◌||◌, ◌==◌, List, [], ◌∷◌, ◌++◌, ◌≤◌, map, drop, length, slice_get, Option, Some, None, is_some, cond, bytes_eq, refl, sym, ap, ◌∙◌}
use Rattle.std.specs.List.{list_any}
use Rattle.std.proofs.lemmas.List.{drop-append-le}
use Rattle.std.specs.Option.{option_map}
use Rattle.check_values.specs.Rows.{Bytes}
use Rattle.type_values.specs.declared.types.FlowType.{FlowType}
use Rattle.typing.specs.Names as typing
use Rattle.scopes.specs.Stack.{one_further, last_at}
use Rattle.scopes.specs.Rows.{binding_view, names_onto, names_view, has_name, declared_row}
use Rattle.scopes.specs.declared.row.Row.{Row}

onto_more : (names : List typing.Binding) (rows : List Row) (row : Row) → names_onto names (rows ++ row ∷ []) ≡ binding_view row.binding ∷ names_onto names rows
onto_more names [] row = refl
onto_more names (r ∷ rows) row = onto_more (binding_view r.binding ∷ names) rows row

-- one name more
pub view_more : (rows : List Row) (row : Row) → names_view (rows ++ row ∷ []) ≡ binding_view row.binding ∷ names_view rows
unfolding names_view
view_more rows row = onto_more [] rows row

pub view_none : names_view [] ≡ []
unfolding names_view
view_none = refl

-- ---- what is found

abbrev pub found_in : Option ℕ → Option typing.Binding → List Row → Option typing.Binding
found_in None other rows = other
found_in (Some at) other rows = option_map (λ (row : Row). binding_view row.binding) (slice_get rows at)

found_onto : (names : List typing.Binding) (rows : List Row) (name : Bytes) → typing.binding_of (names_onto names rows) name ≡ found_in (last_at (has_name name) rows) (typing.binding_of names name) rows
found_onto names [] name = refl
found_onto names (r ∷ rows) name = found_onto (binding_view r.binding ∷ names) rows name ∙ go (last_at (has_name name) rows) (bytes_eq r.binding.name name)
  where
    go : (o : Option ℕ) (b : Bool) → found_in o (cond b (Some (binding_view r.binding)) (typing.binding_of names name)) rows ≡ found_in (one_further o (cond b (Some 0) None)) (typing.binding_of names name) (r ∷ rows)
    go (Some at) b = refl
    go None true = refl
    go None false = refl

pub found : (rows : List Row) (name : Bytes) → typing.binding_of (names_view rows) name ≡ found_in (last_at (has_name name) rows) None rows
unfolding names_view
found rows name = found_onto [] rows name

-- ---- whether any passes a test

any_onto : (test : typing.Binding → Bool) (names : List typing.Binding) (rows : List Row) → list_any test (names_onto names rows) ≡ (list_any (λ (row : Row). test (binding_view row.binding)) rows || list_any test names)
any_onto test names [] = refl
any_onto test names (r ∷ rows) = any_onto test (binding_view r.binding ∷ names) rows ∙ go (test (binding_view r.binding)) (list_any (λ (row : Row). test (binding_view row.binding)) rows)
  where
    go : (a b : Bool) → b || (a || list_any test names) ≡ (a || b) || list_any test names
    go true true = refl
    go true false = refl
    go false true = refl
    go false false = refl

pub any_seen : (test : typing.Binding → Bool) (rows : List Row) → list_any test (names_view rows) ≡ list_any (λ (row : Row). test (binding_view row.binding)) rows
unfolding names_view
any_seen test rows = any_onto test [] rows ∙ go (list_any (λ (row : Row). test (binding_view row.binding)) rows)
  where
    go : (b : Bool) → b || false ≡ b
    go true = refl
    go false = refl

binds_any : (names : List typing.Binding) (name : Bytes) → typing.binds names name ≡ list_any (λ (b : typing.Binding). bytes_eq b.name name) names
binds_any [] name = refl
binds_any (b ∷ names) name = go (bytes_eq b.name name) (binds_any names name)
  where
    go : (e : Bool) → typing.binds names name ≡ list_any (λ (b : typing.Binding). bytes_eq b.name name) names → is_some (cond e (Some b) (typing.binding_of names name)) ≡ e || list_any (λ (b : typing.Binding). bytes_eq b.name name) names
    go true rest = refl
    go false rest = rest

-- a name is bound where a row has it
pub bound_seen : (rows : List Row) (name : Bytes) → typing.binds (names_view rows) name ≡ list_any (has_name name) rows
bound_seen rows name = binds_any (names_view rows) name ∙ any_seen (λ (b : typing.Binding). bytes_eq b.name name) rows

-- ---- changes

onto_changed : (f : typing.Binding → typing.Binding) (g : Row → Row) → ((row : Row) → binding_view (g row).binding ≡ f (binding_view row.binding)) → (names : List typing.Binding) (rows : List Row) → map f (names_onto names rows) ≡ names_onto (map f names) (map g rows)
onto_changed f g same names [] = refl
onto_changed f g same names (r ∷ rows) = onto_changed f g same (binding_view r.binding ∷ names) rows ∙ ap (λ (b : typing.Binding). names_onto (b ∷ map f names) (map g rows)) (sym (same r))

-- a row once the declaration of the name with a number was read
abbrev pub row_read : ℕ → FlowType → Row → Row
row_read number t row = cond (row.binding.number == number) (declared_row true (Some t) row) row

read_same : (number : ℕ) (t : FlowType) (row : Row) → binding_view (row_read number t row).binding ≡ typing.binding_read number t (binding_view row.binding)
read_same number t row = go (row.binding.number == number)
  where
    go : (b : Bool) → binding_view (cond b (declared_row true (Some t) row) row).binding ≡ cond b (record (binding_view row.binding) { is_read = true; declared = Some t }) (binding_view row.binding)
    go true = refl
    go false = refl

pub read_seen : (number : ℕ) (t : FlowType) (rows : List Row) → names_view (map (row_read number t) rows) ≡ map (typing.binding_read number t) (names_view rows)
unfolding names_view
read_seen number t rows = sym (onto_changed (typing.binding_read number t) (row_read number t) (read_same number t) [] rows)

-- ---- a scope by its names

abbrev pub seen_as : ℕ → Option FlowType → List typing.Binding → typing.Scope
seen_as depth result names = record { names = names; depth = depth; result = result }

pub none_seen : (rows : List Row) → rows ≡ [] → seen_as 0 None (names_view rows) ≡ seen_as 0 None []
none_seen rows none = ap (seen_as 0 None) (ap names_view none ∙ view_none)

pub bound_scope : (depth : ℕ) (result : Option FlowType) (rows before after : List Row) (row : Row) → after ≡ before ++ row ∷ [] → before ≡ rows → seen_as depth result (names_view after) ≡ seen_as depth result (binding_view row.binding ∷ names_view rows)
bound_scope depth result rows before after row grown same =
    ap (seen_as depth result) (ap names_view (grown ∙ ap (λ (l : List Row). l ++ row ∷ []) same) ∙ view_more rows row)

pub bound_since : (k : ℕ) (rows before after : List Row) (row : Row) → after ≡ before ++ row ∷ [] → before ≡ rows → k ≤ length rows → names_view (drop k after) ≡ binding_view row.binding ∷ names_view (drop k rows)
bound_since k rows before after row grown same within =
    ap names_view (ap (drop k) (grown ∙ ap (λ (l : List Row). l ++ row ∷ []) same) ∙ drop-append-le k rows (row ∷ []) within) ∙ view_more (drop k rows) row

pub same_scope : (depth before : ℕ) (result wanted : Option FlowType) (names known : List typing.Binding) → depth ≡ before → result ≡ wanted → names ≡ known → seen_as depth result names ≡ seen_as before wanted known
same_scope depth before result wanted names known first second third =
    ap (λ (d : ℕ). seen_as d result names) first ∙ ap (λ (r : Option FlowType). seen_as before r names) second ∙ ap (seen_as before wanted) third
