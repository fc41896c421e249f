-- What the names of a table unfold to stands in a finite list.
use Rattle.std.proofs.Common.{◌≡◌, Bool, true, false, List, [], ◌∷◌, map, unwrap_or, Option, Some, None, Contains, refl, sym, subst, if◌then◌else◌}
use Rattle.type_values.specs.declared.types.FlowType.{FlowType}
use Rattle.type_values.specs.declared.types.FlowType as made
use Rattle.alias_table.specs.Aliases.{Row, Key, row_type, is_row_of, alias_type}
use Rattle.alias_table.specs.Table.{rows_in, types_in, unfolded, is_marked, alias_of}
use Rattle.alias_table.specs.declared.table.AliasTable.{AliasTable}
use Rattle.subtyping.specs.Closed.{IsBelow}
use Rattle.subtyping.proofs.Whole.{here, there}
use Rattle.subtyping.proofs.Itself.{below_itself}

-- the type of an alias stands in one of the rows
type_in : (rows : List Row) (key : Key) (t : FlowType) → alias_type rows key ≡ Some t → Contains (map row_type rows) t
type_in [] key t is = cc
type_in (row ∷ rows) key t is = go (is_row_of key row) is (type_in rows key t)
  where
    go : (b : Bool) → (if b then Some row.2 else alias_type rows key) ≡ Some t → (alias_type rows key ≡ Some t → Contains (map row_type rows) t) → Contains (map row_type (row ∷ rows)) t
    go true first rest = let same : row.2 ≡ t = cc in subst (λ (u : FlowType). Contains (u ∷ map row_type rows) t) (sym same) (here t (map row_type rows))
    go false first rest = there row.2 t (map row_type rows) (rest first)

-- what a table's names unfold to
pub table_has : (table : AliasTable) (key : Key) → Contains (made.Any ∷ types_in table) (unfolded table key)
table_has table key = by_mark (is_marked table key)
  where
    by_type : (o : Option FlowType) → ((t : FlowType) → o ≡ Some t → Contains (types_in table) t) → Contains (made.Any ∷ types_in table) (unwrap_or o made.Any)
    by_type None from = here made.Any (types_in table)
    by_type (Some t) from = there made.Any t (types_in table) (from t refl)

    by_mark : (b : Bool) → Contains (made.Any ∷ types_in table) (if b then made.Any else unwrap_or (alias_of table key) made.Any)
    by_mark true = here made.Any (types_in table)
    by_mark false = by_type (alias_of table key) (λ t is. type_in (rows_in table) key t is)

pub table_itself : (table : AliasTable) (t : FlowType) → IsBelow (unfolded table) t t
table_itself table t = below_itself (unfolded table) (made.Any ∷ types_in table) (table_has table) t
