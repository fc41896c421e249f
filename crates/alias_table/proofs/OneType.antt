-- Rows unfold each name to one type, and a table that was built from them tells it.
use Rattle.std.proofs.Common.{◌≡◌, inl, inr, Bool, true, false, List, Option, Some, None, unwrap_or, if◌then◌else◌, refl, sym, ◌∙◌}
use Rattle.type_values.specs.declared.types.FlowType.{FlowType}
use Rattle.type_values.specs.declared.types.FlowType as made
use Rattle.alias_table.specs.Aliases.{Row, Key, alias_type, IsCyclic}
use Rattle.alias_table.specs.Unfolding.{UnfoldsTo, cyclic, missing, plain}
use Rattle.alias_table.proofs.Graph.{none_some}
use Rattle.alias_table.proofs.Reaching.{row_cyclic}

pub some_type : (rows : List Row) (key : Key) → (t : FlowType) × UnfoldsTo rows key t
some_type rows key = elim (row_cyclic rows key) [ inl cycle ↦ (made.Any, cyclic cycle refl) | inr never ↦ go never (alias_type rows key) refl ]
  where
    go : ¬ (IsCyclic (alias_type rows) key) → (o : Option FlowType) → alias_type rows key ≡ o → (t : FlowType) × UnfoldsTo rows key t
    go never None is = (made.Any, missing is refl)
    go never (Some t) is = (t, plain never is)

pub one_type : (rows : List Row) (key : Key) (t u : FlowType) → UnfoldsTo rows key t → UnfoldsTo rows key u → t ≡ u
one_type rows key t u (cyclic c e) (cyclic d f) = e ∙ sym f
one_type rows key t u (cyclic c e) (missing d f) = e ∙ sym f
one_type rows key t u (cyclic c e) (plain never is) = absurd (never c)
one_type rows key t u (missing c e) (cyclic d f) = e ∙ sym f
one_type rows key t u (missing c e) (missing d f) = e ∙ sym f
one_type rows key t u (missing c e) (plain never is) = none_some u (sym c ∙ is)
one_type rows key t u (plain never is) (cyclic d f) = absurd (never d)
one_type rows key t u (plain never is) (missing d f) = none_some t (sym d ∙ is)
one_type rows key t u (plain never is) (plain off at) = let both : Some t ≡ Some u = sym is ∙ at in cc

-- what a table tells by a mark and a type
pub table_unfolds : (rows : List Row) (key : Key) (mark : Bool) (own : Option FlowType) → (mark ≡ true → IsCyclic (alias_type rows) key) × (IsCyclic (alias_type rows) key → mark ≡ true) → own ≡ alias_type rows key →
    UnfoldsTo rows key (if mark then made.Any else unwrap_or own made.Any)
table_unfolds rows key true own right is = cyclic (right.0 refl) refl
table_unfolds rows key false None right is = missing (sym is) refl
table_unfolds rows key false (Some t) right is = plain (λ cycle. let both : false ≡ true = right.1 cycle in cc) (sym is)
