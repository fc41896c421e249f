-- The function `below` is the relation.
use Rattle.std.proofs.Common.{◌≡◌, Bool, true, false, ◌∷◌, refl, sym}
use Rattle.std.specs.Prelude.{IsTrue, ◌↔◌}
use Rattle.type_values.specs.declared.types.FlowType.{FlowType}
use Rattle.type_values.specs.declared.types.FlowType as made
use Rattle.alias_table.specs.Table.{types_in, unfolded}
use Rattle.alias_table.specs.declared.table.AliasTable.{AliasTable}
use Rattle.subtyping.specs.Closed.{IsBelow}
use Rattle.subtyping.proofs.TableNames.{table_has}
use Rattle.subtyping.proofs.Decided.{decided}
use Rattle.subtype_rules.specs.Answer.{below}

pub below_is : (table : AliasTable) (a b : FlowType) → IsTrue (below table a b) ↔ IsBelow (unfolded table) a b
unfolding below
below_is table a b = (decided (unfolded table) (made.Any ∷ types_in table) (table_has table) a b).1

same_truth : (a b : Bool) → (a ≡ true → b ≡ true) → (b ≡ true → a ≡ true) → a ≡ b
same_truth true b f g = sym (f refl)
same_truth false true f g = g refl
same_truth false false f g = refl

-- an answer that tells the relation is the function's
pub told_below : (table : AliasTable) (a b : FlowType) (answer : Bool) → IsTrue answer ↔ IsBelow (unfolded table) a b → answer ≡ below table a b
told_below table a b answer told =
    let is = below_is table a b in
    same_truth answer (below table a b) (λ t. is.1 (told.0 t)) (λ t. told.1 (is.0 t))
