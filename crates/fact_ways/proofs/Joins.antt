-- Joins of many facts, in whatever order.
use Rattle.std.proofs.Common.{◌≡◌, List, [], ◌∷◌, Option, Some, None, refl, ap, ◌∙◌}
use Rattle.type_values.specs.declared.types.FlowType.{FlowType}
use Rattle.flow_facts.specs.Known.{Known, both, joined}
use Rattle.fact_ways.specs.Ways.{all_joined}
use Rattle.type_joins.proofs.Joins.{join_twice}

both_twice : (x y z : Option FlowType) → both (both x y) z ≡ both x (both y z)
both_twice None y z = refl
both_twice (Some a) None z = refl
both_twice (Some a) (Some b) None = refl
both_twice (Some a) (Some b) (Some c) = ap Some (join_twice a b c)

pub joined_twice : (f g h : Known) → joined (joined f g) h ≡ joined f (joined g h)
joined_twice None g h = refl
joined_twice (Some m) None h = refl
joined_twice (Some m) (Some n) None = refl
joined_twice (Some m) (Some n) (Some o) = ap Some (λ i q. both_twice (m q) (n q) (o q) i)

-- what is joined last may be joined first
pub all_joined_last : (ways : List Known) (f g : Known) → joined (all_joined ways f) g ≡ all_joined ways (joined f g)
all_joined_last [] f g = refl
all_joined_last (way ∷ ways) f g = all_joined_last ways (joined way f) g ∙ ap (all_joined ways) (joined_twice way f g)
