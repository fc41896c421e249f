-- `&&` and `||` as one, by which of them it is.
use Rattle.std.proofs.Common.{◌≡◌, Bool, true, false, List, Option, Some, sym, ap, ◌∙◌}
use Rattle.type_values.specs.declared.types.FlowType.{FlowType}
use Rattle.flow_facts.specs.Known.{Known}
use Rattle.refine_flow.specs.Standing.{known}
use Rattle.fact_ways.specs.declared.fork.Fork.{Fork}
use Rattle.fact_ways.specs.Ways.{yes_of, way_of, ways_of, all_joined}
use Rattle.check_moves.specs.declared.state.State.{State}
use Rattle.check_moves.specs.View.{now, told}
use Rattle.expression_moves.specs.Moves.{goes_on, leaving, met}
use Rattle.expression_moves.proofs.Ways.{parts_and, parts_or, leaves_and, leaves_or, met_and, met_or}

pub goes_and : (is_and : Bool) (ty : FlowType) (fork : Option Fork) (k : Fork) (a mid b : State) → is_and ≡ true → now mid ≡ now a → way_of mid.facts k ≡ yes_of fork a.facts →
    now b ≡ record (now mid) { facts = way_of mid.facts k } → now b ≡ goes_on is_and (told (record { ty = ty; fork = fork }) a)
goes_and is_and ty fork k a mid b on same way is = parts_and ty fork k a mid b same way is ∙ ap (λ (it : Bool). goes_on it (told (record { ty = ty; fork = fork }) a)) (sym on)

pub goes_or : (is_and : Bool) (ty : FlowType) (fork : Option Fork) (a b : State) → is_and ≡ false → now b ≡ now a → now b ≡ goes_on is_and (told (record { ty = ty; fork = fork }) a)
goes_or is_and ty fork a b off same = parts_or ty fork a b same ∙ ap (λ (it : Bool). goes_on it (told (record { ty = ty; fork = fork }) a)) (sym off)

pub left_and : (is_and : Bool) (ty : FlowType) (fork : Option Fork) (a mid : State) (way : Known) → is_and ≡ true → now mid ≡ now a → way ≡ known mid.facts → way ≡ leaving is_and (told (record { ty = ty; fork = fork }) a)
left_and is_and ty fork a mid way on same is = leaves_and ty fork a mid way same is ∙ ap (λ (it : Bool). leaving it (told (record { ty = ty; fork = fork }) a)) (sym on)

pub left_or : (is_and : Bool) (ty : FlowType) (fork : Option Fork) (a : State) (way : Known) → is_and ≡ false → way ≡ yes_of fork a.facts → way ≡ leaving is_and (told (record { ty = ty; fork = fork }) a)
left_or is_and ty fork a way off is = leaves_or ty fork a way is ∙ ap (λ (it : Bool). leaving it (told (record { ty = ty; fork = fork }) a)) (sym off)

pub all_and : (is_and : Bool) (ty : FlowType) (last : Option Fork) (left : List Fork) (k j : Fork) (a b c : State) → is_and ≡ true → now b ≡ now a → way_of b.facts k ≡ yes_of last a.facts → ways_of b.facts left ≡ ways_of a.facts left →
    now c ≡ record (now b) { facts = all_joined (ways_of b.facts left) (known b.facts) } → way_of c.facts j ≡ way_of b.facts k →
    told (record { ty = ty; fork = Some j }) c ≡ met is_and (ways_of a.facts left) (told (record { ty = ty; fork = last }) a)
all_and is_and ty last left k j a b c on split way same meets arm =
    met_and ty last left k j a b c split way same meets arm ∙ ap (λ (it : Bool). met it (ways_of a.facts left) (told (record { ty = ty; fork = last }) a)) (sym on)

pub all_or : (is_and : Bool) (ty : FlowType) (last : Option Fork) (left : List Fork) (k l m j : Fork) (a b c d e : State) → is_and ≡ false → now b ≡ now a → way_of b.facts k ≡ yes_of last a.facts →
    now c ≡ record (now b) { facts = way_of b.facts k } → way_of c.facts l ≡ known b.facts → ways_of c.facts left ≡ ways_of a.facts left →
    now d ≡ record (now c) { facts = all_joined (ways_of c.facts left) (known c.facts) } → way_of d.facts m ≡ way_of c.facts l →
    now e ≡ record (now d) { facts = way_of d.facts m } → way_of e.facts j ≡ known d.facts →
    told (record { ty = ty; fork = Some j }) e ≡ met is_and (ways_of a.facts left) (told (record { ty = ty; fork = last }) a)
all_or is_and ty last left k l m j a b c d e off split way turned other same meets arm back again =
    met_or ty last left k l m j a b c d e split way turned other same meets arm back again ∙ ap (λ (it : Bool). met it (ways_of a.facts left) (told (record { ty = ty; fork = last }) a)) (sym off)
