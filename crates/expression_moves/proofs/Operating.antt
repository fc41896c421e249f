-- Operators and conditionals, once all parts were read.
use Rattle.std.proofs.Common.{◌≡◌, ℕ, true, [], ◌∷◌, Option, Some, None, refl, sym, ap, ◌∙◌}
use Rattle.js_grammar.specs.Code.{Operator, nullish, or, and, strict_equal, strict_not_equal, loose_equal, loose_not_equal, less, greater, less_or_equal, greater_or_equal, add, subtract, multiply, divide, remainder}
use Rattle.type_values.specs.declared.types.FlowType.{FlowType}
use Rattle.type_terms.specs.Join.{join_of}
use Rattle.flow_facts.specs.declared.place.Place.{Place}
use Rattle.flow_facts.specs.declared.test.Test as test
use Rattle.flow_facts.specs.Known.{joined}
use Rattle.flow_facts.specs.Narrowing.{narrowed}
use Rattle.refine_flow.specs.Standing.{known}
use Rattle.check_world.specs.View.{notes_view}
use Rattle.typing.specs.States.{World, Now, Out, after, noted_out}
use Rattle.typing.specs.Forms.{nullish_now, nullish_out, operator_out, sum_type, sum_found, choices_out}
use Rattle.part_steps.specs.Operators.{type_of_operator, asked_by_operator, type_of_sum, asked_by_sum}
use Rattle.fact_ways.specs.declared.fork.Fork.{Fork}
use Rattle.fact_ways.specs.Ways.{AreNested, way_of}
use Rattle.check_moves.specs.declared.state.State.{State}
use Rattle.check_moves.specs.declared.state.Read.{Read}
use Rattle.expression_moves.specs.declared.branches.Chosen.{Chosen}
use Rattle.check_moves.specs.View.{now, told}
use Rattle.check_moves.specs.Follows.{Follows}
use Rattle.expression_moves.specs.Moves.{is_plain, nullish_from, chosen_view}
use Rattle.expression_moves.proofs.Rounds.{way_round}

-- ---- `??`

-- the right side is read where the left one is null or void
from_nullish : (w : World) (place : Option Place) (a : Out) → nullish_from w place a.ty (after a) ≡ nullish_now w place a
from_nullish w None a = refl
from_nullish w (Some p) a = refl

pub nullish_begun : (w : World) (place : Option Place) (left : Read) (ty : FlowType) (a b c d : State) → ty ≡ left.ty → now b ≡ after (told left a) → now c ≡ now b →
    now d ≡ nullish_from w place ty (now c) → now d ≡ nullish_now w place (told left a)
unfolding told
nullish_begun w place left ty a b c d own behind stood is =
    is ∙ (λ i. nullish_from w place (own i) ((stood ∙ behind) i)) ∙ from_nullish w place (told left a)

-- the facts behind the left side are kept as an arm
pub arm_begun : (left : Read) (k : Fork) (a b c d : State) → now b ≡ after (told left a) → way_of c.facts k ≡ known b.facts → way_of d.facts k ≡ way_of c.facts k →
    way_of d.facts k ≡ (after (told left a)).facts
unfolding now
arm_begun left k a b c d behind stood kept = kept ∙ stood ∙ ap (λ (n : Now). n.facts) behind

pub nullish_ended : (w : World) (o : Out) (right : Read) (k : Fork) (left u ty : FlowType) (a b c : State) → o.ty ≡ left → (after o).facts ≡ way_of a.facts k →
    AreNested (k ∷ []) right.fork a.facts → now b ≡ after (told right a) → u ≡ right.ty → Follows right.fork a None b →
    now c ≡ record (now b) { facts = joined (way_of b.facts k) (known b.facts) } → ty ≡ join_of (narrowed w.members test.NotNullish left ∷ u ∷ []) →
    told (record { ty = ty; fork = None }) c ≡ nullish_out w o (told right a)
unfolding told now
nullish_ended w o right k left u ty a b c own way nested behind same inside met is =
    let type : ty ≡ join_of (narrowed w.members test.NotNullish o.ty ∷ right.ty ∷ []) =
    is ∙ (λ i. join_of (narrowed w.members test.NotNullish (sym own i) ∷ same i ∷ [])) in
    let facts : known c.facts ≡ joined (after o).facts (after (told right a)).facts =
    ap (λ (n : Now). n.facts) met ∙ (λ i. joined ((way_round k right.fork a b nested inside ∙ sym way) i) (behind i).facts) in
    let notes : notes_view c.notes ≡ (told right a).notes = ap (λ (n : Now). n.notes) met ∙ ap (λ (n : Now). n.notes) behind in
    λ i. record { ty = type i; yes = facts i; no = None; notes = notes i }

-- ---- conditionals

pub branch_met : (w : World) (t : ℕ) (branch : Chosen) (rest r : Read) (u ty : FlowType) (a b c d : State) → AreNested (branch.fork ∷ []) rest.fork a.facts →
    now b ≡ after (told rest a) → u ≡ rest.ty → Follows rest.fork a None b →
    now c ≡ record (now b) { facts = joined (way_of b.facts branch.fork) (known b.facts) } → ty ≡ join_of (branch.ty ∷ u ∷ []) →
    told r d ≡ noted_out w branch.first t (told (record { ty = ty; fork = None }) c) → told r d ≡ choices_out w t (chosen_view a.facts branch ∷ []) (told rest a)
unfolding told now
branch_met w t branch rest r u ty a b c d nested behind same inside met is noted =
    let type : ty ≡ join_of (branch.ty ∷ rest.ty ∷ []) = is ∙ (λ i. join_of (branch.ty ∷ same i ∷ [])) in
    let facts : known c.facts ≡ joined (way_of a.facts branch.fork) (after (told rest a)).facts =
    ap (λ (n : Now). n.facts) met ∙ (λ i. joined (way_round branch.fork rest.fork a b nested inside i) (behind i).facts) in
    let notes : notes_view c.notes ≡ (told rest a).notes = ap (λ (n : Now). n.notes) met ∙ ap (λ (n : Now). n.notes) behind in
    noted ∙ (λ i. noted_out w branch.first t (record { ty = type i; yes = facts i; no = None; notes = notes i }))

-- ---- the other operators

sum_is : (w : World) (f t : ℕ) (a b : FlowType) (n : Now) (sum : Option FlowType) →
    record { ty = type_of_sum sum; yes = n.facts; no = None; notes = asked_by_sum w f t a b sum n.notes } ≡ sum_found w f t a b n sum
sum_is w f t a b n None = refl
sum_is w f t a b n (Some s) = refl

operator_is : (w : World) (f at t : ℕ) (op : Operator) (a b : Out) → is_plain op ≡ true →
    record { ty = type_of_operator w op a.ty b.ty; yes = (after b).facts; no = None; notes = asked_by_operator w f at t op a.ty b.ty b.notes } ≡ operator_out w f at t op a b
operator_is w f at t nullish a b plain = absurd (cc)
operator_is w f at t or a b plain = absurd (cc)
operator_is w f at t and a b plain = absurd (cc)
operator_is w f at t strict_equal a b plain = refl
operator_is w f at t strict_not_equal a b plain = refl
operator_is w f at t loose_equal a b plain = refl
operator_is w f at t loose_not_equal a b plain = refl
operator_is w f at t less a b plain = refl
operator_is w f at t greater a b plain = refl
operator_is w f at t less_or_equal a b plain = refl
operator_is w f at t greater_or_equal a b plain = refl
operator_is w f at t add a b plain = sum_is w f t a.ty b.ty (after b) (sum_type w a.ty b.ty)
operator_is w f at t subtract a b plain = refl
operator_is w f at t multiply a b plain = refl
operator_is w f at t divide a b plain = refl
operator_is w f at t remainder a b plain = refl

pub operator_read : (w : World) (f at t : ℕ) (op : Operator) (o : Out) (right : Read) (left u ty : FlowType) (a b c : State) → is_plain op ≡ true → o.ty ≡ left →
    now b ≡ after (told right a) → u ≡ right.ty → c.facts ≡ b.facts → ty ≡ type_of_operator w op left u →
    notes_view c.notes ≡ asked_by_operator w f at t op left u (notes_view b.notes) → told (record { ty = ty; fork = None }) c ≡ operator_out w f at t op o (told right a)
unfolding told now
operator_read w f at t op o right left u ty a b c plain own behind same kept is asked =
    let type : ty ≡ type_of_operator w op o.ty right.ty = is ∙ (λ i. type_of_operator w op (sym own i) (same i)) in
    let facts : known c.facts ≡ (after (told right a)).facts = ap known kept ∙ ap (λ (n : Now). n.facts) behind in
    let notes : notes_view c.notes ≡ asked_by_operator w f at t op o.ty right.ty (told right a).notes =
    asked ∙ (λ i. asked_by_operator w f at t op (sym own i) (same i) (behind i).notes) in
    (λ i. record { ty = type i; yes = facts i; no = None; notes = notes i }) ∙ operator_is w f at t op o (told right a) plain
