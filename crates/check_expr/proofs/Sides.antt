-- The right side of an operator that is read whatever the left one is.
use Rattle.std.proofs.Common.{◌≡◌, ℕ, Bool, true, [], ◌∷◌, Option, Some, None, refl, sym, ap, ◌∙◌}
use Rattle.js_grammar.specs.Code.{Ex, Operator, nullish, or, and, strict_equal, strict_not_equal, loose_equal, loose_not_equal, less, greater, less_or_equal, greater_or_equal, add, subtract, multiply, divide, remainder, operand, Operand as Side, OperandForm, right_side}
use Rattle.code_tree.specs.Flat.{operator_view}
use Rattle.code_tree.specs.View.{expr_view, operand_view}
use Rattle.code_tree.specs.declared.types.Expr.{Expr}
use Rattle.code_tree.specs.declared.types.Operand.{Operand as TreeOperand, out-Operand}
use Rattle.code_tree.specs.declared.types.OperandForm as operand_form
use Rattle.code_tree.specs.declared.types.Operator.{Operator as TreeOperator}
use Rattle.code_tree.specs.declared.types.Operator.TheVariants as tree
use Rattle.type_tree.specs.declared.types.TypeTree.{TypeTree}
use Rattle.type_values.specs.declared.types.FlowType.{FlowType}
use Rattle.flow_facts.specs.declared.place.Place.{Place}
use Rattle.typing.specs.Names.{Scope}
use Rattle.typing.specs.States.{World, Now, Out, after, plainly}
use Rattle.typing.specs.Forms.{right_now, operator_out}
use Rattle.typing.specs.Typing.{read}
use Rattle.flow_facts.specs.Known.{Known}
use Rattle.fact_ways.specs.declared.fork.Fork.{Fork}
use Rattle.fact_ways.specs.Ways.{AreNested, way_of}
use Rattle.fact_ways.proofs.Marks.{goes_through}
use Rattle.fact_ways.proofs.Nests.{nested_on, ways_on, outermost_on, fits_stands}
use Rattle.check_moves.specs.Follows.{Follows}
use Rattle.check_moves.proofs.Following.{heights_twice}
use Rattle.check_moves.specs.declared.state.State.{State}
use Rattle.check_moves.specs.declared.state.Read.{Read}
use Rattle.check_moves.specs.View.{around, scope, now, told}
use Rattle.expression_moves.specs.Moves.{is_plain}
use Rattle.check_expr.specs.Runs.{run_of, side_out}
use Rattle.check_expr.proofs.Views.{operand_is, operand_form_as, operand_form_right}

-- an operator that goes on no chain of `&&` or of `||` and is not `??`
plain_other : (f t : ℕ) (op : TreeOperator) (e : Ex) → run_of (operand f t (right_side (operator_view op) e)) ≡ None → (op ≡ tree.Nullish → ⊥) → is_plain (operator_view op) ≡ true
plain_other f t tree.Nullish e other differs = absurd (differs refl)
plain_other f t tree.Or e other differs = absurd (cc)
plain_other f t tree.And e other differs = absurd (cc)
plain_other f t tree.StrictEqual e other differs = refl
plain_other f t tree.StrictNotEqual e other differs = refl
plain_other f t tree.LooseEqual e other differs = refl
plain_other f t tree.LooseNotEqual e other differs = refl
plain_other f t tree.Less e other differs = refl
plain_other f t tree.Greater e other differs = refl
plain_other f t tree.LessOrEqual e other differs = refl
plain_other f t tree.GreaterOrEqual e other differs = refl
plain_other f t tree.Add e other differs = refl
plain_other f t tree.Subtract e other differs = refl
plain_other f t tree.Multiply e other differs = refl
plain_other f t tree.Divide e other differs = refl
plain_other f t tree.Remainder e other differs = refl

pub plain_operand : (x : TreeOperand) (op : TreeOperator) (y : Expr) → (out-Operand x).form ≡ operand_form.Right op y → run_of (operand_view x) ≡ None → (op ≡ tree.Nullish → ⊥) → is_plain (operator_view op) ≡ true
plain_operand x op y form other differs =
    plain_other (out-Operand x).first (out-Operand x).end op (expr_view y)
    (sym (ap run_of (operand_is x) ∙ ap (λ (v : OperandForm). run_of (operand (out-Operand x).first (out-Operand x).end v)) (operand_form_right (out-Operand x).form op y form)) ∙ other) differs

right_plain : (w : World) (op : Operator) (place : Option Place) (a : Out) → is_plain op ≡ true → right_now w op place a ≡ after a
right_plain w nullish place a plain = absurd (cc)
right_plain w or place a plain = absurd (cc)
right_plain w and place a plain = absurd (cc)
right_plain w strict_equal place a plain = refl
right_plain w strict_not_equal place a plain = refl
right_plain w loose_equal place a plain = refl
right_plain w loose_not_equal place a plain = refl
right_plain w less place a plain = refl
right_plain w greater place a plain = refl
right_plain w less_or_equal place a plain = refl
right_plain w greater_or_equal place a plain = refl
right_plain w add place a plain = refl
right_plain w subtract place a plain = refl
right_plain w multiply place a plain = refl
right_plain w divide place a plain = refl
right_plain w remainder place a plain = refl

-- both sides were read, the right one behind the left one
pub operator_told : (w : World) (f at t : ℕ) (op : Operator) (e : Ex) (place : Option Place) (left right : Read) (a b c : State) → is_plain op ≡ true →
    now b ≡ after (told left a) → around b ≡ around a → told right c ≡ read w e (scope b) None (now b) →
    operator_out w f at t op (told left a) (told right c) ≡ operator_out w f at t op (told left a) (read w e (scope a) None (right_now w op place (told left a)))
operator_told w f at t op e place left right a b c plain on same is =
    ap (operator_out w f at t op (told left a))
    (is ∙ (λ i. read w e (same i).scope None ((on ∙ sym (right_plain w op place (told left a) plain)) i)))

-- a type behind `as` is no right side
pub side_as : (w : World) (is_and : Bool) (x : TreeOperand) (tree : TypeTree) (left : FlowType) (s : Scope) (n : Now) → (out-Operand x).form ≡ operand_form.As tree → plainly left n ≡ side_out w is_and (operand_view x) left s n
side_as w is_and x tree left s n is =
    sym (ap (λ (v : Side). side_out w is_and v left s n) (operand_is x) ∙ ap (λ (v : OperandForm). side_out w is_and (operand (out-Operand x).first (out-Operand x).end v) left s n) (operand_form_as (out-Operand x).form tree is))

-- ---- the right side of `??`, behind the left one's way

-- the left one's way stands round the right one's ways
pub nullish_nested : (from r : Option Fork) (k : Fork) (a b c : State) → Follows from a (Some k) b → Follows None b r c → AreNested (k ∷ []) r c.facts
nullish_nested from r k a b c parts goes = nested_on (k ∷ []) None r b.facts c.facts goes.leads.goes (fits_stands k b.facts parts.leads.fits, tt)

-- and is the same
pub nullish_way : (from r : Option Fork) (k : Fork) (a b c : State) → Follows from a (Some k) b → Follows None b r c → way_of c.facts k ≡ way_of b.facts k
nullish_way from r k a b c parts goes =
    first_same (way_of c.facts k) (way_of b.facts k) (ways_on (k ∷ []) None r b.facts c.facts goes.leads.goes (fits_stands k b.facts parts.leads.fits, tt))
  where
    first_same : (x y : Known) → x ∷ [] ≡ y ∷ [] → x ≡ y
    first_same x y is = cc

pub nullish_follows : (from r s : Option Fork) (k : Fork) (a b c d : State) → Follows from a (Some k) b → Follows None b r c → Follows (Some k) c s d → Follows from a s d
nullish_follows from r s k a b c d parts goes ends = record {
  leads = record {
    fits = ends.leads.fits;
    goes = goes_through from (Some k) s a.facts c.facts d.facts
        (goes_through from (Some k) (Some k) a.facts b.facts c.facts parts.leads.goes (outermost_on (k ∷ []) None r b.facts c.facts goes.leads.goes (fits_stands k b.facts parts.leads.fits, tt))) ends.leads.goes;
  };
  heights = heights_twice a.scope c.scope d.scope (heights_twice a.scope b.scope c.scope parts.heights goes.heights) ends.heights;
}
