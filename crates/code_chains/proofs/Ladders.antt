-- How the ladder goes on below an operator, and where none is open.
use Rattle.std.proofs.Common.{◌≡◌, refl, ◌∙◌, ap, ℕ, nat_eq, nat_le, nat_lt, ◌≤◌, ◌<◌, arith, true, false, [], ◌∷◌, cond}
use Rattle.std.proofs.lemmas.Bool.Decides.{nat_tests}
use Rattle.js_grammar.specs.Code as g
use Rattle.js_grammar.specs.Code.{Ex, ex, ExForm, Level, rank, operand_rank, form_rank, ex_rank, no_arm, no_operand, Arms, Operands}
use Rattle.code_law.specs.Frames as m
use Rattle.code_law.specs.Frames.{Stack, Step, fault, go, want, start_ex}
use Rattle.code_law.specs.Ladder.{Joint, ask, ask_test, join, begin, open_chain}
use Rattle.code_law.specs.Expressions.{may_arrow}
use Rattle.code_state.specs.Forms.{operator_frame_view}
use Rattle.code_state.specs.Stack.{nearest_of, is_last}
use Rattle.code_state.specs.declared.frames.OperatorFrame.{OperatorFrame}
use Rattle.code_state.specs.declared.frames.OperatorFrame.TheVariants as operator
use Rattle.code_chains.specs.Ended.{ended, chain_rank, stays_open}

pub ask-operator : (i : ℕ) (f : OperatorFrame) (k : Stack) (e : Ex) → ask i (operator_frame_view f ∷ k) e ≡ ask i k (ended i (operator_frame_view f) e)
ask-operator i (operator.Prefix s ps) k e = refl
ask-operator i (operator.Chain c d o) k e = refl

pub ask-outer : (i : ℕ) (k : Stack) (e : Ex) → may_arrow k ≡ true → is_last (nearest_of k) ≡ false → ask i k e ≡ ask_test k (start_ex e) no_arm e
ask-outer i [] e h l = refl
ask-outer i (m.in_prefix s1 ps1 ∷ k) e h l = absurd (let z : false ≡ true = h in cc)
ask-outer i (m.in_chain s1 p1 f1 os1 d1 o1 ∷ k) e h l = absurd (let z : false ≡ true = h in cc)
ask-outer i (m.in_last s1 hs1 ∷ k) e h l = absurd (let z : true ≡ false = l in cc)
ask-outer i (m.in_branch s1 hs1 e1 ∷ k) e h l = refl
ask-outer i (m.in_parens s1 ∷ k) e h l = refl
ask-outer i (m.in_row r1 es1 ∷ k) e h l = refl
ask-outer i (m.in_index e1 ls1 s1 ∷ k) e h l = refl
ask-outer i (m.in_field s1 fs1 y1 ∷ k) e h l = refl
ask-outer i (m.in_arrow g1 ∷ k) e h l = refl
ask-outer i (m.in_body g1 ∷ k) e h l = refl
ask-outer i (m.in_simple s1 v1 ∷ k) e h l = refl
ask-outer i (m.in_declaration s1 w1 n1 t1 ∷ k) e h l = refl
ask-outer i (m.in_if_test s1 bs1 a1 ∷ k) e h l = refl
ask-outer i (m.in_loop_test s1 ∷ k) e h l = refl
ask-outer i (m.in_if s1 bs1 a1 e1 ∷ k) e h l = refl
ask-outer i (m.in_else s1 bs1 ∷ k) e h l = refl
ask-outer i (m.in_loop s1 e1 ∷ k) e h l = refl
ask-outer i (m.in_function q1 s1 n1 g1 ∷ k) e h l = refl
ask-outer i (m.in_block s1 ss1 ∷ k) e h l = refl
ask-outer i (m.in_item a1 w1 is1 ∷ k) e h l = refl
ask-outer i (m.in_default a1 is1 ∷ k) e h l = refl

pub ask-arms : (i : ℕ) (s : ℕ) (hs : Arms) (k : Stack) (e : Ex) → ask i (m.in_last s hs ∷ k) e ≡ ask_test k s hs e
ask-arms i s hs k e = refl

pub join-outer : (i : ℕ) (k : Stack) (e : Ex) (p : Level) (w : Joint) → may_arrow k ≡ true → join i k e p w ≡ open_chain i k e p w
join-outer i [] e p w h = refl
join-outer i (m.in_prefix s1 ps1 ∷ k) e p w h = absurd (let z : false ≡ true = h in cc)
join-outer i (m.in_chain s1 p1 f1 os1 d1 o1 ∷ k) e p w h = absurd (let z : false ≡ true = h in cc)
join-outer i (m.in_last s1 hs1 ∷ k) e p w h = refl
join-outer i (m.in_branch s1 hs1 e1 ∷ k) e p w h = refl
join-outer i (m.in_parens s1 ∷ k) e p w h = refl
join-outer i (m.in_row r1 es1 ∷ k) e p w h = refl
join-outer i (m.in_index e1 ls1 s1 ∷ k) e p w h = refl
join-outer i (m.in_field s1 fs1 y1 ∷ k) e p w h = refl
join-outer i (m.in_arrow g1 ∷ k) e p w h = refl
join-outer i (m.in_body g1 ∷ k) e p w h = refl
join-outer i (m.in_simple s1 v1 ∷ k) e p w h = refl
join-outer i (m.in_declaration s1 w1 n1 t1 ∷ k) e p w h = refl
join-outer i (m.in_if_test s1 bs1 a1 ∷ k) e p w h = refl
join-outer i (m.in_loop_test s1 ∷ k) e p w h = refl
join-outer i (m.in_if s1 bs1 a1 e1 ∷ k) e p w h = refl
join-outer i (m.in_else s1 bs1 ∷ k) e p w h = refl
join-outer i (m.in_loop s1 e1 ∷ k) e p w h = refl
join-outer i (m.in_function q1 s1 n1 g1 ∷ k) e p w h = refl
join-outer i (m.in_block s1 ss1 ∷ k) e p w h = refl
join-outer i (m.in_item a1 w1 is1 ∷ k) e p w h = refl
join-outer i (m.in_default a1 is1 ∷ k) e p w h = refl

-- a chain of another level, or none, begins a new one where it binds enough
abbrev pub new_chain : ℕ → Stack → Ex → Level → Joint → Step
new_chain i k e p w = cond (nat_le (operand_rank p) (ex_rank e)) (begin i k (start_ex e) p e no_operand w) fault

eq_true : (a b : ℕ) → a ≡ b → nat_eq a b ≡ true
eq_true a b h = grind (arith, nat_tests)

eq_false : (a b : ℕ) → (a ≡ b → ⊥) → nat_eq a b ≡ false
eq_false a b h = grind (arith, nat_tests)

le_true : (a b : ℕ) → a ≤ b → nat_le a b ≡ true
le_true a b h = grind (arith, nat_tests)

le_false : (a b : ℕ) → b < a → nat_le a b ≡ false
le_false a b h = grind (arith, nat_tests)

lt_true : (a b : ℕ) → a < b → nat_lt a b ≡ true
lt_true a b h = grind (arith, nat_tests)

lt_false : (a b : ℕ) → b ≤ a → nat_lt a b ≡ false
lt_false a b h = grind (arith, nat_tests)

open-other : (i : ℕ) (k : Stack) (s t : ℕ) (x : ExForm) (p : Level) (w : Joint) → nat_eq (chain_rank x) (rank p) ≡ false → open_chain i k (ex s t x) p w ≡ new_chain i k (ex s t x) p w
open-other i k s t (g.variable n) p w h = refl
open-other i k s t (g.number n) p w h = refl
open-other i k s t (g.text n) p w h = refl
open-other i k s t (g.truth_value b) p w h = refl
open-other i k s t g.null_value p w h = refl
open-other i k s t (g.parens e) p w h = refl
open-other i k s t (g.elements es c) p w h = refl
open-other i k s t (g.fields fs c) p w h = refl
open-other i k s t (g.function_ex f) p w h = refl
open-other i k s t (g.postfixed e ls) p w h = refl
open-other i k s t (g.prefixed ps e) p w h = refl
open-other i k s t (g.chain q f os) p w h = rw h refl
open-other i k s t (g.cond hs e) p w h = refl
open-other i k s t (g.arrow f b) p w h = refl

-- an expression that is no chain of the level begins one, where it binds enough
pub open-new : (i : ℕ) (k : Stack) (s t : ℕ) (x : ExForm) (p : Level) (w : Joint) → (chain_rank x ≡ rank p → ⊥) → operand_rank p ≤ form_rank x → open_chain i k (ex s t x) p w ≡ begin i k s p (ex s t x) no_operand w
open-new i k s t x p w h n = open-other i k s t x p w (eq_false (chain_rank x) (rank p) h) ∙ ap (λ b. cond b (begin i k s p (ex s t x) no_operand w) fault) (le_true (operand_rank p) (form_rank x) n)

pub open-none : (i : ℕ) (k : Stack) (s t : ℕ) (x : ExForm) (p : Level) (w : Joint) → (chain_rank x ≡ rank p → ⊥) → form_rank x < operand_rank p → open_chain i k (ex s t x) p w ≡ fault
open-none i k s t x p w h n = open-other i k s t x p w (eq_false (chain_rank x) (rank p) h) ∙ ap (λ b. cond b (begin i k s p (ex s t x) no_operand w) fault) (le_false (operand_rank p) (form_rank x) n)

pub open-same : (i : ℕ) (k : Stack) (s t : ℕ) (q : Level) (f : Ex) (os : Operands) (p : Level) (w : Joint) → rank q ≡ rank p → open_chain i k (ex s t (g.chain q f os)) p w ≡ begin i k s p f os w
open-same i k s t q f os p w h = rw (eq_true (rank q) (rank p) h) refl

-- a test is no arrow
pub test-yes : (k : Stack) (s : ℕ) (hs : Arms) (e : Ex) → 1 ≤ ex_rank e → ask_test k s hs e ≡ go (m.in_branch s hs e ∷ k) want
test-yes k s hs e h = rw (le_true 1 (ex_rank e) h) refl

pub test-no : (k : Stack) (s : ℕ) (hs : Arms) (e : Ex) → ex_rank e < 1 → ask_test k s hs e ≡ fault
test-no k s hs e h = rw (le_false 1 (ex_rank e) h) refl

-- an operator that joins below an open one
pub join-inside : (i s : ℕ) (q : Level) (f : Ex) (os : Operands) (d : ℕ) (o : g.Operator) (k : Stack) (e : Ex) (p : Level) (w : Joint) → rank q < rank p → operand_rank q ≤ rank p →
    join i (m.in_chain s q f os d o ∷ k) e p w ≡ open_chain i (m.in_chain s q f os d o ∷ k) e p w
join-inside i s q f os d o k e p w h n = rw (lt_true (rank q) (rank p) h) (rw (le_true (operand_rank q) (rank p) n) refl)

pub join-none : (i s : ℕ) (q : Level) (f : Ex) (os : Operands) (d : ℕ) (o : g.Operator) (k : Stack) (e : Ex) (p : Level) (w : Joint) → rank q < rank p → rank p < operand_rank q →
    join i (m.in_chain s q f os d o ∷ k) e p w ≡ fault
join-none i s q f os d o k e p w h n = rw (lt_true (rank q) (rank p) h) (rw (le_false (operand_rank q) (rank p) n) refl)

-- operators that end before an operator of a level are passed
pub join-passed : (i : ℕ) (f : OperatorFrame) (k : Stack) (e : Ex) (p : Level) (w : Joint) → stays_open (operator_frame_view f) p ≡ false → join i (operator_frame_view f ∷ k) e p w ≡ join i k (ended i (operator_frame_view f) e) p w
join-passed i (operator.Prefix s ps) k e p w h = refl
join-passed i (operator.Chain c d o) k e p w h = rw h refl

pub rank-some : (p : Level) (a b : Step) → 0 ≡ rank p → a ≡ b
rank-some g.nullish_level a b h = absurd (let z : 0 ≡ 1 = h in cc)
rank-some g.or_level a b h = absurd (let z : 0 ≡ 2 = h in cc)
rank-some g.and_level a b h = absurd (let z : 0 ≡ 3 = h in cc)
rank-some g.equal_level a b h = absurd (let z : 0 ≡ 4 = h in cc)
rank-some g.relation_level a b h = absurd (let z : 0 ≡ 5 = h in cc)
rank-some g.sum_level a b h = absurd (let z : 0 ≡ 6 = h in cc)
rank-some g.product_level a b h = absurd (let z : 0 ≡ 7 = h in cc)

pub ruleset asks = (ask-operator, ask-outer, ask-arms)

pub ruleset joins = (join-outer, join-passed)

pub ruleset stayings = (join-inside, join-none)
