-- How tight a token binds, and which open forms it ends.
use Rattle.std.proofs.Common.{◌≡◌, refl, ℕ, suc, ◌<◌, ◌≤◌, nat_lt, nat_le, nat_eq, true, false, ◌∷◌, arith}
use Rattle.std.proofs.lemmas.Bool.Decides.{nat_tests}
use Rattle.js_token.specs.declared.token.TokenKind.{TokenKind}
use Rattle.js_token.specs.declared.token.TokenKind.TheVariants.{Punct}
use Rattle.js_token.specs.declared.punct.Punct.TheVariants.{OpenParen, OpenBracket, Dot, Arrow as ArrowMark, Bar}
use Rattle.js_grammar.specs.Code.{Prefixes, Level, nullish_level, or_level, and_level, equal_level, relation_level, sum_level, product_level, rank, operand_rank, Operator, nullish, or, and, strict_equal, strict_not_equal, loose_equal, loose_not_equal, less, greater, less_or_equal, greater_or_equal, add, subtract, multiply, divide, remainder, Ex, ex, ExForm, prefixed, chain, cond, arrow, form_rank, ex_rank, Links, Operands, no_operand, more_operand, operand, right_side, Arms, no_arm, Sig, arrow_value}
use Rattle.js_grammar.specs.CodeSpelling.{mark_of}
use Rattle.js_grammar.specs.GoesOn.{goes_on_type}
use Rattle.code_law.specs.Frames.{in_prefix, in_chain, in_last, in_branch, in_arrow, Stack, go, want, start_ex, start_sig}
use Rattle.code_law.specs.Ladder.{Joint, applies, Turn, joins, asks, sticks, ends, turn, joint_level, ask_test, ask, begin, open_chain, join, settle_at, settle}
use Rattle.code_law.specs.Expressions.{may_arrow, links_step, linked}

-- the least rank of an expression that the token doesn't go on
abbrev pub hold : Turn → ℕ
hold (joins w) = suc (rank (joint_level w))
hold asks = 1
hold sticks = 11
hold ends = 0

-- ranks, where a conditional is less than an arrow
abbrev pub tier : ExForm → ℕ
tier (cond hs e) = 0
tier x = suc (form_rank x)

abbrev pub tier_ex : Ex → ℕ
tier_ex (ex f t x) = tier x

-- the least tier of what may stand under a stack
abbrev pub floor : Stack → ℕ
floor (in_prefix s ps ∷ k) = 10
floor (in_chain s p f os d o ∷ k) = suc (operand_rank p)
floor (in_last s hs ∷ k) = 1
floor k = 0

pub rank_below : (p : Level) → suc (rank p) ≤ operand_rank p
rank_below nullish_level = omega arith
rank_below or_level = omega arith
rank_below and_level = omega arith
rank_below equal_level = omega arith
rank_below relation_level = omega arith
rank_below sum_level = omega arith
rank_below product_level = omega arith

pub rank_most : (p : Level) → rank p ≤ 7
rank_most nullish_level = omega arith
rank_most or_level = omega arith
rank_most and_level = omega arith
rank_most equal_level = omega arith
rank_most relation_level = omega arith
rank_most sum_level = omega arith
rank_most product_level = omega arith

pub tier_least : (e : Ex) → ex_rank e ≤ tier_ex e
tier_least (ex f t (cond hs e)) = omega arith
tier_least (ex f t x) = omega arith

pub tier_of : (e : Ex) → 1 ≤ ex_rank e → tier_ex e ≡ suc (ex_rank e)
tier_of (ex f t (cond hs e)) h = absurd (omega arith)
tier_of (ex f t x) h = refl

pub turn_mark : (o : Operator) → turn (Punct (mark_of o)) ≡ joins (applies o)
turn_mark nullish = refl
turn_mark or = refl
turn_mark and = refl
turn_mark strict_equal = refl
turn_mark strict_not_equal = refl
turn_mark loose_equal = refl
turn_mark loose_not_equal = refl
turn_mark less = refl
turn_mark greater = refl
turn_mark less_or_equal = refl
turn_mark greater_or_equal = refl
turn_mark add = refl
turn_mark subtract = refl
turn_mark multiply = refl
turn_mark divide = refl
turn_mark remainder = refl

less_test : (q p : ℕ) → q < p → nat_lt q p ≡ true
less_test q p h = grind (arith, nat_tests)

not_less : (q p : ℕ) → p ≤ q → nat_lt q p ≡ false
not_less q p h = grind (arith, nat_tests)

same_test : (p : ℕ) → nat_eq p p ≡ true
same_test p = grind (arith, nat_tests)

not_same : (q p : ℕ) → p < q → nat_eq q p ≡ false
not_same q p h = grind (arith, nat_tests)

most_test : (q p : ℕ) → q ≤ p → nat_le q p ≡ true
most_test q p h = grind (arith, nat_tests)

-- an expression that binds enough begins a chain
pub open_first : (i : ℕ) (k : Stack) (e : Ex) (p : Level) (w : Joint) → operand_rank p ≤ ex_rank e → open_chain i k e p w ≡ begin i k (start_ex e) p e no_operand w
open_first i k (ex s t (chain q f os)) p w h =
    let b : rank p < rank q = let c = rank_below p in omega arith in
    rw (not_same (rank q) (rank p) b, most_test (operand_rank p) (rank q) h) refl
open_first i k (ex s t x) p w h = rw (most_test (operand_rank p) (form_rank x) h) refl

pub open_more : (i : ℕ) (k : Stack) (s t : ℕ) (f : Ex) (os : Operands) (p : Level) (w : Joint) → open_chain i k (ex s t (chain p f os)) p w ≡ begin i k s p f os w
open_more i k s t f os p w = rw (same_test (rank p)) refl

-- where the stack waits for what binds more, no form ends
pub join_opens : (i : ℕ) (k : Stack) (e : Ex) (p : Level) (w : Joint) → floor k ≤ suc (rank p) → join i k e p w ≡ open_chain i k e p w
join_opens i (in_prefix s ps ∷ k) e p w h = absurd (let b = rank_most p in omega arith)
join_opens i (in_chain s q f os d o ∷ k) e p w h =
    let b : rank q < rank p = let c = rank_below q in omega arith in
    rw (less_test (rank q) (rank p) b, most_test (operand_rank q) (rank p) (omega arith)) refl
join_opens i k e p w h = refl

-- a token ends a chain that it doesn't bind more than
pub chain_ends : (i : ℕ) (k : Stack) (s : ℕ) (p : Level) (f : Ex) (os : Operands) (d : ℕ) (o : Operator) (e : Ex) (c : Turn) (x : TokenKind) → hold c ≤ suc (rank p) →
    settle_at i (in_chain s p f os d o ∷ k) e c x ≡ settle_at i k (ex s i (chain p f (more_operand os (operand d i (right_side o e))))) c x
chain_ends i k s p f os d o e (joins w) x h = rw (not_less (rank p) (rank (joint_level w)) (omega arith)) refl
chain_ends i k s p f os d o e asks x h = refl
chain_ends i k s p f os d o e sticks x h = refl
chain_ends i k s p f os d o e ends x h = refl

pub prefix_ends : (i : ℕ) (k : Stack) (s : ℕ) (ps : Prefixes) (e : Ex) (c : Turn) (x : TokenKind) → settle_at i (in_prefix s ps ∷ k) e c x ≡ settle_at i k (ex s i (prefixed ps e)) c x
prefix_ends i k s ps e (joins w) x = refl
prefix_ends i k s ps e asks x = refl
prefix_ends i k s ps e sticks x = refl
prefix_ends i k s ps e ends x = refl

pub last_ends : (i : ℕ) (k : Stack) (s : ℕ) (hs : Arms) (e : Ex) (c : Turn) (x : TokenKind) → hold c ≤ 0 → settle_at i (in_last s hs ∷ k) e c x ≡ settle_at i k (ex s i (cond hs e)) c x
last_ends i k s hs e (joins w) x h = absurd (omega arith)
last_ends i k s hs e asks x h = absurd (omega arith)
last_ends i k s hs e sticks x h = refl
last_ends i k s hs e ends x h = refl

pub arrow_ends : (i : ℕ) (k : Stack) (g : Sig) (e : Ex) (c : Turn) (x : TokenKind) → hold c ≤ 0 → settle_at i (in_arrow g ∷ k) e c x ≡ settle_at i k (ex (start_sig g) i (arrow g (arrow_value e))) c x
arrow_ends i k g e (joins w) x h = absurd (omega arith)
arrow_ends i k g e asks x h = absurd (omega arith)
arrow_ends i k g e sticks x h = refl
arrow_ends i k g e ends x h = refl

pub may_ask : (k : Stack) (s : ℕ) (hs : Arms) (e : Ex) → 1 ≤ ex_rank e → ask_test k s hs e ≡ go (in_branch s hs e ∷ k) want
may_ask k s hs e h = rw (most_test 1 (ex_rank e) h) refl

-- a test under a stack that waits for any expression begins a conditional
pub ask_first : (i : ℕ) (k : Stack) (e : Ex) → floor k ≤ 0 → 1 ≤ ex_rank e → ask i k e ≡ go (in_branch (start_ex e) no_arm e ∷ k) want
ask_first i (in_prefix s ps ∷ k) e h r = absurd (omega arith)
ask_first i (in_chain s q f os d o ∷ k) e h r = absurd (omega arith)
ask_first i (in_last s hs ∷ k) e h r = absurd (omega arith)
ask_first i k e h r = may_ask k (start_ex e) no_arm e r

pub arrow_stands : (k : Stack) → floor k ≤ 1 → may_arrow k ≡ true
arrow_stands (in_prefix s ps ∷ k) h = absurd (omega arith)
arrow_stands (in_chain s p f os d o ∷ k) h = absurd (let b = rank_below p in omega arith)
arrow_stands k h = refl

-- a token that is no link ends a row of links
pub links_end : (x : TokenKind) (i : ℕ) (k : Stack) (b : Ex) (ls : Links) → hold (turn x) ≤ 10 → links_step i k b ls x ≡ settle i k (linked i b ls) x
links_end (Punct Dot) i k b ls h = absurd (omega arith)
links_end (Punct OpenBracket) i k b ls h = absurd (omega arith)
links_end (Punct OpenParen) i k b ls h = absurd (omega arith)
links_end x i k b ls h = refl

-- a token that doesn't go on a chain doesn't go on a type at its end
pub type_ends : (x : TokenKind) → hold (turn x) ≤ 10 → goes_on_type true x ≡ false
type_ends (Punct OpenBracket) h = absurd (omega arith)
type_ends (Punct ArrowMark) h = absurd (omega arith)
type_ends (Punct Bar) h = absurd (omega arith)
type_ends x h = refl
