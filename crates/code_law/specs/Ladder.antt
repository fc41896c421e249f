-- A whole expression and the token behind it: which open forms that token ends, and which it begins.
use Rattle.std.specs.Prelude.{ℕ, suc, nat_lt, nat_le, nat_eq, Bool, false, [], ◌∷◌, codes, if◌then◌else◌}
use Rattle.std.specs.Str.{bytes_eq}
use Rattle.js_token.specs.declared.token.TokenKind.{TokenKind}
use Rattle.js_token.specs.declared.token.TokenKind.TheVariants.{Name, Punct}
use Rattle.js_token.specs.declared.punct.Punct.TheVariants.{CloseBrace, OpenParen, CloseParen, OpenBracket, CloseBracket, Dot, Comma, Semicolon, Colon, Question, QuestionQuestion, Arrow as ArrowMark, StrictEqual, StrictNotEqual, LooseEqual, LooseNotEqual, LessThan, GreaterThan, LessOrEqual, GreaterOrEqual, Plus, Minus, Star, Slash, Percent, AndAnd, OrOr, Bar}
use Rattle.js_grammar.specs.Machine as ty
use Rattle.js_grammar.specs.Code.{Level, rank, operand_rank, relation_level, Operator, nullish, or, and, strict_equal, strict_not_equal, loose_equal, loose_not_equal, less, greater, less_or_equal, greater_or_equal, add, subtract, multiply, divide, remainder, level_of, Ex, ex, form_rank, ex_rank, parens, elements, fields, prefixed, chain, cond, arrow, Exs, more_ex, no_link, more_link, link, index, call, Operands, no_operand, more_operand, operand, right_side, Fields, more_field, field, valued, Arms, no_arm, more_arm, arm, arrow_value, declaration}
use Rattle.js_grammar.specs.Items.{exports, export_default}
use Rattle.code_law.specs.Frames.{Row, array_row, call_row, cast_type, in_prefix, in_chain, in_last, in_branch, in_parens, in_row, in_index, in_field, in_arrow, in_simple, in_declaration, in_if_test, in_loop_test, in_if, in_loop, in_default, Mode, want, after_links, row_start, fields_start, want_body, typing, Stack, Step, fault, go, done, start_ex, start_sig, start_key}
use Rattle.code_law.specs.Bodies.{give_item, give_declaration, end_value}

-- what stands between two operands: an operator, or `as` before a type
pub data Joint : Type 0 where
  applies : Operator → Joint
  casts : Joint

-- What a token is behind an expression: it joins a further operand, asks for a branch, goes on an expression that it follows
-- at once, or ends it.
pub data Turn : Type 0 where
  joins : Joint → Turn
  asks : Turn
  sticks : Turn
  ends : Turn

-- what each token is so
abbrev pub turn : TokenKind → Turn
turn (Name n) = if bytes_eq n (codes "as") then joins casts else ends
turn (Punct QuestionQuestion) = joins (applies nullish)
turn (Punct OrOr) = joins (applies or)
turn (Punct AndAnd) = joins (applies and)
turn (Punct StrictEqual) = joins (applies strict_equal)
turn (Punct StrictNotEqual) = joins (applies strict_not_equal)
turn (Punct LooseEqual) = joins (applies loose_equal)
turn (Punct LooseNotEqual) = joins (applies loose_not_equal)
turn (Punct LessThan) = joins (applies less)
turn (Punct GreaterThan) = joins (applies greater)
turn (Punct LessOrEqual) = joins (applies less_or_equal)
turn (Punct GreaterOrEqual) = joins (applies greater_or_equal)
turn (Punct Plus) = joins (applies add)
turn (Punct Minus) = joins (applies subtract)
turn (Punct Star) = joins (applies multiply)
turn (Punct Slash) = joins (applies divide)
turn (Punct Percent) = joins (applies remainder)
turn (Punct Question) = asks
turn (Punct Dot) = sticks
turn (Punct OpenParen) = sticks
turn (Punct OpenBracket) = sticks
turn (Punct ArrowMark) = sticks
turn (Punct Bar) = sticks
turn _ = ends

-- the level of the chains in which it stands
abbrev pub joint_level : Joint → Level
joint_level (applies o) = level_of o
joint_level casts = relation_level

-- Each has the place of its token. The bracket at i ends the list.
abbrev pub close_row : ℕ → Row → Exs → Bool → Mode
close_row i (array_row s) es c = after_links (ex s (suc i) (elements es c)) no_link
close_row i (call_row b ls s) es c = after_links b (more_link ls (link s (suc i) (call es c)))

-- behind an element of an array or an argument of a call
abbrev pub after_item : ℕ → Stack → Row → Exs → TokenKind → Step
after_item i k (array_row s) es (Punct CloseBracket) = go k (close_row i (array_row s) es false)
after_item i k (call_row b ls s) es (Punct CloseParen) = go k (close_row i (call_row b ls s) es false)
after_item i k r es (Punct Comma) = go k (row_start r es)
after_item i k r es _ = fault

-- the brace at i ends the object
abbrev pub close_fields : ℕ → ℕ → Fields → Bool → Mode
close_fields i s fs c = after_links (ex s (suc i) (fields fs c)) no_link

-- behind a property of an object
abbrev pub after_field : ℕ → Stack → ℕ → Fields → TokenKind → Step
after_field i k s fs (Punct CloseBrace) = go k (close_fields i s fs false)
after_field i k s fs (Punct Comma) = go k (fields_start s fs)
after_field i k s fs _ = fault

-- the expression is whole, and the token ends it
abbrev pub close : ℕ → Stack → Ex → TokenKind → Step
close i [] e x = done e
close i (in_prefix s ps ∷ k) e x = close i k (ex s i (prefixed ps e)) x
close i (in_chain s p f os d o ∷ k) e x = close i k (ex s i (chain p f (more_operand os (operand d i (right_side o e))))) x
close i (in_last s hs ∷ k) e x = close i k (ex s i (cond hs e)) x
close i (in_arrow g ∷ k) e x = close i k (ex (start_sig g) i (arrow g (arrow_value e))) x
close i (in_branch s hs a ∷ k) e (Punct Colon) = go (in_last s (more_arm hs (arm (start_ex a) (suc i) a e)) ∷ k) want
close i (in_branch s hs a ∷ k) e _ = fault
close i (in_parens s ∷ k) e (Punct CloseParen) = go k (after_links (ex s (suc i) (parens e)) no_link)
close i (in_parens s ∷ k) e _ = fault
close i (in_row r es ∷ k) e x = after_item i k r (more_ex es e) x
close i (in_index b ls s ∷ k) e (Punct CloseBracket) = go k (after_links b (more_link ls (link s (suc i) (index e))))
close i (in_index b ls s ∷ k) e _ = fault
close i (in_field s fs y ∷ k) e x = after_field i k s (more_field fs (field (start_key y) i (valued y e))) x
close i (in_simple s v ∷ k) e x = end_value i k s v e x
close i (in_declaration s w n a ∷ k) e (Punct Semicolon) = give_declaration (suc i) k s (declaration s i w n a e)
close i (in_declaration s w n a ∷ k) e _ = fault
close i (in_if_test s bs a ∷ k) e (Punct CloseParen) = go (in_if s bs a e ∷ k) want_body
close i (in_if_test s bs a ∷ k) e _ = fault
close i (in_loop_test s ∷ k) e (Punct CloseParen) = go (in_loop s e ∷ k) want_body
close i (in_loop_test s ∷ k) e _ = fault
close i (in_default a is ∷ k) e (Punct Semicolon) = give_item (suc i) k a is (exports (export_default e))
close i (in_default a is ∷ k) e _ = fault
close i (f ∷ k) e x = fault

-- a test is no arrow
abbrev pub ask_test : Stack → ℕ → Arms → Ex → Step
ask_test k s hs e = if nat_le 1 (ex_rank e) then go (in_branch s hs e ∷ k) want else fault

-- the expression is a test, and `?` stands behind it
abbrev pub ask : ℕ → Stack → Ex → Step
ask i (in_prefix s ps ∷ k) e = ask i k (ex s i (prefixed ps e))
ask i (in_chain s p f os d o ∷ k) e = ask i k (ex s i (chain p f (more_operand os (operand d i (right_side o e)))))
ask i (in_last s hs ∷ k) e = ask_test k s hs e
ask i k e = ask_test k (start_ex e) no_arm e

-- a further operand begins
abbrev pub begin : ℕ → Stack → ℕ → Level → Ex → Operands → Joint → Step
begin i k s p f os (applies o) = go (in_chain s p f os i o ∷ k) want
begin i k s p f os casts = go k (typing (cast_type s f os i) [] ty.want)

-- a chain of the level goes on; another expression that binds enough begins one
abbrev pub open_chain : ℕ → Stack → Ex → Level → Joint → Step
open_chain i k (ex s t (chain q f os)) p w =
    if nat_eq (rank q) (rank p) then begin i k s p f os w
    else if nat_le (operand_rank p) (rank q) then begin i k s p (ex s t (chain q f os)) no_operand w
    else fault
open_chain i k (ex s t x) p w = if nat_le (operand_rank p) (form_rank x) then begin i k s p (ex s t x) no_operand w else fault

-- open forms end that bind tighter, or as the level does; an operand that binds less than its chain asks for is none
abbrev pub join : ℕ → Stack → Ex → Level → Joint → Step
join i (in_prefix s ps ∷ k) e p w = join i k (ex s i (prefixed ps e)) p w
join i (in_chain s q f os d o ∷ k) e p w =
    if nat_lt (rank q) (rank p) then (if nat_le (operand_rank q) (rank p) then open_chain i (in_chain s q f os d o ∷ k) e p w else fault)
    else join i k (ex s i (chain q f (more_operand os (operand d i (right_side o e))))) p w
join i k e p w = open_chain i k e p w

-- an expression is whole, and the token behind it is so
abbrev pub settle_at : ℕ → Stack → Ex → Turn → TokenKind → Step
settle_at i k e (joins w) x = join i k e (joint_level w) w
settle_at i k e asks x = ask i k e
settle_at i k e sticks x = fault
settle_at i k e ends x = close i k e x

-- an expression is whole, and the token comes after it
abbrev pub settle : ℕ → Stack → Ex → TokenKind → Step
settle i k e x = settle_at i k e (turn x) x
