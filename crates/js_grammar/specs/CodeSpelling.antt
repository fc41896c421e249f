-- The spelling of expressions and statements, each written before the tokens that follow.
use Rattle.std.specs.Prelude.{Option, Some, None, ◌∷◌, codes}
use Rattle.js_token.specs.declared.token.TokenKind.{TokenKind}
use Rattle.js_token.specs.declared.token.TokenKind.TheVariants.{Name, Number, Str, Punct}
use Rattle.js_token.specs.declared.punct.Punct.{Punct as Mark}
use Rattle.js_token.specs.declared.punct.Punct.TheVariants.{OpenBrace, CloseBrace, OpenParen, CloseParen, OpenBracket, CloseBracket, Dot, Comma, Semicolon, Colon, Question, QuestionQuestion, Arrow as ArrowMark, Assign, StrictEqual, StrictNotEqual, LooseEqual, LooseNotEqual, LessThan, GreaterThan, LessOrEqual, GreaterOrEqual, Plus, Minus, Star, Slash, Percent, Bang, AndAnd, OrOr}
use Rattle.js_grammar.specs.Words.{Bytes, truth_word}
use Rattle.js_grammar.specs.Types.{Ty}
use Rattle.js_grammar.specs.TypeSpelling.{Tokens, opt, spell, spell_key}
use Rattle.js_grammar.specs.Code.{Prefix, negation, minus_sign, plus_sign, kind_of, Prefixes, no_prefix, more_prefix, Operator, nullish, or, and, strict_equal, strict_not_equal, loose_equal, loose_not_equal, less, greater, less_or_equal, greater_or_equal, add, subtract, multiply, divide, remainder, Binder, const, let_word, Ex, ex, ExForm, variable, number, text, truth_value, null_value, parens, elements, fields, function_ex, postfixed, prefixed, chain, cond, arrow, Exs, no_ex, more_ex, Link, link, LinkForm, member, index, call, Links, no_link, more_link, Operand, operand, OperandForm, right_side, as_type, Operands, no_operand, more_operand, Field, field, FieldForm, shorthand, valued, Fields, no_field, more_field, Arm, arm, Arms, no_arm, more_arm, Function, function, Sig, sig, Parameter, parameter, Parameters, no_parameter, more_parameter, ArrowBody, arrow_block, arrow_value, Block, block, Stmts, no_stmt, more_stmt, Stmt, stmt, StmtForm, declares, function_stmt, does, branches, loop, nested, Declaration, declaration, Simple, simple, SimpleForm, return_bare, return_value, throw_value, break_loop, continue_loop, assign, evaluate, Body, block_body, simple_body, Branch, branch, Branches, no_branch, more_branch, Else, no_else, else_body}

-- the mark of an operator
abbrev pub mark_of : Operator → Mark
mark_of nullish = QuestionQuestion
mark_of or = OrOr
mark_of and = AndAnd
mark_of strict_equal = StrictEqual
mark_of strict_not_equal = StrictNotEqual
mark_of loose_equal = LooseEqual
mark_of loose_not_equal = LooseNotEqual
mark_of less = LessThan
mark_of greater = GreaterThan
mark_of less_or_equal = LessOrEqual
mark_of greater_or_equal = GreaterOrEqual
mark_of add = Plus
mark_of subtract = Minus
mark_of multiply = Star
mark_of divide = Slash
mark_of remainder = Percent

-- the token of a mark before an expression
abbrev pub prefix_token : Prefix → TokenKind
prefix_token negation = Punct Bang
prefix_token minus_sign = Punct Minus
prefix_token plus_sign = Punct Plus
prefix_token kind_of = Name (codes "typeof")

abbrev pub spell_prefixes : Prefixes → Tokens → Tokens
spell_prefixes no_prefix l = l
spell_prefixes (more_prefix ps p x) l = spell_prefixes ps (prefix_token x ∷ l)

-- the word of a binder
abbrev pub binder_word : Binder → Bytes
binder_word const = codes "const"
binder_word let_word = codes "let"

-- `: type`, or nothing
abbrev pub spell_annotation : Option Ty → Tokens → Tokens
spell_annotation None l = l
spell_annotation (Some t) l = Punct Colon ∷ spell t l

abbrev pub spell_name : Option Bytes → Tokens → Tokens
spell_name None l = l
spell_name (Some n) l = Name n ∷ l

abbrev pub spell_parameter : Parameter → Tokens → Tokens
spell_parameter (parameter f t n o a) l = Name n ∷ opt o (Punct Question) (spell_annotation a l)

-- with a comma behind each
abbrev pub spell_named : Parameters → Tokens → Tokens
spell_named no_parameter l = l
spell_named (more_parameter ps p) l = spell_named ps (spell_parameter p (Punct Comma ∷ l))

abbrev pub spell_parameters : Parameters → Tokens → Tokens
spell_parameters no_parameter l = l
spell_parameters (more_parameter ps p) l = spell_named ps (spell_parameter p l)

abbrev pub spell_sig : Sig → Tokens → Tokens
spell_sig (sig f t ps c r) l = Punct OpenParen ∷ spell_parameters ps (opt c (Punct Comma) (Punct CloseParen ∷ spell_annotation r l))

-- each form's tokens, and then those that follow
abbrev mutual
  pub spell_ex : Ex → Tokens → Tokens
  spell_ex (ex f t x) l = spell_ex_form x l

  pub spell_ex_form : ExForm → Tokens → Tokens
  spell_ex_form (variable n) l = Name n ∷ l
  spell_ex_form (number n) l = Number n ∷ l
  spell_ex_form (text s) l = Str s ∷ l
  spell_ex_form (truth_value b) l = Name (truth_word b) ∷ l
  spell_ex_form null_value l = Name (codes "null") ∷ l
  spell_ex_form (parens e) l = Punct OpenParen ∷ spell_ex e (Punct CloseParen ∷ l)
  spell_ex_form (elements es c) l = Punct OpenBracket ∷ spell_exs es (opt c (Punct Comma) (Punct CloseBracket ∷ l))
  spell_ex_form (fields fs c) l = Punct OpenBrace ∷ spell_fields fs (opt c (Punct Comma) (Punct CloseBrace ∷ l))
  spell_ex_form (function_ex f) l = spell_function f l
  spell_ex_form (postfixed e ls) l = spell_ex e (spell_links ls l)
  spell_ex_form (prefixed ps e) l = spell_prefixes ps (spell_ex e l)
  spell_ex_form (chain p e os) l = spell_ex e (spell_operands os l)
  spell_ex_form (cond hs e) l = spell_arms hs (spell_ex e l)
  spell_ex_form (arrow s b) l = spell_sig s (Punct ArrowMark ∷ spell_arrow_body b l)

  pub spell_exs : Exs → Tokens → Tokens
  spell_exs no_ex l = l
  spell_exs (more_ex es e) l = spell_listed es (spell_ex e l)

  -- with a comma behind each
  pub spell_listed : Exs → Tokens → Tokens
  spell_listed no_ex l = l
  spell_listed (more_ex es e) l = spell_listed es (spell_ex e (Punct Comma ∷ l))

  pub spell_link : Link → Tokens → Tokens
  spell_link (link f t x) l = spell_link_form x l

  pub spell_link_form : LinkForm → Tokens → Tokens
  spell_link_form (member n) l = Punct Dot ∷ Name n ∷ l
  spell_link_form (index e) l = Punct OpenBracket ∷ spell_ex e (Punct CloseBracket ∷ l)
  spell_link_form (call es c) l = Punct OpenParen ∷ spell_exs es (opt c (Punct Comma) (Punct CloseParen ∷ l))

  pub spell_links : Links → Tokens → Tokens
  spell_links no_link l = l
  spell_links (more_link ls k) l = spell_links ls (spell_link k l)

  pub spell_operand : Operand → Tokens → Tokens
  spell_operand (operand f t x) l = spell_operand_form x l

  pub spell_operand_form : OperandForm → Tokens → Tokens
  spell_operand_form (right_side o e) l = Punct (mark_of o) ∷ spell_ex e l
  spell_operand_form (as_type v) l = Name (codes "as") ∷ spell v l

  pub spell_operands : Operands → Tokens → Tokens
  spell_operands no_operand l = l
  spell_operands (more_operand os o) l = spell_operands os (spell_operand o l)

  pub spell_field : Field → Tokens → Tokens
  spell_field (field f t x) l = spell_field_form x l

  pub spell_field_form : FieldForm → Tokens → Tokens
  spell_field_form (shorthand n) l = Name n ∷ l
  spell_field_form (valued k e) l = spell_key k (Punct Colon ∷ spell_ex e l)

  pub spell_fields : Fields → Tokens → Tokens
  spell_fields no_field l = l
  spell_fields (more_field fs f) l = spell_entries fs (spell_field f l)

  -- with a comma behind each
  pub spell_entries : Fields → Tokens → Tokens
  spell_entries no_field l = l
  spell_entries (more_field fs f) l = spell_entries fs (spell_field f (Punct Comma ∷ l))

  -- `test ? branch :`
  pub spell_arm : Arm → Tokens → Tokens
  spell_arm (arm f t a b) l = spell_ex a (Punct Question ∷ spell_ex b (Punct Colon ∷ l))

  pub spell_arms : Arms → Tokens → Tokens
  spell_arms no_arm l = l
  spell_arms (more_arm hs a) l = spell_arms hs (spell_arm a l)

  pub spell_function : Function → Tokens → Tokens
  spell_function (function f t n s b) l = Name (codes "function") ∷ spell_name n (spell_sig s (spell_block b l))

  pub spell_arrow_body : ArrowBody → Tokens → Tokens
  spell_arrow_body (arrow_block b) l = spell_block b l
  spell_arrow_body (arrow_value e) l = spell_ex e l

  pub spell_block : Block → Tokens → Tokens
  spell_block (block f t ss) l = Punct OpenBrace ∷ spell_stmts ss (Punct CloseBrace ∷ l)

  pub spell_stmts : Stmts → Tokens → Tokens
  spell_stmts no_stmt l = l
  spell_stmts (more_stmt ss s) l = spell_stmts ss (spell_stmt s l)

  pub spell_stmt : Stmt → Tokens → Tokens
  spell_stmt (stmt f t s) l = spell_stmt_form s l

  pub spell_stmt_form : StmtForm → Tokens → Tokens
  spell_stmt_form (declares d) l = spell_declaration d (Punct Semicolon ∷ l)
  spell_stmt_form (function_stmt f) l = spell_function f l
  spell_stmt_form (does s) l = spell_simple s (Punct Semicolon ∷ l)
  spell_stmt_form (branches bs e) l = spell_branches bs (spell_else e l)
  spell_stmt_form (loop e b) l = Name (codes "while") ∷ Punct OpenParen ∷ spell_ex e (Punct CloseParen ∷ spell_body b l)
  spell_stmt_form (nested b) l = spell_block b l

  pub spell_declaration : Declaration → Tokens → Tokens
  spell_declaration (declaration f t w n a e) l = Name (binder_word w) ∷ Name n ∷ spell_annotation a (Punct Assign ∷ spell_ex e l)

  pub spell_simple : Simple → Tokens → Tokens
  spell_simple (simple f t s) l = spell_simple_form s l

  pub spell_simple_form : SimpleForm → Tokens → Tokens
  spell_simple_form return_bare l = Name (codes "return") ∷ l
  spell_simple_form (return_value e) l = Name (codes "return") ∷ spell_ex e l
  spell_simple_form (throw_value e) l = Name (codes "throw") ∷ spell_ex e l
  spell_simple_form break_loop l = Name (codes "break") ∷ l
  spell_simple_form continue_loop l = Name (codes "continue") ∷ l
  spell_simple_form (assign a e) l = spell_ex a (Punct Assign ∷ spell_ex e l)
  spell_simple_form (evaluate e) l = spell_ex e l

  pub spell_body : Body → Tokens → Tokens
  spell_body (block_body b) l = spell_block b l
  spell_body (simple_body s) l = spell_simple s (Punct Semicolon ∷ l)

  pub spell_branch : Branch → Tokens → Tokens
  spell_branch (branch f t e b) l = Name (codes "if") ∷ Punct OpenParen ∷ spell_ex e (Punct CloseParen ∷ spell_body b l)

  pub spell_branches : Branches → Tokens → Tokens
  spell_branches no_branch l = l
  spell_branches (more_branch bs b) l = spell_elses bs (spell_branch b l)

  -- with `else` behind each
  pub spell_elses : Branches → Tokens → Tokens
  spell_elses no_branch l = l
  spell_elses (more_branch bs b) l = spell_elses bs (spell_branch b (Name (codes "else") ∷ l))

  -- `else` and a body, or nothing
  pub spell_else : Else → Tokens → Tokens
  spell_else no_else l = l
  spell_else (else_body b) l = Name (codes "else") ∷ spell_body b l
