-- The steps of reading expressions, each with the place of its token.
use Rattle.std.specs.Prelude.{ℕ, suc, Bool, true, false, Some, None, [], ◌∷◌, codes, if◌then◌else◌}
use Rattle.std.specs.Str.{bytes_eq}
use Rattle.js_token.specs.Words.{is_reserved}
use Rattle.js_token.specs.declared.token.TokenKind.{TokenKind}
use Rattle.js_token.specs.declared.token.TokenKind.TheVariants.{Name, Number, Str, Punct}
use Rattle.js_token.specs.declared.punct.Punct.TheVariants.{OpenBrace, CloseBrace, OpenParen, CloseParen, OpenBracket, CloseBracket, Dot, Comma, Semicolon, Colon, Question, Assign, Arrow as ArrowMark, Plus, Minus, Bang}
use Rattle.js_grammar.specs.Words.{Bytes}
use Rattle.js_grammar.specs.Types.{word_key, text_key, Key, key, Ty}
use Rattle.js_grammar.specs.Machine as ty
use Rattle.js_grammar.specs.Code.{Prefix, negation, minus_sign, plus_sign, kind_of, no_prefix, more_prefix, relation_level, Ex, ex, variable, number, text, truth_value, null_value, postfixed, chain, Exs, no_ex, has_exs, Links, no_link, more_link, link, member, more_operand, operand, as_type, Fields, no_field, more_field, has_fields, field, shorthand, no_arm, Sig, sig, no_stmt, Parameters, no_parameter, more_parameter, has_parameters, parameter}
use Rattle.js_grammar.specs.Items.{AliasOf, alias, ItemForm, exports, export_alias, alias_item}
use Rattle.code_law.specs.Bodies.{give_item}
use Rattle.code_law.specs.Frames.{Row, array_row, call_row, Owner, of_arrow, of_function, Waiting, parameter_type, result_type, declared_type, alias_type, cast_type, FunctionKind, is_value, is_statement, Wrap, plain_item, in_prefix, in_chain, in_branch, in_parens, in_row, in_index, in_field, in_arrow, in_body, in_declaration, in_function, want, after_links, after_dot, row_start, fields_start, after_word, after_key, paren_start, paren_word, paren_mark, function_start, parameters_open, parameter_start, parameter_word, parameter_mark, parameters_end, arrow_start, statements_start, typing, Stack, Step, fault, go, start_ex}
use Rattle.code_law.specs.Ladder.{close_row, close_fields, after_field, settle}

-- what a word is where an expression may begin
pub data ValueWord : Type 0 where
  variable_word : ValueWord
  null_word : ValueWord
  truth_of : Bool → ValueWord
  kind_word : ValueWord
  function_word : ValueWord
  other_word : ValueWord

-- what a reserved word is there
abbrev pub reserved_word : Bytes → ValueWord
reserved_word n =
    if bytes_eq n (codes "null") then null_word
    else if bytes_eq n (codes "true") then truth_of true
    else if bytes_eq n (codes "false") then truth_of false
    else if bytes_eq n (codes "typeof") then kind_word
    else if bytes_eq n (codes "function") then function_word
    else other_word

-- what any word is there
abbrev pub value_word : Bytes → ValueWord
value_word n = if is_reserved n then reserved_word n else variable_word

-- a mark before an expression, behind those before it
abbrev pub marked : ℕ → Prefix → Stack → Stack
marked i x (in_prefix s ps ∷ k) = in_prefix s (more_prefix ps i x) ∷ k
marked i x k = in_prefix i (more_prefix no_prefix i x) ∷ k

-- an arrow is no operand
abbrev pub may_arrow : Stack → Bool
may_arrow (in_prefix s ps ∷ k) = false
may_arrow (in_chain s p f os d o ∷ k) = false
may_arrow k = true

-- a word where an expression may begin
abbrev pub word_step : ℕ → Stack → Bytes → ValueWord → Step
word_step i k n variable_word = go k (after_links (ex i (suc i) (variable n)) no_link)
word_step i k n null_word = go k (after_links (ex i (suc i) null_value) no_link)
word_step i k n (truth_of b) = go k (after_links (ex i (suc i) (truth_value b)) no_link)
word_step i k n kind_word = go (marked i kind_of k) want
word_step i k n function_word = go k (function_start is_value i)
word_step i k n other_word = fault

-- where an expression must begin
abbrev pub want_step : ℕ → Stack → TokenKind → Step
want_step i k (Name n) = word_step i k n (value_word n)
want_step i k (Number n) = go k (after_links (ex i (suc i) (number n)) no_link)
want_step i k (Str s) = go k (after_links (ex i (suc i) (text s)) no_link)
want_step i k (Punct OpenParen) = go k (paren_start i)
want_step i k (Punct OpenBracket) = go k (row_start (array_row i) no_ex)
want_step i k (Punct OpenBrace) = go k (fields_start i no_field)
want_step i k (Punct Bang) = go (marked i negation k) want
want_step i k (Punct Minus) = go (marked i minus_sign k) want
want_step i k (Punct Plus) = go (marked i plus_sign k) want
want_step i k (Punct _) = fault

-- an expression with the links behind it
abbrev pub linked : ℕ → Ex → Links → Ex
linked i b no_link = b
linked i b (more_link ls y) = ex (start_ex b) i (postfixed b (more_link ls y))

-- behind an expression on which links may follow
abbrev pub links_step : ℕ → Stack → Ex → Links → TokenKind → Step
links_step i k b ls (Punct Dot) = go k (after_dot b ls i)
links_step i k b ls (Punct OpenBracket) = go (in_index b ls i ∷ k) want
links_step i k b ls (Punct OpenParen) = go k (row_start (call_row b ls i) no_ex)
links_step i k b ls x = settle i k (linked i b ls) x

-- behind the dot of a property
abbrev pub dot_step : ℕ → Stack → Ex → Links → ℕ → TokenKind → Step
dot_step i k b ls d (Name n) = go k (after_links b (more_link ls (link d (suc i) (member n))))
dot_step i k b ls d _ = fault

-- behind the bracket of a list, or a comma in it
abbrev pub row_step : ℕ → Stack → Row → Exs → TokenKind → Step
row_step i k (array_row s) es (Punct CloseBracket) = go k (close_row i (array_row s) es (has_exs es))
row_step i k (call_row b ls s) es (Punct CloseParen) = go k (close_row i (call_row b ls s) es (has_exs es))
row_step i k r es x = want_step i (in_row r es ∷ k) x

-- behind the brace of an object, or a comma in it
abbrev pub fields_step : ℕ → Stack → ℕ → Fields → TokenKind → Step
fields_step i k s fs (Punct CloseBrace) = go k (close_fields i s fs (has_fields fs))
fields_step i k s fs (Name n) = go k (after_word s fs i n)
fields_step i k s fs (Str n) = go k (after_key s fs (key i (suc i) (text_key n)))
fields_step i k s fs _ = fault

-- a word behind which no colon stands is a property of that name
abbrev pub field_step : ℕ → Stack → ℕ → Fields → ℕ → Bytes → TokenKind → Step
field_step i k s fs a n (Punct Colon) = go (in_field s fs (key a i (word_key n)) ∷ k) want
field_step i k s fs a n x = if is_reserved n then fault else after_field i k s (more_field fs (field a i (shorthand n))) x

-- behind the key of a property
abbrev pub key_step : Stack → ℕ → Fields → Key → TokenKind → Step
key_step k s fs y (Punct Colon) = go (in_field s fs y ∷ k) want
key_step k s fs y _ = fault

-- a type begins, and what it is for waits
abbrev pub typed : Stack → Waiting → Step
typed k w = go k (typing w [] ty.want)

-- behind `(`, which begins an arrow or an expression in parentheses
abbrev pub paren_step : ℕ → Stack → ℕ → TokenKind → Step
paren_step i k s (Punct CloseParen) = if may_arrow k then go k (parameters_end of_arrow s no_parameter false) else fault
paren_step i k s (Name n) = if is_reserved n then want_step i (in_parens s ∷ k) (Name n) else go k (paren_word s i n)
paren_step i k s x = want_step i (in_parens s ∷ k) x

-- behind `(` and a word
abbrev pub paren_word_step : ℕ → Stack → ℕ → ℕ → Bytes → TokenKind → Step
paren_word_step i k s a n (Punct Colon) = if may_arrow k then typed k (parameter_type of_arrow s no_parameter a n false) else fault
paren_word_step i k s a n (Punct Question) = go k (paren_mark s a n i)
paren_word_step i k s a n x = links_step i (in_parens s ∷ k) (ex a i (variable n)) no_link x

-- behind `(`, a word at a and `?` at p
abbrev pub paren_mark_step : ℕ → Stack → ℕ → ℕ → Bytes → ℕ → TokenKind → Step
paren_mark_step i k s a n p (Punct Colon) = if may_arrow k then typed k (parameter_type of_arrow s no_parameter a n true) else fault
paren_mark_step i k s a n p x = want_step i (in_branch a no_arm (ex a p (variable n)) ∷ in_parens s ∷ k) x

-- where a parameter may begin
abbrev pub parameter_step : ℕ → Stack → Owner → ℕ → Parameters → TokenKind → Step
parameter_step i k o s ps (Punct CloseParen) = go k (parameters_end o s ps (has_parameters ps))
parameter_step i k o s ps (Name n) = if is_reserved n then fault else go k (parameter_word o s ps i n)
parameter_step i k o s ps _ = fault

-- behind a whole parameter
abbrev pub after_parameter : Stack → Owner → ℕ → Parameters → TokenKind → Step
after_parameter k o s ps (Punct CloseParen) = go k (parameters_end o s ps false)
after_parameter k o s ps (Punct Comma) = go k (parameter_start o s ps)
after_parameter k o s ps _ = fault

-- only a function's parameter may have no type
abbrev pub parameter_word_step : ℕ → Stack → Owner → ℕ → Parameters → ℕ → Bytes → TokenKind → Step
parameter_word_step i k o s ps a n (Punct Colon) = typed k (parameter_type o s ps a n false)
parameter_word_step i k o s ps a n (Punct Question) = go k (parameter_mark o s ps a n)
parameter_word_step i k of_arrow s ps a n _ = fault
parameter_word_step i k (of_function q f m) s ps a n x = after_parameter k (of_function q f m) s (more_parameter ps (parameter a i n false None)) x

-- behind the name of a parameter and `?`
abbrev pub parameter_mark_step : Stack → Owner → ℕ → Parameters → ℕ → Bytes → TokenKind → Step
parameter_mark_step k o s ps a n (Punct Colon) = typed k (parameter_type o s ps a n true)
parameter_mark_step k o s ps a n _ = fault

-- where the parameters of a function open
abbrev pub open_step : ℕ → Stack → Owner → TokenKind → Step
open_step i k o (Punct OpenParen) = go k (parameter_start o i no_parameter)
open_step i k o _ = fault

-- a function that is a statement has a name
abbrev pub function_step : ℕ → Stack → FunctionKind → ℕ → TokenKind → Step
function_step i k q s (Name n) = if is_reserved n then fault else go k (parameters_open (of_function q s (Some n)))
function_step i k is_statement s x = fault
function_step i k q s x = open_step i k (of_function q s None) x

-- a signature is whole
abbrev pub open_body : ℕ → Stack → Owner → Sig → TokenKind → Step
open_body i k of_arrow g (Punct ArrowMark) = go k (arrow_start g)
open_body i k (of_function q s n) g (Punct OpenBrace) = go (in_function q s n g ∷ k) (statements_start i no_stmt)
open_body i k o g _ = fault

-- behind the `)` of parameters
abbrev pub end_step : ℕ → Stack → Owner → ℕ → Parameters → Bool → TokenKind → Step
end_step i k o s ps c (Punct Colon) = typed k (result_type o s ps c)
end_step i k o s ps c x = open_body i k o (sig s i ps c None) x

-- a brace begins a block here
abbrev pub arrow_step : ℕ → Stack → Sig → TokenKind → Step
arrow_step i k g (Punct OpenBrace) = go (in_body g ∷ k) (statements_start i no_stmt)
arrow_step i k g x = want_step i (in_arrow g ∷ k) x

-- an alias, or an exported one
abbrev pub wrap_alias : Wrap → AliasOf → ItemForm
wrap_alias plain_item y = alias_item y
wrap_alias w y = exports (export_alias y)

-- a type is whole, and the token comes after it
abbrev pub after_type : ℕ → Stack → Waiting → Ty → TokenKind → Step
after_type i k (parameter_type o s ps a n m) t x = after_parameter k o s (more_parameter ps (parameter a i n m (Some t))) x
after_type i k (result_type o s ps c) t x = open_body i k o (sig s i ps c (Some t)) x
after_type i k (declared_type s w n) t (Punct Assign) = go (in_declaration s w n (Some t) ∷ k) want
after_type i k (declared_type s w n) t _ = fault
after_type i k (alias_type a w is p n) t (Punct Semicolon) = give_item (suc i) k a is (wrap_alias w (alias p i n t))
after_type i k (alias_type a w is p n) t _ = fault
after_type i k (cast_type s e os d) t x = settle i k (ex s i (chain relation_level e (more_operand os (operand d i (as_type t))))) x

-- whether a function type may stand outside brackets
abbrev pub takes_function : Waiting → Bool
takes_function (result_type of_arrow s ps c) = false
takes_function w = true

-- the machine of types goes on
abbrev pub inside : ℕ → Stack → Waiting → ty.Step → TokenKind → Step
inside i k w ty.fault x = fault
inside i k w (ty.go a m) x = go k (typing w a m)
inside i k w (ty.done t) x = after_type i k w t x
