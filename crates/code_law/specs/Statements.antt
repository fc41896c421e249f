-- The steps of reading statements, each with the place of its token.
use Rattle.std.specs.Prelude.{ℕ, suc, Bool, true, false, None, ◌∷◌, codes, if◌then◌else◌}
use Rattle.std.specs.Str.{bytes_eq}
use Rattle.js_token.specs.Words.{is_reserved}
use Rattle.js_token.specs.declared.token.TokenKind.{TokenKind}
use Rattle.js_token.specs.declared.token.TokenKind.TheVariants.{Name, Punct}
use Rattle.js_token.specs.declared.punct.Punct.TheVariants.{OpenBrace, CloseBrace, OpenParen, Semicolon, Colon, Assign}
use Rattle.js_grammar.specs.Words.{Bytes}
use Rattle.js_grammar.specs.Code.{Binder, const, let_word, block, Stmts, no_stmt, more_stmt, stmt, branches, Simple, simple, return_bare, break_loop, continue_loop, Branches, no_branch, no_else}
use Rattle.code_law.specs.Frames.{is_statement, returns, throws, evaluates, declared_type, in_simple, in_declaration, in_if_test, in_loop_test, in_else, in_block, want, function_start, statements_start, after_binder, after_declared, after_return, after_simple, after_if, after_while, after_else, Stack, Step, fault, go, context, within_function, within_loop}
use Rattle.code_law.specs.Bodies.{give_block, end_simple}
use Rattle.code_law.specs.Expressions.{want_step, typed}

-- what a word is where a statement may begin
pub data StatementWord : Type 0 where
  binds : Binder → StatementWord
  begins_function : StatementWord
  if_word : StatementWord
  else_word : StatementWord
  while_word : StatementWord
  return_word : StatementWord
  throw_word : StatementWord
  break_word : StatementWord
  continue_word : StatementWord
  begins_import : StatementWord
  begins_export : StatementWord
  plain_word : StatementWord

-- what a reserved word is there
abbrev pub reserved_statement : Bytes → StatementWord
reserved_statement n =
    if bytes_eq n (codes "const") then binds const
    else if bytes_eq n (codes "let") then binds let_word
    else if bytes_eq n (codes "function") then begins_function
    else if bytes_eq n (codes "if") then if_word
    else if bytes_eq n (codes "else") then else_word
    else if bytes_eq n (codes "while") then while_word
    else if bytes_eq n (codes "return") then return_word
    else if bytes_eq n (codes "throw") then throw_word
    else if bytes_eq n (codes "break") then break_word
    else if bytes_eq n (codes "continue") then continue_word
    else if bytes_eq n (codes "import") then begins_import
    else if bytes_eq n (codes "export") then begins_export
    else plain_word

-- what any word is there
abbrev pub statement_word : Bytes → StatementWord
statement_word n = if is_reserved n then reserved_statement n else plain_word

-- the word at i begins a simple statement, the stack below it being given
abbrev pub simple_word : ℕ → Stack → Bytes → StatementWord → Step
simple_word i k n return_word = if within_function (context k) then go k (after_return i) else fault
simple_word i k n throw_word = go (in_simple i throws ∷ k) want
simple_word i k n break_word = if within_loop (context k) then go k (after_simple (simple i (suc i) break_loop)) else fault
simple_word i k n continue_word = if within_loop (context k) then go k (after_simple (simple i (suc i) continue_loop)) else fault
simple_word i k n plain_word = want_step i (in_simple i evaluates ∷ k) (Name n)
simple_word i k n w = fault

-- where a simple statement must begin
abbrev pub simple_step : ℕ → Stack → TokenKind → Step
simple_step i k (Name n) = simple_word i k n (statement_word n)
simple_step i k (Punct OpenBrace) = fault
simple_step i k x = want_step i (in_simple i evaluates ∷ k) x

-- the word at i begins a statement
abbrev pub block_word : ℕ → Stack → Bytes → StatementWord → Step
block_word i k n (binds w) = go k (after_binder i w)
block_word i k n begins_function = go k (function_start is_statement i)
block_word i k n if_word = go k (after_if i no_branch i)
block_word i k n while_word = go k (after_while i)
block_word i k n w = simple_word i k n w

-- where a statement of a block may begin, or the block's brace ends it
abbrev pub statements_step : ℕ → Stack → ℕ → Stmts → TokenKind → Step
statements_step i k s ss (Punct CloseBrace) = give_block (suc i) k (block s (suc i) ss)
statements_step i k s ss (Punct OpenBrace) = go (in_block s ss ∷ k) (statements_start i no_stmt)
statements_step i k s ss (Name n) = block_word i (in_block s ss ∷ k) n (statement_word n)
statements_step i k s ss x = simple_step i (in_block s ss ∷ k) x

-- behind `return`
abbrev pub return_step : ℕ → Stack → ℕ → TokenKind → Step
return_step i k s (Punct Semicolon) = end_simple i k (simple s i return_bare)
return_step i k s x = want_step i (in_simple s returns ∷ k) x

-- behind a simple statement that no expression ends
abbrev pub semicolon_step : ℕ → Stack → Simple → TokenKind → Step
semicolon_step i k y (Punct Semicolon) = end_simple i k y
semicolon_step i k y _ = fault

-- behind `const` or `let`
abbrev pub binder_step : Stack → ℕ → Binder → TokenKind → Step
binder_step k s w (Name n) = if is_reserved n then fault else go k (after_declared s w n)
binder_step k s w _ = fault

-- behind the name of a declaration
abbrev pub declared_step : Stack → ℕ → Binder → Bytes → TokenKind → Step
declared_step k s w n (Punct Colon) = typed k (declared_type s w n)
declared_step k s w n (Punct Assign) = go (in_declaration s w n None ∷ k) want
declared_step k s w n _ = fault

-- behind `if`
abbrev pub if_step : Stack → ℕ → Branches → ℕ → TokenKind → Step
if_step k s bs a (Punct OpenParen) = go (in_if_test s bs a ∷ k) want
if_step k s bs a _ = fault

-- behind `while`
abbrev pub while_step : Stack → ℕ → TokenKind → Step
while_step k s (Punct OpenParen) = go (in_loop_test s ∷ k) want
while_step k s _ = fault

-- where an arm or a loop's body must begin
abbrev pub body_step : ℕ → Stack → TokenKind → Step
body_step i k (Punct OpenBrace) = go k (statements_start i no_stmt)
body_step i k x = simple_step i k x

abbrev pub is_else_word : StatementWord → Bool
is_else_word else_word = true
is_else_word w = false

-- whether the token is `else`
abbrev pub is_else : TokenKind → Bool
is_else (Name n) = is_else_word (statement_word n)
is_else x = false

-- the statement ended before the token
abbrev pub end_branches : ℕ → Stack → ℕ → Branches → TokenKind → Step
end_branches i (in_block z ss ∷ k) s bs x = statements_step i k z (more_stmt ss (stmt s i (branches bs no_else))) x
end_branches i k s bs x = fault

-- behind a branch of an `if`
abbrev pub branch_step : ℕ → Stack → ℕ → Branches → TokenKind → Step
branch_step i k s bs x = if is_else x then go k (after_else s bs) else end_branches i k s bs x

-- an `if` behind `else` begins a further branch
abbrev pub after_else_word : ℕ → Stack → ℕ → Branches → Bytes → StatementWord → Step
after_else_word i k s bs n if_word = go k (after_if s bs i)
after_else_word i k s bs n w = simple_word i (in_else s bs ∷ k) n w

-- behind `else`
abbrev pub else_step : ℕ → Stack → ℕ → Branches → TokenKind → Step
else_step i k s bs (Name n) = after_else_word i k s bs n (statement_word n)
else_step i k s bs x = body_step i (in_else s bs ∷ k) x
