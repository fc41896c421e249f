-- A whole statement, block, body or item, and the form that waits for it.
use Rattle.std.specs.Prelude.{ℕ, suc, ◌∷◌, if◌then◌else◌}
use Rattle.js_token.specs.declared.token.TokenKind.{TokenKind}
use Rattle.js_token.specs.declared.token.TokenKind.TheVariants.{Punct}
use Rattle.js_token.specs.declared.punct.Punct.TheVariants.{Semicolon, Assign}
use Rattle.js_grammar.specs.Code.{Ex, ex, function_ex, arrow, no_link, Function, function, arrow_block, Block, more_stmt, Stmt, stmt, function_stmt, does, branches, loop, nested, Simple, simple, SimpleForm, return_value, throw_value, assign, evaluate, Body, block_body, simple_body, branch, more_branch, else_body, is_target, Declaration, declares}
use Rattle.js_grammar.specs.Items.{export_declaration, export_function, export_default_function, exports, declares_item, function_item, does_item, item, Items, more_item, ItemForm}
use Rattle.code_law.specs.Frames.{FunctionKind, is_value, is_statement, is_default, Wrap, plain_item, exported_item, default_item, in_item, items_start, Verb, returns, throws, assigns, evaluates, in_body, in_simple, in_if, in_else, in_loop, in_function, in_block, want, after_links, settled, statements_start, after_branch, Stack, Step, fault, go, start_sig, start_function, start_block, start_simple}

-- a whole statement stands in a block
abbrev pub give_stmt : Stack → Stmt → Step
give_stmt (in_block s ss ∷ k) y = go k (statements_start s (more_stmt ss y))
give_stmt k y = fault

-- Each has the place behind what is whole.
abbrev pub give_body : ℕ → Stack → Body → Step
give_body i (in_loop s e ∷ k) b = give_stmt k (stmt s i (loop e b))
give_body i (in_if s bs a e ∷ k) b = go k (after_branch s (more_branch bs (branch a i e b)))
give_body i (in_else s bs ∷ k) b = give_stmt k (stmt s i (branches bs (else_body b)))
give_body i k b = fault

-- a whole item that began at a place, behind the items before it
abbrev pub give_item : ℕ → Stack → ℕ → Items → ItemForm → Step
give_item i k a is x = go k (items_start (more_item is (item a i x)))

-- an item from what is declared, and what stands before it
abbrev pub wrap_declaration : Wrap → Declaration → ItemForm
wrap_declaration plain_item d = declares_item d
wrap_declaration w d = exports (export_declaration d)

-- a function, an exported one, or the default of the module
abbrev pub wrap_function : Wrap → Function → ItemForm
wrap_function plain_item f = function_item f
wrap_function exported_item f = exports (export_function f)
wrap_function default_item f = exports (export_default_function f)

-- a whole declaration and its semicolon, as an item or as a statement
abbrev pub give_declaration : ℕ → Stack → ℕ → Declaration → Step
give_declaration i (in_item a w is ∷ k) s d = give_item i k a is (wrap_declaration w d)
give_declaration i k s d = give_stmt k (stmt s i (declares d))

-- a whole function, as an item, a statement or an expression
abbrev pub give_function : ℕ → Stack → FunctionKind → Function → Step
give_function i (in_item a w is ∷ k) is_statement f = give_item i k a is (wrap_function w f)
give_function i (in_item a w is ∷ k) is_default f = give_item i k a is (wrap_function w f)
give_function i k is_statement f = give_stmt k (stmt (start_function f) i (function_stmt f))
give_function i k is_default f = fault
give_function i k is_value f = go k (after_links (ex (start_function f) i (function_ex f)) no_link)

-- a whole block, as the body of a function, an arrow or a loop, as a statement, or as an arm of an `if`
abbrev pub give_block : ℕ → Stack → Block → Step
give_block i (in_function q s n g ∷ k) b = give_function i k q (function s i n g b)
give_block i (in_body g ∷ k) b = go k (settled (ex (start_sig g) i (arrow g (arrow_block b))))
give_block i (in_block s ss ∷ k) b = give_stmt (in_block s ss ∷ k) (stmt (start_block b) i (nested b))
give_block i k b = give_body i k (block_body b)

-- the semicolon at i stands behind a simple statement
abbrev pub end_simple : ℕ → Stack → Simple → Step
end_simple i (in_block s ss ∷ k) y = give_stmt (in_block s ss ∷ k) (stmt (start_simple y) (suc i) (does y))
end_simple i (in_item a w is ∷ k) y = give_item (suc i) k a is (does_item y)
end_simple i k y = give_body (suc i) k (simple_body y)

-- what becomes of a whole expression
abbrev pub verb_form : Verb → Ex → SimpleForm
verb_form returns e = return_value e
verb_form throws e = throw_value e
verb_form (assigns a) e = assign a e
verb_form evaluates e = evaluate e

-- the token at i stands behind the expression of a simple statement
abbrev pub end_value : ℕ → Stack → ℕ → Verb → Ex → TokenKind → Step
end_value i k s v e (Punct Semicolon) = end_simple i k (simple s i (verb_form v e))
end_value i k s evaluates e (Punct Assign) = if is_target e then go (in_simple s (assigns e) ∷ k) want else fault
end_value i k s v e _ = fault
