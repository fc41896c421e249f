-- Pieces of code, one in another: their parts, and the names that a piece binds for them.
use Rattle.std.specs.Prelude.{◌++◌, Bool, true, false, List, [], ◌∷◌}
use Rattle.js_grammar.specs.Code.{Ex, ex, ExForm, parens, elements, fields, function_ex, postfixed, prefixed, chain, cond, arrow, Exs, no_ex, more_ex, link, member, index, call, Links, no_link, more_link, operand, right_side, as_type, Operands, no_operand, more_operand, field, shorthand, valued, Fields, no_field, more_field, arm, Arms, no_arm, more_arm, Function, function, arrow_block, arrow_value, Block, block, Stmts, no_stmt, more_stmt, Stmt, stmt, StmtForm, declares, function_stmt, does, branches, loop, nested, Declaration, declaration, Simple, simple, SimpleForm, return_value, throw_value, assign, evaluate, Body, block_body, simple_body, branch, Branches, no_branch, more_branch, Else, no_else, else_body}
use Rattle.js_grammar.specs.Items.{ExportForm, export_declaration, export_function, export_default_function, export_default, ItemForm, exports, declares_item, function_item, does_item, item, Items, no_item, more_item}
use Rattle.check_values.specs.Rows.{Bytes}
use Rattle.typing.specs.Changes.{Change, declared_in, names_of_sig, name_of_function, changes_of_ex, changes_of_function, changes_of_block, changes_of_stmts, changes_of_stmt, changes_of_simple}
use Rattle.module_errors.specs.TopNames.{changes_of_items}

-- a piece of code
pub data Piece : Type 0 where
  an_expression : Ex → Piece
  a_function : Function → Piece
  a_block : Block → Piece
  a_list : Stmts → Piece
  a_statement : Stmt → Piece
  a_simple : Simple → Piece
  -- what a module has so far
  the_items : Items → Piece

-- ---- what stands in a piece

abbrev pub in_exs : Exs → List Piece
in_exs no_ex = []
in_exs (more_ex es e) = in_exs es ++ an_expression e ∷ []

abbrev pub in_links : Links → List Piece
in_links no_link = []
in_links (more_link ls (link f t (member name))) = in_links ls
in_links (more_link ls (link f t (index e))) = in_links ls ++ an_expression e ∷ []
in_links (more_link ls (link f t (call es comma))) = in_links ls ++ in_exs es

abbrev pub in_operands : Operands → List Piece
in_operands no_operand = []
in_operands (more_operand os (operand f t (right_side o e))) = in_operands os ++ an_expression e ∷ []
in_operands (more_operand os (operand f t (as_type v))) = in_operands os

abbrev pub in_fields : Fields → List Piece
in_fields no_field = []
in_fields (more_field fs (field f t (shorthand name))) = in_fields fs
in_fields (more_field fs (field f t (valued k e))) = in_fields fs ++ an_expression e ∷ []

abbrev pub in_arms : Arms → List Piece
in_arms no_arm = []
in_arms (more_arm arms (arm f t test value)) = in_arms arms ++ an_expression test ∷ an_expression value ∷ []

abbrev pub in_ex : ExForm → List Piece
in_ex (parens e) = an_expression e ∷ []
in_ex (elements es comma) = in_exs es
in_ex (fields fs comma) = in_fields fs
in_ex (function_ex f) = a_function f ∷ []
in_ex (postfixed e ls) = an_expression e ∷ in_links ls
in_ex (prefixed ps e) = an_expression e ∷ []
in_ex (chain level e os) = an_expression e ∷ in_operands os
in_ex (cond arms e) = in_arms arms ++ an_expression e ∷ []
in_ex (arrow s (arrow_block (block f t ss))) = a_list ss ∷ []
in_ex (arrow s (arrow_value e)) = an_expression e ∷ []
in_ex form = []

abbrev pub in_body : Body → List Piece
in_body (block_body b) = a_block b ∷ []
in_body (simple_body s) = a_simple s ∷ []

abbrev pub in_branches : Branches → List Piece
in_branches no_branch = []
in_branches (more_branch bs (branch f t e body)) = in_branches bs ++ an_expression e ∷ in_body body

abbrev pub in_else : Else → List Piece
in_else no_else = []
in_else (else_body body) = in_body body

abbrev pub in_declaration : Declaration → List Piece
in_declaration (declaration f t binder name annotation e) = an_expression e ∷ []

abbrev pub in_statement : StmtForm → List Piece
in_statement (declares d) = in_declaration d
in_statement (function_stmt f) = a_function f ∷ []
in_statement (does s) = a_simple s ∷ []
in_statement (branches bs last) = in_branches bs ++ in_else last
in_statement (loop e body) = an_expression e ∷ in_body body
in_statement (nested b) = a_block b ∷ []

abbrev pub in_simple : SimpleForm → List Piece
in_simple (return_value e) = an_expression e ∷ []
in_simple (throw_value e) = an_expression e ∷ []
in_simple (assign target e) = an_expression target ∷ an_expression e ∷ []
in_simple (evaluate e) = an_expression e ∷ []
in_simple form = []

abbrev pub in_export : ExportForm → List Piece
in_export (export_declaration d) = in_declaration d
in_export (export_function f) = a_function f ∷ []
in_export (export_default_function f) = a_function f ∷ []
in_export (export_default e) = an_expression e ∷ []
in_export form = []

abbrev pub in_item : ItemForm → List Piece
in_item (exports form) = in_export form
in_item (declares_item d) = in_declaration d
in_item (function_item f) = a_function f ∷ []
in_item (does_item s) = a_simple s ∷ []
in_item form = []

-- the parts of a piece, in order; of a list they are those up to the last one, and the last one
abbrev pub parts : Piece → List Piece
parts (an_expression (ex f t form)) = in_ex form
parts (a_function (function f t name s (block bf bt ss))) = a_list ss ∷ []
parts (a_block (block f t ss)) = a_list ss ∷ []
parts (a_list no_stmt) = []
parts (a_list (more_stmt ss s)) = a_list ss ∷ a_statement s ∷ []
parts (a_statement (stmt f t form)) = in_statement form
parts (a_simple (simple f t form)) = in_simple form
parts (the_items no_item) = []
parts (the_items (more_item is (item f t form))) = the_items is ∷ in_item form

-- ---- scopes

-- The names that a piece binds for its parts: a function its parameters and what its body declares, a block what it declares. A
-- function expression binds its own name round the function.
abbrev pub bound_by : Piece → List Bytes
bound_by (an_expression (ex f t (function_ex made_by))) = name_of_function made_by
bound_by (an_expression (ex f t (arrow s (arrow_block (block bf bt ss))))) = names_of_sig s ++ declared_in ss
bound_by (an_expression (ex f t (arrow s (arrow_value e)))) = names_of_sig s
bound_by (a_function (function f t name s (block bf bt ss))) = names_of_sig s ++ declared_in ss
bound_by (a_block (block f t ss)) = declared_in ss
bound_by p = []

-- its parts stand in a function that it is
abbrev pub is_function : Piece → Bool
is_function (an_expression (ex f t (arrow s body))) = true
is_function (a_function f) = true
is_function p = false

-- what a piece may change
abbrev pub changes_of : Piece → List Change
changes_of (an_expression e) = changes_of_ex e
changes_of (a_function f) = changes_of_function f
changes_of (a_block b) = changes_of_block b
changes_of (a_list ss) = changes_of_stmts ss
changes_of (a_statement s) = changes_of_stmt s
changes_of (a_simple s) = changes_of_simple s
changes_of (the_items is) = changes_of_items is
