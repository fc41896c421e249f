-- What code may change: the variables and properties that are assigned in it, and its calls.
use Rattle.std.specs.Prelude.{not, Bool, true, false, List, [], ◌∷◌, ◌++◌, filter, Option, Some, None}
use Rattle.std.specs.List.{filter_map, list_any}
use Rattle.std.specs.Str.{bytes_eq}
use Rattle.check_values.specs.Rows.{Bytes, is_among}
use Rattle.js_grammar.specs.Code.{Ex, ex, ExForm, parens, elements, fields, function_ex, postfixed, prefixed, chain, cond, arrow, Exs, no_ex, more_ex, Link, link, LinkForm, member, index, call, Links, no_link, more_link, Operand, operand, OperandForm, right_side, as_type, Operands, no_operand, more_operand, Field, field, FieldForm, shorthand, valued, Fields, no_field, more_field, Arm, arm, Arms, no_arm, more_arm, Function, function, Sig, sig, parameter, Parameters, no_parameter, more_parameter, ArrowBody, arrow_block, arrow_value, Block, block, Stmts, no_stmt, more_stmt, Stmt, stmt, StmtForm, declares, function_stmt, does, branches, loop, nested, Declaration, declaration, Simple, simple, SimpleForm, return_value, throw_value, assign, evaluate, Body, block_body, simple_body, Branch, branch, Branches, no_branch, more_branch, Else, no_else, else_body, variable}

-- one thing that code may change
pub data Change : Type 0 where
  -- a variable is assigned, in an inner function (true) or outside of them
  sets_variable : Bool → Bytes → Change
  sets_property : Bytes → Change
  -- a call, or an assignment to an element, outside of inner functions
  may_set_all : Change

-- what a change in an inner function is to those outside
abbrev pub from_inside : Change → Option Change
from_inside (sets_variable inner name) = Some (sets_variable true name)
from_inside (sets_property name) = Some (sets_property name)
from_inside may_set_all = None

-- whether it changes anything but the own names of a scope
abbrev pub is_outside : List Bytes → Change → Bool
is_outside own (sets_variable inner name) = not (is_among own name)
is_outside own change = true

-- the changes of a scope without those of its own names
abbrev pub outside : List Bytes → List Change → List Change
outside own changes = filter (is_outside own) changes

-- the name that a statement declares, if it declares one
abbrev pub declared_by : StmtForm → List Bytes
declared_by (declares (declaration f t binder name annotation e)) = name ∷ []
declared_by (function_stmt (function f t (Some name) s b)) = name ∷ []
declared_by form = []

-- the names that a list of statements declares
abbrev pub declared_in : Stmts → List Bytes
declared_in no_stmt = []
declared_in (more_stmt ss (stmt f t form)) = declared_in ss ++ declared_by form

abbrev pub parameter_names : Parameters → List Bytes
parameter_names no_parameter = []
parameter_names (more_parameter ps (parameter f t name optional annotation)) = parameter_names ps ++ name ∷ []

-- the names of a function's parameters
abbrev pub names_of_sig : Sig → List Bytes
names_of_sig (sig f t ps comma result) = parameter_names ps

-- a name, or none
abbrev pub name_list : Option Bytes → List Bytes
name_list None = []
name_list (Some name) = name ∷ []

-- the name of a function, if it has one
abbrev pub name_of_function : Function → List Bytes
name_of_function (function f t name s b) = name_list name

-- what an assignment to a target that ends in this link changes
abbrev pub change_of_link : LinkForm → List Change
change_of_link (member name) = sets_property name ∷ []
change_of_link (index e) = may_set_all ∷ []
change_of_link (call es comma) = []

-- the last link tells
abbrev pub change_of_links : Links → List Change
change_of_links no_link = []
change_of_links (more_link ls (link f t form)) = change_of_link form

-- what an assignment to a target changes, besides what its parts do
abbrev pub change_of_target : Ex → List Change
change_of_target (ex f t (variable name)) = sets_variable false name ∷ []
change_of_target (ex f t (postfixed e ls)) = change_of_links ls
change_of_target e = []

-- what each form may change, in order
abbrev mutual
  pub changes_of_ex : Ex → List Change
  changes_of_ex (ex f t form) = changes_of_ex_form form

  pub changes_of_ex_form : ExForm → List Change
  changes_of_ex_form (parens e) = changes_of_ex e
  changes_of_ex_form (elements es comma) = changes_of_exs es
  changes_of_ex_form (fields fs comma) = changes_of_fields fs
  changes_of_ex_form (function_ex f) = outside (name_of_function f) (changes_of_function f)
  changes_of_ex_form (postfixed e ls) = changes_of_ex e ++ changes_of_links ls
  changes_of_ex_form (prefixed ps e) = changes_of_ex e
  changes_of_ex_form (chain level e os) = changes_of_ex e ++ changes_of_operands os
  changes_of_ex_form (cond arms e) = changes_of_arms arms ++ changes_of_ex e
  changes_of_ex_form (arrow s body) = outside (names_of_sig s) (filter_map from_inside (changes_of_arrow body))
  changes_of_ex_form form = []

  pub changes_of_exs : Exs → List Change
  changes_of_exs no_ex = []
  changes_of_exs (more_ex es e) = changes_of_exs es ++ changes_of_ex e

  pub changes_of_link : Link → List Change
  changes_of_link (link f t form) = changes_of_link_form form

  pub changes_of_link_form : LinkForm → List Change
  changes_of_link_form (member name) = []
  changes_of_link_form (index e) = changes_of_ex e
  changes_of_link_form (call es comma) = changes_of_exs es ++ may_set_all ∷ []

  pub changes_of_links : Links → List Change
  changes_of_links no_link = []
  changes_of_links (more_link ls l) = changes_of_links ls ++ changes_of_link l

  pub changes_of_operand : Operand → List Change
  changes_of_operand (operand f t form) = changes_of_operand_form form

  pub changes_of_operand_form : OperandForm → List Change
  changes_of_operand_form (right_side o e) = changes_of_ex e
  changes_of_operand_form (as_type v) = []

  pub changes_of_operands : Operands → List Change
  changes_of_operands no_operand = []
  changes_of_operands (more_operand os o) = changes_of_operands os ++ changes_of_operand o

  pub changes_of_field : Field → List Change
  changes_of_field (field f t form) = changes_of_field_form form

  pub changes_of_field_form : FieldForm → List Change
  changes_of_field_form (shorthand name) = []
  changes_of_field_form (valued k e) = changes_of_ex e

  pub changes_of_fields : Fields → List Change
  changes_of_fields no_field = []
  changes_of_fields (more_field fs f) = changes_of_fields fs ++ changes_of_field f

  pub changes_of_arm : Arm → List Change
  changes_of_arm (arm f t test value) = changes_of_ex test ++ changes_of_ex value

  pub changes_of_arms : Arms → List Change
  changes_of_arms no_arm = []
  changes_of_arms (more_arm arms a) = changes_of_arms arms ++ changes_of_arm a

  -- In a function the names that it binds are not those outside. Its own name is one of the scope round it: a declaration's that in
  -- which it stands, an expression's one that has that name alone.
  pub changes_of_function : Function → List Change
  changes_of_function (function f t name s (block bf bt ss)) = outside (names_of_sig s ++ declared_in ss) (filter_map from_inside (changes_of_stmts ss))

  -- in an arrow's body, its parameters among the names still
  pub changes_of_arrow : ArrowBody → List Change
  changes_of_arrow (arrow_block b) = changes_of_block b
  changes_of_arrow (arrow_value e) = changes_of_ex e

  -- a block's own names are not those outside
  pub changes_of_block : Block → List Change
  changes_of_block (block f t ss) = outside (declared_in ss) (changes_of_stmts ss)

  pub changes_of_stmts : Stmts → List Change
  changes_of_stmts no_stmt = []
  changes_of_stmts (more_stmt ss s) = changes_of_stmts ss ++ changes_of_stmt s

  pub changes_of_stmt : Stmt → List Change
  changes_of_stmt (stmt f t form) = changes_of_stmt_form form

  pub changes_of_stmt_form : StmtForm → List Change
  changes_of_stmt_form (declares d) = changes_of_declaration d
  changes_of_stmt_form (function_stmt f) = changes_of_function f
  changes_of_stmt_form (does s) = changes_of_simple s
  changes_of_stmt_form (branches bs last) = changes_of_branches bs ++ changes_of_else last
  changes_of_stmt_form (loop e body) = changes_of_ex e ++ changes_of_body body
  changes_of_stmt_form (nested b) = changes_of_block b

  pub changes_of_declaration : Declaration → List Change
  changes_of_declaration (declaration f t binder name annotation e) = changes_of_ex e

  pub changes_of_simple : Simple → List Change
  changes_of_simple (simple f t form) = changes_of_simple_form form

  pub changes_of_simple_form : SimpleForm → List Change
  changes_of_simple_form (return_value e) = changes_of_ex e
  changes_of_simple_form (throw_value e) = changes_of_ex e
  changes_of_simple_form (assign target e) = changes_of_ex target ++ (changes_of_ex e ++ change_of_target target)
  changes_of_simple_form (evaluate e) = changes_of_ex e
  changes_of_simple_form form = []

  pub changes_of_body : Body → List Change
  changes_of_body (block_body b) = changes_of_block b
  changes_of_body (simple_body s) = changes_of_simple s

  pub changes_of_branch : Branch → List Change
  changes_of_branch (branch f t e body) = changes_of_ex e ++ changes_of_body body

  pub changes_of_branches : Branches → List Change
  changes_of_branches no_branch = []
  changes_of_branches (more_branch bs b) = changes_of_branches bs ++ changes_of_branch b

  pub changes_of_else : Else → List Change
  changes_of_else no_else = []
  changes_of_else (else_body body) = changes_of_body body

-- it assigns the name in a function inside
abbrev pub sets_inside : Bytes → Change → Bool
sets_inside name (sets_variable true own) = bytes_eq own name
sets_inside name change = false

-- whether a name is assigned in a function inside
abbrev pub is_set_inside : List Change → Bytes → Bool
is_set_inside changes name = list_any (sets_inside name) changes

-- the variable that is assigned, if one is
abbrev pub variable_set : Change → Option Bytes
variable_set (sets_variable inner name) = Some name
variable_set change = None

-- the property that is assigned, if one is
abbrev pub property_set : Change → Option Bytes
property_set (sets_property name) = Some name
property_set change = None

-- it may change any property
abbrev pub sets_all : Change → Bool
sets_all may_set_all = true
sets_all change = false
