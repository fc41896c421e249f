-- The places behind the forms of expressions and statements.
use Rattle.std.specs.Prelude.{ℕ, suc, Option, Some, None}
use Rattle.js_grammar.specs.Words.{Bytes}
use Rattle.js_grammar.specs.Types.{Ty}
use Rattle.js_grammar.specs.TypeFits.{bump, stop}
use Rattle.js_grammar.specs.Code.{Prefixes, no_prefix, more_prefix, Ex, ex, ExForm, variable, number, text, truth_value, null_value, parens, elements, fields, function_ex, postfixed, prefixed, chain, cond, arrow, Exs, no_ex, more_ex, Link, link, LinkForm, member, index, call, Links, no_link, more_link, Operand, operand, OperandForm, right_side, as_type, Operands, no_operand, more_operand, Field, field, FieldForm, shorthand, valued, Fields, no_field, more_field, Arm, arm, Arms, no_arm, more_arm, Function, function, Sig, sig, Parameter, parameter, Parameters, no_parameter, more_parameter, ArrowBody, arrow_block, arrow_value, Block, block, Stmts, no_stmt, more_stmt, Stmt, stmt, StmtForm, declares, function_stmt, does, branches, loop, nested, Declaration, declaration, Simple, simple, SimpleForm, return_bare, return_value, throw_value, break_loop, continue_loop, assign, evaluate, Body, block_body, simple_body, Branch, branch, Branches, no_branch, more_branch, Else, no_else, else_body}

-- the place behind marks in a row
abbrev pub stop_prefixes : Prefixes → ℕ → ℕ
stop_prefixes no_prefix i = i
stop_prefixes (more_prefix ps p x) i = suc (stop_prefixes ps i)

-- the place behind a colon and a type, or behind nothing
abbrev pub stop_annotation : Option Ty → ℕ → ℕ
stop_annotation None i = i
stop_annotation (Some t) i = stop t (suc i)

abbrev pub stop_name : Option Bytes → ℕ → ℕ
stop_name None i = i
stop_name (Some n) i = suc i

abbrev pub stop_parameter : Parameter → ℕ → ℕ
stop_parameter (parameter f t n o a) i = stop_annotation a (bump o (suc i))

-- behind parameters with a comma behind each
abbrev pub stop_named : Parameters → ℕ → ℕ
stop_named no_parameter i = i
stop_named (more_parameter ps p) i = suc (stop_parameter p (stop_named ps i))

abbrev pub stop_parameters : Parameters → ℕ → ℕ
stop_parameters no_parameter i = i
stop_parameters (more_parameter ps p) i = stop_parameter p (stop_named ps i)

abbrev pub stop_sig : Sig → ℕ → ℕ
stop_sig (sig f t ps c r) i = stop_annotation r (suc (bump c (stop_parameters ps (suc i))))

-- the place behind a form that begins at a place
abbrev mutual
  pub stop_ex : Ex → ℕ → ℕ
  stop_ex (ex f t x) i = stop_ex_form x i

  pub stop_ex_form : ExForm → ℕ → ℕ
  stop_ex_form (variable n) i = suc i
  stop_ex_form (number n) i = suc i
  stop_ex_form (text s) i = suc i
  stop_ex_form (truth_value b) i = suc i
  stop_ex_form null_value i = suc i
  stop_ex_form (parens e) i = suc (stop_ex e (suc i))
  stop_ex_form (elements es c) i = suc (bump c (stop_exs es (suc i)))
  stop_ex_form (fields fs c) i = suc (bump c (stop_fields fs (suc i)))
  stop_ex_form (function_ex f) i = stop_function f i
  stop_ex_form (postfixed e ls) i = stop_links ls (stop_ex e i)
  stop_ex_form (prefixed ps e) i = stop_ex e (stop_prefixes ps i)
  stop_ex_form (chain p e os) i = stop_operands os (stop_ex e i)
  stop_ex_form (cond hs e) i = stop_ex e (stop_arms hs i)
  stop_ex_form (arrow s b) i = stop_arrow_body b (suc (stop_sig s i))

  pub stop_exs : Exs → ℕ → ℕ
  stop_exs no_ex i = i
  stop_exs (more_ex es e) i = stop_ex e (stop_listed es i)

  -- behind expressions with a comma behind each
  pub stop_listed : Exs → ℕ → ℕ
  stop_listed no_ex i = i
  stop_listed (more_ex es e) i = suc (stop_ex e (stop_listed es i))

  pub stop_link : Link → ℕ → ℕ
  stop_link (link f t x) i = stop_link_form x i

  pub stop_link_form : LinkForm → ℕ → ℕ
  stop_link_form (member n) i = suc (suc i)
  stop_link_form (index e) i = suc (stop_ex e (suc i))
  stop_link_form (call es c) i = suc (bump c (stop_exs es (suc i)))

  pub stop_links : Links → ℕ → ℕ
  stop_links no_link i = i
  stop_links (more_link ls k) i = stop_link k (stop_links ls i)

  pub stop_operand : Operand → ℕ → ℕ
  stop_operand (operand f t x) i = stop_operand_form x i

  pub stop_operand_form : OperandForm → ℕ → ℕ
  stop_operand_form (right_side o e) i = stop_ex e (suc i)
  stop_operand_form (as_type v) i = stop v (suc i)

  pub stop_operands : Operands → ℕ → ℕ
  stop_operands no_operand i = i
  stop_operands (more_operand os o) i = stop_operand o (stop_operands os i)

  pub stop_field : Field → ℕ → ℕ
  stop_field (field f t x) i = stop_field_form x i

  pub stop_field_form : FieldForm → ℕ → ℕ
  stop_field_form (shorthand n) i = suc i
  stop_field_form (valued k e) i = stop_ex e (suc (suc i))

  pub stop_fields : Fields → ℕ → ℕ
  stop_fields no_field i = i
  stop_fields (more_field fs f) i = stop_field f (stop_entries fs i)

  -- behind properties with a comma behind each
  pub stop_entries : Fields → ℕ → ℕ
  stop_entries no_field i = i
  stop_entries (more_field fs f) i = suc (stop_field f (stop_entries fs i))

  pub stop_arm : Arm → ℕ → ℕ
  stop_arm (arm f t a b) i = suc (stop_ex b (suc (stop_ex a i)))

  pub stop_arms : Arms → ℕ → ℕ
  stop_arms no_arm i = i
  stop_arms (more_arm hs a) i = stop_arm a (stop_arms hs i)

  pub stop_function : Function → ℕ → ℕ
  stop_function (function f t n s b) i = stop_block b (stop_sig s (stop_name n (suc i)))

  pub stop_arrow_body : ArrowBody → ℕ → ℕ
  stop_arrow_body (arrow_block b) i = stop_block b i
  stop_arrow_body (arrow_value e) i = stop_ex e i

  pub stop_block : Block → ℕ → ℕ
  stop_block (block f t ss) i = suc (stop_stmts ss (suc i))

  pub stop_stmts : Stmts → ℕ → ℕ
  stop_stmts no_stmt i = i
  stop_stmts (more_stmt ss s) i = stop_stmt s (stop_stmts ss i)

  pub stop_stmt : Stmt → ℕ → ℕ
  stop_stmt (stmt f t s) i = stop_stmt_form s i

  pub stop_stmt_form : StmtForm → ℕ → ℕ
  stop_stmt_form (declares d) i = suc (stop_declaration d i)
  stop_stmt_form (function_stmt f) i = stop_function f i
  stop_stmt_form (does s) i = suc (stop_simple s i)
  stop_stmt_form (branches bs e) i = stop_else e (stop_branches bs i)
  stop_stmt_form (loop e b) i = stop_body b (suc (stop_ex e (suc (suc i))))
  stop_stmt_form (nested b) i = stop_block b i

  pub stop_declaration : Declaration → ℕ → ℕ
  stop_declaration (declaration f t w n a e) i = stop_ex e (suc (stop_annotation a (suc (suc i))))

  pub stop_simple : Simple → ℕ → ℕ
  stop_simple (simple f t s) i = stop_simple_form s i

  pub stop_simple_form : SimpleForm → ℕ → ℕ
  stop_simple_form return_bare i = suc i
  stop_simple_form (return_value e) i = stop_ex e (suc i)
  stop_simple_form (throw_value e) i = stop_ex e (suc i)
  stop_simple_form break_loop i = suc i
  stop_simple_form continue_loop i = suc i
  stop_simple_form (assign a e) i = stop_ex e (suc (stop_ex a i))
  stop_simple_form (evaluate e) i = stop_ex e i

  pub stop_body : Body → ℕ → ℕ
  stop_body (block_body b) i = stop_block b i
  stop_body (simple_body s) i = suc (stop_simple s i)

  pub stop_branch : Branch → ℕ → ℕ
  stop_branch (branch f t e b) i = stop_body b (suc (stop_ex e (suc (suc i))))

  pub stop_branches : Branches → ℕ → ℕ
  stop_branches no_branch i = i
  stop_branches (more_branch bs b) i = stop_branch b (stop_elses bs i)

  -- behind branches with `else` behind each
  pub stop_elses : Branches → ℕ → ℕ
  stop_elses no_branch i = i
  stop_elses (more_branch bs b) i = suc (stop_branch b (stop_elses bs i))

  pub stop_else : Else → ℕ → ℕ
  stop_else no_else i = i
  stop_else (else_body b) i = stop_body b (suc i)
