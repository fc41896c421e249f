-- Each tree of an expression or a statement is what some value of the code stands for.
use Rattle.js_grammar.specs.Code as g
use Rattle.code_tree.specs.View.{arrow_body_view, body_view, else_view, expr_form_view, field_form_view, link_form_view, operand_form_view, simple_form_view, statement_form_view, arm_view, block_view, branch_view, declaration_view, expr_view, field_view, function_view, link_view, operand_view, simple_view, statement_view, exprs_view, links_view, operands_view, fields_view, arms_view, statements_view, branches_view}
use Rattle.full_law.proofs.Lists.{Seen}
use Rattle.full_law.proofs.TypeTrees.{type_tree, some_type_tree, key_tree}
use Rattle.full_law.proofs.FlatTrees.{prefixes_tree, level_tree, operator_tree, binder_tree, signature_tree}
use Rattle.full_law.proofs.CodeLevels as of

mutual
  pub expr_tree : (x : g.Ex) → Seen expr_view x
  expr_tree (g.ex f e x) = of.expr_of f e x (form_tree x)

  form_tree : (x : g.ExForm) → Seen expr_form_view x
  form_tree (g.variable n) = of.variable_of n
  form_tree (g.number n) = of.number_of n
  form_tree (g.text n) = of.text_of n
  form_tree (g.truth_value b) = of.truth_of b
  form_tree g.null_value = of.null_of
  form_tree (g.parens x) = of.paren_of x (expr_tree x)
  form_tree (g.elements l c) = of.array_of c l (exprs_tree l)
  form_tree (g.fields l c) = of.object_of c l (fields_tree l)
  form_tree (g.function_ex x) = of.function_expr_of x (function_tree x)
  form_tree (g.postfixed x l) = of.postfix_of (g.postfixed x l) (of.postfix_expr_of x l (expr_tree x) (links_tree l))
  form_tree (g.prefixed p x) = of.prefix_of p x (prefixes_tree p) (expr_tree x)
  form_tree (g.chain p x l) = of.chain_of (g.chain p x l) (of.chain_expr_of p x l (level_tree p) (expr_tree x) (operands_tree l))
  form_tree (g.cond l x) = of.conditional_of (g.cond l x) (of.conditional_expr_of l x (arms_tree l) (expr_tree x))
  form_tree (g.arrow s b) = of.arrow_of (g.arrow s b) (of.arrow_expr_of s b (signature_tree s) (arrow_body_tree b))

  exprs_tree : (l : g.Exs) → Seen exprs_view l
  exprs_tree g.no_ex = of.no_exprs
  exprs_tree (g.more_ex l x) = of.more_exprs l x (exprs_tree l) (expr_tree x)

  arrow_body_tree : (x : g.ArrowBody) → Seen arrow_body_view x
  arrow_body_tree (g.arrow_block b) = of.arrow_block_of b (block_tree b)
  arrow_body_tree (g.arrow_value x) = of.arrow_value_of x (expr_tree x)

  link_tree : (x : g.Link) → Seen link_view x
  link_tree (g.link f e x) = of.link_of f e x (link_form_tree x)

  link_form_tree : (x : g.LinkForm) → Seen link_form_view x
  link_form_tree (g.member n) = of.member_of n
  link_form_tree (g.index x) = of.index_of x (expr_tree x)
  link_form_tree (g.call l c) = of.call_of c l (exprs_tree l)

  links_tree : (l : g.Links) → Seen links_view l
  links_tree g.no_link = of.no_links
  links_tree (g.more_link l x) = of.more_links l x (links_tree l) (link_tree x)

  operand_tree : (x : g.Operand) → Seen operand_view x
  operand_tree (g.operand f e x) = of.operand_of f e x (operand_form_tree x)

  operand_form_tree : (x : g.OperandForm) → Seen operand_form_view x
  operand_form_tree (g.right_side o x) = of.right_of o x (operator_tree o) (expr_tree x)
  operand_form_tree (g.as_type t) = of.as_of t (type_tree t)

  operands_tree : (l : g.Operands) → Seen operands_view l
  operands_tree g.no_operand = of.no_operands
  operands_tree (g.more_operand l x) = of.more_operands l x (operands_tree l) (operand_tree x)

  field_tree : (x : g.Field) → Seen field_view x
  field_tree (g.field f e x) = of.field_of f e x (field_form_tree x)

  field_form_tree : (x : g.FieldForm) → Seen field_form_view x
  field_form_tree (g.shorthand n) = of.shorthand_of n
  field_form_tree (g.valued k x) = of.valued_of k x (key_tree k) (expr_tree x)

  fields_tree : (l : g.Fields) → Seen fields_view l
  fields_tree g.no_field = of.no_fields
  fields_tree (g.more_field l x) = of.more_fields l x (fields_tree l) (field_tree x)

  arm_tree : (x : g.Arm) → Seen arm_view x
  arm_tree (g.arm f e t b) = of.arm_of f e t b (expr_tree t) (expr_tree b)

  arms_tree : (l : g.Arms) → Seen arms_view l
  arms_tree g.no_arm = of.no_arms
  arms_tree (g.more_arm l x) = of.more_arms l x (arms_tree l) (arm_tree x)

  pub function_tree : (x : g.Function) → Seen function_view x
  function_tree (g.function f e n s b) = of.function_of f e n s b (signature_tree s) (block_tree b)

  block_tree : (x : g.Block) → Seen block_view x
  block_tree (g.block f e l) = of.block_of f e l (statements_tree l)

  statements_tree : (l : g.Stmts) → Seen statements_view l
  statements_tree g.no_stmt = of.no_statements
  statements_tree (g.more_stmt l x) = of.more_statements l x (statements_tree l) (statement_tree x)

  statement_tree : (x : g.Stmt) → Seen statement_view x
  statement_tree (g.stmt f e x) = of.statement_of f e x (statement_form_tree x)

  statement_form_tree : (x : g.StmtForm) → Seen statement_form_view x
  statement_form_tree (g.declares x) = of.declares_of x (declaration_tree x)
  statement_form_tree (g.function_stmt x) = of.function_statement_of x (function_tree x)
  statement_form_tree (g.does x) = of.does_of x (simple_tree x)
  statement_form_tree (g.branches l x) = of.if_of (g.branches l x) (of.if_statement_of l x (branches_tree l) (else_tree x))
  statement_form_tree (g.loop t b) = of.while_of (g.loop t b) (of.while_statement_of t b (expr_tree t) (body_tree b))
  statement_form_tree (g.nested x) = of.nested_of x (block_tree x)

  pub declaration_tree : (x : g.Declaration) → Seen declaration_view x
  declaration_tree (g.declaration f e b n t v) = of.declaration_of f e n b t v (binder_tree b) (some_type_tree t) (expr_tree v)

  pub simple_tree : (x : g.Simple) → Seen simple_view x
  simple_tree (g.simple f e x) = of.simple_of f e x (simple_form_tree x)

  simple_form_tree : (x : g.SimpleForm) → Seen simple_form_view x
  simple_form_tree g.return_bare = of.return_of
  simple_form_tree (g.return_value x) = of.return_value_of x (expr_tree x)
  simple_form_tree (g.throw_value x) = of.throw_of x (expr_tree x)
  simple_form_tree g.break_loop = of.break_of
  simple_form_tree g.continue_loop = of.continue_of
  simple_form_tree (g.assign t v) = of.assign_of (g.assign t v) (of.assignment_of t v (expr_tree t) (expr_tree v))
  simple_form_tree (g.evaluate x) = of.evaluate_of x (expr_tree x)

  body_tree : (x : g.Body) → Seen body_view x
  body_tree (g.block_body b) = of.block_body_of b (block_tree b)
  body_tree (g.simple_body s) = of.simple_body_of s (simple_tree s)

  else_tree : (x : g.Else) → Seen else_view x
  else_tree g.no_else = of.no_else_of
  else_tree (g.else_body b) = of.else_of b (body_tree b)

  branch_tree : (x : g.Branch) → Seen branch_view x
  branch_tree (g.branch f e t b) = of.branch_of f e t b (expr_tree t) (body_tree b)

  branches_tree : (l : g.Branches) → Seen branches_view l
  branches_tree g.no_branch = of.no_branches
  branches_tree (g.more_branch l x) = of.more_branches l x (branches_tree l) (branch_tree x)
