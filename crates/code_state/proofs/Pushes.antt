-- The lists of a tree grow at their end.
use Rattle.std.proofs.Common.{◌≡◌, refl, List, [], ◌∷◌, ◌++◌}
use Rattle.std.specs.Prelude.{map}
use Rattle.js_grammar.specs.Code as g
use Rattle.js_grammar.specs.Items as items
use Rattle.code_tree.specs.Flat.{prefixes_from, prefixes_view, prefix_view, parameters_from, parameter_view, parameters_view}
use Rattle.code_tree.specs.Steps.{exs_from, links_from, operands_from, fields_from, arms_from, stmts_from, branches_from}
use Rattle.code_tree.specs.View.{expr_view, link_view, operand_view, field_view, arm_view, statement_view, branch_view, exprs_view, links_view, operands_view, fields_view, arms_view, statements_view, branches_view}
use Rattle.js_tree.specs.View.{item_view, items_from, items_view, imported_view, importeds_from, importeds_view, exported_view, exporteds_from, exporteds_view}
use Rattle.code_tree.specs.declared.types.PrefixMark.{PrefixMark}
use Rattle.code_tree.specs.declared.types.Parameter.{Parameter}
use Rattle.code_tree.specs.declared.types.Expr.{Expr}
use Rattle.code_tree.specs.declared.types.Link.{Link}
use Rattle.code_tree.specs.declared.types.Operand.{Operand}
use Rattle.code_tree.specs.declared.types.Field.{Field}
use Rattle.code_tree.specs.declared.types.Arm.{Arm}
use Rattle.code_tree.specs.declared.types.Statement.{Statement}
use Rattle.code_tree.specs.declared.types.Branch.{Branch}
use Rattle.js_tree.specs.declared.items.Item.{Item}
use Rattle.js_tree.specs.declared.items.Imported.{Imported}
use Rattle.js_tree.specs.declared.items.Exported.{Exported}

exprs-from : (acc : g.Exs) (xs : List Expr) (x : Expr) → exs_from acc (map expr_view (xs ++ x ∷ [])) ≡ g.more_ex (exs_from acc (map expr_view xs)) (expr_view x)
exprs-from acc [] x = refl
exprs-from acc (y ∷ xs) x = exprs-from (g.more_ex acc (expr_view y)) xs x

pub exprs_view-push : (xs : List Expr) (x : Expr) → exprs_view (xs ++ x ∷ []) ≡ g.more_ex (exprs_view xs) (expr_view x)
unfolding exprs_view
exprs_view-push xs x = exprs-from g.no_ex xs x

pub exprs_view-none : exprs_view [] ≡ g.no_ex
unfolding exprs_view
exprs_view-none = refl

links-from : (acc : g.Links) (xs : List Link) (x : Link) → links_from acc (map link_view (xs ++ x ∷ [])) ≡ g.more_link (links_from acc (map link_view xs)) (link_view x)
links-from acc [] x = refl
links-from acc (y ∷ xs) x = links-from (g.more_link acc (link_view y)) xs x

pub links_view-push : (xs : List Link) (x : Link) → links_view (xs ++ x ∷ []) ≡ g.more_link (links_view xs) (link_view x)
unfolding links_view
links_view-push xs x = links-from g.no_link xs x

pub links_view-none : links_view [] ≡ g.no_link
unfolding links_view
links_view-none = refl

operands-from : (acc : g.Operands) (xs : List Operand) (x : Operand) → operands_from acc (map operand_view (xs ++ x ∷ [])) ≡ g.more_operand (operands_from acc (map operand_view xs)) (operand_view x)
operands-from acc [] x = refl
operands-from acc (y ∷ xs) x = operands-from (g.more_operand acc (operand_view y)) xs x

pub operands_view-push : (xs : List Operand) (x : Operand) → operands_view (xs ++ x ∷ []) ≡ g.more_operand (operands_view xs) (operand_view x)
unfolding operands_view
operands_view-push xs x = operands-from g.no_operand xs x

pub operands_view-none : operands_view [] ≡ g.no_operand
unfolding operands_view
operands_view-none = refl

fields-from : (acc : g.Fields) (xs : List Field) (x : Field) → fields_from acc (map field_view (xs ++ x ∷ [])) ≡ g.more_field (fields_from acc (map field_view xs)) (field_view x)
fields-from acc [] x = refl
fields-from acc (y ∷ xs) x = fields-from (g.more_field acc (field_view y)) xs x

pub fields_view-push : (xs : List Field) (x : Field) → fields_view (xs ++ x ∷ []) ≡ g.more_field (fields_view xs) (field_view x)
unfolding fields_view
fields_view-push xs x = fields-from g.no_field xs x

pub fields_view-none : fields_view [] ≡ g.no_field
unfolding fields_view
fields_view-none = refl

arms-from : (acc : g.Arms) (xs : List Arm) (x : Arm) → arms_from acc (map arm_view (xs ++ x ∷ [])) ≡ g.more_arm (arms_from acc (map arm_view xs)) (arm_view x)
arms-from acc [] x = refl
arms-from acc (y ∷ xs) x = arms-from (g.more_arm acc (arm_view y)) xs x

pub arms_view-push : (xs : List Arm) (x : Arm) → arms_view (xs ++ x ∷ []) ≡ g.more_arm (arms_view xs) (arm_view x)
unfolding arms_view
arms_view-push xs x = arms-from g.no_arm xs x

pub arms_view-none : arms_view [] ≡ g.no_arm
unfolding arms_view
arms_view-none = refl

statements-from : (acc : g.Stmts) (xs : List Statement) (x : Statement) → stmts_from acc (map statement_view (xs ++ x ∷ [])) ≡ g.more_stmt (stmts_from acc (map statement_view xs)) (statement_view x)
statements-from acc [] x = refl
statements-from acc (y ∷ xs) x = statements-from (g.more_stmt acc (statement_view y)) xs x

pub statements_view-push : (xs : List Statement) (x : Statement) → statements_view (xs ++ x ∷ []) ≡ g.more_stmt (statements_view xs) (statement_view x)
unfolding statements_view
statements_view-push xs x = statements-from g.no_stmt xs x

pub statements_view-none : statements_view [] ≡ g.no_stmt
unfolding statements_view
statements_view-none = refl

branches-from : (acc : g.Branches) (xs : List Branch) (x : Branch) → branches_from acc (map branch_view (xs ++ x ∷ [])) ≡ g.more_branch (branches_from acc (map branch_view xs)) (branch_view x)
branches-from acc [] x = refl
branches-from acc (y ∷ xs) x = branches-from (g.more_branch acc (branch_view y)) xs x

pub branches_view-push : (xs : List Branch) (x : Branch) → branches_view (xs ++ x ∷ []) ≡ g.more_branch (branches_view xs) (branch_view x)
unfolding branches_view
branches_view-push xs x = branches-from g.no_branch xs x

pub branches_view-none : branches_view [] ≡ g.no_branch
unfolding branches_view
branches_view-none = refl

parameters-from : (acc : g.Parameters) (xs : List Parameter) (x : Parameter) → parameters_from acc (map parameter_view (xs ++ x ∷ [])) ≡ g.more_parameter (parameters_from acc (map parameter_view xs)) (parameter_view x)
parameters-from acc [] x = refl
parameters-from acc (y ∷ xs) x = parameters-from (g.more_parameter acc (parameter_view y)) xs x

pub parameters_view-push : (xs : List Parameter) (x : Parameter) → parameters_view (xs ++ x ∷ []) ≡ g.more_parameter (parameters_view xs) (parameter_view x)
unfolding parameters_view
parameters_view-push xs x = parameters-from g.no_parameter xs x

pub parameters_view-none : parameters_view [] ≡ g.no_parameter
unfolding parameters_view
parameters_view-none = refl

items-from : (acc : items.Items) (xs : List Item) (x : Item) → items_from acc (map item_view (xs ++ x ∷ [])) ≡ items.more_item (items_from acc (map item_view xs)) (item_view x)
items-from acc [] x = refl
items-from acc (y ∷ xs) x = items-from (items.more_item acc (item_view y)) xs x

pub items_view-push : (xs : List Item) (x : Item) → items_view (xs ++ x ∷ []) ≡ items.more_item (items_view xs) (item_view x)
unfolding items_view
items_view-push xs x = items-from items.no_item xs x

pub items_view-none : items_view [] ≡ items.no_item
unfolding items_view
items_view-none = refl

importeds-from : (acc : items.Importeds) (xs : List Imported) (x : Imported) → importeds_from acc (map imported_view (xs ++ x ∷ [])) ≡ items.more_imported (importeds_from acc (map imported_view xs)) (imported_view x)
importeds-from acc [] x = refl
importeds-from acc (y ∷ xs) x = importeds-from (items.more_imported acc (imported_view y)) xs x

pub importeds_view-push : (xs : List Imported) (x : Imported) → importeds_view (xs ++ x ∷ []) ≡ items.more_imported (importeds_view xs) (imported_view x)
unfolding importeds_view
importeds_view-push xs x = importeds-from items.no_imported xs x

pub importeds_view-none : importeds_view [] ≡ items.no_imported
unfolding importeds_view
importeds_view-none = refl

exporteds-from : (acc : items.Exporteds) (xs : List Exported) (x : Exported) → exporteds_from acc (map exported_view (xs ++ x ∷ [])) ≡ items.more_exported (exporteds_from acc (map exported_view xs)) (exported_view x)
exporteds-from acc [] x = refl
exporteds-from acc (y ∷ xs) x = exporteds-from (items.more_exported acc (exported_view y)) xs x

pub exporteds_view-push : (xs : List Exported) (x : Exported) → exporteds_view (xs ++ x ∷ []) ≡ items.more_exported (exporteds_view xs) (exported_view x)
unfolding exporteds_view
exporteds_view-push xs x = exporteds-from items.no_exported xs x

pub exporteds_view-none : exporteds_view [] ≡ items.no_exported
unfolding exporteds_view
exporteds_view-none = refl

prefixes-from : (acc : g.Prefixes) (ms : List PrefixMark) (m : PrefixMark) → prefixes_from acc (ms ++ m ∷ []) ≡ g.more_prefix (prefixes_from acc ms) m.at (prefix_view m.prefix)
prefixes-from acc [] m = refl
prefixes-from acc (n ∷ ms) m = prefixes-from (g.more_prefix acc n.at (prefix_view n.prefix)) ms m

pub prefixes_view-push : (ms : List PrefixMark) (m : PrefixMark) → prefixes_view (ms ++ m ∷ []) ≡ g.more_prefix (prefixes_view ms) m.at (prefix_view m.prefix)
unfolding prefixes_view
prefixes_view-push ms m = prefixes-from g.no_prefix ms m

pub prefixes_view-none : prefixes_view [] ≡ g.no_prefix
unfolding prefixes_view
prefixes_view-none = refl

pub ruleset pushes = (exprs_view-push, links_view-push, operands_view-push, fields_view-push, arms_view-push, statements_view-push, branches_view-push, parameters_view-push, items_view-push, importeds_view-push, exporteds_view-push, prefixes_view-push)

pub ruleset nothings = (exprs_view-none, links_view-none, operands_view-none, fields_view-none, arms_view-none, statements_view-none, branches_view-none, parameters_view-none, items_view-none, importeds_view-none, exporteds_view-none, prefixes_view-none)
