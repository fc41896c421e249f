-- The lists of code grow at their end; here they are spelled in order.
use Rattle.std.proofs.Common.{◌≡◌, refl, List, ◌∷◌, map, codes}
use Rattle.js_token.specs.declared.token.TokenKind.TheVariants.{Name, Punct}
use Rattle.js_token.specs.declared.punct.Punct.TheVariants.{Comma}
use Rattle.js_grammar.specs.Code as g
use Rattle.js_grammar.specs.TypeSpelling.{Tokens}
use Rattle.js_grammar.specs.CodeSpelling.{prefix_token, spell_prefixes, spell_parameter, spell_named, spell_parameters, spell_ex, spell_exs, spell_listed, spell_link, spell_links, spell_operand, spell_operands, spell_field, spell_fields, spell_entries, spell_arm, spell_arms, spell_stmt, spell_stmts, spell_branch, spell_branches, spell_elses}
use Rattle.code_tree.specs.Flat.{prefix_view, prefixes_from, prefixes_view, parameter_view, parameters_from, parameters_view}
use Rattle.code_tree.specs.Steps.{exs_from, links_from, operands_from, fields_from, arms_from, stmts_from, branches_from}
use Rattle.code_tree.specs.View.{expr_view, link_view, operand_view, field_view, arm_view, statement_view, branch_view, exprs_view, links_view, operands_view, fields_view, arms_view, statements_view, branches_view}
use Rattle.code_tree.specs.declared.types.PrefixMark.{PrefixMark}
use Rattle.code_tree.specs.declared.types.Parameter.{Parameter}
use Rattle.code_tree.specs.declared.types.Expr.{Expr}
use Rattle.code_tree.specs.declared.types.Link.{Link}
use Rattle.code_tree.specs.declared.types.Operand.{Operand}
use Rattle.code_tree.specs.declared.types.Field.{Field}
use Rattle.code_tree.specs.declared.types.Arm.{Arm}
use Rattle.code_tree.specs.declared.types.Statement.{Statement}
use Rattle.code_tree.specs.declared.types.Branch.{Branch}
use Rattle.js_tree.proofs.Lists.{each, each_in_order, listed, listed_in_order}

abbrev pub prefix : PrefixMark → Tokens → Tokens
prefix m l = prefix_token (prefix_view m.prefix) ∷ l

pub prefixes_in_order : (ms : List PrefixMark) (l : Tokens) → each prefix ms l ≡ spell_prefixes (prefixes_view ms) l
unfolding prefixes_view
prefixes_in_order = each_in_order prefixes_from (λ acc. refl) (λ acc x xs. refl) g.no_prefix spell_prefixes (λ l. refl) prefix (λ acc x l. refl)

abbrev pub parameter : Parameter → Tokens → Tokens
parameter p = spell_parameter (parameter_view p)

pub parameters_in_order : (ps : List Parameter) (l : Tokens) → listed (Punct Comma) parameter ps l ≡ spell_parameters (parameters_view ps) l
unfolding parameters_view
parameters_in_order = listed_in_order (λ acc xs. parameters_from acc (map parameter_view xs)) (λ acc. refl) (λ acc x xs. refl) g.no_parameter spell_parameters (λ l. refl) parameter (Punct Comma) spell_named (λ l. refl) (λ acc x l. refl) (λ acc x l. refl)

pub ruleset flat_lists = (prefixes_in_order, parameters_in_order)

abbrev pub element : Expr → Tokens → Tokens
element e = spell_ex (expr_view e)

pub exprs_in_order : (es : List Expr) (l : Tokens) → listed (Punct Comma) element es l ≡ spell_exs (exprs_view es) l
unfolding exprs_view
exprs_in_order = listed_in_order (λ acc xs. exs_from acc (map expr_view xs)) (λ acc. refl) (λ acc x xs. refl) g.no_ex spell_exs (λ l. refl) element (Punct Comma) spell_listed (λ l. refl) (λ acc x l. refl) (λ acc x l. refl)

abbrev pub link : Link → Tokens → Tokens
link k = spell_link (link_view k)

pub links_in_order : (ks : List Link) (l : Tokens) → each link ks l ≡ spell_links (links_view ks) l
unfolding links_view
links_in_order = each_in_order (λ acc xs. links_from acc (map link_view xs)) (λ acc. refl) (λ acc x xs. refl) g.no_link spell_links (λ l. refl) link (λ acc x l. refl)

abbrev pub operand : Operand → Tokens → Tokens
operand o = spell_operand (operand_view o)

pub operands_in_order : (os : List Operand) (l : Tokens) → each operand os l ≡ spell_operands (operands_view os) l
unfolding operands_view
operands_in_order = each_in_order (λ acc xs. operands_from acc (map operand_view xs)) (λ acc. refl) (λ acc x xs. refl) g.no_operand spell_operands (λ l. refl) operand (λ acc x l. refl)

abbrev pub field : Field → Tokens → Tokens
field f = spell_field (field_view f)

pub fields_in_order : (fs : List Field) (l : Tokens) → listed (Punct Comma) field fs l ≡ spell_fields (fields_view fs) l
unfolding fields_view
fields_in_order = listed_in_order (λ acc xs. fields_from acc (map field_view xs)) (λ acc. refl) (λ acc x xs. refl) g.no_field spell_fields (λ l. refl) field (Punct Comma) spell_entries (λ l. refl) (λ acc x l. refl) (λ acc x l. refl)

abbrev pub arm : Arm → Tokens → Tokens
arm a = spell_arm (arm_view a)

pub arms_in_order : (hs : List Arm) (l : Tokens) → each arm hs l ≡ spell_arms (arms_view hs) l
unfolding arms_view
arms_in_order = each_in_order (λ acc xs. arms_from acc (map arm_view xs)) (λ acc. refl) (λ acc x xs. refl) g.no_arm spell_arms (λ l. refl) arm (λ acc x l. refl)

abbrev pub statement : Statement → Tokens → Tokens
statement s = spell_stmt (statement_view s)

pub statements_in_order : (ss : List Statement) (l : Tokens) → each statement ss l ≡ spell_stmts (statements_view ss) l
unfolding statements_view
statements_in_order = each_in_order (λ acc xs. stmts_from acc (map statement_view xs)) (λ acc. refl) (λ acc x xs. refl) g.no_stmt spell_stmts (λ l. refl) statement (λ acc x l. refl)

abbrev pub branch : Branch → Tokens → Tokens
branch b = spell_branch (branch_view b)

pub branches_in_order : (bs : List Branch) (l : Tokens) → listed (Name (codes "else")) branch bs l ≡ spell_branches (branches_view bs) l
unfolding branches_view
branches_in_order = listed_in_order (λ acc xs. branches_from acc (map branch_view xs)) (λ acc. refl) (λ acc x xs. refl) g.no_branch spell_branches (λ l. refl) branch (Name (codes "else")) spell_elses (λ l. refl) (λ acc x l. refl) (λ acc x l. refl)

pub ruleset code_lists = (exprs_in_order, links_in_order, operands_in_order, fields_in_order, arms_in_order, statements_in_order, branches_in_order)
