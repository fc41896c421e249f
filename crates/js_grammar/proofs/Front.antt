-- What each form is spelled with stands in front of the tokens that follow.
use Rattle.std.proofs.Common.{◌≡◌, refl, sym, ◌∙◌, ap, ℕ, suc, ◌+◌, arith, Bool, true, false, [], ◌∷◌, ◌++◌, length, append_assoc, append-nil, Option, Some, None, codes}
use Rattle.std.proofs.lemmas.List.{length-append}
use Rattle.js_token.specs.declared.token.TokenKind.{TokenKind}
use Rattle.js_token.specs.declared.token.TokenKind.TheVariants.{Name, Number, Str, Punct}
use Rattle.js_token.specs.declared.punct.Punct.TheVariants.{Assign, Bar, CloseBrace, CloseBracket, CloseParen, Colon, Comma, Dot, Ellipsis, GreaterThan, LessThan, Minus, OpenBrace, OpenBracket, OpenParen, Plus, Question, Semicolon, Arrow as ArrowMark}
use Rattle.js_grammar.specs.Words.{Bytes, array_name, truth_word}
use Rattle.js_grammar.specs.Types.{Base, Core, Form, Key, Param, Params, Places, Pre, Pres, Prop, Props, Sign, Ty, Types, array, bare, base, comma, dots, fun, key, minus, more_param, more_place, more_pre, more_prop, more_type, name, named, no_param, no_place, no_pre, no_prop, no_type, null, num, object, paren, plain, plus, post, pre, prop, str, truth, tuple, ty, unsigned, void}
use Rattle.js_grammar.specs.TypeSpelling.{Tokens, opt, brackets, key_token, marks, spell, spell_barred, spell_base, spell_begun, spell_core, spell_elements, spell_form, spell_key, spell_param, spell_params, spell_pre, spell_pres, spell_prop, spell_props, spell_rows, spell_sign, spell_types}
use Rattle.js_grammar.specs.TypeFits.{bump, stop, stop_barred, stop_base, stop_begun, stop_brackets, stop_core, stop_elements, stop_form, stop_marks, stop_param, stop_params, stop_pre, stop_pres, stop_prop, stop_props, stop_rows, stop_sign, stop_types}
use Rattle.js_grammar.specs.Code.{Arm, Arms, ArrowBody, Block, Body, Branch, Branches, Declaration, Else, Ex, ExForm, Exs, Field, FieldForm, Fields, Function, Link, LinkForm, Links, Operand, OperandForm, Operands, Parameter, Parameters, Prefixes, Sig, Simple, SimpleForm, Stmt, StmtForm, Stmts, arm, arrow, arrow_block, arrow_value, as_type, assign, block, block_body, branch, branches, break_loop, call, chain, cond, continue_loop, declaration, declares, does, elements, else_body, evaluate, ex, field, fields, function, function_ex, function_stmt, index, link, loop, member, more_arm, more_branch, more_ex, more_field, more_link, more_operand, more_parameter, more_prefix, more_stmt, nested, no_arm, no_branch, no_else, no_ex, no_field, no_link, no_operand, no_parameter, no_prefix, no_stmt, null_value, number, operand, parameter, parens, postfixed, prefixed, return_bare, return_value, right_side, shorthand, sig, simple, simple_body, stmt, text, throw_value, truth_value, valued, variable}
use Rattle.js_grammar.specs.CodeSpelling.{binder_word, mark_of, prefix_token, spell_annotation, spell_arm, spell_arms, spell_arrow_body, spell_block, spell_body, spell_branch, spell_branches, spell_declaration, spell_else, spell_elses, spell_entries, spell_ex, spell_ex_form, spell_exs, spell_field, spell_field_form, spell_fields, spell_function, spell_link, spell_link_form, spell_links, spell_listed, spell_name, spell_named, spell_operand, spell_operand_form, spell_operands, spell_parameter, spell_parameters, spell_prefixes, spell_sig, spell_simple, spell_simple_form, spell_stmt, spell_stmt_form, spell_stmts}
use Rattle.js_grammar.specs.CodePlaces.{stop_annotation, stop_arm, stop_arms, stop_arrow_body, stop_block, stop_body, stop_branch, stop_branches, stop_declaration, stop_else, stop_elses, stop_entries, stop_ex, stop_ex_form, stop_exs, stop_field, stop_field_form, stop_fields, stop_function, stop_link, stop_link_form, stop_links, stop_listed, stop_name, stop_named, stop_operand, stop_operand_form, stop_operands, stop_parameter, stop_parameters, stop_prefixes, stop_sig, stop_simple, stop_simple_form, stop_stmt, stop_stmt_form, stop_stmts}
use Rattle.js_grammar.specs.Items.{AliasOf, ExportForm, ExportList, Exported, Exporteds, ImportForm, ImportList, Imported, Importeds, Item, ItemForm, Items, alias, alias_item, declares_item, does_item, export_alias, export_declaration, export_default, export_default_function, export_from, export_function, export_list, export_names, exported, exports, from_word, function_item, import_both, import_default, import_list, import_names, import_only, import_types, imported, imports, item, more_exported, more_imported, more_item, no_exported, no_imported, no_item, spell_alias, spell_begun_exports, spell_begun_imports, spell_export, spell_export_list, spell_exported, spell_exporteds, spell_import, spell_import_list, spell_imported, spell_importeds, spell_item, spell_item_form, spell_items, type_word, stop_alias, stop_begun_exports, stop_begun_imports, stop_export, stop_export_list, stop_exported, stop_exporteds, stop_import, stop_import_list, stop_imported, stop_importeds, stop_item, stop_item_form, stop_items}

-- the tokens before those that follow, and as many places
abbrev pub Front : (Tokens → Tokens) → (ℕ → ℕ) → Type 0
Front s f = (q : Tokens) × ((l : Tokens) → s l ≡ q ++ l) × ((i : ℕ) → f i ≡ i + length q)

f_none : Front (λ l. l) (λ i. i)
f_none = ([], (λ l. refl), λ i. omega arith)

f_token : (x : TokenKind) → Front (λ l. x ∷ l) suc
f_token x = (x ∷ [], (λ l. refl), λ i. omega arith)

-- one behind another
f_then : {s t : Tokens → Tokens} {f g : ℕ → ℕ} → Front s f → Front t g → Front (λ l. s (t l)) (λ i. g (f i))
f_then {s} {t} {f} {g} a b = (
  a.0 ++ b.0,
  (λ l. a.1 (t l) ∙ ap (λ r. a.0 ++ r) (b.1 l) ∙ sym (append_assoc (a.0) (b.0) l)),
  λ i. let p = a.2 i in let q = b.2 (f i) in let r = length-append (a.0) (b.0) in omega arith,
)

-- as many as its spelling has
pub counted : {s : Tokens → Tokens} {f : ℕ → ℕ} → Front s f → (i : ℕ) → f i ≡ i + length (s [])
counted {s} {f} a i = a.2 i ∙ ap (λ q. i + length q) (sym (a.1 [] ∙ append-nil (a.0)))

f_opt : (b : Bool) (x : TokenKind) → Front (opt b x) (bump b)
f_opt true x = f_token x
f_opt false x = f_none

pub f_marks : (x : Places) → Front (marks x) (stop_marks x)
f_marks no_place = f_none
f_marks (more_place ps p) = f_then (f_marks ps) (f_token (Punct Question))

pub f_brackets : (x : Places) → Front (brackets x) (stop_brackets x)
f_brackets no_place = f_none
f_brackets (more_place ps p) = f_then (f_brackets ps) (f_then (f_token (Punct OpenBracket)) (f_token (Punct CloseBracket)))

pub f_sign : (x : Sign) → Front (spell_sign x) (stop_sign x)
f_sign unsigned = f_none
f_sign plus = f_token (Punct Plus)
f_sign minus = f_token (Punct Minus)

pub f_key : (x : Key) → Front (spell_key x) suc
f_key (key f t k) = f_token (key_token k)

mutual
  pub f_ty : (x : Ty) → Front (spell x) (stop x)
  f_ty (ty f t lead ps) = f_then (f_opt lead (Punct Bar)) (f_pres ps)

  pub f_pres : (x : Pres) → Front (spell_pres x) (stop_pres x)
  f_pres no_pre = f_none
  f_pres (more_pre ps p) = f_then (f_barred ps) (f_pre p)

  pub f_barred : (x : Pres) → Front (spell_barred x) (stop_barred x)
  f_barred no_pre = f_none
  f_barred (more_pre ps p) = f_then (f_barred ps) (f_then (f_pre p) (f_token (Punct Bar)))

  pub f_pre : (x : Pre) → Front (spell_pre x) (stop_pre x)
  f_pre (pre f t q c) = f_then (f_marks q) (f_core c)

  pub f_core : (x : Core) → Front (spell_core x) (stop_core x)
  f_core (fun f t ps c r) = f_then (f_token (Punct OpenParen)) (f_then (f_params ps) (f_then (f_opt c (Punct Comma)) (f_then (f_token (Punct CloseParen)) (f_then (f_token (Punct ArrowMark)) (f_ty r)))))
  f_core (post f t b bs) = f_then (f_base b) (f_brackets bs)

  pub f_base : (x : Base) → Front (spell_base x) (stop_base x)
  f_base (base f t x) = f_form x

  pub f_form : (x : Form) → Front (spell_form x) (stop_form x)
  f_form (name n) = f_token (Name n)
  f_form (str s) = f_token (Str s)
  f_form (num n) = f_token (Number n)
  f_form null = f_token (Name (codes "null"))
  f_form void = f_token (Name (codes "void"))
  f_form (truth b) = f_token (Name (truth_word b))
  f_form (array o t) = f_then (f_token (Name (array_name o))) (f_then (f_token (Punct LessThan)) (f_then (f_ty t) (f_token (Punct GreaterThan))))
  f_form (paren t) = f_then (f_token (Punct OpenParen)) (f_then (f_ty t) (f_token (Punct CloseParen)))
  f_form (tuple ts c) = f_then (f_token (Punct OpenBracket)) (f_then (f_types ts) (f_then (f_opt c (Punct Comma)) (f_token (Punct CloseBracket))))
  f_form (object ps bare) = f_then (f_token (Punct OpenBrace)) (f_then (f_props ps) (f_token (Punct CloseBrace)))
  f_form (object ps comma) = f_then (f_token (Punct OpenBrace)) (f_then (f_rows ps) (f_token (Punct CloseBrace)))
  f_form (object ps dots) = f_then (f_token (Punct OpenBrace)) (f_then (f_rows ps) (f_then (f_token (Punct Ellipsis)) (f_token (Punct CloseBrace))))

  pub f_params : (x : Params) → Front (spell_params x) (stop_params x)
  f_params no_param = f_none
  f_params (more_param ps p) = f_then (f_begun ps) (f_param p)

  pub f_begun : (x : Params) → Front (spell_begun x) (stop_begun x)
  f_begun no_param = f_none
  f_begun (more_param ps p) = f_then (f_begun ps) (f_then (f_param p) (f_token (Punct Comma)))

  pub f_param : (x : Param) → Front (spell_param x) (stop_param x)
  f_param (plain t) = f_ty t
  f_param (named f e n o t) = f_then (f_token (Name n)) (f_then (f_opt o (Punct Question)) (f_then (f_token (Punct Colon)) (f_ty t)))

  pub f_types : (x : Types) → Front (spell_types x) (stop_types x)
  f_types no_type = f_none
  f_types (more_type ts t) = f_then (f_elements ts) (f_ty t)

  pub f_elements : (x : Types) → Front (spell_elements x) (stop_elements x)
  f_elements no_type = f_none
  f_elements (more_type ts t) = f_then (f_elements ts) (f_then (f_ty t) (f_token (Punct Comma)))

  pub f_props : (x : Props) → Front (spell_props x) (stop_props x)
  f_props no_prop = f_none
  f_props (more_prop ps p) = f_then (f_rows ps) (f_prop p)

  pub f_rows : (x : Props) → Front (spell_rows x) (stop_rows x)
  f_rows no_prop = f_none
  f_rows (more_prop ps p) = f_then (f_rows ps) (f_then (f_prop p) (f_token (Punct Comma)))

  pub f_prop : (x : Prop) → Front (spell_prop x) (stop_prop x)
  f_prop (prop f t s k o v) = f_then (f_sign s) (f_then (f_key k) (f_then (f_opt o (Punct Question)) (f_then (f_token (Punct Colon)) (f_ty v))))

pub f_prefixes : (x : Prefixes) → Front (spell_prefixes x) (stop_prefixes x)
f_prefixes no_prefix = f_none
f_prefixes (more_prefix ps p x) = f_then (f_prefixes ps) (f_token (prefix_token x))

pub f_annotation : (x : Option Ty) → Front (spell_annotation x) (stop_annotation x)
f_annotation None = f_none
f_annotation (Some t) = f_then (f_token (Punct Colon)) (f_ty t)

pub f_name : (x : Option Bytes) → Front (spell_name x) (stop_name x)
f_name None = f_none
f_name (Some n) = f_token (Name n)

pub f_parameter : (x : Parameter) → Front (spell_parameter x) (stop_parameter x)
f_parameter (parameter f t n o a) = f_then (f_token (Name n)) (f_then (f_opt o (Punct Question)) (f_annotation a))

pub f_named : (x : Parameters) → Front (spell_named x) (stop_named x)
f_named no_parameter = f_none
f_named (more_parameter ps p) = f_then (f_named ps) (f_then (f_parameter p) (f_token (Punct Comma)))

pub f_parameters : (x : Parameters) → Front (spell_parameters x) (stop_parameters x)
f_parameters no_parameter = f_none
f_parameters (more_parameter ps p) = f_then (f_named ps) (f_parameter p)

pub f_sig : (x : Sig) → Front (spell_sig x) (stop_sig x)
f_sig (sig f t ps c r) = f_then (f_token (Punct OpenParen)) (f_then (f_parameters ps) (f_then (f_opt c (Punct Comma)) (f_then (f_token (Punct CloseParen)) (f_annotation r))))

mutual
  pub f_ex : (x : Ex) → Front (spell_ex x) (stop_ex x)
  f_ex (ex f t x) = f_ex_form x

  pub f_ex_form : (x : ExForm) → Front (spell_ex_form x) (stop_ex_form x)
  f_ex_form (variable n) = f_token (Name n)
  f_ex_form (number n) = f_token (Number n)
  f_ex_form (text s) = f_token (Str s)
  f_ex_form (truth_value b) = f_token (Name (truth_word b))
  f_ex_form null_value = f_token (Name (codes "null"))
  f_ex_form (parens e) = f_then (f_token (Punct OpenParen)) (f_then (f_ex e) (f_token (Punct CloseParen)))
  f_ex_form (elements es c) = f_then (f_token (Punct OpenBracket)) (f_then (f_exs es) (f_then (f_opt c (Punct Comma)) (f_token (Punct CloseBracket))))
  f_ex_form (fields fs c) = f_then (f_token (Punct OpenBrace)) (f_then (f_fields fs) (f_then (f_opt c (Punct Comma)) (f_token (Punct CloseBrace))))
  f_ex_form (function_ex f) = f_function f
  f_ex_form (postfixed e ls) = f_then (f_ex e) (f_links ls)
  f_ex_form (prefixed ps e) = f_then (f_prefixes ps) (f_ex e)
  f_ex_form (chain p e os) = f_then (f_ex e) (f_operands os)
  f_ex_form (cond hs e) = f_then (f_arms hs) (f_ex e)
  f_ex_form (arrow s b) = f_then (f_sig s) (f_then (f_token (Punct ArrowMark)) (f_arrow_body b))

  pub f_exs : (x : Exs) → Front (spell_exs x) (stop_exs x)
  f_exs no_ex = f_none
  f_exs (more_ex es e) = f_then (f_listed es) (f_ex e)

  pub f_listed : (x : Exs) → Front (spell_listed x) (stop_listed x)
  f_listed no_ex = f_none
  f_listed (more_ex es e) = f_then (f_listed es) (f_then (f_ex e) (f_token (Punct Comma)))

  pub f_link : (x : Link) → Front (spell_link x) (stop_link x)
  f_link (link f t x) = f_link_form x

  pub f_link_form : (x : LinkForm) → Front (spell_link_form x) (stop_link_form x)
  f_link_form (member n) = f_then (f_token (Punct Dot)) (f_token (Name n))
  f_link_form (index e) = f_then (f_token (Punct OpenBracket)) (f_then (f_ex e) (f_token (Punct CloseBracket)))
  f_link_form (call es c) = f_then (f_token (Punct OpenParen)) (f_then (f_exs es) (f_then (f_opt c (Punct Comma)) (f_token (Punct CloseParen))))

  pub f_links : (x : Links) → Front (spell_links x) (stop_links x)
  f_links no_link = f_none
  f_links (more_link ls k) = f_then (f_links ls) (f_link k)

  pub f_operand : (x : Operand) → Front (spell_operand x) (stop_operand x)
  f_operand (operand f t x) = f_operand_form x

  pub f_operand_form : (x : OperandForm) → Front (spell_operand_form x) (stop_operand_form x)
  f_operand_form (right_side o e) = f_then (f_token (Punct (mark_of o))) (f_ex e)
  f_operand_form (as_type v) = f_then (f_token (Name (codes "as"))) (f_ty v)

  pub f_operands : (x : Operands) → Front (spell_operands x) (stop_operands x)
  f_operands no_operand = f_none
  f_operands (more_operand os o) = f_then (f_operands os) (f_operand o)

  pub f_field : (x : Field) → Front (spell_field x) (stop_field x)
  f_field (field f t x) = f_field_form x

  pub f_field_form : (x : FieldForm) → Front (spell_field_form x) (stop_field_form x)
  f_field_form (shorthand n) = f_token (Name n)
  f_field_form (valued k e) = f_then (f_key k) (f_then (f_token (Punct Colon)) (f_ex e))

  pub f_fields : (x : Fields) → Front (spell_fields x) (stop_fields x)
  f_fields no_field = f_none
  f_fields (more_field fs f) = f_then (f_entries fs) (f_field f)

  pub f_entries : (x : Fields) → Front (spell_entries x) (stop_entries x)
  f_entries no_field = f_none
  f_entries (more_field fs f) = f_then (f_entries fs) (f_then (f_field f) (f_token (Punct Comma)))

  pub f_arm : (x : Arm) → Front (spell_arm x) (stop_arm x)
  f_arm (arm f t a b) = f_then (f_ex a) (f_then (f_token (Punct Question)) (f_then (f_ex b) (f_token (Punct Colon))))

  pub f_arms : (x : Arms) → Front (spell_arms x) (stop_arms x)
  f_arms no_arm = f_none
  f_arms (more_arm hs a) = f_then (f_arms hs) (f_arm a)

  pub f_function : (x : Function) → Front (spell_function x) (stop_function x)
  f_function (function f t n s b) = f_then (f_token (Name (codes "function"))) (f_then (f_name n) (f_then (f_sig s) (f_block b)))

  pub f_arrow_body : (x : ArrowBody) → Front (spell_arrow_body x) (stop_arrow_body x)
  f_arrow_body (arrow_block b) = f_block b
  f_arrow_body (arrow_value e) = f_ex e

  pub f_block : (x : Block) → Front (spell_block x) (stop_block x)
  f_block (block f t ss) = f_then (f_token (Punct OpenBrace)) (f_then (f_stmts ss) (f_token (Punct CloseBrace)))

  pub f_stmts : (x : Stmts) → Front (spell_stmts x) (stop_stmts x)
  f_stmts no_stmt = f_none
  f_stmts (more_stmt ss s) = f_then (f_stmts ss) (f_stmt s)

  pub f_stmt : (x : Stmt) → Front (spell_stmt x) (stop_stmt x)
  f_stmt (stmt f t s) = f_stmt_form s

  pub f_stmt_form : (x : StmtForm) → Front (spell_stmt_form x) (stop_stmt_form x)
  f_stmt_form (declares d) = f_then (f_declaration d) (f_token (Punct Semicolon))
  f_stmt_form (function_stmt f) = f_function f
  f_stmt_form (does s) = f_then (f_simple s) (f_token (Punct Semicolon))
  f_stmt_form (branches bs e) = f_then (f_branches bs) (f_else e)
  f_stmt_form (loop e b) = f_then (f_token (Name (codes "while"))) (f_then (f_token (Punct OpenParen)) (f_then (f_ex e) (f_then (f_token (Punct CloseParen)) (f_body b))))
  f_stmt_form (nested b) = f_block b

  pub f_declaration : (x : Declaration) → Front (spell_declaration x) (stop_declaration x)
  f_declaration (declaration f t w n a e) = f_then (f_token (Name (binder_word w))) (f_then (f_token (Name n)) (f_then (f_annotation a) (f_then (f_token (Punct Assign)) (f_ex e))))

  pub f_simple : (x : Simple) → Front (spell_simple x) (stop_simple x)
  f_simple (simple f t s) = f_simple_form s

  pub f_simple_form : (x : SimpleForm) → Front (spell_simple_form x) (stop_simple_form x)
  f_simple_form return_bare = f_token (Name (codes "return"))
  f_simple_form (return_value e) = f_then (f_token (Name (codes "return"))) (f_ex e)
  f_simple_form (throw_value e) = f_then (f_token (Name (codes "throw"))) (f_ex e)
  f_simple_form break_loop = f_token (Name (codes "break"))
  f_simple_form continue_loop = f_token (Name (codes "continue"))
  f_simple_form (assign a e) = f_then (f_ex a) (f_then (f_token (Punct Assign)) (f_ex e))
  f_simple_form (evaluate e) = f_ex e

  pub f_body : (x : Body) → Front (spell_body x) (stop_body x)
  f_body (block_body b) = f_block b
  f_body (simple_body s) = f_then (f_simple s) (f_token (Punct Semicolon))

  pub f_branch : (x : Branch) → Front (spell_branch x) (stop_branch x)
  f_branch (branch f t e b) = f_then (f_token (Name (codes "if"))) (f_then (f_token (Punct OpenParen)) (f_then (f_ex e) (f_then (f_token (Punct CloseParen)) (f_body b))))

  pub f_branches : (x : Branches) → Front (spell_branches x) (stop_branches x)
  f_branches no_branch = f_none
  f_branches (more_branch bs b) = f_then (f_elses bs) (f_branch b)

  pub f_elses : (x : Branches) → Front (spell_elses x) (stop_elses x)
  f_elses no_branch = f_none
  f_elses (more_branch bs b) = f_then (f_elses bs) (f_then (f_branch b) (f_token (Name (codes "else"))))

  pub f_else : (x : Else) → Front (spell_else x) (stop_else x)
  f_else no_else = f_none
  f_else (else_body b) = f_then (f_token (Name (codes "else"))) (f_body b)

pub f_imported : (x : Imported) → Front (spell_imported x) (stop_imported x)
f_imported (imported f t None n) = f_token (Name n)
f_imported (imported f t (Some w) n) = f_then (f_token (Name w)) (f_then (f_token (Name (codes "as"))) (f_token (Name n)))

pub f_begun_imports : (x : Importeds) → Front (spell_begun_imports x) (stop_begun_imports x)
f_begun_imports no_imported = f_none
f_begun_imports (more_imported ns n) = f_then (f_begun_imports ns) (f_then (f_imported n) (f_token (Punct Comma)))

pub f_importeds : (x : Importeds) → Front (spell_importeds x) (stop_importeds x)
f_importeds no_imported = f_none
f_importeds (more_imported ns n) = f_then (f_begun_imports ns) (f_imported n)

pub f_import_list : (x : ImportList) → Front (spell_import_list x) (stop_import_list x)
f_import_list (import_list f t ns c) = f_then (f_token (Punct OpenBrace)) (f_then (f_importeds ns) (f_then (f_opt c (Punct Comma)) (f_token (Punct CloseBrace))))

pub f_exported : (x : Exported) → Front (spell_exported x) (stop_exported x)
f_exported (exported f t n None) = f_token (Name n)
f_exported (exported f t n (Some w)) = f_then (f_token (Name n)) (f_then (f_token (Name (codes "as"))) (f_token (Name w)))

pub f_begun_exports : (x : Exporteds) → Front (spell_begun_exports x) (stop_begun_exports x)
f_begun_exports no_exported = f_none
f_begun_exports (more_exported ns n) = f_then (f_begun_exports ns) (f_then (f_exported n) (f_token (Punct Comma)))

pub f_exporteds : (x : Exporteds) → Front (spell_exporteds x) (stop_exporteds x)
f_exporteds no_exported = f_none
f_exporteds (more_exported ns n) = f_then (f_begun_exports ns) (f_exported n)

pub f_export_list : (x : ExportList) → Front (spell_export_list x) (stop_export_list x)
f_export_list (export_list f t ns c) = f_then (f_token (Punct OpenBrace)) (f_then (f_exporteds ns) (f_then (f_opt c (Punct Comma)) (f_token (Punct CloseBrace))))

pub f_import : (x : ImportForm) → Front (spell_import x) (stop_import x)
f_import (import_default n) = f_then (f_token (Name n)) (f_token from_word)
f_import (import_both n ns) = f_then (f_token (Name n)) (f_then (f_token (Punct Comma)) (f_then (f_import_list ns) (f_token from_word)))
f_import (import_names ns) = f_then (f_import_list ns) (f_token from_word)
f_import (import_types ns) = f_then (f_token type_word) (f_then (f_import_list ns) (f_token from_word))
f_import import_only = f_none

pub f_alias : (x : AliasOf) → Front (spell_alias x) (stop_alias x)
f_alias (alias f t n v) = f_then (f_token type_word) (f_then (f_token (Name n)) (f_then (f_token (Punct Assign)) (f_ty v)))

pub f_export : (x : ExportForm) → Front (spell_export x) (stop_export x)
f_export (export_declaration d) = f_then (f_declaration d) (f_token (Punct Semicolon))
f_export (export_function f) = f_function f
f_export (export_alias a) = f_then (f_alias a) (f_token (Punct Semicolon))
f_export (export_names o ns) = f_then (f_opt o type_word) (f_then (f_export_list ns) (f_token (Punct Semicolon)))
f_export (export_from o ns s) = f_then (f_opt o type_word) (f_then (f_export_list ns) (f_then (f_token from_word) (f_then (f_token (Str s)) (f_token (Punct Semicolon)))))
f_export (export_default_function f) = f_then (f_token (Name (codes "default"))) (f_function f)
f_export (export_default e) = f_then (f_token (Name (codes "default"))) (f_then (f_ex e) (f_token (Punct Semicolon)))

pub f_item_form : (x : ItemForm) → Front (spell_item_form x) (stop_item_form x)
f_item_form (imports i s) = f_then (f_token (Name (codes "import"))) (f_then (f_import i) (f_then (f_token (Str s)) (f_token (Punct Semicolon))))
f_item_form (exports e) = f_then (f_token (Name (codes "export"))) (f_export e)
f_item_form (declares_item d) = f_then (f_declaration d) (f_token (Punct Semicolon))
f_item_form (function_item f) = f_function f
f_item_form (alias_item a) = f_then (f_alias a) (f_token (Punct Semicolon))
f_item_form (does_item s) = f_then (f_simple s) (f_token (Punct Semicolon))

pub f_item : (x : Item) → Front (spell_item x) (stop_item x)
f_item (item f t x) = f_item_form x

pub f_items : (x : Items) → Front (spell_items x) (stop_items x)
f_items no_item = f_none
f_items (more_item is i) = f_then (f_items is) (f_item i)
