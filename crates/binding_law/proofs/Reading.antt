-- What reading a list of statements does to the scope: declarations are read, and nothing else.
use Rattle.std.proofs.Common.{◌≡◌, ℕ, suc, Bool, true, false, ◌∷◌, [], ◌++◌, Some, None, cond, refl, sym, ◌∙◌, subst}
use Rattle.js_grammar.specs.Code.{Ex, ex, variable, number, text, truth_value, null_value, parens, elements, fields, function_ex, postfixed, prefixed, chain, arrow, no_link, more_link, link, member, index, call, block, Stmts, no_stmt, more_stmt, stmt, StmtForm, declares, function_stmt, does, branches, loop, nested, Declaration, declaration, simple, SimpleForm, return_bare, return_value, throw_value, break_loop, continue_loop, assign, evaluate, Body, block_body, simple_body, branch, Branches, no_branch, more_branch, Else, no_else, else_body}
use Rattle.js_grammar.specs.Code as code
use Rattle.js_grammar.specs.Items.{ExportForm, export_declaration, export_function, export_alias, export_names, export_from, export_default_function, export_default, ItemForm, imports, exports, declares_item, function_item, alias_item, does_item, item, Items, no_item, more_item, Module}
use Rattle.check_values.specs.Rows.{Bytes}
use Rattle.type_values.specs.declared.types.FlowType.{FlowType}
use Rattle.type_values.specs.declared.types.FlowType as made
use Rattle.flow_facts.specs.Known.{Known}
use Rattle.typing.specs.Names.{Scope, number_at, is_const}
use Rattle.typing.specs.Changes.{changes_of_ex, changes_of_body}
use Rattle.typing.specs.States.{World, Env, after, on_yes, now_of, with_now, change_notes, asked_want, reach, stop_if_dead, returns}
use Rattle.typing.specs.TypeFaults.{annotated, annotation_read}
use Rattle.typing.specs.Statements.{declared_type, loop_env}
use Rattle.typing.specs.Typing.{read, read_stmts, read_stmt, read_declaration, read_simple, read_branches, read_else, read_body}
use Rattle.module_errors.specs.Program.{Program}
use Rattle.module_errors.specs.Items.{read_export, read_item_form, read_items}
use Rattle.binding_law.proofs.Finding.{Enters, stays, goes_on, declared_stays}

-- ---- what doesn't touch the scope

stopped_scope : (w : World) (f t : ℕ) (known : Known) (env : Env) → (stop_if_dead w f t known env).scope ≡ env.scope
stopped_scope w f t None env = refl
stopped_scope w f t (Some facts) env = refl

pub reach_scope : (w : World) (f t : ℕ) (env : Env) → (reach w f t env).scope ≡ env.scope
reach_scope w f t env = go env.notes.stopped
  where
    go : (b : Bool) → (cond b env (stop_if_dead w f t env.facts env)).scope ≡ env.scope
    go true = refl
    go false = stopped_scope w f t env.facts env

returns_scope : (t : FlowType) (env : Env) → (returns t env).scope ≡ env.scope
returns_scope t env = go env.notes.stopped
  where
    go : (b : Bool) → (cond b env (record env { returned = env.returned ++ t ∷ [] })).scope ≡ env.scope
    go true = refl
    go false = refl

assigned_scope : (w : World) (f t : ℕ) (target v : Ex) (env : Env) → (read_simple w f t (assign target v) env).scope ≡ env.scope
assigned_scope w f t (ex tf tt (variable name)) v env = refl
assigned_scope w f t (ex tf tt (number digits)) v env = refl
assigned_scope w f t (ex tf tt (text s)) v env = refl
assigned_scope w f t (ex tf tt (truth_value b)) v env = refl
assigned_scope w f t (ex tf tt null_value) v env = refl
assigned_scope w f t (ex tf tt (parens e)) v env = refl
assigned_scope w f t (ex tf tt (elements es comma)) v env = refl
assigned_scope w f t (ex tf tt (fields fs comma)) v env = refl
assigned_scope w f t (ex tf tt (function_ex made_by)) v env = refl
assigned_scope w f t (ex tf tt (postfixed base no_link)) v env = refl
assigned_scope w f t (ex tf tt (postfixed base (more_link ls (link at end (member key))))) v env = refl
assigned_scope w f t (ex tf tt (postfixed base (more_link ls (link at end (index i))))) v env = refl
assigned_scope w f t (ex tf tt (postfixed base (more_link ls (link at end (call es comma))))) v env = refl
assigned_scope w f t (ex tf tt (prefixed marks e)) v env = refl
assigned_scope w f t (ex tf tt (chain level e os)) v env = refl
assigned_scope w f t (ex tf tt (code.cond arms e)) v env = refl
assigned_scope w f t (ex tf tt (arrow s body)) v env = refl

pub simple_scope : (w : World) (f t : ℕ) (form : SimpleForm) (env : Env) → (read_simple w f t form env).scope ≡ env.scope
simple_scope w f t return_bare env = returns_scope made.Void (record env { notes = asked_want w f t env.scope.result made.Void env.notes })
simple_scope w f t (return_value e) env =
    let v = read w e env.scope env.scope.result (now_of env) in
    returns_scope v.ty (with_now (after v) env)
simple_scope w f t (throw_value e) env = refl
simple_scope w f t break_loop env = refl
simple_scope w f t continue_loop env = refl
simple_scope w f t (assign target e) env = assigned_scope w f t target e env
simple_scope w f t (evaluate e) env = refl

pub body_scope : (w : World) (body : Body) (env : Env) → (read_body w body env).scope ≡ env.scope
body_scope w (block_body (block f t ss)) env = refl
body_scope w (simple_body (simple f t form)) env = refl

pub branches_scope : (w : World) (bs : Branches) (env : Env) → (read_branches w bs env).env.scope ≡ env.scope
branches_scope w no_branch env = refl
branches_scope w (more_branch bs (branch f t e body)) env =
    let k = read_branches w bs env in
    let test = read w e k.env.scope None (now_of k.env) in
    body_scope w body (with_now (on_yes test) k.env) ∙ branches_scope w bs env

else_scope : (w : World) (last : Else) (env : Env) → (read_else w last env).scope ≡ env.scope
else_scope w no_else env = refl
else_scope w (else_body body) env = body_scope w body env

-- ---- what is read

pub same_scope : (name : Bytes) (outer inner : Scope) → inner ≡ outer → Enters name false outer inner
same_scope name outer inner is = subst (Enters name false outer) (sym is) (stays name outer)

pub declaration_enters : (w : World) (d : Declaration) (env : Env) (name : Bytes) → Enters name false env.scope (read_declaration w d env).scope
declaration_enters w (declaration f t binder own annotation e) env name =
    let v = read w e env.scope (annotated w annotation) (change_notes (annotation_read w annotation) (now_of env)) in
    declared_stays name (number_at (is_const binder) (suc f)) (declared_type binder (annotated w annotation) v.ty) env.scope

statement_enters : (w : World) (f t : ℕ) (form : StmtForm) (env : Env) (name : Bytes) → Enters name false env.scope (read_stmt w f t form env).scope
statement_enters w f t (declares d) env name = declaration_enters w d env name
statement_enters w f t (function_stmt made_by) env name = stays name env.scope
statement_enters w f t (does (simple sf st form)) env name = same_scope name env.scope (read_simple w sf st form env).scope (simple_scope w sf st form env)
statement_enters w f t (branches bs last) env name =
    let k = read_branches w bs env in
    same_scope name env.scope (read_else w last k.env).scope (else_scope w last k.env ∙ branches_scope w bs env)
statement_enters w f t (loop e body) env name =
    let start = loop_env (changes_of_ex e ++ changes_of_body body) env in
    let test = read w e env.scope None (now_of start) in
    same_scope name env.scope (read_body w body (with_now (on_yes test) start)).scope (body_scope w body (with_now (on_yes test) start))
statement_enters w f t (nested (block bf bt ss)) env name = stays name env.scope

pub statements_enter : (w : World) (ss : Stmts) (env : Env) (name : Bytes) → Enters name false env.scope (read_stmts w ss env).scope
statements_enter w no_stmt env name = stays name env.scope
statements_enter w (more_stmt ss (stmt f t form)) env name =
    let before : Env = read_stmts w ss env in
    let start : Env = reach w f t before in
    goes_on name false false env.scope before.scope (read_stmt w f t form start).scope (statements_enter w ss env name)
    (goes_on name false false before.scope start.scope (read_stmt w f t form start).scope (same_scope name before.scope start.scope (reach_scope w f t before)) (statement_enters w f t form start name))

export_enters : (w : World) (p : Program) (m : Module) (t : ℕ) (form : ExportForm) (env : Env) (name : Bytes) → Enters name false env.scope (read_export w p m t form env).scope
export_enters w p m t (export_declaration d) env name = declaration_enters w d env name
export_enters w p m t (export_function f) env name = stays name env.scope
export_enters w p m t (export_alias a) env name = stays name env.scope
export_enters w p m t (export_names is_type ns) env name = stays name env.scope
export_enters w p m t (export_from is_type ns spec) env name = stays name env.scope
export_enters w p m t (export_default_function f) env name = stays name env.scope
export_enters w p m t (export_default e) env name = stays name env.scope

item_enters : (w : World) (p : Program) (m : Module) (f t : ℕ) (form : ItemForm) (env : Env) (name : Bytes) → Enters name false env.scope (read_item_form w p m f t form env).scope
item_enters w p m f t (imports form spec) env name = stays name env.scope
item_enters w p m f t (exports form) env name = export_enters w p m t form env name
item_enters w p m f t (declares_item d) env name = declaration_enters w d env name
item_enters w p m f t (function_item made_by) env name = stays name env.scope
item_enters w p m f t (alias_item a) env name = stays name env.scope
item_enters w p m f t (does_item (simple sf st form)) env name = same_scope name env.scope (read_simple w sf st form env).scope (simple_scope w sf st form env)

pub items_enter : (w : World) (p : Program) (m : Module) (is : Items) (env : Env) (name : Bytes) → Enters name false env.scope (read_items w p m is env).scope
items_enter w p m no_item env name = stays name env.scope
items_enter w p m (more_item is (item f t form)) env name =
    let before : Env = read_items w p m is env in
    goes_on name false false env.scope before.scope (read_item_form w p m f t form before).scope (items_enter w p m is env name) (item_enters w p m f t form before name)
