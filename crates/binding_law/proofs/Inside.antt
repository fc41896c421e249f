-- The tokens at which names are bound inside of a piece, and those at which it binds names itself.
use Rattle.std.proofs.Common.{◌≡◌, ◌⊎◌, ℕ, suc, ◌≤◌, ◌<◌, Option, Some, None, inl, inr, arith}
use Rattle.js_grammar.specs.Code.{ex, function_ex, arrow, Function, function, arrow_block, arrow_value, block, Stmts, no_stmt, more_stmt, stmt, StmtForm, declares, function_stmt, does, branches, loop, nested, Declaration, declaration}
use Rattle.js_grammar.specs.CodePlaces.{stop_annotation, stop_name, stop_sig, stop_ex, stop_function, stop_block, stop_stmts, stop_stmt_form, stop_declaration, stop_simple}
use Rattle.js_grammar.specs.Items.{ExportForm, export_declaration, export_function, export_alias, export_names, export_from, export_default_function, export_default, ItemForm, imports, exports, declares_item, function_item, alias_item, does_item, item, Items, no_item, more_item, stop_item_form, stop_items}
use Rattle.js_grammar.proofs.Front.{f_annotation, f_name, f_sig, f_ex, f_block, f_stmts, f_stmt_form, f_items, f_item_form}
use Rattle.binding_law.specs.Pieces.{Piece, an_expression, a_function, a_block, a_list, a_statement, a_simple, the_items}
use Rattle.binding_law.proofs.Placed.{end_at, rises}

abbrev pub Between : ℕ → ℕ → ℕ → Type 0
Between i j at = (i ≤ at) × (at < j)

-- ---- inside

abbrev pub InFunction : ℕ → Function → ℕ → Type 0
InFunction at (function f t name s b) i = Between (stop_name name (suc i)) (stop_function (function f t name s b) i) at

abbrev pub InStatement : ℕ → StmtForm → ℕ → Type 0
InStatement at (declares d) i = Between (suc (suc i)) (suc (stop_declaration d i)) at
InStatement at (function_stmt f) i = InFunction at f i
InStatement at form i = Between i (stop_stmt_form form i) at

abbrev pub InList : ℕ → Stmts → ℕ → Type 0
InList at no_stmt i = ⊥
InList at (more_stmt ss (stmt f t form)) i = InList at ss i ⊎ InStatement at form (stop_stmts ss i)

abbrev pub InExport : ℕ → ExportForm → ℕ → Type 0
InExport at (export_declaration d) i = Between (suc (suc i)) (suc (stop_declaration d i)) at
InExport at (export_function f) i = InFunction at f i
InExport at (export_default_function f) i = InFunction at f (suc i)
InExport at (export_default e) i = Between (suc i) (stop_ex e (suc i)) at
InExport at form i = ⊥

abbrev pub InItem : ℕ → ItemForm → ℕ → Type 0
InItem at (exports form) i = InExport at form (suc i)
InItem at (declares_item d) i = Between (suc (suc i)) (suc (stop_declaration d i)) at
InItem at (function_item f) i = InFunction at f i
InItem at (does_item s) i = Between i (suc (stop_simple s i)) at
InItem at form i = ⊥

abbrev pub InItems : ℕ → Items → ℕ → Type 0
InItems at no_item i = ⊥
InItems at (more_item is (item f t form)) i = InItems at is i ⊎ InItem at form (stop_items is i)

-- where names may be bound inside of a piece at a place
abbrev pub IsInside : ℕ → Piece → ℕ → Type 0
IsInside at (an_expression e) i = Between i (stop_ex e i) at
IsInside at (a_function f) i = InFunction at f i
IsInside at (a_block b) i = Between i (stop_block b i) at
IsInside at (a_list ss) i = InList at ss i
IsInside at (a_statement (stmt f t form)) i = InStatement at form i
IsInside at (a_simple s) i = Between i (stop_simple s i) at
IsInside at (the_items is) i = InItems at is i

pub function_range : (at : ℕ) (f : Function) (i : ℕ) → InFunction at f i → Between i (stop_function f i) at
function_range at (function f t name s b) i (low, high) = let a = rises (f_name name) (suc i) in (omega arith, high)

pub statement_range : (at : ℕ) (form : StmtForm) (i : ℕ) → InStatement at form i → Between i (stop_stmt_form form i) at
statement_range at (declares d) i (low, high) = (omega arith, high)
statement_range at (function_stmt f) i inside = function_range at f i inside
statement_range at (does s) i inside = inside
statement_range at (branches bs last) i inside = inside
statement_range at (loop e body) i inside = inside
statement_range at (nested b) i inside = inside

pub list_range : (at : ℕ) (ss : Stmts) (i : ℕ) → InList at ss i → Between i (stop_stmts ss i) at
list_range at no_stmt i inside = absurd inside
list_range at (more_stmt ss (stmt f t form)) i (inl before) =
    let found = list_range at ss i before in
    let low = found.0 in
    let high = found.1 in
    let a = rises (f_stmt_form form) (stop_stmts ss i) in
    (low, omega arith)
list_range at (more_stmt ss (stmt f t form)) i (inr last) =
    let found = statement_range at form (stop_stmts ss i) last in
    let low = found.0 in
    let a = rises (f_stmts ss) i in
    (omega arith, found.1)

export_range : (at : ℕ) (form : ExportForm) (i : ℕ) → InExport at form (suc i) → Between i (stop_item_form (exports form) i) at
export_range at (export_declaration d) i (low, high) = (omega arith, high)
export_range at (export_function f) i inside = let found = function_range at f (suc i) inside in let low = found.0 in (omega arith, found.1)
export_range at (export_alias a) i inside = absurd inside
export_range at (export_names is_type ns) i inside = absurd inside
export_range at (export_from is_type ns spec) i inside = absurd inside
export_range at (export_default_function f) i inside = let found = function_range at f (suc (suc i)) inside in let low = found.0 in (omega arith, found.1)
export_range at (export_default e) i (low, high) = (omega arith, omega arith)

pub item_range : (at : ℕ) (form : ItemForm) (i : ℕ) → InItem at form i → Between i (stop_item_form form i) at
item_range at (imports form spec) i inside = absurd inside
item_range at (exports form) i inside = export_range at form i inside
item_range at (declares_item d) i (low, high) = (omega arith, high)
item_range at (function_item f) i inside = function_range at f i inside
item_range at (alias_item a) i inside = absurd inside
item_range at (does_item s) i inside = inside

pub items_range : (at : ℕ) (is : Items) (i : ℕ) → InItems at is i → Between i (stop_items is i) at
items_range at no_item i inside = absurd inside
items_range at (more_item is (item f t form)) i (inl before) =
    let found = items_range at is i before in
    let low = found.0 in
    let high = found.1 in
    let a = rises (f_item_form form) (stop_items is i) in
    (low, omega arith)
items_range at (more_item is (item f t form)) i (inr last) =
    let found = item_range at form (stop_items is i) last in
    let low = found.0 in
    let a = rises (f_items is) i in
    (omega arith, found.1)

pub in_range : (at : ℕ) (q : Piece) (k : ℕ) → IsInside at q k → Between k (end_at q k) at
in_range at (an_expression e) k inside = inside
in_range at (a_function f) k inside = function_range at f k inside
in_range at (a_block b) k inside = inside
in_range at (a_list ss) k inside = list_range at ss k inside
in_range at (a_statement (stmt f t form)) k inside = statement_range at form k inside
in_range at (a_simple s) k inside = inside
in_range at (the_items is) k inside = items_range at is k inside

-- ---- what a piece binds itself

abbrev pub IsDeclaredBy : ℕ → StmtForm → ℕ → Type 0
IsDeclaredBy at (declares d) i = at ≡ suc i
IsDeclaredBy at (function_stmt (function f t (Some name) s b)) i = at ≡ suc i
IsDeclaredBy at form i = ⊥

abbrev pub IsDeclared : ℕ → Stmts → ℕ → Type 0
IsDeclared at no_stmt i = ⊥
IsDeclared at (more_stmt ss (stmt f t form)) i = IsDeclared at ss i ⊎ IsDeclaredBy at form (stop_stmts ss i)

-- the token is one at which the piece binds a name for its parts
abbrev pub IsOwn : ℕ → Piece → ℕ → Type 0
IsOwn at (an_expression (ex f t (function_ex (function ff ft (Some name) s b)))) i = at ≡ suc i
IsOwn at (an_expression (ex f t (arrow s (arrow_block (block bf bt ss))))) i = Between i (stop_sig s i) at ⊎ IsDeclared at ss (suc (suc (stop_sig s i)))
IsOwn at (an_expression (ex f t (arrow s (arrow_value e)))) i = Between i (stop_sig s i) at
IsOwn at (a_function (function f t name s (block bf bt ss))) i =
    Between (stop_name name (suc i)) (stop_sig s (stop_name name (suc i))) at ⊎ IsDeclared at ss (suc (stop_sig s (stop_name name (suc i))))
IsOwn at (a_block (block f t ss)) i = IsDeclared at ss (suc i)
IsOwn at p i = ⊥

pub declaration_ends : (d : Declaration) (i : ℕ) → suc (suc i) ≤ stop_declaration d i
declaration_ends (declaration f t binder name annotation e) i =
    let a = rises (f_annotation annotation) (suc (suc i)) in
    let b = rises (f_ex e) (suc (stop_annotation annotation (suc (suc i)))) in
    omega arith

pub function_ends : (f t : ℕ) (name : Option _) (s : _) (b : _) (i : ℕ) → stop_name name (suc i) ≤ stop_function (function f t name s b) i
function_ends f t name s b i =
    let a = rises (f_sig s) (stop_name name (suc i)) in
    let c = rises (f_block b) (stop_sig s (stop_name name (suc i))) in
    omega arith

declared_by_range : (at : ℕ) (form : StmtForm) (i : ℕ) → IsDeclaredBy at form i → Between i (stop_stmt_form form i) at
declared_by_range at (declares d) i is = let a = declaration_ends d i in (omega arith, omega arith)
declared_by_range at (function_stmt (function f t None s b)) i is = absurd is
declared_by_range at (function_stmt (function f t (Some name) s b)) i is = let a = function_ends f t (Some name) s b i in (omega arith, omega arith)
declared_by_range at (does s) i is = absurd is
declared_by_range at (branches bs last) i is = absurd is
declared_by_range at (loop e body) i is = absurd is
declared_by_range at (nested b) i is = absurd is

pub declared_range : (at : ℕ) (ss : Stmts) (i : ℕ) → IsDeclared at ss i → Between i (stop_stmts ss i) at
declared_range at no_stmt i is = absurd is
declared_range at (more_stmt ss (stmt f t form)) i (inl before) =
    let found = declared_range at ss i before in
    let low = found.0 in
    let high = found.1 in
    let a = rises (f_stmt_form form) (stop_stmts ss i) in
    (low, omega arith)
declared_range at (more_stmt ss (stmt f t form)) i (inr last) =
    let found = declared_by_range at form (stop_stmts ss i) last in
    let low = found.0 in
    let a = rises (f_stmts ss) i in
    (omega arith, found.1)

-- a statement's name stands before what is inside of it
by_apart : (own at : ℕ) (form : StmtForm) (i : ℕ) → IsDeclaredBy own form i → InStatement at form i → own ≡ at → ⊥
by_apart own at (declares d) i is (low, high) same = omega arith
by_apart own at (function_stmt (function f t None s b)) i is inside same = is
by_apart own at (function_stmt (function f t (Some name) s b)) i is (low, high) same = omega arith
by_apart own at (does s) i is inside same = is
by_apart own at (branches bs last) i is inside same = is
by_apart own at (loop e body) i is inside same = is
by_apart own at (nested b) i is inside same = is

pub list_apart : (own at : ℕ) (ss : Stmts) (i : ℕ) → IsDeclared own ss i → InList at ss i → own ≡ at → ⊥
list_apart own at no_stmt i is inside same = is
list_apart own at (more_stmt ss (stmt f t form)) i (inl is) (inl inside) same = list_apart own at ss i is inside same
list_apart own at (more_stmt ss (stmt f t form)) i (inl is) (inr inside) same =
    let a = (declared_range own ss i is).1 in
    let b = (statement_range at form (stop_stmts ss i) inside).0 in
    omega arith
list_apart own at (more_stmt ss (stmt f t form)) i (inr is) (inl inside) same =
    let a = (declared_by_range own form (stop_stmts ss i) is).0 in
    let b = (list_range at ss i inside).1 in
    omega arith
list_apart own at (more_stmt ss (stmt f t form)) i (inr is) (inr inside) same = by_apart own at form (stop_stmts ss i) is inside same
