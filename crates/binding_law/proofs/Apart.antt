-- What a piece binds itself stands apart from what is bound inside of its parts, and both stand inside of the piece.
use Rattle.std.proofs.Common.{◌≡◌, ℕ, suc, [], ◌∷◌, Some, None, Contains, inl, inr, subst, arith}
use Rattle.js_grammar.specs.Code.{ex, ExForm, function_ex, arrow, Function, function, arrow_block, arrow_value, block, Stmts, no_stmt, more_stmt, Stmt, stmt, StmtForm, declares, function_stmt, simple}
use Rattle.js_grammar.specs.CodePlaces.{stop_name, stop_sig, stop_ex_form, stop_function, stop_stmts, stop_stmt_form, stop_declaration, stop_simple_form}
use Rattle.js_grammar.specs.CodeFits.{Context, FitsExForm, FitsStmtForm}
use Rattle.js_grammar.specs.Items.{export_declaration, export_function, export_alias, export_names, export_from, export_default_function, export_default, ItemForm, imports, exports, declares_item, function_item, alias_item, does_item, item, Items, no_item, more_item, FitsItemForm, stop_items}
use Rattle.js_grammar.proofs.Front.{f_sig, f_ex, f_block, f_stmts}
use Rattle.subtyping.proofs.Whole.{first_or, nothing}
use Rattle.binding_law.specs.Pieces.{Piece, an_expression, a_function, a_block, a_list, a_statement, a_simple, the_items, in_ex, in_item, in_statement, parts}
use Rattle.binding_law.specs.Placed.{FitsAt}
use Rattle.binding_law.proofs.Placed.{rises, Within, declared, plain, statement, expression}
use Rattle.binding_law.proofs.Inside.{Between, IsInside, in_range, function_range, list_range, IsOwn, declared_range, list_apart}

-- a part of a piece at a place: where it stands, and how what is bound inside of it stands to what the piece binds
pub record Part (p : Piece) (i : ℕ) (q : Piece) : Type 0 where
  pub place : ℕ
  pub fits : FitsAt q place
  pub inside : (at : ℕ) → IsInside at q place → IsInside at p i
  pub apart : (own at : ℕ) → IsOwn own p i → IsInside at q place → own ≡ at → ⊥

-- a piece that is inside from its first place to its last, and binds nothing
whole_part : (p q : Piece) (i j end : ℕ) → ((at : ℕ) → Between i j at → IsInside at p end) → ((own : ℕ) → IsOwn own p end → ⊥) → Within i j q → Part p end q
whole_part p q i j end all none (k, fits, low, high) = record {
  place = k;
  fits = fits;
  inside = λ at is. all at (let found = in_range at q k is in let a = found.0 in let b = found.1 in (omega arith, omega arith));
  apart = λ own at is there same. none own is;
}

-- the only part
only : (p q r : Piece) (i : ℕ) → Contains (r ∷ []) q → Part p i r → Part p i q
only p q r i has part = elim (first_or r [] q has) [ inl same ↦ subst (Part p i) same part | inr rest ↦ nothing q rest ]

form_part : (f t : ℕ) (form : ExForm) (i : ℕ) → FitsExForm form i → (q : Piece) → Contains (in_ex form) q → Part (an_expression (ex f t form)) i q
form_part f t (function_ex (function ff ft None s b)) i fits q has =
    whole_part (an_expression (ex f t (function_ex (function ff ft None s b)))) q i (stop_function (function ff ft None s b) i) i (λ at is. is) (λ own is. is) (expression (function_ex (function ff ft None s b)) i fits q has)
form_part f t (function_ex (function ff ft (Some name) s b)) i fits q has =
    let made_by : Function = function ff ft (Some name) s b in
    only (an_expression (ex f t (function_ex made_by))) q (a_function made_by) i has (record {
      place = i;
      fits = fits;
      inside = λ at is. function_range at made_by i is;
      apart = λ own at is there same. (let a = there.0 in omega arith);
    })
form_part f t (arrow s (arrow_block (block bf bt ss))) i fits q has =
    let k = suc (suc (stop_sig s i)) in
    only (an_expression (ex f t (arrow s (arrow_block (block bf bt ss))))) q (a_list ss) i has (record {
      place = k;
      fits = (_, fits.2.2);
      inside = λ at is. (let found = list_range at ss k is in let a = found.0 in let b = found.1 in let c = rises (f_sig s) i in (omega arith, omega arith));
      apart = λ own at is there same. elim is [
        | inl before ↦ (let a = before.1 in let b = (list_range at ss k there).0 in omega arith)
        | inr among ↦ list_apart own at ss k among there same
      ];
    })
form_part f t (arrow s (arrow_value e)) i fits q has =
    let k = suc (stop_sig s i) in
    only (an_expression (ex f t (arrow s (arrow_value e)))) q (an_expression e) i has (record {
      place = k;
      fits = fits.2.1;
      inside = λ at is. (let a = is.0 in let b = is.1 in let c = rises (f_sig s) i in (omega arith, omega arith));
      apart = λ own at is there same. (let a = is.1 in let b = there.0 in omega arith);
    })
form_part f t form i fits q has = whole_part (an_expression (ex f t form)) q i (stop_ex_form form i) i (λ at is. is) (λ own is. is) (expression form i fits q has)

statement_part : (f t : ℕ) (form : StmtForm) (c : Context) (i : ℕ) → FitsStmtForm form c i → (q : Piece) → Contains (in_statement form) q → Part (a_statement (stmt f t form)) i q
statement_part f t (declares d) c i fits q has =
    whole_part (a_statement (stmt f t (declares d))) q (suc (suc i)) (stop_declaration d i) i (λ at is. (let a = is.0 in let b = is.1 in (a, omega arith))) (λ own is. is) (declared d i fits q has)
statement_part f t (function_stmt made_by) c i fits q has =
    only (a_statement (stmt f t (function_stmt made_by))) q (a_function made_by) i has (record { place = i; fits = fits.1; inside = λ at is. is; apart = λ own at is there same. is })
statement_part f t form c i fits q has = whole_part (a_statement (stmt f t form)) q i (stop_stmt_form form i) i (λ at is. is) (λ own is. is) (statement form c i fits q has)

list_part : (ss : Stmts) (s : Stmt) (i : ℕ) → FitsAt (a_list (more_stmt ss s)) i → (q : Piece) → Contains (a_list ss ∷ a_statement s ∷ []) q → Part (a_list (more_stmt ss s)) i q
list_part ss (stmt f t form) i (c, fits) q has = elim (first_or (a_list ss) (a_statement (stmt f t form) ∷ []) q has) [
  | inl same ↦ subst (Part (a_list (more_stmt ss (stmt f t form))) i) same (record { place = i; fits = (c, fits.0); inside = λ at is. inl is; apart = λ own at is there alike. is })
  | inr rest ↦ only (a_list (more_stmt ss (stmt f t form))) q (a_statement (stmt f t form)) i rest (record { place = stop_stmts ss i; fits = (c, fits.1); inside = λ at is. inr is; apart = λ own at is there alike. is })
]

-- a part of an item stands inside of the item
item_in : (is : Items) (f t : ℕ) (form : ItemForm) (i : ℕ) → FitsItemForm form (stop_items is i) → (q : Piece) → Contains (in_item form) q → Part (the_items (more_item is (item f t form))) i q
item_in is f t (imports form spec) i fits q has = nothing q has
item_in is f t (exports (export_declaration d)) i fits q has =
    whole_part (the_items (more_item is (item f t (exports (export_declaration d))))) q (suc (suc (suc (stop_items is i)))) (stop_declaration d (suc (stop_items is i))) i (λ at x. inr (let a = x.0 in let b = x.1 in (a, omega arith))) (λ own x. x) (declared d (suc (stop_items is i)) fits q has)
item_in is f t (exports (export_function made_by)) i fits q has =
    only (the_items (more_item is (item f t (exports (export_function made_by))))) q (a_function made_by) i has (record { place = suc (stop_items is i); fits = fits.1; inside = λ at x. inr x; apart = λ own at x there same. x })
item_in is f t (exports (export_alias a)) i fits q has = nothing q has
item_in is f t (exports (export_names is_type ns)) i fits q has = nothing q has
item_in is f t (exports (export_from is_type ns spec)) i fits q has = nothing q has
item_in is f t (exports (export_default_function made_by)) i fits q has =
    only (the_items (more_item is (item f t (exports (export_default_function made_by))))) q (a_function made_by) i has (record { place = suc (suc (stop_items is i)); fits = fits; inside = λ at x. inr x; apart = λ own at x there same. x })
item_in is f t (exports (export_default e)) i fits q has =
    only (the_items (more_item is (item f t (exports (export_default e))))) q (an_expression e) i has (record { place = suc (suc (stop_items is i)); fits = fits.1; inside = λ at x. inr x; apart = λ own at x there same. x })
item_in is f t (declares_item d) i fits q has =
    whole_part (the_items (more_item is (item f t (declares_item d)))) q (suc (suc (stop_items is i))) (stop_declaration d (stop_items is i)) i (λ at x. inr (let a = x.0 in let b = x.1 in (a, omega arith))) (λ own x. x) (declared d (stop_items is i) fits q has)
item_in is f t (function_item made_by) i fits q has =
    only (the_items (more_item is (item f t (function_item made_by)))) q (a_function made_by) i has (record { place = stop_items is i; fits = fits.1; inside = λ at x. inr x; apart = λ own at x there same. x })
item_in is f t (alias_item a) i fits q has = nothing q has
item_in is f t (does_item s) i fits q has =
    only (the_items (more_item is (item f t (does_item s)))) q (a_simple s) i has (record { place = stop_items is i; fits = (_, fits.2); inside = λ at x. inr (let a = x.0 in let b = x.1 in (a, omega arith)); apart = λ own at x there same. x })

pub part_at : (p : Piece) (i : ℕ) → FitsAt p i → (q : Piece) → Contains (parts p) q → Part p i q
part_at (an_expression (ex f t form)) i fits q has = form_part f t form i fits.2 q has
part_at (a_function (function f t name s (block bf bt ss))) i fits q has =
    let at_sig = stop_name name (suc i) in
    let k = suc (stop_sig s at_sig) in
    only (a_function (function f t name s (block bf bt ss))) q (a_list ss) i has (record {
      place = k;
      fits = (_, fits.4.2);
      inside = λ at is. (let found = list_range at ss k is in let a = found.0 in let b = found.1 in let c = rises (f_sig s) at_sig in (omega arith, omega arith));
      apart = λ own at is there same. elim is [
        | inl before ↦ (let a = before.1 in let b = (list_range at ss k there).0 in omega arith)
        | inr among ↦ list_apart own at ss k among there same
      ];
    })
part_at (a_block (block f t ss)) i (c, fits) q has =
    only (a_block (block f t ss)) q (a_list ss) i has (record {
      place = suc i;
      fits = (c, fits.2);
      inside = λ at is. (let found = list_range at ss (suc i) is in let a = found.0 in let b = found.1 in (omega arith, omega arith));
      apart = λ own at is there same. list_apart own at ss (suc i) is there same;
    })
part_at (a_list no_stmt) i fits q has = nothing q has
part_at (a_list (more_stmt ss s)) i fits q has = list_part ss s i fits q has
part_at (a_statement (stmt f t form)) i (c, fits) q has = statement_part f t form c i fits.2 q has
part_at (a_simple (simple f t form)) i (c, fits) q has =
    whole_part (a_simple (simple f t form)) q i (stop_simple_form form i) i (λ at is. is) (λ own is. is) (plain form c i fits.2 q has)
part_at (the_items no_item) i fits q has = nothing q has
part_at (the_items (more_item is (item f t form))) i fits q has = elim (first_or (the_items is) (in_item form) q has) [
  | inl same ↦ subst (Part (the_items (more_item is (item f t form))) i) same (record { place = i; fits = fits.0; inside = λ at x. inl x; apart = λ own at x there alike. x })
  | inr rest ↦ item_in is f t form i fits.1.2 q rest
]

-- what it binds itself stands inside of it too
pub own_inside : (p : Piece) (i own : ℕ) → IsOwn own p i → IsInside own p i
own_inside (an_expression (ex f t (function_ex (function ff ft None s b)))) i own is = absurd is
own_inside (an_expression (ex f t (function_ex (function ff ft (Some name) s b)))) i own is =
    let a = rises (f_sig s) (suc (suc i)) in
    let c = rises (f_block b) (stop_sig s (suc (suc i))) in
    (omega arith, omega arith)
own_inside (an_expression (ex f t (arrow s (arrow_block (block bf bt ss))))) i own (inl before) =
    let a = before.0 in
    let b = before.1 in
    let c = rises (f_stmts ss) (suc (suc (stop_sig s i))) in
    (a, omega arith)
own_inside (an_expression (ex f t (arrow s (arrow_block (block bf bt ss))))) i own (inr among) =
    let found = declared_range own ss (suc (suc (stop_sig s i))) among in
    let a = found.0 in
    let b = found.1 in
    let c = rises (f_sig s) i in
    (omega arith, omega arith)
own_inside (an_expression (ex f t (arrow s (arrow_value e)))) i own is =
    let a = is.0 in
    let b = is.1 in
    let c = rises (f_ex e) (suc (stop_sig s i)) in
    (a, omega arith)
own_inside (a_function (function f t name s (block bf bt ss))) i own (inl before) =
    let a = before.0 in
    let b = before.1 in
    let c = rises (f_stmts ss) (suc (stop_sig s (stop_name name (suc i)))) in
    (a, omega arith)
own_inside (a_function (function f t name s (block bf bt ss))) i own (inr among) =
    let found = declared_range own ss (suc (stop_sig s (stop_name name (suc i)))) among in
    let a = found.0 in
    let b = found.1 in
    let c = rises (f_sig s) (stop_name name (suc i)) in
    (omega arith, omega arith)
own_inside (a_block (block f t ss)) i own is =
    let found = declared_range own ss (suc i) is in
    let a = found.0 in
    let b = found.1 in
    (omega arith, omega arith)
own_inside p i own is = absurd is
