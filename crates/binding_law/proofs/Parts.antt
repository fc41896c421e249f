-- Where parts are read.
use Rattle.std.proofs.Common.{◌≡◌, ℕ, suc, Bool, true, false, [], ◌∷◌, Option, Some, None, Contains, if◌then◌else◌, refl, sym, ap, ◌∙◌, inl, inr}
use Rattle.js_grammar.specs.Code.{function, Sig, block, Stmts, declaration}
use Rattle.js_grammar.specs.Items.{export_declaration, export_function, export_alias, export_names, export_from, export_default_function, export_default, ItemForm, imports, exports, declares_item, function_item, alias_item, does_item, item, Items, more_item, Module}
use Rattle.check_values.specs.Rows.{Bytes}
use Rattle.subtyping.proofs.Whole.{first_or, nothing}
use Rattle.typing.specs.Changes.{changes_of_ex, changes_of_stmts}
use Rattle.typing.specs.Names.{Scope}
use Rattle.typing.specs.States.{World, Now, Env, reach}
use Rattle.typing.specs.Functions.{none_bound, bind_sig, bind_stmts, sig_read, enter_block, own_scope, body_env, kept_facts, ended}
use Rattle.typing.specs.Typing.{made_from, read_function, read_stmts}
use Rattle.module_errors.specs.Program.{Program}
use Rattle.module_errors.specs.Items.{read_item_form, read_items}
use Rattle.binding_law.specs.Pieces.{Piece, an_expression, a_function, a_block, a_list, a_statement, a_simple, the_items, in_item}
use Rattle.binding_law.specs.Scopes.{IsEntered, PartsAreRead}
use Rattle.binding_law.proofs.Reading.{reach_scope}

abbrev start_of : World → Bool → Option Bytes → ℕ → Sig → Stmts → Scope → Now → Env
start_of w is_expression own f s ss scope now =
    body_env w s (if is_expression then own_scope w own (suc f) s scope else scope) (kept_facts is_expression now.facts)
    (bind_stmts w (suc scope.depth) (changes_of_stmts ss) ss (bind_sig w (suc scope.depth) (changes_of_stmts ss) s (none_bound (sig_read w s now.notes))))

function_read_there : (w : World) (is_expression : Bool) (f t : ℕ) (own : Option Bytes) (s : Sig) (bf bt : ℕ) (ss : Stmts) (scope : Scope) (now : Now) →
    (start : Env) × IsEntered w (a_function (function f t own s (block bf bt ss))) (a_list ss) (if is_expression then own_scope w own (suc f) s scope else scope) start.scope
    × (read_function w is_expression (function f t own s (block bf bt ss)) scope now ≡ made_from w s now (ended w s (read_stmts w ss start)))
function_read_there w false f t own s bf bt ss scope now = (start_of w false own f s ss scope now, (kept_facts false now.facts, sig_read w s now.notes, refl), refl)
function_read_there w true f t None s bf bt ss scope now = (start_of w true None f s ss scope now, (kept_facts true now.facts, sig_read w s now.notes, refl), refl)
function_read_there w true f t (Some own) s bf bt ss scope now = (start_of w true (Some own) f s ss scope now, (kept_facts true now.facts, sig_read w s now.notes, refl), refl)

abbrev is_list : Piece → Bool
is_list (the_items is) = true
is_list p = false

-- a part of an item is no list of items
item_read_there : (w : World) (p : Program) (m : Module) (is : Items) (f t : ℕ) (form : ItemForm) (q : Piece) (env : Env) → Contains (in_item form) q →
    (start : Env) × IsEntered w (the_items (more_item is (item f t form))) q env.scope start.scope × (read_items w p m (more_item is (item f t form)) env ≡ read_item_form w p m f t form start)
item_read_there w p m is f t form (an_expression e) env has = (read_items w p m is env, (p, m, env, refl, refl), refl)
item_read_there w p m is f t form (a_function made_by) env has = (read_items w p m is env, (p, m, env, refl, refl), refl)
item_read_there w p m is f t form (a_block b) env has = (read_items w p m is env, (p, m, env, refl, refl), refl)
item_read_there w p m is f t form (a_list ss) env has = (read_items w p m is env, (p, m, env, refl, refl), refl)
item_read_there w p m is f t form (a_statement s) env has = (read_items w p m is env, (p, m, env, refl, refl), refl)
item_read_there w p m is f t form (a_simple s) env has = (read_items w p m is env, (p, m, env, refl, refl), refl)
item_read_there w p m is f t form (the_items before) env has = absurd (no_list form has)
  where
    other : (x : Piece) → is_list x ≡ false → Contains (x ∷ []) (the_items before) → ⊥
    other x plain given = elim (first_or x [] (the_items before) given) [ inl same ↦ (let no : false ≡ true = sym plain ∙ ap is_list same in cc) | inr rest ↦ nothing (the_items before) rest ]

    no_list : (i : ItemForm) → Contains (in_item i) (the_items before) → ⊥
    no_list (imports i spec) given = nothing (the_items before) given
    no_list (exports (export_declaration (declaration df dt binder name annotation e))) given = other (an_expression e) refl given
    no_list (exports (export_function x)) given = other (a_function x) refl given
    no_list (exports (export_alias a)) given = nothing (the_items before) given
    no_list (exports (export_names is_type ns)) given = nothing (the_items before) given
    no_list (exports (export_from is_type ns spec)) given = nothing (the_items before) given
    no_list (exports (export_default_function x)) given = other (a_function x) refl given
    no_list (exports (export_default e)) given = other (an_expression e) refl given
    no_list (declares_item (declaration df dt binder name annotation e)) given = other (an_expression e) refl given
    no_list (function_item x) given = other (a_function x) refl given
    no_list (alias_item a) given = nothing (the_items before) given
    no_list (does_item s) given = other (a_simple s) refl given

pub parts_are_read : PartsAreRead
parts_are_read = record {
  functions = function_read_there;
  arrows = λ w f t s bf bt ss scope now. (start_of w true None 0 s ss scope now, (kept_facts true now.facts, sig_read w s now.notes, refl), refl);
  values = λ w f t s e scope now. (body_env w s scope (kept_facts true now.facts) (bind_sig w (suc scope.depth) (changes_of_ex e) s (none_bound (sig_read w s now.notes))), (kept_facts true now.facts, sig_read w s now.notes, refl), refl);
  blocks = λ w f t ss env. (enter_block w (changes_of_stmts ss) ss env, (env, refl, refl), refl);
  lists = λ w ss f t form env. (reach w f t (read_stmts w ss env), (env, refl, reach_scope w f t (read_stmts w ss env)), refl);
  items = item_read_there;
}
