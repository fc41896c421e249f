-- The scopes of parts, and what a name finds along a way.
use Rattle.std.proofs.Common.{◌≡◌, ◌||◌, ℕ, suc, Bool, true, false, [], ◌∷◌, ◌++◌, Option, Some, None, bytes_eq, refl, sym, ap, subst, arith}
use Rattle.std.proofs.lemmas.List.Folds.{list_any-append}
use Rattle.js_grammar.specs.Code.{ex, ExForm, function_ex, arrow, function, Sig, arrow_block, arrow_value, block, Stmts, more_stmt}
use Rattle.js_grammar.specs.Items.{no_item, more_item, module_of}
use Rattle.check_values.specs.Rows.{Bytes, is_among}
use Rattle.typing.specs.Changes.{declared_in, names_of_sig, name_list, changes_of_ex, changes_of_stmts}
use Rattle.typing.specs.Names.{Binding, Scope, binds}
use Rattle.typing.specs.States.{World, Env}
use Rattle.typing.specs.Functions.{Bound, none_bound, bind_sig, bind_stmts, function_binding, own_scope, enter_block}
use Rattle.typing.specs.Typing.{read_stmts}
use Rattle.module_errors.specs.Program.{Program}
use Rattle.module_errors.specs.Items.{read_items}
use Rattle.module_errors.specs.Errors.{no_notes}
use Rattle.binding_law.specs.Pieces.{Piece, an_expression, a_function, a_block, a_list, a_statement, a_simple, the_items, bound_by}
use Rattle.binding_law.specs.Ways.{Way, arrived, into, bound_on, IsAssigned}
use Rattle.binding_law.specs.Scopes.{IsBody, IsEntered, IsReadAlong, FindsSameUnlessBound, MeansSameUnlessBound, IsFound}
use Rattle.binding_law.proofs.Finding.{Enters, goes_on, in_front, same_where_free, means_later}
use Rattle.binding_law.proofs.Bound.{sig_binds, statements_bind, body_binds, own_binds}
use Rattle.binding_law.proofs.Reading.{same_scope, statements_enter, items_enter}

-- ---- one part

bound_so : (name : Bytes) (a b : Bool) (outer inner : Scope) → a ≡ b → Enters name a outer inner → Enters name b outer inner
bound_so name a b outer inner is enters = subst (λ (x : Bool). Enters name x outer inner) is enters

body_enters : (w : World) (s : Sig) (ss : Stmts) (outer inner : Scope) (name : Bytes) → IsBody w s ss outer inner → Enters name (is_among (names_of_sig s ++ declared_in ss) name) outer inner
body_enters w s ss outer inner name (facts, notes, is) =
    let changes = changes_of_stmts ss in
    let bound : Bound = bind_stmts w (suc outer.depth) changes ss (bind_sig w (suc outer.depth) changes s (none_bound notes)) in
    let deep : inner.depth ≡ suc outer.depth = ap (λ (x : Scope). x.depth) is in
    bound_so name (binds bound.names name) (is_among (names_of_sig s ++ declared_in ss) name) outer inner (body_binds w (suc outer.depth) changes s ss (none_bound notes) name refl)
    (in_front name bound.names outer inner (ap (λ (x : Scope). x.names) is) (omega arith))

own_enters : (w : World) (own : Option Bytes) (token : ℕ) (s : Sig) (outer inner : Scope) (name : Bytes) → inner ≡ own_scope w own token s outer → Enters name (is_among (name_list own) name) outer inner
own_enters w None token s outer inner name is = same_scope name outer inner is
own_enters w (Some own) token s outer inner name is =
    let b : Binding = function_binding w outer.depth token own s in
    let deep : inner.depth ≡ outer.depth = ap (λ (x : Scope). x.depth) is in
    bound_so name (binds (b ∷ []) name) (is_among (own ∷ []) name) outer inner (own_binds b name) (in_front name (b ∷ []) outer inner (ap (λ (x : Scope). x.names) is) (omega arith))

from_env : (name : Bytes) (outer inner start end : Scope) → start ≡ outer → inner ≡ end → Enters name false start end → Enters name false outer inner
from_env name outer inner start end first last enters = subst (λ (x : Scope). Enters name false outer x) (sym last) (subst (λ (x : Scope). Enters name false x end) first enters)

form_enters : (w : World) (f t : ℕ) (form : ExForm) (q : Piece) (outer inner : Scope) (name : Bytes) → IsEntered w (an_expression (ex f t form)) q outer inner → Enters name (is_among (bound_by (an_expression (ex f t form))) name) outer inner
form_enters w f t (function_ex (function ff ft own s b)) q outer inner name is = own_enters w own (suc ff) s outer inner name is
form_enters w f t (arrow s (arrow_block (block bf bt ss))) q outer inner name is = body_enters w s ss outer inner name is
form_enters w f t (arrow s (arrow_value e)) q outer inner name (facts, notes, is) =
    let bound : Bound = bind_sig w (suc outer.depth) (changes_of_ex e) s (none_bound notes) in
    let deep : inner.depth ≡ suc outer.depth = ap (λ (x : Scope). x.depth) is in
    bound_so name (binds bound.names name) (is_among (names_of_sig s) name) outer inner (sig_binds w (suc outer.depth) (changes_of_ex e) s (none_bound notes) name) (in_front name bound.names outer inner (ap (λ (x : Scope). x.names) is) (omega arith))
form_enters w f t form q outer inner name is = same_scope name outer inner is

pub part_enters : (w : World) (p q : Piece) (outer inner : Scope) (name : Bytes) → IsEntered w p q outer inner → Enters name (is_among (bound_by p) name) outer inner
part_enters w (an_expression (ex f t form)) q outer inner name is = form_enters w f t form q outer inner name is
part_enters w (a_function (function f t own s (block bf bt ss))) q outer inner name is = body_enters w s ss outer inner name is
part_enters w (a_block (block f t ss)) q outer inner name (env, first, is) =
    let bound : Bound = bind_stmts w env.scope.depth (changes_of_stmts ss) ss (none_bound env.notes) in
    let entered : Scope = (enter_block w (changes_of_stmts ss) ss env).scope in
    subst (λ (x : Scope). Enters name (is_among (declared_in ss) name) outer x) (sym is)
    (subst (λ (x : Scope). Enters name (is_among (declared_in ss) name) x entered) first
    (bound_so name (binds bound.names name) (is_among (declared_in ss) name) env.scope entered (statements_bind w env.scope.depth (changes_of_stmts ss) ss (none_bound env.notes) name) (in_front name bound.names env.scope entered refl (omega arith))))
part_enters w (a_list (more_stmt ss s)) (a_statement q) outer inner name (env, first, is) = from_env name outer inner env.scope (read_stmts w ss env).scope first is (statements_enter w ss env name)
part_enters w (the_items is) (the_items before) outer inner name same = same_scope name outer inner same
part_enters w (the_items (more_item is i)) (an_expression e) outer inner name (p, m, env, first, same) = from_env name outer inner env.scope (read_items w p m is env).scope first same (items_enter w p m is env name)
part_enters w (the_items (more_item is i)) (a_function f) outer inner name (p, m, env, first, same) = from_env name outer inner env.scope (read_items w p m is env).scope first same (items_enter w p m is env name)
part_enters w (the_items (more_item is i)) (a_block b) outer inner name (p, m, env, first, same) = from_env name outer inner env.scope (read_items w p m is env).scope first same (items_enter w p m is env name)
part_enters w (the_items (more_item is i)) (a_list ss) outer inner name (p, m, env, first, same) = from_env name outer inner env.scope (read_items w p m is env).scope first same (items_enter w p m is env name)
part_enters w (the_items (more_item is i)) (a_statement s) outer inner name (p, m, env, first, same) = from_env name outer inner env.scope (read_items w p m is env).scope first same (items_enter w p m is env name)
part_enters w (the_items (more_item is i)) (a_simple s) outer inner name (p, m, env, first, same) = from_env name outer inner env.scope (read_items w p m is env).scope first same (items_enter w p m is env name)
part_enters w p q outer inner name is = same_scope name outer inner is

-- ---- a way

pub way_enters : (w : World) {p end : Piece} (way : Way p end) (outer inner : Scope) (name : Bytes) → IsReadAlong w way outer inner → Enters name (is_among (bound_on way) name) outer inner
way_enters w (arrived p) outer inner name is = same_scope name outer inner is
way_enters w (into p q end part way) outer inner name (between, step, rest) =
    bound_so name (is_among (bound_by p) name || is_among (bound_on way) name) (is_among (bound_by p ++ bound_on way) name) outer inner (sym (list_any-append (bytes_eq name) (bound_by p) (bound_on way)))
    (goes_on name (is_among (bound_by p) name) (is_among (bound_on way) name) outer between inner (part_enters w p q outer between name step) (way_enters w way between inner name rest))

pub finds_same : FindsSameUnlessBound
finds_same w p end way outer inner name read = same_where_free name (is_among (bound_on way) name) outer inner (way_enters w way outer inner name read)

pub means_same : MeansSameUnlessBound
means_same w p end way outer inner name b t read same means = means_later name (is_among (bound_on way) name) outer inner b t (way_enters w way outer inner name read) same means

-- ---- every part is read in some scope

abbrev some_env : Scope → Env
some_env scope = record { scope = scope; facts = None; notes = no_notes; returned = []; breaks = None }

some_program : Program
some_program = record { path = []; deps = record { rows = [] }; sigs = λ path. None; is_cyclic = λ name. false; members = λ t. []; below = λ t u. true }

is_read : (w : World) (p q : Piece) (outer : Scope) → (inner : Scope) × IsEntered w p q outer inner
is_read w (an_expression (ex f t (function_ex (function ff ft own s b)))) q outer = (own_scope w own (suc ff) s outer, refl)
is_read w (an_expression (ex f t (arrow s (arrow_block (block bf bt ss))))) q outer = (_, (None, no_notes, refl))
is_read w (an_expression (ex f t (arrow s (arrow_value e)))) q outer = (_, (None, no_notes, refl))
is_read w (a_function (function f t own s (block bf bt ss))) q outer = (_, (None, no_notes, refl))
is_read w (a_block (block f t ss)) q outer = (_, (some_env outer, refl, refl))
is_read w (a_list (more_stmt ss s)) (a_statement q) outer = (_, (some_env outer, refl, refl))
is_read w (the_items is) (the_items before) outer = (outer, refl)
is_read w (the_items (more_item is i)) (an_expression e) outer = (_, (some_program, module_of 0 0 no_item, some_env outer, refl, refl))
is_read w (the_items (more_item is i)) (a_function f) outer = (_, (some_program, module_of 0 0 no_item, some_env outer, refl, refl))
is_read w (the_items (more_item is i)) (a_block b) outer = (_, (some_program, module_of 0 0 no_item, some_env outer, refl, refl))
is_read w (the_items (more_item is i)) (a_list ss) outer = (_, (some_program, module_of 0 0 no_item, some_env outer, refl, refl))
is_read w (the_items (more_item is i)) (a_statement s) outer = (_, (some_program, module_of 0 0 no_item, some_env outer, refl, refl))
is_read w (the_items (more_item is i)) (a_simple s) outer = (_, (some_program, module_of 0 0 no_item, some_env outer, refl, refl))
is_read w p q outer = (outer, refl)

is_read_along : (w : World) {p end : Piece} (way : Way p end) (outer : Scope) → (inner : Scope) × IsReadAlong w way outer inner
is_read_along w (arrived p) outer = (outer, refl)
is_read_along w (into p q end part way) outer =
    let step = is_read w p q outer in
    let rest = is_read_along w way step.0 in
    (rest.0, (step.0, step.1, rest.1))

-- ---- what is assigned is found

pub assigned_found : (w : World) (inner : Bool) (name : Bytes) (p : Piece) (outer : Scope) → IsAssigned inner name p → IsFound w inner name p outer
assigned_found w inner name p outer a =
    let end = is_read_along w a.way outer in
    record {
      place = a.place;
      way = a.way;
      assignment = a.assignment;
      inside = a.inside;
      scope = end.0;
      read = end.1;
      same = (finds_same w p a.place a.way outer end.0 name end.1).0 a.free;
    }

pub found_assigned : (w : World) (inner : Bool) (name : Bytes) (p : Piece) (outer : Scope) → IsFound w inner name p outer → IsAssigned inner name p
found_assigned w inner name p outer a = record {
  place = a.place;
  way = a.way;
  assignment = a.assignment;
  inside = a.inside;
  free = (finds_same w p a.place a.way outer a.scope name a.read).1 a.same;
}
