-- A simple statement as a body, and the names that its block would tell.
use Rattle.std.proofs.Common.{◌≡◌, ℕ, suc, Bool, true, false, cond, List, [], ◌∷◌, ◌++◌, Option, Some, None, refl, sym, ap, ◌∙◌}
use Rattle.js_grammar.specs.Code.{Ex, Simple as TreeSimple, SimpleForm, return_bare, return_value, throw_value, break_loop, continue_loop, assign, evaluate, simple_body}
use Rattle.std.specs.BTreeSet.{BTreeSet, contains}
use Rattle.std.specs.Cmp.Lexicographic.{slice_cmp}
use Rattle.std.specs.Ordering.{nat_cmp}
use Rattle.check_values.specs.Rows.{Bytes}
use Rattle.code_tree.specs.View.{simple_view, simple_form_view}
use Rattle.code_tree.specs.declared.types.Simple.{Simple, out-Simple}
use Rattle.type_values.specs.declared.types.FlowType.{FlowType}
use Rattle.type_values.specs.declared.types.FlowType as made
use Rattle.flow_facts.specs.Known.{Known}
use Rattle.typing.specs.Changes as typing
use Rattle.typing.specs.Changes.{is_set_inside}
use Rattle.typing.specs.States.{World, Out, Env, after, with_now, now_of, change_notes, asked_want, reach, stop_if_dead, returns}
use Rattle.typing.specs.Typing.{read, read_simple, read_body}
use Rattle.binders.specs.View.{TellsInner}
use Rattle.code_changes.specs.View.{changes_view}
use Rattle.code_changes.specs.declared.change.Change.{Change}
use Rattle.check_moves.specs.declared.state.State.{State}
use Rattle.check_moves.specs.View.{around, scope, now, env}
use Rattle.check_expr.specs.Targets.{Aim, aim, assigned_to}
use Rattle.check_expr.proofs.Assigning.{assign_is}
use Rattle.check_expr.proofs.Views.{simple_is}

scope_cond : (b : Bool) (e x : Env) → x.scope ≡ e.scope → (cond b e x).scope ≡ e.scope
scope_cond true e x is = refl
scope_cond false e x is = is

scope_dead : (w : World) (f t : ℕ) (facts : Known) (e : Env) → (stop_if_dead w f t facts e).scope ≡ e.scope
scope_dead w f t None e = refl
scope_dead w f t (Some m) e = refl

scope_reach : (w : World) (f t : ℕ) (e : Env) → (reach w f t e).scope ≡ e.scope
scope_reach w f t e = scope_cond e.notes.stopped e (stop_if_dead w f t e.facts e) (scope_dead w f t e.facts e)

scope_returns : (t : FlowType) (e : Env) → (returns t e).scope ≡ e.scope
scope_returns t e = scope_cond e.notes.stopped e (record e { returned = e.returned ++ t ∷ [] }) refl

scope_assigned : (w : World) (e : Ex) (o : Option Aim) (start : Env) → (assigned_to w e o start).scope ≡ start.scope
scope_assigned w e None start = refl
scope_assigned w e (Some a) start = refl

-- a simple statement binds no name
scope_simple : (w : World) (f t : ℕ) (form : SimpleForm) (e : Env) → (read_simple w f t form e).scope ≡ e.scope
scope_simple w f t return_bare e = scope_returns made.Void (record e { notes = asked_want w f t e.scope.result made.Void e.notes })
scope_simple w f t (return_value v) e =
    let o : Out = read w v e.scope e.scope.result (now_of e) in
    scope_returns o.ty (with_now (after o) e)
scope_simple w f t (throw_value v) e = refl
scope_simple w f t break_loop e = refl
scope_simple w f t continue_loop e = refl
scope_simple w f t (evaluate v) e = refl
scope_simple w f t (assign target v) e = ap (λ (x : Env). x.scope) (assign_is w f t target v e) ∙ scope_assigned w v (aim w target e.scope (now_of e)) e

-- a simple statement as a body is a list of its own
pub simple_told : (w : World) (x : Simple) (end : ℕ) (stopped : Bool) (a b c d : State) → end ≡ suc (out-Simple x).end → stopped ≡ (now a).notes.stopped → env b ≡ reach w (out-Simple x).first end (env a) →
    env c ≡ read_simple w (out-Simple x).first (out-Simple x).end (simple_form_view (out-Simple x).form) (env b) → now d ≡ change_notes (λ notes. record notes { stopped = stopped }) (now c) → around d ≡ around c →
    env d ≡ read_body w (simple_body (simple_view x)) (env a)
simple_told w x end stopped a b c d ends was reached reads sets kept =
    let f : ℕ = (out-Simple x).first in
    let form : SimpleForm = simple_form_view (out-Simple x).form in
    let t : ℕ = (out-Simple x).end in
    let inner : Env = read_simple w f t form (reach w f (suc t) (env a)) in
    let is : env c ≡ inner = reads ∙ ap (read_simple w f t form) (reached ∙ ap (λ (n : ℕ). reach w f n (env a)) ends) in
    let same : inner.scope ≡ scope a = scope_simple w f t form (reach w f (suc t) (env a)) ∙ scope_reach w f (suc t) (env a) in
    (λ i. record { scope = (kept i).scope; facts = (sets i).facts; notes = (sets i).notes; returned = (kept i).returned; breaks = (kept i).breaks })
    ∙ (λ i. record (is i) { notes = record (is i).notes { stopped = was i } })
    ∙ (λ i. record inner { scope = same i; notes = record inner.notes { stopped = (now a).notes.stopped } })
    ∙ sym (ap (λ (v : TreeSimple). read_body w (simple_body v) (env a)) (simple_is x))

-- changes of code alone
pub alone_told : (none more slice : List Change) (all : List typing.Change) → none ≡ [] → changes_view more ≡ changes_view none ++ all → slice ≡ more → changes_view slice ≡ all
unfolding changes_view
alone_told none more slice all empty adds same = ap changes_view same ∙ adds ∙ ap (λ (l : List Change). changes_view l ++ all) empty

pub inner_told : (names : BTreeSet Bytes) (slice : List Change) (all : List typing.Change) → changes_view slice ≡ all → ((name : Bytes) → contains (slice_cmp nat_cmp) names name ≡ is_set_inside (changes_view slice) name) → TellsInner names all
inner_told names slice all is told name = told name ∙ ap (λ (l : List typing.Change). is_set_inside l name) is
