-- States between statements, by what is told of their parts.
use Rattle.std.proofs.Common.{◌≡◌, ℕ, sym, ap, ◌∙◌}
use Rattle.type_values.specs.declared.types.FlowType.{FlowType}
use Rattle.js_grammar.specs.Code.{Simple as Tree}
use Rattle.js_grammar.specs.Items as g
use Rattle.code_tree.specs.View.{simple_view, simple_form_view}
use Rattle.code_tree.specs.declared.types.Simple.{Simple, out-Simple}
use Rattle.check_world.specs.View.{notes_view}
use Rattle.typing.specs.States.{World, Notes, Now, Out, Env, after, with_now}
use Rattle.typing.specs.Typing.{Made, read_simple}
use Rattle.module_errors.specs.Program.{Program}
use Rattle.module_errors.specs.Items.{read_item_form}
use Rattle.check_expr.proofs.Views.{simple_is}
use Rattle.check_moves.specs.View.{around, now, env, told}
use Rattle.check_moves.specs.declared.state.Read.{Read}
use Rattle.check_moves.specs.declared.state.State.{State}

-- the facts and the notes alone are changed
pub env_with : (a b : State) (n : Now) → around b ≡ around a → now b ≡ n → env b ≡ with_now n (env a)
env_with a b n rest is = λ i. record { scope = (rest i).scope; facts = (is i).facts; notes = (is i).notes; returned = (rest i).returned; breaks = (rest i).breaks }

-- by a function
pub env_made : (a b : State) (t : FlowType) (made : Made) → record { ty = t; now = now b } ≡ made → around b ≡ around a → env b ≡ with_now made.now (env a)
env_made a b t made is rest = env_with a b made.now rest (ap (λ (m : Made). m.now) is)

-- by an expression, behind which both ways go on
pub env_read : (a b c : State) (r : Read) (o : Out) → told r b ≡ o → around b ≡ around a → now c ≡ after (told r b) → around c ≡ around b → env c ≡ with_now (after o) (env a)
env_read a b c r o is read goes rest = env_with a c (after o) (rest ∙ read) (goes ∙ ap after is)

-- the notes alone are changed
pub env_noted : (a b : State) (n : Notes) → b.scope ≡ a.scope → b.facts ≡ a.facts → b.returned ≡ a.returned → b.breaks ≡ a.breaks → notes_view b.notes ≡ n → env b ≡ record (env a) { notes = n }
unfolding around now
env_noted a b n names facts returned breaks is =
    λ i. record { scope = (env (record a { scope = names i })).scope; facts = (env (record a { facts = facts i })).facts; notes = is i; returned = returned i; breaks = (env (record a { breaks = breaks i })).breaks }

-- a simple statement, by its parts
pub simple_read : (w : World) (p : Program) (m : g.Module) (f t : ℕ) (s : Simple) (before after : Env) → after ≡ read_simple w (out-Simple s).first (out-Simple s).end (simple_form_view (out-Simple s).form) before → after ≡ read_item_form w p m f t (g.does_item (simple_view s)) before
simple_read w p m f t s before after is = is ∙ sym (ap (λ (x : Tree). read_item_form w p m f t (g.does_item x) before) (simple_is s))
