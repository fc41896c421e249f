-- Functions and blocks, before and after their statements.
use Rattle.std.proofs.Common.{◌≡◌, ◌↔◌, ℕ, arith, rules, IsTrue, Bool, true, false, List, [], ◌++◌, Option, Some, None, refl, sym, ap, ◌∙◌, subst}
use Rattle.js_grammar.specs.Code.{Sig, sig, Stmts}
use Rattle.code_tree.specs.Flat.{signature_view}
use Rattle.type_values.specs.declared.types.FlowType.{FlowType}
use Rattle.type_terms.specs.Join.{join_of}
use Rattle.type_values.specs.declared.types.FlowType as made_type
use Rattle.flow_facts.specs.Known.{Known, Map}
use Rattle.std.specs.Option.{option_map}
use Rattle.js_grammar.specs.Code.{Parameters}
use Rattle.js_grammar.specs.Types.{Ty, ty}
use Rattle.code_tree.specs.Flat.{parameters_view}
use Rattle.type_tree.specs.View.{type_view}
use Rattle.type_tree.specs.declared.types.BaseForm.{the_lemmas}
use Rattle.type_tree.specs.declared.types.TypeTree.{TypeTree, out-TypeTree}
use Rattle.code_tree.specs.declared.types.Signature.{Signature}
use Rattle.typing.specs.TypeFaults.{written}
use Rattle.refine_flow.specs.Standing.{known, EntersMark}
use Rattle.refine_flow.specs.declared.facts.Facts.{Facts}
use Rattle.check_world.specs.View.{notes_view}
use Rattle.check_world.specs.declared.notes.Notes.{Notes}
use Rattle.scopes.specs.View.{scope_view, names_in, names_at, names_since, IsHeight, IsTop, KeepsHeights}
use Rattle.scopes.specs.declared.row.Height.{Height}
use Rattle.scopes.specs.declared.scope.Scope.{Scope}
use Rattle.typing.specs.Names.{Binding}
use Rattle.typing.specs.Changes.{Change}
use Rattle.typing.specs.States as typing
use Rattle.typing.specs.States.{World, Env, asked, returns}
use Rattle.typing.specs.Functions.{Bound, bind_sig, bind_stmts, enter_block, sig_read, result_of, function_type, end_asked, ended}
use Rattle.typing.specs.Typing.{made_from}
use Rattle.binders.specs.View.{bound_since, Binds}
use Rattle.fact_ways.specs.Ways.{Leads, Goes}
use Rattle.fact_ways.proofs.Marks.{goes_nowhere}
use Rattle.check_moves.specs.declared.state.State.{State}
use Rattle.statement_moves.specs.declared.functions.Outside.{Outside}
use Rattle.check_moves.specs.View.{around, now, env, broken_facts}
use Rattle.check_moves.specs.Follows.{Follows}
use Rattle.statement_moves.specs.Outside.{IsOutside, function_env}
use Rattle.check_moves.proofs.Following.{heights_twice}
use Rattle.statement_moves.proofs.Outsides.{kept_names}
use Rattle.statement_moves.specs.declared.bodies.Outer.{Outer}
use Rattle.statement_moves.specs.Bodies.{bound_env, entered_env, IsInside}

-- the names alone are changed
pub follows_names : (a b : State) → KeepsHeights a.scope b.scope → b.facts ≡ a.facts → Follows None a None b
follows_names a b kept same = record { leads = record { fits = tt; goes = subst (λ (f : Facts). Goes None a.facts None f) (sym same) (goes_nowhere None a.facts) }; heights = kept }

pub follows_bound : (h : Height) (a b : State) (mid : Scope) → Binds h a.scope mid → Binds h mid b.scope → b.facts ≡ a.facts → Follows None a None b
follows_bound h a b mid first second same = follows_names a b (heights_twice a.scope mid b.scope first.heights second.heights) same

-- the height of a scope is one of it, and of the scope once names were bound
pub height_top : (h : Height) (a : Scope) → IsTop h a → IsHeight h a
height_top h a top = (omega (arith, top.0), omega (arith, top.1))

pub height_bound : (h : Height) (a b : Scope) → IsTop h a → Binds h a b → IsHeight h b
height_bound h a b top binds = (binds.heights h (height_top h a top)).0

names_on : (h : Height) (a b : Scope) → names_since h a ≡ [] → Binds h a b → names_in b ≡ names_since h b ++ names_in a
names_on h a b none binds = binds.names (names_in a) (ap (λ (l : List Binding). l ++ names_in a) (sym none))

-- the parameters of a function are bound, and then the names of its body
pub body_bound : (w : World) (changes : List Change) (s : Sig) (ss : Stmts) (h : Height) (a b : State) (mid : Scope) (n : Notes) → names_since h a.scope ≡ [] →
    bound_since h mid n ≡ bind_sig w a.scope.depth changes s (bound_since h a.scope a.notes) → Binds h a.scope mid →
    bound_since h b.scope b.notes ≡ bind_stmts w mid.depth changes ss (bound_since h mid n) → Binds h mid b.scope →
    b.facts ≡ a.facts → b.returned ≡ a.returned → b.breaks ≡ a.breaks → env b ≡ bound_env w changes s ss (env a)
unfolding around now
body_bound w changes s ss h a b mid n none parameters first statements second facts returned breaks =
    let bound : bound_since h b.scope b.notes ≡ bind_stmts w a.scope.depth changes ss (bind_sig w a.scope.depth changes s (record { names = []; notes = notes_view a.notes })) =
    statements ∙ (λ i. bind_stmts w (first.depth i) changes ss (parameters i))
    ∙ ap (λ (l : List Binding). bind_stmts w a.scope.depth changes ss (bind_sig w a.scope.depth changes s (record { names = l; notes = notes_view a.notes }))) none in
    let names : names_in b.scope ≡ names_since h b.scope ++ names_in a.scope = second.names (names_in a.scope) (names_on h a.scope mid none first) in
    λ i. record {
      scope = record { names = (names ∙ ap (λ (x : Bound). x.names ++ names_in a.scope) bound) i; depth = (second.depth ∙ first.depth) i; result = (second.result ∙ first.result) i };
      facts = known (facts i);
      notes = (bound i).notes;
      returned = returned i;
      breaks = broken_facts (breaks i);
    }

-- the names of a block are bound
pub block_bound : (w : World) (changes : List Change) (ss : Stmts) (h : Height) (a b : State) → names_since h a.scope ≡ [] →
    bound_since h b.scope b.notes ≡ bind_stmts w a.scope.depth changes ss (bound_since h a.scope a.notes) → Binds h a.scope b.scope →
    b.facts ≡ a.facts → b.returned ≡ a.returned → b.breaks ≡ a.breaks → env b ≡ enter_block w changes ss (env a)
unfolding around now
block_bound w changes ss h a b none statements binds facts returned breaks =
    let bound : bound_since h b.scope b.notes ≡ bind_stmts w a.scope.depth changes ss (record { names = []; notes = notes_view a.notes }) =
    statements ∙ ap (λ (l : List Binding). bind_stmts w a.scope.depth changes ss (record { names = l; notes = notes_view a.notes })) none in
    λ i. record {
      scope = record { names = (names_on h a.scope b.scope none binds ∙ ap (λ (x : Bound). x.names ++ names_in a.scope) bound) i; depth = binds.depth i; result = binds.result i };
      facts = known (facts i);
      notes = (bound i).notes;
      returned = returned i;
      breaks = broken_facts (breaks i);
    }

-- a block has ended
pub block_left : (o : Outer) (before a b : State) → IsInside o before a → scope_view b.scope ≡ record { names = names_at o.height a.scope; depth = a.scope.depth; result = a.scope.result } →
    notes_view b.notes ≡ record (notes_view a.notes) { stopped = o.stopped } → b.facts ≡ a.facts → b.returned ≡ a.returned → b.breaks ≡ a.breaks → env b ≡ typing.leave (env before) (env a)
unfolding around now
block_left o before a b inside is notes facts returned breaks =
    let names : names_at o.height a.scope ≡ names_in before.scope = kept_names o.height before.scope a.scope inside.height inside.heights in
    λ i. record {
      scope = (is ∙ (λ j. record { names = names j; depth = inside.depth j; result = inside.result j })) i;
      facts = known (facts i);
      notes = (notes ∙ (λ j. record (notes_view a.notes) { stopped = inside.stopped j })) i;
      returned = returned i;
      breaks = broken_facts (breaks i);
    }

pub block_left_follows : (o : Outer) (before a b : State) → IsInside o before a → Follows None before None a → (KeepsHeights before.scope a.scope → KeepsHeights before.scope b.scope) → b.facts ≡ a.facts → Follows None before None b
block_left_follows o before a b inside follows left same = record {
  leads = subst (λ (f : Facts). Leads None before.facts None f) (sym same) follows.leads;
  heights = left inside.heights;
}

-- ---- functions

-- the signature was read, once a function was entered
pub entered : (w : World) (own : Option Binding) (keeps : Bool) (s : Sig) (a b c : State) → env b ≡ function_env own keeps (result_of w s) (env a) → around c ≡ around b → now c ≡ record (now b) { notes = sig_read w s (now b).notes } →
    env c ≡ entered_env w own keeps s (env a)
entered w own keeps s a b c is same reads =
    (λ i. record { scope = (same i).scope; facts = (reads i).facts; notes = (reads i).notes; returned = (same i).returned; breaks = (same i).breaks })
    ∙ (λ i. record (is i) { notes = sig_read w s (is i).notes })

pub outside_read : (o : Outside) (a b c : State) → IsOutside o a b → c.scope ≡ b.scope → c.facts ≡ b.facts → IsOutside o a c
outside_read o a b c outside names facts = record {
  heights = subst (λ n. KeepsHeights a.scope n) (sym names) outside.heights;
  marks = subst (λ (f : Facts). EntersMark o.mark a.facts f) (sym facts) outside.marks;
  height = outside.height;
  depth = outside.depth;
  result = outside.result;
  returned = outside.returned;
  breaks = outside.breaks;
  stopped = outside.stopped;
}

-- and left
pub made : (w : World) (s : Sig) (made_is result : FlowType) (all : List FlowType) (before a b : State) → made_is ≡ function_type w s result → result ≡ join_of all → all ≡ (around a).returned →
    now b ≡ record { facts = known before.facts; notes = record (now a).notes { stopped = (now before).notes.stopped } } → record { ty = made_is; now = now b } ≡ made_from w s (now before) (env a)
unfolding now
made w s made_is result all before a b is joins returned done =
    λ i. record { ty = (is ∙ ap (function_type w s) (joins ∙ ap join_of returned)) i; now = done i }

-- the end of a body whose result is annotated
abbrev from_of : Ty → ℕ
from_of (ty from to lead members) = from

abbrev to_of : Ty → ℕ
to_of (ty from to lead members) = to

end_is_asked : (w : World) (f t : ℕ) (ps : Parameters) (comma : Bool) (v : Ty) (m : Map) (e : Env) →
    end_asked w (sig f t ps comma (Some v)) (Some m) e ≡ record e { notes = asked w (from_of v) (to_of v) (written w v) made_type.Void e.notes }
end_is_asked w f t ps comma (ty from to lead members) m e = refl

from_is : (tree : TypeTree) → from_of (type_view tree) ≡ (out-TypeTree tree).first
unfolding type_view out-TypeTree
from_is tree = search (rules, the_lemmas)

to_is : (tree : TypeTree) → to_of (type_view tree) ≡ (out-TypeTree tree).end
unfolding type_view out-TypeTree
to_is tree = search (rules, the_lemmas)

-- where it is dead, nothing is returned
end_none : (w : World) (s : Sig) (e : Env) → end_asked w s None e ≡ e
end_none w (sig f t ps comma output) e = refl

pub end_dead : (w : World) (s : Sig) (a : State) (d : Bool) → IsTrue d ↔ (known a.facts ≡ None) → d ≡ true → env a ≡ ended w s (env a)
unfolding now
end_dead w s a d iff on = sym (end_none w s (env a)) ∙ ap (λ (f : Known). end_asked w s f (env a)) (sym (iff.0 on))

end_live : (f : Known) (d : Bool) → IsTrue d ↔ (f ≡ None) → d ≡ false → (m : Map) × (f ≡ Some m)
end_live None d iff off = absurd (cc (iff.1 refl, off))
end_live (Some m) d iff off = (m, refl)

pub end_bare : (w : World) (x : Signature) (a b : State) (d : Bool) → x.output ≡ None → IsTrue d ↔ (known a.facts ≡ None) → d ≡ false → env b ≡ returns made_type.Void (env a) → env b ≡ ended w (signature_view x) (env a)
unfolding signature_view now
end_bare w x a b d output iff off is =
    let live : (m : Map) × (known a.facts ≡ Some m) = end_live (known a.facts) d iff off in
    is ∙ (λ i. end_asked w (sig x.first x.end (parameters_view x.parameters) x.comma (option_map type_view (sym output i))) (sym live.1 i) (env a))

pub end_annotated : (w : World) (x : Signature) (tree : TypeTree) (want : FlowType) (a b : State) (d : Bool) → x.output ≡ Some tree → IsTrue d ↔ (known a.facts ≡ None) → d ≡ false → want ≡ written w (type_view tree) →
    around b ≡ around a → b.facts ≡ a.facts → notes_view b.notes ≡ asked w (out-TypeTree tree).first (out-TypeTree tree).end want made_type.Void (notes_view a.notes) → env b ≡ ended w (signature_view x) (env a)
unfolding signature_view now
end_annotated w x tree want a b d output iff off wanted same kept asks =
    let live : (m : Map) × (known a.facts ≡ Some m) = end_live (known a.facts) d iff off in
    (λ i. record {
      scope = (same i).scope;
      facts = known (kept i);
      notes = (asks ∙ ap (λ (t : FlowType). asked w (out-TypeTree tree).first (out-TypeTree tree).end t made_type.Void (notes_view a.notes)) wanted) i;
      returned = (same i).returned;
      breaks = (same i).breaks;
    })
    ∙ (λ i. record (env a) { notes = asked w (sym (from_is tree) i) (sym (to_is tree) i) (written w (type_view tree)) made_type.Void (env a).notes })
    ∙ sym (end_is_asked w x.first x.end (parameters_view x.parameters) x.comma (type_view tree) live.0 (env a))
    ∙ (λ i. end_asked w (sig x.first x.end (parameters_view x.parameters) x.comma (option_map type_view (sym output i))) (sym live.1 i) (env a))
