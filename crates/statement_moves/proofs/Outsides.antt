-- Functions that are entered and left.
use Rattle.std.proofs.Common.{◌≡◌, ℕ, suc, arith, Bool, List, [], ◌++◌, Option, None, take, ap, ◌∙◌, subst}
use Rattle.std.specs.Option.{option_to_list}
use Rattle.std.proofs.lemmas.List.{take_all, drop_all}
use Rattle.type_values.specs.declared.types.FlowType.{FlowType}
use Rattle.refine_flow.specs.Standing.{known, known_at, EntersMark, SpendsMark}
use Rattle.scopes.specs.Rows.{names_view, rows_before}
use Rattle.scopes.specs.View.{scope_view, names_in, names_at, IsTop, IsHeight, KeepsHeights}
use Rattle.scopes.specs.declared.row.Height.{Height}
use Rattle.scopes.specs.declared.scope.Scope.{Scope}
use Rattle.typing.specs.Names as typing
use Rattle.check_world.specs.View.{notes_view}
use Rattle.typing.specs.Functions.{kept_facts}
use Rattle.check_moves.specs.declared.state.State.{State}
use Rattle.statement_moves.specs.declared.functions.Outside.{Outside}
use Rattle.check_moves.specs.View.{around, now, env, broken_facts}
use Rattle.check_moves.specs.Follows.{Follows}
use Rattle.statement_moves.specs.Outside.{IsOutside, function_env, entered_env}
use Rattle.fact_ways.proofs.Marks.{enters_on, enters_ends}
use Rattle.check_moves.proofs.Following.{heights_twice}

-- with its own name, its depth and its result
pub names_entered : (own : Option typing.Binding) (output : Option FlowType) (b c d : State) →
    (around c).scope ≡ record (around b).scope { names = option_to_list own ++ (around b).scope.names } → env c ≡ record (env b) { scope = (around c).scope } →
    env d ≡ record (env c) { scope = record { names = (around c).scope.names; depth = suc (around c).scope.depth; result = output } } → env d ≡ entered_env own output (env b)
names_entered own output b c d named stays deeper =
    deeper ∙ (λ i. record (stays i) { scope = record { names = (named i).names; depth = suc (named i).depth; result = output } })

pub depth_before : (names : List typing.Binding) (depth : ℕ) (b c : State) → depth ≡ (around c).scope.depth → (around c).scope ≡ record (around b).scope { names = names } → depth ≡ (around b).scope.depth
depth_before names depth b c is named = is ∙ ap (λ (s : typing.Scope). s.depth) named

pub wanted_before : (names : List typing.Binding) (wanted : Option FlowType) (b c : State) → wanted ≡ (around c).scope.result → (around c).scope ≡ record (around b).scope { names = names } → wanted ≡ (around b).scope.result
wanted_before names wanted b c is named = is ∙ ap (λ (s : typing.Scope). s.result) named

-- the facts, and what the function around returned and broke off, are put aside before
pub function_entered : (own : Option typing.Binding) (keeps : Bool) (output : Option FlowType) (a m c : State) → env m ≡ record (env a) { facts = kept_facts keeps (env a).facts; returned = []; breaks = None } →
    env c ≡ entered_env own output (env m) → env c ≡ function_env own keeps output (env a)
function_entered own keeps output a m c fresh entered = entered ∙ ap (entered_env own output) fresh

pub is_outside : (o : Outside) (a m c : State) → m.scope ≡ a.scope → EntersMark o.mark a.facts m.facts → IsTop o.height a.scope → Follows None m None c →
    o.depth ≡ (around m).scope.depth → o.result ≡ (around m).scope.result → o.returned ≡ a.returned → o.breaks ≡ a.breaks → o.stopped ≡ (now a).notes.stopped → IsOutside o a c
unfolding around now
is_outside o a m c names marks top enters depth result returned breaks stopped = record {
  heights = subst (λ n. KeepsHeights n c.scope) names enters.heights;
  marks = enters_on o.mark a.facts m.facts c.facts marks enters.leads.goes;
  height = top;
  depth = depth ∙ ap (λ (s : Scope). s.depth) names;
  result = result ∙ ap (λ (s : Scope). s.result) names;
  returned = returned;
  breaks = breaks;
  stopped = stopped;
}

-- ---- the names of a height

top_is : (height : Height) (s : Scope) → IsTop height s → IsHeight height s
top_is height s top = (omega (arith, top.0), omega (arith, top.1))

names_top : (height : Height) (s : Scope) → IsTop height s → names_at height s ≡ names_in s
names_top height s top =
    ap (λ l. names_view (rows_before l (take height.rows s.rows.items))) (drop_all height.changes s.changes.items (omega (arith, top.1)))
    ∙ ap names_view (take_all height.rows s.rows.items (omega (arith, top.0)))

pub kept_names : (height : Height) (a b : Scope) → IsTop height a → KeepsHeights a b → names_at height b ≡ names_in a
kept_names height a b top keeps = (keeps height (top_is height a top)).1 ∙ names_top height a top

-- names are taken away, and then a depth is set
pub left_names : (height : Height) (depth : ℕ) (wanted : Option FlowType) (a b c : Scope) → scope_view b ≡ record { names = names_at height a; depth = a.depth; result = a.result } →
    scope_view c ≡ record { names = names_in b; depth = depth; result = wanted } → scope_view c ≡ record { names = names_at height a; depth = depth; result = wanted }
left_names height depth wanted a b c leaves stands = stands ∙ (λ i. record { names = (leaves i).names; depth = depth; result = wanted })

pub left_heights : (before b c : Scope) → KeepsHeights before b → KeepsHeights b c → KeepsHeights before c
left_heights before b c first second = heights_twice before b c first second

-- ---- a function is left

-- what stands around is again what stood there
pub around_left : (o : Outside) (before s : State) (d : Scope) → IsOutside o before s →
    scope_view d ≡ record { names = names_at o.height s.scope; depth = o.depth; result = o.result } → record { scope = scope_view d; returned = o.returned; breaks = broken_facts o.breaks } ≡ around before
unfolding around
around_left o before s d outside is =
    let own : names_at o.height s.scope ≡ names_in before.scope = kept_names o.height before.scope s.scope outside.height outside.heights in
    (λ i. record { scope = is i; returned = outside.returned i; breaks = broken_facts (outside.breaks i) })
    ∙ (λ i. record { scope = record { names = own i; depth = outside.depth i; result = outside.result i }; returned = before.returned; breaks = broken_facts before.breaks })

-- the facts are those outside again
pub now_left : (o : Outside) (before s new : State) → IsOutside o before s → known new.facts ≡ known_at o.mark s.facts →
    notes_view new.notes ≡ record (notes_view s.notes) { stopped = o.stopped } → now new ≡ record { facts = known before.facts; notes = record (now s).notes { stopped = (now before).notes.stopped } }
unfolding now
now_left o before s new outside ends stops = λ i. record {
  facts = (ends ∙ outside.marks.before) i;
  notes = (stops ∙ (λ j. record (notes_view s.notes) { stopped = outside.stopped j })) i;
}

pub follows_left_function : (o : Outside) (before s new : State) → IsOutside o before s →
    ((b : Scope) → IsTop o.height b → KeepsHeights b s.scope → KeepsHeights b new.scope) → SpendsMark o.mark s.facts new.facts → Follows None before None new
follows_left_function o before s new outside leaves spent = record {
  leads = record { fits = tt; goes = enters_ends o.mark before.facts s.facts new.facts outside.marks spent };
  heights = leaves before.scope outside.height outside.heights;
}
