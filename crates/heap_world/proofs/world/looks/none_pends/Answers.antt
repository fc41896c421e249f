use Rattle.std.proofs.Common.{◌≡◌, ◌≢◌, ℕ, ◌<◌, arith, sym, ◌∙◌, ap, slice_get, map}
use mathlib.Core.Logic.{dite}
use native.Mathlib.Decide.{ℕ_discrete}
use Rattle.std.specs.Option.{option_map}
use Rattle.std.specs.Arc.{arc_value}
use Rattle.heap_core.proofs.Lists.{get_index}
use Rattle.heap_world.proofs.Worlds.{pends_within, pends_some, pends_none}
use Rattle.heap_world.proofs.world.looks.none_pends.Goals as goal

pub returns-then-is_some-clause-no : goal.returns-then-is_some-clause-no
returns-then-is_some-clause-no g c none =
    let i : ℕ = c.loop-payload.payload-index in let at = get_index c.args.pending.now i c.payload-item.result (omega arith) c.payload-item.is in
    absurd (none i (pends_some c.args.pending.now i c.payload-item.result at (sym c.is_some.ensures ∙ c.if-is_some.true)))

pub loop-payload-preserved : goal.loop-payload-preserved
loop-payload-preserved g c e x below h =
    let i : ℕ = c.loop-payload.payload-index in let at = get_index c.args.pending.now i c.payload-item.result (omega arith) c.payload-item.is in
    dite (ℕ_discrete e i) (λ (same : e ≡ i). pends_none c.args.pending.now i c.payload-item.result at (sym c.is_some.ensures ∙ c.if-is_some.false) x (ap (slice_get (map (option_map arc_value) c.args.pending.now)) (sym same) ∙ h))
    (λ (ne : e ≢ i). let lower : e < i = omega arith in c.loop-payload.invariant e x lower h)

pub returns-clause-yes : goal.returns-clause-yes
returns-clause-yes g c _ e p = let n = pends_within c.args.pending.now e p.0 p.1 in let lower : e < c.loop-payload.payload-index = omega arith in c.loop-payload.invariant e p.0 lower p.1
