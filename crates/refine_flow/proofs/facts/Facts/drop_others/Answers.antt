use Rattle.std.proofs.Common.{◌≡◌, ◌==◌, ◌<◌, List, ℕ, Option, None, refl, sym, ◌∙◌, subst}
use Rattle.std.specs.List.{list_any}
use Rattle.fact_trail.specs.declared.slot.Slot.TheVariants.{Variable}
use Rattle.fact_trail.specs.Moments.{map_of, Drops}
use Rattle.fact_trail.proofs.Changes.{loses_itself}
use Rattle.refine_flow.specs.Standing.{is_lost}
use Rattle.refine_flow.proofs.Losing.{IsBefore, left_from, is_other, loses_other, passed_more, passed_none, fewer_left, all_others}
use Rattle.refine_flow.proofs.facts.Facts.drop_others.Goals as goal

pub loop-next-init : goal.loop-next-init
loop-next-init c = record {
  lost = loses_itself (is_lost (λ b. list_any (λ x. x == b) c.args.constants.now)) c.args.self.now.trail;
  before = passed_none (λ b. list_any (λ x. x == b) c.args.constants.now) c.variable_from-next.result c.args.self.now.trail c.variable_from-next.ensures;
  names = refl;
  dead = refl;
  marks = refl;
}

pub loop-next-preserved : goal.loop-next-preserved
loop-next-preserved c =
    let before = c.loop-next.invariant in let drop = c.drop_other.ensures in
    let kept : ℕ → _ = λ b. list_any (λ x. x == b) c.args.constants.now in
    let dropped : Drops (is_other kept c.in-Some.binding) c.loop-next.self.trail c.drop_other.new.self.trail = subst (λ (xs : List ℕ). Drops (is_other (λ b. list_any (λ x. x == b) xs) c.in-Some.binding) c.loop-next.self.trail c.drop_other.new.self.trail) c.new-kept.ensures drop.trail in
    record {
      lost = loses_other kept c.in-Some.binding c.args.self.now.trail c.loop-next.self.trail c.drop_other.new.self.trail before.lost dropped;
      before = passed_more kept c.in-Some.binding c.variable_after-next.result c.loop-next.self.trail c.drop_other.new.self.trail (λ b less lost. before.before b (subst (IsBefore b) (sym c.in-Some.is) less) lost) dropped c.variable_after-next.ensures;
      names = drop.names ∙ before.names;
      dead = drop.dead ∙ before.dead;
      marks = drop.marks ∙ before.marks;
    }

pub loop-next-smaller : goal.loop-next-smaller
loop-next-smaller c =
    let after = c.drop_other.new.self.trail in
    subst (λ (o : Option ℕ). left_from c.variable_after-next.result < left_from o) (sym c.in-Some.is)
    (fewer_left c.in-Some.binding c.variable_after-next.result ((b : ℕ) → c.in-Some.binding < b → map_of after (Variable b) ≡ None) (λ n. (b : ℕ) → c.in-Some.binding < b → b < n → map_of after (Variable b) ≡ None) c.drop_other.ensures.small
    c.variable_after-next.ensures)

pub returns-clause-trail : goal.returns-clause-trail
returns-clause-trail c =
    all_others (λ b. list_any (λ x. x == b) c.args.constants.now) c.args.self.now.trail c.loop-next.self.trail c.loop-next.invariant.lost (λ b lost. c.loop-next.invariant.before b (subst (IsBefore b) (sym c.in_default.is) tt) lost)
