use Rattle.std.proofs.Common.{◌≡◌, rules, sym, ap, ◌∙◌}
use Rattle.std.specs.List.{list_any}
use Rattle.std.specs.Option.{is_some}
use Rattle.std.specs.BTreeMap.{get, is_at}
use Rattle.std.specs.Ordering.{nat_cmp}
use Rattle.fact_trail.specs.declared.slot.Slot.TheVariants.{Variable}
use Rattle.fact_arms.specs.Differences.{is_listed}
use Rattle.fact_arms.proofs.Listing.{number_listed, pushed_keeps, all_listed}
use Rattle.fact_arms.proofs.slots.add_said_variables.Goals as goal

pub loop-binding-init : goal.loop-binding-init
loop-binding-init c =
    let same : c.into_iter-binding-iterator.result ≡ c.keys-binding-items.result = search rules in
    record { left = λ b there unlisted. ap (list_any (is_at (nat_cmp b))) same ∙ sym (c.keys-binding-items.ensures.has b) ∙ there; keeps = λ s is. is }

pub loop-binding-preserved : goal.loop-binding-preserved
loop-binding-preserved c = record {
  left = number_listed (λ b. is_some (get nat_cmp c.args.rows.now b)) c.loop-binding.binding-iterator c.next.new.self c.in-Some.binding.now c.loop-binding.slots.items c.push.new.self.items c.in-Some.ensures.steps c.in_ok-push.ensures.items c.loop-binding.invariant.left;
  keeps = λ s is. pushed_keeps c.loop-binding.slots.items c.push.new.self.items (Variable c.in-Some.binding.now) c.in_ok-push.ensures.items s (c.loop-binding.invariant.keeps s is);
}

pub returns-clause-adds : goal.returns-clause-adds
returns-clause-adds c = λ b there.
    all_listed (is_listed c.loop-binding.slots.items (Variable b)) (λ unlisted. sym (ap (list_any (is_at (nat_cmp b))) c.in-None.ensures.steps.0) ∙ c.loop-binding.invariant.left b there unlisted)
