use Rattle.std.proofs.Common.{◌≡◌, rules, sym, ap, ◌∙◌}
use Rattle.std.specs.List.{list_any}
use Rattle.std.specs.Option.{is_some}
use Rattle.std.specs.BTreeMap.{get, is_at}
use Rattle.fact_trail.specs.Slots.{key_cmp}
use Rattle.fact_trail.specs.declared.slot.Slot.TheVariants.{Property}
use Rattle.fact_arms.specs.Differences.{is_listed}
use Rattle.fact_arms.proofs.Listing.{key_listed, pushed_keeps, all_listed}
use Rattle.fact_arms.proofs.slots.add_said_properties.Goals as goal

pub loop-key-init : goal.loop-key-init
loop-key-init c =
    let same : c.into_iter-key-iterator.result ≡ c.keys-key-items.result = search rules in
    record { left = λ b there unlisted. ap (list_any (is_at (key_cmp b))) same ∙ sym (c.keys-key-items.ensures.has b) ∙ there; keeps = λ s is. is }

pub loop-key-preserved : goal.loop-key-preserved
loop-key-preserved c = record {
  left = key_listed (λ b. is_some (get key_cmp c.args.rows.now b)) c.loop-key.key-iterator c.next.new.self c.in-Some.key.now c.loop-key.slots.items c.push.new.self.items c.in-Some.ensures.steps c.in_ok-push.ensures.items c.loop-key.invariant.left;
  keeps = λ s is. pushed_keeps c.loop-key.slots.items c.push.new.self.items (Property c.in-Some.key.now) c.in_ok-push.ensures.items s (c.loop-key.invariant.keeps s is);
}

pub returns-clause-adds : goal.returns-clause-adds
returns-clause-adds c = λ b there.
    all_listed (is_listed c.loop-key.slots.items (Property b)) (λ unlisted. sym (ap (list_any (is_at (key_cmp b))) c.in-None.ensures.steps.0) ∙ c.loop-key.invariant.left b there unlisted)
