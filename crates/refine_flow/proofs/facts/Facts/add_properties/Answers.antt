use Rattle.std.proofs.Common.{◌≡◌, rules, sym, ap, ◌∙◌}
use Rattle.std.specs.List.{list_any}
use Rattle.std.specs.Option.{is_some}
use Rattle.std.specs.BTreeMap.{is_at}
use Rattle.fact_trail.specs.Rows.{properties_of}
use Rattle.fact_trail.specs.Slots.{key_cmp}
use Rattle.fact_arms.proofs.Listing.{all_listed}
use Rattle.flow_facts.specs.Known.{property_place}
use Rattle.refine_flow.specs.Whole.{is_listed}
use Rattle.refine_flow.specs.Standing.{shown}
use Rattle.refine_flow.proofs.Listing.{adds_itself, adds_then, properties_left}
use Rattle.refine_flow.proofs.facts.Facts.add_properties.Goals as goal

pub loop-key-init : goal.loop-key-init
loop-key-init c =
    let same : c.into_iter-key-iterator.result ≡ c.keys-key-items.result = search rules in
    record {
      adds = adds_itself (shown c.args.self.now) c.args.rows.now.items;
      left = λ k x named there unlisted. ap (list_any (is_at (key_cmp k))) same ∙ sym (c.keys-key-items.ensures.has k) ∙ ap is_some (c.rows.ensures k ∙ ap (λ p. properties_of p k) c.properties.ensures) ∙ there;
    }

pub loop-key-preserved : goal.loop-key-preserved
loop-key-preserved c =
    let added = c.in_ok-add_property.ensures in
    record {
      adds = adds_then (shown c.args.self.now) c.args.rows.now.items c.loop-key.rows.items c.add_property.new.rows.items c.loop-key.invariant.adds added.adds;
      left = properties_left c.args.self.now c.loop-key.key-iterator c.next.new.self c.in-Some.key.now c.loop-key.rows.items c.add_property.new.rows.items c.in-Some.ensures.steps added.adds added.listed c.loop-key.invariant.left;
    }

pub returns-clause-listed : goal.returns-clause-listed
returns-clause-listed c = λ k x named there.
    all_listed (is_listed c.loop-key.rows.items (property_place k.binding x)) (λ unlisted. sym (ap (list_any (is_at (key_cmp k))) c.in-None.ensures.steps.0) ∙ c.loop-key.invariant.left k x named there unlisted)
