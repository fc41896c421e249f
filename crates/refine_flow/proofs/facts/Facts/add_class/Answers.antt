use Rattle.std.proofs.Common.{◌≡◌, rules, sym, ap, ◌∙◌}
use Rattle.std.specs.List.{list_any}
use Rattle.std.specs.Option.{is_some}
use Rattle.std.specs.Ordering.{nat_cmp}
use Rattle.std.specs.BTreeMap.{is_at}
use Rattle.fact_arms.proofs.Listing.{all_listed}
use Rattle.flow_facts.specs.Known.{variable_place}
use Rattle.refine_flow.specs.Whole.{is_listed}
use Rattle.refine_flow.specs.Standing.{shown}
use Rattle.refine_flow.proofs.Listing.{adds_itself, adds_then, variables_left}
use Rattle.refine_flow.proofs.facts.Facts.add_class.Goals as goal

pub loop-binding-init : goal.loop-binding-init
loop-binding-init c =
    let same : c.into_iter-binding-iterator.result ≡ c.keys-binding-items.result = search rules in
    record {
      adds = adds_itself (shown c.args.self.now) c.args.rows.now.items;
      left = λ b there unlisted. ap (list_any (is_at (nat_cmp b))) same ∙ sym (c.keys-binding-items.ensures.has b) ∙ ap is_some (c.rows.ensures b) ∙ there.0;
    }

pub loop-binding-preserved : goal.loop-binding-preserved
loop-binding-preserved c =
    let added = c.in_ok-add_variable.ensures in
    record {
      adds = adds_then (shown c.args.self.now) c.args.rows.now.items c.loop-binding.rows.items c.add_variable.new.rows.items c.loop-binding.invariant.adds added.adds;
      left = variables_left c.args.facts.now c.args.self.now c.loop-binding.binding-iterator c.next.new.self c.in-Some.binding.now c.loop-binding.rows.items c.add_variable.new.rows.items c.in-Some.ensures.steps added.adds added.listed c.loop-binding.invariant.left;
    }

pub returns-clause-listed : goal.returns-clause-listed
returns-clause-listed c = λ b own there.
    all_listed (is_listed c.loop-binding.rows.items (variable_place b)) (λ unlisted. sym (ap (list_any (is_at (nat_cmp b))) c.in-None.ensures.steps.0) ∙ c.loop-binding.invariant.left b (own, there) unlisted)
