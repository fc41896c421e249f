use Rattle.std.proofs.Common.{arith, ap, ◌∙◌}
use Rattle.std.specs.Ordering.{nat_cmp}
use Rattle.std.specs.Cmp.Lexicographic.{slice_cmp}
use Rattle.std.specs.BTreeMap.{is_at}
use Rattle.std.specs.Map.{lookup}
use Rattle.subtype_rules.proofs.Firsts.{no_firsts, firsts_next}
use Rattle.subtype_rules.proofs.props.first_places.Goals as goal

pub loop-i-init : goal.loop-i-init
loop-i-init c = record { within = omega arith; firsts = λ key. ap (λ e. lookup (is_at (slice_cmp nat_cmp key)) e) c.new-places.ensures.empty ∙ no_firsts c.args.props.now key }

pub loop-i-preserved : goal.loop-i-preserved
loop-i-preserved c = record {
  within = omega arith;
  firsts = λ key. firsts_next c.args.props.now c.loop-i.i _ c.index-props-i.result key c.in_ok-share.field-0 _ _ (omega arith) (omega arith) (c.loop-i.invariant.firsts key) (c.in_ok-insert.ensures.updates.0 key) c.in_ok-share.ensures;
}
