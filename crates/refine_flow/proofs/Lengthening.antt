-- Making an arm over the last mark one over the mark before it.
use Rattle.std.proofs.Common.{◌≡◌, ◌≤◌, ◌+◌, Some, None, length, refl, sym, ap, ◌∙◌, if◌then◌else◌, arith}
use Rattle.fact_trail.specs.declared.trail.Trail.{Trail}
use Rattle.fact_trail.specs.declared.slot.Slot.{Slot}
use Rattle.fact_trail.specs.Slots.{Map as Slots}
use Rattle.fact_trail.specs.Moments.{map_of, map_at, KeepsMoments, IsNew}
use Rattle.fact_arms.specs.declared.difference.Difference.{Difference}
use Rattle.fact_arms.specs.Differences.{over, SameTypes, Leaves}
use Rattle.fact_arms.proofs.Moving.{over_none}
use Rattle.flow_facts.specs.Known.{Map}
use Rattle.refine_flow.specs.declared.facts.Facts.{Facts}
use Rattle.refine_flow.specs.declared.facts.Mark.{Mark}
use Rattle.refine_flow.specs.declared.facts.Arm.{Arm}
use Rattle.refine_flow.specs.Numbers.{IsBeyond}
use Rattle.refine_flow.specs.Standing.{types_by, known, known_over, IsArmOf, SpendsInner}
use Rattle.refine_flow.proofs.Dropping.{same_names}
use Rattle.refine_flow.proofs.Turning.{same_mark, types_same}

-- facts of the same types
pub known_again : (old : Facts) (trail : Trail) → SameTypes (map_of trail) (map_of old.trail) → (if old.dead then None else Some (types_by old.names (map_of trail))) ≡ known old
known_again old trail types = ap (λ (x : Map). if old.dead then None else Some x) (types_same old.names (map_of trail) (map_of old.trail) types)

-- a difference behind another one leaves a slot without a fact that both leave so
leaves_both : (both last first : Difference) (s : Slot) → ((m : Slots) → over both m ≡ over last (over first m)) → Leaves s last → Leaves s first → Leaves s both
leaves_both both last first s are one two =
    sym (over_none both s (λ q. None) refl) ∙ ap (λ (l : Slots). l s) (are (λ q. None)) ∙ over_none last s (over first (λ q. None)) (over_none first s (λ q. None) refl ∙ two) ∙ one

-- the longer arm is one of the facts
pub long_arm : (arm : Arm) (long between : Difference) (old : Facts) → ((m : Slots) → over long m ≡ over arm.difference (over between m)) → IsArmOf arm old → ((s : Slot) → IsNew s old.trail → Leaves s between) → (s : Slot) → IsBeyond old.names s → Leaves s long
long_arm arm long between old are of leaves s beyond = leaves_both long arm.difference between s are (of s beyond) (leaves s (old.tidy s beyond))

-- and makes of the facts at the mark before what the arm makes of those at the last one
pub long_known : (last before : Mark) (arm : Arm) (long between : Difference) (old : Facts) (trail : Trail) → ((m : Slots) → over long m ≡ over arm.difference (over between m)) → KeepsMoments before.length old.trail trail →
    over between (map_at before.length old.trail) ≡ map_at last.length old.trail → (if arm.dead then None else Some (types_by old.names (over long (map_at before.length trail)))) ≡ known_over last arm old
long_known last before arm long between old trail are moments made =
    ap (λ (m : Slots). if arm.dead then None else Some (types_by old.names m)) (are (map_at before.length trail) ∙ ap (over arm.difference) (ap (over between) (moments before.length (omega arith)) ∙ made))

-- the marks up to the mark before stay
pub spends_inner : (before mark : Mark) (old new : Facts) → new.names ≡ old.names → new.marks ≡ mark.depth → mark.depth ≡ before.depth + 1 → before.length ≤ length new.trail.changes.items → KeepsMoments before.length old.trail new.trail → SpendsInner before mark old new
spends_inner before mark old new names count next within moments = record {
  count = count;
  names = same_names old new names;
  each = λ m is up. let depth = up.0 in let least = up.1 in same_mark old new m names (omega (arith, depth, count, next)) (omega (arith, least, within)) (moments m.length least);
}
