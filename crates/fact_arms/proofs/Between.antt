-- Changes that are taken back down to a moment, and made again.
use Rattle.std.proofs.Common.{◌≡◌, ◌≤◌, ℕ, Bool, true, false, Option, Some, None, length, refl, sym, ap, ◌∙◌, if◌then◌else◌, arith}
use Rattle.fact_trail.specs.declared.fact.Fact.{Fact}
use Rattle.fact_trail.specs.declared.trail.Trail.{Trail}
use Rattle.fact_trail.specs.declared.slot.Slot.{Slot}
use Rattle.fact_trail.specs.Slots.{Map}
use Rattle.fact_trail.specs.Moments.{map_of, map_at, KeepsMoments, IsNew}
use Rattle.fact_arms.specs.declared.difference.Difference.{Difference}
use Rattle.fact_arms.specs.Differences.{said_else, said_of, is_gone, over, type_of, SameTypes, Leaves, GoesBack, Goes}

-- a difference makes the same types of the same types
pub over_types : (d : Difference) (m n : Map) → SameTypes m n → SameTypes (over d m) (over d n)
over_types d m n same s = at (said_of d s) (is_gone d s)
  where
    at : (o : Option (Option Fact)) (g : Bool) → type_of (said_else o (if g then None else m s)) ≡ type_of (said_else o (if g then None else n s))
    at (Some fact) g = refl
    at None true = refl
    at None false = same s

-- two differences that are taken back and made again lead to the same types
pub types_again : (since between : Difference) (a b c d e : Map) → over since b ≡ a → over between c ≡ b → SameTypes d (over between c) → SameTypes e (over since d) → SameTypes e a
types_again since between a b c d e first second made again s = again s ∙ over_types since d b (λ q. made q ∙ ap (λ (l : Map). type_of (l q)) second) s ∙ ap (λ (l : Map). type_of (l s)) first

-- and to the same moments up to the first one
pub moments_again : (since between : Difference) (first second : ℕ) (a b c d e : Trail) → first ≤ second → length b.changes.items ≡ second → length c.changes.items ≡ first → GoesBack a b → GoesBack b c → Goes between c d → Goes since d e → KeepsMoments first a e
moments_again since between first second a b c d e less one two back further made again n within =
    again.moments n (omega (arith, within, two, made.longer)) ∙ made.moments n (omega (arith, within, two)) ∙ further.moments n (omega (arith, within, two)) ∙ back.moments n (omega (arith, within, less, one))

pub within_again : (since between : Difference) (first : ℕ) (c d e : Trail) → length c.changes.items ≡ first → Goes between c d → Goes since d e → first ≤ length e.changes.items
within_again since between first c d e two made again = omega (arith, two, made.longer, again.longer)

-- what was made between two moments
pub between_them : (d : Difference) (first second : ℕ) (a b c : Trail) → first ≤ second → length b.changes.items ≡ second → GoesBack a b → map_of b ≡ map_at second a → map_of c ≡ map_at first b → over d (map_of c) ≡ map_of b →
    over d (map_at first a) ≡ map_at second a
between_them d first second a b c less one back here there made =
    ap (over d) (sym (back.moments first (omega (arith, less, one))) ∙ sym there) ∙ made ∙ here

-- a slot that never had a fact still never had one
pub new_again : (s : Slot) (since between : Difference) (a b c d e : Trail) → ((q : Slot) → IsNew q a → Leaves q since) → GoesBack a b → ((q : Slot) → IsNew q b → Leaves q between) → GoesBack b c → Goes between c d → Goes since d e → IsNew s a → IsNew s e
new_again s since between a b c d e leaves back stays further made again fresh =
    again.fresh s (leaves s fresh) (made.fresh s (stays s (back.fresh s fresh)) (further.fresh s (back.fresh s fresh)))
