-- Copies of facts, and joining with others place by place.
use Rattle.std.proofs.Common.{◌≡◌, ℕ, Bool, true, false, List, [], Some, None, refl, sym, ap, ◌∙◌, subst, if◌then◌else◌}
use Rattle.std.specs.Option.{is_some}
use Rattle.fact_trail.specs.declared.slot.Slot.TheVariants.{Variable, Property}
use Rattle.fact_trail.specs.declared.slot.Key.{Key}
use Rattle.fact_trail.specs.Moments.{map_of}
use Rattle.flow_facts.specs.Known.{Map, Known, no_facts, both, joined, variable_place, property_place}
use Rattle.refine_flow.specs.declared.facts.Facts.{Facts}
use Rattle.refine_flow.specs.declared.facts.Mark.{Mark}
use Rattle.refine_flow.specs.declared.whole.Row.{Row}
use Rattle.refine_flow.specs.Numbers.{name_of}
use Rattle.refine_flow.specs.Whole.{told, is_listed, AreTrue, AddsTrue}
use Rattle.refine_flow.specs.Standing.{shown, known, IsLast, KeepsMarksUpTo, SpendsMark}
use Rattle.refine_flow.proofs.Growing.{some_same}
use Rattle.refine_flow.proofs.MarkLemmas.{grows_twice, keeps_mark_twice}
use Rattle.refine_flow.proofs.Listing.{told_all, unlisted_none}
use Rattle.refine_flow.proofs.Turning.{last_of}

-- ---- facts that are known to be live

pub live_of : (f : Facts) (m : Map) → known f ≡ Some m → (f.dead ≡ false) × (shown f ≡ m)
live_of f m is = at f.dead refl is
  where
    at : (b : Bool) → f.dead ≡ b → (if b then None else Some (shown f)) ≡ Some m → (f.dead ≡ false) × (shown f ≡ m)
    at true dead both = cc
    at false dead both = (dead, some_same (shown f) m both)

pub known_by : (f : Facts) (b : Bool) → f.dead ≡ b → known f ≡ (if b then None else Some (shown f))
known_by f b is = λ i. if is i then None else Some (shown f)

-- ---- rows

-- all variables and properties with facts are listed
pub all_rows : (f : Facts) (none variables all : List Row) → none ≡ [] → AddsTrue (shown f) none variables → ((b : ℕ) → is_some (map_of f.trail (Variable b)) ≡ true → is_listed variables (variable_place b) ≡ true) → AddsTrue (shown f) variables all →
    ((k : Key) (x : List ℕ) → name_of f.names k.name ≡ Some x → is_some (map_of f.trail (Property k)) ≡ true → is_listed all (property_place k.binding x) ≡ true) → told all no_facts ≡ shown f
all_rows f none variables all empty first has second have =
    told_all (shown f) all (second.0 (first.0 (subst (AreTrue (shown f)) (sym empty) tt))) (unlisted_none f all (λ b there. second.1 (variable_place b) (has b there)) have)

pub all_true : (f : Facts) (none variables all : List Row) → none ≡ [] → AddsTrue (shown f) none variables → AddsTrue (shown f) variables all → AreTrue (shown f) all
all_true f none variables all empty first second = second.0 (first.0 (subst (AreTrue (shown f)) (sym empty) tt))

-- ---- copies

-- facts that are set row by row where there were none
pub copied : (self first set new : Facts) (rows : List Row) → known first ≡ Some no_facts → told rows no_facts ≡ shown self → shown set ≡ told rows (shown first) → known new ≡ (if self.dead then None else Some (shown set)) → known new ≡ known self
copied self first set new rows none tells took settled = settled ∙ ap (λ (m : Map). if self.dead then None else Some m) (took ∙ ap (told rows) (live_of first no_facts none).1 ∙ tells)

-- ---- joining

-- dead facts leave the others
pub joined_dead : (f other : Facts) → other.dead ≡ true → known f ≡ joined (known f) (known other)
joined_dead f other dead = at (known f) ∙ ap (joined (known f)) (sym (known_by other true dead))
  where
    at : (k : Known) → k ≡ joined k None
    at None = refl
    at (Some m) = refl

-- ---- going back

-- the last mark stays the last one
pub last_stays : (mark : Mark) (old mid : Facts) → IsLast mark old → KeepsMarksUpTo mark old mid → IsLast mark mid
last_stays mark old mid last kept = let is = last_of mark old last in (last.0 ∙ sym kept.count, (kept.each mark is.0 is.1).0.1)

-- and is spent, after those up to it stayed
pub spent_then : (mark : Mark) (a b c : Facts) → KeepsMarksUpTo mark a b → SpendsMark mark b c → SpendsMark mark a c
spent_then mark a b c kept spent = record {
  count = spent.count;
  names = grows_twice a.names b.names c.names kept.names spent.names;
  each = λ m is up earlier. let once = kept.each m is up in keeps_mark_twice a b c m once (spent.each m once.0 up earlier);
}
