-- What is said of slots, taken out.
use Rattle.std.proofs.Common.{◌≡◌, ◌<◌, ℕ, ◌≤◌, Bool, true, false, Option, Some, None, length, refl, sym, ap, ◌∙◌, if◌then◌else◌}
use Rattle.std.specs.Map.{lookup}
use Rattle.std.specs.Option.{is_some}
use Rattle.std.specs.Ordering.{nat_cmp}
use Rattle.std.specs.BTreeMap.{get, is_at, Updates, btree_map_len}
use Rattle.fact_trail.specs.declared.fact.Fact.{Fact}
use Rattle.fact_trail.specs.declared.trail.Trail.{Trail}
use Rattle.fact_trail.specs.declared.slot.Slot.TheVariants.{Variable, Property}
use Rattle.fact_trail.specs.declared.slot.Key.{Key}
use Rattle.fact_trail.specs.declared.slot.Slot.{Slot}
use Rattle.fact_trail.specs.Slots.{Map, key_cmp, at_slot, is_slot}
use Rattle.fact_trail.specs.Moments.{map_of, KeepsMoments, IsNew}
use Rattle.fact_trail.proofs.Same.{same_slot}
use Rattle.fact_arms.specs.declared.difference.Difference.{Difference}
use Rattle.fact_arms.specs.Differences.{said_else, said_of, is_gone, over, Leaves, Goes}
use Rattle.fact_arms.proofs.Over.{nothing_said, no_entries, wrong}
use Rattle.fact_arms.proofs.Making.{said_goes, goes_then}

-- ---- one row

pub popped_variable_row : (old new : Difference) (b : ℕ) → Updates nat_cmp old.variables new.variables b None → new.properties ≡ old.properties → (s : Slot) → said_of new s ≡ (if is_slot (Variable b) s then None else said_of old s)
popped_variable_row old new b updates others (Variable c) = updates.0 c
popped_variable_row old new b updates others (Property k) = ap (λ rows. get key_cmp rows k) others

pub popped_key_row : (old new : Difference) (k : Key) → Updates key_cmp old.properties new.properties k None → new.variables.entries ≡ old.variables.entries → (s : Slot) → said_of new s ≡ (if is_slot (Property k) s then None else said_of old s)
popped_key_row old new k updates others (Variable c) = ap (λ entries. lookup (is_at (nat_cmp c)) entries) others
popped_key_row old new k updates others (Property q) = updates.0 q

pub taken_key_row : (old new : Difference) (k : Key) → Updates key_cmp old.properties new.properties k None → new.variables ≡ old.variables → (s : Slot) → said_of new s ≡ (if is_slot (Property k) s then None else said_of old s)
taken_key_row old new k updates others = popped_key_row old new k updates (ap (λ rows. rows.entries) others)

-- the same of a slot that is this one
pub took_at : (old new : Difference) (slot t : Slot) → slot ≡ t → ((s : Slot) → said_of new s ≡ (if is_slot t s then None else said_of old s)) → (s : Slot) → said_of new s ≡ (if is_slot slot s then None else said_of old s)
took_at old new slot t here says s = says s ∙ ap (λ (q : Slot). if is_slot q s then None else said_of old s) (sym here)

-- no row is left
pub none_left : (d : Difference) → (0 < btree_map_len d.variables → false ≡ true) → (0 < btree_map_len d.properties → false ≡ true) → (s : Slot) → said_of d s ≡ None
none_left d variables properties = nothing_said d (no_entries d.variables (λ more. wrong (variables more))) (no_entries d.properties (λ more. wrong (properties more)))

-- ---- rows that move to a trail

-- Some of what a difference says was made, and the rest is left.
pub record Moved (d : Difference) (old : Trail) (rest : Difference) (new : Trail) : Type 0 where
  pub made : (s : Slot) → said_else (said_of rest s) (map_of new s) ≡ over d (map_of old) s
  pub goes : Goes d old new
  pub leaves : (s : Slot) → Leaves s d → Leaves s rest

pub moved_first : (d : Difference) (old new : Trail) → ((s : Slot) → map_of new s ≡ (if is_gone d s then None else map_of old s)) → Goes d old new → Moved d old d new
moved_first d old new gone goes = record {
  made = λ s. ap (said_else (said_of d s)) (gone s);
  goes = goes;
  leaves = λ s leaves. leaves;
}

-- what is left without a fact is left so
goes_left : (d rest : Difference) (old new : Trail) → ((s : Slot) → Leaves s d → Leaves s rest) → Goes rest old new → Goes d old new
goes_left d rest old new leaves goes = record {
  longer = goes.longer;
  moments = goes.moments;
  fresh = λ s left was. goes.fresh s (leaves s left) was;
}

-- a row that is given to the trail
pub moved_goes : (d : Difference) (old : Trail) (rest : Difference) (mid new : Trail) (slot : Slot) (fact : Option Fact) → Moved d old rest mid → said_of rest slot ≡ Some fact → length mid.changes.items ≤ length new.changes.items → KeepsMoments (length mid.changes.items) mid new →
    ((s : Slot) → (is_slot slot s ≡ true → is_some fact ≡ false) → IsNew s mid → IsNew s new) → Goes d old new
moved_goes d old rest mid new slot fact before was longer moments fresh = goes_then d old mid new before.goes (goes_left d rest mid new before.leaves (said_goes rest slot fact mid new was longer moments fresh))

-- one row more
pub moved_more : (d : Difference) (old : Trail) (rest less : Difference) (mid new : Trail) (slot : Slot) (fact : Option Fact) → Moved d old rest mid → said_of rest slot ≡ Some fact →
    ((s : Slot) → said_of less s ≡ (if is_slot slot s then None else said_of rest s)) → map_of new ≡ at_slot slot fact (map_of mid) → Goes d old new → Moved d old less new
moved_more d old rest less mid new slot fact before was says made goes = record {
  made = λ s. at s (is_slot slot s) refl;
  goes = goes;
  leaves = λ s leaves. left (is_slot slot s) (said_of rest s) (before.leaves s leaves) (says s);
}
  where
    at : (s : Slot) (t : Bool) → is_slot slot s ≡ t → said_else (said_of less s) (map_of new s) ≡ over d (map_of old) s
    at s true same =
        (λ i. said_else ((says s ∙ ap (λ t. if t then None else said_of rest s) same) i) ((ap (λ (m : Map). m s) made ∙ ap (λ t. if t then fact else map_of mid s) same) i))
        ∙ ap (λ o. said_else o (map_of mid s)) (sym was ∙ ap (said_of rest) (same_slot slot s same)) ∙ before.made s
    at s false other =
        (λ i. said_else ((says s ∙ ap (λ t. if t then None else said_of rest s) other) i) ((ap (λ (m : Map). m s) made ∙ ap (λ t. if t then fact else map_of mid s) other) i))
        ∙ before.made s

    left : (t : Bool) (o : Option (Option Fact)) → said_else o None ≡ None → {n : Option (Option Fact)} → n ≡ (if t then None else o) → said_else n None ≡ None
    left true o none is = ap (λ x. said_else x None) is
    left false o none is = ap (λ x. said_else x None) is ∙ none

-- all rows
pub moved_all : (d : Difference) (old : Trail) (rest : Difference) (new : Trail) → Moved d old rest new → ((s : Slot) → said_of rest s ≡ None) → (s : Slot) → map_of new s ≡ over d (map_of old) s
moved_all d old rest new moved none s = ap (λ o. said_else o (map_of new s)) (sym (none s)) ∙ moved.made s
