-- Changes that are taken off a trail.
use Rattle.std.proofs.Common.{◌≡◌, ◌≤◌, ◌<◌, ◌+◌, ℕ, Bool, true, false, [], drop, Option, Some, None, MatchOption, length, Result, Ok, Err, OnOk, refl, sym, ap, ◌∙◌, if◌then◌else◌, arith}
use Rattle.std.specs.Prelude.{⊤}
use Rattle.std.specs.Option.{is_some}
use Rattle.fact_trail.specs.declared.trail.Trail.{Trail}
use Rattle.fact_trail.specs.declared.trail.Change.{Change}
use Rattle.fact_trail.specs.declared.slot.Slot.{Slot}
use Rattle.fact_trail.specs.Slots.{Map}
use Rattle.fact_trail.specs.Moments.{map_of, map_at, undone, before, KeepsMoments, IsNew, IsQuiet, IsSame}
use Rattle.fact_trail.proofs.Changes.{map_at_end, new_same}
use Rattle.fact_arms.specs.declared.difference.Difference.{Difference}
use Rattle.fact_arms.specs.Differences.{said_else, said_of, is_gone, over, before_last, Leaves, GoesBack, TakesLast}

pub goes_itself : (t : Trail) → GoesBack t t
goes_itself t = record {
  shorter = omega arith;
  moments = λ n within. refl;
  fresh = λ s new. new;
}

pub goes_same : (old new : Trail) → IsSame old new → GoesBack old new
goes_same old new same = record {
  shorter = omega (arith, ap length same.1);
  moments = λ n within. λ i. undone (drop n (same.1 i)) (same.0 i);
  fresh = λ s fresh. new_same old new s same fresh;
}

pub goes_then : (a b c : Trail) → GoesBack a b → GoesBack b c → GoesBack a c
goes_then a b c first second = record {
  shorter = omega (arith, first.shorter, second.shorter);
  moments = λ n within. second.moments n within ∙ first.moments n (omega (arith, within, second.shorter));
  fresh = λ s new. second.fresh s (first.fresh s new);
}

-- what is made of a slot that has no fact
pub over_none : (d : Difference) (s : Slot) (m : Map) → m s ≡ None → over d m s ≡ said_else (said_of d s) None
over_none d s m none = ap (said_else (said_of d s)) (at (is_gone d s))
  where
    at : (b : Bool) → (if b then None else m s) ≡ None
    at true = refl
    at false = none

-- a change taken back and put before what is said
pub took_last : (old new : Difference) (t t' : Trail) (change : Change) → ((m : Map) → over new m ≡ over old (before change m)) → map_of t ≡ before change (map_of t') → length t.changes.items ≡ length t'.changes.items + 1 →
    ((s : Slot) → IsNew s t → IsQuiet s change) → TakesLast old new t t'
took_last old new t t' change says after one quiet = record {
  made = says (map_of t') ∙ ap (over old) (sym after);
  one = one;
  leaves = λ s new' leaves. sym (over_none new s (λ q. None) refl) ∙ ap (λ (l : Map). l s) (says (λ q. None)) ∙ over_none old s (before change (λ q. None)) (quiet s new' (λ q. None) refl) ∙ leaves;
}

-- where nothing is said, the facts stay
pub over_nothing : (d : Difference) → ((s : Slot) → said_of d s ≡ None) → ((s : Slot) → is_gone d s ≡ false) → (m : Map) → over d m ≡ m
over_nothing d nothing stood m = λ i s. said_else (nothing s i) (if stood s i then None else m s)

pub leaves_nothing : (d : Difference) (s : Slot) → ((q : Slot) → said_of d q ≡ None) → Leaves s d
leaves_nothing d s nothing = ap (λ o. said_else o None) (nothing s)

-- the facts of a moment, where the changes after it are taken back
pub back_at : (old new : Trail) (n : ℕ) → GoesBack old new → length new.changes.items ≤ n → n ≤ length new.changes.items → map_of new ≡ map_at n old
back_at old new n goes few within = sym (map_at_end new.changes.items n (map_of new) few) ∙ goes.moments n within

pub same_length : (n k : ℕ) → (n < k → ⊥) → n ≤ k → k ≡ n
same_length n k few within = omega (arith, few, within)

-- the same, whatever the result
pub took_change : {T E : Type 0} (r : Result T E) (old new : Difference) (t t' : Trail) (change : Change) → OnOk r ((m : Map) → over new m ≡ over old (before change m)) → map_of t ≡ before change (map_of t') →
    length t.changes.items ≡ length t'.changes.items + 1 → ((s : Slot) → IsNew s t → IsQuiet s change) → OnOk r (TakesLast old new t t')
took_change (Ok x) old new t t' change says after one quiet = took_last old new t t' change says after one quiet
took_change (Err x) old new t t' change says after one quiet = tt

-- ---- the last change

pub last_some : {T E : Type 0} (r : Result T E) (old new : Difference) (o : Option Change) (change : Change) → o ≡ Some change → OnOk r ((m : Map) → over new m ≡ over old (before change m)) → OnOk r ((m : Map) → over new m ≡ over old (before_last o m))
last_some (Ok x) old new o change is says = λ m. says m ∙ (λ i. over old (before_last (sym is i) m))
last_some (Err x) old new o change is says = tt

-- the same of a change that is this one
pub change_some : {T E : Type 0} (r : Result T E) (old new : Difference) (change e : Change) → change ≡ e → OnOk r ((m : Map) → over new m ≡ over old (before e m)) → OnOk r ((m : Map) → over new m ≡ over old (before change m))
change_some (Ok x) old new change e is says = λ m. says m ∙ (λ i. over old (before (sym is i) m))
change_some (Err x) old new change e is says = tt

-- there was one, which was taken back
pub took_one : {T E : Type 0} (r : Result T E) (old new : Difference) (t t' : Trail) (o : Option Change) → 0 < length t.changes.items → OnOk r ((m : Map) → over new m ≡ over old (before_last o m)) →
    MatchOption o (t.changes.items ≡ []) (λ change. map_of t ≡ before change (map_of t')) → length t.changes.items ≡ length t'.changes.items + (if is_some o then 1 else 0) → ((s : Slot) → IsNew s t → MatchOption o ⊤ (λ change. IsQuiet s change)) →
    OnOk r (TakesLast old new t t')
took_one r old new t t' (Some change) more says after one quiet = took_change r old new t t' change says after one quiet
took_one r old new t t' None more says after one quiet = absurd (let none = ap length after in omega (arith, more, none))

pub goes_last : (t t' : Trail) (o : Option Change) → length t.changes.items ≡ length t'.changes.items + (if is_some o then 1 else 0) → KeepsMoments (length t'.changes.items) t t' → ((s : Slot) → IsNew s t → IsNew s t') → GoesBack t t'
goes_last t t' (Some change) one moments fresh = record { shorter = omega (arith, one); moments = moments; fresh = fresh }
goes_last t t' None one moments fresh = record { shorter = omega (arith, one); moments = moments; fresh = fresh }

pub one_last : (t t' : Trail) (o : Option Change) → length t.changes.items ≡ length t'.changes.items + (if is_some o then 1 else 0) → length t.changes.items ≤ length t'.changes.items + 1
one_last t t' (Some change) one = omega (arith, one)
one_last t t' None one = omega (arith, one)

pub one_same : (t t' : Trail) → IsSame t t' → length t.changes.items ≤ length t'.changes.items + 1
one_same t t' same = let lengths = ap length same.1 in omega (arith, lengths)

-- where there was a change, one was taken back
pub one_back : (t t' : Trail) (o : Option Change) → 0 < length t.changes.items → MatchOption o (t.changes.items ≡ []) (λ change. map_of t ≡ before change (map_of t')) → length t.changes.items ≡ length t'.changes.items + (if is_some o then 1 else 0) →
    length t.changes.items ≡ length t'.changes.items + 1
one_back t t' (Some change) more after one = one
one_back t t' None more after one = absurd (let none = ap length after in omega (arith, more, none))
