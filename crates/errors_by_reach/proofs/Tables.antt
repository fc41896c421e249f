-- What agrees where a module reaches reaches the same, and has the same table.
use Rattle.std.proofs.Common.{◌≡◌, Option, Some, None, sym}
use Rattle.check_values.specs.Rows.{Bytes}
use Rattle.check_values.specs.declared.signatures.Deps.{Deps}
use Rattle.check_values.specs.declared.signatures.Sig.{Sig}
use Rattle.module_errors.specs.merged_signatures.specs.Reach.{Reach, by_specifier, by_signature}
use Rattle.errors_by_reach.specs.Seen.{Sigs, IsTable}
use Rattle.errors_by_reach.specs.Law.{Agree}

there : (sigs others : Sigs) (deps : Deps) → Agree sigs deps others → (p : Bytes) → Reach sigs deps p → Reach others deps p
there sigs others deps agree _ (by_specifier spec p e) = by_specifier spec p e
there sigs others deps agree _ (by_signature p q s r e c) =
    by_signature p q s (there sigs others deps agree p r) (rw (agree p r) e) c

back : (sigs others : Sigs) (deps : Deps) → Agree sigs deps others → (p : Bytes) → Reach others deps p → Reach sigs deps p
back sigs others deps agree _ (by_specifier spec p e) = by_specifier spec p e
back sigs others deps agree _ (by_signature p q s r e c) =
    let h : Reach sigs deps p = back sigs others deps agree p r in by_signature p q s h (rw (sym (agree p h)) e) c

-- they agree with one another
pub agree_back : (sigs others : Sigs) (deps : Deps) → Agree sigs deps others → Agree others deps sigs
agree_back sigs others deps agree p reach = sym (agree p (back sigs others deps agree p reach))

pub same_table : (sigs others table : Sigs) (deps : Deps) → Agree sigs deps others → IsTable sigs deps table → IsTable others deps table
same_table sigs others table deps agree t = record {
  has = λ p r. let h : Reach sigs deps p = back sigs others deps agree p r in rw (agree p h) (t.has p h);
  only = λ p s e. there sigs others deps agree p (t.only p s e);
}

at_path : (sigs a b : Sigs) (deps : Deps) → IsTable sigs deps a → IsTable sigs deps b → (p : Bytes) (x y : Option Sig) → a p ≡ x → b p ≡ y → a p ≡ b p
at_path sigs a b deps t u p (Some s) y e f = let r = t.only p s e in rw (u.has p r) (t.has p r)
at_path sigs a b deps t u p None (Some s) e f = let r = u.only p s f in rw (u.has p r) (t.has p r)
at_path sigs a b deps t u p None None e f = rw e (sym f)

pub one_table : (sigs a b : Sigs) (deps : Deps) → IsTable sigs deps a → IsTable sigs deps b → a ≡ b
one_table sigs a b deps t u = λ i p. at_path sigs a b deps t u p (a p) (b p) (λ _. a p) (λ _. b p) i
