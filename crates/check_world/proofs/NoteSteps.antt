-- What is asked and noted, step by step.
use Rattle.std.proofs.Common.{◌≡◌, ℕ, Bool, true, false, List, [], ◌∷◌, ◌++◌, Option, Some, None, cond, refl, sym, ap, ◌∙◌, subst}
use Rattle.check_values.specs.declared.faults.Fault.{Fault}
use Rattle.type_values.specs.declared.types.FlowType.{FlowType}
use Rattle.local_signatures.specs.Faults.{span_over}
use Rattle.check_values.specs.declared.codes.Code.TheVariants.{IncompatibleType}
use Rattle.typing.specs.States.{World, Notes, Seen, add_fault, add_faults, fault_at, two_types, asked, noted, watched_with, covers, is_shorter}
use Rattle.check_world.specs.View.{is_innermost}

-- what cannot be reached is not asked
pub asked_stopped : (w : World) (f t : ℕ) (want ty : FlowType) (notes : Notes) → notes.stopped ≡ true → notes ≡ asked w f t want ty notes
asked_stopped w f t want ty notes stopped = go (w.below ty want) notes.stopped stopped
  where
    go : (a b : Bool) → b ≡ true → notes ≡ cond a notes (cond b notes (record notes { faults = (add_fault (fault_at w f t IncompatibleType (two_types ty want)) (record notes { stopped = false })).faults }))
    go true b e = refl
    go false true e = refl
    go false false e = absurd (cc)

watched_is : (watch : Option ℕ) (seen : Seen) (before : Option Seen) → watched_with watch seen before ≡ cond (is_innermost watch seen.span before) (Some seen) before
watched_is None seen before = refl
watched_is (Some place) seen before = refl

-- what is not the innermost expression is not noted
pub noted_not : (w : World) (f t : ℕ) (ty : FlowType) (notes : Notes) → is_innermost w.watch (span_over w.spans f t) notes.watched ≡ false → notes ≡ noted w f t ty notes
noted_not w f t ty notes e =
    go notes.stopped ∙ ap (λ (seen : Option Seen). cond notes.stopped notes (record notes { watched = seen }))
    (ap (λ (b : Bool). cond b (Some (record { span = span_over w.spans f t; ty = ty })) notes.watched) (sym e) ∙ sym (watched_is w.watch (record { span = span_over w.spans f t; ty = ty }) notes.watched))
  where
    go : (b : Bool) → notes ≡ cond b notes (record notes { watched = notes.watched })
    go true = refl
    go false = refl

-- the innermost one is
pub noted_new : (w : World) (f t : ℕ) (ty : FlowType) (notes : Notes) → notes.stopped ≡ false → is_innermost w.watch (span_over w.spans f t) notes.watched ≡ true →
    record notes { watched = Some (record { span = span_over w.spans f t; ty = ty }) } ≡ noted w f t ty notes
noted_new w f t ty notes reached e =
    ap (λ (seen : Option Seen). record notes { watched = seen })
    (ap (λ (b : Bool). cond b (Some (record { span = span_over w.spans f t; ty = ty })) notes.watched) (sym e) ∙ sym (watched_is w.watch (record { span = span_over w.spans f t; ty = ty }) notes.watched))
    ∙ go notes.stopped reached
  where
    go : (b : Bool) → b ≡ false → record notes { watched = watched_with w.watch (record { span = span_over w.spans f t; ty = ty }) notes.watched } ≡ cond b notes (record notes { watched = watched_with w.watch (record { span = span_over w.spans f t; ty = ty }) notes.watched })
    go true e = absurd (cc)
    go false e = refl

-- one fault more
pub faults_more : (faults : List Fault) (fault : Fault) (first before after : Notes) → before ≡ add_faults faults first → after ≡ add_fault fault before → after ≡ add_faults (faults ++ fault ∷ []) first
faults_more faults fault first before after so_far made = made ∙ ap (add_fault fault) so_far ∙ go faults first
  where
    go : (l : List Fault) (n : Notes) → add_fault fault (add_faults l n) ≡ add_faults (l ++ fault ∷ []) n
    go [] n = refl
    go (f ∷ l) n = go l (add_fault f n)
