-- The signatures of a group are put into their slots.
use Rattle.std.proofs.Common.{◌≡◌, ◌≢◌, ℕ, ◌<◌, true, false, List, [], ◌∷◌, ◌++◌, All, map, length, set, slice_get, Option, Some, sym, ap, ◌∙◌, subst, arith, length-set}
use Rattle.std.specs.Prelude.{option_to_list}
use Rattle.std.specs.Option.{option_map}
use Rattle.std.specs.List.{AllZip, flat_map}
use mathlib.Core.Logic.{dite}
use native.Mathlib.Decide.{ℕ_discrete}
use Rattle.heap_core.specs.Meaning.{names}
use Rattle.heap_core.proofs.Names.{names-skip, names-first, names-later}
use Rattle.heap_core.proofs.Lists.{put_here, put_else}
use Rattle.flow_base.specs.Program.{Bytes}
use Rattle.check_values.specs.declared.signatures.Sig.{Sig}
use Rattle.merged_signatures.specs.Chains.{Known}
use Rattle.merged_signatures.specs.Merged.{merged, merged_known}
use Rattle.merged_signatures.specs.Job.{job_signatures}
use Rattle.merged_signatures.specs.Settled.{AJobTellsTheProgram}
use Rattle.check_phases.specs.Sourced.{paths_in, view_in, AreSources}
use Rattle.check_phases.specs.Merging.{IsMade, AreRight, member_at, put_all, HasMerged}
use Rattle.check_phases.specs.declared.merging.Sources.{Sources}
use Rattle.check_phases.proofs.Lists.{one_value, within_there, zip_length}
use Rattle.check_phases.proofs.Waves.{length_put, named_has}
use Rattle.recheck_merging.specs.Merging.{job_by, IsReady, IsSigAt}
use Rattle.recheck_merging.proofs.Imported.{here}
use Rattle.recheck_merging.proofs.Jobs.{job_right}
use Rattle.recheck_merging.proofs.Mapped.{all_has}

set_keeps : (made : List (Option Sig)) (x y : ℕ) (sig : Sig) → IsMade made y → IsMade (set made x (Some sig)) y
set_keeps made x y sig is = dite (ℕ_discrete y x)
    (λ (same : y ≡ x). (sig, ap (slice_get (set made x (Some sig))) same ∙ put_here made x (Some sig) (subst (λ (k : ℕ). k < length made) same (within_there made y (Some is.0) is.1))))
    (λ (ne : y ≢ x). (is.0, put_else made x y (Some sig) ne ∙ is.1))

put_keeps : (group : List ℕ) (sigs : List Sig) (made : List (Option Sig)) (y : ℕ) → IsMade made y → IsMade (put_all group sigs made) y
put_keeps [] sigs made y is = is
put_keeps (x ∷ group) [] made y is = is
put_keeps (x ∷ group) (sig ∷ sigs) made y is = put_keeps group sigs (set made x (Some sig)) y (set_keeps made x y sig is)

put_made : (group : List ℕ) (sigs : List Sig) (made : List (Option Sig)) (y : ℕ) → length sigs ≡ length group → y < length made → names group y ≡ true → IsMade (put_all group sigs made) y
put_made [] sigs made y many low is = absurd (let z : false ≡ true = is in cc)
put_made (x ∷ group) [] made y many low is = absurd (omega (arith, many))
put_made (x ∷ group) (sig ∷ sigs) made y many low is = dite (ℕ_discrete y x)
    (λ (same : y ≡ x). put_keeps group sigs (set made x (Some sig)) y (sig, ap (slice_get (set made x (Some sig))) same ∙ put_here made x (Some sig) (subst (λ (k : ℕ). k < length made) same low)))
    (λ (ne : y ≢ x). put_made group sigs (set made x (Some sig)) y (omega (arith, many)) (let l = length-set made x (Some sig) in omega arith) (names-skip x group y ne is))

module _ (s : Sources) where
  abbrev Each : List (Option Sig) → Type 0
  Each made = (x : ℕ) (path : Bytes) (sig : Sig) → slice_get (paths_in s) x ≡ Some path → slice_get made x ≡ Some (Some sig) → merged (view_in s) path ≡ Some sig

  set_right : (made : List (Option Sig)) (x : ℕ) (sig : Sig) → IsSigAt s x sig → Each made → Each (set made x (Some sig))
  set_right made x sig is each y path mine at there = dite (ℕ_discrete y x)
      (λ (same : y ≡ x).
      let low : x < length made = (let l = length-set made x (Some sig) in let b = within_there (set made x (Some sig)) y (Some mine) there in omega arith) in
      let stands : Some (Some sig) ≡ Some (Some mine) = sym (put_here made x (Some sig) low) ∙ (ap (slice_get (set made x (Some sig))) (sym same) ∙ there) in
      let eq : sig ≡ mine = one_value sig mine (one_value (Some sig) (Some mine) stands) in
      is path (ap (slice_get (paths_in s)) (sym same) ∙ at) ∙ ap Some eq)
      (λ (ne : y ≢ x). each y path mine at (sym (put_else made x y (Some sig) ne) ∙ there))

  put_right : (group : List ℕ) (sigs : List Sig) (made : List (Option Sig)) → AllZip (IsSigAt s) group sigs → Each made → Each (put_all group sigs made)
  put_right [] sigs made zip each = each
  put_right (x ∷ group) [] made zip each = each
  put_right (x ∷ group) (sig ∷ sigs) made zip each = put_right group sigs (set made x (Some sig)) zip.1 (set_right made x sig zip.0 each)

  sigs_right : AreSources s → (group : List ℕ) → ((x : ℕ) → names group x ≡ true → x < length s.root.modules)
      → AllZip (IsSigAt s) group (map (λ (row : Bytes × Known). merged_known (view_in s) row.0 row.1) (flat_map (member_at s) group))
  sigs_right sources [] low = tt
  sigs_right sources (x ∷ group) low =
      let h = here s sources x (low x (names-first x group)) in
      let rest = sigs_right sources group (λ y named. low y (names-later x group y named)) in
      subst (λ (o : Option (Bytes × Known)). AllZip (IsSigAt s) (x ∷ group) (map (λ (row : Bytes × Known). merged_known (view_in s) row.0 row.1) (option_to_list o ++ flat_map (member_at s) group))) (sym h.at_known) (
        (λ path at.
            let same : h.row.path ≡ path = one_value h.row.path path (sym h.at_path ∙ at) in
            ap (merged (view_in s)) (sym same) ∙ ap (λ (o : Option Known). option_map (merged_known (view_in s) h.row.path) o) h.seen),
        rest,
      )

-- the signatures that the job of a group tells
pub job_signed : AJobTellsTheProgram → (s : Sources) (made : List (Option Sig)) (group : List ℕ) (edges : List (List ℕ)) → AreSources s → AreRight s made → IsReady s group edges made → AllZip (IsSigAt s) group (job_signatures (job_by s made group edges))
job_signed tells s made group edges sources right ready =
    subst (λ (l : List Sig). AllZip (IsSigAt s) group l) (sym (job_right tells s made group edges sources right ready)) (sigs_right s sources group ready.within)

pub has_merged : (s : Sources) (group : List ℕ) (made new : List (Option Sig)) (sigs : List Sig) → AreRight s made → All (λ x. x < length s.root.modules) group → AllZip (IsSigAt s) group sigs → new ≡ put_all group sigs made
    → HasMerged s group made new
has_merged s group made new sigs right within zip put =
    let many : length sigs ≡ length group = zip_length (IsSigAt s) group sigs zip in
    subst (λ (m : List (Option Sig)). HasMerged s group made m) (sym put) (record {
      right = record { many = length_put group sigs made ∙ right.many; each = put_right s group sigs made zip right.each };
      keeps = λ x made_x. put_keeps group sigs made x made_x;
      made = λ x named. put_made group sigs made x many (let low = all_has (λ (y : ℕ). y < length s.root.modules) group within x (named_has group x named) in let r = right.many in omega arith) named;
    })
