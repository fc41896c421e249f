-- The components of a wave are merged by their jobs.
use Rattle.std.proofs.Common.{◌≡◌, ℕ, zero, suc, ◌<◌, List, [], ◌∷◌, ◌++◌, map, length, get_or, slice_get, sum_by, Option, Some, None, refl, sym, ap, ◌∙◌, subst, arith}
use Rattle.std.proofs.lemmas.List.Sums.{sum_by-cons}
use Rattle.std.specs.List.{AllZip}
use Rattle.check_values.specs.declared.signatures.Sig.{Sig}
use Rattle.job_ends.specs.Jobs.{job_view}
use Rattle.job_ends.specs.declared.job.MergeJob.{MergeJob}
use Rattle.merged_signatures.specs.Job.{Job, job_signatures}
use Rattle.merged_signatures.specs.Settled.{AJobTellsTheProgram}
use Rattle.asked_exports.specs.Asked.{asked_job}
use Rattle.asked_exports.specs.Enough.{AskedJobsTellTheSame}
use Rattle.check_phases.specs.Sourced.{AreSources}
use Rattle.check_phases.specs.Merging.{AreRight, HasMerged, put_all}
use Rattle.check_phases.specs.declared.merging.Sources.{Sources}
use Rattle.check_phases.proofs.Lists.{one_value, place_at, value_at, zip_length}
use Rattle.recheck_merging.specs.Plans.{IsPlan, numbers_at, edges_at, size_of, members_of}
use Rattle.recheck_merging.specs.Merging.{job_by, whole_job_in, job_in, members_at, IsSigAt, AreSigsOf, AreMergedTo}
use Rattle.recheck_merging.specs.declared.planning.MergePlan.{MergePlan}
use Rattle.recheck_merging.proofs.Groups.{waved, ready_now, places_low}
use Rattle.recheck_merging.proofs.Mapped.{length_mapped}
use Rattle.recheck_merging.proofs.Outside.{group_within}
use Rattle.recheck_merging.proofs.Puts.{job_signed, has_merged}

-- ---- one component, as the code has it

pub job_here : (s : Sources) (p : MergePlan) (k : ℕ) (slots : List (Option Sig)) (places group : List ℕ) (job own : Job) → slice_get p.components k ≡ Some places → group ≡ numbers_at p.merged places
    → job ≡ job_by s slots group (edges_at p.edges.items places) → own ≡ asked_job job → own ≡ job_in s p slots k
job_here s p k slots places group job own at is_group is asks =
    let same : places ≡ get_or p.components k [] = value_at p.components k places [] at in
    asks ∙ ap asked_job (is ∙ (λ i. job_by s slots ((is_group ∙ ap (numbers_at p.merged) same) i) (edges_at p.edges.items (same i))))

pub size_here : (p : MergePlan) (k n : ℕ) (places group : List ℕ) → slice_get p.components k ≡ Some places → group ≡ numbers_at p.merged places → n ≡ length group → n ≡ size_of p k
size_here p k n places group at is_group many = many ∙ (ap length is_group ∙ (length_mapped _ places ∙ ap length (value_at p.components k places [] at)))

-- ---- all of a wave

pub map_last : {A B : Type 0} (view : A → B) (xs : List A) (x : A) → map view (xs ++ x ∷ []) ≡ map view xs ++ view x ∷ []
map_last view [] x = refl
map_last view (y ∷ xs) x = ap (λ (l : List _). view y ∷ l) (map_last view xs x)

zip_mapped : {A B : Type 0} (R : A → B → Type 0) (g : A → B) (xs : List A) → ((n : ℕ) (x : A) → slice_get xs n ≡ Some x → R x (g x)) → AllZip R xs (map g xs)
zip_mapped R g [] each = tt
zip_mapped R g (x ∷ xs) each = (each zero x refl, zip_mapped R g xs (λ n y at. each (suc n) y at))

map_twice : {A B C : Type 0} (g : B → C) (f : A → B) (xs : List A) → map (λ x. g (f x)) xs ≡ map g (map f xs)
map_twice g f [] = refl
map_twice {A} {B} {C} g f (x ∷ xs) = ap (λ (l : List C). g (f x) ∷ l) (map_twice g f xs)

-- the signatures that the jobs of some components of a wave tell
pub wave_signed : AJobTellsTheProgram → AskedJobsTellTheSame → (s : Sources) (p : MergePlan) (wave : ℕ) (some : List ℕ) (made : List (Option Sig)) (jobs : List MergeJob) (all : List (List Sig)) → AreSources s → IsPlan s p → wave < length p.waves → AreMergedTo s p wave made
    → ((n k : ℕ) → slice_get some n ≡ Some k → (i : ℕ) × (slice_get (get_or p.waves wave []) i ≡ Some k))
    → map job_view jobs ≡ map (job_in s p made) some → all ≡ map (λ (job : MergeJob). job_signatures (job_view job)) jobs → AllZip (AreSigsOf s p) some all
wave_signed tells enough s p wave some made jobs all sources plan low merged inside of_jobs told =
    subst (λ (l : List (List Sig)). AllZip (AreSigsOf s p) some l) (sym (told ∙ (map_twice job_signatures job_view jobs ∙ (ap (map job_signatures) of_jobs ∙ sym (map_twice job_signatures (job_in s p made) some)))))
    (zip_mapped (AreSigsOf s p) (λ (k : ℕ). job_signatures (job_in s p made k)) some one)
  where
    ks : List ℕ
    ks = get_or p.waves wave []

    one : (n k : ℕ) → slice_get some n ≡ Some k → AreSigsOf s p k (job_signatures (job_in s p made k))
    one n k at =
        let i = inside n k at in
        let at_wave = place_at p.waves wave [] low in
        let at_places = place_at p.components k [] ((waved s p plan).within wave k (ks, at_wave, i)) in
        let whole = job_signed tells s made (members_at p k) (edges_at p.edges.items (get_or p.components k [])) sources merged.right (ready_now s p wave i.0 k ks (get_or p.components k []) made sources plan at_wave i.1 at_places merged) in
        subst (AreSigsOf s p k) (sym (enough (whole_job_in s p made k))) whole

-- the members of all jobs
sum_mapped : {A : Type 0} (f : A → ℕ) (xs : List A) → sum_by f xs ≡ sum_by (λ n. n) (map f xs)
sum_mapped f [] = refl
sum_mapped f (x ∷ xs) = let rest = sum_mapped f xs in omega (arith, sum_by-cons f x xs, sum_by-cons (λ (n : ℕ). n) (f x) (map f xs))

pub members_summed : (p : MergePlan) (ks : List ℕ) (jobs : List MergeJob) → map (λ (job : MergeJob). length job.members) jobs ≡ map (size_of p) ks → sum_by (λ (job : MergeJob). length job.members) jobs ≡ members_of p ks
members_summed p ks jobs same = sum_mapped (λ (job : MergeJob). length job.members) jobs ∙ (ap (sum_by (λ (n : ℕ). n)) same ∙ sym (sum_mapped (size_of p) ks))

-- ---- and kept

-- each shared
pub zip_inside : {A B : Type 0} (R : ℕ → B → Type 0) (f : A → B) (ks : List ℕ) (xs : List A) → AllZip R ks (map f xs) → AllZip (λ k x. R k (f x)) ks xs
zip_inside R f [] [] zip = tt
zip_inside R f [] (x ∷ xs) zip = absurd zip
zip_inside R f (k ∷ ks) [] zip = absurd zip
zip_inside R f (k ∷ ks) (x ∷ xs) zip = (zip.0, zip_inside R f ks xs zip.1)

-- those of one component among those of all
pub zip_at : {A : Type 0} (R : ℕ → A → Type 0) (ks : List ℕ) (all : List A) (i : ℕ) (own : A) → AllZip R ks all → slice_get all i ≡ Some own → R (get_or ks i 0) own
zip_at R [] [] i own zip at = absurd (let z : None ≡ Some own = at in cc)
zip_at R [] (x ∷ all) i own zip at = absurd zip
zip_at R (k ∷ ks) [] i own zip at = absurd zip
zip_at R (k ∷ ks) (x ∷ all) zero own zip at = subst (R k) (one_value x own at) zip.0
zip_at R (k ∷ ks) (x ∷ all) (suc i) own zip at = zip_at R ks all i own zip.1 at

-- a component has as many signatures as numbers
pub many_signed : (s : Sources) (p : MergePlan) (k : ℕ) (places group : List ℕ) (sigs all : List Sig) → slice_get p.components k ≡ Some places → group ≡ numbers_at p.merged places → AreSigsOf s p k sigs → all ≡ sigs → length all ≡ length group
many_signed s p k places group sigs all at is_group signed is_all =
    ap length is_all ∙ (zip_length (IsSigAt s) (members_at p k) sigs signed ∙ ap length (ap (numbers_at p.merged) (sym (value_at p.components k places [] at)) ∙ sym is_group))

pub kept_by : (s : Sources) (p : MergePlan) (k : ℕ) (places group : List ℕ) (old new : List (Option Sig)) (sigs all : List Sig) → IsPlan s p → AreRight s old → slice_get p.components k ≡ Some places → group ≡ numbers_at p.merged places
    → AreSigsOf s p k sigs → all ≡ sigs → new ≡ put_all group all old → HasMerged s (numbers_at p.merged places) old new
kept_by s p k places group old new sigs all plan right at is_group signed is_all is_new =
    let same : places ≡ get_or p.components k [] = value_at p.components k places [] at in
    has_merged s (numbers_at p.merged places) old new sigs right (group_within s p places (numbers_at p.merged places) plan (places_low s p k places plan at) refl)
    (subst (λ (l : List ℕ). AllZip (IsSigAt s) (numbers_at p.merged l) sigs) (sym same) signed) (is_new ∙ (λ i. put_all (is_group i) (is_all i) old))
