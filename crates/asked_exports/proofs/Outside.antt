-- The signatures outside with the rows that are asked for, as the code makes them.
use Rattle.std.proofs.Common.{◌≡◌, ℕ, ◌+◌, ◌<◌, ◌≤◌, Bool, true, false, ◌&&◌, List, [], ◌∷◌, ◌++◌, length, drop, get_or, cond, refl, sym, ap, ap₂, ◌∙◌, append_assoc, append-nil, drop-cons, drop_of_length-le, add-one, arith}
use Rattle.check_values.specs.Rows.{Bytes, Rows}
use Rattle.check_values.specs.declared.signatures.Sig.{Sig}
use Rattle.merged_signatures.specs.Job.{Job}
use Rattle.asked_exports.specs.Asked.{asked, asked_of, rows_of, is_small, are_small, cut, without, cut_all, asked_job}
use Rattle.asked_exports.specs.Gathering.{Asked, names_at}

-- ---- where all are small

both : (a b : Bool) → true ≡ (a && b) → (a ≡ true) × (true ≡ b)
both true b is = (refl, is)
both false b is = absurd (cc)

whole_here : (s : Sig) (names : List Bytes) → is_small s ≡ true → cut names s ≡ s
whole_here s names is = ap (λ (b : Bool). cond b s (record { broken = s.broken; exports = rows_of s.exports names; aliases = [] })) is

all_whole : (names : Bytes → List Bytes) (rows : Rows Sig) → true ≡ are_small rows → cut_all names rows ≡ rows
all_whole names [] small = refl
all_whole names (row ∷ rows) small =
    let each = both (is_small row.1) (are_small rows) small in
    ap₂ (λ (s : Sig) (l : Rows Sig). (row.0, s) ∷ l) (whole_here row.1 (names row.0) each.0) (all_whole (without row.0 names) rows each.1)

-- the job stays as it is
pub small_whole : (job : Job) (is : Bool) → is ≡ are_small job.outside → is ≡ true → job ≡ asked_job job
small_whole job is small e = ap (λ (l : Rows Sig). record { members = job.members; outside = l }) (sym (all_whole (asked_of (asked job)) job.outside (sym e ∙ small)))

-- ---- one more

cut_by : (f g : Bytes → List Bytes) (rows : Rows Sig) → ((q : Bytes) → f q ≡ g q) → cut_all f rows ≡ cut_all g rows
cut_by f g rows same = λ i. cut_all (λ q. same q i) rows

drop_one : (rows : Rows Sig) (i : ℕ) (row : Bytes × Sig) → i < length rows → row ≡ get_or rows i row → drop i rows ≡ row ∷ drop (i + 1) rows
drop_one rows i row low at = drop-cons rows i row low ∙ (λ j. (sym at) j ∷ drop (sym (add-one i) j) rows)

pub cut_next : (rows : Rows Sig) (i : ℕ) (row : Bytes × Sig) (asked left : Asked) (own more whole : Rows Sig) (path : Bytes) (names taken : List Bytes) (sig : Sig) → i < length rows → row ≡ get_or rows i row
    → names ≡ names_at asked row.0 → ((q : Bytes) → names_at left q ≡ without row.0 (names_at asked) q) → taken ≡ names → sig ≡ cut taken row.1 → path ≡ row.0 → more ≡ own ++ (path, sig) ∷ []
    → own ++ cut_all (names_at asked) (drop i rows) ≡ whole → more ++ cut_all (names_at left) (drop (i + 1) rows) ≡ whole
cut_next rows i row asked left own more whole path names taken sig low at is rest same made here grown so_far =
    let first : (path, sig) ≡ (row.0, cut (names_at asked row.0) row.1) = λ j. (here j, (made ∙ ap (λ (l : List Bytes). cut l row.1) (same ∙ is)) j) in
    (λ j. grown j ++ cut_by (names_at left) (without row.0 (names_at asked)) (drop (i + 1) rows) rest j)
    ∙ append_assoc own ((path, sig) ∷ []) (cut_all (without row.0 (names_at asked)) (drop (i + 1) rows))
    ∙ ap (λ (r : Bytes × Sig). own ++ r ∷ cut_all (without row.0 (names_at asked)) (drop (i + 1) rows)) first
    ∙ ap (λ (l : Rows Sig). own ++ cut_all (names_at asked) l) (sym (drop_one rows i row low at))
    ∙ so_far

-- nothing is left
pub cut_end : (rows : Rows Sig) (i n : ℕ) (asked : Asked) (own whole : Rows Sig) → n ≡ length rows → n ≤ i → own ++ cut_all (names_at asked) (drop i rows) ≡ whole → own ≡ whole
cut_end rows i n asked own whole many all so_far = sym (append-nil own) ∙ ap (λ (l : Rows Sig). own ++ cut_all (names_at asked) l) (sym (drop_of_length-le rows (let m = many in omega arith))) ∙ so_far
