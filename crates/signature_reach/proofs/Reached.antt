-- Looking at paths, one after the other, until no row names one that was not looked at.
use Rattle.std.proofs.Common.{◌≡◌, ◌⊎◌, ℕ, zero, suc, ◌+◌, ◌<◌, ◌≤◌, Bool, true, false, cond, ◌||◌, List, [], ◌∷◌, ◌++◌, length, length-append, take, take_all, get_or, slice_get, Option, Some, None, refl, sym, ap, ◌∙◌, subst, inl, inr, bytes_eq, arith, append-nil, append_assoc}
use Rattle.std.specs.Prelude.{option_to_list}
use Rattle.std.specs.List.{AllByRecursion, flat_map, list_any}
use Rattle.std.specs.BTreeSet.{BTreeSet}
use Rattle.std.specs.Ordering.{nat_cmp, is_eq}
use Rattle.std.specs.Cmp.Lexicographic.{slice_cmp, bytes_decides}
use Rattle.std.proofs.lemmas.Bool.{false≢true, cases_lt}
use Rattle.std.proofs.lemmas.Option.{none-some, same_Some, slice_get_read, slice_get-get_or, slice_get_within}
use Rattle.check_values.specs.Rows.{Bytes, Rows, row_at, is_among}
use Rattle.check_values.specs.declared.signatures.Deps.{Deps}
use Rattle.check_values.specs.declared.signatures.DepRow.{DepRow}
use Rattle.check_values.specs.declared.signatures.Sig.{Sig}
use Rattle.merged_signatures.specs.Chains.{found_in}
use Rattle.merged_signatures.specs.Reach.{by_specifier, by_signature, paths_named}
use Rattle.errors_by_reach.specs.Law.{Agree}
use Rattle.errors_by_reach.specs.Seen.{Sigs}
use Rattle.signature_reach.specs.Along.{IsMet, AreMet, Knows, Grows, IsClosedTo, IsClosed, AreNamedAt, starts_of, AreStartedTo, AreStarted, AgreeForAll}

-- ---- steps that compose

pub grows_none : (sigs : Sigs) (ms : List Bytes) (seen : BTreeSet Bytes) (rows : Rows Sig) → Knows sigs seen rows → Grows sigs ms seen rows seen rows
grows_none sigs ms seen rows known = record { known = known; behind = ([], sym (append-nil rows)); stays = λ q met. met; left = omega arith }

pub grows_through : (sigs : Sigs) (ms : List Bytes) (s0 s1 s2 : BTreeSet Bytes) (r0 r1 r2 : Rows Sig) → Grows sigs ms s0 r0 s1 r1 → Grows sigs ms s1 r1 s2 r2 → Grows sigs ms s0 r0 s2 r2
grows_through sigs ms s0 s1 s2 r0 r1 r2 first then = record {
  known = then.known;
  behind =
      let a = first.behind in let b = then.behind in
      (a.0 ++ b.0, b.1 ∙ (ap (λ (l : Rows Sig). l ++ b.0) a.1 ∙ append_assoc r0 a.0 b.0));
  stays = λ q met. then.stays q (first.stays q met);
  left = let a = first.left in let b = then.left in omega (arith, a, b);
}

pub grows_longer : (sigs : Sigs) (ms : List Bytes) (seen later : BTreeSet Bytes) (rows more : Rows Sig) → Grows sigs ms seen rows later more → length rows ≤ length more
grows_longer sigs ms seen later rows more grows =
    let b = grows.behind in
    let n : length more ≡ length rows + length b.0 = ap length b.1 ∙ length-append rows b.0 in omega (arith, n)

met_stay : (sigs : Sigs) (rows more : Rows Sig) → ((q : Bytes) → IsMet sigs rows q → IsMet sigs more q) → (paths : List Bytes) → AreMet sigs rows paths → AreMet sigs more paths
met_stay sigs rows more stays [] met = tt
met_stay sigs rows more stays (p ∷ paths) met = (stays p met.0, met_stay sigs rows more stays paths met.1)

pub all_stay : (sigs : Sigs) (ms : List Bytes) (seen later : BTreeSet Bytes) (rows more : Rows Sig) (paths : List Bytes) → Grows sigs ms seen rows later more → AreMet sigs rows paths → AreMet sigs more paths
all_stay sigs ms seen later rows more paths grows met = met_stay sigs rows more grows.stays paths met

-- ---- paths one after the other

all_last : {X : Type 0} (P : X → Type 0) (xs : List X) (x : X) → AllByRecursion P xs → P x → AllByRecursion P (xs ++ x ∷ [])
all_last P [] x all last = (last, tt)
all_last P (y ∷ xs) x all last = (all.0, all_last P xs x all.1 last)

take_next : (xs : List Bytes) (i : ℕ) (x : Bytes) → slice_get xs i ≡ Some x → take (suc i) xs ≡ take i xs ++ x ∷ []
take_next [] i x at = absurd (none-some x at)
take_next (y ∷ xs) zero x at = ap (λ (z : Bytes). z ∷ []) (same_Some y x at)
take_next (y ∷ xs) (suc i) x at = ap (λ (l : List Bytes). y ∷ l) (take_next xs i x at)

pub one_more_met : (sigs : Sigs) (ms : List Bytes) (seen later : BTreeSet Bytes) (rows more : Rows Sig) (paths : List Bytes) (i : ℕ) (path : Bytes) → i < length paths → slice_get paths i ≡ Some path → Grows sigs ms seen rows later more
    → AreMet sigs rows (take i paths) → IsMet sigs more path → AreMet sigs more (take (i + 1) paths)
one_more_met sigs ms seen later rows more paths i path within at grows before here =
    let n : suc i ≡ i + 1 = omega arith in
    subst (λ (k : ℕ). AreMet sigs more (take k paths)) n
    (subst (AreMet sigs more) (sym (take_next paths i path at)) (all_last (IsMet sigs more) (take i paths) path (all_stay sigs ms seen later rows more (take i paths) grows before) here))

pub all_of_them : (sigs : Sigs) (rows : Rows Sig) (paths : List Bytes) (i : ℕ) → length paths ≤ i → AreMet sigs rows (take i paths) → AreMet sigs rows paths
all_of_them sigs rows paths i past met = subst (AreMet sigs rows) (take_all i paths past) met

-- ---- rows one after the other

front_there : (rows added : Rows Sig) (i : ℕ) (row : Bytes × Sig) → i < length rows → slice_get (rows ++ added) i ≡ Some row → slice_get rows i ≡ Some row
front_there [] added i row within at = absurd (omega (arith, within))
front_there (r ∷ rows) added zero row within at = at
front_there (r ∷ rows) added (suc i) row within at = front_there rows added i row (omega (arith, within)) at

pub none_closed : (sigs : Sigs) (rows : Rows Sig) → IsClosedTo sigs rows 0
none_closed sigs rows i row low at = absurd (omega (arith, low))

pub one_closed : (sigs : Sigs) (ms : List Bytes) (seen later : BTreeSet Bytes) (rows more : Rows Sig) (at : ℕ) (named : List Bytes) → at < length rows → IsClosedTo sigs rows at → AreNamedAt rows at named → Grows sigs ms seen rows later more
    → AreMet sigs more named → IsClosedTo sigs more (at + 1)
one_closed sigs ms seen later rows more at named within closed is grows met i row low there =
    let b = grows.behind in
    let in_rows : slice_get rows i ≡ Some row = front_there rows b.0 i row (omega (arith, low, within)) (ap (λ (l : Rows Sig). slice_get l i) (sym b.1) ∙ there) in
    go (nat_cases i at (omega (arith, low))) in_rows
  where
    nat_cases : (i at : ℕ) → i ≤ at → (i < at) ⊎ (i ≡ at)
    nat_cases zero zero le = inr refl
    nat_cases zero (suc at) le = inl (omega arith)
    nat_cases (suc i) zero le = absurd (omega (arith, le))
    nat_cases (suc i) (suc at) le = elim (nat_cases i at (omega (arith, le))) [ inl l ↦ inl (omega (arith, l)) | inr e ↦ inr (ap suc e) ]

    go : (i < at) ⊎ (i ≡ at) → slice_get rows i ≡ Some row → AreMet sigs more (paths_named row.1)
    go (inl l) there = all_stay sigs ms seen later rows more (paths_named row.1) grows (closed i row l there)
    go (inr e) there = subst (AreMet sigs more) (is row (ap (slice_get rows) (sym e) ∙ there)) met

pub all_closed : (sigs : Sigs) (rows : Rows Sig) (at : ℕ) → length rows ≤ at → IsClosedTo sigs rows at → IsClosed sigs rows
all_closed sigs rows at past closed i row low there = closed i row (omega (arith, low, past)) there

-- ---- what is reached

all_among : (sigs : Sigs) (rows : Rows Sig) (paths : List Bytes) (q : Bytes) → AreMet sigs rows paths → is_among paths q ≡ true → IsMet sigs rows q
all_among sigs rows [] q met among = absurd (false≢true among)
all_among sigs rows (p ∷ paths) q met among = go (bytes_eq q p) refl among (all_among sigs rows paths q met.1)
  where
    go : (b : Bool) → bytes_eq q p ≡ b → b || is_among paths q ≡ true → (is_among paths q ≡ true → IsMet sigs rows q) → IsMet sigs rows q
    go true e is rest = subst (IsMet sigs rows) (sym ((bytes_decides q p).0 e)) met.0
    go false e is rest = rest is

row_there : (rows : Rows Sig) (p : Bytes) (s : Sig) → row_at rows p ≡ Some s → (i : ℕ) × (row : Bytes × Sig) × (i < length rows) × (slice_get rows i ≡ Some row) × (row.1 ≡ s)
row_there [] p s is = absurd (none-some s is)
row_there (row ∷ rows) p s is = go (bytes_eq row.0 p) is (row_there rows p s)
  where
    go : (b : Bool) → cond b (Some row.1) (row_at rows p) ≡ Some s → (row_at rows p ≡ Some s → (i : ℕ) × (r : Bytes × Sig) × (i < length rows) × (slice_get rows i ≡ Some r) × (r.1 ≡ s))
        → (i : ℕ) × (r : Bytes × Sig) × (i < length (row ∷ rows)) × (slice_get (row ∷ rows) i ≡ Some r) × (r.1 ≡ s)
    go true e rest = (0, row, omega arith, refl, same_Some row.1 s e)
    go false e rest = let (i, r, low, at, same) = rest e in (suc i, r, omega (arith, low), at, same)

abbrev found_all : List DepRow → List Bytes
found_all rows = flat_map (λ (row : DepRow). option_to_list row.found) rows

among_right : (a b : List Bytes) (q : Bytes) → is_among b q ≡ true → is_among (a ++ b) q ≡ true
among_right [] b q is = is
among_right (p ∷ a) b q is = go (bytes_eq q p) (among_right a b q is)
  where
    go : (c : Bool) → is_among (a ++ b) q ≡ true → c || is_among (a ++ b) q ≡ true
    go true rest = refl
    go false rest = rest

-- a module that a specifier finds is one of those
found_among : (rows : List DepRow) (spec path : Bytes) → found_in rows spec ≡ Some path → is_among (found_all rows) path ≡ true
found_among [] spec path is = absurd (none-some path is)
found_among (row ∷ rows) spec path is = go (bytes_eq row.spec spec) is (found_among rows spec path)
  where
    here : (o : Option Bytes) → o ≡ Some path → is_among (option_to_list o ++ found_all rows) path ≡ true
    here None e = absurd (none-some path e)
    here (Some p) e = ap (λ (b : Bool). b || is_among (found_all rows) path) ((bytes_decides path p).1 (sym (same_Some p path e)))

    go : (b : Bool) → cond b row.found (found_in rows spec) ≡ Some path → (found_in rows spec ≡ Some path → is_among (found_all rows) path ≡ true) → is_among (found_all (row ∷ rows)) path ≡ true
    go true e rest = here row.found e
    go false e rest = among_right (option_to_list row.found) (found_all rows) path (rest e)

-- whatever is reached was looked at
pub all_reached : (sigs : Sigs) (deps : Deps) (rows : Rows Sig) → AreMet sigs rows (found_all deps.rows) → IsClosed sigs rows → Agree sigs deps (row_at rows)
all_reached sigs deps rows starts closed path (by_specifier spec p e) = all_among sigs rows (found_all deps.rows) p starts (found_among deps.rows spec p e)
all_reached sigs deps rows starts closed path (by_signature p q s way e named) =
    let here : row_at rows p ≡ Some s = all_reached sigs deps rows starts closed p way ∙ e in
    let (i, row, low, at, same) = row_there rows p s here in
    all_among sigs rows (paths_named s) q (subst (λ (t : Sig). AreMet sigs rows (paths_named t)) same (closed i row low at)) named

-- nothing was looked at yet
pub knows_none : (sigs : Sigs) (seen : BTreeSet Bytes) (rows : Rows Sig) → seen.keys ≡ [] → rows ≡ [] → Knows sigs seen rows
knows_none sigs seen rows none_seen no_rows = record {
  sound = λ p s is. absurd (none-some s (sym (ap (λ (l : Rows Sig). row_at l p) no_rows) ∙ is));
  met = λ p is. absurd (false≢true (sym (ap (λ (l : List Bytes). list_any (λ k. is_eq (slice_cmp nat_cmp p k)) l) none_seen) ∙ is));
}

-- the starts were looked at, and then all that they lead to
pub reached_told : (sigs : Sigs) (ms : List Bytes) (deps : Deps) (found : List DepRow) (starts : List Bytes) (seen last : BTreeSet Bytes) (rows all : Rows Sig) → found ≡ deps.rows → starts ≡ found_all found → AreMet sigs rows starts
    → Grows sigs ms seen rows last all → IsClosed sigs all → Agree sigs deps (row_at all)
reached_told sigs ms deps found starts seen last rows all listed are met grows closed =
    all_reached sigs deps all (subst (AreMet sigs all) (are ∙ ap found_all listed) (all_stay sigs ms seen last rows all starts grows met)) closed

-- ---- what several modules reach

pub none_started : (sigs : Sigs) (rows : Rows Sig) (lists : List Deps) (numbers : List ℕ) → AreStartedTo sigs rows lists numbers 0
none_started sigs rows lists numbers i x deps low at there = absurd (omega (arith, low))

pub one_started : (sigs : Sigs) (ms : List Bytes) (seen later : BTreeSet Bytes) (rows more : Rows Sig) (lists : List Deps) (numbers : List ℕ) (i : ℕ) (deps given : Deps) → i < length numbers → get_or numbers i 0 < length lists → deps ≡ get_or lists (get_or numbers i 0) deps
    → Grows sigs ms seen rows later more → AreStartedTo sigs rows lists numbers i → given ≡ deps → AreMet sigs more (starts_of given) → AreStartedTo sigs more lists numbers (i + 1)
one_started sigs ms seen later rows more lists numbers i deps given low inside is grows before same_deps here j x d less at there = elim (cases_lt j i) [
  | inl first ↦ all_stay sigs ms seen later rows more (starts_of d) grows (before j x d first at there)
  | inr past ↦ (let place : j ≡ i = omega (arith, less, past) in
      let number : x ≡ get_or numbers i 0 = same_Some x (get_or numbers i 0) (sym at ∙ (ap (slice_get numbers) place ∙ slice_get-get_or numbers i 0 low)) in
      let mine : slice_get lists (get_or numbers i 0) ≡ Some deps = slice_get_read lists _ (get_or numbers i 0) deps refl inside is in
      let same : given ≡ d = same_deps ∙ same_Some deps d (sym mine ∙ (ap (slice_get lists) (sym number) ∙ there)) in
      subst (λ (e : Deps). AreMet sigs more (starts_of e)) same here)
]

-- the modules that they find were looked at, and then all that these lead to
pub all_told : (sigs : Sigs) (ms : List Bytes) (lists : List Deps) (numbers : List ℕ) (seen last : BTreeSet Bytes) (rows all : Rows Sig) → AreStarted sigs rows lists numbers → Grows sigs ms seen rows last all → IsClosed sigs all
    → AgreeForAll sigs lists numbers (row_at all)
all_told sigs ms lists numbers seen last rows all started grows closed i x deps at there =
    all_reached sigs deps all (all_stay sigs ms seen last rows all (starts_of deps) grows (started i x deps (slice_get_within numbers i x at) at there)) closed
