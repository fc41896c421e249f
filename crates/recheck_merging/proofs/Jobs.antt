-- The job of a group that is ready tells what the whole program does.
use Rattle.std.proofs.Common.{◌≡◌, ◌⊎◌, ℕ, zero, suc, Bool, true, false, cond, List, [], ◌∷◌, ◌++◌, map, slice_get, Option, Some, None, is_some, IsSome, inl, inr, refl, sym, ap, ◌∙◌, subst, bytes_eq}
use Rattle.std.specs.Prelude.{◌||◌, option_to_list}
use Rattle.std.specs.List.{AllByRecursion, flat_map}
use Rattle.std.specs.Cmp.Lexicographic.{bytes_decides}
use Rattle.flow_base.specs.Program.{Bytes}
use Rattle.check_values.specs.Rows.{Rows, row_at, is_among}
use Rattle.check_values.specs.declared.signatures.Deps.{Deps}
use Rattle.check_values.specs.declared.signatures.Sig.{Sig}
use Rattle.heap_core.specs.Meaning.{names}
use Rattle.merged_signatures.specs.Chains.{Known, found}
use Rattle.merged_signatures.specs.Merged.{merged, merged_known}
use Rattle.merged_signatures.specs.Job.{job_signatures}
use Rattle.merged_signatures.specs.Settled.{IsSettled, AJobTellsTheProgram}
use Rattle.check_phases.specs.program_check.specs.Full.{module_in}
use Rattle.path_numbers.specs.affected_law.proofs.Inside.{found_is_among}
use Rattle.path_numbers.specs.affected_sizes.specs.Polls.{IsImport}
use Rattle.check_phases.specs.Sourced.{program_in, paths_in, view_in, AreSources}
use Rattle.check_phases.specs.Merging.{IsMade, AreRight, known_rows, member_at, made_row, made_at}
use Rattle.check_phases.specs.declared.merging.Sources.{Sources}
use Rattle.check_phases.proofs.Jobs.{beside_at}
use Rattle.check_phases.proofs.Lists.{one_value}
use Rattle.check_phases.proofs.Waves.{named_has, has_named}
use Rattle.recheck_merging.specs.Merging.{job_by, IsReady}
use Rattle.recheck_merging.proofs.Imported.{IsHere, known_here, here, rising_program, low_path}

-- ---- rows

head_row : {X : Type 0} (path : Bytes) (x : X) (b : Bool) → b ≡ true → is_some (cond b (Some x) None) ≡ true
head_row path x true e = refl
head_row path x false e = absurd (let z : false ≡ true = e in cc)

-- a row of its own path is found
one_row : {X : Type 0} (path : Bytes) (x : X) → IsSome (row_at ((path, x) ∷ []) path)
one_row path x = head_row path x (bytes_eq path path) ((bytes_decides path path).1 refl)

module _ {X : Type 0} where
  -- a row in front, or behind
  some_front : (xs ys : Rows X) (path : Bytes) → IsSome (row_at xs path) → IsSome (row_at (xs ++ ys) path)
  some_front [] ys path some = absurd (let z : false ≡ true = some in cc)
  some_front (x ∷ xs) ys path some = go (bytes_eq x.0 path) (λ h. some_front xs ys path h) some
    where
      go : (b : Bool) → (IsSome (row_at xs path) → IsSome (row_at (xs ++ ys) path)) → IsSome (cond b (Some x.1) (row_at xs path)) → IsSome (cond b (Some x.1) (row_at (xs ++ ys) path))
      go true rest h = refl
      go false rest h = rest h

  some_behind : (xs ys : Rows X) (path : Bytes) → IsSome (row_at ys path) → IsSome (row_at (xs ++ ys) path)
  some_behind [] ys path some = some
  some_behind (x ∷ xs) ys path some = go (bytes_eq x.0 path) (some_behind xs ys path some)
    where
      go : (b : Bool) → IsSome (row_at (xs ++ ys) path) → IsSome (cond b (Some x.1) (row_at (xs ++ ys) path))
      go true rest = refl
      go false rest = rest

  -- what holds of all rows
  all_append : (P : Bytes × X → Type 0) (xs ys : Rows X) → AllByRecursion P xs → AllByRecursion P ys → AllByRecursion P (xs ++ ys)
  all_append P [] ys all more = more
  all_append P (x ∷ xs) ys all more = (all.0, all_append P xs ys all.1 more)

  all_front : (P : Bytes × X → Type 0) (xs ys : Rows X) → AllByRecursion P (xs ++ ys) → AllByRecursion P xs
  all_front P [] ys all = tt
  all_front P (x ∷ xs) ys all = (all.0, all_front P xs ys all.1)

  all_behind : (P : Bytes × X → Type 0) (xs ys : Rows X) → AllByRecursion P (xs ++ ys) → AllByRecursion P ys
  all_behind P [] ys all = all
  all_behind P (x ∷ xs) ys all = all_behind P xs ys all.1

module _ {A X : Type 0} (f : A → Rows X) where
  -- rows of one of some elements
  some_at : (ks : List A) (i : ℕ) (k : A) (path : Bytes) → slice_get ks i ≡ Some k → IsSome (row_at (f k) path) → IsSome (row_at (flat_map f ks) path)
  some_at [] i k path at some = absurd (let z : None ≡ Some k = at in cc)
  some_at (j ∷ ks) zero k path at some = some_front (f j) (flat_map f ks) path (subst (λ (l : A). IsSome (row_at (f l) path)) (sym (one_value j k at)) some)
  some_at (j ∷ ks) (suc i) k path at some = some_behind (f j) (flat_map f ks) path (some_at ks i k path at some)

  pub all_flat_at : (P : Bytes × X → Type 0) (ks : List A) → ((i : ℕ) (k : A) → slice_get ks i ≡ Some k → AllByRecursion P (f k)) → AllByRecursion P (flat_map f ks)
  all_flat_at P [] each = tt
  all_flat_at P (k ∷ ks) each = all_append P (f k) (flat_map f ks) (each 0 k refl) (all_flat_at P ks (λ i l at. each (suc i) l at))

  pub all_flat : (P : Bytes × X → Type 0) (ks : List A) → ((k : A) → AllByRecursion P (f k)) → AllByRecursion P (flat_map f ks)
  all_flat P ks each = all_flat_at P ks (λ i k at. each k)

  pub all_of_flat : (P : Bytes × X → Type 0) (ks : List A) (i : ℕ) (k : A) → slice_get ks i ≡ Some k → AllByRecursion P (flat_map f ks) → AllByRecursion P (f k)
  all_of_flat P [] i k at all = absurd (let z : None ≡ Some k = at in cc)
  all_of_flat P (j ∷ ks) zero k at all = subst (λ (l : A). AllByRecursion P (f l)) (one_value j k at) (all_front P (f j) (flat_map f ks) all)
  all_of_flat P (j ∷ ks) (suc i) k at all = all_of_flat P ks i k at (all_behind P (f j) (flat_map f ks) all)

place_among : (paths : List Bytes) (path : Bytes) → is_among paths path ≡ true → (y : ℕ) × (slice_get paths y ≡ Some path)
place_among [] path is = absurd (let z : false ≡ true = is in cc)
place_among (p ∷ paths) path is = go (bytes_eq path p) refl (place_among paths path) is
  where
    go : (b : Bool) → bytes_eq path p ≡ b → (is_among paths path ≡ true → (y : ℕ) × (slice_get paths y ≡ Some path)) → (b || is_among paths path) ≡ true → (y : ℕ) × (slice_get (p ∷ paths) y ≡ Some path)
    go true e rest h = (0, ap Some (sym ((bytes_decides path p).0 e)))
    go false e rest h = let later = rest h in (suc later.0, later.1)

-- what a specifier of a module finds is a module, which it imports
pub imported : (s : Sources) → AreSources s → (x : ℕ) (h : IsHere s x) (spec other : Bytes) → found h.deps spec ≡ Some other → (y : ℕ) × IsImport (view_in s) (paths_in s) x y × (slice_get (paths_in s) y ≡ Some other)
imported s sources x h spec other finds =
    let among = found_is_among (paths_in s) h.row.path (module_in h.parse.tree) spec other (ap (λ (d : Deps). found d spec) (sym h.is_list) ∙ finds) in
    let place = place_among (paths_in s) other among in (
      place.0,
      record { path = h.row.path; other = other; at_path = h.at_path; at_other = place.1; edge = (known_here s x h, spec, h.seen, finds) },
      place.1,
    )

-- ---- the job is settled

module _ (s : Sources) (made : List (Option Sig)) (group : List ℕ) (edges : List (List ℕ)) (sources : AreSources s) (right : AreRight s made) (ready : IsReady s group edges made) where
  abbrev IsSeen : Bytes × Known → Type 0
  IsSeen row = view_in s row.0 ≡ Some row.1

  abbrev IsTold : Bytes × Sig → Type 0
  IsTold row = merged (view_in s) row.0 ≡ Some row.1

  one_member : (x : ℕ) (o : Option (Bytes × Known)) → slice_get (known_rows s) x ≡ o → AllByRecursion IsSeen (option_to_list o)
  one_member x None at = tt
  one_member x (Some row) at = (beside_at (program_in s) _ x row (rising_program s sources) at, tt)

  one_made : (y : ℕ) (p : Option Bytes) (o : Option (Option Sig)) → slice_get (paths_in s) y ≡ p → slice_get made y ≡ o → AllByRecursion IsTold (made_row p o)
  one_made y None o at there = tt
  one_made y (Some path) None at there = tt
  one_made y (Some path) (Some None) at there = tt
  one_made y (Some path) (Some (Some sig)) at there = (right.each y path sig at there, tt)

  -- a member of the job is a module of the group
  member_of : (ks : List ℕ) (path : Bytes) (m : Known) → row_at (flat_map (member_at s) ks) path ≡ Some m → (i : ℕ) × (x : ℕ) × (slice_get ks i ≡ Some x) × (slice_get (known_rows s) x ≡ Some (path, m))
  member_of [] path m is = absurd (let z : None ≡ Some m = is in cc)
  member_of (k ∷ ks) path m is = pick (slice_get (known_rows s) k) refl (λ h. member_of ks path m h) is
    where
      later : ((i : ℕ) × (x : ℕ) × (slice_get ks i ≡ Some x) × (slice_get (known_rows s) x ≡ Some (path, m))) → (i : ℕ) × (x : ℕ) × (slice_get (k ∷ ks) i ≡ Some x) × (slice_get (known_rows s) x ≡ Some (path, m))
      later it = (suc it.0, it.1, it.2, it.3)

      by : (row : Bytes × Known) (b : Bool) → bytes_eq row.0 path ≡ b → slice_get (known_rows s) k ≡ Some row → (row_at (flat_map (member_at s) ks) path ≡ Some m → (i : ℕ) × (x : ℕ) × (slice_get ks i ≡ Some x) × (slice_get (known_rows s) x ≡ Some (path, m)))
          → cond b (Some row.1) (row_at (flat_map (member_at s) ks) path) ≡ Some m → (i : ℕ) × (x : ℕ) × (slice_get (k ∷ ks) i ≡ Some x) × (slice_get (known_rows s) x ≡ Some (path, m))
      by row true e at rest h =
          let same_path : row.0 ≡ path = (bytes_decides row.0 path).0 e in
          let same : row.1 ≡ m = one_value row.1 m h in
          (0, k, refl, at ∙ (λ i. Some (same_path i, same i)))
      by row false e at rest h = later (rest h)

      pick : (o : Option (Bytes × Known)) → slice_get (known_rows s) k ≡ o → (row_at (flat_map (member_at s) ks) path ≡ Some m → (i : ℕ) × (x : ℕ) × (slice_get ks i ≡ Some x) × (slice_get (known_rows s) x ≡ Some (path, m)))
          → row_at (option_to_list o ++ flat_map (member_at s) ks) path ≡ Some m → (i : ℕ) × (x : ℕ) × (slice_get (k ∷ ks) i ≡ Some x) × (slice_get (known_rows s) x ≡ Some (path, m))
      pick None at rest h = later (rest h)
      pick (Some row) at rest h = by row (bytes_eq row.0 path) refl at rest h

  abbrev IsTold_or_member : Bytes → Type 0
  IsTold_or_member other = IsSome (row_at (flat_map (member_at s) group) other) ⊎ IsSome (row_at (flat_map (λ ys. flat_map (made_at s made) ys) edges) other)

  -- a module of the group
  inside : (y : ℕ) (other : Bytes) → names group y ≡ true → slice_get (paths_in s) y ≡ Some other → IsSome (row_at (flat_map (member_at s) group) other)
  inside y other named at =
      let h = here s sources y (low_path s y other at) in
      let same : h.row.path ≡ other = one_value h.row.path other (sym h.at_path ∙ at) in
      let has = named_has group y named in
      some_at (member_at s) group has.0 y other has.1
      (subst (λ (o : Option (Bytes × Known)). IsSome (row_at (option_to_list o) other)) (sym h.at_known)
      (subst (λ (p : Bytes). IsSome (row_at ((p, known_here s y h) ∷ []) other)) (sym same) (one_row other (known_here s y h))))

  -- a module whose signature is made
  beyond : (y : ℕ) (other : Bytes) → IsMade made y → slice_get (paths_in s) y ≡ Some other → IsSome (row_at (made_at s made y) other)
  beyond y other sig at =
      subst (λ (p : Option Bytes). IsSome (row_at (made_row p (slice_get made y)) other)) (sym at) (subst (λ (o : Option (Option Sig)). IsSome (row_at (made_row (Some other) o) other)) (sym sig.1) (one_row other sig.0))

  -- what a member's specifier finds is a member, or made already
  closed : (path other spec : Bytes) (m : Known) → row_at (flat_map (member_at s) group) path ≡ Some m → found m.deps spec ≡ Some other → IsTold_or_member other
  closed path other spec m is finds =
      let it = member_of group path m is in
      let x = it.1 in
      let named = has_named group x (it.0, it.2) in
      let h = here s sources x (ready.within x named) in
      let known : (h.row.path, known_here s x h) ≡ (path, m) = one_value (h.row.path, known_here s x h) (path, m) (sym h.at_known ∙ it.3) in
      let y = imported s sources x h spec other (ap (λ (row : Bytes × Known). found row.1.deps spec) known ∙ finds) in
      let edge = ready.edges_are.complete it.0 x y.0 it.2 y.1 in
      go y.0 (names group y.0) refl x named y.1 y.2 edge.2.0 it.0 edge.0 edge.1 edge.2.1
    where
      go : (y : ℕ) (b : Bool) → names group y ≡ b → (x : ℕ) → names group x ≡ true → IsImport (view_in s) (paths_in s) x y → slice_get (paths_in s) y ≡ Some other
          → (j i : ℕ) (ys : List ℕ) → slice_get edges i ≡ Some ys → slice_get ys j ≡ Some y → IsTold_or_member other
      go y true named x in_x import at j i ys at_i at_j = inl (inside y other named at)
      go y false apart x in_x import at j i ys at_i at_j =
          inr (some_at (λ zs. flat_map (made_at s made) zs) edges i ys other at_i (some_at (made_at s made) ys j y other at_j (beyond y other (ready.before x y in_x import apart) at)))

  pub settled : IsSettled (view_in s) (job_by s made group edges)
  settled = record {
    members = all_flat (member_at s) IsSeen group (λ x. one_member x (slice_get (known_rows s) x) refl);
    outside = all_flat (λ ys. flat_map (made_at s made) ys) IsTold edges (λ ys. all_flat (made_at s made) IsTold ys (λ y. one_made y (slice_get (paths_in s) y) (slice_get made y) refl refl));
    closed = closed;
  }

-- the signatures of a group, by its job
pub job_right : AJobTellsTheProgram → (s : Sources) (made : List (Option Sig)) (group : List ℕ) (edges : List (List ℕ)) → AreSources s → AreRight s made → IsReady s group edges made
    → job_signatures (job_by s made group edges) ≡ map (λ (row : Bytes × Known). merged_known (view_in s) row.0 row.1) (flat_map (member_at s) group)
job_right tells s made group edges sources right ready = tells (view_in s) (job_by s made group edges) sources.small (settled s made group edges sources right ready)
