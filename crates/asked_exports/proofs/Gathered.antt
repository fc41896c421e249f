-- How the names that are asked are gathered.
use Rattle.std.proofs.Common.{◌≡◌, map, ℕ, ◌+◌, ◌<◌, Bool, true, false, List, [], ◌∷◌, ◌++◌, length, take, get_or, take-suc, add-one, Option, Some, None, unwrap_or, cond, bytes_eq, refl, sym, ap, ◌∙◌, append_assoc, append-nil}
use Rattle.std.specs.List.{flat_map}
use Rattle.std.specs.Ordering.{nat_cmp}
use Rattle.std.specs.Cmp.Lexicographic.{slice_cmp}
use Rattle.std.specs.BTreeMap.{get, is_at}
use Rattle.std.specs.Map.{lookup}
use Rattle.std.proofs.lemmas.Grind.{flat_map-append}
use Rattle.std.proofs.lemmas.List.Folds.{flat_map-map}
use Rattle.std.proofs.lemmas.Map.Text.{is_eq-slice_cmp}
use Rattle.check_values.specs.Rows.{Bytes}
use Rattle.type_names.specs.Names.{Name}
use Rattle.merged_signatures.proofs.Names.{bytes_same}
use Rattle.job_ends.specs.Jobs.{member_view}
use Rattle.job_ends.specs.declared.job.MergeMember.{MergeMember}
use Rattle.asked_exports.specs.Asked.{asked_by_member, name_of, asked_of, without}
use Rattle.asked_exports.specs.Gathering.{Asked, names_at, Gathers}

-- the names of a path are taken out
pub taken_rest : (old new : Asked) (path : Bytes) → ((q : Bytes) → get (slice_cmp nat_cmp) new q ≡ cond (is_at (slice_cmp nat_cmp path) q) None (get (slice_cmp nat_cmp) old q)) → (q : Bytes) → names_at new q ≡ without path (names_at old) q
taken_rest old new path updates q = ap (λ (o : Option (List Bytes)). unwrap_or o []) (updates q ∙ ap (λ (b : Bool). cond b None (get (slice_cmp nat_cmp) old q)) (is_eq-slice_cmp path q)) ∙ go (bytes_eq path q)
  where
    go : (b : Bool) → unwrap_or (cond b None (get (slice_cmp nat_cmp) old q)) [] ≡ cond b [] (names_at old q)
    go true = refl
    go false = refl

-- they come back with one more
pub one_asked : (old taken new : Asked) (path home name word : Bytes) (names more : List Bytes) → names ≡ names_at old path → ((q : Bytes) → names_at taken q ≡ without path (names_at old) q) → word ≡ name → more ≡ names ++ word ∷ [] → home ≡ path
    → ((q : Bytes) → get (slice_cmp nat_cmp) new q ≡ cond (is_at (slice_cmp nat_cmp home) q) (Some more) (get (slice_cmp nat_cmp) taken q)) → Gathers old new ((path, name) ∷ [])
one_asked old taken new path home name word names more is rest same grown at updates q =
    ap (λ (o : Option (List Bytes)). unwrap_or o []) (updates q ∙ ap (λ (b : Bool). cond b (Some more) (get (slice_cmp nat_cmp) taken q)) (is_eq-slice_cmp home q ∙ ap (λ (p : Bytes). bytes_eq p q) at)) ∙ go (bytes_eq path q) refl
  where
    go : (b : Bool) → bytes_eq path q ≡ b → unwrap_or (cond b (Some more) (get (slice_cmp nat_cmp) taken q)) [] ≡ names_at old q ++ (cond b (name ∷ []) [] ++ [])
    go true e = grown ∙ (λ i. (is ∙ ap (names_at old) (bytes_same path q e)) i ++ same i ∷ [])
    go false e = rest q ∙ ap (λ (b : Bool). cond b [] (names_at old q)) e ∙ sym (append-nil (names_at old q))

pub gathers_none : (asked : Asked) → Gathers asked asked []
gathers_none asked path = sym (append-nil (names_at asked path))

-- first these names, and then those
pub gathers_both : (old now new : Asked) (xs ys : List Name) → Gathers old now xs → Gathers now new ys → Gathers old new (xs ++ ys)
gathers_both old now new xs ys first second path =
    second path ∙ ap (λ (l : List Bytes). l ++ asked_of ys path) (first path)
    ∙ append_assoc (names_at old path) (asked_of xs path) (asked_of ys path)
    ∙ ap (λ (l : List Bytes). names_at old path ++ l) (sym (flat_map-append (name_of path) xs ys))

module _ {A : Type 0} (f : A → List Name) where
  flat_last : (xs : List A) (x : A) → flat_map f (xs ++ x ∷ []) ≡ flat_map f xs ++ f x
  flat_last xs x = flat_map-append f xs (x ∷ []) ∙ ap (λ (l : List Name). flat_map f xs ++ l) (append-nil (f x))

  -- those of one more row
  pub gathers_more : (rows : List A) (i : ℕ) (row : A) (old now new : Asked) → i < length rows → row ≡ get_or rows i row → Gathers old now (flat_map f (take i rows)) → Gathers now new (f row) → Gathers old new (flat_map f (take (i + 1) rows))
  gathers_more rows i row old now new low at first second path =
      gathers_both old now new (flat_map f (take i rows)) (f row) first second path
      ∙ ap (λ (l : List Name). names_at old path ++ asked_of l path) (sym (flat_last (take i rows) row) ∙ ap (flat_map f) (sym taken))
    where
      taken : take (i + 1) rows ≡ take i rows ++ row ∷ []
      taken = ap (λ (k : ℕ). take k rows) (add-one i) ∙ take-suc rows i row low ∙ ap (λ (r : A). take i rows ++ r ∷ []) (sym at)

-- all names, where none were asked before
pub gathers_all : (empty new : Asked) (names : List Name) → empty.entries ≡ [] → Gathers empty new names → (path : Bytes) → names_at new path ≡ asked_of names path
gathers_all empty new names none gathers path = gathers path ∙ ap (λ (l : List (Bytes × List Bytes)). unwrap_or (lookup (is_at (slice_cmp nat_cmp path)) l) [] ++ asked_of names path) none

-- the members as the job has them
pub by_members : {A : Type 0} (member : A → MergeMember) (own : List A) (rows : List MergeMember) (told : Bytes → List Bytes) → map member own ≡ rows
    → ((path : Bytes) → told path ≡ asked_of (flat_map (λ (m : A). asked_by_member (member_view (member m))) own) path)
    → (path : Bytes) → told path ≡ asked_of (flat_map asked_by_member (map member_view rows)) path
by_members member own rows told are tells path = tells path ∙ ap (λ (l : List Name). asked_of l path)
    (sym (flat_map-map (λ (m : MergeMember). asked_by_member (member_view m)) member own) ∙ ap (flat_map (λ (m : MergeMember). asked_by_member (member_view m))) are ∙ sym (flat_map-map asked_by_member member_view rows))
