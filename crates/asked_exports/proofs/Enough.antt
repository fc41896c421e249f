-- A job needs no more than what it asks for.
use Rattle.std.proofs.Common.{◌≡◌, ℕ, zero, suc, Bool, true, false, ◌||◌, List, [], ◌∷◌, ◌++◌, map, Option, Some, None, refl, sym, ap, ap₂, ◌∙◌, subst, cond, is_some, option_map, bytes_eq}
use Rattle.std.specs.List.{list_any, flat_map}
use Rattle.std.proofs.lemmas.List.Folds.{list_any-append}
use Rattle.check_values.specs.Rows.{Bytes, Rows, row_at}
use Rattle.check_values.specs.declared.signatures.Origin.{Origin}
use Rattle.check_values.specs.declared.signatures.Origin.TheVariants as origin
use Rattle.check_values.specs.declared.signatures.ImportRow.{ImportRow}
use Rattle.check_values.specs.declared.signatures.Deps.{Deps}
use Rattle.check_values.specs.declared.signatures.Export.{Export}
use Rattle.check_values.specs.declared.signatures.Export.TheVariants as export
use Rattle.check_values.specs.declared.signatures.Sig.{Sig}
use Rattle.type_names.specs.Names.{Name, replaced}
use Rattle.type_values.specs.declared.types.FlowType.{FlowType}
use Rattle.merged_signatures.specs.Chains.{Known, found, at_value, at_alias, unknown, cyclic, ends, goes_to, step_of, step_in, most}
use Rattle.merged_signatures.specs.Merged.{import_at, alias_through, alias_imported, alias_named, name_type, type_with, type_at}
use Rattle.merged_signatures.specs.Job.{Job, members_view, JobEnd, inside, told, job_of_kind, job_end_of, told_by, job_end_within, job_denotes, job_as_alias, job_alias_at, job_export_of, job_merged}
use Rattle.merged_signatures.specs.Repeats.{name_eq}
use Rattle.merged_signatures.proofs.Names.{bytes_same, name_laws}
use Rattle.asked_exports.specs.Asked.{asked_name, asked_by_origin, asked_by_export, asked_by_import, asked_by_member, asked}
use Rattle.asked_exports.specs.Enough.{TellTheSame, AskedIsEnough}

-- ---- what is among the names that are asked for

abbrev pub among : Name → List Name → Bool
among n names = list_any (name_eq n) names

or_left : (a b : Bool) → a ≡ true → a || b ≡ true
or_left true b is = refl
or_left false b is = absurd (cc)

or_right : (a b : Bool) → b ≡ true → a || b ≡ true
or_right true b is = refl
or_right false b is = is

pub among_front : (n : Name) (xs ys : List Name) → among n xs ≡ true → among n (xs ++ ys) ≡ true
among_front n xs ys is = list_any-append (name_eq n) xs ys ∙ or_left (among n xs) (among n ys) is

pub among_behind : (n : Name) (xs ys : List Name) → among n ys ≡ true → among n (xs ++ ys) ≡ true
among_behind n xs ys is = list_any-append (name_eq n) xs ys ∙ or_right (among n xs) (among n ys) is

among_first : (n : Name) (xs : List Name) → among n (n ∷ xs) ≡ true
among_first n xs = or_left (name_eq n n) (among n xs) (name_laws.refl n)

-- the names of some rows are among others
abbrev AsksBy : {A : Type 0} → (A → List Name) → List A → List Name → Type 0
AsksBy f xs names = (n : Name) → among n (flat_map f xs) ≡ true → among n names ≡ true

found_asked : (o : Option Bytes) (q name : Bytes) → o ≡ Some q → among (q, name) (asked_name o name) ≡ true
found_asked None q name is = absurd (let e : None ≡ Some q = is in cc)
found_asked (Some p) q name is = let same : p ≡ q = (let e : Some p ≡ Some q = is in cc) in subst (λ (r : Bytes). among (q, name) ((r, name) ∷ []) ≡ true) (sym same) (among_first (q, name) [])

-- what an export leads to is asked for
origin_asked : (home : Bytes) (deps : Deps) (rows : Rows Origin) (name q l spec : Bytes) (k : Bool) → row_at rows name ≡ Some (origin.Import spec l k) → found deps spec ≡ Some q → among (q, l) (flat_map (asked_by_export home deps) rows) ≡ true
origin_asked home deps [] name q l spec k is finds = absurd (let e : None ≡ Some (origin.Import spec l k) = is in cc)
origin_asked home deps (row ∷ rows) name q l spec k is finds = go (bytes_eq row.0 name) is (origin_asked home deps rows name q l spec k)
  where
    go : (b : Bool) → cond b (Some row.1) (row_at rows name) ≡ Some (origin.Import spec l k) → (row_at rows name ≡ Some (origin.Import spec l k) → found deps spec ≡ Some q → among (q, l) (flat_map (asked_by_export home deps) rows) ≡ true)
        → among (q, l) (asked_by_export home deps row ++ flat_map (asked_by_export home deps) rows) ≡ true
    go true at rest =
        let same : row.1 ≡ origin.Import spec l k = (let e : Some row.1 ≡ Some (origin.Import spec l k) = at in cc) in
        let here : among (q, l) (asked_by_origin deps row.1) ≡ true = subst (λ (o : Origin). among (q, l) (asked_by_origin deps o) ≡ true) (sym same) (found_asked (found deps spec) q l finds) in
        among_front (q, l) (asked_by_export home deps row) _ (or_right (name_eq (q, l) (home, row.0)) (among (q, l) (asked_by_origin deps row.1)) here)
    go false at rest = among_behind (q, l) (asked_by_export home deps row) (flat_map (asked_by_export home deps) rows) (rest at finds)

-- and what an import stands for
import_asked : (deps : Deps) (rows : List ImportRow) (local q : Bytes) (row : ImportRow) → import_at rows local ≡ Some row → found deps row.spec ≡ Some q → among (q, row.name) (flat_map (asked_by_import deps) rows) ≡ true
import_asked deps [] local q row is finds = absurd (let e : None ≡ Some row = is in cc)
import_asked deps (r ∷ rows) local q row is finds = go (bytes_eq r.local local) is (import_asked deps rows local q row)
  where
    go : (b : Bool) → cond b (Some r) (import_at rows local) ≡ Some row → (import_at rows local ≡ Some row → found deps row.spec ≡ Some q → among (q, row.name) (flat_map (asked_by_import deps) rows) ≡ true)
        → among (q, row.name) (asked_by_import deps r ++ flat_map (asked_by_import deps) rows) ≡ true
    go true at rest =
        let same : r ≡ row = (let e : Some r ≡ Some row = at in cc) in
        among_front (q, row.name) (asked_by_import deps r) _ (subst (λ (s : ImportRow). among (q, row.name) (asked_by_import deps s) ≡ true) (sym same) (found_asked (found deps row.spec) q row.name finds))
    go false at rest = among_behind (q, row.name) (asked_by_import deps r) (flat_map (asked_by_import deps) rows) (rest at finds)

-- a member that is found asks for its names
member_asks : (rows : Rows Known) (path : Bytes) (m : Known) (n : Name) → row_at rows path ≡ Some m → among n (asked_by_member (path, m)) ≡ true → among n (flat_map asked_by_member rows) ≡ true
member_asks [] path m n at is = absurd (let e : None ≡ Some m = at in cc)
member_asks (row ∷ rows) path m n at is = go (bytes_eq row.0 path) refl at (λ h. member_asks rows path m n h is)
  where
    go : (b : Bool) → bytes_eq row.0 path ≡ b → cond b (Some row.1) (row_at rows path) ≡ Some m → (row_at rows path ≡ Some m → among n (flat_map asked_by_member rows) ≡ true) → among n (asked_by_member row ++ flat_map asked_by_member rows) ≡ true
    go true e here rest =
        let same : row.1 ≡ m = (let f : Some row.1 ≡ Some m = here in cc) in
        let home : row.0 ≡ path = bytes_same row.0 path e in
        among_front n (asked_by_member row) _ (subst (λ (r : Bytes × Known). among n (asked_by_member r) ≡ true) (λ i. (sym home i, sym same i)) is)
    go false e here rest = among_behind n (asked_by_member row) (flat_map asked_by_member rows) (rest here)

-- ---- the same is told

module _ (job : Job) (others : Rows Sig) (alike : TellTheSame job others) where
  abbrev other : Job
  other = record { members = job.members; outside = others }

  abbrev Asks : Bytes → Bytes → Type 0
  Asks path name = among (path, name) (asked job) ≡ true

  -- all names that a member asks for are asked for
  abbrev AsksAll : Bytes → Known → Type 0
  AsksAll path m = (n : Name) → among n (asked_by_member (path, m)) ≡ true → among n (asked job) ≡ true

  abbrev Rest : ℕ → Type 0
  Rest n = (q l : Bytes) → Asks q l → job_end_within other n q l ≡ job_end_within job n q l

  module _ (n : ℕ) (rest : Rest n) (path name : Bytes) where
    goes_same : (m : Known) → AsksAll path m → (spec l : Bytes) (k : Bool) → row_at m.sig.exports name ≡ Some (origin.Import spec l k) → (o : Option Bytes) → found m.deps spec ≡ o
        → job_end_of (job_end_within other n) (goes_to k l o) ≡ job_end_of (job_end_within job n) (goes_to k l o)
    goes_same m all spec l k at None finds = refl
    goes_same m all spec l k at (Some q) finds =
        ap (job_of_kind k) (rest q l (all (q, l) (among_front (q, l) (flat_map (asked_by_export path m.deps) m.sig.exports) _ (origin_asked path m.deps m.sig.exports name q l spec k at finds))))

    step_same : (m : Known) → AsksAll path m → (o : Option Origin) → row_at m.sig.exports name ≡ o → job_end_of (job_end_within other n) (step_of path m.deps o) ≡ job_end_of (job_end_within job n) (step_of path m.deps o)
    step_same m all None at = refl
    step_same m all (Some (origin.Value t)) at = refl
    step_same m all (Some (origin.Alias local)) at = refl
    step_same m all (Some (origin.Import spec l k)) at = goes_same m all spec l k at (found m.deps spec) refl
    step_same m all (Some origin.Unknown) at = refl

    known_same : (o : Option Known) → members_view job path ≡ o → job_end_of (job_end_within other n) (step_in path o name) ≡ job_end_of (job_end_within job n) (step_in path o name)
    known_same None at = refl
    known_same (Some m) at = go m.sig.broken
      where
        go : (b : Bool) → job_end_of (job_end_within other n) (cond b (ends unknown) (step_of path m.deps (row_at m.sig.exports name))) ≡ job_end_of (job_end_within job n) (cond b (ends unknown) (step_of path m.deps (row_at m.sig.exports name)))
        go true = refl
        go false = step_same m (λ a is. member_asks job.members path m a at is) (row_at m.sig.exports name) refl

    outside_same : (o p : Option Sig) → option_map (λ s. told_by s name) o ≡ option_map (λ s. told_by s name) p
        → (elim o as (λ _. JobEnd) [ Some s ↦ told (told_by s name) | None ↦ job_end_of (job_end_within other n) (step_in path (members_view job path) name) ])
        ≡ (elim p as (λ _. JobEnd) [ Some s ↦ told (told_by s name) | None ↦ job_end_of (job_end_within job n) (step_in path (members_view job path) name) ])
    outside_same None None same = known_same (members_view job path) refl
    outside_same (Some s) (Some t) same = ap told (let e : Some (told_by s name) ≡ Some (told_by t name) = same in cc)
    outside_same None (Some t) same = absurd (let e : None ≡ Some (told_by t name) = same in cc)
    outside_same (Some s) None same = absurd (let e : Some (told_by s name) ≡ None = same in cc)

  end_same : (n : ℕ) (path name : Bytes) → Asks path name → job_end_within other n path name ≡ job_end_within job n path name
  end_same zero path name asks = refl
  end_same (suc n) path name asks = outside_same n (λ q l h. end_same n q l h) path name (row_at others path) (row_at job.outside path) (alike path name asks)

  alias_same : (k : Bool) (path name : Bytes) → Asks path name → job_alias_at other k path name ≡ job_alias_at job k path name
  alias_same k path name asks = ap (λ (e : JobEnd). job_as_alias (job_of_kind k e)) (end_same most path name asks)

  name_same : (path local : Bytes) (m : Known) → AsksAll path m → alias_named (job_alias_at other) path m local ≡ alias_named (job_alias_at job) path m local
  name_same path local m all = own (is_some (row_at m.sig.aliases local))
    where
      through : (row : ImportRow) → import_at m.sig.imports local ≡ Some row → (o : Option Bytes) → found m.deps row.spec ≡ o → alias_through (job_alias_at other) row o ≡ alias_through (job_alias_at job) row o
      through row at None finds = refl
      through row at (Some q) finds =
          alias_same row.is_type q row.name (all (q, row.name) (among_behind (q, row.name) (flat_map (asked_by_export path m.deps) m.sig.exports) (flat_map (asked_by_import m.deps) m.sig.imports) (import_asked m.deps m.sig.imports local q row at finds)))

      imported : (r : Option ImportRow) → import_at m.sig.imports local ≡ r → alias_imported (job_alias_at other) m.deps r ≡ alias_imported (job_alias_at job) m.deps r
      imported None at = refl
      imported (Some row) at = through row at (found m.deps row.spec) refl

      own : (b : Bool) → cond b (Some (path, local)) (alias_imported (job_alias_at other) m.deps (import_at m.sig.imports local)) ≡ cond b (Some (path, local)) (alias_imported (job_alias_at job) m.deps (import_at m.sig.imports local))
      own true = refl
      own false = imported (import_at m.sig.imports local) refl

  type_same : (path : Bytes) (m : Known) → AsksAll path m → (t : FlowType) → type_with (job_alias_at other) path m t ≡ type_with (job_alias_at job) path m t
  type_same path m all t = λ i. replaced (λ n. name_type (name_same path n.1 m all i)) t

  type_at_same : (path : Bytes) (t : FlowType) (o : Option Known) → members_view job path ≡ o → type_at (job_alias_at other) path o t ≡ type_at (job_alias_at job) path o t
  type_at_same path t None at = refl
  type_at_same path t (Some m) at = type_same path m (λ a is. member_asks job.members path m a at is) t

  export_same : (e : JobEnd) → job_export_of other e ≡ job_export_of job e
  export_same (inside (at_value path t)) = ap export.Value (type_at_same path t (members_view job path) refl)
  export_same (inside (at_alias path name)) = refl
  export_same (inside unknown) = refl
  export_same (inside cyclic) = refl
  export_same (told e) = refl

  denotes_same : (path name : Bytes) → Asks path name → job_export_of other (job_denotes other path name) ≡ job_export_of job (job_denotes job path name)
  denotes_same path name asks = export_same (job_denotes other path name) ∙ ap (job_export_of job) (end_same most path name asks)

  exports_same : (path : Bytes) (deps : Deps) (rows : Rows Origin) → AsksBy (asked_by_export path deps) rows (asked job)
      → map {B = Bytes × Export} (λ row. (row.0, job_export_of other (job_denotes other path row.0))) rows ≡ map {B = Bytes × Export} (λ row. (row.0, job_export_of job (job_denotes job path row.0))) rows
  exports_same path deps [] asks = refl
  exports_same path deps (row ∷ rows) asks =
      ap₂ (λ (e : Export) (l : Rows Export). (row.0, e) ∷ l)
      (denotes_same path row.0 (asks (path, row.0) (among_front (path, row.0) (asked_by_export path deps row) (flat_map (asked_by_export path deps) rows) (among_first (path, row.0) (asked_by_origin deps row.1)))))
      (exports_same path deps rows (λ n is. asks n (among_behind n (asked_by_export path deps row) (flat_map (asked_by_export path deps) rows) is)))

  merged_same : (path : Bytes) (m : Known) → AsksAll path m → job_merged other (path, m) ≡ job_merged job (path, m)
  merged_same path m all = λ i. record {
    broken = m.sig.broken;
    exports = exports_same path m.deps m.sig.exports (λ n is. all n (among_front n (flat_map (asked_by_export path m.deps) m.sig.exports) (flat_map (asked_by_import m.deps) m.sig.imports) is)) i;
    aliases = map (λ row. (row.0, type_same path m all row.1 i)) m.sig.aliases;
  }

  each_same : (rows : Rows Known) → AsksBy asked_by_member rows (asked job) → map (job_merged other) rows ≡ map (job_merged job) rows
  each_same [] asks = refl
  each_same ((path, m) ∷ rows) asks =
      ap₂ (λ (s : Sig) (l : List Sig). s ∷ l) (merged_same path m (λ n is. asks n (among_front n (asked_by_member (path, m)) (flat_map asked_by_member rows) is)))
      (each_same rows (λ n is. asks n (among_behind n (asked_by_member (path, m)) (flat_map asked_by_member rows) is)))

pub asked_is_enough : AskedIsEnough
asked_is_enough job others alike = each_same job others alike job.members (λ n is. is)
