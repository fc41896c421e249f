-- A settled job tells what the whole program does.
use Rattle.std.proofs.Common.{◌≡◌, ℕ, zero, suc, Bool, true, false, List, [], ◌∷◌, map, Option, Some, None, refl, sym, ap, ap₂, ◌∙◌, ◌⊎◌, inl, inr, subst₂, cond, is_some, IsSome, option_map, unwrap_or, bytes_eq}
use Rattle.std.specs.List.{AllByRecursion}
use Rattle.check_values.specs.Rows.{Bytes, Rows, row_at}
use Rattle.check_values.specs.declared.signatures.Origin.{Origin}
use Rattle.check_values.specs.declared.signatures.Origin.TheVariants as origin
use Rattle.check_values.specs.declared.signatures.ImportRow.{ImportRow}
use Rattle.check_values.specs.declared.signatures.Deps.{Deps}
use Rattle.check_values.specs.declared.signatures.Export.{Export}
use Rattle.check_values.specs.declared.signatures.Export.TheVariants as export
use Rattle.check_values.specs.declared.signatures.Sig.{Sig}
use Rattle.type_names.specs.Names.{replaced}
use Rattle.type_values.specs.declared.types.FlowType.{FlowType}
use Rattle.merged_signatures.specs.Chains.{Known, View, found, End, at_value, at_alias, unknown, cyclic, Step, ends, goes, goes_to, step_of, step_in, of_kind, end_of, most, denotes}
use Rattle.merged_signatures.specs.Merged.{import_at, as_alias, alias_at, alias_through, alias_imported, alias_named, name_type, type_with, type_at, export_of, signature_with, merged_known, merged}
use Rattle.merged_signatures.specs.Job.{Job, members_view, JobEnd, inside, told, told_of_kind, job_of_kind, job_end_of, told_by, job_end_within, job_denotes, alias_told, job_as_alias, job_alias_at, job_export_of, job_merged}
use Rattle.merged_signatures.specs.Repeats.{onward, next, IsSmall}
use Rattle.merged_signatures.specs.Settled.{IsSettled, AJobTellsTheProgram}
use Rattle.merged_signatures.proofs.Names.{bytes_same, bytes_itself}
use Rattle.merged_signatures.proofs.Walks.{goes_on_for}
use Rattle.merged_signatures.proofs.Bound.{is_open, open_cyclic, unfolds}

module _ {X : Type 0} where
  there_is : (o : Option X) → IsSome o → (x : X) × (o ≡ Some x)
  there_is None some = absurd (let f : false ≡ true = some in cc)
  there_is (Some x) some = (x, refl)

  some_of : (o : Option X) (x : X) → o ≡ Some x → IsSome o
  some_of None x is = absurd (let f : None ≡ Some x = is in cc)
  some_of (Some y) x is = refl

  -- a row that is found is one of a list whose rows all say what f does
  row_says : (f : Bytes → Option X) (rows : Rows X) → AllByRecursion (λ row. f row.0 ≡ Some row.1) rows → (path : Bytes) (x : X) → row_at rows path ≡ Some x → f path ≡ Some x
  row_says f [] all path x is = absurd (let g : None ≡ Some x = is in cc)
  row_says f (row ∷ rows) (first, rest) path x is = go (bytes_eq row.0 path) refl (row_says f rows rest path x) is
    where
      go : (b : Bool) → bytes_eq row.0 path ≡ b → (row_at rows path ≡ Some x → f path ≡ Some x) → cond b (Some row.1) (row_at rows path) ≡ Some x → f path ≡ Some x
      go true e later is = ap f (sym (bytes_same row.0 path e)) ∙ first ∙ is
      go false e later is = later is

  -- each row of a list is found in it
  rows_found : (all rows : Rows X) → ((path : Bytes) → IsSome (row_at rows path) → IsSome (row_at all path)) → AllByRecursion (λ row. IsSome (row_at all row.0)) rows
  rows_found all [] within = tt
  rows_found all (row ∷ rows) within = (within row.0 (here (bytes_eq row.0 row.0) (bytes_itself row.0)), rows_found all rows (λ path some. within path (later path (bytes_eq row.0 path) some)))
    where
      here : (b : Bool) → b ≡ true → IsSome (cond b (Some row.1) (row_at rows row.0))
      here true e = refl
      here false e = absurd (cc)

      later : (path : Bytes) (b : Bool) → IsSome (row_at rows path) → IsSome (cond b (Some row.1) (row_at rows path))
      later path true some = refl
      later path false some = some

  mapped_row : {Y : Type 0} (f : Bytes → Y) (rows : Rows X) (name : Bytes) → row_at (map (λ row. (row.0, f row.0)) rows) name ≡ option_map (λ _. f name) (row_at rows name)
  mapped_row f [] name = refl
  mapped_row {Y} f (row ∷ rows) name = go (bytes_eq row.0 name) refl (mapped_row f rows name)
    where
      go : (b : Bool) → bytes_eq row.0 name ≡ b → row_at (map (λ row. (row.0, f row.0)) rows) name ≡ option_map (λ _. f name) (row_at rows name) → cond b (Some (f row.0)) (row_at (map (λ row. (row.0, f row.0)) rows) name) ≡ option_map (λ _. f name) (cond b (Some row.1) (row_at rows name))
      go true is rest = ap (λ (x : Bytes). Some (f x)) (bytes_same row.0 name is)
      go false is rest = rest

-- where a step ends at a value, it is one of its own module
abbrev pub EndsHere : Bytes → Step → Type 0
EndsHere path (ends (at_value home t)) = home ≡ path
EndsHere path s = Unit {0}

-- a step goes on at a module that a specifier finds
abbrev pub GoesFound : Deps → Step → Type 0
GoesFound deps (ends e) = Unit {0}
GoesFound deps (goes is_type path name) = (spec : Bytes) × (found deps spec ≡ Some path)

ends_here_goes : (path : Bytes) (k : Bool) (name : Bytes) (o : Option Bytes) → EndsHere path (goes_to k name o)
ends_here_goes path k name None = tt
ends_here_goes path k name (Some q) = tt

ends_here_of : (path : Bytes) (deps : Deps) (o : Option Origin) → EndsHere path (step_of path deps o)
ends_here_of path deps None = tt
ends_here_of path deps (Some (origin.Value t)) = refl
ends_here_of path deps (Some (origin.Alias name)) = tt
ends_here_of path deps (Some (origin.Import spec name is_type)) = ends_here_goes path is_type name (found deps spec)
ends_here_of path deps (Some origin.Unknown) = tt

goes_found_to : (deps : Deps) (k : Bool) (name spec : Bytes) (o : Option Bytes) → found deps spec ≡ o → GoesFound deps (goes_to k name o)
goes_found_to deps k name spec None is = tt
goes_found_to deps k name spec (Some q) is = (spec, is)

goes_found_of : (path : Bytes) (deps : Deps) (o : Option Origin) → GoesFound deps (step_of path deps o)
goes_found_of path deps None = tt
goes_found_of path deps (Some (origin.Value t)) = tt
goes_found_of path deps (Some (origin.Alias name)) = tt
goes_found_of path deps (Some (origin.Import spec name is_type)) = goes_found_to deps is_type name spec (found deps spec) refl
goes_found_of path deps (Some origin.Unknown) = tt

module _ (path name : Bytes) (m : Known) where
  pub ends_here : EndsHere path (step_in path (Some m) name)
  ends_here = go m.sig.broken
    where
      go : (b : Bool) → EndsHere path (cond b (ends unknown) (step_of path m.deps (row_at m.sig.exports name)))
      go true = tt
      go false = ends_here_of path m.deps (row_at m.sig.exports name)

  pub goes_found : GoesFound m.deps (step_in path (Some m) name)
  goes_found = go m.sig.broken
    where
      go : (b : Bool) → GoesFound m.deps (cond b (ends unknown) (step_of path m.deps (row_at m.sig.exports name)))
      go true = tt
      go false = goes_found_of path m.deps (row_at m.sig.exports name)

  lost_step : row_at m.sig.exports name ≡ None → step_in path (Some m) name ≡ ends unknown
  lost_step none = go m.sig.broken
    where
      go : (b : Bool) → cond b (ends unknown) (step_of path m.deps (row_at m.sig.exports name)) ≡ ends unknown
      go true = refl
      go false = ap (step_of path m.deps) none

module _ (v : View) (small : IsSmall v) where
  -- what a merged signature tells of a name is what the name denotes
  finished : (path name : Bytes) (s : Sig) → merged v path ≡ Some s → told_by s name ≡ export_of v (denotes v path name)
  finished path name s is = go (v path) refl is
    where
      of_row : (m : Known) → v path ≡ Some m → (o : Option Origin) → row_at m.sig.exports name ≡ o → unwrap_or (option_map (λ _. export_of v (denotes v path name)) o) export.Unknown ≡ export_of v (denotes v path name)
      of_row m there (Some o) at_name = refl
      of_row m there None at_name = sym (ap (export_of v) (unfolds v small path name ∙ ap (λ (k : Option Known). end_of (denotes v) (step_in path k name)) there ∙ ap (end_of (denotes v)) (lost_step path name m at_name)))

      go : (k : Option Known) → v path ≡ k → option_map (merged_known v path) k ≡ Some s → told_by s name ≡ export_of v (denotes v path name)
      go None there is = absurd (let f : None ≡ Some s = is in cc)
      go (Some m) there is =
          let e : merged_known v path m ≡ s = (let f : Some (merged_known v path m) ≡ Some s = is in cc) in
          ap (λ (w : Sig). told_by w name) (sym e) ∙ ap (λ (o : Option Export). unwrap_or o export.Unknown) (mapped_row (λ n. export_of v (denotes v path n)) m.sig.exports name) ∙ of_row m there (row_at m.sig.exports name) refl

  told_kind : (k : Bool) (e : End) → told_of_kind k (export_of v e) ≡ export_of v (of_kind k e)
  told_kind true (at_value path t) = refl
  told_kind false (at_value path t) = refl
  told_kind true (at_alias path name) = refl
  told_kind false (at_alias path name) = refl
  told_kind true unknown = refl
  told_kind false unknown = refl
  told_kind true cyclic = refl
  told_kind false cyclic = refl

  told_alias : (e : End) → alias_told (export_of v e) ≡ as_alias e
  told_alias (at_value path t) = refl
  told_alias (at_alias path name) = refl
  told_alias unknown = refl
  told_alias cyclic = refl

  module _ (job : Job) (settled : IsSettled v job) where
    -- an end in the job and one in the program that tell the same
    data Same : JobEnd → End → Type 0 where
      same_value : (path : Bytes) (t : FlowType) (m : Known) → members_view job path ≡ Some m → v path ≡ Some m → Same (inside (at_value path t)) (at_value path t)
      same_alias : (path name : Bytes) → Same (inside (at_alias path name)) (at_alias path name)
      same_unknown : Same (inside unknown) unknown
      same_cyclic : Same (inside cyclic) cyclic
      same_told : (e : Export) (end : End) → e ≡ export_of v end → Same (told e) end

    same_kind : (k : Bool) (j : JobEnd) (e : End) → Same j e → Same (job_of_kind k j) (of_kind k e)
    same_kind true _ _ (same_value path t m here there) = same_unknown
    same_kind false _ _ (same_value path t m here there) = same_value path t m here there
    same_kind true _ _ (same_alias path name) = same_alias path name
    same_kind false _ _ (same_alias path name) = same_unknown
    same_kind true _ _ same_unknown = same_unknown
    same_kind false _ _ same_unknown = same_unknown
    same_kind true _ _ same_cyclic = same_cyclic
    same_kind false _ _ same_cyclic = same_cyclic
    same_kind k _ _ (same_told e end is) = same_told (told_of_kind k e) (of_kind k end) (ap (told_of_kind k) is ∙ told_kind k end)

    same_as_alias : (j : JobEnd) (e : End) → Same j e → job_as_alias j ≡ as_alias e
    same_as_alias _ _ (same_value path t m here there) = refl
    same_as_alias _ _ (same_alias path name) = refl
    same_as_alias _ _ same_unknown = refl
    same_as_alias _ _ same_cyclic = refl
    same_as_alias _ _ (same_told e end is) = ap alias_told is ∙ told_alias end

    -- the job knows of a module: it is a member, or stands outside
    abbrev Knows : Bytes → Type 0
    Knows path = IsSome (members_view job path) ⊎ IsSome (row_at job.outside path)

    member_known : (path : Bytes) (m : Known) → members_view job path ≡ Some m → v path ≡ Some m
    member_known path m is = row_says v job.members settled.members path m is

    abbrev Meets : ℕ → Bytes → Bytes → JobEnd → Type 0
    Meets n path name j = Same j (denotes v path name) ⊎ ((j ≡ inside cyclic) × (is_open v n path name ≡ true))

    kind_cyclic : (k : Bool) → job_of_kind k (inside cyclic) ≡ inside cyclic
    kind_cyclic true = refl
    kind_cyclic false = refl

    abbrev Rest : ℕ → Type 0
    Rest n = (q m : Bytes) → Knows q → Meets n q m (job_end_within job n q m)

    meets : (n : ℕ) (path name : Bytes) → Knows path → Meets n path name (job_end_within job n path name)
    meets zero path name knows = inr (refl, refl)
    meets (suc n) path name knows = at_outside (row_at job.outside path) refl knows (λ q m k. meets n q m k)
      where
        ended : (m : Known) → members_view job path ≡ Some m → (e : End) → EndsHere path (ends e) → Same (inside e) e
        ended m here (at_value home t) is = let s : home ≡ path = is in same_value home t m (ap (members_view job) s ∙ here) (ap v s ∙ member_known path m here)
        ended m here (at_alias home name) is = same_alias home name
        ended m here unknown is = same_unknown
        ended m here cyclic is = same_cyclic

        steps : (m : Known) → members_view job path ≡ Some m → Rest n → (s : Step) → EndsHere path s → GoesFound m.deps s →
            Same (job_end_of (job_end_within job n) s) (end_of (denotes v) s) ⊎ ((job_end_of (job_end_within job n) s ≡ inside cyclic) × ((elim (onward s) as (λ _. Bool) [ None ↦ false | Some y ↦ goes_on_for (next v) n y ]) ≡ true))
        steps m here rest (ends e) at_home goes_there = inl (ended m here e at_home)
        steps m here rest (goes k q name) at_home (spec, is) = elim (rest q name (settled.closed path q spec m here is)) [
          | inl same ↦ inl (same_kind k (job_end_within job n q name) (denotes v q name) same)
          | inr open_there ↦ inr (ap (job_of_kind k) open_there.0 ∙ kind_cyclic k, open_there.1)
        ]

        at_member : (m : Known) → members_view job path ≡ Some m → Rest n → Meets (suc n) path name (job_end_of (job_end_within job n) (step_in path (members_view job path) name))
        at_member m here rest =
            let there = member_known path m here in
            let same_step : step_in path (Some m) name ≡ step_in path (members_view job path) name = ap (λ (o : Option Known). step_in path o name) (sym here) in
            let own_step : step_in path (Some m) name ≡ step_in path (v path) name = ap (λ (o : Option Known). step_in path o name) (sym there) in
            elim (steps m here rest (step_in path (Some m) name) (ends_here path name m) (goes_found path name m)) [
              | inl same ↦ inl (subst₂ Same (ap (job_end_of (job_end_within job n)) same_step) (ap (end_of (denotes v)) own_step ∙ sym (unfolds v small path name)) same)
              | inr open_there ↦ inr (ap (job_end_of (job_end_within job n)) (sym same_step) ∙ open_there.0, ap (λ (s : Step). elim (onward s) as (λ _. Bool) [ None ↦ false | Some y ↦ goes_on_for (next v) n y ]) (sym own_step) ∙ open_there.1)
            ]

        at_outside : (o : Option Sig) → row_at job.outside path ≡ o → IsSome (members_view job path) ⊎ IsSome o → Rest n →
            Meets (suc n) path name (elim o as (λ _. JobEnd) [ Some s ↦ told (told_by s name) | None ↦ job_end_of (job_end_within job n) (step_in path (members_view job path) name) ])
        at_outside (Some s) is some rest = inl (same_told (told_by s name) (denotes v path name) (finished path name s (row_says (merged v) job.outside settled.outside path s is)))
        at_outside None is (inr some) rest = absurd (let f : false ≡ true = some in cc)
        at_outside None is (inl some) rest = let t = there_is (members_view job path) some in at_member t.0 t.1 rest

    same_end : (path name : Bytes) → Knows path → Same (job_denotes job path name) (denotes v path name)
    same_end path name knows = elim (meets most path name knows) [
      | inl same ↦ same
      | inr open_there ↦ subst₂ Same (sym open_there.0) (sym (open_cyclic v most path name open_there.1)) same_cyclic
    ]

    same_alias_at : (k : Bool) (path name : Bytes) → Knows path → job_alias_at job k path name ≡ alias_at v k path name
    same_alias_at k path name knows = same_as_alias _ _ (same_kind k (job_denotes job path name) (denotes v path name) (same_end path name knows))

    same_name : (path local : Bytes) (m : Known) → members_view job path ≡ Some m → alias_named (job_alias_at job) path m local ≡ alias_named (alias_at v) path m local
    same_name path local m here = own (is_some (row_at m.sig.aliases local))
      where
        through : (row : ImportRow) (o : Option Bytes) → found m.deps row.spec ≡ o → alias_through (job_alias_at job) row o ≡ alias_through (alias_at v) row o
        through row None is = refl
        through row (Some q) is = same_alias_at row.is_type q row.name (settled.closed path q row.spec m here is)

        imported : (r : Option ImportRow) → alias_imported (job_alias_at job) m.deps r ≡ alias_imported (alias_at v) m.deps r
        imported None = refl
        imported (Some row) = through row (found m.deps row.spec) refl

        own : (b : Bool) → cond b (Some (path, local)) (alias_imported (job_alias_at job) m.deps (import_at m.sig.imports local)) ≡ cond b (Some (path, local)) (alias_imported (alias_at v) m.deps (import_at m.sig.imports local))
        own true = refl
        own false = imported (import_at m.sig.imports local)

    same_type : (path : Bytes) (m : Known) → members_view job path ≡ Some m → (t : FlowType) → type_with (job_alias_at job) path m t ≡ type_with (alias_at v) path m t
    same_type path m here t = λ i. replaced (λ n. name_type (same_name path n.1 m here i)) t

    same_export : (j : JobEnd) (e : End) → Same j e → job_export_of job j ≡ export_of v e
    same_export _ _ (same_value path t m here there) =
        ap (λ (o : Option Known). export.Value (type_at (job_alias_at job) path o t)) here
        ∙ ap export.Value (same_type path m here t)
        ∙ sym (ap (λ (o : Option Known). export.Value (type_at (alias_at v) path o t)) there)
    same_export _ _ (same_alias path name) = refl
    same_export _ _ same_unknown = refl
    same_export _ _ same_cyclic = refl
    same_export _ _ (same_told e end is) = is

    same_merged : (path : Bytes) (m : Known) → members_view job path ≡ Some m → job_merged job (path, m) ≡ merged_known v path m
    same_merged path m here = λ i. signature_with (λ name. same_export (job_denotes job path name) (denotes v path name) (same_end path name (inl (some_of (members_view job path) m here))) i) (λ t. same_type path m here t i) m

    each_merged : (rows : Rows Known) → AllByRecursion (λ row. v row.0 ≡ Some row.1) rows → AllByRecursion (λ row. IsSome (members_view job row.0)) rows → map (job_merged job) rows ≡ map (λ row. merged_known v row.0 row.1) rows
    each_merged [] known there = refl
    each_merged ((path, m) ∷ rows) (known, more) (there, others) =
        let t = there_is (members_view job path) there in
        ap₂ (λ (s : Sig) (l : List Sig). s ∷ l) (same_merged path m (t.1 ∙ sym (member_known path t.0 t.1) ∙ known)) (each_merged rows more others)

pub tells_the_program : AJobTellsTheProgram
tells_the_program v job small settled = each_merged v small job settled job.members settled.members (rows_found job.members job.members (λ path some. some))
