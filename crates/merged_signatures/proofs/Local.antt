-- A merged signature depends on what its module leads to by imports, and on nothing else.
use Rattle.std.proofs.Common.{◌≡◌, ℕ, zero, suc, Bool, true, false, Option, Some, None, refl, sym, ap, ◌∙◌, subst, cond, is_some, option_map}
use Rattle.check_values.specs.Rows.{Bytes, row_at}
use Rattle.check_values.specs.declared.signatures.ImportRow.{ImportRow}
use Rattle.check_values.specs.declared.signatures.Export.TheVariants as export
use Rattle.check_values.specs.declared.signatures.Sig.{Sig}
use Rattle.type_names.specs.Names.{replaced}
use Rattle.type_values.specs.declared.types.FlowType.{FlowType}
use Rattle.merged_signatures.specs.Chains.{Known, View, found, End, at_value, at_alias, unknown, cyclic, Step, ends, goes, step_in, of_kind, end_of, end_within, most, denotes}
use Rattle.merged_signatures.specs.Merged.{import_at, as_alias, alias_at, alias_through, alias_imported, alias_named, name_type, type_with, type_at, export_of, signature_with, merged_known, merged}
use Rattle.merged_signatures.specs.Imports.{Imports, itself, further, IsLocal}
use Rattle.merged_signatures.proofs.Telling.{EndsHere, ends_here, GoesFound, goes_found}

module _ (v w : View) (start : Bytes) (alike : (path : Bytes) → Imports w start path → w path ≡ v path) where
  abbrev In : Bytes → Type 0
  In path = Imports w start path

  end_same : (n : ℕ) (path name : Bytes) → In path → end_within w n path name ≡ end_within v n path name
  end_same zero path name there = refl
  end_same (suc n) path name there =
      from (w path) refl (λ q m k. end_same n q m k) ∙ ap (λ (o : Option Known). end_of (end_within v n) (step_in path o name)) (alike path there)
    where
      steps : (m : Known) → w path ≡ Some m → ((q l : Bytes) → In q → end_within w n q l ≡ end_within v n q l) → (s : Step) → GoesFound m.deps s → end_of (end_within w n) s ≡ end_of (end_within v n) s
      steps m is rest (ends e) goes_there = refl
      steps m is rest (goes k q l) (spec, at) = ap (of_kind k) (rest q l (further path q there (m, spec, is, at)))

      from : (o : Option Known) → w path ≡ o → ((q l : Bytes) → In q → end_within w n q l ≡ end_within v n q l) → end_of (end_within w n) (step_in path o name) ≡ end_of (end_within v n) (step_in path o name)
      from None is rest = refl
      from (Some m) is rest = steps m is rest (step_in path (Some m) name) (goes_found path name m)

  -- a chain ends at a value of such a module
  abbrev EndsIn : End → Type 0
  EndsIn (at_value path t) = In path
  EndsIn e = Unit {0}

  kind_in : (k : Bool) (e : End) → EndsIn e → EndsIn (of_kind k e)
  kind_in true (at_value path t) there = tt
  kind_in false (at_value path t) there = there
  kind_in true (at_alias path name) there = tt
  kind_in false (at_alias path name) there = tt
  kind_in true unknown there = tt
  kind_in false unknown there = tt
  kind_in true cyclic there = tt
  kind_in false cyclic there = tt

  end_in : (n : ℕ) (path name : Bytes) → In path → EndsIn (end_within w n path name)
  end_in zero path name there = tt
  end_in (suc n) path name there = from (w path) refl (λ q m k. end_in n q m k)
    where
      ended : (e : End) → EndsHere path (ends e) → EndsIn e
      ended (at_value home t) is = let same : home ≡ path = is in subst In (sym same) there
      ended (at_alias home l) is = tt
      ended unknown is = tt
      ended cyclic is = tt

      steps : (m : Known) → w path ≡ Some m → ((q l : Bytes) → In q → EndsIn (end_within w n q l)) → (s : Step) → EndsHere path s → GoesFound m.deps s → EndsIn (end_of (end_within w n) s)
      steps m is rest (ends e) here goes_there = ended e here
      steps m is rest (goes k q l) here (spec, at) = kind_in k (end_within w n q l) (rest q l (further path q there (m, spec, is, at)))

      from : (o : Option Known) → w path ≡ o → ((q l : Bytes) → In q → EndsIn (end_within w n q l)) → EndsIn (end_of (end_within w n) (step_in path o name))
      from None is rest = tt
      from (Some m) is rest = steps m is rest (step_in path (Some m) name) (ends_here path name m) (goes_found path name m)

  alias_same : (k : Bool) (path name : Bytes) → In path → alias_at w k path name ≡ alias_at v k path name
  alias_same k path name there = ap (λ (e : End). as_alias (of_kind k e)) (end_same most path name there)

  name_same : (path local : Bytes) (m : Known) → In path → w path ≡ Some m → alias_named (alias_at w) path m local ≡ alias_named (alias_at v) path m local
  name_same path local m there here = own (is_some (row_at m.sig.aliases local))
    where
      through : (row : ImportRow) (o : Option Bytes) → found m.deps row.spec ≡ o → alias_through (alias_at w) row o ≡ alias_through (alias_at v) row o
      through row None is = refl
      through row (Some q) is = alias_same row.is_type q row.name (further path q there (m, row.spec, here, is))

      imported : (r : Option ImportRow) → alias_imported (alias_at w) m.deps r ≡ alias_imported (alias_at v) m.deps r
      imported None = refl
      imported (Some row) = through row (found m.deps row.spec) refl

      own : (b : Bool) → cond b (Some (path, local)) (alias_imported (alias_at w) m.deps (import_at m.sig.imports local)) ≡ cond b (Some (path, local)) (alias_imported (alias_at v) m.deps (import_at m.sig.imports local))
      own true = refl
      own false = imported (import_at m.sig.imports local)

  type_same : (path : Bytes) (m : Known) → In path → w path ≡ Some m → (t : FlowType) → type_with (alias_at w) path m t ≡ type_with (alias_at v) path m t
  type_same path m there here t = λ i. replaced (λ n. name_type (name_same path n.1 m there here i)) t

  type_at_same : (path : Bytes) (t : FlowType) → In path → type_at (alias_at w) path (w path) t ≡ type_at (alias_at v) path (v path) t
  type_at_same path t there = from (w path) refl ∙ ap (λ (o : Option Known). type_at (alias_at v) path o t) (alike path there)
    where
      from : (o : Option Known) → w path ≡ o → type_at (alias_at w) path o t ≡ type_at (alias_at v) path o t
      from None is = refl
      from (Some m) is = type_same path m there is t

  export_same : (e : End) → EndsIn e → export_of w e ≡ export_of v e
  export_same (at_value path t) there = ap export.Value (type_at_same path t there)
  export_same (at_alias path name) there = refl
  export_same unknown there = refl
  export_same cyclic there = refl

  denotes_same : (path name : Bytes) → In path → export_of w (denotes w path name) ≡ export_of v (denotes v path name)
  denotes_same path name there = export_same (denotes w path name) (end_in most path name there) ∙ ap (export_of v) (end_same most path name there)

  known_same : (m : Known) → w start ≡ Some m → merged_known w start m ≡ merged_known v start m
  known_same m is = λ i. signature_with (λ name. denotes_same start name itself i) (λ t. type_same start m itself is t i) m

  merged_same : merged w start ≡ merged v start
  merged_same = from (w start) refl ∙ ap (option_map (merged_known v start)) (alike start itself)
    where
      from : (o : Option Known) → w start ≡ o → option_map (merged_known w start) o ≡ option_map (merged_known v start) o
      from None is = refl
      from (Some m) is = ap (λ (s : Sig). Some s) (known_same m is)

pub merging_is_local : IsLocal
merging_is_local v w start alike = merged_same v w start alike
