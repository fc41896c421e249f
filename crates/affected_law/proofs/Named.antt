-- A merged signature names only modules of which something is known.
use Rattle.std.proofs.Common.{◌≡◌, ℕ, zero, suc, Bool, true, false, cond, List, [], ◌∷◌, map, Option, Some, None, is_some, IsSome, option_map, bytes_eq, refl, sym, ap, subst, ◌||◌}
use Rattle.std.specs.Cmp.Lexicographic.{bytes_decides}
use Rattle.std.specs.List.{flat_map}
use Rattle.check_values.specs.Rows.{Bytes, is_among, row_at}
use Rattle.check_values.specs.declared.signatures.Export.{Export}
use Rattle.check_values.specs.declared.signatures.ImportRow.{ImportRow}
use Rattle.check_values.specs.declared.signatures.Origin.{Origin}
use Rattle.check_values.specs.declared.signatures.Origin.TheVariants as origin
use Rattle.check_values.specs.declared.signatures.Sig.{Sig}
use Rattle.type_values.specs.declared.types.FlowType.{FlowType}
use Rattle.type_names.specs.Names.{Name}
use Rattle.merged_signatures.specs.Chains.{Known, View, found, End, at_value, at_alias, unknown, cyclic, ends, goes_to, step_of, step_in, of_kind, end_of, end_within, most, denotes}
use Rattle.merged_signatures.specs.Merged.{import_at, as_alias, alias_at, alias_through, alias_imported, alias_named, name_type, type_with, type_at, export_of, merged_known, merged}
use Rattle.merged_signatures.specs.Reach.{paths_in, paths_of_export, paths_named}
use Rattle.affected_law.proofs.NamesIn.{Inside, inside_append, any_inside, ref_inside, replaced_inside}

module _ (v : View) where
  -- something is known of a path
  abbrev IsKnown : Bytes → Type 0
  IsKnown path = IsSome (v path)

  is_known : (path : Bytes) (m : Known) → v path ≡ Some m → IsKnown path
  is_known path m is = ap is_some is

  -- a chain that ends at an alias ends at one of a known module
  abbrev EndsKnown : End → Type 0
  EndsKnown (at_alias path name) = IsKnown path
  EndsKnown e = Unit {0}

  kind_known : (k : Bool) (e : End) → EndsKnown e → EndsKnown (of_kind k e)
  kind_known true (at_value path t) h = tt
  kind_known false (at_value path t) h = tt
  kind_known true (at_alias path name) h = h
  kind_known false (at_alias path name) h = tt
  kind_known true unknown h = tt
  kind_known false unknown h = tt
  kind_known true cyclic h = tt
  kind_known false cyclic h = tt

  ends_known : (n : ℕ) (path name : Bytes) → EndsKnown (end_within v n path name)
  ends_known zero path name = tt
  ends_known (suc n) path name = from (v path) refl (ends_known n)
    where
      found_known : ((q l : Bytes) → EndsKnown (end_within v n q l)) → (k : Bool) (l : Bytes) (o : Option Bytes) → EndsKnown (end_of (end_within v n) (goes_to k l o))
      found_known rest k l None = tt
      found_known rest k l (Some q) = kind_known k (end_within v n q l) (rest q l)

      step_known : ((q l : Bytes) → EndsKnown (end_within v n q l)) → (m : Known) → v path ≡ Some m → (o : Option Origin) → EndsKnown (end_of (end_within v n) (step_of path m.deps o))
      step_known rest m is None = tt
      step_known rest m is (Some (origin.Value t)) = tt
      step_known rest m is (Some (origin.Alias l)) = is_known path m is
      step_known rest m is (Some (origin.Import spec l k)) = found_known rest k l (found m.deps spec)
      step_known rest m is (Some origin.Unknown) = tt

      whole_known : ((q l : Bytes) → EndsKnown (end_within v n q l)) → (m : Known) → v path ≡ Some m → (b : Bool) → EndsKnown (end_of (end_within v n) (cond b (ends unknown) (step_of path m.deps (row_at m.sig.exports name))))
      whole_known rest m is true = tt
      whole_known rest m is false = step_known rest m is (row_at m.sig.exports name)

      from : (o : Option Known) → v path ≡ o → ((q l : Bytes) → EndsKnown (end_within v n q l)) → EndsKnown (end_of (end_within v n) (step_in path o name))
      from None is rest = tt
      from (Some m) is rest = whole_known rest m is m.sig.broken

  -- the alias that a name stands for is one of a known module
  abbrev NameKnown : Option Name → Type 0
  NameKnown None = Unit {0}
  NameKnown (Some n) = IsKnown n.0

  as_alias_known : (e : End) → EndsKnown e → NameKnown (as_alias e)
  as_alias_known (at_value path t) h = tt
  as_alias_known (at_alias path name) h = h
  as_alias_known unknown h = tt
  as_alias_known cyclic h = tt

  alias_known : (k : Bool) (path name : Bytes) → NameKnown (alias_at v k path name)
  alias_known k path name = as_alias_known (of_kind k (denotes v path name)) (kind_known k (denotes v path name) (ends_known most path name))

  named_known : (path : Bytes) (m : Known) → v path ≡ Some m → (local : Bytes) → NameKnown (alias_named (alias_at v) path m local)
  named_known path m is local = own (is_some (row_at m.sig.aliases local))
    where
      through : (row : ImportRow) (o : Option Bytes) → NameKnown (alias_through (alias_at v) row o)
      through row None = tt
      through row (Some q) = alias_known row.is_type q row.name

      imported : (r : Option ImportRow) → NameKnown (alias_imported (alias_at v) m.deps r)
      imported None = tt
      imported (Some row) = through row (found m.deps row.spec)

      own : (b : Bool) → NameKnown (cond b (Some (path, local)) (alias_imported (alias_at v) m.deps (import_at m.sig.imports local)))
      own true = is_known path m is
      own false = imported (import_at m.sig.imports local)

  -- and so is each name in a type of a signature
  name_known : (o : Option Name) → NameKnown o → Inside IsKnown (paths_in (name_type o))
  name_known None h = any_inside IsKnown
  name_known (Some n) h = ref_inside IsKnown n.0 n.1 h

  type_known : (path : Bytes) (m : Known) → v path ≡ Some m → (t : FlowType) → Inside IsKnown (paths_in (type_with (alias_at v) path m t))
  type_known path m is t = replaced_inside IsKnown (λ n. name_type (alias_named (alias_at v) path m n.1)) (λ n. name_known (alias_named (alias_at v) path m n.1) (named_known path m is n.1)) t

  export_known : (e : End) → EndsKnown e → Inside IsKnown (paths_of_export (export_of v e))
  export_known (at_value path t) h = from (v path) refl
    where
      from : (o : Option Known) → v path ≡ o → Inside IsKnown (paths_in (type_at (alias_at v) path o t))
      from None is = any_inside IsKnown
      from (Some m) is = type_known path m is t
  export_known (at_alias path name) h = (h, tt)
  export_known unknown h = tt
  export_known cyclic h = tt

  each_known : {X Y : Type 0} (f : X → Y) (paths : Y → List Bytes) → ((x : X) → Inside IsKnown (paths (f x))) → (xs : List X) → Inside IsKnown (flat_map paths (map f xs))
  each_known f paths each [] = tt
  each_known f paths each (x ∷ xs) = inside_append IsKnown (paths (f x)) (flat_map paths (map f xs)) (each x) (each_known f paths each xs)

  sig_known : (path : Bytes) (m : Known) → v path ≡ Some m → Inside IsKnown (paths_named (merged_known v path m))
  sig_known path m is =
      inside_append IsKnown _ _
      (each_known (λ (row : Bytes × Origin). (row.0, export_of v (denotes v path row.0))) (λ (row : Bytes × Export). paths_of_export row.1) (λ row. export_known (denotes v path row.0) (ends_known most path row.0)) m.sig.exports)
      (each_known (λ (row : Bytes × FlowType). (row.0, type_with (alias_at v) path m row.1)) (λ (row : Bytes × FlowType). paths_in row.1) (λ row. type_known path m is row.1) m.sig.aliases)

  among_known : (paths : List Bytes) (other : Bytes) → Inside IsKnown paths → is_among paths other ≡ true → IsKnown other
  among_known [] other all is = absurd (let z : false ≡ true = is in cc)
  among_known (p ∷ paths) other all is = go (bytes_eq other p) refl (among_known paths other all.1) is
    where
      go : (b : Bool) → bytes_eq other p ≡ b → (is_among paths other ≡ true → IsKnown other) → (b || is_among paths other) ≡ true → IsKnown other
      go true e rest h = subst IsKnown (sym ((bytes_decides other p).0 e)) all.0
      go false e rest h = rest h

  pub signature_names_known : (path other : Bytes) (s : Sig) → merged v path ≡ Some s → is_among (paths_named s) other ≡ true → IsSome (v other)
  signature_names_known path other s is named = from (v path) refl is
    where
      from : (o : Option Known) → v path ≡ o → option_map (merged_known v path) o ≡ Some s → IsKnown other
      from None there e = absurd (let z : None ≡ Some s = e in cc)
      from (Some m) there e = among_known (paths_named s) other (subst (λ (t : Sig). Inside IsKnown (paths_named t)) (one (merged_known v path m) s e) (sig_known path m there)) named
        where
          one : (x y : Sig) → Some x ≡ Some y → x ≡ y
          one x y f = cc
