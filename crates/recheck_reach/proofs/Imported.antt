-- A merged signature names only modules to which the imports of its module lead.
use Rattle.std.proofs.Common.{◌≡◌, ℕ, zero, suc, Bool, true, false, cond, List, [], ◌∷◌, map, Option, Some, None, is_some, option_map, bytes_eq, refl, sym, subst, ◌||◌}
use Rattle.std.specs.Cmp.Lexicographic.{bytes_decides}
use Rattle.std.specs.List.{flat_map}
use Rattle.type_values.specs.declared.types.FlowType.{FlowType}
use Rattle.check_values.specs.Rows.{Bytes, is_among, row_at}
use Rattle.check_values.specs.declared.signatures.Export.{Export}
use Rattle.check_values.specs.declared.signatures.ImportRow.{ImportRow}
use Rattle.check_values.specs.declared.signatures.Origin.{Origin}
use Rattle.check_values.specs.declared.signatures.Origin.TheVariants as origin
use Rattle.check_values.specs.declared.signatures.Sig.{Sig}
use Rattle.merged_signatures.specs.Chains.{Known, View, found, End, at_value, at_alias, unknown, cyclic, ends, goes_to, step_of, step_in, of_kind, end_of, end_within, most, denotes}
use Rattle.merged_signatures.specs.Imports.{Imports, itself, further}
use Rattle.merged_signatures.specs.Merged.{import_at, as_alias, alias_at, alias_through, alias_imported, alias_named, name_type, type_with, type_at, export_of, merged_known, merged}
use Rattle.merged_signatures.specs.Reach.{paths_in, paths_of_export, paths_named}
use Rattle.recheck_sources.specs.affected_law.proofs.NamesIn.{Inside, inside_append, any_inside, ref_inside, replaced_inside}
use Rattle.recheck_reach.specs.Law.{NamedIsImported}

module _ (v : View) (start : Bytes) where
  -- imports lead here
  abbrev IsLed : Bytes → Type 0
  IsLed path = Imports v start path

  -- a module that one to which imports lead finds is another such
  led_on : (path other spec : Bytes) (m : Known) → v path ≡ Some m → IsLed path → found m.deps spec ≡ Some other → IsLed other
  led_on path other spec m is led finds = further path other led (m, spec, is, finds)

  -- a chain ends at a value or an alias of such a module
  abbrev EndsLed : End → Type 0
  EndsLed (at_value path t) = IsLed path
  EndsLed (at_alias path name) = IsLed path
  EndsLed e = Unit {0}

  kind_led : (k : Bool) (e : End) → EndsLed e → EndsLed (of_kind k e)
  kind_led true (at_value path t) led = tt
  kind_led false (at_value path t) led = led
  kind_led true (at_alias path name) led = led
  kind_led false (at_alias path name) led = tt
  kind_led true unknown led = tt
  kind_led false unknown led = tt
  kind_led true cyclic led = tt
  kind_led false cyclic led = tt

  ends_led : (n : ℕ) (path name : Bytes) → IsLed path → EndsLed (end_within v n path name)
  ends_led zero path name led = tt
  ends_led (suc n) path name led = from (v path) refl (ends_led n)
    where
      found_led : ((q l : Bytes) → IsLed q → EndsLed (end_within v n q l)) → (m : Known) → v path ≡ Some m → (spec : Bytes) (k : Bool) (l : Bytes) (o : Option Bytes) → found m.deps spec ≡ o → EndsLed (end_of (end_within v n) (goes_to k l o))
      found_led rest m is spec k l None finds = tt
      found_led rest m is spec k l (Some q) finds = kind_led k (end_within v n q l) (rest q l (led_on path q spec m is led finds))

      step_led : ((q l : Bytes) → IsLed q → EndsLed (end_within v n q l)) → (m : Known) → v path ≡ Some m → (o : Option Origin) → EndsLed (end_of (end_within v n) (step_of path m.deps o))
      step_led rest m is None = tt
      step_led rest m is (Some (origin.Value t)) = led
      step_led rest m is (Some (origin.Alias l)) = led
      step_led rest m is (Some (origin.Import spec l k)) = found_led rest m is spec k l (found m.deps spec) refl
      step_led rest m is (Some origin.Unknown) = tt

      whole_led : ((q l : Bytes) → IsLed q → EndsLed (end_within v n q l)) → (m : Known) → v path ≡ Some m → (b : Bool) → EndsLed (end_of (end_within v n) (cond b (ends unknown) (step_of path m.deps (row_at m.sig.exports name))))
      whole_led rest m is true = tt
      whole_led rest m is false = step_led rest m is (row_at m.sig.exports name)

      from : (o : Option Known) → v path ≡ o → ((q l : Bytes) → IsLed q → EndsLed (end_within v n q l)) → EndsLed (end_of (end_within v n) (step_in path o name))
      from None is rest = tt
      from (Some m) is rest = whole_led rest m is m.sig.broken

  -- the alias that a name stands for is one of such a module
  abbrev NameLed : Option (Bytes × Bytes) → Type 0
  NameLed None = Unit {0}
  NameLed (Some n) = IsLed n.0

  as_alias_led : (e : End) → EndsLed e → NameLed (as_alias e)
  as_alias_led (at_value path t) led = tt
  as_alias_led (at_alias path name) led = led
  as_alias_led unknown led = tt
  as_alias_led cyclic led = tt

  alias_led : (k : Bool) (path name : Bytes) → IsLed path → NameLed (alias_at v k path name)
  alias_led k path name led = as_alias_led (of_kind k (denotes v path name)) (kind_led k (denotes v path name) (ends_led most path name led))

  module _ (path : Bytes) (m : Known) (is : v path ≡ Some m) (led : IsLed path) where
    named_led : (local : Bytes) → NameLed (alias_named (alias_at v) path m local)
    named_led local = own (is_some (row_at m.sig.aliases local))
      where
        through : (row : ImportRow) (o : Option Bytes) → found m.deps row.spec ≡ o → NameLed (alias_through (alias_at v) row o)
        through row None finds = tt
        through row (Some q) finds = alias_led row.is_type q row.name (led_on path q row.spec m is led finds)

        imported : (r : Option ImportRow) → NameLed (alias_imported (alias_at v) m.deps r)
        imported None = tt
        imported (Some row) = through row (found m.deps row.spec) refl

        own : (b : Bool) → NameLed (cond b (Some (path, local)) (alias_imported (alias_at v) m.deps (import_at m.sig.imports local)))
        own true = led
        own false = imported (import_at m.sig.imports local)

    name_led : (o : Option (Bytes × Bytes)) → NameLed o → Inside IsLed (paths_in (name_type o))
    name_led None here = any_inside IsLed
    name_led (Some n) here = ref_inside IsLed n.0 n.1 here

    type_led : (t : FlowType) → Inside IsLed (paths_in (type_with (alias_at v) path m t))
    type_led = replaced_inside IsLed (λ n. name_type (alias_named (alias_at v) path m n.1)) (λ n. name_led (alias_named (alias_at v) path m n.1) (named_led n.1))

  export_led : (e : End) → EndsLed e → Inside IsLed (paths_of_export (export_of v e))
  export_led (at_value path t) led = from (v path) refl
    where
      from : (o : Option Known) → v path ≡ o → Inside IsLed (paths_in (type_at (alias_at v) path o t))
      from None is = any_inside IsLed
      from (Some m) is = type_led path m is led t
  export_led (at_alias path name) led = (led, tt)
  export_led unknown led = tt
  export_led cyclic led = tt

  each_led : {X Y : Type 0} (f : X → Y) (paths : Y → List Bytes) → ((x : X) → Inside IsLed (paths (f x))) → (xs : List X) → Inside IsLed (flat_map paths (map f xs))
  each_led f paths each [] = tt
  each_led f paths each (x ∷ xs) = inside_append IsLed (paths (f x)) (flat_map paths (map f xs)) (each x) (each_led f paths each xs)

  sig_led : (m : Known) → v start ≡ Some m → Inside IsLed (paths_named (merged_known v start m))
  sig_led m is =
      inside_append IsLed _ _
      (each_led (λ (row : Bytes × Origin). (row.0, export_of v (denotes v start row.0))) (λ (row : Bytes × Export). paths_of_export row.1) (λ row. export_led (denotes v start row.0) (ends_led most start row.0 itself)) m.sig.exports)
      (each_led (λ (row : Bytes × FlowType). (row.0, type_with (alias_at v) start m row.1)) (λ (row : Bytes × FlowType). paths_in row.1) (λ row. type_led start m is itself row.1) m.sig.aliases)

  among_led : (paths : List Bytes) (other : Bytes) → Inside IsLed paths → is_among paths other ≡ true → IsLed other
  among_led [] other all is = absurd (let z : false ≡ true = is in cc)
  among_led (p ∷ paths) other all is = go (bytes_eq other p) refl (among_led paths other all.1) is
    where
      go : (b : Bool) → bytes_eq other p ≡ b → (is_among paths other ≡ true → IsLed other) → (b || is_among paths other) ≡ true → IsLed other
      go true e rest here = subst IsLed (sym ((bytes_decides other p).0 e)) all.0
      go false e rest here = rest here

  names_led : (other : Bytes) (s : Sig) → merged v start ≡ Some s → is_among (paths_named s) other ≡ true → IsLed other
  names_led other s is named = from (v start) refl is
    where
      one : (x y : Sig) → Some x ≡ Some y → x ≡ y
      one x y same = cc

      from : (o : Option Known) → v start ≡ o → option_map (merged_known v start) o ≡ Some s → IsLed other
      from None there e = absurd (let z : None ≡ Some s = e in cc)
      from (Some m) there e = among_led (paths_named s) other (subst (λ (t : Sig). Inside IsLed (paths_named t)) (one (merged_known v start m) s e) (sig_led m there)) named

pub named_is_imported : NamedIsImported
named_is_imported v path other s is named = names_led v path other s is named
