-- What a name denotes unfolds, and is cyclic where its chain goes on for as many steps as the bound.
use Rattle.std.proofs.Common.{◌≡◌, ℕ, zero, suc, Bool, true, false, Option, Some, None, refl, sym, ap, ◌∙◌, cond}
use Rattle.check_values.specs.Rows.{Bytes, row_at}
use Rattle.check_values.specs.declared.signatures.Origin.{Origin}
use Rattle.check_values.specs.declared.signatures.Origin.TheVariants as origin
use Rattle.check_values.specs.declared.signatures.Deps.{Deps}
use Rattle.merged_signatures.specs.Chains.{Known, View, found, End, at_value, at_alias, unknown, cyclic, Step, ends, goes, goes_to, step_of, step_in, of_kind, end_of, end_within, most, denotes}
use Rattle.merged_signatures.specs.Repeats.{onward, next, Repeats, IsSmall, IsToldByOneStep, IsCyclicWhereItRepeats}
use Rattle.merged_signatures.proofs.Walks.{goes_on_for, repeats_goes_on, long_repeats}
use Rattle.merged_signatures.specs.Repeats.{name_eq}
use Rattle.merged_signatures.proofs.Names.{name_laws, same_name}

pub kinds : (k : Bool) → of_kind k cyclic ≡ cyclic
kinds true = refl
kinds false = refl

-- an end other than cyclic stays other
abbrev is_cyclic : End → Bool
is_cyclic cyclic = true
is_cyclic (at_value path t) = false
is_cyclic (at_alias path name) = false
is_cyclic unknown = false

kind_other : (k : Bool) (e : End) → is_cyclic e ≡ false → is_cyclic (of_kind k e) ≡ false
kind_other k cyclic is = absurd (cc)
kind_other true (at_value path t) is = refl
kind_other false (at_value path t) is = refl
kind_other true (at_alias path name) is = refl
kind_other false (at_alias path name) is = refl
kind_other true unknown is = refl
kind_other false unknown is = refl

-- no step ends as cyclic
abbrev ends_cyclic : Step → Bool
ends_cyclic (ends e) = is_cyclic e
ends_cyclic (goes is_type path name) = false

goes_other : (k : Bool) (name : Bytes) (o : Option Bytes) → ends_cyclic (goes_to k name o) ≡ false
goes_other k name None = refl
goes_other k name (Some path) = refl

origin_other : (path : Bytes) (deps : Deps) (o : Option Origin) → ends_cyclic (step_of path deps o) ≡ false
origin_other path deps None = refl
origin_other path deps (Some (origin.Value t)) = refl
origin_other path deps (Some (origin.Alias name)) = refl
origin_other path deps (Some (origin.Import spec name is_type)) = goes_other is_type name (found deps spec)
origin_other path deps (Some origin.Unknown) = refl

step_other : (path : Bytes) (o : Option Known) (name : Bytes) → ends_cyclic (step_in path o name) ≡ false
step_other path None name = refl
step_other path (Some m) name = go m.sig.broken
  where
    go : (b : Bool) → ends_cyclic (cond b (ends unknown) (step_of path m.deps (row_at m.sig.exports name))) ≡ false
    go true = refl
    go false = origin_other path m.deps (row_at m.sig.exports name)

module _ (v : View) where
  abbrev pub is_open : ℕ → Bytes → Bytes → Bool
  is_open n path name = goes_on_for (next v) n (path, name)

  pub open_cyclic : (n : ℕ) (path name : Bytes) → is_open n path name ≡ true → end_within v n path name ≡ cyclic
  open_cyclic zero path name on = refl
  open_cyclic (suc n) path name on = go (step_in path (v path) name) (λ q m. open_cyclic n q m) on
    where
      go : (s : Step) → ((q m : Bytes) → is_open n q m ≡ true → end_within v n q m ≡ cyclic) → (elim (onward s) as (λ _. Bool) [ None ↦ false | Some y ↦ goes_on_for (next v) n y ]) ≡ true → end_of (end_within v n) s ≡ cyclic
      go (ends e) rest on = absurd (cc)
      go (goes k q m) rest on = ap (of_kind k) (rest q m on) ∙ kinds k

  -- what has ended within n steps ends so with one more
  closed_same : (n : ℕ) (path name : Bytes) → is_open n path name ≡ false → end_within v n path name ≡ end_within v (suc n) path name
  closed_same zero path name off = absurd (cc)
  closed_same (suc n) path name off = go (step_in path (v path) name) (λ q m. closed_same n q m) off
    where
      go : (s : Step) → ((q m : Bytes) → is_open n q m ≡ false → end_within v n q m ≡ end_within v (suc n) q m) → (elim (onward s) as (λ _. Bool) [ None ↦ false | Some y ↦ goes_on_for (next v) n y ]) ≡ false → end_of (end_within v n) s ≡ end_of (end_within v (suc n)) s
      go (ends e) rest off = refl
      go (goes k q m) rest off = ap (of_kind k) (rest q m off)

  module _ (small : IsSmall v) where
    open_repeats : (path name : Bytes) → is_open most path name ≡ true → Repeats (next v) (path, name)
    open_repeats path name on = long_repeats (next v) name_eq name_laws same_name small.names small.all most small.few (path, name) on

    pub unfolds : (path name : Bytes) → denotes v path name ≡ end_of (denotes v) (step_in path (v path) name)
    unfolds path name = either (is_open most path name) refl
      where
        either : (b : Bool) → is_open most path name ≡ b → end_within v most path name ≡ end_within v (suc most) path name
        either true on = open_cyclic most path name on ∙ sym (open_cyclic (suc most) path name (repeats_goes_on (next v) (path, name) (open_repeats path name on) (suc most)))
        either false off = closed_same most path name off

  closed_other : (n : ℕ) (path name : Bytes) → is_open n path name ≡ false → is_cyclic (end_within v n path name) ≡ false
  closed_other zero path name off = absurd (cc)
  closed_other (suc n) path name off = go (step_in path (v path) name) (step_other path (v path) name) (λ q m. closed_other n q m) off
    where
      go : (s : Step) → ends_cyclic s ≡ false → ((q m : Bytes) → is_open n q m ≡ false → is_cyclic (end_within v n q m) ≡ false) → (elim (onward s) as (λ _. Bool) [ None ↦ false | Some y ↦ goes_on_for (next v) n y ]) ≡ false → is_cyclic (end_of (end_within v n) s) ≡ false
      go (ends e) other rest off = other
      go (goes k q m) other rest off = kind_other k (end_within v n q m) (rest q m off)

  cyclic_open : (n : ℕ) (path name : Bytes) → end_within v n path name ≡ cyclic → is_open n path name ≡ true
  cyclic_open n path name is = either (is_open n path name) refl
    where
      either : (b : Bool) → is_open n path name ≡ b → is_open n path name ≡ true
      either true on = on
      either false off = absurd (let a = closed_other n path name off in let b : is_cyclic (end_within v n path name) ≡ true = ap is_cyclic is in cc)

pub told_by_one_step : IsToldByOneStep
told_by_one_step v small path name = unfolds v small path name

pub cyclic_where_it_repeats : IsCyclicWhereItRepeats
cyclic_where_it_repeats v small path name =
    (λ is. open_repeats v small path name (cyclic_open v most path name is), λ again. open_cyclic v most path name (repeats_goes_on (next v) (path, name) again most))
