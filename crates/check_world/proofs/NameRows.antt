-- Names that are given a meaning.
use Rattle.std.proofs.Common.{◌≡◌, ℕ, Bool, true, false, List, Option, Some, None, cond, refl, sym, ap, ◌∙◌}
use Rattle.std.specs.BTreeMap.{BTreeMap, get}
use Rattle.std.specs.Cmp.Lexicographic.{slice_cmp, bytes_decides}
use Rattle.std.specs.Option.{is_some}
use Rattle.std.specs.Ordering.{nat_cmp, is_eq}
use Rattle.std.specs.Str.{bytes_eq}
use Rattle.std.proofs.lemmas.Map.Text.{is_eq-slice_cmp}
use Rattle.check_world.specs.declared.names.TypeMeaning.{TypeMeaning}
use Rattle.check_world.specs.View.{with_row}

-- a name that has a meaning keeps it
pub row_stays : (rows : BTreeMap (List ℕ) TypeMeaning) (name : List ℕ) (meaning : TypeMeaning) → is_some (get (slice_cmp nat_cmp) rows name) ≡ true →
    (other : List ℕ) → get (slice_cmp nat_cmp) rows other ≡ with_row (get (slice_cmp nat_cmp) rows other) (bytes_eq name other) meaning
row_stays rows name meaning here other = go (get (slice_cmp nat_cmp) rows other) (bytes_eq name other) refl refl
  where
    go : (o : Option TypeMeaning) (b : Bool) → get (slice_cmp nat_cmp) rows other ≡ o → bytes_eq name other ≡ b → o ≡ with_row o b meaning
    go (Some m) true e f = refl
    go (Some m) false e f = refl
    go None false e f = refl
    go None true e f = absurd (let same : get (slice_cmp nat_cmp) rows name ≡ None = ap (get (slice_cmp nat_cmp) rows) ((bytes_decides name other).0 f) ∙ e in let no : true ≡ false = sym here ∙ ap (λ (o : Option TypeMeaning). is_some o) same in cc)

-- a new name gets one
pub row_added : (rows rows' : BTreeMap (List ℕ) TypeMeaning) (name : List ℕ) (meaning : TypeMeaning) → is_some (get (slice_cmp nat_cmp) rows name) ≡ false →
    ((q : List ℕ) → get (slice_cmp nat_cmp) rows' q ≡ cond (is_eq (slice_cmp nat_cmp name q)) (Some meaning) (get (slice_cmp nat_cmp) rows q)) →
    (other : List ℕ) → get (slice_cmp nat_cmp) rows' other ≡ with_row (get (slice_cmp nat_cmp) rows other) (bytes_eq name other) meaning
row_added rows rows' name meaning lacks put other =
    put other ∙ ap (λ (b : Bool). cond b (Some meaning) (get (slice_cmp nat_cmp) rows other)) (is_eq-slice_cmp name other)
    ∙ go (get (slice_cmp nat_cmp) rows other) (bytes_eq name other) refl refl
  where
    go : (o : Option TypeMeaning) (b : Bool) → get (slice_cmp nat_cmp) rows other ≡ o → bytes_eq name other ≡ b → cond b (Some meaning) o ≡ with_row o b meaning
    go (Some m) false e f = refl
    go None true e f = refl
    go None false e f = refl
    go (Some m) true e f = absurd (let same : get (slice_cmp nat_cmp) rows name ≡ Some m = ap (get (slice_cmp nat_cmp) rows) ((bytes_decides name other).0 f) ∙ e in let no : false ≡ true = sym lacks ∙ ap (λ (o : Option TypeMeaning). is_some o) same in cc)
