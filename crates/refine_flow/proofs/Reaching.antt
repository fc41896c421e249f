-- The members of a declared type that a value may be.
use Rattle.std.proofs.Common.{◌≡◌, ◌<◌, ◌+◌, ℕ, Bool, true, List, [], ◌∷◌, ◌++◌, length, filter, take, get_or, sym, ap, ◌∙◌, if◌then◌else◌, arith}
use Rattle.std.specs.Borrow.{Bor}
use Rattle.std.specs.List.{list_any}
use Rattle.std.proofs.lemmas.List.{take_more, length-map, map-append, get_or-map}
use Rattle.std.proofs.lemmas.List.Elements.{filter-append}
use Rattle.std.proofs.lemmas.List.Folds.{list_any_at}
use Rattle.type_values.specs.declared.types.FlowType.{FlowType}
use Rattle.alias_table.specs.Members.{seen}

abbrev look : Bor FlowType → FlowType
look l = l.now

-- one for which the test holds
pub found_at : (p : FlowType → Bool) (all : List (Bor FlowType)) (i : ℕ) (x : Bor FlowType) → i < length all → x ≡ get_or all i x → p x.now ≡ true → true ≡ list_any p (seen all)
found_at p all i x within is holds = sym (list_any_at p (seen all) i x.now (omega (arith, length-map all look)) (ap p (get_or-map look all i x x.now within ∙ ap look (sym is)) ∙ holds))

-- one member more, which is kept if the test holds
pub reached_more : (p : FlowType → Bool) (looks : List (Bor FlowType)) (i : ℕ) (x : Bor FlowType) (old new : List FlowType) (b : Bool) → i < length looks → x ≡ get_or looks i x → b ≡ p x.now → old ≡ filter p (seen (take i looks)) →
    new ≡ old ++ (if b then x.now ∷ [] else []) → new ≡ filter p (seen (take (i + 1) looks))
reached_more p looks i x old new b within is test before made =
    made ∙ (λ j. before j ++ (if test j then x.now ∷ [] else [])) ∙ sym (filter-append p (seen (take i looks)) (x.now ∷ []))
    ∙ ap (filter p) (sym (map-append look (take i looks) (x ∷ [])) ∙ ap seen (ap (λ y. take i looks ++ y ∷ []) is ∙ sym (take_more looks i x within)))
