-- A type that is no union is its own join with itself.
use Rattle.std.proofs.Common.{◌≡◌, Bool, true, false, List, [], ◌∷◌, ◌||◌, if◌then◌else◌, refl, sym, ap, ◌∙◌, subst}
use Rattle.std.proofs.lemmas.List.{append-nil}
use Rattle.type_values.specs.declared.types.FlowType.{FlowType, out-FlowType, roll-out-FlowType}
use Rattle.type_values.specs.declared.types.FlowType as made
use Rattle.type_values.specs.declared.types.FlowType.TheOpen.{FlowType-F, Any}
use Rattle.type_values.specs.declared.types.FlowType.TheViews.{roll-FlowType, rolls-Any}
use Rattle.type_values.specs.declared.types.FlowProp.{FlowProp}
use Rattle.type_values.specs.declared.types.Param.{Param}
use Rattle.type_terms.specs.Join.{parts, level_is_any, is_any, firsts, one_of, joined_parts, join_of}
use Rattle.type_terms.proofs.Parts.{parts_plain, parts_empty}
use Rattle.type_terms.proofs.Settled.{settled}

abbrev Level : Type 0
Level = FlowType-F FlowType FlowProp Param

any_level : (l : Level) → level_is_any l ≡ true → made.Any ≡ roll-FlowType l
any_level Any is = sym rolls-Any
any_level l is = cc

is_made : (t : FlowType) → is_any t ≡ true → made.Any ≡ t
is_made t is = any_level (out-FlowType t) is ∙ roll-out-FlowType t

joined_alone : (t : FlowType) (b : Bool) → is_any t ≡ b → (if (b || false) then made.Any else one_of (firsts [] (t ∷ []))) ≡ t
joined_alone t true is = is_made t is
joined_alone t false is = refl

-- a type whose one part is itself
alone : (t : FlowType) → parts t ≡ t ∷ [] → join_of (t ∷ []) ≡ t
alone t one = ap joined_parts (append-nil (parts t) ∙ one) ∙ joined_alone t (is_any t) refl

empty_alone : join_of (made.Empty ∷ []) ≡ made.Empty
empty_alone = ap joined_parts (append-nil (parts made.Empty) ∙ parts_empty)

-- what is its own join is its own join with itself
twice : (t : FlowType) → join_of (t ∷ []) ≡ t → join_of (t ∷ t ∷ []) ≡ t
twice t is = subst (λ u. join_of (u ∷ u ∷ []) ≡ u) is (settled (t ∷ []))

pub empty_settled : join_of (made.Empty ∷ made.Empty ∷ []) ≡ made.Empty
empty_settled = twice made.Empty empty_alone

pub plain_settled : (t : FlowType) → ((all : List FlowType) → ¬ (t ≡ made.Union all)) → ¬ (t ≡ made.Empty) → join_of (t ∷ t ∷ []) ≡ t
plain_settled t no_union not_empty = twice t (alone t (parts_plain t no_union not_empty))
