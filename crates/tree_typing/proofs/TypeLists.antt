-- The lists of a tree grow at their end; here they are read in order.
use Rattle.std.proofs.Common.{◌≡◌, ℕ, zero, suc, ◌+◌, ◌<◌, ◌≤◌, arith, List, [], ◌∷◌, ◌++◌, map, length, take, get_or, take-suc, add-one, refl, sym, ap, ◌∙◌, append_assoc, append-nil}
use Rattle.js_grammar.specs.Words.{Bytes}
use Rattle.js_grammar.specs.Types.{Places, no_place, more_place, Pres, no_pre, more_pre, Params, no_param, more_param, Types, no_type, more_type, Props, no_prop, more_prop}
use Rattle.type_values.specs.declared.types.FlowType.{FlowType}
use Rattle.type_values.specs.declared.types.FlowType as made
use Rattle.type_values.specs.declared.types.FlowProp.{FlowProp}
use Rattle.type_values.specs.declared.types.Param as value
use Rattle.tree_types.specs.TreeTypes.{union_of, type_of, types_of_members, type_of_member, types_of, params_of, param_of, props_of, prop_of}
use Rattle.type_tree.specs.View.{type_view, pre_view, param_view, prop_view, places_view, pres_view, params_view, types_view, props_view, places_from, pres_from, params_from, types_from, props_from}
use Rattle.type_tree.specs.declared.types.TypeTree.{TypeTree}
use Rattle.type_tree.specs.declared.types.PreTree.{PreTree}
use Rattle.type_tree.specs.declared.types.ParamTree.{ParamTree}
use Rattle.type_tree.specs.declared.types.PropTree.{PropTree}

pub union_of_more : (before : List FlowType) (last : FlowType) → (before ≡ [] → ⊥) → union_of (before ++ last ∷ []) ≡ made.Union (before ++ last ∷ [])
union_of_more [] last some = absurd (some refl)
union_of_more (t ∷ []) last some = refl
union_of_more (t ∷ u ∷ before) last some = refl

-- a list with a list behind it, where it grows at its end
snoc : {X : Type 0} (before : List X) (x : X) (more : List X) → (before ++ (x ∷ [])) ++ more ≡ before ++ (x ∷ more)
snoc before x more = append_assoc before (x ∷ []) more

all_taken : {X : Type 0} (n : ℕ) (xs : List X) → length xs ≤ n → take n xs ≡ xs
all_taken zero [] long = refl
all_taken (suc n) [] long = refl
all_taken zero (x ∷ xs) long = absurd (omega arith)
all_taken {X} (suc n) (x ∷ xs) long = ap (λ (l : List X). x ∷ l) (all_taken n xs (omega arith))

module _ (alias_at : Bytes → FlowType) where
  members_from : (acc : Pres) (ps : List PreTree) → types_of_members alias_at (pres_from acc (map pre_view ps)) ≡ types_of_members alias_at acc ++ map (λ p. type_of_member alias_at (pre_view p)) ps
  members_from acc [] = sym (append-nil _)
  members_from acc (p ∷ ps) = members_from (more_pre acc (pre_view p)) ps ∙ snoc (types_of_members alias_at acc) (type_of_member alias_at (pre_view p)) (map (λ p. type_of_member alias_at (pre_view p)) ps)

  pub members_in_order : (ps : List PreTree) → types_of_members alias_at (pres_view ps) ≡ map (λ p. type_of_member alias_at (pre_view p)) ps
  unfolding pres_view
  members_in_order ps = members_from no_pre ps

  pub members_taken : (n : ℕ) (xs : List PreTree) (l : List FlowType) → length xs ≤ n → l ≡ map (λ p. type_of_member alias_at (pre_view p)) (take n xs) → l ≡ types_of_members alias_at (pres_view xs)
  members_taken n xs l long is = is ∙ ap (map (λ p. type_of_member alias_at (pre_view p))) (all_taken n xs long) ∙ sym (members_in_order xs)

  elements_from : (acc : Types) (ts : List TypeTree) → types_of alias_at (types_from acc (map type_view ts)) ≡ types_of alias_at acc ++ map (λ t. type_of alias_at (type_view t)) ts
  elements_from acc [] = sym (append-nil _)
  elements_from acc (t ∷ ts) = elements_from (more_type acc (type_view t)) ts ∙ snoc (types_of alias_at acc) (type_of alias_at (type_view t)) (map (λ t. type_of alias_at (type_view t)) ts)

  pub elements_in_order : (ts : List TypeTree) → types_of alias_at (types_view ts) ≡ map (λ t. type_of alias_at (type_view t)) ts
  unfolding types_view
  elements_in_order ts = elements_from no_type ts

  pub elements_taken : (n : ℕ) (xs : List TypeTree) (l : List FlowType) → length xs ≤ n → l ≡ map (λ t. type_of alias_at (type_view t)) (take n xs) → l ≡ types_of alias_at (types_view xs)
  elements_taken n xs l long is = is ∙ ap (map (λ t. type_of alias_at (type_view t))) (all_taken n xs long) ∙ sym (elements_in_order xs)

  params_listed : (acc : Params) (ps : List ParamTree) → params_of alias_at (params_from acc (map param_view ps)) ≡ params_of alias_at acc ++ map (λ p. param_of alias_at (param_view p)) ps
  params_listed acc [] = sym (append-nil _)
  params_listed acc (p ∷ ps) = params_listed (more_param acc (param_view p)) ps ∙ snoc (params_of alias_at acc) (param_of alias_at (param_view p)) (map (λ p. param_of alias_at (param_view p)) ps)

  pub params_in_order : (ps : List ParamTree) → params_of alias_at (params_view ps) ≡ map (λ p. param_of alias_at (param_view p)) ps
  unfolding params_view
  params_in_order ps = params_listed no_param ps

  pub params_taken : (n : ℕ) (xs : List ParamTree) (l : List value.Param) → length xs ≤ n → l ≡ map (λ p. param_of alias_at (param_view p)) (take n xs) → l ≡ params_of alias_at (params_view xs)
  params_taken n xs l long is = is ∙ ap (map (λ p. param_of alias_at (param_view p))) (all_taken n xs long) ∙ sym (params_in_order xs)

  props_listed : (acc : Props) (ps : List PropTree) → props_of alias_at (props_from acc (map prop_view ps)) ≡ props_of alias_at acc ++ map (λ p. prop_of alias_at (prop_view p)) ps
  props_listed acc [] = sym (append-nil _)
  props_listed acc (p ∷ ps) = props_listed (more_prop acc (prop_view p)) ps ∙ snoc (props_of alias_at acc) (prop_of alias_at (prop_view p)) (map (λ p. prop_of alias_at (prop_view p)) ps)

  pub props_in_order : (ps : List PropTree) → props_of alias_at (props_view ps) ≡ map (λ p. prop_of alias_at (prop_view p)) ps
  unfolding props_view
  props_in_order ps = props_listed no_prop ps

  pub props_taken : (n : ℕ) (xs : List PropTree) (l : List FlowProp) → length xs ≤ n → l ≡ map (λ p. prop_of alias_at (prop_view p)) (take n xs) → l ≡ props_of alias_at (props_view xs)
  props_taken n xs l long is = is ∙ ap (map (λ p. prop_of alias_at (prop_view p))) (all_taken n xs long) ∙ sym (props_in_order xs)

places_last : (acc : Places) (ps : List ℕ) (p : ℕ) → places_from acc (ps ++ p ∷ []) ≡ more_place (places_from acc ps) p
places_last acc [] p = refl
places_last acc (q ∷ ps) p = places_last (more_place acc q) ps p

-- one mark more
pub places_more : (ps : List ℕ) (i : ℕ) → i < length ps → places_view (take (i + 1) ps) ≡ more_place (places_view (take i ps)) (get_or ps i 0)
unfolding places_view
places_more ps i within = ap (λ (k : ℕ). places_from no_place (take k ps)) (add-one i) ∙ ap (places_from no_place) (take-suc ps i 0 within) ∙ places_last no_place (take i ps) (get_or ps i 0)
