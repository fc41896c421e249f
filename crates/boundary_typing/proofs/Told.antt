-- Parameters and operands, from the first on.
use Rattle.std.proofs.Common.{◌≡◌, ℕ, zero, suc, ◌-◌, arith, ◌+◌, ◌<◌, List, [], ◌∷◌, ◌++◌, map, length, take, drop, get_or, take-suc, drop-cons, add-one, Option, Some, None, refl, sym, ap, ◌∙◌}
use Rattle.js_grammar.specs.Words.{Bytes}
use Rattle.js_grammar.specs.Code as g
use Rattle.js_grammar.specs.Code.{Parameters, no_parameter, more_parameter, Operands, no_operand, more_operand, operand, as_type, right_side}
use Rattle.type_values.specs.declared.types.FlowType.{FlowType}
use Rattle.type_values.specs.declared.types.Param.{Param}
use Rattle.local_signatures.specs.Boundary.{also, boundary_param, boundary_params, cast_type}
use Rattle.std.specs.List.{slice_get}
use Rattle.code_tree.specs.Flat.{parameter_view, parameters_view, parameters_from}
use Rattle.code_tree.specs.View.{operand_view, operands_view}
use Rattle.code_tree.specs.Steps.{operands_from}
use Rattle.code_tree.specs.declared.types.Parameter.{Parameter}
use Rattle.code_tree.specs.declared.types.Operand.{Operand}

parameters_last : (acc : Parameters) (ps : List g.Parameter) (p : g.Parameter) → parameters_from acc (ps ++ p ∷ []) ≡ more_parameter (parameters_from acc ps) p
parameters_last acc [] p = refl
parameters_last acc (q ∷ ps) p = parameters_last (more_parameter acc q) ps p

operands_last_from : (acc : Operands) (os : List g.Operand) (o : g.Operand) → operands_from acc (os ++ o ∷ []) ≡ more_operand (operands_from acc os) o
operands_last_from acc [] o = refl
operands_last_from acc (q ∷ os) o = operands_last_from (more_operand acc q) os o

map-last : {A B : Type 0} (f : A → B) (xs : List A) (x : A) → map f (xs ++ x ∷ []) ≡ map f xs ++ f x ∷ []
map-last f [] x = refl
map-last {A} {B} f (z ∷ xs) x = ap (λ (l : List B). f z ∷ l) (map-last f xs x)

-- one operand more
pub operands_last : (os : List Operand) (o : Operand) → operands_view (os ++ o ∷ []) ≡ more_operand (operands_view os) (operand_view o)
unfolding operands_view
operands_last os o = ap (operands_from no_operand) (map-last operand_view os o) ∙ operands_last_from no_operand (map operand_view os) (operand_view o)

-- one parameter more
parameters_more : (ps : List Parameter) (i : ℕ) (d : Parameter) → i < length ps → parameters_view (take (i + 1) ps) ≡ more_parameter (parameters_view (take i ps)) (parameter_view (get_or ps i d))
unfolding parameters_view
parameters_more ps i d within =
    ap (λ (k : ℕ). parameters_from no_parameter (map parameter_view (take k ps))) (add-one i)
    ∙ ap (λ (l : List Parameter). parameters_from no_parameter (map parameter_view l)) (take-suc ps i d within)
    ∙ ap (parameters_from no_parameter) (map-last parameter_view (take i ps) (get_or ps i d))
    ∙ parameters_last no_parameter (map parameter_view (take i ps)) (parameter_view (get_or ps i d))

module _ (alias_at : Bytes → FlowType) where
  pub told_more : (ps : List Parameter) (i : ℕ) (d : Parameter) → i < length ps → boundary_params alias_at (parameters_view (take (i + 1) ps)) ≡ also (boundary_params alias_at (parameters_view (take i ps))) (boundary_param alias_at (parameter_view (get_or ps i d)))
  told_more ps i d within = ap (boundary_params alias_at) (parameters_more ps i d within)

  -- where one parameter is not told, all are not
  not_told_from : (acc : Parameters) (ps : List g.Parameter) → boundary_params alias_at acc ≡ None → boundary_params alias_at (parameters_from acc ps) ≡ None
  not_told_from acc [] is = is
  not_told_from acc (p ∷ ps) is = not_told_from (more_parameter acc p) ps (ap (λ (o : Option (List Param)). also o (boundary_param alias_at p)) is)

  parameters_parted : (acc : Parameters) (ps qs : List g.Parameter) → parameters_from acc (ps ++ qs) ≡ parameters_from (parameters_from acc ps) qs
  parameters_parted acc [] qs = refl
  parameters_parted acc (p ∷ ps) qs = parameters_parted (more_parameter acc p) ps qs

  also_none : {X : Type 0} (o : Option (List X)) → also o None ≡ None
  also_none None = refl
  also_none (Some before) = refl

  map-parted : {A B : Type 0} (f : A → B) (xs ys : List A) → map f (xs ++ ys) ≡ map f xs ++ map f ys
  map-parted f [] ys = refl
  map-parted {A} {B} f (x ∷ xs) ys = ap (λ (l : List B). f x ∷ l) (map-parted f xs ys)

  parted : {A : Type 0} (n : ℕ) (xs : List A) → take n xs ++ drop n xs ≡ xs
  parted zero xs = refl
  parted (suc n) [] = refl
  parted {A} (suc n) (x ∷ xs) = ap (λ (l : List A). x ∷ l) (parted n xs)

  -- one parameter is not told
  pub not_told : (ps : List Parameter) (i : ℕ) (p : Parameter) → i < length ps → p ≡ get_or ps i p → boundary_param alias_at (parameter_view p) ≡ None → boundary_params alias_at (parameters_view ps) ≡ None
  unfolding parameters_view
  not_told ps i p within at is =
      ap (λ (l : List Parameter). boundary_params alias_at (parameters_from no_parameter (map parameter_view l))) (sym (parted (i + 1) ps))
      ∙ ap (λ (l : List g.Parameter). boundary_params alias_at (parameters_from no_parameter l)) (map-parted parameter_view (take (i + 1) ps) (drop (i + 1) ps))
      ∙ ap (boundary_params alias_at) (parameters_parted no_parameter (map parameter_view (take (i + 1) ps)) (map parameter_view (drop (i + 1) ps)))
      ∙ not_told_from (parameters_view (take (i + 1) ps)) (map parameter_view (drop (i + 1) ps))
      (told_more ps i p within
      ∙ ap (λ (q : Parameter). also (boundary_params alias_at (parameters_view (take i ps))) (boundary_param alias_at (parameter_view q))) (sym at)
      ∙ ap (also (boundary_params alias_at (parameters_view (take i ps)))) is ∙ also_none (boundary_params alias_at (parameters_view (take i ps))))

  pub told_next : (ps : List Parameter) (i : ℕ) (p : Parameter) → i < length ps → p ≡ get_or ps i p → (all : List Param) (param : Param) → boundary_params alias_at (parameters_view (take i ps)) ≡ Some all → boundary_param alias_at (parameter_view p) ≡ Some param → boundary_params alias_at (parameters_view (take (i + 1) ps)) ≡ Some (all ++ param ∷ [])
  told_next ps i p within at all param is told =
      told_more ps i p within
      ∙ ap (λ (q : Parameter). also (boundary_params alias_at (parameters_view (take i ps))) (boundary_param alias_at (parameter_view q))) (sym at)
      ∙ ap (λ (o : Option (List Param)). also o (boundary_param alias_at (parameter_view p))) is ∙ ap (also (Some all)) told

  -- ---- the last operand

  cast_alike : (before other : Operands) (o : g.Operand) → cast_type alias_at (more_operand before o) ≡ cast_type alias_at (more_operand other o)
  cast_alike before other (operand first end (as_type t)) = refl
  cast_alike before other (operand first end (right_side op side)) = refl

  front_of : (os : List Operand) (n : ℕ) (o : Operand) → suc n ≡ length os → slice_get os n ≡ Some o → (front : List Operand) × (os ≡ front ++ o ∷ [])
  front_of [] n o e is = absurd (omega arith)
  front_of (x ∷ []) zero o e is = ([], ap (λ (y : Operand). y ∷ []) (cc))
  front_of (x ∷ []) (suc n) o e is = absurd (omega arith)
  front_of (x ∷ y ∷ os) zero o e is = absurd (omega arith)
  front_of (x ∷ y ∷ os) (suc n) o e is = let r = front_of (y ∷ os) n o (omega arith) is in (x ∷ r.0, ap (λ (l : List Operand). x ∷ l) r.1)

  some_at : (os : List Operand) (n : ℕ) → n < length os → slice_get os n ≡ None → ⊥
  some_at [] n within is = omega arith
  some_at (x ∷ os) zero within is = cc
  some_at (x ∷ os) (suc n) within is = some_at os n (omega arith) is

  pub cast_none : (os : List Operand) → None ≡ slice_get os (length os - 1) → None ≡ cast_type alias_at (operands_view os)
  unfolding operands_view
  cast_none [] is = refl
  cast_none (x ∷ os) is = absurd (some_at (x ∷ os) (length (x ∷ os) - 1) (omega arith) (sym is))

  pub cast_last : (os : List Operand) (o : Operand) → Some o ≡ slice_get os (length os - 1) → cast_type alias_at (operands_view os) ≡ cast_type alias_at (more_operand no_operand (operand_view o))
  cast_last [] o is = absurd (cc)
  cast_last (x ∷ os) o is =
      let r = front_of (x ∷ os) (length (x ∷ os) - 1) o (omega arith) (sym is) in
      ap (λ (l : List Operand). cast_type alias_at (operands_view l)) r.1 ∙ ap (cast_type alias_at) (operands_last r.0 o) ∙ cast_alike (operands_view r.0) no_operand (operand_view o)

pub ruleset parameters_told = (told_more, not_told)
