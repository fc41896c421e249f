-- What plans stand for, a level at a time.
use Rattle.std.proofs.Common.{◌≡◌, ℕ, Bool, List, [], ◌∷◌, get_or, slice_get, Option, Some, None, refl, sym, ap, ◌∙◌, subst, rules}
use Rattle.std.proofs.lemmas.List.{get_or-map}
use Rattle.std.proofs.lemmas.Option.{slice_get_within, get_or_from_slice_get}
use Rattle.typing.specs.Changes as typing
use Rattle.code_changes.specs.View.{changes_view}
use Rattle.code_changes.specs.declared.change.Change.{Change}
use Rattle.code_plans.specs.Plans as p
use Rattle.code_plans.specs.Plans.{includes, no_change, no_plan, plan, planned, part_of}
use Rattle.code_plans.specs.View.{plan_view, plans_view, IsPlan}
use Rattle.code_plans.specs.declared.plan.Plan.{Plan, out-Plan, roll-Plan, the_lemmas}

pub plan_is : (x : Plan) → plan_view x ≡ plan (includes (changes_view (out-Plan x).changes)) (plans_view (out-Plan x).parts)
unfolding plan_view plans_view
plan_is x = search (rules, the_lemmas)

-- what a plan tells of its code
pub planned_is : (x : Plan) → planned (plan_view x) ≡ includes (changes_view (out-Plan x).changes)
planned_is x = ap planned (plan_is x)

-- ---- plans that are made

includes_nothing : includes (changes_view []) ≡ no_change
unfolding changes_view includes
includes_nothing = refl

no_parts : plans_view [] ≡ []
unfolding plans_view
no_parts = refl

bare : plan no_change [] ≡ no_plan
bare = λ j path. go path j
  where
    go : (path : List ℕ) → plan no_change [] path ≡ no_plan path
    go [] = refl
    go (i ∷ path) = refl

roll_is : (changes : List Change) (parts : List Plan) → plan_view (roll-Plan (record { changes = changes; parts = parts })) ≡ plan (includes (changes_view changes)) (plans_view parts)
unfolding plan_view plans_view
roll_is changes parts = search (rules, the_lemmas)

pub plan_made : (changes : List Change) (parts : List Plan) (told : typing.Change → Bool) → includes (changes_view changes) ≡ told → plan_view (roll-Plan (record { changes = changes; parts = parts })) ≡ plan told (plans_view parts)
plan_made changes parts told is = roll_is changes parts ∙ ap (λ (f : typing.Change → Bool). plan f (plans_view parts)) is

pub group_made : (changes : List Change) (parts : List Plan) → changes ≡ [] → plan_view (roll-Plan (record { changes = changes; parts = parts })) ≡ plan no_change (plans_view parts)
group_made changes parts none = plan_made changes parts no_change (ap (λ (cs : List Change). includes (changes_view cs)) none ∙ includes_nothing)

pub nothing_made : (changes : List Change) (parts : List Plan) → changes ≡ [] → parts ≡ [] → plan_view (roll-Plan (record { changes = changes; parts = parts })) ≡ no_plan
nothing_made changes parts none empty = group_made changes parts none ∙ ap (λ (ps : List Plan). plan no_change (plans_view ps)) empty ∙ ap (plan no_change) no_parts ∙ bare

-- ---- the plan of a part

got : (parts : List Plan) (at : ℕ) (q : Plan) → slice_get parts at ≡ Some q → get_or (plans_view parts) at no_plan ≡ plan_view q
unfolding plans_view
got parts at q is = get_or-map plan_view parts at q no_plan (slice_get_within parts at q is) ∙ ap plan_view (get_or_from_slice_get parts at q q is)

-- one that was handed on
pub plan_given : (o : Option Plan) (x : Plan) (whole : p.Plan) → o ≡ Some x → IsPlan o whole → plan_view x ≡ whole
unfolding IsPlan
plan_given o x whole is = subst (λ (q : Option Plan). IsPlan q whole) is

found : (x : Plan) (parts : List Plan) (o : Option Plan) (at : ℕ) → o ≡ slice_get parts at → parts ≡ (out-Plan x).parts → (whole : p.Plan) → plan_view x ≡ whole → IsPlan o (part_of whole at)
unfolding IsPlan
found x parts None at is same whole given = tt
found x parts (Some q) at is same whole given =
    sym (got parts at q (sym is)) ∙ ap (λ (ps : List Plan). get_or (plans_view ps) at no_plan) same ∙ ap (λ (w : p.Plan). part_of w at) (sym (plan_is x) ∙ given)

pub part_found : (all : Option Plan) (x : Plan) (parts : List Plan) (o : Option Plan) (at : ℕ) → all ≡ Some x → o ≡ slice_get parts at → parts ≡ (out-Plan x).parts → (whole : p.Plan) → IsPlan all whole → IsPlan o (part_of whole at)
part_found all x parts o at one is same whole given = found x parts o at is same whole (plan_given all x whole one given)

pub no_part : (o : Option Plan) (whole : p.Plan) → o ≡ None → IsPlan o whole
unfolding IsPlan
no_part None whole is = tt
no_part (Some q) whole is = absurd (some≢none q is)
  where
    some≢none : (q : Plan) → Some q ≡ None → ⊥
    some≢none q e = subst (λ (o : Option Plan). elim o as (λ _. Type 0) [ None ↦ ⊥ | Some y ↦ Unit {0} ]) e tt
