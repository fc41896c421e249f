-- Aliases beside others that lead to none of them: each lies on a cycle where it does among its own.
use Rattle.std.proofs.Common.{◌≡◌, inl, inr, Bool, true, false, List, [], ◌∷◌, ◌++◌, Option, Some, None, if◌then◌else◌, refl, sym, ap, ◌∙◌, subst}
use Rattle.std.specs.Prelude.{IsTrue}
use Rattle.std.specs.Option.{option_or, is_some}
use Rattle.std.proofs.Math.Logic.{∥∥₁_elim}
use mathlib.Core.HLevel.{⊥_prop}
use Rattle.type_values.specs.declared.types.FlowType.{FlowType}
use Rattle.graph_search.specs.Cycles.{Leads, here, along}
use Rattle.alias_table.specs.Aliases.{Row, Key, is_row_of, alias_type, Step, IsCyclic, AreMarked, StaysWithin}
use Rattle.alias_table.specs.Splitting.{AreApart}
use Rattle.alias_table.proofs.Graph.{none_some}
use Rattle.alias_table.proofs.Reaching.{row_cyclic}

pub types_append : (xs ys : List Row) (key : Key) → alias_type (xs ++ ys) key ≡ option_or (alias_type xs key) (alias_type ys key)
types_append [] ys key = refl
types_append (x ∷ xs) ys key = go (is_row_of key x) (types_append xs ys key)
  where
    go : (b : Bool) → alias_type (xs ++ ys) key ≡ option_or (alias_type xs key) (alias_type ys key) →
        (if b then Some x.2 else alias_type (xs ++ ys) key) ≡ option_or (if b then Some x.2 else alias_type xs key) (alias_type ys key)
    go true rest = refl
    go false rest = rest

-- a cycle that is there is one that can be told
pub cycle_told : (rows : List Row) (key : Key) → ∥ IsCyclic (alias_type rows) key ∥₁ → IsCyclic (alias_type rows) key
cycle_told rows key there = elim (row_cyclic rows key) [ inl cycle ↦ cycle | inr never ↦ absurd (∥∥₁_elim there ⊥_prop (λ cycle. never cycle)) ]

-- aliases of the same types have the same cycles
pub same_cycles : (f g : Key → Option FlowType) → ((key : Key) → f key ≡ g key) → (key : Key) → (IsCyclic f key → IsCyclic g key) × (IsCyclic g key → IsCyclic f key)
same_cycles f g same key = (subst (λ (types : Key → Option FlowType). IsCyclic types key) (λ i k. same k i), subst (λ (types : Key → Option FlowType). IsCyclic types key) (λ i k. sym (same k) i))

module _ (own others : List Row) (apart : AreApart own others) (within : StaysWithin (alias_type others)) where
  abbrev P : Key → Option FlowType
  P = alias_type own

  abbrev O : Key → Option FlowType
  O = alias_type others

  abbrev A : Key → Option FlowType
  A = alias_type (own ++ others)

  is_own : (key : Key) (t : FlowType) → P key ≡ Some t → A key ≡ Some t
  is_own key t is = types_append own others key ∙ ap (λ (o : Option FlowType). option_or o (O key)) is

  none_own : (key : Key) → P key ≡ None → A key ≡ O key
  none_own key none = types_append own others key ∙ ap (λ (o : Option FlowType). option_or o (O key)) none

  lacks : (key : Key) (t : FlowType) → O key ≡ Some t → P key ≡ None
  lacks key t is = go (P key) refl
    where
      go : (o : Option FlowType) → P key ≡ o → o ≡ None
      go None at = refl
      go (Some u) at = none_some t (sym (apart key u at) ∙ is)

  some_type : (key : Key) → IsTrue (is_some (O key)) → (t : FlowType) × (O key ≡ Some t)
  some_type key there = go (O key) refl there
    where
      go : (o : Option FlowType) → O key ≡ o → is_some o ≡ true → (t : FlowType) × (O key ≡ Some t)
      go None at on = absurd (let e : false ≡ true = on in cc)
      go (Some t) at on = (t, at)

  step_in : (a b : Key) → Step P a b → Step A a b
  step_in a b (t, is, has) = (t, is_own a t is, has)

  step_beyond : (a b : Key) → Step O a b → Step A a b
  step_beyond a b (t, is, has) = (t, none_own a (lacks a t is) ∙ is, has)

  leads_in : {a b : Key} → Leads (Step P) a b → Leads (Step A) a b
  leads_in (here) = here
  leads_in (along {p = a} {q = c} s l) = along (step_in a c s) (leads_in l)

  leads_beyond : {a b : Key} → Leads (Step O) a b → Leads (Step A) a b
  leads_beyond (here) = here
  leads_beyond (along {p = a} {q = c} s l) = along (step_beyond a c s) (leads_beyond l)

  -- from an alias of others a step goes to another one of them
  step_out : (a b : Key) (t : FlowType) → O a ≡ Some t → Step A a b → Step O a b
  step_out a b t at (u, is, has) = (u, sym (none_own a (lacks a t at)) ∙ is, has)

  leads_out : {a b : Key} (t : FlowType) → O a ≡ Some t → Leads (Step A) a b → Leads (Step O) a b × ((u : FlowType) × (O b ≡ Some u))
  leads_out t at (here) = (here, (t, at))
  leads_out {a} {b} t at (along {q = c} s l) =
      let step = step_out a c t at s in
      let (u, next) = some_type c (within a c step) in
      let rest = leads_out u next l in
      (along step rest.0, rest.1)

  own_step : {a b c : Key} (t : FlowType) → P b ≡ Some t → Step A a c → Leads (Step A) c b → Leads (Step P) c b × ((u : FlowType) × (P c ≡ Some u)) → (o : Option FlowType) → P a ≡ o → Leads (Step P) a b × ((u : FlowType) × (P a ≡ Some u))
  own_step {a} t at s l rest (Some u) is = (along (s.0, is ∙ sym (is_own a u is) ∙ s.1, s.2) rest.0, (u, is))
  own_step {a} {b} t at s l rest None is =
      let beyond : O a ≡ Some s.0 = sym (none_own a is) ∙ s.1 in
      let far = leads_out {b = b} s.0 beyond (along s l) in
      none_some far.1.0 (sym (apart b t at) ∙ far.1.1)

  -- to an own alias only own ones lead
  leads_own : {a b : Key} (t : FlowType) → P b ≡ Some t → Leads (Step A) a b → Leads (Step P) a b × ((u : FlowType) × (P a ≡ Some u))
  leads_own t at (here) = (here, (t, at))
  leads_own {a} {b} t at (along {q = c} s l) = own_step t at s l (leads_own t at l) (P a) refl

  own_cyclic : (key : Key) (t : FlowType) → P key ≡ Some t → IsCyclic A key → IsCyclic P key
  own_cyclic key t at (b, (u, is, has), l) =
      let same : P key ≡ Some u = at ∙ sym (is_own key t at) ∙ is in
      (b, (u, same, has), (leads_own t at l).0)

  in_cyclic : (key : Key) → IsCyclic P key → IsCyclic A key
  in_cyclic key (b, s, l) = (b, step_in key b s, leads_in l)

  other_cyclic : (key : Key) → P key ≡ None → IsCyclic A key → IsCyclic O key
  other_cyclic key none (b, (u, is, has), l) =
      let at : O key ≡ Some u = sym (none_own key none) ∙ is in
      let step : Step O key b = (u, at, has) in
      let (v, next) = some_type b (within key b step) in
      (b, step, (leads_out v next l).0)

  beyond_cyclic : (key : Key) → IsCyclic O key → IsCyclic A key
  beyond_cyclic key (b, s, l) = (b, step_beyond key b s, leads_beyond l)

  module _ (own_mark other_mark : Key → Bool) (marked : AreMarked P own_mark) (right : (key : Key) → IsTrue (own_mark key) → ∥ IsCyclic P key ∥₁)
      (others_marked : AreMarked O other_mark) (others_right : (key : Key) → IsTrue (other_mark key) → ∥ IsCyclic O key ∥₁) where
    abbrev mark : Key → Bool
    mark key = if is_some (P key) then own_mark key else other_mark key

    pub are_marked : AreMarked A mark
    are_marked key cycle = go (P key) refl
      where
        go : (o : Option FlowType) → P key ≡ o → (if is_some o then own_mark key else other_mark key) ≡ true
        go (Some t) is = marked key (own_cyclic key t is cycle)
        go None is = others_marked key (other_cyclic key is cycle)

    pub right_marked : (key : Key) → IsTrue (mark key) → IsCyclic A key
    right_marked key = go (P key) refl
      where
        go : (o : Option FlowType) → P key ≡ o → (if is_some o then own_mark key else other_mark key) ≡ true → IsCyclic A key
        go (Some t) is on = in_cyclic key (cycle_told own key (right key on))
        go None is on = beyond_cyclic key (cycle_told others key (others_right key on))
