-- Whether steps lead from one alias to another can be told.
use Rattle.std.proofs.Common.{◌≡◌, ◌⊎◌, inl, inr, ℕ, zero, suc, ◌<◌, Bool, true, false, List, [], ◌∷◌, length, get_or, map, Option, Some, None, if◌then◌else◌, refl, sym, ap, ◌∙◌, subst, arith}
use Rattle.std.specs.Prelude.{Contains}
use Rattle.type_values.specs.declared.types.FlowType.{FlowType}
use Rattle.graph_search.specs.Cycles.{Leads, here, along}
use Rattle.graph_search.proofs.Searches.{joined}
use Rattle.alias_table.specs.Aliases.{Row, Key, is_text, is_row_of, alias_type, names_of, Step, IsCyclic}
use Rattle.alias_table.proofs.Graph.{none_some, split_and}
use Rattle.alias_table.proofs.Texts.{same_text, text_itself}

abbrev Told : Type 0 → Type 0
Told P = P ⊎ (¬ P)

same_key : (a b : Key) → Told (a ≡ b)
same_key a b = go (is_text a.0 b.0) refl (is_text a.1 b.1) refl
  where
    other : (x y : List ℕ) → is_text x y ≡ false → ¬ (x ≡ y)
    other x y off same = let both : true ≡ false = sym (text_itself x) ∙ ap (is_text x) same ∙ off in cc

    go : (p : Bool) → is_text a.0 b.0 ≡ p → (q : Bool) → is_text a.1 b.1 ≡ q → Told (a ≡ b)
    go true is_p true is_q = inl (λ i. (same_text a.0 b.0 is_p i, same_text a.1 b.1 is_q i))
    go false is_p q is_q = inr (λ same. other a.0 b.0 is_p (ap (λ (k : Key). k.0) same))
    go true is_p false is_q = inr (λ same. other a.1 b.1 is_q (ap (λ (k : Key). k.1) same))

has_key : (names : List Key) (b : Key) → Told (Contains names b)
has_key [] b = inr (λ has. absurd (let few = has.1 in omega (arith, few)))
has_key (n ∷ names) b = elim (same_key n b) [
  | inl same ↦ inl (0, omega arith, same)
  | inr other ↦ elim (has_key names b) [
    | inl has ↦ inl (suc has.0, (let few = has.1 in omega (arith, few)), has.2)
    | inr none ↦ inr (λ has. past other none has.0 has.1 has.2)
  ]
]
  where
    past : ¬ (n ≡ b) → ¬ (Contains names b) → (k : ℕ) → k < length (n ∷ names) → get_or (n ∷ names) k b ≡ b → ⊥
    past other none zero few is = other is
    past other none (suc k) few is = none (k, omega (arith, few), is)

module _ (types : Key → Option FlowType) where
  -- a step, and none or more behind it
  abbrev LeadsTo : Key → Key → Type 0
  LeadsTo a b = (c : Key) × Step types a c × Leads (Step types) c b

  -- steps that pass no aliases but these
  abbrev Via : List Key → Key → Key → Type 0
  Via [] a b = Step types a b
  Via (k ∷ ks) a b = Via ks a b ⊎ (Via ks a k × Via ks k b)

  tell_step : (a b : Key) → Told (Step types a b)
  tell_step a b = go (types a) refl
    where
      go : (o : Option FlowType) → types a ≡ o → Told (Step types a b)
      go None is = inr (λ s. none_some s.0 (sym is ∙ s.1))
      go (Some t) is = elim (has_key (names_of t) b) [
        | inl has ↦ inl (t, is, has)
        | inr none ↦ inr (λ s. none (let both : Some s.0 ≡ Some t = sym s.1 ∙ is in let same : s.0 ≡ t = cc in subst (λ u. Contains (names_of u) b) same s.2))
      ]

  tell : (ks : List Key) (a b : Key) → Told (Via ks a b)
  tell [] a b = tell_step a b
  tell (k ∷ ks) a b = go (tell ks a b) (tell ks a k) (tell ks k b)
    where
      go : Told (Via ks a b) → Told (Via ks a k) → Told (Via ks k b) → Told (Via (k ∷ ks) a b)
      go (inl way) there back = inl (inl way)
      go (inr never) (inl there) (inl back) = inl (inr (there, back))
      go (inr never) (inr none) back = inr (λ way. elim way [ inl past ↦ never past | inr two ↦ none two.0 ])
      go (inr never) (inl there) (inr none) = inr (λ way. elim way [ inl past ↦ never past | inr two ↦ none two.1 ])

  leads_of : (ks : List Key) (a b : Key) → Via ks a b → LeadsTo a b
  leads_of [] a b step = (b, step, here)
  leads_of (k ∷ ks) a b (inl way) = leads_of ks a b way
  leads_of (k ∷ ks) a b (inr (there, back)) = behind (leads_of ks a k there) (leads_of ks k b back)
    where
      behind : LeadsTo a k → LeadsTo k b → LeadsTo a b
      behind (c, s, l) (d, t, m) = (c, s, joined (Step types) l (along t m))

  abbrev Has : List Key → Key → Type 0
  Has [] k = ⊥
  Has (m ∷ ks) k = (m ≡ k) ⊎ Has ks k

  step_via : (ks : List Key) (a b : Key) → Step types a b → Via ks a b
  step_via [] a b s = s
  step_via (k ∷ ks) a b s = inl (step_via ks a b s)

  -- two ways that meet at one of these
  through : (ks : List Key) (k a b : Key) → Has ks k → Via ks a k → Via ks k b → Via ks a b
  through [] k a b has v w = absurd has
  through (m ∷ ks) k a b (inl same) v w =
      inr (front (subst (λ n. Via (m ∷ ks) a n) (sym same) v), back (subst (λ n. Via (m ∷ ks) n b) (sym same) w))
    where
      front : Via (m ∷ ks) a m → Via ks a m
      front (inl way) = way
      front (inr two) = two.0

      back : Via (m ∷ ks) m b → Via ks m b
      back (inl way) = way
      back (inr two) = two.1
  through (m ∷ ks) k a b (inr has) (inl v) (inl w) = inl (through ks k a b has v w)
  through (m ∷ ks) k a b (inr has) (inl v) (inr w) = inr (through ks k a m has v w.0, w.1)
  through (m ∷ ks) k a b (inr has) (inr v) (inl w) = inr (v.0, through ks k m b has v.1 w)
  through (m ∷ ks) k a b (inr has) (inr v) (inr w) = inr (v.0, w.1)

  module _ (ks : List Key) (all : (k : Key) (t : FlowType) → types k ≡ Some t → Has ks k) where
    via_of : (a b c : Key) → Step types a c → Leads (Step types) c b → Via ks a b
    via_of a b c s (here) = step_via ks a b s
    via_of a b c s (along {q = d} t l) = through ks c a b (all c t.0 t.1) (step_via ks a c s) (via_of c b d t l)

    tell_cyclic : (a : Key) → Told (IsCyclic types a)
    tell_cyclic a = elim (tell ks a a) [
      | inl way ↦ inl (leads_of ks a a way)
      | inr never ↦ inr (λ cycle. never (via_of a a cycle.0 cycle.1 cycle.2))
    ]

has_row : (rows : List Row) (k : Key) (t : FlowType) → alias_type rows k ≡ Some t → Has (alias_type rows) (map (λ (row : Row). (row.0, row.1)) rows) k
has_row rows k t is = go rows is
  where
    go : (left : List Row) → alias_type left k ≡ Some t → Has (alias_type rows) (map (λ (row : Row). (row.0, row.1)) left) k
    go [] is = none_some t is
    go (row ∷ left) is = at (is_row_of k row) refl is (go left)
      where
        at : (b : Bool) → is_row_of k row ≡ b → (if b then Some row.2 else alias_type left k) ≡ Some t →
            (alias_type left k ≡ Some t → Has (alias_type rows) (map (λ (row : Row). (row.0, row.1)) left) k) → Has (alias_type rows) (map (λ (row : Row). (row.0, row.1)) (row ∷ left)) k
        at true first is more = let both = split_and (is_text k.0 row.0) (is_text k.1 row.1) first in inl (λ i. (sym (same_text k.0 row.0 both.0) i, sym (same_text k.1 row.1 both.1) i))
        at false first is more = inr (more is)

-- whether an alias of the rows lies on a cycle
pub row_cyclic : (rows : List Row) (key : Key) → Told (IsCyclic (alias_type rows) key)
row_cyclic rows key = tell_cyclic (alias_type rows) (map (λ (row : Row). (row.0, row.1)) rows) (has_row rows) key
