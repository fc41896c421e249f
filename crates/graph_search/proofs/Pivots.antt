-- A pivot, what leads to it, and what it leads to among that: the pivot's component, whatever the pivot.
use Rattle.std.proofs.Common.{◌≡◌, ℕ, ◌<◌, ◌⊎◌, Bool, true, false, List, [], ◌∷◌, length, slice_get, Option, Some, None, refl, sym, ◌∙◌, inl, inr, arith, subst}
use Rattle.graph_search.specs.Cycles.{Leads, here, along, Has, Edge, IsOn}
use Rattle.graph_search.specs.Components.{AreMutual}
use Rattle.graph_search.specs.Searching.{Within, HasFound, AreReversed, Marks, Writes, PutsBack, IsHalfClassed, IsBlank}
use Rattle.graph_search.proofs.Lists.{none_some, only_has, get_small}
use Rattle.graph_search.proofs.Searches.{joined, ends_in}

pub on_or_off : (ms : List Bool) (x : ℕ) → IsOn ms x ⊎ ¬ (IsOn ms x)
on_or_off ms x = go (slice_get ms x) refl
  where
    go : (o : Option Bool) → slice_get ms x ≡ o → IsOn ms x ⊎ ¬ (IsOn ms x)
    go None is = inr (λ on. none_some true (sym is ∙ on))
    go (Some true) is = inl is
    go (Some false) is = inr (λ on. let both : Some false ≡ Some true = sym is ∙ on in cc)

pub widened : (edges : List (List ℕ)) (Q : ℕ → Type 0) {x y : ℕ} → Leads (Within (Edge edges) Q) x y → Leads (Edge edges) x y
widened edges Q (here) = here
widened edges Q (along e l) = along e.0 (widened edges Q l)

-- what leads to a number and is led to has a list, or is that number
pub mutual_small : (edges : List (List ℕ)) (x y : ℕ) → AreMutual edges x y → x < length edges → y < length edges
mutual_small edges x y m small = go y m.1
  where
    go : (y : ℕ) → Leads (Edge edges) y x → y < length edges
    go y (here) = small
    go y (along e l) = get_small edges y e.0 e.1

pub mutual_whole : (edges : List (List ℕ)) (left : List Bool) → length left ≡ length edges → ((x : ℕ) → x < length edges → IsOn left x) → (x y : ℕ) → AreMutual edges x y → IsOn left x → IsOn left y
mutual_whole edges left size all x y m on = let h = get_small left x true on in all y (mutual_small edges x y m (omega arith))

module _ (edges back : List (List ℕ)) (left left_1 inside inside_1 inside_2 left_3 inside_3 : List Bool) (classes classes_2 : List ℕ) (around component : List ℕ) (p : ℕ)
    (half : IsHalfClassed edges left classes) (reversed : AreReversed edges back) (blank : (x : ℕ) → ¬ (IsOn inside x)) (p_left : IsOn left p)
    (backward : HasFound back (p ∷ []) left left_1 around) (enters : Marks around inside inside_1)
    (forward : HasFound edges (p ∷ []) inside_1 inside_2 component) (written : Writes component p classes classes_2) (puts : PutsBack around left_1 inside_2 left_3 inside_3) where
  abbrev Q : ℕ → Type 0
  Q = IsOn left

  abbrev In : ℕ → Type 0
  In = IsOn inside_1

  turned : {x y : ℕ} → Leads (Within (Edge back) Q) x y → Leads (Within (Edge edges) Q) y x
  turned (here) = here
  turned (along {p = x} {q = q} e l) = joined (Within (Edge edges) Q) (turned l) (along (reversed.again q x e.0, e.2, e.1) here)

  turned_back : {x y : ℕ} → Leads (Within (Edge edges) Q) x y → Leads (Within (Edge back) Q) y x
  turned_back (here) = here
  turned_back (along {p = x} {q = q} e l) = joined (Within (Edge back) Q) (turned_back l) (along (reversed.there x q e.0, e.2, e.1) here)

  -- around is what leads to the pivot through what is left
  around_leads : (z : ℕ) → Has around z → Leads (Within (Edge edges) Q) z p
  around_leads z has = let r = backward.sound z has in subst (λ (s : ℕ). Leads (Within (Edge edges) Q) z s) (only_has p r.0 r.1) (turned r.3)

  around_left : (z : ℕ) → Has around z → IsOn left z
  around_left z has = let r = backward.sound z has in ends_in (Edge back) Q r.3 r.2

  leads_around : (z : ℕ) → Leads (Within (Edge edges) Q) z p → Has around z
  leads_around z l = backward.complete z (p, (0, refl), p_left, turned_back l)

  -- a way between two of one component stays among what is left
  stays_left : (y : ℕ) → IsOn left y → {x : ℕ} → Leads (Edge edges) y x → Leads (Edge edges) x y → Leads (Within (Edge edges) Q) x y
  stays_left y on onward (here) = here
  stays_left y on {x} onward (along {q = q} e l) =
      let next = joined (Edge edges) onward (along e here) in
      along (e, half.whole y x (onward, along e l) on, half.whole y q (next, l) on) (stays_left y on next l)

  mutual_around : (z : ℕ) → AreMutual edges p z → Has around z
  mutual_around z m = leads_around z (stays_left p p_left m.0 m.1)

  in_around : (z : ℕ) → In z → Has around z
  in_around z on = elim (enters.only z on) [ inl was ↦ absurd (blank z was) | inr has ↦ has ]

  component_left : (z : ℕ) → Has component z → IsOn left z
  component_left z has = let r = forward.sound z has in around_left z (in_around z (ends_in (Edge edges) In r.3 r.2))

  -- the component is what leads to the pivot and is led to
  component_mutual : (z : ℕ) → Has component z → AreMutual edges p z
  component_mutual z has =
      let r = forward.sound z has in (
        subst (λ (s : ℕ). Leads (Edge edges) s z) (only_has p r.0 r.1) (widened edges In r.3),
        widened edges Q (around_leads z (in_around z (ends_in (Edge edges) In r.3 r.2))),
      )

  stays_in : {w z : ℕ} → Leads (Edge edges) p w → Leads (Edge edges) w z → Leads (Edge edges) z p → Leads (Within (Edge edges) In) w z
  stays_in from (here) again = here
  stays_in {w} from (along {q = q} e l) again =
      let next = joined (Edge edges) from (along e here) in
      along (e, enters.turned w (mutual_around w (from, along e (joined (Edge edges) l again))), enters.turned q (mutual_around q (next, joined (Edge edges) l again))) (stays_in next l again)

  mutual_component : (z : ℕ) → AreMutual edges p z → Has component z
  mutual_component z m = forward.complete z (p, (0, refl), enters.turned p (mutual_around p (here, here)), stays_in here m.0 m.1)

  joins : {x y z : ℕ} → AreMutual edges x y → AreMutual edges y z → AreMutual edges x z
  joins a b = (joined (Edge edges) a.0 b.0, joined (Edge edges) b.1 a.1)

  -- what is neither left now nor was finished before is of the component
  new_component : (x : ℕ) → IsOn left x → ¬ (IsOn left_3 x) → Has component x
  new_component x was off = elim (backward.split x was) [
    | inl still ↦ absurd (off (puts.keeps x still))
    | inr has ↦ elim (forward.split x (enters.turned x has)) [ inl inside_still ↦ absurd (off (puts.put x has inside_still)) | inr of_component ↦ of_component ]
  ]

  after_whole : (x y : ℕ) → AreMutual edges x y → IsOn left_3 x → IsOn left_3 y
  after_whole x y m on = elim (puts.only x on) [
    | inl still ↦ (let y_left = half.whole x y m (backward.keeps x still) in elim (backward.split y y_left) [
      | inl y_still ↦ puts.keeps y y_still
      | inr has ↦ absurd (backward.closed x (leads_around x (joined (Within (Edge edges) Q) (stays_left y y_left m.1 m.0) (around_leads y has))) still)
    ])
    | inr was ↦ elim (backward.split y (half.whole x y m (around_left x was.0))) [
      | inl y_still ↦ puts.keeps y y_still
      | inr has ↦ elim (forward.split y (enters.turned y has)) [
        | inl y_inside ↦ puts.put y has y_inside
        | inr of_component ↦ absurd (forward.closed x (mutual_component x (joins (component_mutual y of_component) (m.1, m.0))) was.1)
      ]
    ]
  ]

  is_p : (x c : ℕ) → Has component x → slice_get classes_2 x ≡ Some c → p ≡ c
  is_p x c has is = let both : Some p ≡ Some c = sym (written.written x has) ∙ is in cc

  -- what was finished isn't of the component
  other : (x : ℕ) → ¬ (IsOn left x) → ¬ (Has component x)
  other x off has = off (component_left x has)

  after_sound : (x c : ℕ) → ¬ (IsOn left_3 x) → slice_get classes_2 x ≡ Some c → AreMutual edges x c
  after_sound x c off is = elim (on_or_off left x) [
    | inl was ↦ (let has = new_component x was off in let m = component_mutual x has in subst (λ (z : ℕ). AreMutual edges x z) (is_p x c has is) (m.1, m.0))
    | inr was_off ↦ half.sound x c was_off (sym (written.keeps x (other x was_off)) ∙ is)
  ]

  after_complete : (x y c : ℕ) → ¬ (IsOn left_3 x) → slice_get classes_2 x ≡ Some c → AreMutual edges x y → slice_get classes_2 y ≡ Some c
  after_complete x y c off is m = elim (on_or_off left x) [
    | inl was ↦ (let has = new_component x was off in subst (λ (z : ℕ). slice_get classes_2 y ≡ Some z) (is_p x c has is) (written.written y (mutual_component y (joins (component_mutual x has) m))))
    | inr was_off ↦ written.keeps y (other y (λ y_on. was_off (half.whole y x (m.1, m.0) y_on))) ∙ half.complete x y c was_off (sym (written.keeps x (other x was_off)) ∙ is) m
  ]

  pub after_half : IsHalfClassed edges left_3 classes_2
  after_half = record {
    left_len = puts.left_len ∙ backward.len ∙ half.left_len;
    classes_len = written.len ∙ half.classes_len;
    whole = after_whole;
    sound = after_sound;
    complete = after_complete;
  }

  pub after_blank : IsBlank (length inside) inside_3
  after_blank = record {
    len = puts.inside_len ∙ forward.len ∙ enters.len;
    blank = λ x on. (let c = puts.clears x on in c.1 (in_around x (forward.keeps x c.0)));
  }

  pub after_gone : ¬ (IsOn left_3 p)
  after_gone on = elim (puts.only p on) [ inl still ↦ backward.closed p (mutual_around p (here, here)) still | inr was ↦ forward.closed p (mutual_component p (here, here)) was.1 ]

  pub after_less : (x : ℕ) → IsOn left_3 x → IsOn left x
  after_less x on = elim (puts.only x on) [ inl still ↦ backward.keeps x still | inr was ↦ around_left x was.0 ]
