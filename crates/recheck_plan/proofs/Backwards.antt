-- What leads along edges that are reversed leads the other way along the edges.
use Rattle.std.proofs.Common.{ℕ, ◌≡◌, List, sym, subst}
use Rattle.graph_search.specs.Cycles.{Leads, here, along, Edge, AreWithin}
use Rattle.graph_search.specs.Reach.{AreReached}
use Rattle.graph_search.specs.Searching.{AreReversed}
use Rattle.graph_search.proofs.Searches.{joined, back_within}
use Rattle.recheck_plan.specs.Affected.{AreExactly, LeadsToTouched}

other_way : (edges back : List (List ℕ)) → AreReversed edges back → AreReversed back edges
other_way edges back r = record { len = sym r.len; there = λ x y e. r.again y x e; again = λ x y e. r.there y x e }

turned : (edges back : List (List ℕ)) → AreReversed edges back → {x y : ℕ} → Leads (Edge back) x y → Leads (Edge edges) y x
turned edges back r (here) = here
turned edges back r (along {p = p} {q = q} e way) = joined (Edge edges) (turned edges back r way) (along (r.again q p e) here)

pub leads_to_touched : (edges back view : List (List ℕ)) (touched all : List ℕ) → AreReversed edges back → AreReached view touched all → view ≡ back → AreExactly (LeadsToTouched edges touched) all
leads_to_touched edges back view touched all reversed reached same =
    let r : AreReversed edges view = subst (λ (l : List (List ℕ)). AreReversed edges l) (sym same) reversed in
    record {
      rising = reached.rising;
      sound = λ x has. (let from = reached.sound x has in (from.0, from.1, turned edges view r from.2));
      complete = λ x leads. reached.complete x (leads.0, leads.1, turned view edges (other_way edges view r) leads.2);
    }

pub within_reversed : (edges back view : List (List ℕ)) → AreReversed edges back → view ≡ back → AreWithin view
within_reversed edges back view r same = subst AreWithin (sym same) (back_within edges back r)
