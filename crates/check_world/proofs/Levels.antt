-- The outermost levels of members, one after another.
use Rattle.std.proofs.Common.{◌≡◌, ℕ, ◌+◌, ◌<◌, List, [], ◌∷◌, ◌++◌, length, drop, take, get_or, refl, sym, ap, ◌∙◌}
use Rattle.std.specs.Borrow.{Bor}
use Rattle.std.proofs.lemmas.List.{drop_more, take_more}
use Rattle.type_values.specs.declared.types.FlowType.{FlowType, out-FlowType}
use Rattle.flow_facts.specs.Cells.{Level}
use Rattle.check_world.specs.View.{levels_seen}

pub levels_last : (members : List (Bor FlowType)) (m : Bor FlowType) → levels_seen (members ++ m ∷ []) ≡ levels_seen members ++ out-FlowType m.now ∷ []
levels_last [] m = refl
levels_last (x ∷ members) m = ap (λ (l : List Level). out-FlowType x.now ∷ l) (levels_last members m)

-- those before the next place, and those from a place on
pub levels_more : (members : List (Bor FlowType)) (i : ℕ) (m : Bor FlowType) → i < length members → m ≡ get_or members i m → levels_seen (take (i + 1) members) ≡ levels_seen (take i members) ++ out-FlowType m.now ∷ []
levels_more members i m within at =
    ap (λ (l : List (Bor FlowType)). levels_seen l) (take_more members i m within ∙ ap (λ (x : Bor FlowType). take i members ++ x ∷ []) (sym at)) ∙ levels_last (take i members) m

pub levels_left : (members : List (Bor FlowType)) (i : ℕ) (m : Bor FlowType) → i < length members → m ≡ get_or members i m → levels_seen (drop i members) ≡ out-FlowType m.now ∷ levels_seen (drop (i + 1) members)
levels_left members i m within at = ap (λ (l : List (Bor FlowType)). levels_seen l) (drop_more members i m within ∙ ap (λ (x : Bor FlowType). x ∷ drop (i + 1) members) (sym at))
