-- The ways of a link, by what was opened for them.
use Rattle.std.proofs.Common.{◌≡◌, true, false, List, [], ◌∷◌, slice_get, Some, sym, ◌∙◌, subst}
use Rattle.type_values.specs.declared.types.FlowType.{FlowType, out-FlowType}
use Rattle.alias_table.specs.Aliases.{Key}
use Rattle.subtyping.specs.Rows.{Pair, ways, is_free}
use Rattle.subtype_rules.specs.declared.terms.Node.{Node}
use Rattle.subtype_rules.specs.Terms.{Link, Extends, IsLink, AreLinkWays, IsOpened, IsNode, all_ways}
use Rattle.subtype_rules.proofs.Grown.{at_stays, extends_more}
use Rattle.subtype_rules.proofs.Linked.{node_stays, same_type}
use Rattle.subtype_rules.proofs.Typed.{ways_typed, free_typed}

-- the ways of a link, by what was opened first and what was opened then
pub ways_opened : (named : Key → FlowType) (types first last : List FlowType) (link : Link) (a b : FlowType) (x y : Node) → slice_get types link.0 ≡ Some a → slice_get types link.1 ≡ Some b →
    is_free (out-FlowType a) (out-FlowType b) ≡ false → Extends types first → IsNode named first link.0 x → Extends first last → IsNode named last link.1 y →
    (p : Pair) → IsLink types link p → AreLinkWays last (all_ways link.0 (out-FlowType a) x link.1 (out-FlowType b) y) (ways named p)
ways_opened named types first last link a b x y e f off g is_x more is_y p at =
    let left : p.0 ≡ a = same_type types link.0 p.0 a at.0 e in
    let right : p.1 ≡ b = same_type types link.1 p.1 b at.1 f in
    let all = extends_more types first last g more in
    let there : IsLink last link p = (at_stays types last link.0 p.0 all at.0, at_stays types last link.1 p.1 all at.1) in
    let node_x = node_stays named first last link.0 x more is_x in
    let t : node_x.0 ≡ p.0 = same_type last link.0 node_x.0 p.0 node_x.1 there.0 in
    let u : is_y.0 ≡ p.1 = same_type last link.1 is_y.0 p.1 is_y.1 there.1 in
    let opened_x = subst (λ (v : FlowType). IsOpened named last v x) t node_x.2 in
    let opened_y = subst (λ (v : FlowType). IsOpened named last v y) u is_y.2 in
    subst (λ (v : FlowType). AreLinkWays last (all_ways link.0 (out-FlowType v) x link.1 (out-FlowType b) y) (ways named p)) left
    (subst (λ (v : FlowType). AreLinkWays last (all_ways link.0 (out-FlowType p.0) x link.1 (out-FlowType v) y) (ways named p)) right
    (ways_typed named last link.0 link.1 p x y ((λ i. is_free (out-FlowType (left i)) (out-FlowType (right i))) ∙ off) there opened_x opened_y))

-- the same, by what was read off both nodes
pub ways_read : (named : Key → FlowType) (types first last : List FlowType) (link : Link) (a b : FlowType) (x y u v : Node) (all : List (List Link)) → slice_get types link.0 ≡ Some a → slice_get types link.1 ≡ Some b →
    is_free (out-FlowType a) (out-FlowType b) ≡ false → Extends types first → IsNode named first link.0 x → Extends first last → IsNode named last link.1 y → u ≡ x → v ≡ y → all ≡ all_ways link.0 (out-FlowType a) u link.1 (out-FlowType b) v →
    (p : Pair) → IsLink types link p → AreLinkWays last all (ways named p)
ways_read named types first last link a b x y u v all e f off g is_x more is_y same_x same_y is p at =
    subst (λ (l : List (List Link)). AreLinkWays last l (ways named p)) (sym (is ∙ (λ i. all_ways link.0 (out-FlowType a) (same_x i) link.1 (out-FlowType b) (same_y i))))
    (ways_opened named types first last link a b x y e f off g is_x more is_y p at)

pub ways_free : (named : Key → FlowType) (types : List FlowType) (link : Link) (a b : FlowType) (all : List (List Link)) → slice_get types link.0 ≡ Some a → slice_get types link.1 ≡ Some b →
    is_free (out-FlowType a) (out-FlowType b) ≡ true → all ≡ [] ∷ [] → (p : Pair) → IsLink types link p → AreLinkWays types all (ways named p)
ways_free named types link a b all e f on is p at =
    let left : p.0 ≡ a = same_type types link.0 p.0 a at.0 e in
    let right : p.1 ≡ b = same_type types link.1 p.1 b at.1 f in
    subst (λ (l : List (List Link)). AreLinkWays types l (ways named p)) (sym is) (free_typed named types p ((λ i. is_free (out-FlowType (left i)) (out-FlowType (right i))) ∙ on))
