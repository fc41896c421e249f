-- Links keep their pairs as more types come, and rows by links are rows by pairs.
use Rattle.std.proofs.Common.{◌≡◌, ℕ, zero, suc, ◌+◌, ◌<◌, ◌≤◌, List, [], ◌∷◌, ◌++◌, length, get_or, take, slice_get, Some, Contains, refl, sym, ap, ◌∙◌, arith, subst, inl, inr}
use Rattle.std.proofs.lemmas.Grind.{common_steps}
use Rattle.type_values.specs.declared.types.FlowType.{FlowType, out-FlowType}
use Rattle.alias_table.specs.Aliases.{Key}
use Rattle.subtyping.specs.Rows.{Pair, ways}
use Rattle.subtyping.specs.Collected.{StandFor, IsHopeless, IsRow}
use Rattle.subtyping.proofs.Whole.{nothing, here, there}
use Rattle.subtype_rules.specs.declared.terms.Node.{Node}
use Rattle.subtype_rules.specs.Terms.{Link, Adds, Extends, AreNamed, IsLink, AreLinks, AreLinkWays, IsOpened, IsNode, AreNodes, StandAt, IsLinkRow, HasLostLink, InWays, IsRowOf, parts_of, effective_of}
use Rattle.subtype_rules.proofs.Grown.{at_stays, take_push}

pub named_stay : (types new : List FlowType) (ks : List ℕ) (ts : List FlowType) → Extends types new → AreNamed types ks ts → AreNamed new ks ts
named_stay types new [] [] g f = tt
named_stay types new [] (t ∷ ts) g f = absurd f
named_stay types new (k ∷ ks) [] g f = absurd f
named_stay types new (k ∷ ks) (t ∷ ts) g f = (at_stays types new k t g f.0, named_stay types new ks ts g f.1)

named_push : (types : List FlowType) (ks : List ℕ) (ts : List FlowType) (k : ℕ) (t : FlowType) → AreNamed types ks ts → slice_get types k ≡ Some t → AreNamed types (ks ++ k ∷ []) (ts ++ t ∷ [])
named_push types [] [] k t f e = (e, tt)
named_push types [] (u ∷ ts) k t f e = absurd f
named_push types (j ∷ ks) [] k t f e = absurd f
named_push types (j ∷ ks) (u ∷ ts) k t f e = (f.0, named_push types ks ts k t f.1 e)

-- one number more
pub named_next : (types new : List FlowType) (ks ks' : List ℕ) (all : List FlowType) (i k : ℕ) (t : FlowType) → i < length all → t ≡ get_or all i t → Extends types new → AreNamed types ks (take i all) →
    slice_get new k ≡ Some t → ks' ≡ ks ++ k ∷ [] → AreNamed new ks' (take (i + 1) all)
named_next types new ks ks' all i k t h e g old at push =
    subst (λ l. AreNamed new l (take (i + 1) all)) (sym push)
    (subst (AreNamed new (ks ++ k ∷ [])) (sym (take_push all i t h e)) (named_push new ks (take i all) k t (named_stay types new ks (take i all) g old) at))

pub named_all : (types : List FlowType) (ks : List ℕ) (all : List FlowType) (i : ℕ) → length all ≤ i → AreNamed types ks (take i all) → AreNamed types ks all
named_all types ks all i h f = subst (AreNamed types ks) (grind (arith, common_steps, h)) f

pub links_stay : (types new : List FlowType) (links : List Link) (pairs : List Pair) → Extends types new → AreLinks types links pairs → AreLinks new links pairs
links_stay types new [] [] g f = tt
links_stay types new [] (p ∷ ps) g f = absurd f
links_stay types new (l ∷ ls) [] g f = absurd f
links_stay types new (l ∷ ls) (p ∷ ps) g f = ((at_stays types new l.0 p.0 g f.0.0, at_stays types new l.1 p.1 g f.0.1), links_stay types new ls ps g f.1)

pub opened_stays : (named : Key → FlowType) (types new : List FlowType) (t : FlowType) (node : Node) → Extends types new → IsOpened named types t node → IsOpened named new t node
opened_stays named types new t node g f = (
  named_stay types new node.parts (parts_of named (out-FlowType t)) g f.0,
  named_stay types new node.effective (effective_of (out-FlowType t)) g f.1,
  at_stays types new node.blank _ g f.2,
)

pub node_stays : (named : Key → FlowType) (types new : List FlowType) (n : ℕ) (node : Node) → Extends types new → IsNode named types n node → IsNode named new n node
node_stays named types new n node g f = (f.0, at_stays types new n f.0 g f.1, opened_stays named types new f.0 node g f.2)

pub nodes_stay : (named : Key → FlowType) (types new : List FlowType) (nodes : List Node) → Extends types new → AreNodes named types nodes → AreNodes named new nodes
nodes_stay named types new nodes g f m node e = node_stays named types new node.number node g (f m node e)

-- one node more
pub nodes_next : (named : Key → FlowType) (types : List FlowType) (nodes : List Node) (node : Node) → AreNodes named types nodes → IsNode named types node.number node → AreNodes named types (nodes ++ node ∷ [])
nodes_next named types nodes node f last m x e = go nodes m e (f)
  where
    go : (nodes : List Node) (m : ℕ) → slice_get (nodes ++ node ∷ []) m ≡ Some x → ((m : ℕ) (y : Node) → slice_get nodes m ≡ Some y → IsNode named types y.number y) → IsNode named types x.number x
    go [] zero e f = let same : node ≡ x = cc in subst (λ (y : Node). IsNode named types y.number y) same last
    go [] (suc m) e f = cc
    go (y ∷ nodes) zero e f = f 0 x e
    go (y ∷ nodes) (suc m) e f = go nodes m e (λ n z h. f (suc n) z h)

-- the type at a number is that of its node
pub same_type : (types : List FlowType) (n : ℕ) (t u : FlowType) → slice_get types n ≡ Some t → slice_get types n ≡ Some u → t ≡ u
same_type types n t u e f = cc

-- ---- pairs of links

-- the pair of the link at a place
pub pair_at : (types : List FlowType) (links : List Link) (pairs : List Pair) (k : ℕ) (l : Link) → AreLinks types links pairs → slice_get links k ≡ Some l → (p : Pair) × (slice_get pairs k ≡ Some p) × IsLink types l p
pair_at types [] pairs k l f e = cc
pair_at types (m ∷ ls) [] k l f e = absurd f
pair_at types (m ∷ ls) (p ∷ ps) zero l f e = let same : m ≡ l = cc in (p, refl, subst (λ (n : Link). IsLink types n p) same f.0)
pair_at types (m ∷ ls) (p ∷ ps) (suc k) l f e = pair_at types ls ps k l f.1 e

same_pair : (types : List FlowType) (l : Link) (p q : Pair) → IsLink types l p → IsLink types l q → p ≡ q
same_pair types l p q f g = let a = same_type types l.0 p.0 q.0 f.0 g.0 in let b = same_type types l.1 p.1 q.1 f.1 g.1 in λ i. (a i, b i)

-- numbers of links are numbers of their pairs
stand_pairs : (types : List FlowType) (links : List Link) (pairs : List Pair) (ks : List ℕ) (way : List Link) (ps : List Pair) → AreLinks types links pairs → StandAt links ks way → AreLinks types way ps → StandFor pairs ks ps
stand_pairs types links pairs [] [] [] f e g = refl
stand_pairs types links pairs [] [] (p ∷ ps) f e g = absurd g
stand_pairs types links pairs [] (l ∷ way) ps f e g = cc
stand_pairs types links pairs (k ∷ ks) [] ps f e g = cc
stand_pairs types links pairs (k ∷ ks) (l ∷ way) [] f e g = absurd g
stand_pairs types links pairs (k ∷ ks) (l ∷ way) (p ∷ ps) f e g =
    let first : slice_get links k ≡ Some l = cc in let rest : StandAt links ks way = cc in
    let found = pair_at types links pairs k l f first in
    let same : found.0 ≡ p = same_pair types l found.0 p found.2 g.0 in
    let here : slice_get pairs k ≡ Some p = found.1 ∙ ap Some same in
    let there = stand_pairs types links pairs ks way ps f rest g.1 in cc

-- the way by pairs of a way by links
way_of : (types : List FlowType) (all : List (List Link)) (ps : List (List Pair)) → AreLinkWays types all ps → (way : List Link) → Contains all way → (v : List Pair) × Contains ps v × AreLinks types way v
way_of types [] ps f way c = nothing way c
way_of types (w ∷ all) [] f way c = absurd f
way_of types (w ∷ all) (v ∷ ps) f way (zero, h, e) = (v, here v ps, subst (λ (x : List Link). AreLinks types x v) e f.0)
way_of types (w ∷ all) (v ∷ ps) f way (suc k, h, e) = let found = way_of types all ps f.1 way (k, omega (arith, h), e) in (found.0, there v found.0 ps found.1, found.2)

-- and back
of_way : (types : List FlowType) (all : List (List Link)) (ps : List (List Pair)) → AreLinkWays types all ps → (v : List Pair) → Contains ps v → (way : List Link) × Contains all way × AreLinks types way v
of_way types all [] f v c = nothing v c
of_way types [] (w ∷ ps) f v c = absurd f
of_way types (w ∷ all) (u ∷ ps) f v (zero, h, e) = (w, here w all, subst (AreLinks types w) e f.0)
of_way types (w ∷ all) (u ∷ ps) f v (suc k, h, e) = let found = of_way types all ps f.1 v (k, omega (arith, h), e) in (found.0, there w found.0 all found.1, found.2)

-- the pair of a link of a way
link_of : (types : List FlowType) (way : List Link) (ps : List Pair) → AreLinks types way ps → (l : Link) → Contains way l → (p : Pair) × Contains ps p × IsLink types l p
link_of types [] ps f l c = nothing l c
link_of types (m ∷ way) [] f l c = absurd f
link_of types (m ∷ way) (p ∷ ps) f l (zero, h, e) = (p, here p ps, subst (λ (n : Link). IsLink types n p) e f.0)
link_of types (m ∷ way) (p ∷ ps) f l (suc k, h, e) = let found = link_of types way ps f.1 l (k, omega (arith, h), e) in (found.0, there p found.0 ps found.1, found.2)

hopeless_pairs : (types : List FlowType) (way : List Link) (ps : List Pair) → AreLinks types way ps → HasLostLink types way → (named : Key → FlowType) → IsHopeless named ps
hopeless_pairs types way ps f lost named = let found = link_of types way ps f lost.0 lost.1 in (found.0, found.1, lost.2 found.0 found.2 named)

-- a row by links is one by their pairs
row_pairs : (named : Key → FlowType) (types : List FlowType) (links : List Link) (pairs : List Pair) (row : List (List ℕ)) (all : List (List Link)) (ps : List (List Pair)) → AreLinks types links pairs → AreLinkWays types all ps → IsLinkRow types links row all → IsRow named pairs row ps
row_pairs named types links pairs row all ps f g r = (
  (λ ks c. let old = r.0 ks c in let found = way_of types all ps g old.0 old.1 in (found.0, found.1, stand_pairs types links pairs ks old.0 found.0 f old.2 found.2)),
  λ v c. let found = of_way types all ps g v c in elim (r.1 found.0 found.1) [
    | inl on ↦ inl (on.0, on.1, stand_pairs types links pairs on.0 found.0 v f on.2 found.2)
    | inr off ↦ inr (hopeless_pairs types found.0 v found.2 off named)
  ],
)

-- each link of the ways has a pair
pairs_for : (types : List FlowType) (more : List Link) → ((l : Link) → Contains more l → (p : Pair) × IsLink types l p) → (ps : List Pair) × AreLinks types more ps
pairs_for types [] f = ([], tt)
pairs_for types (l ∷ more) f = let p = f l (here l more) in let rest = pairs_for types more (λ m c. f m (there l m more c)) in (p.0 ∷ rest.0, (p.1, rest.1))

pub links_append : (types : List FlowType) (a b : List Link) (x y : List Pair) → AreLinks types a x → AreLinks types b y → AreLinks types (a ++ b) (x ++ y)
links_append types [] b [] y f g = g
links_append types [] b (p ∷ x) y f g = absurd f
links_append types (l ∷ a) b [] y f g = absurd f
links_append types (l ∷ a) b (p ∷ x) y f g = (f.0, links_append types a b x y f.1 g)

one_pair : (pairs : List Pair) (k : ℕ) (p q : Pair) → slice_get pairs k ≡ Some p → slice_get pairs k ≡ Some q → p ≡ q
one_pair pairs k p q e f = cc

pub row_of_link : (named : Key → FlowType) (types new : List FlowType) (links links' : List Link) (k : ℕ) (link : Link) (all : List (List Link)) (row : List (List ℕ)) → Extends types new → slice_get links k ≡ Some link →
    ((p : Pair) → IsLink types link p → AreLinkWays new all (ways named p)) → Adds (InWays all) links links' → IsLinkRow new links' row all → IsRowOf named types links new links' k row
row_of_link named types new links links' k link all row g at typed adds is pairs f =
    let this = pair_at types links pairs k link f at in
    let these = typed this.0 this.2 in
    let more = pairs_for new adds.0 (λ l c. let w = adds.2 l c in let v = way_of new all (ways named this.0) these w.0 w.1 in let p = link_of new w.0 v.0 v.2 l w.2 in (p.0, p.2)) in
    let linked : AreLinks new links' (pairs ++ more.0) = subst (λ l. AreLinks new l (pairs ++ more.0)) (sym adds.1) (links_append new links adds.0 pairs more.0 (links_stay types new links pairs g f) more.1) in (
      pairs ++ more.0,
      linked,
      (more.0, refl),
      λ p e.
          let same : this.0 ≡ p = one_pair pairs k this.0 p this.1 e in
          subst (λ (q : Pair). IsRow named (pairs ++ more.0) row (ways named q)) same (row_pairs named new links' (pairs ++ more.0) row all (ways named this.0) linked these is),
    )

-- the same, by slices of what was numbered
pub row_given : (named : Key → FlowType) (types new seen : List FlowType) (links links' : List Link) (k : ℕ) (link : Link) (all some : List (List Link)) (row : List (List ℕ)) → Extends types new → slice_get links k ≡ Some link →
    ((p : Pair) → IsLink types link p → AreLinkWays new all (ways named p)) → seen ≡ new → some ≡ all → Adds (InWays some) links links' → IsLinkRow seen links' row some → IsRowOf named types links new links' k row
row_given named types new seen links links' k link all some row g at typed is_seen is_some adds is = row_of_link named types new links links' k link all row g at typed (subst (λ (l : List (List Link)). Adds (InWays l) links links') is_some adds)
    (subst (λ (l : List FlowType). IsLinkRow l links' row all) is_seen (subst (λ (l : List (List Link)). IsLinkRow seen links' row l) is_some is))

pub same_length : (types : List FlowType) (links : List Link) (pairs : List Pair) → AreLinks types links pairs → length links ≡ length pairs
same_length types [] [] f = refl
same_length types [] (p ∷ ps) f = absurd f
same_length types (l ∷ ls) [] f = absurd f
same_length types (l ∷ ls) (p ∷ ps) f = ap suc (same_length types ls ps f.1)
