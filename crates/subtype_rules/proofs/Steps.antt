-- One step of making nodes, rows and links.
use Rattle.std.proofs.Common.{◌≡◌, ℕ, ◌<◌, ◌≤◌, List, [], ◌∷◌, ◌++◌, length, get_or, slice_get, Some, refl, sym, ap, ◌∙◌, arith, subst, length-append}
use Rattle.type_values.specs.declared.types.FlowType.{FlowType, out-FlowType}
use Rattle.type_values.specs.declared.types.FlowType as made
use Rattle.alias_table.specs.Aliases.{Key}
use Rattle.subtyping.specs.Rows.{Pair}
use Rattle.subtyping.specs.Collected.{IsLost, AreRows}
use Rattle.subtype_rules.specs.declared.terms.Node.{Node}
use Rattle.subtype_rules.specs.Terms.{Link, Extends, AreNamed, AreLinks, IsOpened, IsNode, AreNodes, IsLostLink, HasLostLink, IsRowOf, IsNumbering, parts_of, effective_of}
use Rattle.subtype_rules.proofs.Grown.{at_stays, extends_more, within, rows_next, stays}
use Rattle.subtype_rules.proofs.Linked.{named_stay, nodes_stay, nodes_next, same_type, pair_at, same_length}

-- a node's numbers, after all of them were given
pub opened_last : (named : Key → FlowType) (first second last : List FlowType) (t : FlowType) (ks ls : List ℕ) (blank : ℕ) (some more : List FlowType) → AreNamed first ks some → some ≡ parts_of named (out-FlowType t) → Extends first second →
    AreNamed second ls more → more ≡ effective_of (out-FlowType t) → Extends second last → slice_get last blank ≡ Some made.Void →
    AreNamed last ks (parts_of named (out-FlowType t)) × AreNamed last ls (effective_of (out-FlowType t)) × (slice_get last blank ≡ Some made.Void)
opened_last named first second last t ks ls blank some more f is_some g h is_more k v = (
  subst (AreNamed last ks) is_some (named_stay first last ks some (extends_more first second last g k) f),
  subst (AreNamed last ls) is_more (named_stay second last ls more k h),
  v,
)

-- a node that was made is that of its number
pub node_made : (named : Key → FlowType) (types new : List FlowType) (n : ℕ) (t : FlowType) (made node : Node) → slice_get types n ≡ Some t → Extends types new → IsOpened named new t made → node ≡ made → IsNode named new n node
node_made named types new n t made node e g f same = (t, at_stays types new n t g e, subst (IsOpened named new t) (sym same) f)

-- and it comes behind those that were there
pub nodes_made : (named : Key → FlowType) (types new : List FlowType) (nodes mid last : List Node) (n : ℕ) (t : FlowType) (made more : Node) → AreNodes named types nodes → Extends types new → slice_get types n ≡ Some t →
    IsOpened named new t made → made.number ≡ n → mid ≡ nodes → more ≡ made → last ≡ mid ++ more ∷ [] → AreNodes named new last
nodes_made named types new nodes mid last n t made more f g e opened same is_mid is_more push =
    let is : IsNode named new made.number made = subst (λ (m : ℕ). IsNode named new m made) (sym same) (t, at_stays types new n t g e, opened) in
    subst (λ (l : List Node). AreNodes named new l) (sym (push ∙ (λ i. is_mid i ++ is_more i ∷ [])))
    (nodes_next named new nodes made (nodes_stay named types new nodes g f) is)

-- a node that is there
pub node_there : (named : Key → FlowType) (types : List FlowType) (nodes : List Node) (m n : ℕ) (node : Node) → AreNodes named types nodes → slice_get nodes m ≡ Some node → node.number ≡ n → IsNode named types n node
node_there named types nodes m n node f e same = subst (λ (k : ℕ). IsNode named types k node) same (f m node e)

-- the types of a link are a pair that is lost
pub lost_link : (types : List FlowType) (l : Link) (a b : FlowType) → slice_get types l.0 ≡ Some a → slice_get types l.1 ≡ Some b → ((named : Key → FlowType) → IsLost named (a, b)) → IsLostLink types l
lost_link types l a b e f lost p is named =
    let x = same_type types l.0 a p.0 e is.0 in let y = same_type types l.1 b p.1 f is.1 in
    subst (IsLost named) (λ i. (x i, y i)) (lost named)

pub has_lost_at : (types : List FlowType) (way : List Link) (i : ℕ) (l : Link) → i < length way → l ≡ get_or way i l → IsLostLink types l → HasLostLink types way
has_lost_at types way i l h e lost = (l, (i, h, sym e), lost)

-- both numbers of a link are those of types
pub link_left : (types : List FlowType) (links : List Link) (k : ℕ) (l : Link) → ((pairs : List Pair) × AreLinks types links pairs) → slice_get links k ≡ Some l → l.0 < length types
link_left types links k l some at = let found = pair_at types links some.0 k l some.1 at in within types l.0 found.0.0 found.2.0

pub link_right : (types : List FlowType) (links : List Link) (k : ℕ) (l : Link) → ((pairs : List Pair) × AreLinks types links pairs) → slice_get links k ≡ Some l → l.1 < length types
link_right types links k l some at = let found = pair_at types links some.0 k l some.1 at in within types l.1 found.0.1 found.2.1

-- what the loop keeps: the rows so far are those of some pairs
abbrev pub Some_rows : (Key → FlowType) → List FlowType → List Link → Pair → List (List (List ℕ)) → Type 0
Some_rows named types links p rows = (pairs : List Pair) × AreLinks types links pairs × (slice_get pairs 0 ≡ Some p) × AreRows named pairs rows

pub rows_start : (named : Key → FlowType) (types : List FlowType) (links : List Link) (p : Pair) (rows : List (List (List ℕ))) → AreLinks types links (p ∷ []) → rows ≡ [] → Some_rows named types links p rows
rows_start named types links p rows f none = (p ∷ [], f, refl, subst (AreRows named (p ∷ [])) (sym none) (λ k q h e. absurd (omega (arith, h))))

pub rows_more : (named : Key → FlowType) (types types' : List FlowType) (links links' : List Link) (p : Pair) (rows rows' : List (List (List ℕ))) (row : List (List ℕ)) → Some_rows named types links p rows → length rows < length links →
    IsRowOf named types links types' links' (length rows) row → rows' ≡ rows ++ row ∷ [] → Some_rows named types' links' p rows'
rows_more named types types' links links' p rows rows' row some less next push =
    let more = next some.0 some.1 in
    let same = same_length types links some.0 some.1 in
    (more.0, more.1, ap (λ l. slice_get l 0) more.2.1 ∙ stays some.0 more.2.0 0 p some.2, rows_next named some.0 more.0 rows rows' row some.3 (omega (arith, less, same)) more.2 more.3 push)

pub rows_within : (named : Key → FlowType) (types types' : List FlowType) (links links' : List Link) (p : Pair) (rows rows' : List (List (List ℕ))) (row : List (List ℕ)) → Some_rows named types links p rows → length rows < length links →
    IsRowOf named types links types' links' (length rows) row → rows' ≡ rows ++ row ∷ [] → length rows' ≤ length links'
rows_within named types types' links links' p rows rows' row some less next push =
    let more = next some.0 some.1 in
    let same = same_length types links some.0 some.1 in
    let new = same_length types' links' more.0 more.1 in
    let a : length more.0 ≡ length (some.0 ++ more.2.0) = ap length more.2.1 in
    let b = length-append some.0 more.2.0 in
    let c : length rows' ≡ length (rows ++ row ∷ []) = ap length push in
    let d = length-append rows (row ∷ []) in
    omega (arith, less, same, new, a, b, c, d)

pub numbering : (named : Key → FlowType) (types : List FlowType) (links : List Link) (p : Pair) (rows : List (List (List ℕ))) → Some_rows named types links p rows → length rows ≤ length links → length links ≤ length rows → IsNumbering named p rows
numbering named types links p rows some low high = let same = same_length types links some.0 some.1 in (some.0, some.2, omega (arith, low, high, same), some.3)

-- the node at a place is the one that was found there
pub same_node : (nodes : List Node) (m n : ℕ) (found node : Node) → slice_get nodes m ≡ Some found → slice_get nodes m ≡ Some node → found.number ≡ n → node.number ≡ n
same_node nodes m n found node e f is = let same : found ≡ node = cc in subst (λ (x : Node). x.number ≡ n) same is
