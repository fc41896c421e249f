-- Types by numbers, and the ways to justify a pair by links: pairs of such numbers.
use Rattle.std.specs.Prelude.{◌≡◌, ◌⊎◌, ◌==◌, ℕ, suc, Bool, List, [], ◌∷◌, ◌++◌, length, map, Contains, Option, Some, None, slice_get, if◌then◌else◌}
use Rattle.type_values.specs.declared.types.FlowType.{FlowType, out-FlowType}
use Rattle.type_values.specs.declared.types.FlowType as made
use Rattle.type_values.specs.declared.types.FlowType.TheOpen.{Union, Object, Tuple, Array, ReadArray, Function, Ref}
use Rattle.type_values.specs.declared.types.FlowProp.{FlowProp}
use Rattle.type_values.specs.declared.types.Variance.{Variance}
use Rattle.type_values.specs.declared.types.Variance.TheVariants.{Both, Read, Write}
use Rattle.alias_table.specs.Aliases.{Key, is_text}
use Rattle.type_terms.specs.Optional.{eff}
use Rattle.subtyping.specs.Rows.{Pair, Level, does_open, objects_fit, ways}
use Rattle.subtyping.specs.Collected.{Grows, IsLost, IsRow, AreRows}
use Rattle.subtype_rules.specs.declared.terms.Node.{Node}
use Rattle.subtype_rules.specs.declared.links.Entry.{Entry}

-- the numbers of two types
abbrev pub Link : Type 0
Link = ℕ × ℕ

-- more comes behind what was there, all of it of this kind
abbrev pub Adds : {A : Type 0} → (A → Type 0) → List A → List A → Type 0
Adds {A = A} P old new = (more : List A) × (new ≡ old ++ more) × ((x : A) → Contains more x → P x)

-- more comes behind what was there
abbrev pub Extends : {A : Type 0} → List A → List A → Type 0
Extends {A = A} old new = (more : List A) × (new ≡ old ++ more)

-- these numbers are of these types
abbrev pub AreNamed : List FlowType → List ℕ → List FlowType → Type 0
AreNamed types [] [] = Unit {0}
AreNamed types [] (t ∷ ts) = ⊥
AreNamed types (k ∷ ks) [] = ⊥
AreNamed types (k ∷ ks) (t ∷ ts) = (slice_get types k ≡ Some t) × AreNamed types ks ts

-- a link is of a pair of types
abbrev pub IsLink : List FlowType → Link → Pair → Type 0
IsLink types l p = (slice_get types l.0 ≡ Some p.0) × (slice_get types l.1 ≡ Some p.1)

abbrev pub AreLinks : List FlowType → List Link → List Pair → Type 0
AreLinks types [] [] = Unit {0}
AreLinks types [] (p ∷ ps) = ⊥
AreLinks types (l ∷ ls) [] = ⊥
AreLinks types (l ∷ ls) (p ∷ ps) = IsLink types l p × AreLinks types ls ps

-- each way by links is the way by pairs at its place
abbrev pub AreLinkWays : List FlowType → List (List Link) → List (List Pair) → Type 0
AreLinkWays types [] [] = Unit {0}
AreLinkWays types [] (p ∷ ps) = ⊥
AreLinkWays types (l ∷ ls) [] = ⊥
AreLinkWays types (l ∷ ls) (p ∷ ps) = AreLinks types l p × AreLinkWays types ls ps

-- what a type needs of its parts: a name what it unfolds to
abbrev pub parts_of : (Key → FlowType) → Level → List FlowType
parts_of named (Ref home name) = named (home, name) ∷ []
parts_of named (Union all) = all
parts_of named (Object closed ps) = map (λ p. p.ty) ps
parts_of named (Tuple all) = all
parts_of named (Array x) = x ∷ []
parts_of named (ReadArray x) = x ∷ []
parts_of named (Function ps r) = r ∷ []
parts_of named x = []

-- the types of its properties or parameters, with `void` where they may be absent
abbrev pub effective_of : Level → List FlowType
effective_of (Object closed ps) = map (λ p. eff p.optional p.ty) ps
effective_of (Function ps r) = map (λ p. eff p.optional p.ty) ps
effective_of x = []

-- a node has the numbers of a type's parts
abbrev pub IsOpened : (Key → FlowType) → List FlowType → FlowType → Node → Type 0
IsOpened named types t node = AreNamed types node.parts (parts_of named (out-FlowType t)) × AreNamed types node.effective (effective_of (out-FlowType t)) × (slice_get types node.blank ≡ Some made.Void)

-- a node is that of a number
abbrev pub IsNode : (Key → FlowType) → List FlowType → ℕ → Node → Type 0
IsNode named types n node = (t : FlowType) × (slice_get types n ≡ Some t) × IsOpened named types t node

abbrev pub AreNodes : (Key → FlowType) → List FlowType → List Node → Type 0
AreNodes named types nodes = (m : ℕ) (node : Node) → slice_get nodes m ≡ Some node → IsNode named types node.number node

-- ---- the rows by numbers

-- both directions at each place
abbrev pub both_links : List ℕ → List ℕ → List Link
both_links [] ls = []
both_links (k ∷ ks) [] = []
both_links (k ∷ ks) (l ∷ ls) = (k, l) ∷ (l, k) ∷ both_links ks ls

-- one direction at each place
abbrev pub zip_links : List ℕ → List ℕ → List Link
zip_links [] ls = []
zip_links (k ∷ ks) [] = []
zip_links (k ∷ ks) (l ∷ ls) = (k, l) ∷ zip_links ks ls

-- each parameter of A takes what B's does, and `void` where there is none
abbrev pub param_links : ℕ → List ℕ → List ℕ → List Link
param_links blank [] ls = []
param_links blank (k ∷ ks) [] = (blank, k) ∷ param_links blank ks []
param_links blank (k ∷ ks) (l ∷ ls) = (l, k) ∷ param_links blank ks ls

-- the place of a key: the first one, where there are several
abbrev pub place_from : ℕ → List FlowProp → List ℕ → Option ℕ
place_from i [] key = None
place_from i (p ∷ ps) key = if is_text p.key key then Some i else place_from (suc i) ps key

abbrev pub place_at : List FlowProp → List ℕ → Option ℕ
place_at ps key = place_from 0 ps key

-- the numbers of a property, where there are all
abbrev pub entry_made : Option FlowProp → Option ℕ → Option ℕ → Option Entry
entry_made (Some p) (Some k) (Some l) = Some (record { variance = p.variance; ty = k; effective = l })
entry_made p k l = None

-- the numbers of the property at a place
abbrev pub entry_of : List FlowProp → List ℕ → List ℕ → ℕ → Option Entry
entry_of ps ks ls n = entry_made (slice_get ps n) (slice_get ks n) (slice_get ls n)

abbrev pub entry_in : List FlowProp → List ℕ → List ℕ → Option ℕ → Option Entry
entry_in ps ks ls None = None
entry_in ps ks ls (Some n) = entry_of ps ks ls n

-- the numbers of the property of a key
abbrev pub entry_at : List FlowProp → Node → List ℕ → Option Entry
entry_at ps node key = entry_in ps node.parts node.effective (place_at ps key)

-- what a property of A needs to serve for one of B
abbrev pub entry_links : Variance → Entry → Entry → List Link
entry_links Both p q = (p.ty, q.ty) ∷ (q.ty, p.ty) ∷ []
entry_links Read p q = (p.effective, q.effective) ∷ []
entry_links Write p q = (q.effective, p.effective) ∷ []

abbrev pub links_at : Option Entry → Option Entry → List Link
links_at (Some p) (Some q) = entry_links q.variance p q
links_at p q = []

abbrev pub all_links : List FlowProp → Node → List FlowProp → Node → List FlowProp → List Link
all_links ps x qs y [] = []
all_links ps x qs y (q ∷ more) = links_at (entry_at ps x q.key) (entry_at qs y q.key) ++ all_links ps x qs y more

abbrev pub one_link_way : Bool → List Link → List (List Link)
one_link_way b way = if b then way ∷ [] else []

abbrev pub left_links : Level → Node → ℕ → List (List Link)
left_links a x j = if does_open a then map (λ k. (k, j)) x.parts ∷ [] else []

abbrev pub right_links : ℕ → Level → Node → List (List Link)
right_links i b y = if does_open b then map (λ k. (i, k) ∷ []) y.parts else []

abbrev pub part_links : Level → Node → Level → Node → List (List Link)
part_links (Object closed_a ps) x (Object closed_b qs) y = one_link_way (objects_fit closed_a ps closed_b qs) (all_links ps x qs y qs)
part_links (Tuple xs) x (Tuple ys) y = one_link_way (length xs == length ys) (both_links x.parts y.parts)
part_links (Array t) x (Array u) y = both_links x.parts y.parts ∷ []
part_links (Array t) x (ReadArray u) y = zip_links x.parts y.parts ∷ []
part_links (ReadArray t) x (ReadArray u) y = zip_links x.parts y.parts ∷ []
part_links (Function ps r) x (Function qs s) y = (zip_links x.parts y.parts ++ param_links x.blank x.effective y.effective) ∷ []
part_links a x b y = []

-- all ways that need something
abbrev pub all_ways : ℕ → Level → Node → ℕ → Level → Node → List (List Link)
all_ways i a x j b y = (left_links a x j ++ right_links i b y) ++ part_links a x b y

-- ---- links by their numbers

-- no closed set has the pair of a link
abbrev pub IsLostLink : List FlowType → Link → Type 0
IsLostLink types l = (p : Pair) → IsLink types l p → (named : Key → FlowType) → IsLost named p

-- a link of a way is lost
abbrev pub HasLostLink : List FlowType → List Link → Type 0
HasLostLink types way = (l : Link) × Contains way l × IsLostLink types l

-- these numbers stand for these links
abbrev pub StandAt : List Link → List ℕ → List Link → Type 0
StandAt links ks way = map (slice_get links) ks ≡ map Some way

-- each way of the row is one of these, and each of these is in the row or has a lost link
abbrev pub IsLinkRow : List FlowType → List Link → List (List ℕ) → List (List Link) → Type 0
IsLinkRow types links row all = ((ks : List ℕ) → Contains row ks → (way : List Link) × Contains all way × StandAt links ks way)
    × ((way : List Link) → Contains all way → ((ks : List ℕ) × Contains row ks × StandAt links ks way) ⊎ HasLostLink types way)

-- one way is put into the row, or has a lost link
abbrev pub IsLinkAdded : List FlowType → List Link → List (List ℕ) → List (List ℕ) → List Link → Type 0
IsLinkAdded types links old new way = ((new ≡ old) × HasLostLink types way) ⊎ ((ks : List ℕ) × (new ≡ old ++ ks ∷ []) × StandAt links ks way)

-- a link of one of these ways
abbrev pub InWays : List (List Link) → Link → Type 0
InWays all l = (way : List Link) × Contains all way × Contains way l

-- a row is that of the link of a number, whatever pairs the links are of
abbrev pub IsRowOf : (Key → FlowType) → List FlowType → List Link → List FlowType → List Link → ℕ → List (List ℕ) → Type 0
IsRowOf named types links types' links' k row = (pairs : List Pair) → AreLinks types links pairs →
    (pairs' : List Pair) × AreLinks types' links' pairs' × Grows pairs pairs' × ((p : Pair) → slice_get pairs k ≡ Some p → IsRow named pairs' row (ways named p))

-- the rows of some pairs, and the first of them is this one
abbrev pub IsNumbering : (Key → FlowType) → Pair → List (List (List ℕ)) → Type 0
IsNumbering named p rows = (pairs : List Pair) × (slice_get pairs 0 ≡ Some p) × (length rows ≡ length pairs) × AreRows named pairs rows
