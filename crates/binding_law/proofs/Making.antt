-- A change that is made in a piece, and how it comes out of the scopes and functions around it.
use Rattle.std.proofs.Common.{◌≡◌, ◌⊎◌, ◌||◌, not, Bool, true, false, Option, Some, None, Contains, if◌then◌else◌, refl, sym, ap, ◌∙◌, subst}
use Rattle.std.proofs.lemmas.Bool.{not-true, or_parts}
use Rattle.check_values.specs.Rows.{Bytes, is_among}
use Rattle.typing.specs.Changes.{Change, sets_variable, sets_property, may_set_all, from_inside, is_outside}
use Rattle.binding_law.specs.Pieces.{Piece, parts, bound_by, is_function}
use Rattle.binding_law.specs.Ways.{Way, arrived, into, bound_on, enters_function, IsAssignment, IsPropertyAssignment, IsElementAssignment, IsCall, IsAssigned}
use Rattle.binding_law.proofs.Changing.{never, among_neither, among_parts, is_inner, name_in, is_variable}

-- the piece makes this change itself
pub data Makes (c : Change) (p : Piece) : Type 0 where
  a_variable : (name : Bytes) → c ≡ sets_variable false name → IsAssignment name p → Makes c p
  a_property : (name : Bytes) → c ≡ sets_property name → IsPropertyAssignment name p → Makes c p
  all_properties : c ≡ may_set_all → IsElementAssignment p ⊎ IsCall p → Makes c p

-- a change in a part, and what it is outside of the piece, if nothing there binds its name
abbrev pub Leaves : Piece → Change → Change → Type 0
Leaves p c d = (if is_function p then from_inside c else Some c) ≡ Some d

-- what was made at the end of the way is this change at its start
abbrev pub ComesOut : {p end : Piece} → Way p end → Change → Change → Type 0
ComesOut (arrived p) made c = made ≡ c
ComesOut (into p q end part way) made c = (between : Change) × ComesOut way made between × (is_outside (bound_by p) between ≡ true) × Leaves p between c

pub record IsMade (c : Change) (p : Piece) : Type 0 where
  pub place : Piece
  pub way : Way p place
  pub made : Change
  pub makes : Makes made place
  pub comes : ComesOut way made c

pub through : (p q : Piece) (c d : Change) → Contains (parts p) q → is_outside (bound_by p) c ≡ true → Leaves p c d → IsMade c q → IsMade d p
through p q c d part free leaves a = record { place = a.place; way = into p q a.place part a.way; made = a.made; makes = a.makes; comes = (c, a.comes, free, leaves) }

pub itself : (p : Piece) (c : Change) → Makes c p → IsMade c p
itself p c makes = record { place = p; way = arrived p; made = c; makes = makes; comes = refl }

-- ---- a variable

abbrev pub the_one : Option Change → Change
the_one None = may_set_all
the_one (Some c) = c

pub variable_out : (name : Bytes) {p end : Piece} (way : Way p end) → is_among (bound_on way) name ≡ false → ComesOut way (sets_variable false name) (sets_variable (enters_function way) name)
variable_out name (arrived p) free = refl
variable_out name (into p q end part way) free =
    let parted = among_parts (bound_by p) (bound_on way) name free in
    (sets_variable (enters_function way) name, variable_out name way parted.1, ap not parted.0, go (is_function p))
  where
    go : (b : Bool) → (if b then from_inside (sets_variable (enters_function way) name) else Some (sets_variable (enters_function way) name)) ≡ Some (sets_variable (b || enters_function way) name)
    go true = refl
    go false = refl

-- a variable that comes out of a function or not
variable_before : (b inner : Bool) (name : Bytes) (c : Change) → (if b then from_inside c else Some c) ≡ Some (sets_variable inner name) → (within : Bool) × (c ≡ sets_variable within name) × ((b || within) ≡ inner)
variable_before false inner name c is = (inner, ap the_one is, refl)
variable_before true inner name (sets_variable within own) is = (within, ap (sets_variable within) (ap (name_in name) is), ap is_inner is)
variable_before true inner name (sets_property own) is = never ((ap is_variable is))
variable_before true inner name may_set_all is = never ((ap is_variable is))

assignment_made : (inner : Bool) (name : Bytes) (p : Piece) (made : Change) → Makes made p → made ≡ sets_variable inner name → IsAssignment name p × (false ≡ inner)
assignment_made inner name p made (a_variable own is assignment) same =
    let both = sym is ∙ same in
    (subst (λ (n : Bytes). IsAssignment n p) (ap (λ (c : Change). name_in name (Some c)) both) assignment, ap (λ (c : Change). is_inner (Some c)) both)
assignment_made inner name p made (a_property own is assignment) same = never ((ap (λ (c : Change). is_variable (Some c)) (sym is ∙ same)))
assignment_made inner name p made (all_properties is others) same = never ((ap (λ (c : Change). is_variable (Some c)) (sym is ∙ same)))

variable_in : (name : Bytes) {p end : Piece} (way : Way p end) (made c : Change) (inner : Bool) → Makes made end → ComesOut way made c → c ≡ sets_variable inner name →
    IsAssignment name end × (enters_function way ≡ inner) × (is_among (bound_on way) name ≡ false)
variable_in name (arrived p) made c inner makes comes is = (let found = assignment_made inner name p made makes (comes ∙ is) in (found.0, found.1, refl))
variable_in name (into p q end part way) made c inner makes (between, rest, free, leaves) is =
    let before = variable_before (is_function p) inner name between (leaves ∙ ap Some is) in
    let found = variable_in name way made between before.0 makes rest before.1 in
    let own : is_among (bound_by p) name ≡ false = not-true (is_among (bound_by p) name) (sym (ap (is_outside (bound_by p)) before.1) ∙ free) in
    (found.0, ap (λ (b : Bool). is_function p || b) found.1 ∙ before.2, among_neither (bound_by p) (bound_on way) name own found.2)

pub made_assigned : (inner : Bool) (name : Bytes) (p : Piece) → IsMade (sets_variable inner name) p → IsAssigned inner name p
made_assigned inner name p a =
    let found = variable_in name a.way a.made (sets_variable inner name) inner a.makes a.comes refl in
    record { place = a.place; way = a.way; assignment = found.0; inside = found.1; free = found.2 }

pub assigned_made : (inner : Bool) (name : Bytes) (p : Piece) → IsAssigned inner name p → IsMade (sets_variable inner name) p
assigned_made inner name p a = subst (λ (i : Bool). IsMade (sets_variable i name) p) a.inside (record {
  place = a.place;
  way = a.way;
  made = sets_variable false name;
  makes = a_variable name refl a.assignment;
  comes = variable_out name a.way a.free;
})

-- ---- a property

property_out : (name : Bytes) {p end : Piece} (way : Way p end) → ComesOut way (sets_property name) (sets_property name)
property_out name (arrived p) = refl
property_out name (into p q end part way) = (sets_property name, property_out name way, refl, go (is_function p))
  where
    go : (b : Bool) → (if b then from_inside (sets_property name) else Some (sets_property name)) ≡ Some (sets_property name)
    go true = refl
    go false = refl

abbrev is_property : Option Change → Bool
is_property (Some (sets_property own)) = true
is_property o = false

abbrev property_in : Bytes → Option Change → Bytes
property_in name (Some (sets_property own)) = own
property_in name o = name

property_before : (b : Bool) (name : Bytes) (c : Change) → (if b then from_inside c else Some c) ≡ Some (sets_property name) → c ≡ sets_property name
property_before false name c is = ap the_one is
property_before true name (sets_variable within own) is = never ((ap is_property is))
property_before true name (sets_property own) is = ap sets_property (ap (property_in name) is)
property_before true name may_set_all is = never ((ap is_property is))

property_made : (name : Bytes) (p : Piece) (made : Change) → Makes made p → made ≡ sets_property name → IsPropertyAssignment name p
property_made name p made (a_variable own is assignment) same = never ((ap (λ (c : Change). is_property (Some c)) (sym is ∙ same)))
property_made name p made (a_property own is assignment) same = subst (λ (n : Bytes). IsPropertyAssignment n p) (ap (λ (c : Change). property_in name (Some c)) (sym is ∙ same)) assignment
property_made name p made (all_properties is others) same = never ((ap (λ (c : Change). is_property (Some c)) (sym is ∙ same)))

property_found : (name : Bytes) {p end : Piece} (way : Way p end) (made c : Change) → Makes made end → ComesOut way made c → c ≡ sets_property name → IsPropertyAssignment name end
property_found name (arrived p) made c makes comes is = property_made name p made makes (comes ∙ is)
property_found name (into p q end part way) made c makes (between, rest, free, leaves) is = property_found name way made between makes rest (property_before (is_function p) name between (leaves ∙ ap Some is))

pub made_property : (name : Bytes) (p : Piece) → IsMade (sets_property name) p → (place : Piece) × Way p place × IsPropertyAssignment name place
made_property name p a = (a.place, a.way, property_found name a.way a.made (sets_property name) a.makes a.comes refl)

pub property_is_made : (name : Bytes) (p : Piece) → (place : Piece) × Way p place × IsPropertyAssignment name place → IsMade (sets_property name) p
property_is_made name p (place, way, assignment) = record { place = place; way = way; made = sets_property name; makes = a_property name refl assignment; comes = property_out name way }

-- ---- all properties

all_out : {p end : Piece} (way : Way p end) → enters_function way ≡ false → ComesOut way may_set_all may_set_all
all_out (arrived p) outside = refl
all_out (into p q end part way) outside =
    let parted = or_parts (is_function p) (enters_function way) outside in
    (may_set_all, all_out way parted.1, refl, ap (λ (b : Bool). if b then from_inside may_set_all else Some may_set_all) parted.0)

abbrev is_all : Option Change → Bool
is_all (Some may_set_all) = true
is_all o = false

all_before : (b : Bool) (c : Change) → (if b then from_inside c else Some c) ≡ Some may_set_all → (c ≡ may_set_all) × (b ≡ false)
all_before false c is = (ap the_one is, refl)
all_before true (sets_variable within own) is = never ((ap is_all is))
all_before true (sets_property own) is = never ((ap is_all is))
all_before true may_set_all is = never ((ap is_all is))

all_made : (p : Piece) (made : Change) → Makes made p → made ≡ may_set_all → IsElementAssignment p ⊎ IsCall p
all_made p made (a_variable own is assignment) same = never ((ap (λ (c : Change). is_all (Some c)) (sym is ∙ same)))
all_made p made (a_property own is assignment) same = never ((ap (λ (c : Change). is_all (Some c)) (sym is ∙ same)))
all_made p made (all_properties is others) same = others

all_found : {p end : Piece} (way : Way p end) (made c : Change) → Makes made end → ComesOut way made c → c ≡ may_set_all → (enters_function way ≡ false) × (IsElementAssignment end ⊎ IsCall end)
all_found (arrived p) made c makes comes is = (refl, all_made p made makes (comes ∙ is))
all_found (into p q end part way) made c makes (between, rest, free, leaves) is =
    let before = all_before (is_function p) between (leaves ∙ ap Some is) in
    let found = all_found way made between makes rest before.0 in
    (ap (λ (b : Bool). b || enters_function way) before.1 ∙ found.0, found.1)

pub made_all : (p : Piece) → IsMade may_set_all p → (place : Piece) × (way : Way p place) × (enters_function way ≡ false) × (IsElementAssignment place ⊎ IsCall place)
made_all p a = (let found = all_found a.way a.made may_set_all a.makes a.comes refl in (a.place, a.way, found.0, found.1))

pub all_is_made : (p : Piece) → (place : Piece) × (way : Way p place) × (enters_function way ≡ false) × (IsElementAssignment place ⊎ IsCall place) → IsMade may_set_all p
all_is_made p (place, way, outside, others) = record { place = place; way = way; made = may_set_all; makes = all_properties refl others; comes = all_out way outside }
