-- The assignments in a piece of code.
use Rattle.std.specs.Prelude.{◌≡◌, ◌↔◌, ◌⊎◌, ℕ, ◌++◌, ◌||◌, Bool, true, false, List, [], Contains}
use Rattle.js_grammar.specs.Code.{Ex, ex, variable, postfixed, link, member, index, call, Links, no_link, more_link, simple, assign}
use Rattle.check_values.specs.Rows.{Bytes, is_among}
use Rattle.typing.specs.Changes.{sets_variable, sets_property, may_set_all}
use Rattle.binding_law.specs.Pieces.{Piece, an_expression, a_simple, parts, bound_by, is_function, changes_of}

-- a way inwards: from a piece to one of its parts, and on from there
pub data Way : Piece → Piece → Type 0 where
  arrived : (p : Piece) → Way p p
  into : (p q end : Piece) → Contains (parts p) q → Way q end → Way p end

-- the names that are bound on the way
abbrev pub bound_on : {p end : Piece} → Way p end → List Bytes
bound_on (arrived p) = []
bound_on (into p q end part way) = bound_by p ++ bound_on way

-- whether it leads into a function
abbrev pub enters_function : {p end : Piece} → Way p end → Bool
enters_function (arrived p) = false
enters_function (into p q end part way) = is_function p || enters_function way

-- the piece is an assignment to this name
abbrev pub IsAssignment : Bytes → Piece → Type 0
IsAssignment name p = (f t from to : ℕ) × (e : Ex) × (p ≡ a_simple (simple f t (assign (ex from to (variable name)) e)))

-- the piece is an assignment to a property of this name
abbrev pub IsPropertyAssignment : Bytes → Piece → Type 0
IsPropertyAssignment name p =
    (f t from to at end : ℕ) × (o : Ex) × (ls : Links) × (e : Ex) × (p ≡ a_simple (simple f t (assign (ex from to (postfixed o (more_link ls (link at end (member name))))) e)))

-- the piece is an assignment to an element
abbrev pub IsElementAssignment : Piece → Type 0
IsElementAssignment p =
    (f t from to at end : ℕ) × (o : Ex) × (ls : Links) × (i e : Ex) × (p ≡ a_simple (simple f t (assign (ex from to (postfixed o (more_link ls (link at end (index i))))) e)))

-- one of the links is a call
abbrev pub has_call : Links → Bool
has_call no_link = false
has_call (more_link ls (link f t (call es comma))) = true
has_call (more_link ls l) = has_call ls

-- the piece is a call
abbrev pub IsCall : Piece → Type 0
IsCall p = (f t : ℕ) × (e : Ex) × (ls : Links) × (has_call ls ≡ true) × (p ≡ an_expression (ex f t (postfixed e ls)))

-- In the piece stands an assignment to the name, in a function inside (true) or outside of them, and on the way to it nothing binds the
-- name.
pub record IsAssigned (inner : Bool) (name : Bytes) (p : Piece) : Type 0 where
  pub place : Piece
  pub way : Way p place
  pub assignment : IsAssignment name place
  pub inside : enters_function way ≡ inner
  pub free : is_among (bound_on way) name ≡ false

-- What a piece of code may change: a variable that is assigned in it so; the properties of a name that is assigned anywhere in it; and
-- all properties, where outside of functions inside an element is assigned or something is called.
pub record ChangesAreAssignments : Type 0 where
  pub variables : (p : Piece) (inner : Bool) (name : Bytes) → Contains (changes_of p) (sets_variable inner name) ↔ IsAssigned inner name p
  pub properties : (p : Piece) (name : Bytes) → Contains (changes_of p) (sets_property name) ↔ ((place : Piece) × Way p place × IsPropertyAssignment name place)
  pub all : (p : Piece) → Contains (changes_of p) may_set_all ↔ ((place : Piece) × (way : Way p place) × (enters_function way ≡ false) × (IsElementAssignment place ⊎ IsCall place))
