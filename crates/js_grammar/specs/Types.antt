-- The trees of types. Each node has the numbers of its first token and of the token behind its last; lists grow at their end.
use Rattle.std.specs.Prelude.{ℕ, Bool, true, false}
use Rattle.js_grammar.specs.Words.{Bytes}

-- the places of marks that stand in a row
pub data Places : Type 0 where
  no_place : Places
  more_place : Places → ℕ → Places

-- what stands before a property's key: nothing, `+` or `-`
pub data Sign : Type 0 where
  unsigned : Sign
  plus : Sign
  minus : Sign

-- a word or a string
pub data KeyForm : Type 0 where
  word_key : Bytes → KeyForm
  text_key : Bytes → KeyForm

-- the key of a property, with its place
pub data Key : Type 0 where
  key : ℕ → ℕ → KeyForm → Key

-- what stands behind the last property: nothing, `,`, or `...` behind a comma where there is a property
pub data Ending : Type 0 where
  bare : Ending
  comma : Ending
  dots : Ending

mutual
  -- a union, with a bar before it or not, and its members
  pub data Ty : Type 0 where
    ty : ℕ → ℕ → Bool → Pres → Ty

  -- the members of a union
  pub data Pres : Type 0 where
    no_pre : Pres
    more_pre : Pres → Pre → Pres

  -- question marks, and what stands behind them
  pub data Pre : Type 0 where
    pre : ℕ → ℕ → Places → Core → Pre

  -- a function type: its parameters, their last comma or not, its result; or a base and the places of its pairs of brackets
  pub data Core : Type 0 where
    fun : ℕ → ℕ → Params → Bool → Ty → Core
    post : ℕ → ℕ → Base → Places → Core

  -- what stands before the brackets of a member, with its place
  pub data Base : Type 0 where
    base : ℕ → ℕ → Form → Base

  -- the flag of an array type tells the read-only ones
  pub data Form : Type 0 where
    name : Bytes → Form
    str : Bytes → Form
    num : Bytes → Form
    null : Form
    void : Form
    truth : Bool → Form
    array : Bool → Ty → Form
    paren : Ty → Form
    tuple : Types → Bool → Form
    object : Props → Ending → Form

  -- the parameters of a function type, in order
  pub data Params : Type 0 where
    no_param : Params
    more_param : Params → Param → Params

  -- the flag tells a question mark behind the name
  pub data Param : Type 0 where
    plain : Ty → Param
    named : ℕ → ℕ → Bytes → Bool → Ty → Param

  pub data Types : Type 0 where
    no_type : Types
    more_type : Types → Ty → Types

  pub data Props : Type 0 where
    no_prop : Props
    more_prop : Props → Prop → Props

  -- a sign, a key, a question mark behind it or not, a type
  pub data Prop : Type 0 where
    prop : ℕ → ℕ → Sign → Key → Bool → Ty → Prop

-- whether the list has one
abbrev pub has_params : Params → Bool
has_params no_param = false
has_params (more_param ps p) = true

-- whether the list has one
abbrev pub has_types : Types → Bool
has_types no_type = false
has_types (more_type ts t) = true

-- whether the list has one
abbrev pub has_props : Props → Bool
has_props no_prop = false
has_props (more_prop ps p) = true

-- whether it is a function type outside brackets
abbrev pub is_fun_core : Core → Bool
is_fun_core (fun f t ps c r) = true
is_fun_core (post f t b bs) = false

-- whether the member, behind its question marks, is one
abbrev pub is_fun_pre : Pre → Bool
is_fun_pre (pre f t q c) = is_fun_core c

-- whether the last is one
abbrev pub ends_fun : Pres → Bool
ends_fun no_pre = false
ends_fun (more_pre ps p) = is_fun_pre p

-- whether a function type stands outside brackets
abbrev pub has_fun : Ty → Bool
has_fun (ty f t lead ps) = ends_fun ps
