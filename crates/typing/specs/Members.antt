-- What each member of a type gives where it is read, written, indexed or called.
use Rattle.std.specs.Prelude.{ℕ, ◌+◌, ◌++◌, nat_le, ◌&&◌, Bool, List, [], ◌∷◌, map, length, drop, slice_get, Option, Some, None, option_map, if◌then◌else◌, codes}
use Rattle.std.specs.List.{flat_map, list_all}
use Rattle.std.specs.Fmt.{decimal}
use Rattle.std.specs.Str.{bytes_eq}
use Rattle.check_values.specs.Rows.{Bytes}
use Rattle.check_values.specs.declared.codes.Code.{Code}
use Rattle.check_values.specs.declared.codes.Code.TheVariants.{CannotRead, CannotWrite, IncompatibleArity, IncompatibleType, IncompatibleUse, InvalidIndex, NotAFunction, PropMissing}
use Rattle.check_values.specs.declared.faults.Fault.{Fault}
use Rattle.type_values.specs.declared.types.FlowType.{FlowType, out-FlowType}
use Rattle.type_values.specs.declared.types.FlowType as made
use Rattle.type_values.specs.declared.types.FlowProp.{FlowProp, out-FlowProp}
use Rattle.type_values.specs.declared.types.Param.{Param, out-Param}
use Rattle.type_values.specs.declared.types.Variance.{Variance}
use Rattle.type_values.specs.declared.types.Variance.TheVariants.{Read, Write}
use Rattle.type_values.specs.declared.types.FlowType.TheOpen.{Any, Mixed, Str, StrLit, NumLit, Null, Void, Object, Tuple, Array, ReadArray, Function}
use Rattle.type_terms.specs.Join.{join_of}
use Rattle.type_terms.specs.Show.{brief, quoted}
use Rattle.type_terms.specs.Optional.{eff}
use Rattle.flow_facts.specs.Cells.{Level}
use Rattle.flow_facts.specs.Properties.{prop_of, read_type}
use Rattle.typing.specs.States.{World, fault_at, two_types}

-- what a member gives, and its faults
abbrev pub Step : Type 0
Step = FlowType × List Fault

-- a member without a fault
abbrev pub gives : FlowType → Step
gives t = (t, [])

-- a member with a fault gives `any`
abbrev pub fails : Fault → Step
fails fault = (made.Any, fault ∷ [])

-- the join of what the members give
abbrev pub steps_type : List Step → FlowType
steps_type steps = join_of (map (λ (step : Step). step.0) steps)

-- the faults of all members
abbrev pub steps_faults : List Step → List Fault
steps_faults steps = flat_map (λ (step : Step). step.1) steps

-- ---- an object, and a part of it that is named or indexed

-- An object at the tokens from one number up to another, its type, and the part at others, with the details that name it.
pub record Part : Type 0 where
  pub object_first : ℕ
  pub object_end : ℕ
  pub object_type : FlowType
  pub first : ℕ
  pub end : ℕ
  pub details : Bytes

-- a fault at the part
abbrev pub at_part : World → Part → Code → Step
at_part w part code = fails (fault_at w part.first part.end code part.details)

-- the object may be null, void or anything
abbrev pub at_object : World → Part → Step
at_object w part = fails (fault_at w part.object_first part.object_end IncompatibleUse (brief part.object_type))

abbrev pub is_length : Bytes → Bool
is_length key = bytes_eq key (codes "length")

-- arrays, tuples and strings have a `length`, and no other property
abbrev pub length_read : World → Part → Bytes → Step
length_read w part key = if is_length key then gives made.Number else at_part w part PropMissing

-- a property that may only be written is not read
abbrev pub read_by_variance : World → Part → FlowProp → Variance → Step
read_by_variance w part p Write = at_part w part CannotRead
read_by_variance w part p v = gives (read_type p)

-- a property of an object, if it has one
abbrev pub read_of_prop : World → Part → Option FlowProp → Step
read_of_prop w part None = at_part w part PropMissing
read_of_prop w part (Some p) = read_by_variance w part p (out-FlowProp p).variance

-- reading the property of a key
abbrev pub property_read : World → Part → Bytes → Level → Step
property_read w part key Any = gives made.Any
property_read w part key (Object exact props) = read_of_prop w part (prop_of key props)
property_read w part key (Array element) = length_read w part key
property_read w part key (ReadArray element) = length_read w part key
property_read w part key (Tuple all) = length_read w part key
property_read w part key Str = length_read w part key
property_read w part key (StrLit text) = length_read w part key
property_read w part key Null = at_object w part
property_read w part key Void = at_object w part
property_read w part key Mixed = at_object w part
property_read w part key level = at_part w part PropMissing

-- a property that may only be read is not written
abbrev pub written_by_variance : World → Part → FlowProp → Variance → Step
written_by_variance w part p Read = at_part w part CannotWrite
written_by_variance w part p v = gives (read_type p)

-- a property of an object, if it has one
abbrev pub write_of_prop : World → Part → Option FlowProp → Step
write_of_prop w part None = at_part w part PropMissing
write_of_prop w part (Some p) = written_by_variance w part p (out-FlowProp p).variance

-- writing the property of a key
abbrev pub property_written : World → Part → Bytes → Level → Step
property_written w part key Any = gives made.Any
property_written w part key (Object exact props) = write_of_prop w part (prop_of key props)
property_written w part key (Array element) = at_part w part CannotWrite
property_written w part key (ReadArray element) = at_part w part CannotWrite
property_written w part key (Tuple all) = at_part w part CannotWrite
property_written w part key Str = at_part w part CannotWrite
property_written w part key (StrLit text) = at_part w part CannotWrite
property_written w part key level = property_read w part key level

-- what the members that are objects with the property take
abbrev pub target_of_prop : Bytes → Level → Option FlowType
target_of_prop key (Object exact props) = elim (prop_of key props) [ None ↦ None | Some p ↦ Some (read_type p) ]
target_of_prop key level = None

-- ---- an index

-- the member of a tuple whose place has this spelling
abbrev pub element_at : Bytes → ℕ → List FlowType → Option FlowType
element_at spelling i [] = None
element_at spelling i (t ∷ more) = if bytes_eq (decimal i) spelling then Some t else element_at spelling (i + 1) more

-- what an index that is a number gives of a tuple
abbrev pub numeric_element : World → List FlowType → FlowType → Option FlowType
numeric_element w all i = if w.below i made.Number then Some (join_of all) else None

-- A literal in range gives the member, another type below `number` the join of all.
abbrev pub tuple_element : World → List FlowType → FlowType → Level → Option FlowType
tuple_element w all i (NumLit spelling) = elim (element_at spelling 0 all) [ None ↦ numeric_element w all i | Some t ↦ Some t ]
tuple_element w all i level = numeric_element w all i

-- the element, or a fault at the index where there is none
abbrev pub or_invalid_index : World → Part → Option FlowType → Step
or_invalid_index w part None = at_part w part InvalidIndex
or_invalid_index w part (Some t) = gives t

-- an array asks a number
abbrev pub element_read : World → Part → FlowType → FlowType → Step
element_read w part i element =
    if w.below i made.Number then gives element
    else (element, fault_at w part.first part.end IncompatibleType (two_types i made.Number) ∷ [])

-- a key that is taken from a string is printed as a string
abbrev pub named_part : Part → Bytes → Part
named_part part key = record part { details = quoted key }

-- a string literal as an index names a property
abbrev pub object_element : World → Part → Level → Level → Step
object_element w part (StrLit key) level = property_read w (named_part part key) key level
object_element w part i level = at_part w part InvalidIndex

-- reading the element of an index of type i
abbrev pub index_read : World → Part → FlowType → Level → Step
index_read w part i Any = gives made.Any
index_read w part i (Array element) = element_read w part i element
index_read w part i (ReadArray element) = element_read w part i element
index_read w part i (Tuple all) = or_invalid_index w part (tuple_element w all i (out-FlowType i))
index_read w part i (Object exact props) = object_element w part (out-FlowType i) (Object exact props)
index_read w part i Null = at_object w part
index_read w part i Void = at_object w part
index_read w part i Mixed = at_object w part
index_read w part i level = at_part w part InvalidIndex

-- and so where it is written
abbrev pub object_element_written : World → Part → Level → Level → Step
object_element_written w part (StrLit key) level = property_written w (named_part part key) key level
object_element_written w part i level = at_part w part InvalidIndex

-- an element of a read-only array is not written
abbrev pub read_only : World → Part → Step → Step
read_only w part step = (step.0, step.1 ++ (at_part w part CannotWrite).1)

-- writing the element of an index of type i
abbrev pub index_written : World → Part → FlowType → Level → Step
index_written w part i (ReadArray element) = read_only w part (element_read w part i element)
index_written w part i (Object exact props) = object_element_written w part (out-FlowType i) (Object exact props)
index_written w part i level = index_read w part i level

-- a string literal as an index names a property
abbrev pub target_of_key : Level → Level → Option FlowType
target_of_key (StrLit key) level = target_of_prop key level
target_of_key i level = None

-- what the members that have such an element take
abbrev pub target_of_index : World → FlowType → Level → Option FlowType
target_of_index w i (Array element) = Some element
target_of_index w i (ReadArray element) = Some element
target_of_index w i (Tuple all) = tuple_element w all i (out-FlowType i)
target_of_index w i level = target_of_key (out-FlowType i) level

-- ---- over the members of a type

-- the outermost level of each member of a type
abbrev pub levels : World → FlowType → List Level
levels w t = map (λ m. out-FlowType m) (w.members t)

-- the one element of a list, where it has one
abbrev pub the_one : {X : Type 0} → List X → Option X
the_one (x ∷ []) = Some x
the_one all = None

-- ---- a call

-- an argument that was read, at these tokens
pub record Arg : Type 0 where
  pub first : ℕ
  pub end : ℕ
  pub ty : FlowType

-- A call at the tokens from one number up to another, whose callee ends at a third one, with its type and the arguments.
pub record Call : Type 0 where
  pub first : ℕ
  pub callee_end : ℕ
  pub end : ℕ
  pub callee_type : FlowType
  pub args : List Arg

-- what a parameter takes: an optional one `void` too
abbrev pub taken_by : Param → FlowType
taken_by p = eff (out-Param p).optional (out-Param p).ty

-- what a parameter takes, where there is one
abbrev pub param_at : List Param → ℕ → Option FlowType
param_at params k = option_map taken_by (slice_get params k)

-- a parameter without argument takes `void`
abbrev pub may_lack : World → Param → Bool
may_lack w p = w.below made.Void (taken_by p)

-- each argument has a parameter, and each parameter without argument may lack it
abbrev pub arity_fits : World → ℕ → List Param → Bool
arity_fits w count params = nat_le count (length params) && list_all (may_lack w) (drop count params)

-- at the call, with the numbers of arguments and of parameters
abbrev pub arity_fault : World → Call → List Param → Fault
arity_fault w c params =
    fault_at w c.first c.end IncompatibleArity (decimal (length c.args) ++ (codes " " ++ decimal (length params)))

-- a fault at the callee
abbrev pub at_callee : World → Call → Code → Step
at_callee w c code = fails (fault_at w c.first c.callee_end code (brief c.callee_type))

-- calling a member
abbrev pub member_called : World → Call → Level → Step
member_called w c Any = gives made.Any
member_called w c (Function params result) =
    if arity_fits w (length c.args) params then gives result else fails (arity_fault w c params)
member_called w c Null = at_callee w c IncompatibleUse
member_called w c Void = at_callee w c IncompatibleUse
member_called w c Mixed = at_callee w c IncompatibleUse
member_called w c level = at_callee w c NotAFunction

-- the parameters of the one member, where it is a function
abbrev pub one_function : List Level → Option (List Param)
one_function (Function params result ∷ []) = Some params
one_function members = None

-- an argument that is not below what its parameter takes
abbrev pub misfit : World → Arg → Option FlowType → List Fault
misfit w arg None = []
misfit w arg (Some t) =
    if w.below arg.ty t then [] else fault_at w arg.first arg.end IncompatibleType (two_types arg.ty t) ∷ []

-- the arguments from the k-th on, below what the parameters take
abbrev pub misfits : World → List Param → ℕ → List Arg → List Fault
misfits w params k [] = []
misfits w params k (arg ∷ args) = misfit w arg (param_at params k) ++ misfits w params (k + 1) args

-- the arguments that don't fit a member that is a function
abbrev pub member_misfits : World → List Arg → Level → List Fault
member_misfits w args (Function params result) = misfits w params 0 args
member_misfits w args level = []

-- Arguments that were read plainly fit each function; those of the one function were read against its parameters.
abbrev pub args_faults : World → List Level → List Arg → List Fault
args_faults w (Function params result ∷ []) args = []
args_faults w members args = flat_map (member_misfits w args) members
