-- What a name of a module denotes: the end of the chain of imports and re-exports that begins there.
use Rattle.std.specs.Prelude.{ℕ, zero, suc, ◌^◌, Bool, true, false, List, [], ◌∷◌, Option, Some, None, if◌then◌else◌}
use Rattle.std.specs.Str.{bytes_eq}
use Rattle.check_values.specs.Rows.{Bytes, row_at}
use Rattle.check_values.specs.declared.signatures.Origin.{Origin}
use Rattle.check_values.specs.declared.signatures.Origin.TheVariants as origin
use Rattle.check_values.specs.declared.signatures.LocalSig.{LocalSig}
use Rattle.check_values.specs.declared.signatures.DepRow.{DepRow}
use Rattle.check_values.specs.declared.signatures.Deps.{Deps}
use Rattle.type_values.specs.declared.types.FlowType.{FlowType}

-- what is known of a module by itself: what it says, and which modules its specifiers find
pub record Known : Type 0 where
  pub sig : LocalSig
  pub deps : Deps

-- a program, as merging sees it
abbrev pub View : Type 0
View = Bytes → Option Known

-- what stands in the first row of a specifier
abbrev pub found_in : List DepRow → Bytes → Option Bytes
found_in [] spec = None
found_in (row ∷ rows) spec = if bytes_eq row.spec spec then row.found else found_in rows spec

-- the module that a specifier finds
abbrev pub found : Deps → Bytes → Option Bytes
found deps spec = found_in deps.rows spec

-- where a chain ends
pub data End : Type 0 where
  -- at a value of a module, whose type is that of the module's own signature
  at_value : Bytes → FlowType → End
  -- at an alias of a module
  at_alias : Bytes → Bytes → End
  -- nothing is known
  unknown : End
  -- nowhere: it repeats
  cyclic : End

-- one step along a chain: it ends, or it goes on at a name of another module, asking for a type or for a value
pub data Step : Type 0 where
  ends : End → Step
  goes : Bool → Bytes → Bytes → Step

-- the step to a name of the module that was found, if one was
abbrev pub goes_to : Bool → Bytes → Option Bytes → Step
goes_to is_type name None = ends unknown
goes_to is_type name (Some path) = goes is_type path name

-- the step from an export of a module, or from a name that it doesn't export
abbrev pub step_of : Bytes → Deps → Option Origin → Step
step_of path deps (Some (origin.Value t)) = ends (at_value path t)
step_of path deps (Some (origin.Alias name)) = ends (at_alias path name)
step_of path deps (Some (origin.Import spec name is_type)) = goes_to is_type name (found deps spec)
step_of path deps (Some origin.Unknown) = ends unknown
step_of path deps None = ends unknown

-- the step from a name of a module; a broken module has no names
abbrev pub step_in : Bytes → Option Known → Bytes → Step
step_in path None name = ends unknown
step_in path (Some m) name = if m.sig.broken then ends unknown else step_of path m.deps (row_at m.sig.exports name)

-- an end that is of the other kind than what was asked for is unknown
abbrev pub of_kind : Bool → End → End
of_kind true (at_value path t) = unknown
of_kind false (at_alias path name) = unknown
of_kind is_type end = end

-- the end of a step, where rest tells the end from the next name
abbrev pub end_of : (Bytes → Bytes → End) → Step → End
end_of rest (ends end) = end
end_of rest (goes is_type path name) = of_kind is_type (rest path name)

-- the end of the chain from a name of a module, where it comes within some steps
abbrev pub end_within : View → ℕ → Bytes → Bytes → End
end_within v zero path name = cyclic
end_within v (suc steps) path name = end_of (end_within v steps) (step_in path (v path) name)

-- more steps than a program within the limits has names, so that a chain of so many repeats
unfoldable pub most : ℕ
most = 2 ^ 64

-- where the chain from a name of a module ends
abbrev pub denotes : View → Bytes → Bytes → End
denotes v path name = end_within v most path name
