-- What the code's values stand for.
use Rattle.std.specs.Prelude.{ℕ, suc, List, [], ◌∷◌, Option, Some, None, unwrap_or}
use Rattle.std.specs.Option.{option_map}
use denote.Ref.{Bor}
use Rattle.check_values.specs.Rows.{Bytes, Rows, row_at, put}
use Rattle.check_values.specs.FaultOrder.{fault_cmp}
use Rattle.check_values.specs.declared.codes.Code.TheVariants.{SignatureVerificationFailure}
use Rattle.check_values.specs.declared.faults.Fault.{Fault}
use Rattle.flow_values.specs.declared.span.Span.{Span}
use Rattle.local_signatures.specs.Faults.{span_over}
use Rattle.local_signatures.specs.Scope as s
use Rattle.local_signatures.specs.Exports as e
use Rattle.told_signature.specs.declared.telling.Place.{Place}
use Rattle.told_signature.specs.declared.telling.Place.TheVariants as place
use Rattle.told_signature.specs.declared.telling.Told.{Told}
use Rattle.told_signature.specs.declared.telling.Told.TheVariants as told
use Rattle.told_signature.specs.declared.telling.Said.{Said}
use Rattle.told_signature.specs.declared.telling.Said.TheVariants as said

-- a name of another module, or the default export
abbrev pub name_there : Option (Bor Bytes) → Bytes
name_there None = s.default_name
name_there (Some name) = name.now

abbrev pub told_view : Told → e.Told
told_view (told.Value t (place.Name first)) = e.told_value t (suc first) (suc (suc first))
told_view (told.Value t (place.Whole from to)) = e.told_value t from to
told_view (told.Alias word) = e.told_alias word.now
told_view (told.Import local spec name is_type) = e.told_import local.now spec.now (name_there name) is_type
told_view (told.Elsewhere spec name is_type) = e.told_elsewhere spec.now name.now is_type
told_view told.Nothing = e.told_nothing

-- what a name tells by a table of names
abbrev pub named_in : Rows Told → Bytes → e.Told
named_in table word = unwrap_or (option_map told_view (row_at table word)) e.told_nothing

-- what an export tells, where names tell this
abbrev pub said_view : (Bytes → e.Told) → Said → e.Told
said_view named (said.Own t) = told_view t
said_view named (said.Name word) = named word.now

-- the bytes of the tokens at a place
abbrev pub place_span : List Span → Place → Span
place_span spans (place.Name first) = span_over spans (suc first) (suc (suc first))
place_span spans (place.Whole from to) = span_over spans from to

-- faults put among others that are in order
abbrev pub put_before : List Fault → List Fault → List Fault
put_before [] faults = faults
put_before (fault ∷ more) faults = put fault_cmp fault (put_before more faults)

-- the fault that a key stands for
abbrev pub key_fault : ℕ × (ℕ × Bytes) → Fault
key_fault (start, (end, word)) = record { span = record { start = start; end = end }; code = SignatureVerificationFailure; details = word }
