-- The faults of a local signature: the exports whose types no annotation tells.
use Rattle.std.specs.Prelude.{ℕ, ◌-◌, List, [], ◌∷◌, None, slice_index_or}
use Rattle.std.specs.List.{flat_map}
use Rattle.flow_values.specs.declared.span.Span.{Span}
use Rattle.check_values.specs.Rows.{Bytes}
use Rattle.check_values.specs.FaultOrder.{faults_in_order}
use Rattle.check_values.specs.declared.codes.Code.TheVariants.{SignatureVerificationFailure}
use Rattle.check_values.specs.declared.faults.Fault.{Fault}
use Rattle.js_grammar.specs.Items.{Module}
use Rattle.local_signatures.specs.Exports.{Told, told_value, told_in}

-- for a token that has no span in the list
abbrev pub no_span : Span
no_span = record { start = 0; end = 0 }

-- the bytes from the first of some tokens to the end of the last one; each token has its span in a list
abbrev pub span_over : List Span → ℕ → ℕ → Span
span_over spans from to =
    record { start = (slice_index_or spans from no_span).start; end = (slice_index_or spans (to - 1) no_span).end }

-- a value that tells no type is a fault at its name, or at the form that has none
abbrev pub fault_of : List Span → Bytes × Told → List Fault
fault_of spans (word, told_value None from to) =
    record { span = span_over spans from to; code = SignatureVerificationFailure; details = word } ∷ []
fault_of spans row = []

-- the faults of a module's local signature, in order; each token has its span in the list
abbrev pub signature_faults : Module → List Span → List Fault
signature_faults m spans = faults_in_order (flat_map (fault_of spans) (told_in m))
