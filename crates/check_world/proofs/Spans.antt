-- The span of one token.
use Rattle.std.proofs.Common.{◌≡◌, ℕ, suc, ◌-◌, List, slice_index_or, sym, ap, ◌∙◌, arith}
use Rattle.flow_values.specs.declared.span.Span.{Span}
use Rattle.local_signatures.specs.Faults.{no_span, span_over}

pub one_span : (spans : List Span) (token : ℕ) (span : Span) → span ≡ slice_index_or spans token no_span → span ≡ span_over spans token (suc token)
one_span spans token span is =
    let same : suc token - 1 ≡ token = omega arith in
    is ∙ ap (λ (k : ℕ). record { start = (slice_index_or spans token no_span).start; end = (slice_index_or spans k no_span).end }) (sym same)
