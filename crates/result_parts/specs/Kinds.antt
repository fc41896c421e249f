-- The kinds of payloads that are results of a module.
use Rattle.std.specs.Prelude.{ℕ, ◌≤◌, Bool, true, false}
use Rattle.std.proofs.Common.{arith}
use Rattle.payloads.specs.Entities.{parse_entity, deps_entity, signature_entity, errors_entity}
use Rattle.payloads.specs.declared.payload.Payload.{Payload}
use Rattle.payloads.specs.declared.payload.Payload.TheVariants as payload

abbrev pub is_parse : Payload → Bool
is_parse (payload.Parse parse) = true
is_parse payload.Absent = false
is_parse (payload.Root root) = false
is_parse (payload.Deps deps) = false
is_parse (payload.Sig sig) = false
is_parse (payload.Errs errs) = false

abbrev pub is_deps : Payload → Bool
is_deps (payload.Deps deps) = true
is_deps payload.Absent = false
is_deps (payload.Root root) = false
is_deps (payload.Parse parse) = false
is_deps (payload.Sig sig) = false
is_deps (payload.Errs errs) = false

abbrev pub is_sig : Payload → Bool
is_sig (payload.Sig sig) = true
is_sig payload.Absent = false
is_sig (payload.Root root) = false
is_sig (payload.Parse parse) = false
is_sig (payload.Deps deps) = false
is_sig (payload.Errs errs) = false

abbrev pub is_errs : Payload → Bool
is_errs (payload.Errs errs) = true
is_errs payload.Absent = false
is_errs (payload.Root root) = false
is_errs (payload.Parse parse) = false
is_errs (payload.Deps deps) = false
is_errs (payload.Sig sig) = false

-- ---- the errors stand at the last entity of a row

pub parse_within : (row : ℕ) → parse_entity row ≤ errors_entity row
parse_within row = omega arith

pub deps_within : (row : ℕ) → deps_entity row ≤ errors_entity row
deps_within row = omega arith

pub signature_within : (row : ℕ) → signature_entity row ≤ errors_entity row
signature_within row = omega arith

pub errors_within : (row : ℕ) → errors_entity row ≤ errors_entity row
errors_within row = omega arith
