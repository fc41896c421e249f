-- The entities of the results of the module of a row. Entity 0 is the root's.
use Rattle.std.specs.Prelude.{ℕ, ◌+◌, ◌*◌}

abbrev pub parse_entity : ℕ → ℕ
parse_entity row = 4 * row + 1

abbrev pub deps_entity : ℕ → ℕ
deps_entity row = 4 * row + 2

abbrev pub signature_entity : ℕ → ℕ
signature_entity row = 4 * row + 3

abbrev pub errors_entity : ℕ → ℕ
errors_entity row = 4 * row + 4
