use Rattle.std.proofs.Common.{◌≤◌, ◌-◌, length}
use Rattle.std.specs.String.{string_bytes}
use Rattle.lex_pieces.specs.Strings.{ReadsParts}
use Rattle.lex_pieces.proofs.strings.read_parts.Given as goal

abbrev pub invariant-loop-c : goal.invariant-loop-c
invariant-loop-c l = ReadsParts l.quote l.text l.at (string_bytes l.value) × (l.at ≤ length l.text)

abbrev pub decreases-loop-c : goal.decreases-loop-c
decreases-loop-c l = length l.text - l.at
