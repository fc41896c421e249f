use Rattle.std.proofs.Common.{◌≡◌, ◌≤◌, drop}
use Rattle.lex_pieces.proofs.Hex.{behind}
use Rattle.lex_pieces.proofs.escapes.hex_character.Given as goal

abbrev pub invariant-loop-digit : goal.invariant-loop-digit
invariant-loop-digit l = (behind l.code (drop l.digit-index l.digits) ≡ behind 0 l.digits) × (l.code ≤ 1114112)
