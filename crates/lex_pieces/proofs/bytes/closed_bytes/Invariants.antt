use Rattle.std.proofs.Common.{◌≡◌, drop}
use Rattle.lex_pieces.specs.Comments.{closed_len}
use Rattle.lex_pieces.proofs.Closing.{plus}
use Rattle.lex_pieces.proofs.bytes.closed_bytes.Given as goal

abbrev pub invariant-loop-at : goal.invariant-loop-at
invariant-loop-at l = plus l.at (closed_len (drop l.at l.bytes)) ≡ closed_len l.bytes
