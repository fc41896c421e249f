use Rattle.std.proofs.Common.{◌≡◌, length}
use Rattle.lex_pieces.proofs.texts.Texts.new.Given as goal

abbrev pub invariant-loop-place : goal.invariant-loop-place
invariant-loop-place l = length l.places.items ≡ l._place
