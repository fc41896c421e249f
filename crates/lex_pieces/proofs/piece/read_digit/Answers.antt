use Rattle.std.proofs.Common.{Some, sym, subst}
use Rattle.lex_pieces.specs.declared.piece.Piece.{Piece}
use Rattle.lex_pieces.specs.Read.{IsRead}
use Rattle.lex_pieces.proofs.Fronts.{digit_some}
use Rattle.lex_pieces.proofs.piece.read_digit.Goals as goal

pub returns-in_ok-number_piece : goal.returns-in_ok-number_piece
returns-in_ok-number_piece c =
    subst (λ (p : Piece). IsRead c.args.text.now (Some p)) (sym c.in_ok-number_piece.ensures)
    (digit_some c.args.text.now c.number_len-len.result c.requires c.number_len-len.ensures.value c.if-len-eq0.false c.number_len-len.ensures.within)
