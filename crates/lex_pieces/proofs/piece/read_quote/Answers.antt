use Rattle.std.proofs.Common.{ℕ, List, Option, subst}
use Rattle.lex_pieces.specs.Strings.{IsStringRead}
use Rattle.lex_pieces.proofs.Fronts.{quote_some}
use Rattle.lex_pieces.proofs.piece.read_quote.Goals as goal

pub returns-in-Some : goal.returns-in-Some
returns-in-Some c =
    quote_some c.args.text.now (c.in-Some.value, c.in-Some.len) c.requires
    (subst (λ (o : Option (List ℕ × ℕ)). IsStringRead c.args.text.now o) c.in-Some.is c.in_ok-read_string.ensures)
