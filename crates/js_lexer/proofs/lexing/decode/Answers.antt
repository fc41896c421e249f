use Rattle.std.proofs.Common.{rules}
use Rattle.std.proofs.lemmas.Str.{chars_from_encodes}
use Rattle.js_lexer.proofs.lexing.decode.Goals as goal

pub returns-in_ok-decoded : goal.returns-in_ok-decoded
returns-in_ok-decoded c = search (rules, chars_from_encodes)
