use Rattle.std.proofs.Common.{◌≡◌, take}
use Rattle.js_lexer.specs.Cut.{byte_len}
use Rattle.js_lexer.proofs.lexing.utf8_len.Given as goal

abbrev pub invariant-loop-c : goal.invariant-loop-c
invariant-loop-c l = l.len ≡ byte_len (take l.c-index l.text)
