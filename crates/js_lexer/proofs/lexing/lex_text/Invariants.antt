use Rattle.std.proofs.Common.{◌≡◌, ℕ, ◌+◌, ◌-◌, ◌≤◌, List, ◌++◌, length, drop}
use Rattle.std.specs.Str.{chars, encode_utf8_all}
use Rattle.js_token.specs.declared.token.Token.{Token}
use Rattle.js_lexer.specs.Cut.{byte_len, HasTokens, IsStuck}
use Rattle.js_lexer.specs.Step.{IsDecoded, IsUnclosed}
use Rattle.js_lexer.proofs.lexing.lex_text.Given as goal

-- whatever tokens the rest has complete those so far, and where the rest is stuck the text is
abbrev pub invariant-loop-at : goal.invariant-loop-at
invariant-loop-at l = record {
  tokens : (more : List Token) → HasTokens l.at (drop l.from (chars l.text)) more → HasTokens 0 (chars l.text) (l.tokens ++ more);
  stuck : (place : ℕ) → IsStuck l.at (drop l.from (chars l.text)) place → IsStuck 0 (chars l.text) place;
  within : l.from ≤ length (chars l.text);
  bytes : l.at + byte_len (drop l.from (chars l.text)) ≡ byte_len (chars l.text);
  place : encode_utf8_all (drop l.from (chars l.text)) ≡ drop l.at l.text;
  known : IsDecoded l.text l.decoded.items;
  unclosed : IsUnclosed l.unclosed l.from (chars l.text);
}

abbrev pub decreases-loop-at : goal.decreases-loop-at
decreases-loop-at l = length (chars l.text) - l.from
