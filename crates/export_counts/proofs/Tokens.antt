-- A text has no more tokens than characters, and no more characters than bytes.
use Rattle.std.proofs.Common.{ℕ, ◌+◌, ◌<◌, ◌≤◌, List, [], ◌∷◌, ◌++◌, length, Option, Some, None, ap, arith}
use Rattle.std.proofs.lemmas.List.{length-append}
use Rattle.std.proofs.lemmas.Str.{encodes-chars, length-le-encodes}
use Rattle.std.specs.Str.{IsUtf8, chars}
use Rattle.js_token.specs.declared.token.Token.{Token}
use Rattle.js_token.specs.declared.token.TokenKind.{TokenKind}
use Rattle.lex_pieces.specs.Pieces.{IsPiece}
use Rattle.lex_pieces.proofs.Firsts.{first_of}
use Rattle.js_lexer.specs.Cut.{Cut, text_of, AreLongest, byte_len, token_of, tokens_of, HasTokens}

not_empty : (k : Option TokenKind) (text rest : List ℕ) → IsPiece k text rest → 0 < length text
not_empty k text rest is = let first = first_of k text rest is in omega (arith, ap length first.2)

one_at_most : (start end n : ℕ) (k : Option TokenKind) → 0 < n → length (token_of start end k) ≤ n
one_at_most start end n None some = omega arith
one_at_most start end n (Some kind) some = omega (arith, some)

no_more : (start : ℕ) (pieces : List Cut) (rest : List ℕ) → AreLongest pieces rest → length (tokens_of start pieces) ≤ length (text_of pieces)
no_more start [] rest are = omega arith
no_more start (piece ∷ pieces) rest are =
    let end : ℕ = start + byte_len piece.text in
    let here = one_at_most start end (length piece.text) piece.kind (not_empty piece.kind piece.text (text_of pieces ++ rest) are.0.piece) in
    let later = no_more end pieces rest are.1 in
    let tokens = length-append (token_of start end piece.kind) (tokens_of end pieces) in
    let text = length-append piece.text (text_of pieces) in
    omega (arith, here, later, tokens, text)

pub tokens_within : (source : List ℕ) (tokens : List Token) → IsUtf8 source → HasTokens 0 (chars source) tokens → length tokens ≤ length source
tokens_within source tokens utf8 (pieces, covered, are, is) =
    let cut = no_more 0 pieces [] are in
    let count = ap length is in
    let text = ap length covered in
    let bytes = length-le-encodes (chars source) in
    let whole = ap length (encodes-chars source utf8) in
    omega (arith, cut, count, text, bytes, whole)
