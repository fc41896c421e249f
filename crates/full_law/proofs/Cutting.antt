-- Each text is cut into pieces, to its end or up to a place where none begins.
use Rattle.std.proofs.Common.{◌≡◌, ◌≢◌, ◌⊎◌, ℕ, zero, suc, ◌+◌, ◌-◌, ◌<◌, ◌≤◌, Bool, true, false, List, [], ◌∷◌, ◌++◌, Option, Some, None, length, take, drop, length-drop, append_assoc, refl, sym, ap, ◌∙◌, subst, inl, inr, arith}
use Rattle.std.specs.Prelude.{Ok, Err}
use Rattle.std.specs.Str.{chars, is_utf8}
use Rattle.std.proofs.lemmas.Bool.{cases_lt, true≢false}
use Rattle.std.proofs.lemmas.List.{append-nil, take-append-drop}
use Rattle.std.proofs.lemmas.Str.{IsUtf8-from_is_utf8, is_utf8-from_IsUtf8}
use Rattle.js_token.specs.declared.token.Token.{Token}
use Rattle.lex_pieces.specs.declared.piece.Piece.{Piece}
use Rattle.lex_pieces.specs.Pieces.{IsLongest, BeginsNoPiece}
use Rattle.lex_pieces.specs.Read.{IsRead}
use Rattle.js_lexer.specs.declared.fault.LexFault.{LexFault}
use Rattle.js_lexer.specs.declared.fault.LexFault.TheVariants.{SourceTooLong, NotUtf8, BadToken, NoMemory}
use Rattle.js_lexer.specs.Cut.{Cut, text_of, AreLongest, byte_len, tokens_of}
use Rattle.js_lexer.specs.Answers.{source_limit, Answers}
use Rattle.full_law.specs.Lexing.{HasAnswer, EachHasAnswer}
use Rattle.full_law.proofs.ReadPieces.{some_read}

-- a text is cut whole, or stuck
data IsCut (text : List ℕ) : Type 0 where
  whole : (pieces : List Cut) → text ≡ text_of pieces → AreLongest pieces [] → IsCut text
  stuck : (pieces : List Cut) (rest : List ℕ) → text ≡ text_of pieces ++ rest → AreLongest pieces rest → rest ≢ [] → BeginsNoPiece rest → IsCut text

-- one piece more in front
one_more : (text : List ℕ) (piece : Piece) → IsRead text (Some piece) → IsCut (drop piece.len text) → IsCut text
one_more text piece read (whole pieces covers longest) =
    whole (record { text = take piece.len text; kind = piece.kind } ∷ pieces)
    (sym (take-append-drop piece.len text) ∙ ap (λ l. take piece.len text ++ l) covers)
    (subst (λ l. IsLongest piece.kind (take piece.len text) l) (covers ∙ sym (append-nil (text_of pieces))) read.2, longest)
one_more text piece read (stuck pieces rest covers longest some none) =
    stuck (record { text = take piece.len text; kind = piece.kind } ∷ pieces) rest
    (sym (take-append-drop piece.len text) ∙ (ap (λ l. take piece.len text ++ l) covers ∙ sym (append_assoc (take piece.len text) (text_of pieces) rest)))
    (subst (λ l. IsLongest piece.kind (take piece.len text) l) covers read.2, longest) some none

not_empty : (c : ℕ) (cs : List ℕ) → c ∷ cs ≢ []
not_empty c cs is = omega (arith, ap length is)

cut_on : (fuel : ℕ) (text : List ℕ) → length text ≤ fuel → IsCut text
cut_on fuel [] enough = whole [] refl tt
cut_on zero (c ∷ cs) enough = absurd (omega arith)
cut_on (suc fuel) (c ∷ cs) enough = by read.0 read.1 (λ n low. cut_on fuel (drop n (c ∷ cs)) (omega (arith, low, length-drop n (c ∷ cs), enough)))
  where
    read : (r : Option Piece) × IsRead (c ∷ cs) r
    read = some_read (c ∷ cs)

    by : (r : Option Piece) → IsRead (c ∷ cs) r → ((n : ℕ) → 0 < n → IsCut (drop n (c ∷ cs))) → IsCut (c ∷ cs)
    by None none on = stuck [] (c ∷ cs) refl tt (not_empty c cs) none
    by (Some piece) is on = one_more (c ∷ cs) piece is (on piece.len is.0)

-- the answer of a text of characters
cut_answer : (source : List ℕ) → length source ≤ source_limit → is_utf8 source ≡ true → IsCut (chars source) → HasAnswer source
cut_answer source short utf8 (whole pieces covers longest) =
    inl (tokens_of 0 pieces, (short, IsUtf8-from_is_utf8 source utf8, (pieces, covers, longest, refl)))
cut_answer source short utf8 (stuck pieces rest covers longest some none) =
    inr (BadToken (0 + byte_len (text_of pieces)), (λ is. absurd (cc (is))), (short, IsUtf8-from_is_utf8 source utf8, (pieces, rest, covers, longest, some, none, refl)))

text_answer : (source : List ℕ) → length source ≤ source_limit → (b : Bool) → is_utf8 source ≡ b → HasAnswer source
text_answer source short true utf8 = cut_answer source short utf8 (cut_on (length (chars source)) (chars source) (omega arith))
text_answer source short false other = inr (NotUtf8, (λ is. absurd (cc (is))), (short, λ utf8. true≢false (sym (is_utf8-from_IsUtf8 source utf8) ∙ other)))

pub each_has_answer : EachHasAnswer
each_has_answer source = elim (cases_lt source_limit (length source)) [
  | inl over ↦ inr (SourceTooLong (length source), (λ is. absurd (cc (is))), (over, refl))
  | inr short ↦ text_answer source (omega arith) (is_utf8 source) refl
]
