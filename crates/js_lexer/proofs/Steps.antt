-- One more piece in front of a cut.
use Rattle.std.proofs.Common.{◌≡◌, ◌≢◌, ℕ, ◌+◌, ◌^◌, ◌<◌, ◌≤◌, List, [], ◌∷◌, ◌++◌, Option, length, get_or, take, drop, refl, sym, ap, ◌∙◌, subst, append_assoc, length-append, length-drop, arith}
use Rattle.std.specs.Prelude.{Ok}
use Rattle.std.specs.Str.{encode_utf8_all, chars, IsUtf8}
use Rattle.std.specs.Char.{encode_utf8, len_utf8}
use Rattle.std.proofs.lemmas.Str.{encodes-append, length-encode, length-le-encodes, encodes-chars}
use Rattle.std.proofs.lemmas.List.{append-nil, take-append-drop, drop-drop, drop_all, drop_at, take_more}
use Rattle.js_token.specs.declared.token.TokenKind.{TokenKind}
use Rattle.js_token.specs.declared.token.Token.{Token}
use Rattle.lex_pieces.specs.declared.piece.Piece.{Piece}
use Rattle.lex_pieces.specs.Bytes.{Tells}
use Rattle.lex_pieces.specs.Pieces.{IsLongest, BeginsNoPiece}
use Rattle.js_lexer.specs.Step.{StepAnswers, IsPut}
use Rattle.js_lexer.specs.Cut.{Cut, text_of, byte_len, token_of, HasTokens, IsStuck}

pub byte_len-append : (xs ys : List ℕ) → byte_len (xs ++ ys) ≡ byte_len xs + byte_len ys
byte_len-append xs ys = ap length (encodes-append xs ys) ∙ length-append (encode_utf8_all xs) (encode_utf8_all ys)

pub tokens_more : (start : ℕ) (text t r : List ℕ) (kind : Option TokenKind) (tokens : List Token) → text ≡ t ++ r → IsLongest kind t r →
    HasTokens (start + byte_len t) r tokens → HasTokens start text (token_of start (start + byte_len t) kind ++ tokens)
tokens_more start text t r kind tokens split first (pieces, whole, longest, same) =
    let p : Cut = record { text = t; kind = kind } in (
      p ∷ pieces,
      split ∙ ap (λ l. t ++ l) whole,
      (subst (λ l. IsLongest kind t l) (whole ∙ sym (append-nil (text_of pieces))) first, longest),
      ap (λ l. token_of start (start + byte_len t) kind ++ l) same,
    )

pub stuck_more : (start : ℕ) (text t r : List ℕ) (kind : Option TokenKind) (at : ℕ) → text ≡ t ++ r → IsLongest kind t r →
    IsStuck (start + byte_len t) r at → IsStuck start text at
stuck_more start text t r kind at split first (pieces, rest, whole, longest, some, none, place) =
    let p : Cut = record { text = t; kind = kind } in (
      p ∷ pieces,
      rest,
      split ∙ (ap (λ l. t ++ l) whole ∙ sym (append_assoc t (text_of pieces) rest)),
      (subst (λ l. IsLongest kind t l) whole first, longest),
      some,
      none,
      omega (arith, place, byte_len-append t (text_of pieces)),
    )

pub tokens_none : (start : ℕ) → HasTokens start [] []
tokens_none start = ([], refl, tt, refl)

pub stuck_here : (start : ℕ) (rest : List ℕ) → rest ≢ [] → BeginsNoPiece rest → IsStuck start rest start
stuck_here start rest some none = ([], rest, refl, tt, some, none, omega arith)

-- the bytes of one more character
pub byte_len_more : (text : List ℕ) (i c : ℕ) → i < length text → c ≡ get_or text i 0 → byte_len (take i text) + len_utf8 c ≡ byte_len (take (i + 1) text)
byte_len_more text i c l e =
    let one : byte_len (c ∷ []) ≡ len_utf8 c = ap length (append-nil (encode_utf8 c)) ∙ length-encode c in
    let more : byte_len (take (i + 1) text) ≡ byte_len (take i text) + byte_len (c ∷ []) =
    ap byte_len (take_more text i 0 l ∙ ap (λ (k : ℕ). take i text ++ k ∷ []) (sym e)) ∙ byte_len-append (take i text) (c ∷ []) in
    omega (arith, more, one)

pub byte_len_take : (text : List ℕ) (i : ℕ) → byte_len (take i text) ≤ byte_len text
byte_len_take text i = omega (arith, byte_len-append (take i text) (drop i text), ap byte_len (take-append-drop i text))

-- the bytes of a front
pub byte_len_front : (text : List ℕ) (n : ℕ) → byte_len (take n text) + byte_len (drop n text) ≡ byte_len text
byte_len_front text n = sym (byte_len-append (take n text) (drop n text)) ∙ ap byte_len (take-append-drop n text)

-- one more piece is read, and its token stands behind the others
pub step_tokens : (text : List ℕ) (from at len bytes : ℕ) (kind : Option TokenKind) (tokens after : List Token) →
    IsLongest kind (take len (drop from text)) (drop len (drop from text)) → bytes ≡ byte_len (take len (drop from text)) →
    after ≡ tokens ++ token_of at (at + bytes) kind →
    ((more : List Token) → HasTokens at (drop from text) more → HasTokens 0 text (tokens ++ more)) →
    (more : List Token) → HasTokens (at + bytes) (drop (from + len) text) more → HasTokens 0 text (after ++ more)
step_tokens text from at len bytes kind tokens after longest size pushed before more h =
    let rest : List ℕ = drop from text in
    let here : HasTokens (at + byte_len (take len rest)) (drop len rest) more =
    subst (λ (k : ℕ). HasTokens (at + k) (drop len rest) more) size (subst (λ l. HasTokens (at + bytes) l more) (sym (drop-drop len from text)) h) in
    let one = tokens_more at rest (take len rest) (drop len rest) kind more (sym (take-append-drop len rest)) longest here in
    let all = before (token_of at (at + byte_len (take len rest)) kind ++ more) one in
    subst (λ l. HasTokens 0 text l)
    (sym (append_assoc tokens (token_of at (at + byte_len (take len rest)) kind) more)
    ∙ (ap (λ (k : ℕ). (tokens ++ token_of at (at + k) kind) ++ more) (sym size) ∙ ap (λ l. l ++ more) (sym pushed)))
    all

pub step_stuck : (text : List ℕ) (from at len bytes : ℕ) (kind : Option TokenKind) →
    IsLongest kind (take len (drop from text)) (drop len (drop from text)) → bytes ≡ byte_len (take len (drop from text)) →
    ((place : ℕ) → IsStuck at (drop from text) place → IsStuck 0 text place) →
    (place : ℕ) → IsStuck (at + bytes) (drop (from + len) text) place → IsStuck 0 text place
step_stuck text from at len bytes kind longest size before place h =
    let rest : List ℕ = drop from text in
    let here : IsStuck (at + byte_len (take len rest)) (drop len rest) place =
    subst (λ (k : ℕ). IsStuck (at + k) (drop len rest) place) size (subst (λ l. IsStuck (at + bytes) l place) (sym (drop-drop len from text)) h) in
    before place (stuck_more at rest (take len rest) (drop len rest) kind place (sym (take-append-drop len rest)) longest here)

pub step_bytes : (text : List ℕ) (from at len bytes : ℕ) → bytes ≡ byte_len (take len (drop from text)) →
    at + byte_len (drop from text) ≡ byte_len text → at + bytes + byte_len (drop (from + len) text) ≡ byte_len text
step_bytes text from at len bytes size before =
    omega (arith, byte_len_front (drop from text) len, ap byte_len (drop-drop len from text), size, before)

pub end_tokens : (text : List ℕ) (from at : ℕ) (tokens : List Token) → length text ≤ from →
    ((more : List Token) → HasTokens at (drop from text) more → HasTokens 0 text (tokens ++ more)) → HasTokens 0 text tokens
end_tokens text from at tokens over before =
    subst (λ l. HasTokens 0 text l) (append-nil tokens)
    (before [] (subst (λ l. HasTokens at l []) (sym (drop_all from text over)) (tokens_none at)))

pub ruleset lengths = (byte_len_more, byte_len_take)

-- BYTES AND CHARACTERS
-- behind a piece, too, the bytes are those of the characters
pub place_more : (text cs : List ℕ) (from at len bytes : ℕ) → encode_utf8_all (drop from cs) ≡ drop at text → bytes ≡ byte_len (take len (drop from cs)) →
    encode_utf8_all (drop (from + len) cs) ≡ drop (at + bytes) text
place_more text cs from at len bytes place size =
    let rest : List ℕ = drop from cs in
    let split : encode_utf8_all (take len rest) ++ encode_utf8_all (drop len rest) ≡ drop at text =
    sym (encodes-append (take len rest) (drop len rest)) ∙ (ap encode_utf8_all (take-append-drop len rest) ∙ place) in
    ap encode_utf8_all (sym (drop-drop len from cs))
    ∙ (sym (drop_at (encode_utf8_all (take len rest)) (encode_utf8_all (drop len rest)) bytes (sym size)) ∙ (ap (drop bytes) split ∙ drop-drop bytes at text))

-- characters are left where bytes are
pub some_left : (text cs : List ℕ) (from at : ℕ) → encode_utf8_all (drop from cs) ≡ drop at text → at < length text → from < length cs
some_left text cs from at place more = left (drop from cs) refl
  where
    left : (l : List ℕ) → drop from cs ≡ l → from < length cs
    left [] e = absurd (omega (arith, length-drop at text, ap length (sym place ∙ ap encode_utf8_all e)))
    left (c ∷ l) e = omega (arith, length-drop from cs, ap length e)

-- and none where no byte is
pub none_left : (text cs : List ℕ) (from at : ℕ) → encode_utf8_all (drop from cs) ≡ drop at text → length text ≤ at → length cs ≤ from
none_left text cs from at place past =
    omega (arith, length-drop from cs, length-drop at text, length-le-encodes (drop from cs), ap length place)

pub few_chars : (text : List ℕ) → IsUtf8 text → length (chars text) ≤ length text
few_chars text is = omega (arith, length-le-encodes (chars text), ap length (encodes-chars text is))

pub chars_size : (text : List ℕ) → IsUtf8 text → byte_len (chars text) ≡ length text
chars_size text is = ap length (encodes-chars text is)

-- a piece that the bytes tell is a step
pub told_step : (rest bytes : List ℕ) (at : ℕ) (piece : Piece) (before after : List Token) (step : ℕ × ℕ) → Tells bytes piece → encode_utf8_all rest ≡ bytes →
    IsPut piece at before after step → StepAnswers rest at before after (Ok step)
told_step rest bytes at piece before after step tells e put =
    let read = tells.reads rest e in let is = tells.size rest e in (
      piece.kind,
      omega (arith, put.0, read.0),
      omega (arith, put.0, read.1),
      subst (λ (k : ℕ). IsLongest piece.kind (take k rest) (drop k rest)) (sym put.0) read.2,
      put.1 ∙ (sym is ∙ ap (λ (k : ℕ). byte_len (take k rest)) (sym put.0)),
      put.2 ∙ ap (λ (k : ℕ). before ++ token_of at (at + k) piece.kind) (sym put.1),
    )

-- and its bytes are among those that are left
pub told_fits : (rest bytes : List ℕ) (at : ℕ) (piece : Piece) → Tells bytes piece → encode_utf8_all rest ≡ bytes → at + byte_len rest < 2 ^ 32 → at + piece.len < 2 ^ 32
told_fits rest bytes at piece tells e fits = omega (arith, byte_len_take rest piece.len, tells.size rest e, fits)
