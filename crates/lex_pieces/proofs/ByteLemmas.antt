-- What bytes tell of the text that they are the UTF-8 of.
use Rattle.std.proofs.Common.{◌≡◌, ℕ, suc, ◌+◌, ◌<◌, ◌≤◌, Bool, true, false, cond, not, eqb, ◌&&◌, ◌||◌, List, [], ◌∷◌, ◌++◌, Option, Some, None, length, map, get_or, take, drop, refl, sym, ap, ◌∙◌, subst, inl, inr, append_assoc, length-append, arith}
use Rattle.std.specs.List.{list_all, prefix_len}
use Rattle.std.specs.Char.{is_ascii_digit}
use Rattle.std.specs.Str.{encode_utf8_all}
use Rattle.std.proofs.lemmas.Bool.{and_parts, and_from, cases_Bool, eqb-true, eqb-false, ltb-true, lt-ltb, true≢false, eq-eqb, or_parts}
use Rattle.std.proofs.lemmas.Bool.Decides.{nat_tests}
use Rattle.std.specs.Option.{option_map}
use Rattle.std.proofs.lemmas.List.{take-append-drop, take_at, drop_at, length-take-le, append-nil}
use Rattle.std.proofs.lemmas.List.Sums.{prefix_len-le-length}
use Rattle.std.proofs.lemmas.Str.{cons_from_encodes, encode_ascii, length-le-encodes}
use lib.Utf8.{encode}
use Rattle.js_token.specs.Words.{is_whole}
use Rattle.js_token.specs.declared.token.TokenKind.{TokenKind}
use Rattle.js_token.specs.declared.token.TokenKind.TheVariants.{Name, Number, Str, Punct}
use Rattle.js_token.specs.declared.punct.Punct.{Punct as MarkType}
use Rattle.js_token.specs.declared.punct.Punct.TheVariants.{Dot as DotMark, OpenBrace as OpenBraceMark, CloseBrace as CloseBraceMark, OpenParen as OpenParenMark, CloseParen as CloseParenMark, OpenBracket as OpenBracketMark, CloseBracket as CloseBracketMark, Comma as CommaMark, Semicolon as SemicolonMark, Colon as ColonMark, Percent as PercentMark}
use Rattle.js_token.specs.Marks.{spelling}
use Rattle.source_characters.specs.Words.{continues_word}
use Rattle.lex_pieces.specs.declared.piece.Piece.{Piece}
use Rattle.lex_pieces.specs.declared.start.Start.{Start}
use Rattle.lex_pieces.specs.declared.start.Start.TheVariants.{Blank, Word, Digit, Quote, Dot, Slash, Mark}
use Rattle.lex_pieces.specs.Characters.{goes_on, is_quote, LF}
use Rattle.lex_pieces.specs.Starts.{start_of, Starts}
use Rattle.lex_pieces.specs.Marks.{mark_at, longest_of_two, longest_of_three}
use Rattle.lex_pieces.specs.Comments.{closed_len, comment_len, line_len}
use Rattle.lex_pieces.specs.Escapes.{begins_with}
use Rattle.lex_pieces.specs.Reading.{number_len}
use Rattle.lex_pieces.specs.Strings.{Part, IsPart, plain, AreParts, written, ReadsParts, IsStringRead, starts_with_digit}
use Rattle.lex_pieces.specs.Read.{IsRead, blank_piece, word_piece, number_piece, mark_piece}
use Rattle.lex_pieces.specs.Bytes.{Tells, IsTold, Begins, is_ascii, is_word_byte, ends_told, front_is_ascii, stops_whole, ends_plain, is_plain_byte, is_line_byte, line_ends, mark_alone, mark_told}
use Rattle.lex_pieces.proofs.Runs.{Stops, run, run_passes, run_stops, run_front}
use Rattle.lex_pieces.proofs.Fronts.{blank_read, word_read, digit_some, mark_read, dot_mark, slash_mark, slash_comment, dot_alone, quote_some, quote_char, slash_char, dot_char}
use Rattle.lex_pieces.proofs.MarkLemmas.{mark_sound}
use Rattle.lex_pieces.proofs.NumberLemmas.{whole_number}
use Rattle.lex_pieces.proofs.PartLemmas.{begun}
use Rattle.lex_pieces.proofs.StringReads.{string_read}
use Rattle.lex_pieces.proofs.CommentLemmas.{not_lf, Closing, closed_sound, closed_exact}

-- ASCII AT THE FRONT
ascii_head : (text bytes : List ℕ) (b : ℕ) → b < 128 → encode_utf8_all text ≡ b ∷ bytes → (more : List ℕ) × (text ≡ b ∷ more) × (encode_utf8_all more ≡ bytes)
ascii_head text bytes b low e = cons_from_encodes text bytes b (e ∙ ap (λ l. l ++ bytes) (sym (encode_ascii b low)))

-- the text goes on as the bytes do behind ASCII
ascii_front : (front bytes text : List ℕ) → list_all is_ascii front ≡ true → encode_utf8_all text ≡ front ++ bytes → (more : List ℕ) × (text ≡ front ++ more) × (encode_utf8_all more ≡ bytes)
ascii_front [] bytes text all e = (text, refl, e)
ascii_front (b ∷ front) bytes text all e =
    let parts = and_parts (is_ascii b) (list_all is_ascii front) all in
    let head = ascii_head text (front ++ bytes) b (ltb-true b 128 parts.0) e in
    let tail = ascii_front front bytes head.0 parts.1 head.2 in
    (tail.0, head.1 ∙ ap (λ (l : List ℕ). b ∷ l) tail.1, tail.2)

ascii_same : (front : List ℕ) → list_all is_ascii front ≡ true → encode_utf8_all front ≡ front
ascii_same [] all = refl
ascii_same (b ∷ front) all =
    let parts = and_parts (is_ascii b) (list_all is_ascii front) all in
    ap (λ l. l ++ encode_utf8_all front) (encode_ascii b (ltb-true b 128 parts.0)) ∙ ap (λ (l : List ℕ). b ∷ l) (ascii_same front parts.1)

no_text : (text : List ℕ) → encode_utf8_all text ≡ [] → text ≡ []
no_text [] e = refl
no_text (c ∷ text) e = absurd (omega (arith, length-le-encodes (c ∷ text), ap length e))

-- what a text has where ASCII or nothing follows
stops_told : (p : ℕ → Bool) (bytes more : List ℕ) → encode_utf8_all more ≡ bytes → ends_told bytes ≡ true → Stops p bytes → Stops p more
stops_told p [] more e told stops = subst (Stops p) (sym (no_text more e)) tt
stops_told p (b ∷ bytes) more e told stops = let head = ascii_head more bytes b (ltb-true b 128 told) e in subst (Stops p) (sym head.1) stops

goes_told : (bytes more : List ℕ) → encode_utf8_all more ≡ bytes → ends_told bytes ≡ true → goes_on more ≡ goes_on bytes
goes_told [] more e told = ap goes_on (no_text more e)
goes_told (b ∷ bytes) more e told = let head = ascii_head more bytes b (ltb-true b 128 told) e in ap goes_on head.1

begins_told : (c : ℕ) (bytes more : List ℕ) → encode_utf8_all more ≡ bytes → ends_told bytes ≡ true → begins_with c more ≡ begins_with c bytes
begins_told c [] more e told = ap (begins_with c) (no_text more e)
begins_told c (b ∷ bytes) more e told = let head = ascii_head more bytes b (ltb-true b 128 told) e in ap (begins_with c) head.1

starts_told : (start : Start) (bytes text : List ℕ) → Begins start bytes → encode_utf8_all text ≡ bytes → Starts start text
starts_told start [] text begins e = absurd begins
starts_told start (b ∷ bytes) text begins e = let head = ascii_head text bytes b begins.0 e in subst (Starts start) (sym head.1) begins.1

not_of : (b : Bool) → not b ≡ true → b ≡ false
not_of true h = absurd (true≢false (sym h))
not_of false h = refl

left_all : (p q : ℕ → Bool) (xs : List ℕ) → list_all (λ x. p x && q x) xs ≡ true → list_all p xs ≡ true
left_all p q [] all = refl
left_all p q (x ∷ xs) all =
    let parts = and_parts (p x && q x) (list_all (λ y. p y && q y) xs) all in
    and_from (p x) (list_all p xs) (and_parts (p x) (q x) parts.0).0 (left_all p q xs parts.1)

right_all : (p q : ℕ → Bool) (xs : List ℕ) → list_all (λ x. p x && q x) xs ≡ true → list_all q xs ≡ true
right_all p q [] all = refl
right_all p q (x ∷ xs) all =
    let parts = and_parts (p x && q x) (list_all (λ y. p y && q y) xs) all in
    and_from (q x) (list_all q xs) (and_parts (p x) (q x) parts.0).1 (right_all p q xs parts.1)

-- the text behind so many ASCII bytes, and its size
record Front (bytes text : List ℕ) (n : ℕ) : Type 0 where
  more : List ℕ
  whole : text ≡ take n bytes ++ more
  rest : encode_utf8_all more ≡ drop n bytes
  long : length (take n bytes) ≡ n
  same : take n text ≡ take n bytes
  behind : drop n text ≡ more
  code : encode_utf8_all (take n text) ≡ take n bytes
  size : length (encode_utf8_all (take n text)) ≡ n

front_of : (bytes text : List ℕ) (n : ℕ) → n ≤ length bytes → list_all is_ascii (take n bytes) ≡ true → encode_utf8_all text ≡ bytes → Front bytes text n
front_of bytes text n fits all e =
    let found = ascii_front (take n bytes) (drop n bytes) text all (e ∙ sym (take-append-drop n bytes)) in
    let long = length-take-le n bytes fits in
    let same = ap (take n) found.1 ∙ take_at (take n bytes) found.0 n long in
    let code = ap encode_utf8_all same ∙ ascii_same (take n bytes) all in
    record { more = found.0; whole = found.1; rest = found.2; long = long; same = same; behind = ap (drop n) found.1 ∙ drop_at (take n bytes) found.0 n long; code = code; size = ap length code ∙ long }

-- from both at once
tells : (bytes : List ℕ) (piece : Piece) → ((text : List ℕ) → encode_utf8_all text ≡ bytes → IsRead text (Some piece) × (length (encode_utf8_all (take piece.len text)) ≡ piece.len)) → Tells bytes piece
tells bytes piece both = record { reads = λ text e. (both text e).0; size = λ text e. (both text e).1 }

-- BLANKS AND WORDS
pub blank_told : (bytes : List ℕ) → Begins Blank bytes → IsTold bytes (Some (blank_piece 1))
blank_told [] begins = absurd begins
blank_told (b ∷ bytes) begins = tells _ _ (λ text e.
    let front = front_of (b ∷ bytes) text 1 (omega arith) (and_from (is_ascii b) true (low b begins.0) refl) e in
    (blank_read text (starts_told Blank (b ∷ bytes) text begins e), front.size))
  where
    low : (b : ℕ) → b < 128 → is_ascii b ≡ true
    low b h = lt-ltb b 128 h

pub word_told : (bytes : List ℕ) (n : ℕ) → Begins Word bytes → n ≡ prefix_len is_word_byte bytes → ends_told (drop n bytes) ≡ true →
    IsTold bytes (Some (record { kind = Some (Name (take n bytes)); len = n }))
word_told bytes n begins is told = tells _ _ (λ text e.
    let fits : n ≤ length bytes = omega (arith, prefix_len-le-length is_word_byte bytes, is) in
    let passes : list_all is_word_byte (take n bytes) ≡ true = subst (λ (k : ℕ). list_all is_word_byte (take k bytes) ≡ true) (sym is) (run_passes is_word_byte bytes) in
    let stops : Stops is_word_byte (drop n bytes) = subst (λ (k : ℕ). Stops is_word_byte (drop k bytes)) (sym is) (run_stops is_word_byte bytes) in
    let front = front_of bytes text n fits (left_all is_ascii continues_word (take n bytes) passes) e in
    let len : prefix_len continues_word text ≡ n =
    ap (prefix_len continues_word) front.whole ∙ (run continues_word (take n bytes) front.more (right_all is_ascii continues_word (take n bytes) passes) (word_stops (drop n bytes) front.more front.rest told stops) ∙ front.long) in
    (subst (λ (l : List ℕ). IsRead text (Some (record { kind = Some (Name l); len = n }))) front.code (word_read text n (starts_told Word bytes text begins e) (sym len)), front.size))
  where
    word_stops : (rest more : List ℕ) → encode_utf8_all more ≡ rest → ends_told rest ≡ true → Stops is_word_byte rest → Stops continues_word more
    word_stops [] more e told stops = subst (Stops continues_word) (sym (no_text more e)) tt
    word_stops (b ∷ rest) more e told stops =
        let head = ascii_head more rest b (ltb-true b 128 told) e in
        subst (Stops continues_word) (sym head.1) (rw told at stops)

-- NUMBERS
digit_below : (d : ℕ) → is_ascii_digit d ≡ true → d < 128
digit_below d h = grind (arith, nat_tests)

pub whole_told : (bytes : List ℕ) (n : ℕ) → Begins Digit bytes → n ≡ prefix_len is_ascii_digit bytes → is_whole (take n bytes) ≡ true → stops_whole (drop n bytes) ≡ true →
    IsTold bytes (Some (record { kind = Some (Number (take n bytes)); len = n }))
whole_told bytes n begins is whole stops = tells _ _ (λ text e.
    let fits : n ≤ length bytes = omega (arith, prefix_len-le-length is_ascii_digit bytes, is) in
    let passes : list_all is_ascii_digit (take n bytes) ≡ true = subst (λ (k : ℕ). list_all is_ascii_digit (take k bytes) ≡ true) (sym is) (run_passes is_ascii_digit bytes) in
    let front = front_of bytes text n fits (digits_ascii (take n bytes) passes) e in
    let outer = and_parts (ends_told (drop n bytes) && not (begins_with 46 (drop n bytes))) (not (goes_on (drop n bytes))) stops in
    let inner = and_parts (ends_told (drop n bytes)) (not (begins_with 46 (drop n bytes))) outer.0 in
    let len : number_len text ≡ n =
    ap number_len front.whole
    ∙ (whole_number (take n bytes) front.more whole (goes_told (drop n bytes) front.more front.rest inner.0 ∙ not_of _ outer.1) (begins_told 46 (drop n bytes) front.more front.rest inner.0 ∙ not_of _ inner.1) ∙ front.long) in
    let some : n ≡ 0 → ⊥ = λ z. nothing_whole (take n bytes) whole (front.long ∙ z) in
    let fits_text : n ≤ length text = omega (arith, ap length front.whole, length-append (take n bytes) front.more, front.long) in
    (subst (λ (l : List ℕ). IsRead text (Some (record { kind = Some (Number l); len = n }))) front.code (digit_some text n (starts_told Digit bytes text begins e) (sym len) some fits_text), front.size))
  where
    digit_low : (d : ℕ) → is_ascii_digit d ≡ true → is_ascii d ≡ true
    digit_low d h = lt-ltb d 128 (digit_below d h)

    digits_ascii : (ds : List ℕ) → list_all is_ascii_digit ds ≡ true → list_all is_ascii ds ≡ true
    digits_ascii [] all = refl
    digits_ascii (d ∷ ds) all = let parts = and_parts (is_ascii_digit d) (list_all is_ascii_digit ds) all in and_from (is_ascii d) _ (digit_low d parts.0) (digits_ascii ds parts.1)

    nothing_whole : (ds : List ℕ) → is_whole ds ≡ true → length ds ≡ 0 → ⊥
    nothing_whole [] h z = true≢false (sym h)
    nothing_whole (d ∷ ds) h z = omega arith

-- MARKS
-- the marks that begin a text are those that begin its bytes
mark_front : (bytes text : List ℕ) → front_is_ascii bytes ≡ true → encode_utf8_all text ≡ bytes → mark_at text ≡ mark_at bytes
mark_front [] text low e = ap mark_at (no_text text e)
mark_front (a ∷ []) text low e = let found = ascii_front (a ∷ []) [] text (and_from (is_ascii a) true low refl) e in ap mark_at (found.1 ∙ ap (λ (l : List ℕ). a ∷ l) (no_text found.0 found.2))
mark_front (a ∷ b ∷ []) text low e =
    let parts = and_parts (is_ascii a) (is_ascii b) low in
    let found = ascii_front (a ∷ b ∷ []) [] text (and_from (is_ascii a) _ parts.0 (and_from (is_ascii b) true parts.1 refl)) e in
    ap mark_at (found.1 ∙ ap (λ (l : List ℕ). a ∷ b ∷ l) (no_text found.0 found.2))
mark_front (a ∷ b ∷ c ∷ bytes) text low e =
    let parts = and_parts (is_ascii a && is_ascii b) (is_ascii c) low in let two = and_parts (is_ascii a) (is_ascii b) parts.0 in
    let found = ascii_front (a ∷ b ∷ c ∷ []) bytes text (and_from (is_ascii a) _ two.0 (and_from (is_ascii b) _ two.1 (and_from (is_ascii c) true parts.1 refl))) e in
    ap mark_at found.1

spelling_size : (mark : MarkType) → length (encode_utf8_all (spelling mark)) ≡ length (spelling mark)
unfolding encode
spelling_size DotMark = refl
spelling_size _ = refl

mark_is_told : (bytes : List ℕ) → ((text : List ℕ) → encode_utf8_all text ≡ bytes → IsRead text (mark_piece text)) → IsTold bytes (mark_told bytes)
mark_is_told bytes reads = at (front_is_ascii bytes) refl
  where
    found : (o : Option (MarkType × ℕ)) → front_is_ascii bytes ≡ true → mark_at bytes ≡ o → IsTold bytes (option_map (λ mark. record { kind = Some (Punct mark.0); len = mark.1 }) o)
    found None low is = tt
    found (Some mark) low is = tells _ _ (λ text e.
        let here : mark_at text ≡ Some (mark.0, mark.1) = mark_front bytes text low e ∙ is in
        let sound = mark_sound text mark.0 mark.1 here in (
          subst (λ (o : Option (MarkType × ℕ)). IsRead text (option_map (λ (m : MarkType × ℕ). record { kind = Some (Punct m.0); len = m.1 }) o)) here (reads text e),
          ap (λ (l : List ℕ). length (encode_utf8_all l)) (ap (take mark.1) sound.0 ∙ take_at (spelling mark.0) (drop mark.1 text) mark.1 (sym sound.1)) ∙ (spelling_size mark.0 ∙ sym sound.1),
        ))

    at : (b : Bool) → front_is_ascii bytes ≡ b → IsTold bytes (cond b (mark_piece bytes) None)
    at true low = found (mark_at bytes) low refl
    at false low = tt

pub mark_only_told : (bytes : List ℕ) → Begins Mark bytes → IsTold bytes (mark_told bytes)
mark_only_told bytes begins = mark_is_told bytes (λ text e. mark_read text (starts_told Mark bytes text begins e))

-- a mark with which no other one begins
Alone : ℕ → MarkType → Type 0
Alone k m = (rest : List ℕ) → mark_at (k ∷ rest) ≡ Some (m, 1)

alone_123 : Alone 123 OpenBraceMark
unfolding Alone longest_of_two longest_of_three
alone_123 [] = refl
alone_123 (b ∷ []) = refl
alone_123 (b ∷ c ∷ rest) = refl

alone_125 : Alone 125 CloseBraceMark
unfolding Alone longest_of_two longest_of_three
alone_125 [] = refl
alone_125 (b ∷ []) = refl
alone_125 (b ∷ c ∷ rest) = refl

alone_40 : Alone 40 OpenParenMark
unfolding Alone longest_of_two longest_of_three
alone_40 [] = refl
alone_40 (b ∷ []) = refl
alone_40 (b ∷ c ∷ rest) = refl

alone_41 : Alone 41 CloseParenMark
unfolding Alone longest_of_two longest_of_three
alone_41 [] = refl
alone_41 (b ∷ []) = refl
alone_41 (b ∷ c ∷ rest) = refl

alone_91 : Alone 91 OpenBracketMark
unfolding Alone longest_of_two longest_of_three
alone_91 [] = refl
alone_91 (b ∷ []) = refl
alone_91 (b ∷ c ∷ rest) = refl

alone_93 : Alone 93 CloseBracketMark
unfolding Alone longest_of_two longest_of_three
alone_93 [] = refl
alone_93 (b ∷ []) = refl
alone_93 (b ∷ c ∷ rest) = refl

alone_44 : Alone 44 CommaMark
unfolding Alone longest_of_two longest_of_three
alone_44 [] = refl
alone_44 (b ∷ []) = refl
alone_44 (b ∷ c ∷ rest) = refl

alone_59 : Alone 59 SemicolonMark
unfolding Alone longest_of_two longest_of_three
alone_59 [] = refl
alone_59 (b ∷ []) = refl
alone_59 (b ∷ c ∷ rest) = refl

alone_58 : Alone 58 ColonMark
unfolding Alone longest_of_two longest_of_three
alone_58 [] = refl
alone_58 (b ∷ []) = refl
alone_58 (b ∷ c ∷ rest) = refl

alone_37 : Alone 37 PercentMark
unfolding Alone longest_of_two longest_of_three
alone_37 [] = refl
alone_37 (b ∷ []) = refl
alone_37 (b ∷ c ∷ rest) = refl

alone_hit : (a k : ℕ) (p m : MarkType) → eqb a k ≡ true → Alone k p → Some p ≡ Some m → Alone a m
unfolding Alone
alone_hit a k p m same is found rest = let which : p ≡ m = cc in ap (λ (x : ℕ). mark_at (x ∷ rest)) (eqb-true a k same) ∙ (is rest ∙ ap (λ (q : MarkType). Some (q, 1)) which)

alone_is : (a : ℕ) (m : MarkType) → mark_alone a ≡ Some m → Alone a m
alone_is a m h0 =
    elim (cases_Bool (eqb a 123)) [
      | inl t ↦ alone_hit a 123 OpenBraceMark m t alone_123 (rw t at h0)
      | inr f ↦ let h1 = rw f at h0 in
          elim (cases_Bool (eqb a 125)) [
            | inl t ↦ alone_hit a 125 CloseBraceMark m t alone_125 (rw t at h1)
            | inr f ↦ let h2 = rw f at h1 in
                elim (cases_Bool (eqb a 40)) [
                  | inl t ↦ alone_hit a 40 OpenParenMark m t alone_40 (rw t at h2)
                  | inr f ↦ let h3 = rw f at h2 in
                      elim (cases_Bool (eqb a 41)) [
                        | inl t ↦ alone_hit a 41 CloseParenMark m t alone_41 (rw t at h3)
                        | inr f ↦ let h4 = rw f at h3 in
                            elim (cases_Bool (eqb a 91)) [
                              | inl t ↦ alone_hit a 91 OpenBracketMark m t alone_91 (rw t at h4)
                              | inr f ↦ let h5 = rw f at h4 in
                                  elim (cases_Bool (eqb a 93)) [
                                    | inl t ↦ alone_hit a 93 CloseBracketMark m t alone_93 (rw t at h5)
                                    | inr f ↦ let h6 = rw f at h5 in
                                        elim (cases_Bool (eqb a 44)) [
                                          | inl t ↦ alone_hit a 44 CommaMark m t alone_44 (rw t at h6)
                                          | inr f ↦ let h7 = rw f at h6 in
                                              elim (cases_Bool (eqb a 59)) [
                                                | inl t ↦ alone_hit a 59 SemicolonMark m t alone_59 (rw t at h7)
                                                | inr f ↦ let h8 = rw f at h7 in
                                                    elim (cases_Bool (eqb a 58)) [
                                                      | inl t ↦ alone_hit a 58 ColonMark m t alone_58 (rw t at h8)
                                                      | inr f ↦ let h9 = rw f at h8 in
                                                          elim (cases_Bool (eqb a 37)) [
                                                            | inl t ↦ alone_hit a 37 PercentMark m t alone_37 (rw t at h9)
                                                            | inr f ↦ let h10 = rw f at h9 in
                                                                absurd (let none : None ≡ Some m = h10 in cc)
                                                          ]
                                                    ]
                                              ]
                                        ]
                                  ]
                            ]
                      ]
                ]
          ]
    ]

pub alone_told : (a : ℕ) (bytes : List ℕ) (m : MarkType) → Begins Mark (a ∷ bytes) → mark_alone a ≡ Some m → Tells (a ∷ bytes) (record { kind = Some (Punct m); len = 1 })
unfolding Alone
alone_told a bytes m begins is = tells _ _ (λ text e.
    let head = ascii_head text bytes a begins.0 e in
    let here : mark_at text ≡ Some (m, 1) = ap mark_at head.1 ∙ alone_is a m is head.0 in
    let front = front_of (a ∷ bytes) text 1 (omega arith) (and_from (is_ascii a) true (lt-ltb a 128 begins.0) refl) e in
    (subst (λ (o : Option (MarkType × ℕ)). IsRead text (option_map (λ (q : MarkType × ℕ). record { kind = Some (Punct q.0); len = q.1 }) o)) here (mark_read text (starts_told Mark (a ∷ bytes) text begins e)), front.size))

pub ruleset mark_tells = (alone_told, mark_only_told)

-- a text whose bytes fail a test of ASCII at their front fails it, too
first_fails : (p : ℕ → Bool) → ((c : ℕ) → p c ≡ true → c < 128) → (d : ℕ) (more bytes : List ℕ) → encode_utf8_all (d ∷ more) ≡ bytes → ((c : ℕ) (cs : List ℕ) → bytes ≡ c ∷ cs → p c ≡ false) → p d ≡ false
first_fails p low d more bytes e fails = at (p d) refl
  where
    at : (t : Bool) → p d ≡ t → p d ≡ false
    at false is = is
    at true is = fails d (encode_utf8_all more) (sym e ∙ ap (λ l. l ++ encode_utf8_all more) (encode_ascii d (low d is)))

no_digit : (rest more : List ℕ) → encode_utf8_all more ≡ rest → starts_with_digit rest ≡ false → starts_with_digit more ≡ false
no_digit rest [] e h = refl
no_digit rest (d ∷ more) e h = first_fails is_ascii_digit digit_below d more rest e (λ c cs is. ap starts_with_digit (sym is) ∙ h)

not_first : (k : ℕ) → k < 128 → (rest more : List ℕ) → encode_utf8_all more ≡ rest → begins_with k rest ≡ false → begins_with k more ≡ false
not_first k low rest [] e h = refl
not_first k low rest (d ∷ more) e h = first_fails (λ c. eqb c k) (λ c is. let same = eqb-true c k is in omega arith) d more rest e (λ c cs is. ap (begins_with k) (sym is) ∙ h)

pub dot_told : (b : ℕ) (bytes : List ℕ) → Begins Dot (b ∷ bytes) → starts_with_digit bytes ≡ false → IsTold (b ∷ bytes) (mark_told (b ∷ bytes))
dot_told b bytes begins digit = mark_is_told (b ∷ bytes) (λ text e.
    let head = ascii_head text bytes b begins.0 e in
    let same : text ≡ 46 ∷ head.0 = head.1 ∙ ap (λ (c : ℕ). c ∷ head.0) (dot_char b begins.1) in
    dot_mark text (starts_told Dot (b ∷ bytes) text begins e) (ap number_len same ∙ dot_alone head.0 (no_digit bytes head.0 head.2 digit)))

-- COMMENTS
slash_byte : (b : ℕ) (bytes text : List ℕ) → Begins Slash (b ∷ bytes) → encode_utf8_all text ≡ b ∷ bytes → (more : List ℕ) × (text ≡ 47 ∷ more) × (encode_utf8_all more ≡ bytes)
slash_byte b bytes text begins e =
    let head = ascii_head text bytes b begins.0 e in
    (head.0, head.1 ∙ ap (λ (c : ℕ). c ∷ head.0) (slash_char b begins.1), head.2)

line_comment : (body more : List ℕ) → list_all not_lf body ≡ true → Stops not_lf more → comment_len (47 ∷ 47 ∷ body ++ more) ≡ Some (length body + 2)
unfolding comment_len line_len
line_comment body more all stops = ap (λ n. Some (n + 2)) (run not_lf body more all stops)

no_comment : (text : List ℕ) → begins_with 47 text ≡ false → begins_with 42 text ≡ false → comment_len (47 ∷ text) ≡ None
unfolding comment_len
no_comment text line block = rw (line, block) refl

line_stops : (rest more : List ℕ) → encode_utf8_all more ≡ rest → line_ends rest ≡ true → Stops not_lf more
line_stops [] more e ends = subst (Stops not_lf) (sym (no_text more e)) tt
line_stops (c ∷ rest) more e ends =
    let lf : c ≡ LF = eqb-true c LF ends in
    let head = ascii_head more rest c (omega (arith, lf)) e in
    subst (Stops not_lf) (sym head.1) (subst (λ (k : ℕ). not_lf k ≡ false) (sym lf) refl)

line_after : (b : ℕ) (bytes : List ℕ) (n : ℕ) → Begins Slash (b ∷ 47 ∷ bytes) → n ≡ prefix_len is_line_byte bytes → line_ends (drop n bytes) ≡ true → IsTold (b ∷ 47 ∷ bytes) (Some (blank_piece (n + 2)))
line_after b bytes n begins is ends = tells _ _ (λ text e.
    let slash = slash_byte b (47 ∷ bytes) text begins e in
    let second = ascii_head slash.0 bytes 47 (omega arith) slash.2 in
    let fits : n ≤ length bytes = omega (arith, prefix_len-le-length is_line_byte bytes, is) in
    let passes : list_all is_line_byte (take n bytes) ≡ true = subst (λ (k : ℕ). list_all is_line_byte (take k bytes) ≡ true) (sym is) (run_passes is_line_byte bytes) in
    let low = left_all is_ascii not_lf (take n bytes) passes in
    let front = front_of bytes second.0 n fits low second.2 in
    let whole : text ≡ 47 ∷ 47 ∷ take n bytes ++ front.more = slash.1 ∙ ap (λ (l : List ℕ). 47 ∷ l) (second.1 ∙ ap (λ (l : List ℕ). 47 ∷ l) front.whole) in
    let stops : Stops not_lf front.more = line_stops (drop n bytes) front.more front.rest ends in
    let len : comment_len text ≡ Some (n + 2) = ap comment_len whole ∙ (line_comment (take n bytes) front.more (right_all is_ascii not_lf (take n bytes) passes) stops ∙ ap (λ (k : ℕ). Some (k + 2)) front.long) in
    let all : list_all is_ascii (take (n + 2) (b ∷ 47 ∷ bytes)) ≡ true =
    (let two : n + 2 ≡ suc (suc n) = omega arith in rw two (and_from (is_ascii b) _ (lt-ltb b 128 begins.0) low)) in
    let size = front_of (b ∷ 47 ∷ bytes) text (n + 2) (omega (arith, fits)) all e in
    (slash_comment text (n + 2) (starts_told Slash (b ∷ 47 ∷ bytes) text begins e) len, size.size))

pub line_told : (b : ℕ) (bytes : List ℕ) (n : ℕ) → Begins Slash (b ∷ bytes) → begins_with 47 bytes ≡ true → n ≡ prefix_len is_line_byte (drop 1 bytes) → line_ends (drop n (drop 1 bytes)) ≡ true →
    IsTold (b ∷ bytes) (Some (blank_piece (n + 2)))
line_told b bytes n begins second is ends =
    subst (λ (l : List ℕ). IsTold (b ∷ l) (Some (blank_piece (n + 2)))) (sym (begun 47 bytes second)) (line_after b (drop 1 bytes) n begins is ends)

pub slash_told : (b : ℕ) (bytes : List ℕ) → Begins Slash (b ∷ bytes) → begins_with 47 bytes ≡ false → begins_with 42 bytes ≡ false → IsTold (b ∷ bytes) (mark_told (b ∷ bytes))
slash_told b bytes begins line block = mark_is_told (b ∷ bytes) (λ text e.
    let slash = slash_byte b bytes text begins e in
    slash_mark text (starts_told Slash (b ∷ bytes) text begins e)
    (ap comment_len slash.1 ∙ no_comment slash.0 (not_first 47 (omega arith) bytes slash.0 slash.2 line) (not_first 42 (omega arith) bytes slash.0 slash.2 block)))

pub line_at : (bytes : List ℕ) (n : ℕ) → Begins Slash bytes → begins_with 47 (drop 1 bytes) ≡ true → n ≡ prefix_len is_line_byte (drop 1 (drop 1 bytes)) → line_ends (drop n (drop 1 (drop 1 bytes))) ≡ true →
    Tells bytes (blank_piece (n + 2))
line_at [] n begins second is ends = absurd begins
line_at (b ∷ bytes) n begins second is ends = line_told b bytes n begins second is ends

block_comment : (text : List ℕ) (n : ℕ) → closed_len text ≡ Some n → comment_len (47 ∷ 42 ∷ text) ≡ Some (n + 2)
unfolding comment_len
block_comment text n is = ap (option_map (λ k. k + 2)) is

block_after : (b : ℕ) (bytes : List ℕ) (n : ℕ) → Begins Slash (b ∷ 42 ∷ bytes) → closed_len bytes ≡ Some n → list_all is_ascii (take n bytes) ≡ true → Tells (b ∷ 42 ∷ bytes) (blank_piece (n + 2))
block_after b bytes n begins is low = tells _ _ (λ text e.
    let slash = slash_byte b (42 ∷ bytes) text begins e in
    let second = ascii_head slash.0 bytes 42 (omega arith) slash.2 in
    let found = closed_sound bytes n is in
    let whole : bytes ≡ (found.body ++ 42 ∷ 47 ∷ []) ++ found.rest = found.split ∙ sym (append_assoc found.body (42 ∷ 47 ∷ []) found.rest) in
    let count : length (found.body ++ 42 ∷ 47 ∷ []) ≡ n = omega (arith, length-append found.body (42 ∷ 47 ∷ []), found.len) in
    let fits : n ≤ length bytes = omega (arith, ap length whole, length-append (found.body ++ 42 ∷ 47 ∷ []) found.rest, count) in
    let front = front_of bytes second.0 n fits low second.2 in
    let taken : take n bytes ≡ found.body ++ 42 ∷ 47 ∷ [] = ap (take n) whole ∙ take_at (found.body ++ 42 ∷ 47 ∷ []) found.rest n count in
    let closed : closed_len second.0 ≡ Some n =
    ap closed_len (front.whole ∙ (ap (λ l. l ++ front.more) taken ∙ append_assoc found.body (42 ∷ 47 ∷ []) front.more)) ∙ (closed_exact found.body front.more found.first ∙ ap Some (sym found.len)) in
    let len : comment_len text ≡ Some (n + 2) = ap comment_len (slash.1 ∙ ap (λ (l : List ℕ). 47 ∷ l) second.1) ∙ block_comment second.0 n closed in
    let all : list_all is_ascii (take (n + 2) (b ∷ 42 ∷ bytes)) ≡ true =
    (let two : n + 2 ≡ suc (suc n) = omega arith in rw two (and_from (is_ascii b) _ (lt-ltb b 128 begins.0) low)) in
    let size = front_of (b ∷ 42 ∷ bytes) text (n + 2) (omega (arith, fits)) all e in
    (slash_comment text (n + 2) (starts_told Slash (b ∷ 42 ∷ bytes) text begins e) len, size.size))

block_told : (b : ℕ) (bytes : List ℕ) (n : ℕ) → Begins Slash (b ∷ bytes) → begins_with 42 bytes ≡ true → closed_len (drop 1 bytes) ≡ Some n → list_all is_ascii (take n (drop 1 bytes)) ≡ true → Tells (b ∷ bytes) (blank_piece (n + 2))
block_told b bytes n begins second is low =
    subst (λ (l : List ℕ). Tells (b ∷ l) (blank_piece (n + 2))) (sym (begun 42 bytes second)) (block_after b (drop 1 bytes) n begins is low)

pub block_at : (bytes : List ℕ) (n : ℕ) → Begins Slash bytes → begins_with 42 (drop 1 bytes) ≡ true → closed_len (drop 2 bytes) ≡ Some n → list_all is_ascii (take n (drop 2 bytes)) ≡ true → Tells bytes (blank_piece (n + 2))
block_at [] n begins second is low = absurd begins
block_at (b ∷ bytes) n begins second is low = block_told b bytes n begins second is low

pub two_bytes : (bytes : List ℕ) → begins_with 42 (drop 1 bytes) ≡ true → 2 ≤ length bytes
two_bytes [] h = absurd (true≢false (sym h))
two_bytes (b ∷ []) h = absurd (true≢false (sym h))
two_bytes (b ∷ c ∷ bytes) h = omega arith

pub ruleset block_tells = (two_bytes)

pub ruleset slash_tells = (slash_told)

-- STRINGS
-- each character written by itself
plainly : List ℕ → List Part
plainly w = map (λ c. record { written = c ∷ []; value = c }) w

written_plainly : (w : List ℕ) → written (plainly w) ≡ w
unfolding plainly
written_plainly [] = refl
written_plainly (c ∷ w) = ap (λ (l : List ℕ). c ∷ l) (written_plainly w)

values_plainly : (w : List ℕ) → map (λ (part : Part). part.value) (plainly w) ≡ w
unfolding plainly
values_plainly [] = refl
values_plainly (c ∷ w) = ap (λ (l : List ℕ). c ∷ l) (values_plainly w)

all_plainly : (quote : ℕ) (w rest : List ℕ) → list_all (λ c. not (ends_plain quote c)) w ≡ true → AreParts quote (plainly w) rest
unfolding plainly
all_plainly quote [] rest all = tt
all_plainly quote (c ∷ w) rest all =
    let parts = and_parts (not (ends_plain quote c)) (list_all (λ d. not (ends_plain quote d)) w) all in
    let last = or_parts (eqb c quote || eqb c 92 || eqb c 10) (eqb c 13) (not_of _ parts.0) in
    let third = or_parts (eqb c quote || eqb c 92) (eqb c 10) last.0 in
    let two = or_parts (eqb c quote) (eqb c 92) third.0 in
    (plain refl (eqb-false c quote two.0) (eqb-false c 92 two.1) (eqb-false c 10 third.1) (eqb-false c 13 last.1), all_plainly quote w rest parts.1)

all_more : (w : List ℕ) (c : ℕ) → list_all is_ascii w ≡ true → is_ascii c ≡ true → list_all is_ascii (w ++ c ∷ []) ≡ true
all_more [] c all low = and_from (is_ascii c) true low refl
all_more (b ∷ w) c all low = let parts = and_parts (is_ascii b) (list_all is_ascii w) all in and_from (is_ascii b) _ parts.0 (all_more w c parts.1 low)

pub string_told : (quote : ℕ) (bytes : List ℕ) (n : ℕ) → Begins Quote (quote ∷ bytes) → n ≡ prefix_len (is_plain_byte quote) bytes → begins_with quote (drop n bytes) ≡ true →
    IsTold (quote ∷ bytes) (Some (record { kind = Some (Str (take n bytes)); len = n + 2 }))
string_told quote bytes n begins is ends = tells _ _ (λ text e.
    let low : is_ascii quote ≡ true = lt-ltb quote 128 begins.0 in
    let head = ascii_head text bytes quote begins.0 e in
    let fits : n ≤ length bytes = omega (arith, prefix_len-le-length (is_plain_byte quote) bytes, is) in
    let passes : list_all (is_plain_byte quote) (take n bytes) ≡ true = subst (λ (k : ℕ). list_all (is_plain_byte quote) (take k bytes) ≡ true) (sym is) (run_passes (is_plain_byte quote) bytes) in
    let w : List ℕ = take n bytes in
    let ascii = left_all is_ascii (λ c. not (ends_plain quote c)) w passes in
    let front = front_of bytes head.0 n fits ascii head.2 in
    let tail = ascii_head front.more (drop 1 (drop n bytes)) quote begins.0 (front.rest ∙ begun quote (drop n bytes) ends) in
    let whole : text ≡ (quote ∷ w) ++ front.more = head.1 ∙ ap (λ (l : List ℕ). quote ∷ l) front.whole in
    let long : length (quote ∷ w) ≡ n + 1 = omega (arith, front.long) in
    let behind : drop (n + 1) text ≡ front.more = ap (drop (n + 1)) whole ∙ drop_at (quote ∷ w) front.more (n + 1) long in
    let reads : ReadsParts quote text (n + 1) w = (
      plainly w,
      whole ∙ (λ j. quote ∷ sym (written_plainly w) j ++ sym behind j),
      subst (λ (l : List ℕ). AreParts quote (plainly w) l) (sym behind) (all_plainly quote w front.more (right_all is_ascii (λ c. not (ends_plain quote c)) w passes)),
      sym (ap encode_utf8_all (values_plainly w) ∙ ascii_same w ascii),
    ) in
    let starts = starts_told Quote (quote ∷ bytes) text begins e in
    let closes : begins_with quote (drop (n + 1) text) ≡ true = ap (begins_with quote) (behind ∙ tail.1) ∙ eq-eqb quote quote refl in
    let within : n + 1 ≤ length text = omega (arith, ap length whole, length-append (quote ∷ w) front.more, long) in
    let read = string_read quote text (n + 1) w (quote_char quote begins.1) reads within closes in
    let two : n + 1 + 1 ≡ n + 2 = omega arith in
    let all : text ≡ (quote ∷ (w ++ quote ∷ [])) ++ tail.0 = whole ∙ (ap (λ (l : List ℕ). (quote ∷ w) ++ l) tail.1 ∙ ap (λ (l : List ℕ). quote ∷ l) (sym (append_assoc w (quote ∷ []) tail.0))) in
    let count : length (quote ∷ (w ++ quote ∷ [])) ≡ n + 2 = omega (arith, length-append w (quote ∷ []), front.long) in
    let code = ap encode_utf8_all (ap (take (n + 2)) all ∙ take_at (quote ∷ (w ++ quote ∷ [])) tail.0 (n + 2) count)
    ∙ ascii_same (quote ∷ (w ++ quote ∷ [])) (and_from (is_ascii quote) _ low (all_more w quote ascii low)) in
    (subst (λ (k : ℕ). IsRead text (Some (record { kind = Some (Str w); len = k }))) two (quote_some text (w, n + 1 + 1) starts read), ap length code ∙ count))

pub string_at : (bytes : List ℕ) (n : ℕ) → Begins Quote bytes → n ≡ prefix_len (is_plain_byte (get_or bytes 0 0)) (drop 1 bytes) → begins_with (get_or bytes 0 0) (drop n (drop 1 bytes)) ≡ true →
    Tells bytes (record { kind = Some (Str (take n (drop 1 bytes))); len = n + 2 })
string_at [] n begins is ends = absurd begins
string_at (quote ∷ bytes) n begins is ends = string_told quote bytes n begins is ends
