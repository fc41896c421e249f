-- What begins a piece of each kind, and so what can begin where a character stands.
use Rattle.std.proofs.Common.{◌≡◌, ℕ, true, eqb, List, [], ◌∷◌, ◌++◌, Option, Some, None, refl, sym, ap, ◌∙◌, subst, inl, inr, ◌⊎◌}
use Rattle.std.specs.List.{list_all}
use Rattle.std.specs.Char.{is_ascii_digit}
use Rattle.std.proofs.lemmas.Bool.{and_parts, or_cases, cases_Bool, eqb-true, true≢false}
use Rattle.js_token.specs.declared.token.TokenKind.{TokenKind}
use Rattle.js_token.specs.declared.token.TokenKind.TheVariants.{Name, Number, Str, Punct}
use Rattle.js_token.specs.declared.punct.Punct.{Punct as MarkType}
use Rattle.js_token.specs.declared.punct.Punct.TheVariants.{OpenBrace, CloseBrace, OpenParen, CloseParen, OpenBracket, CloseBracket, Dot as DotMark, Ellipsis, Comma, Semicolon, Colon, Question, QuestionQuestion, Arrow, Assign, StrictEqual, StrictNotEqual, LooseEqual, LooseNotEqual, LessThan, GreaterThan, LessOrEqual, GreaterOrEqual, Plus, PlusPlus, Minus, MinusMinus, Star, Slash as SlashMark, Percent, Bang, AndAnd, OrOr, Bar}
use Rattle.js_token.specs.Marks.{spelling}
use Rattle.js_token.specs.Words.{is_whole}
use Rattle.lex_pieces.specs.declared.start.Start.{Start}
use Rattle.lex_pieces.specs.declared.start.Start.TheVariants.{Blank, Word, Digit, Quote, Dot, Slash, Mark}
use Rattle.lex_pieces.specs.Characters.{is_quote}
use Rattle.lex_pieces.specs.Numbers.{IsNumber, IsMantissa}
use Rattle.lex_pieces.specs.Pieces.{IsPiece, IsBlank, IsWord}
use Rattle.lex_pieces.specs.Starts.{start_of, Starts}
use Rattle.lex_pieces.proofs.Starting.{blank_starts, word_starts, digit_starts, starts_at_39, starts_at_34, starts_at_33, starts_at_37, starts_at_38, starts_at_40, starts_at_41, starts_at_42, starts_at_43, starts_at_44, starts_at_45, starts_at_46, starts_at_47, starts_at_58, starts_at_59, starts_at_60, starts_at_61, starts_at_62, starts_at_63, starts_at_91, starts_at_93, starts_at_123, starts_at_124, starts_at_125}

-- what a mark begins with
abbrev pub mark_start : MarkType → Start
mark_start OpenBrace = Mark
mark_start CloseBrace = Mark
mark_start OpenParen = Mark
mark_start CloseParen = Mark
mark_start OpenBracket = Mark
mark_start CloseBracket = Mark
mark_start DotMark = Dot
mark_start Ellipsis = Dot
mark_start Comma = Mark
mark_start Semicolon = Mark
mark_start Colon = Mark
mark_start Question = Mark
mark_start QuestionQuestion = Mark
mark_start Arrow = Mark
mark_start Assign = Mark
mark_start StrictEqual = Mark
mark_start StrictNotEqual = Mark
mark_start LooseEqual = Mark
mark_start LooseNotEqual = Mark
mark_start LessThan = Mark
mark_start GreaterThan = Mark
mark_start LessOrEqual = Mark
mark_start GreaterOrEqual = Mark
mark_start Plus = Mark
mark_start PlusPlus = Mark
mark_start Minus = Mark
mark_start MinusMinus = Mark
mark_start Star = Mark
mark_start SlashMark = Slash
mark_start Percent = Mark
mark_start Bang = Mark
mark_start AndAnd = Mark
mark_start OrOr = Mark
mark_start Bar = Mark

-- a piece of the kind may begin so
abbrev pub CanStart : Option TokenKind → Start → Type 0
CanStart None s = (s ≡ Blank) ⊎ (s ≡ Slash)
CanStart (Some (Name name)) s = s ≡ Word
CanStart (Some (Number number)) s = (s ≡ Digit) ⊎ (s ≡ Dot)
CanStart (Some (Str value)) s = s ≡ Quote
CanStart (Some (Punct mark)) s = s ≡ mark_start mark

-- the text begins as a piece of the kind may
abbrev pub Begins : Option TokenKind → List ℕ → Type 0
Begins k text = (c : ℕ) × (cs : List ℕ) × (text ≡ c ∷ cs) × CanStart k (start_of c)

mark_first : (mark : MarkType) → Begins (Some (Punct mark)) (spelling mark)
mark_first OpenBrace = (123, [], refl, starts_at_123)
mark_first CloseBrace = (125, [], refl, starts_at_125)
mark_first OpenParen = (40, [], refl, starts_at_40)
mark_first CloseParen = (41, [], refl, starts_at_41)
mark_first OpenBracket = (91, [], refl, starts_at_91)
mark_first CloseBracket = (93, [], refl, starts_at_93)
mark_first DotMark = (46, [], refl, starts_at_46)
mark_first Ellipsis = (46, 46 ∷ 46 ∷ [], refl, starts_at_46)
mark_first Comma = (44, [], refl, starts_at_44)
mark_first Semicolon = (59, [], refl, starts_at_59)
mark_first Colon = (58, [], refl, starts_at_58)
mark_first Question = (63, [], refl, starts_at_63)
mark_first QuestionQuestion = (63, 63 ∷ [], refl, starts_at_63)
mark_first Arrow = (61, 62 ∷ [], refl, starts_at_61)
mark_first Assign = (61, [], refl, starts_at_61)
mark_first StrictEqual = (61, 61 ∷ 61 ∷ [], refl, starts_at_61)
mark_first StrictNotEqual = (33, 61 ∷ 61 ∷ [], refl, starts_at_33)
mark_first LooseEqual = (61, 61 ∷ [], refl, starts_at_61)
mark_first LooseNotEqual = (33, 61 ∷ [], refl, starts_at_33)
mark_first LessThan = (60, [], refl, starts_at_60)
mark_first GreaterThan = (62, [], refl, starts_at_62)
mark_first LessOrEqual = (60, 61 ∷ [], refl, starts_at_60)
mark_first GreaterOrEqual = (62, 61 ∷ [], refl, starts_at_62)
mark_first Plus = (43, [], refl, starts_at_43)
mark_first PlusPlus = (43, 43 ∷ [], refl, starts_at_43)
mark_first Minus = (45, [], refl, starts_at_45)
mark_first MinusMinus = (45, 45 ∷ [], refl, starts_at_45)
mark_first Star = (42, [], refl, starts_at_42)
mark_first SlashMark = (47, [], refl, starts_at_47)
mark_first Percent = (37, [], refl, starts_at_37)
mark_first Bang = (33, [], refl, starts_at_33)
mark_first AndAnd = (38, 38 ∷ [], refl, starts_at_38)
mark_first OrOr = (124, 124 ∷ [], refl, starts_at_124)
mark_first Bar = (124, [], refl, starts_at_124)

blank_first : (text rest : List ℕ) → IsBlank text rest → Begins None text
blank_first text rest (inl (c, whole, is)) = (c, [], whole, inl (blank_starts c is))
blank_first text rest (inr (inl (body, whole, all, ends))) = (47, 47 ∷ body, whole, inr starts_at_47)
blank_first text rest (inr (inr (body, whole, first))) = (47, 42 ∷ body ++ 42 ∷ 47 ∷ [], whole, inr starts_at_47)

word_first : (text : List ℕ) → IsWord text → (c : ℕ) × (cs : List ℕ) × (text ≡ c ∷ cs) × (start_of c ≡ Word)
word_first text (c, cs, whole, is, all) = (c, cs, whole, word_starts c is)

-- the first character of a number
abbrev NumberBegins : List ℕ → Type 0
NumberBegins text = (c : ℕ) × (cs : List ℕ) × (text ≡ c ∷ cs) × ((start_of c ≡ Digit) ⊎ (start_of c ≡ Dot))

whole_first : (w : List ℕ) → is_whole w ≡ true → (c : ℕ) × (cs : List ℕ) × (w ≡ c ∷ cs) × (is_ascii_digit c ≡ true)
whole_first [] h = absurd (true≢false (sym h))
whole_first (d ∷ ds) h =
    elim (cases_Bool (eqb d 48)) [
      | inl e ↦ (d, ds, refl, subst (λ (k : ℕ). is_ascii_digit k ≡ true) (sym (eqb-true d 48 e)) refl)
      | inr e ↦
          let all : list_all is_ascii_digit (d ∷ ds) ≡ true = rw e at h in
          (d, ds, refl, (and_parts (is_ascii_digit d) (list_all is_ascii_digit ds) all).0)
    ]

mantissa_first : (m : List ℕ) → IsMantissa m → NumberBegins m
mantissa_first m (inl whole) = let first = whole_first m whole in (first.0, first.1, first.2, inl (digit_starts first.0 first.3))
mantissa_first m (inr (inl (w, ds, whole, all, text))) =
    let first = whole_first w whole in
    (first.0, first.1 ++ 46 ∷ [] ++ ds, text ∙ ap (λ (l : List ℕ). l ++ 46 ∷ [] ++ ds) first.2, inl (digit_starts first.0 first.3))
mantissa_first m (inr (inr (ds, digits, text))) = (46, ds, text, inr starts_at_46)

number_first : (text rest : List ℕ) → IsNumber text rest → NumberBegins text
number_first text rest (inl (inl mantissa), stops) = mantissa_first text mantissa
number_first text rest (inl (inr (m, e, mantissa, exponent, whole)), stops) =
    let first = mantissa_first m mantissa in
    (first.0, first.1 ++ e, whole ∙ ap (λ (l : List ℕ). l ++ e) first.2, first.3)
number_first text rest (inr (letter, base, ds, letters, all, some, whole), stops) = (48, letter ∷ ds, whole, inl (digit_starts 48 refl))

quote_first : (c : ℕ) → is_quote c ≡ true → start_of c ≡ Quote
quote_first c h =
    elim (or_cases (eqb c 39) (eqb c 34) h) [
      | inl e ↦ ap start_of (eqb-true c 39 e) ∙ starts_at_39
      | inr e ↦ ap start_of (eqb-true c 34 e) ∙ starts_at_34
    ]

pub first_of : (k : Option TokenKind) (text rest : List ℕ) → IsPiece k text rest → Begins k text
first_of None text rest piece = blank_first text rest piece
first_of (Some (Name name)) text rest piece = word_first text piece.0
first_of (Some (Number number)) text rest piece = number_first text rest piece.0
first_of (Some (Str value)) text rest (decoded, (quote, parts, is, all, whole, values), same) = (quote, _, whole, quote_first quote is)
first_of (Some (Punct mark)) text rest piece = let first = mark_first mark in (first.0, first.1, piece ∙ first.2, first.3)

-- what a piece at the front of a text can be
pub at_start : (s : Start) (text : List ℕ) → Starts s text → (k : Option TokenKind) (t r : List ℕ) → text ≡ t ++ r → IsPiece k t r → CanStart k s
at_start s [] starts k t r e piece = absurd starts
at_start s (x ∷ xs) starts k t r e piece =
    let first = first_of k t r piece in
    let whole : x ∷ xs ≡ first.0 ∷ (first.1 ++ r) = e ∙ ap (λ l. l ++ r) first.2 in
    let same : x ≡ first.0 = cc in
    subst (λ (z : Start). CanStart k z) (ap start_of (sym same) ∙ starts) first.3
