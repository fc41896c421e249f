-- A piece is of one kind.
use Rattle.std.proofs.Common.{◌≡◌, ◌≢◌, ℕ, ◌≤◌, true, List, [], ◌∷◌, ◌++◌, Option, Some, None, length, refl, sym, ap, ◌∙◌, subst, inl, inr, ◌⊎◌, ⊎_elim, length-append, arith}
use Rattle.std.specs.Str.{encode_utf8_all}
use Rattle.std.proofs.lemmas.Bool.{true≢false, cases_Bool}
use Rattle.js_token.specs.declared.token.TokenKind.{TokenKind}
use Rattle.js_token.specs.declared.token.TokenKind.TheVariants.{Name, Number, Str, Punct}
use Rattle.js_token.specs.declared.punct.Punct.{Punct as MarkType}
use Rattle.js_token.specs.declared.punct.Punct.TheVariants.{Dot as DotMark, Ellipsis, Slash as SlashMark}
use Rattle.js_token.specs.Marks.{spelling}
use Rattle.js_token.specs.Words.{is_whole}
use Rattle.lex_pieces.specs.Characters.{goes_on}
use Rattle.lex_pieces.specs.declared.start.Start.{Start}
use Rattle.lex_pieces.specs.declared.start.Start.TheVariants.{Blank, Digit, Dot, Slash, Mark}
use Rattle.lex_pieces.specs.Numbers.{IsNumber, IsMantissa}
use Rattle.lex_pieces.specs.Pieces.{IsPiece, IsBlank}
use Rattle.lex_pieces.specs.Starts.{start_of, Starts}
use Rattle.lex_pieces.specs.Reading.{number_len, based_len, plain_len, decimal_len, mantissa_len, whole_len, digits_len}
use Rattle.lex_pieces.proofs.Firsts.{CanStart, mark_start, first_of, at_start}
use Rattle.lex_pieces.proofs.Starting.{blank_starts, starts_at_47}
use Rattle.lex_pieces.proofs.MarkLemmas.{spelling_same}
use Rattle.lex_pieces.proofs.NumberLemmas.{number_bound}
use Rattle.lex_pieces.proofs.StringReads.{string_same}

some_length : (xs : List ℕ) → xs ≢ [] → 1 ≤ length xs
some_length [] some = absurd (some refl)
some_length (x ∷ xs) some = omega arith

whole_length : (w : List ℕ) → is_whole w ≡ true → 1 ≤ length w
whole_length [] h = absurd (true≢false (sym h))
whole_length (d ∷ ds) h = omega arith

-- a lone dot is no number
lone_mantissa : (m : List ℕ) → m ≡ 46 ∷ [] → IsMantissa m → ⊥
lone_mantissa m e (inl whole) = true≢false (sym whole ∙ ap is_whole e)
lone_mantissa m e (inr (inl (w, ds, whole, all, text))) =
    omega (arith, ap length e, ap length text, length-append (w ++ 46 ∷ []) ds, length-append w (46 ∷ []), whole_length w whole)
lone_mantissa m e (inr (inr (ds, digits, text))) = omega (arith, ap length e, ap length text, some_length ds digits.1)

lone_dot : (t r : List ℕ) → t ≡ 46 ∷ [] → IsNumber t r → ⊥
lone_dot t r e (inl (inl mantissa), stops) = lone_mantissa t e mantissa
lone_dot t r e (inl (inr (m, x, mantissa, (mark, sign, digits, is, which, all, text), whole)), stops) =
    omega (arith, ap length e, ap length whole, length-append m x, ap length text, length-append sign digits, some_length digits all.1)
lone_dot t r e (inr (letter, base, ds, letters, all, some, whole), stops) = omega (arith, ap length e, ap length whole)

-- two dots begin no number
two_dots : (r : List ℕ) → number_len (46 ∷ 46 ∷ r) ≡ 0
unfolding number_len based_len plain_len decimal_len mantissa_len whole_len digits_len
two_dots r =
    elim (cases_Bool (goes_on (46 ∷ 46 ∷ r))) [
      | inl e ↦ rw e refl
      | inr e ↦ rw e refl
    ]

mark_number : (mark : MarkType) (t r : List ℕ) → mark_start mark ≡ Dot → t ≡ spelling mark → IsNumber t r → ⊥
mark_number DotMark t r dot e number = lone_dot t r e number
mark_number Ellipsis t r dot e number =
    omega (arith, number_bound t r number, ap length e, ap (λ (l : List ℕ). number_len (l ++ r)) e, two_dots (46 ∷ r))
mark_number _ t r dot e number = cc

marks_start : (mark : MarkType) → (mark_start mark ≡ Dot) ⊎ ((mark_start mark ≡ Slash) ⊎ (mark_start mark ≡ Mark))
marks_start DotMark = inl refl
marks_start Ellipsis = inl refl
marks_start SlashMark = inr (inl refl)
marks_start _ = inr (inr refl)

slash_marks : (mark : MarkType) → mark_start mark ≡ Slash → length (spelling mark) ≤ 1
slash_marks SlashMark can = omega arith
slash_marks _ can = absurd (cc)

-- no mark is a blank
comment_mark : (mark : MarkType) (t r body : List ℕ) (second : ℕ) → t ≡ 47 ∷ second ∷ body → t ≡ spelling mark → ⊥
comment_mark mark t r body second whole e =
    let first = first_of (Some (Punct mark)) t r e in
    let same : 47 ≡ first.0 = let both : 47 ∷ second ∷ body ≡ first.0 ∷ first.1 = sym whole ∙ first.2 in cc in
    let slash : mark_start mark ≡ Slash = sym first.3 ∙ (ap start_of (sym same) ∙ starts_at_47) in
    omega (arith, slash_marks mark slash, ap length whole, ap length e)

blank_mark : (mark : MarkType) (t r : List ℕ) → IsBlank t r → t ≡ spelling mark → ⊥
blank_mark mark t r (inl (c, single, is)) e =
    let first = first_of (Some (Punct mark)) t r e in
    let same : c ≡ first.0 = let both : c ∷ [] ≡ first.0 ∷ first.1 = sym single ∙ first.2 in cc in
    let blank : mark_start mark ≡ Blank = sym first.3 ∙ (ap start_of (sym same) ∙ blank_starts c is) in
    ⊎_elim (λ h. cc) (λ h. ⊎_elim (λ i. cc) (λ i. cc) h) (marks_start mark)
blank_mark mark t r (inr (inl (body, whole, all, ends))) e = comment_mark mark t r body 47 whole e
blank_mark mark t r (inr (inr (body, whole, first))) e = comment_mark mark t r (body ++ 42 ∷ 47 ∷ []) 42 whole e

-- a number that a mark is
number_mark : (mark : MarkType) (s : Start) (t r : List ℕ) → (s ≡ Digit) ⊎ (s ≡ Dot) → s ≡ mark_start mark → IsNumber t r → t ≡ spelling mark → ⊥
number_mark mark s t r (inl digit) can number e = ⊎_elim (λ h. cc) (λ h. ⊎_elim (λ i. cc) (λ i. cc) h) (marks_start mark)
number_mark mark s t r (inr dot) can number e = mark_number mark t r (sym can ∙ dot) e number

same : (k k' : Option TokenKind) (s : Start) (t r : List ℕ) → CanStart k s → CanStart k' s → IsPiece k t r → IsPiece k' t r → k ≡ k'
same None None s t r can can' p q = refl
same None (Some (Name n)) s t r can can' p q = absurd (⊎_elim (λ h. cc) (λ h. cc) can)
same None (Some (Number n)) s t r can can' p q = absurd (⊎_elim (λ h. ⊎_elim (λ i. cc) (λ i. cc) can') (λ h. ⊎_elim (λ i. cc) (λ i. cc) can') can)
same None (Some (Str v)) s t r can can' p q = absurd (⊎_elim (λ h. cc) (λ h. cc) can)
same None (Some (Punct mark)) s t r can can' p q = absurd (blank_mark mark t r p q)
same (Some (Name n)) None s t r can can' p q = absurd (⊎_elim (λ h. cc) (λ h. cc) can')
same (Some (Name n)) (Some (Name m)) s t r can can' p q = ap (λ (b : List ℕ). Some (Name b)) (p.1 ∙ sym q.1)
same (Some (Name n)) (Some (Number m)) s t r can can' p q = absurd (⊎_elim (λ h. cc) (λ h. cc) can')
same (Some (Name n)) (Some (Str v)) s t r can can' p q = absurd (cc)
same (Some (Name n)) (Some (Punct mark)) s t r can can' p q = absurd (⊎_elim (λ h. cc) (λ h. ⊎_elim (λ i. cc) (λ i. cc) h) (marks_start mark))
same (Some (Number n)) None s t r can can' p q = absurd (⊎_elim (λ h. ⊎_elim (λ i. cc) (λ i. cc) can') (λ h. ⊎_elim (λ i. cc) (λ i. cc) can') can)
same (Some (Number n)) (Some (Name m)) s t r can can' p q = absurd (⊎_elim (λ h. cc) (λ h. cc) can)
same (Some (Number n)) (Some (Number m)) s t r can can' p q = ap (λ (b : List ℕ). Some (Number b)) (p.1 ∙ sym q.1)
same (Some (Number n)) (Some (Str v)) s t r can can' p q = absurd (⊎_elim (λ h. cc) (λ h. cc) can)
same (Some (Number n)) (Some (Punct mark)) s t r can can' p q = absurd (number_mark mark s t r can can' p.0 q)
same (Some (Str v)) None s t r can can' p q = absurd (⊎_elim (λ h. cc) (λ h. cc) can')
same (Some (Str v)) (Some (Name m)) s t r can can' p q = absurd (cc)
same (Some (Str v)) (Some (Number m)) s t r can can' p q = absurd (⊎_elim (λ h. cc) (λ h. cc) can')
same (Some (Str v)) (Some (Str w)) s t r can can' p q =
    let both = string_same t p.0 r t q.0 r p.1 q.1 refl in
    ap (λ (b : List ℕ). Some (Str b)) (p.2 ∙ (ap encode_utf8_all both.1 ∙ sym q.2))
same (Some (Str v)) (Some (Punct mark)) s t r can can' p q = absurd (⊎_elim (λ h. cc) (λ h. ⊎_elim (λ i. cc) (λ i. cc) h) (marks_start mark))
same (Some (Punct mark)) None s t r can can' p q = absurd (blank_mark mark t r q p)
same (Some (Punct mark)) (Some (Name m)) s t r can can' p q = absurd (⊎_elim (λ h. cc) (λ h. ⊎_elim (λ i. cc) (λ i. cc) h) (marks_start mark))
same (Some (Punct mark)) (Some (Number m)) s t r can can' p q = absurd (number_mark mark s t r can' can q.0 p)
same (Some (Punct mark)) (Some (Str w)) s t r can can' p q = absurd (⊎_elim (λ h. cc) (λ h. ⊎_elim (λ i. cc) (λ i. cc) h) (marks_start mark))
same (Some (Punct mark)) (Some (Punct other)) s t r can can' p q = ap (λ (m : MarkType). Some (Punct m)) (spelling_same mark other (sym p ∙ q))

pub one_kind : (k k' : Option TokenKind) (t r : List ℕ) → IsPiece k t r → IsPiece k' t r → k ≡ k'
one_kind k k' t r p q =
    let first = first_of k t r p in
    let starts : Starts (start_of first.0) (t ++ r) = subst (λ (l : List ℕ). Starts (start_of first.0) (l ++ r)) (sym first.2) refl in
    same k k' (start_of first.0) t r first.3 (at_start (start_of first.0) (t ++ r) starts k' t r refl q) p q
