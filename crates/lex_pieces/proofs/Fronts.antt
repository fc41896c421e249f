-- What is read at the front of a text is the longest piece there.
use Rattle.std.proofs.Common.{◌≡◌, ℕ, suc, ◌<◌, ◌≤◌, Bool, true, false, cond, ◌||◌, eqb, List, [], ◌∷◌, ◌++◌, Option, Some, None, length, get_or, take, drop, refl, sym, ap, ◌∙◌, subst, inl, inr, ◌⊎◌, ⊎_elim, length-append, arith}
use Rattle.std.specs.List.{list_all, prefix_len}
use Rattle.std.specs.Option.{option_map}
use Rattle.std.proofs.lemmas.Bool.{and_from, cases_Bool, or_cases, eqb-true, eq-eqb, or_left, or_right}
use Rattle.std.proofs.lemmas.List.{take-append-drop, take_at, length-take-le}
use Rattle.std.proofs.lemmas.List.Sums.{prefix_len-le-length}
use Rattle.unicode_ident.specs.Ident.{is_xid_start}
use Rattle.lex_pieces.specs.Numbers.{IsNumber}
use Rattle.unicode_ident.proofs.IdentLemmas.{is_xid_start-is_xid_continue}
use Rattle.js_token.specs.declared.token.TokenKind.{TokenKind}
use Rattle.js_token.specs.declared.token.TokenKind.TheVariants.{Name, Number, Str, Punct}
use Rattle.js_token.specs.declared.punct.Punct.{Punct as MarkType}
use Rattle.js_token.specs.declared.punct.Punct.TheVariants.{Dot as DotMark, Ellipsis, Slash as SlashMark}
use Rattle.js_token.specs.Marks.{spelling}
use Rattle.lex_pieces.specs.declared.piece.Piece.{Piece}
use Rattle.lex_pieces.specs.declared.start.Start.{Start}
use Rattle.lex_pieces.specs.declared.start.Start.TheVariants.{Blank, Word, Digit, Quote, Dot, Slash, Mark}
use Rattle.lex_pieces.specs.Characters.{is_blank_char, is_quote, goes_on}
use Rattle.source_characters.specs.Words.{starts_word, continues_word}
use Rattle.lex_pieces.specs.Starts.{start_of, Starts}
use Rattle.lex_pieces.specs.Pieces.{IsPiece, IsBlank, BeginsNoPiece}
use Rattle.lex_pieces.specs.Strings.{IsStringRead, starts_with_digit}
use Rattle.lex_pieces.specs.Marks.{mark_at}
use Rattle.lex_pieces.specs.Comments.{comment_len}
use Rattle.lex_pieces.specs.Escapes.{begins_with}
use Rattle.lex_pieces.specs.Reading.{number_len, based_len, plain_len, decimal_len, mantissa_len, whole_len, digits_len}
use Rattle.lex_pieces.specs.Read.{IsRead, blank_piece, word_piece, number_piece, mark_piece}
use Rattle.lex_pieces.proofs.Runs.{run_least, run_passes, run_front}
use Rattle.lex_pieces.proofs.Starting.{starts_at_47, blank_starts}
use Rattle.lex_pieces.proofs.Firsts.{CanStart, mark_start, first_of, at_start}
use Rattle.lex_pieces.proofs.NumberLemmas.{number_bound, number_sound}
use Rattle.lex_pieces.proofs.MarkLemmas.{mark_found, mark_sound, Finds}
use Rattle.lex_pieces.proofs.CommentLemmas.{line_exact, block_exact, comment_sound}
use Rattle.lex_pieces.proofs.StringReads.{string_same}

-- WHAT A CHARACTER BEGINS
abbrev chain : Bool → Bool → Bool → Bool → Bool → Bool → Start
chain a b d q o s = cond a Blank (cond b Word (cond d Digit (cond q Quote (cond o Dot (cond s Slash Mark)))))

blank_in : (a b d q o s : Bool) → chain a b d q o s ≡ Blank → a ≡ true
blank_in true b d q o s h = refl
blank_in false true d q o s h = absurd (cc)
blank_in false false true q o s h = absurd (cc)
blank_in false false false true o s h = absurd (cc)
blank_in false false false false true s h = absurd (cc)
blank_in false false false false false true h = absurd (cc)
blank_in false false false false false false h = absurd (cc)

word_in : (a b d q o s : Bool) → chain a b d q o s ≡ Word → b ≡ true
word_in true b d q o s h = absurd (cc)
word_in false true d q o s h = refl
word_in false false true q o s h = absurd (cc)
word_in false false false true o s h = absurd (cc)
word_in false false false false true s h = absurd (cc)
word_in false false false false false true h = absurd (cc)
word_in false false false false false false h = absurd (cc)

quote_in : (a b d q o s : Bool) → chain a b d q o s ≡ Quote → q ≡ true
quote_in true b d q o s h = absurd (cc)
quote_in false true d q o s h = absurd (cc)
quote_in false false true q o s h = absurd (cc)
quote_in false false false true o s h = refl
quote_in false false false false true s h = absurd (cc)
quote_in false false false false false true h = absurd (cc)
quote_in false false false false false false h = absurd (cc)

dot_in : (a b d q o s : Bool) → chain a b d q o s ≡ Dot → o ≡ true
dot_in true b d q o s h = absurd (cc)
dot_in false true d q o s h = absurd (cc)
dot_in false false true q o s h = absurd (cc)
dot_in false false false true o s h = absurd (cc)
dot_in false false false false true s h = refl
dot_in false false false false false true h = absurd (cc)
dot_in false false false false false false h = absurd (cc)

slash_in : (a b d q o s : Bool) → chain a b d q o s ≡ Slash → s ≡ true
slash_in true b d q o s h = absurd (cc)
slash_in false true d q o s h = absurd (cc)
slash_in false false true q o s h = absurd (cc)
slash_in false false false true o s h = absurd (cc)
slash_in false false false false true s h = absurd (cc)
slash_in false false false false false true h = refl
slash_in false false false false false false h = absurd (cc)

blank_char : (c : ℕ) → start_of c ≡ Blank → is_blank_char c ≡ true
unfolding start_of
blank_char c h = blank_in _ _ _ _ _ _ h

word_char : (c : ℕ) → start_of c ≡ Word → starts_word c ≡ true
unfolding start_of
word_char c h = word_in _ _ _ _ _ _ h

pub quote_char : (c : ℕ) → start_of c ≡ Quote → is_quote c ≡ true
unfolding start_of
quote_char c h = quote_in _ _ _ _ _ _ h

pub slash_char : (c : ℕ) → start_of c ≡ Slash → c ≡ 47
unfolding start_of
slash_char c h = eqb-true c 47 (slash_in _ _ _ _ _ _ h)

pub dot_char : (c : ℕ) → start_of c ≡ Dot → c ≡ 46
unfolding start_of
dot_char c h = eqb-true c 46 (dot_in _ _ _ _ _ _ h)

-- THE LONGEST PIECE
longest_from : (text : List ℕ) (piece : Piece) → 0 < piece.len → piece.len ≤ length text →
    IsPiece piece.kind (take piece.len text) (drop piece.len text) →
    ((k : Option TokenKind) (t r : List ℕ) → text ≡ t ++ r → IsPiece k t r → length t ≤ piece.len) → IsRead text (Some piece)
longest_from text piece some fits is bound = (
  some,
  fits,
  record {
    piece = is;
    longest = λ k t r e p.
        let below = bound k t r (sym (take-append-drop piece.len text) ∙ e) p in
        omega (arith, below, length-take-le piece.len text fits);
  },
)

not_empty : (k : Option TokenKind) (t r : List ℕ) → IsPiece k t r → 0 < length t
not_empty k t r p = let first = first_of k t r p in omega (arith, ap length first.2)

abbrev mark_of : Option (MarkType × ℕ) → Option Piece
mark_of o = option_map (λ mark. record { kind = Some (Punct mark.0); len = mark.1 }) o

spelling_some : (mark : MarkType) → 0 < length (spelling mark)
spelling_some mark = omega (arith, not_empty (Some (Punct mark)) (spelling mark) [] refl)

-- a mark begins with a dot, a slash or another character
marks_start : (mark : MarkType) → (mark_start mark ≡ Dot) ⊎ ((mark_start mark ≡ Slash) ⊎ (mark_start mark ≡ Mark))
marks_start DotMark = inl refl
marks_start Ellipsis = inl refl
marks_start SlashMark = inr (inl refl)
marks_start _ = inr (inr refl)

-- BLANKS AND WORDS
-- a comment begins with a slash
comment_slash : (c : ℕ) (cs : List ℕ) → 47 ≡ c → start_of c ≡ Slash
comment_slash c cs e = ap start_of (sym e) ∙ starts_at_47

blank_bound : (text : List ℕ) → Starts Blank text → (k : Option TokenKind) (t r : List ℕ) → text ≡ t ++ r → CanStart k Blank → IsPiece k t r → length t ≤ 1
blank_bound [] starts k t r e can p = absurd starts
blank_bound (x ∷ xs) starts None t r e can (inl (c, whole, is)) = omega (arith, ap length whole)
blank_bound (x ∷ xs) starts None t r e can (inr (inl (body, whole, all, ends))) =
    let front : x ∷ xs ≡ 47 ∷ (47 ∷ body ++ r) = e ∙ ap (λ l. l ++ r) whole in
    let same : 47 ≡ x = cc in
    absurd (let clash : Blank ≡ Slash = sym starts ∙ comment_slash x xs same in cc)
blank_bound (x ∷ xs) starts None t r e can (inr (inr (body, whole, first))) =
    let front : x ∷ xs ≡ 47 ∷ (42 ∷ (body ++ 42 ∷ 47 ∷ []) ++ r) = e ∙ ap (λ l. l ++ r) whole in
    let same : 47 ≡ x = cc in
    absurd (let clash : Blank ≡ Slash = sym starts ∙ comment_slash x xs same in cc)
blank_bound (x ∷ xs) starts (Some (Name name)) t r e can p = absurd (cc)
blank_bound (x ∷ xs) starts (Some (Number number)) t r e can p = absurd (⊎_elim (λ h. cc) (λ h. cc) can)
blank_bound (x ∷ xs) starts (Some (Str value)) t r e can p = absurd (cc)
blank_bound (x ∷ xs) starts (Some (Punct mark)) t r e can p = absurd (⊎_elim (λ h. cc) (λ h. ⊎_elim (λ i. cc) (λ i. cc) h) (marks_start mark))

pub blank_read : (text : List ℕ) → Starts Blank text → IsRead text (Some (blank_piece 1))
blank_read [] starts = absurd starts
blank_read (c ∷ cs) starts =
    longest_from (c ∷ cs) (blank_piece 1) (omega arith) (omega arith) (inl (c, refl, blank_char c starts))
    (λ k t r e p. blank_bound (c ∷ cs) starts k t r e (at_start Blank (c ∷ cs) starts k t r e p) p)

goes_from_start : (c : ℕ) → starts_word c ≡ true → continues_word c ≡ true
goes_from_start c h =
    elim (or_cases (eqb c 36 || eqb c 95) (is_xid_start c) h) [
      | inl e ↦ or_left _ _ e
      | inr e ↦ or_right _ _ (is_xid_start-is_xid_continue c e)
    ]

word_bound : (k : Option TokenKind) (t r : List ℕ) → CanStart k Word → IsPiece k t r → length t ≤ prefix_len continues_word (t ++ r)
word_bound None t r can p = absurd (⊎_elim (λ h. cc) (λ h. cc) can)
word_bound (Some (Name name)) t r can ((c, cs, whole, is, all), same) =
    run_least continues_word t r (ap (list_all continues_word) whole ∙ and_from (continues_word c) _ (goes_from_start c is) all)
word_bound (Some (Number number)) t r can p = absurd (⊎_elim (λ h. cc) (λ h. cc) can)
word_bound (Some (Str value)) t r can p = absurd (cc)
word_bound (Some (Punct mark)) t r can p = absurd (⊎_elim (λ h. cc) (λ h. ⊎_elim (λ i. cc) (λ i. cc) h) (marks_start mark))

pub word_read : (text : List ℕ) (n : ℕ) → Starts Word text → n ≡ prefix_len continues_word text → IsRead text (Some (word_piece text n))
word_read [] n starts e = absurd starts
word_read (c ∷ cs) n starts e =
    let is = word_char c starts in
    let front : n ≡ suc (prefix_len continues_word cs) = e ∙ run_front continues_word c cs (goes_from_start c is) in
    longest_from (c ∷ cs) (word_piece (c ∷ cs) n) (omega arith) (omega (arith, prefix_len-le-length continues_word (c ∷ cs)))
    ((c, take (prefix_len continues_word cs) cs, ap (λ k. take k (c ∷ cs)) front, is, run_passes continues_word cs), refl)
    (λ k t r whole p.
    let below = word_bound k t r (at_start Word (c ∷ cs) starts k t r whole p) p in
    omega (arith, below, e, ap (prefix_len continues_word) whole))

-- NUMBERS
digit_bound : (k : Option TokenKind) (t r : List ℕ) → CanStart k Digit → IsPiece k t r → length t ≤ number_len (t ++ r)
digit_bound None t r can p = absurd (⊎_elim (λ h. cc) (λ h. cc) can)
digit_bound (Some (Name name)) t r can p = absurd (cc)
digit_bound (Some (Number number)) t r can p = number_bound t r p.0
digit_bound (Some (Str value)) t r can p = absurd (cc)
digit_bound (Some (Punct mark)) t r can p = absurd (⊎_elim (λ h. cc) (λ h. ⊎_elim (λ i. cc) (λ i. cc) h) (marks_start mark))

pub digit_some : (text : List ℕ) (n : ℕ) → Starts Digit text → n ≡ number_len text → (n ≡ 0 → ⊥) → n ≤ length text → IsRead text (Some (number_piece text n))
digit_some text n starts e some fits =
    longest_from text (number_piece text n) (omega arith) fits
    (subst (λ (k : ℕ). IsNumber (take k text) (drop k text)) (sym e) (number_sound text (λ z. some (e ∙ z))), refl)
    (λ k t r whole p. let below = digit_bound k t r (at_start Digit text starts k t r whole p) p in omega (arith, below, e, ap number_len whole))

pub digit_none : (text : List ℕ) → Starts Digit text → number_len text ≡ 0 → BeginsNoPiece text
digit_none text starts none k t r whole p =
    let below = digit_bound k t r (at_start Digit text starts k t r whole p) p in
    omega (arith, below, none, ap number_len whole, not_empty k t r p)

-- MARKS
-- where each piece that begins there is a mark, the longest mark is read
only_marks : (text : List ℕ) → ((k : Option TokenKind) (t r : List ℕ) → text ≡ t ++ r → IsPiece k t r → (mark : MarkType) × (k ≡ Some (Punct mark))) → IsRead text (mark_piece text)
only_marks text only = at (mark_at text) refl
  where
    found : (k : Option TokenKind) (t r : List ℕ) → text ≡ t ++ r → IsPiece k t r → Finds (mark_at text) (length t)
    found k t r whole p =
        let which = only k t r whole p in
        let same : t ≡ spelling which.0 = subst (λ x. IsPiece x t r) which.1 p in
        subst (λ l. Finds (mark_at text) (length l)) (sym same) (subst (λ l. Finds (mark_at l) (length (spelling which.0))) (sym (whole ∙ ap (λ l. l ++ r) same)) (mark_found which.0 r))

    at : (o : Option (MarkType × ℕ)) → mark_at text ≡ o → IsRead text (mark_of o)
    at None is = λ k t r whole p. let f = found k t r whole p in absurd (let clash : None ≡ Some (f.0, f.1) = sym is ∙ f.2 in cc)
    at (Some mark) is =
        let sound = mark_sound text mark.0 mark.1 is in
        let size : mark.1 ≡ length (spelling mark.0) = sound.1 in
        longest_from text (record { kind = Some (Punct mark.0); len = mark.1 }) (omega (arith, size, spelling_some mark.0))
        (omega (arith, ap length sound.0, length-append (spelling mark.0) (drop mark.1 text), size))
        (ap (take mark.1) sound.0 ∙ take_at (spelling mark.0) (drop mark.1 text) mark.1 (sym size))
        (λ k t r whole p.
        let f = found k t r whole p in
        let both : Some (f.0, f.1) ≡ Some mark = sym f.2 ∙ is in
        let pair : ◌≡◌ {A = MarkType × ℕ} (f.0, f.1) mark = cc in
        omega (arith, f.3, ap (λ (z : MarkType × ℕ). z.1) pair))

mark_only : (k : Option TokenKind) (t r : List ℕ) → CanStart k Mark → IsPiece k t r → (mark : MarkType) × (k ≡ Some (Punct mark))
mark_only None t r can p = absurd (⊎_elim (λ h. cc) (λ h. cc) can)
mark_only (Some (Name name)) t r can p = absurd (cc)
mark_only (Some (Number number)) t r can p = absurd (⊎_elim (λ h. cc) (λ h. cc) can)
mark_only (Some (Str value)) t r can p = absurd (cc)
mark_only (Some (Punct mark)) t r can p = (mark, refl)

pub mark_read : (text : List ℕ) → Starts Mark text → IsRead text (mark_piece text)
mark_read text starts = only_marks text (λ k t r whole p. mark_only k t r (at_start Mark text starts k t r whole p) p)

dot_only : (text : List ℕ) → number_len text ≡ 0 → (k : Option TokenKind) (t r : List ℕ) → text ≡ t ++ r → CanStart k Dot → IsPiece k t r → (mark : MarkType) × (k ≡ Some (Punct mark))
dot_only text none None t r whole can p = absurd (⊎_elim (λ h. cc) (λ h. cc) can)
dot_only text none (Some (Name name)) t r whole can p = absurd (cc)
dot_only text none (Some (Number number)) t r whole can p =
    absurd (omega (arith, number_bound t r p.0, none, ap number_len whole, not_empty (Some (Number number)) t r p))
dot_only text none (Some (Str value)) t r whole can p = absurd (cc)
dot_only text none (Some (Punct mark)) t r whole can p = (mark, refl)

pub dot_mark : (text : List ℕ) → Starts Dot text → number_len text ≡ 0 → IsRead text (mark_piece text)
dot_mark text starts none = only_marks text (λ k t r whole p. dot_only text none k t r whole (at_start Dot text starts k t r whole p) p)

-- two dots begin no number
two_dots : (r : List ℕ) → number_len (46 ∷ 46 ∷ r) ≡ 0
unfolding number_len based_len plain_len decimal_len mantissa_len whole_len digits_len
two_dots r =
    elim (cases_Bool (goes_on (46 ∷ 46 ∷ r))) [
      | inl e ↦ rw e refl
      | inr e ↦ rw e refl
    ]

-- nor does a dot before what is no digit
pub dot_alone : (more : List ℕ) → starts_with_digit more ≡ false → number_len (46 ∷ more) ≡ 0
unfolding number_len based_len plain_len decimal_len mantissa_len whole_len digits_len
dot_alone [] h =
    elim (cases_Bool (goes_on (46 ∷ []))) [
      | inl e ↦ rw e refl
      | inr e ↦ rw e refl
    ]
dot_alone (c ∷ more) h =
    elim (cases_Bool (goes_on (46 ∷ c ∷ more))) [
      | inl e ↦ rw h (rw e refl)
      | inr e ↦ rw h (rw e refl)
    ]

dot_marks : (mark : MarkType) (r : List ℕ) → Dot ≡ mark_start mark → (number_len (spelling mark ++ r) ≡ 0 → ⊥) → length (spelling mark) ≤ 1
dot_marks DotMark r can some = omega arith
dot_marks Ellipsis r can some = absurd (some (two_dots (46 ∷ r)))
dot_marks _ r can some = absurd (cc)

dot_bound : (text : List ℕ) → (number_len text ≡ 0 → ⊥) → (k : Option TokenKind) (t r : List ℕ) → text ≡ t ++ r → CanStart k Dot → IsPiece k t r → length t ≤ number_len text
dot_bound text some None t r whole can p = absurd (⊎_elim (λ h. cc) (λ h. cc) can)
dot_bound text some (Some (Name name)) t r whole can p = absurd (cc)
dot_bound text some (Some (Number number)) t r whole can p = omega (arith, number_bound t r p.0, ap number_len whole)
dot_bound text some (Some (Str value)) t r whole can p = absurd (cc)
dot_bound text some (Some (Punct mark)) t r whole can p =
    let short = dot_marks mark r can (λ z. some (ap number_len (whole ∙ ap (λ l. l ++ r) p) ∙ z)) in
    let there : 0 < number_len text = omega arith in
    omega (arith, short, ap length p, there)

pub dot_some : (text : List ℕ) (n : ℕ) → Starts Dot text → n ≡ number_len text → (n ≡ 0 → ⊥) → n ≤ length text → IsRead text (Some (number_piece text n))
dot_some text n starts e some fits =
    longest_from text (number_piece text n) (omega arith) fits
    (subst (λ (k : ℕ). IsNumber (take k text) (drop k text)) (sym e) (number_sound text (λ z. some (e ∙ z))), refl)
    (λ k t r whole p. let below = dot_bound text (λ z. some (e ∙ z)) k t r whole (at_start Dot text starts k t r whole p) p in omega (arith, below, e))

-- COMMENTS
-- a blank that begins with a slash is a comment, which is read whole
blank_comment : (text : List ℕ) → Starts Slash text → (t r : List ℕ) → text ≡ t ++ r → IsBlank t r → comment_len text ≡ Some (length t)
blank_comment [] starts t r whole p = absurd starts
blank_comment (x ∷ xs) starts t r whole (inl (c, single, is)) =
    let front : x ∷ xs ≡ c ∷ r = whole ∙ ap (λ l. l ++ r) single in
    let same : c ≡ x = cc in
    absurd (let clash : Blank ≡ Slash = sym (blank_starts c is) ∙ (ap start_of same ∙ starts) in cc)
blank_comment (x ∷ xs) starts t r whole (inr (inl line)) = ap comment_len whole ∙ line_exact t r line
blank_comment (x ∷ xs) starts t r whole (inr (inr block)) = ap comment_len whole ∙ block_exact t r block

slash_only : (text : List ℕ) → Starts Slash text → comment_len text ≡ None → (k : Option TokenKind) (t r : List ℕ) → text ≡ t ++ r → CanStart k Slash → IsPiece k t r → (mark : MarkType) × (k ≡ Some (Punct mark))
slash_only text starts none None t r whole can p = absurd (let clash : None ≡ Some (length t) = sym none ∙ blank_comment text starts t r whole p in cc)
slash_only text starts none (Some (Name name)) t r whole can p = absurd (cc)
slash_only text starts none (Some (Number number)) t r whole can p = absurd (⊎_elim (λ h. cc) (λ h. cc) can)
slash_only text starts none (Some (Str value)) t r whole can p = absurd (cc)
slash_only text starts none (Some (Punct mark)) t r whole can p = (mark, refl)

pub slash_mark : (text : List ℕ) → Starts Slash text → comment_len text ≡ None → IsRead text (mark_piece text)
slash_mark text starts none = only_marks text (λ k t r whole p. slash_only text starts none k t r whole (at_start Slash text starts k t r whole p) p)

slash_marks : (mark : MarkType) → Slash ≡ mark_start mark → length (spelling mark) ≤ 1
slash_marks SlashMark can = omega arith
slash_marks _ can = absurd (cc)

slash_bound : (text : List ℕ) (n : ℕ) → Starts Slash text → comment_len text ≡ Some n → 0 < n → (k : Option TokenKind) (t r : List ℕ) → text ≡ t ++ r → CanStart k Slash → IsPiece k t r → length t ≤ n
slash_bound text n starts is some None t r whole can p =
    let both : Some n ≡ Some (length t) = sym is ∙ blank_comment text starts t r whole p in
    let same : n ≡ length t = cc in
    omega arith
slash_bound text n starts is some (Some (Name name)) t r whole can p = absurd (cc)
slash_bound text n starts is some (Some (Number number)) t r whole can p = absurd (⊎_elim (λ h. cc) (λ h. cc) can)
slash_bound text n starts is some (Some (Str value)) t r whole can p = absurd (cc)
slash_bound text n starts is some (Some (Punct mark)) t r whole can p = omega (arith, slash_marks mark can, ap length p)

pub slash_comment : (text : List ℕ) (n : ℕ) → Starts Slash text → comment_len text ≡ Some n → IsRead text (Some (blank_piece n))
slash_comment [] n starts is = absurd starts
slash_comment (c ∷ cs) n starts is =
    let slash = slash_char c starts in
    let found = comment_sound cs n (ap (λ (k : ℕ). comment_len (k ∷ cs)) (sym slash) ∙ is) in
    let blank = subst (λ (k : ℕ). IsBlank (take n (k ∷ cs)) (drop n (k ∷ cs))) (sym slash) found.is_blank in
    longest_from (c ∷ cs) (blank_piece n) found.some found.fits blank
    (λ k t r whole p. slash_bound (c ∷ cs) n starts is found.some k t r whole (at_start Slash (c ∷ cs) starts k t r whole p) p)

-- STRINGS
quote_bound : (text : List ℕ) (found : List ℕ × ℕ) → IsStringRead text (Some found) → (k : Option TokenKind) (t r : List ℕ) → text ≡ t ++ r → CanStart k Quote → IsPiece k t r → length t ≤ found.1
quote_bound text found is None t r whole can p = absurd (⊎_elim (λ h. cc) (λ h. cc) can)
quote_bound text found is (Some (Name name)) t r whole can p = absurd (cc)
quote_bound text found is (Some (Number number)) t r whole can p = absurd (⊎_elim (λ h. cc) (λ h. cc) can)
quote_bound text found is (Some (Str value)) t r whole can (decoded, string, same) =
    let both = string_same (take found.1 text) is.2.0 (drop found.1 text) t decoded r is.2.1 string (take-append-drop found.1 text ∙ whole) in
    omega (arith, ap length both.0, length-take-le found.1 text is.1)
quote_bound text found is (Some (Punct mark)) t r whole can p = absurd (⊎_elim (λ h. cc) (λ h. ⊎_elim (λ i. cc) (λ i. cc) h) (marks_start mark))

pub quote_some : (text : List ℕ) (found : List ℕ × ℕ) → Starts Quote text → IsStringRead text (Some found) → IsRead text (Some (record { kind = Some (Str found.0); len = found.1 }))
quote_some text found starts is =
    longest_from text (record { kind = Some (Str found.0); len = found.1 }) is.0 is.1 (is.2.0, is.2.1, is.2.2)
    (λ k t r whole p. quote_bound text found is k t r whole (at_start Quote text starts k t r whole p) p)

quote_never : (text : List ℕ) → IsStringRead text None → (k : Option TokenKind) (t r : List ℕ) → text ≡ t ++ r → CanStart k Quote → IsPiece k t r → ⊥
quote_never text is None t r whole can p = ⊎_elim (λ h. cc) (λ h. cc) can
quote_never text is (Some (Name name)) t r whole can p = cc
quote_never text is (Some (Number number)) t r whole can p = ⊎_elim (λ h. cc) (λ h. cc) can
quote_never text is (Some (Str value)) t r whole can (decoded, string, same) = is t decoded r whole string
quote_never text is (Some (Punct mark)) t r whole can p = ⊎_elim (λ h. cc) (λ h. ⊎_elim (λ i. cc) (λ i. cc) h) (marks_start mark)

pub quote_none : (text : List ℕ) → Starts Quote text → IsStringRead text None → BeginsNoPiece text
quote_none text starts is k t r whole p = quote_never text is k t r whole (at_start Quote text starts k t r whole p) p

-- nothing begins at the end
pub none_at_end : BeginsNoPiece []
none_at_end k t r whole p = omega (arith, not_empty k t r p, ap length whole, length-append t r)

-- the quote at the front of a text
pub front_quote : (text : List ℕ) (q : ℕ) → 0 < length text → q ≡ get_or text 0 q → begins_with q text ≡ true
front_quote [] q some e = absurd (omega arith)
front_quote (c ∷ cs) q some e = eq-eqb c q (sym e)

pub quote_front : (text : List ℕ) (q : ℕ) → Starts Quote text → q ≡ get_or text 0 q → is_quote q ≡ true
quote_front [] q starts e = absurd starts
quote_front (c ∷ cs) q starts e = quote_char q (ap start_of e ∙ starts)

pub quote_somewhere : (text : List ℕ) → Starts Quote text → length text ≡ 0 → ⊥
quote_somewhere [] starts none = starts
quote_somewhere (c ∷ cs) starts none = omega arith

pub ruleset digit_read = (digit_some, digit_none)

pub ruleset dot_read = (dot_some, dot_mark)

pub ruleset slash_read = (slash_comment, slash_mark)

pub ruleset quote_read = (quote_some, quote_none)

pub ruleset at_front = (none_at_end)
