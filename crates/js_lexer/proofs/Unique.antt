-- A text has one cut into longest pieces, and so one answer.
use Rattle.std.proofs.Common.{◌≡◌, ℕ, ◌+◌, List, [], ◌∷◌, ◌++◌, Option, Result, Ok, Err, length, take, refl, sym, ap, ◌∙◌, subst, inl, inr, append_assoc, arith}
use Rattle.std.proofs.lemmas.List.{take_at, append_cancel_left, append-nil}
use Rattle.std.specs.Str.{chars}
use Rattle.js_token.specs.declared.token.TokenKind.{TokenKind}
use Rattle.js_token.specs.declared.token.Token.{Token}
use Rattle.lex_pieces.specs.Pieces.{IsPiece, IsLongest, BeginsNoPiece}
use Rattle.lex_pieces.proofs.Fronts.{none_at_end}
use Rattle.js_lexer.specs.declared.fault.LexFault.{LexFault}
use Rattle.js_lexer.specs.declared.fault.LexFault.TheVariants.{SourceTooLong, NotUtf8, BadToken, NoMemory}
use Rattle.js_lexer.specs.Cut.{Cut, text_of, AreLongest, byte_len, tokens_of, HasTokens, IsStuck}
use Rattle.js_lexer.specs.Answers.{Answers, Agree}
use Rattle.js_lexer.proofs.OneKind.{one_kind}

-- the longest piece at the front of a text is one
longest_same : (p q : Cut) (r s : List ℕ) → IsLongest p.kind p.text r → IsLongest q.kind q.text s → p.text ++ r ≡ q.text ++ s → (p ≡ q) × (r ≡ s)
longest_same p q r s a b e =
    let up = a.longest q.kind q.text s e b.piece in
    let down = b.longest p.kind p.text r (sym e) a.piece in
    let size : length p.text ≡ length q.text = omega arith in
    let text : p.text ≡ q.text = sym (take_at p.text r (length p.text) refl) ∙ (ap (take (length p.text)) e ∙ take_at q.text s (length p.text) (sym size)) in
    let rest : r ≡ s = append_cancel_left p.text r s (e ∙ ap (λ l. l ++ s) (sym text)) in
    let kind : p.kind ≡ q.kind =
    one_kind p.kind q.kind q.text s (subst (λ (l : List ℕ). IsPiece p.kind l s) text (subst (λ (l : List ℕ). IsPiece p.kind p.text l) rest a.piece)) b.piece in
    (ap (λ (l : List ℕ). let c : Cut = record { text = l; kind = p.kind } in c) text ∙ ap (λ (k : Option TokenKind). let c : Cut = record { text = q.text; kind = k } in c) kind, rest)

-- two cuts of one text, as far as pieces go
cuts_same : (ps qs : List Cut) (r s : List ℕ) → AreLongest ps r → AreLongest qs s → text_of ps ++ r ≡ text_of qs ++ s → BeginsNoPiece r → BeginsNoPiece s → (ps ≡ qs) × (r ≡ s)
cuts_same [] [] r s a b e stop stuck = (refl, e)
cuts_same [] (q ∷ qs) r s a b e stop stuck = absurd (stop q.kind q.text (text_of qs ++ s) (e ∙ append_assoc q.text (text_of qs) s) b.0.piece)
cuts_same (p ∷ ps) [] r s a b e stop stuck = absurd (stuck p.kind p.text (text_of ps ++ r) (sym e ∙ append_assoc p.text (text_of ps) r) a.0.piece)
cuts_same (p ∷ ps) (q ∷ qs) r s a b e stop stuck =
    let whole : p.text ++ (text_of ps ++ r) ≡ q.text ++ (text_of qs ++ s) = sym (append_assoc p.text (text_of ps) r) ∙ (e ∙ append_assoc q.text (text_of qs) s) in
    let first = longest_same p q (text_of ps ++ r) (text_of qs ++ s) a.0 b.0 whole in
    let more = cuts_same ps qs r s a.1 b.1 first.1 stop stuck in
    (ap (λ (x : Cut). x ∷ ps) first.0 ∙ ap (λ (l : List Cut). q ∷ l) more.0, more.1)

tokens_same : (text : List ℕ) (ts us : List Token) → HasTokens 0 text ts → HasTokens 0 text us → ts ≡ us
tokens_same text ts us (ps, whole, longest, same) (qs, whole', longest', same') =
    let both = cuts_same ps qs [] [] longest longest' (append-nil (text_of ps) ∙ (sym whole ∙ (whole' ∙ sym (append-nil (text_of qs))))) none_at_end none_at_end in
    same ∙ (ap (tokens_of 0) both.0 ∙ sym same')

never_both : (text : List ℕ) (ts : List Token) (at : ℕ) → HasTokens 0 text ts → IsStuck 0 text at → ⊥
never_both text ts at (ps, whole, longest, same) (qs, rest, whole', longest', some, stuck, place) =
    let both = cuts_same ps qs [] rest longest longest' (append-nil (text_of ps) ∙ (sym whole ∙ whole')) none_at_end stuck in
    some (sym both.1)

stuck_same : (text : List ℕ) (at place : ℕ) → IsStuck 0 text at → IsStuck 0 text place → at ≡ place
stuck_same text at place (ps, rest, whole, longest, some, stuck, here) (qs, rest', whole', longest', some', stuck', there) =
    let both = cuts_same ps qs rest rest' longest longest' (sym whole ∙ whole') stuck stuck' in
    here ∙ (ap (λ (l : List Cut). 0 + byte_len (text_of l)) both.0 ∙ sym there)

pub one_answer : (source : List ℕ) (a b : Result (List Token) LexFault) → Answers source a → Answers source b → Agree a b
one_answer source (Ok ts) (Ok us) p q = inl (ap Ok (tokens_same (chars source) ts us p.2 q.2))
one_answer source (Ok ts) (Err (SourceTooLong len)) p q = absurd (omega (arith, p.0, q.0))
one_answer source (Ok ts) (Err NotUtf8) p q = absurd (q.1 p.1)
one_answer source (Ok ts) (Err (BadToken at)) p q = absurd (never_both (chars source) ts at p.2 q.2)
one_answer source (Err (SourceTooLong len)) (Ok us) p q = absurd (omega (arith, p.0, q.0))
one_answer source (Err (SourceTooLong len)) (Err (SourceTooLong more)) p q = inl (ap (λ (n : ℕ). Err (SourceTooLong n)) (p.1 ∙ sym q.1))
one_answer source (Err (SourceTooLong len)) (Err NotUtf8) p q = absurd (omega (arith, p.0, q.0))
one_answer source (Err (SourceTooLong len)) (Err (BadToken at)) p q = absurd (omega (arith, p.0, q.0))
one_answer source (Err NotUtf8) (Ok us) p q = absurd (p.1 q.1)
one_answer source (Err NotUtf8) (Err (SourceTooLong len)) p q = absurd (omega (arith, p.0, q.0))
one_answer source (Err NotUtf8) (Err NotUtf8) p q = inl refl
one_answer source (Err NotUtf8) (Err (BadToken at)) p q = absurd (p.1 q.1)
one_answer source (Err (BadToken at)) (Ok us) p q = absurd (never_both (chars source) us at q.2 p.2)
one_answer source (Err (BadToken at)) (Err (SourceTooLong len)) p q = absurd (omega (arith, p.0, q.0))
one_answer source (Err (BadToken at)) (Err NotUtf8) p q = absurd (q.1 p.1)
one_answer source (Err (BadToken at)) (Err (BadToken place)) p q = inl (ap (λ (n : ℕ). Err (BadToken n)) (stuck_same (chars source) at place p.2 q.2))
one_answer source (Err NoMemory) b p q = inr (inl refl)
one_answer source a (Err NoMemory) p q = inr (inr refl)
