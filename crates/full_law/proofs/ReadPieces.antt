-- At the front of each text a piece is read, or none begins there.
use Rattle.std.proofs.Common.{◌≡◌, ◌≢◌, ℕ, zero, suc, ◌+◌, ◌-◌, ◌<◌, ◌≤◌, Bool, true, false, List, [], ◌∷◌, ◌++◌, Option, Some, None, length, drop, refl, sym, ap, ◌∙◌, arith}
use Rattle.std.specs.Prelude.{IfSome}
use Rattle.std.specs.Char.{encode_utf8}
use Rattle.std.specs.List.{prefix_len}
use Rattle.source_characters.specs.Words.{continues_word}
use Rattle.std.proofs.lemmas.Bool.{eq-eqb}
use Rattle.js_token.specs.declared.token.TokenKind.TheVariants.{Str}
use Rattle.lex_pieces.specs.declared.piece.Piece.{Piece}
use Rattle.lex_pieces.specs.declared.start.Start.{Start}
use Rattle.lex_pieces.specs.declared.start.Start.TheVariants.{Blank, Word, Digit, Quote, Dot, Slash, Mark}
use Rattle.lex_pieces.specs.Comments.{comment_len}
use Rattle.lex_pieces.specs.Escapes.{begins_with, part_at}
use Rattle.lex_pieces.specs.Read.{IsRead, blank_piece, word_piece, number_piece, mark_piece}
use Rattle.lex_pieces.specs.Reading.{number_len}
use Rattle.lex_pieces.specs.Starts.{start_of}
use Rattle.lex_pieces.specs.Strings.{ReadsParts, IsStringRead}
use Rattle.lex_pieces.proofs.Fronts.{quote_char, blank_read, word_read, digit_some, digit_none, mark_read, dot_mark, dot_some, slash_mark, slash_comment, quote_some, quote_none, none_at_end}
use Rattle.lex_pieces.proofs.PartLemmas.{part_within}
use Rattle.lex_pieces.proofs.StringReads.{reads_more, reads_none, string_read, string_none}
use Rattle.full_law.proofs.Lengths.{number_within}

-- ---- strings

-- the parts of a string were read as far as there are any
record ReadsAll (quote : ℕ) (text : List ℕ) : Type 0 where
  at : ℕ
  value : List ℕ
  reads : ReadsParts quote text at value
  within : at ≤ length text
  stuck : part_at quote (drop at text) ≡ None

read_on : (fuel : ℕ) (quote : ℕ) (text : List ℕ) (at : ℕ) (value : List ℕ) → ReadsParts quote text at value → at ≤ length text → length text ≤ at + fuel → ReadsAll quote text
read_on zero quote text at value reads within enough = by (part_at quote (drop at text)) refl
  where
    by : (o : Option (ℕ × ℕ)) → part_at quote (drop at text) ≡ o → ReadsAll quote text
    by None is = record { at = at; value = value; reads = reads; within = within; stuck = is }
    by (Some part) is = let more = part_within quote at text (Some part) within (sym is) in absurd (let low = more.0 in let high = more.1 in omega arith)
read_on (suc fuel) quote text at value reads within enough = by (part_at quote (drop at text)) refl (λ n v r w e. read_on fuel quote text n v r w e)
  where
    by : (o : Option (ℕ × ℕ)) → part_at quote (drop at text) ≡ o → ((n : ℕ) (v : List ℕ) → ReadsParts quote text n v → n ≤ length text → length text ≤ n + fuel → ReadsAll quote text) → ReadsAll quote text
    by None is on = record { at = at; value = value; reads = reads; within = within; stuck = is }
    by (Some (c, n)) is on =
        let more = part_within quote at text (Some (c, n)) within (sym is) in
        let low = more.0 in
        on (at + n) (value ++ encode_utf8 c) (reads_more quote text at c n value reads is) more.1 (omega (arith, low, enough))

string_some : (c : ℕ) (cs : List ℕ) → start_of c ≡ Quote → (r : Option (List ℕ × ℕ)) × IsStringRead (c ∷ cs) r
string_some c cs starts = by (begins_with c (drop all.at (c ∷ cs))) refl
  where
    first : begins_with c (c ∷ cs) ≡ true
    first = eq-eqb c c refl

    all : ReadsAll c (c ∷ cs)
    all = read_on (length (c ∷ cs)) c (c ∷ cs) 1 [] (reads_none c (c ∷ cs) first) (omega arith) (omega arith)

    by : (b : Bool) → begins_with c (drop all.at (c ∷ cs)) ≡ b → (r : Option (List ℕ × ℕ)) × IsStringRead (c ∷ cs) r
    by true ends = (Some (all.value, all.at + 1), string_read c (c ∷ cs) all.at all.value (quote_char c starts) all.reads all.within ends)
    by false ends = (None, string_none c (c ∷ cs) all.at all.value (quote_char c starts) all.reads all.within all.stuck ends)

-- ---- pieces

abbrev SomeRead : List ℕ → Type 0
SomeRead text = (r : Option Piece) × IsRead text r

module _ (c : ℕ) (cs : List ℕ) where
  quote_some_read : start_of c ≡ Quote → (r : Option (List ℕ × ℕ)) → IsStringRead (c ∷ cs) r → SomeRead (c ∷ cs)
  quote_some_read starts None is = (None, quote_none (c ∷ cs) starts is)
  quote_some_read starts (Some found) is = (Some (record { kind = Some (Str found.0); len = found.1 }), quote_some (c ∷ cs) found starts is)

  digit_some_read : start_of c ≡ Digit → (n : ℕ) → n ≡ number_len (c ∷ cs) → SomeRead (c ∷ cs)
  digit_some_read starts zero is = (None, digit_none (c ∷ cs) starts (sym is))
  digit_some_read starts (suc n) is =
      (Some (number_piece (c ∷ cs) (suc n)), digit_some (c ∷ cs) (suc n) starts is (λ none. omega arith) (let within = number_within (c ∷ cs) in omega (arith, is, within)))

  dot_some_read : start_of c ≡ Dot → (n : ℕ) → n ≡ number_len (c ∷ cs) → SomeRead (c ∷ cs)
  dot_some_read starts zero is = (mark_piece (c ∷ cs), dot_mark (c ∷ cs) starts (sym is))
  dot_some_read starts (suc n) is =
      (Some (number_piece (c ∷ cs) (suc n)), dot_some (c ∷ cs) (suc n) starts is (λ none. omega arith) (let within = number_within (c ∷ cs) in omega (arith, is, within)))

  slash_some_read : start_of c ≡ Slash → (o : Option ℕ) → comment_len (c ∷ cs) ≡ o → SomeRead (c ∷ cs)
  slash_some_read starts None is = (mark_piece (c ∷ cs), slash_mark (c ∷ cs) starts is)
  slash_some_read starts (Some n) is = (Some (blank_piece n), slash_comment (c ∷ cs) n starts is)

  read_by : (s : Start) → start_of c ≡ s → SomeRead (c ∷ cs)
  read_by Blank starts = (Some (blank_piece 1), blank_read (c ∷ cs) starts)
  read_by Word starts = (Some (word_piece (c ∷ cs) (prefix_len continues_word (c ∷ cs))), word_read (c ∷ cs) (prefix_len continues_word (c ∷ cs)) starts refl)
  read_by Digit starts = digit_some_read starts (number_len (c ∷ cs)) refl
  read_by Quote starts = let string = string_some c cs starts in quote_some_read starts string.0 string.1
  read_by Dot starts = dot_some_read starts (number_len (c ∷ cs)) refl
  read_by Slash starts = slash_some_read starts (comment_len (c ∷ cs)) refl
  read_by Mark starts = (mark_piece (c ∷ cs), mark_read (c ∷ cs) starts)

pub some_read : (text : List ℕ) → SomeRead text
some_read [] = (None, none_at_end)
some_read (c ∷ cs) = read_by c cs (start_of c) refl
