-- Each step of an expression keeps what its state stands for.
use Rattle.std.proofs.Common.{◌≡◌, refl, ◌∙◌, ap, subst, ℕ, suc, ◌≤◌, Bool, true, false, ◌∷◌, codes, arith, if◌then◌else◌}
use Rattle.std.specs.Str.{bytes_eq}
use Rattle.std.proofs.lemmas.Slice.Eq.{bytes_eq-Decides}
use Rattle.std.proofs.lemmas.Bool.{false≢true}
use Rattle.js_token.specs.Words.{is_reserved}
use Rattle.js_token.specs.declared.token.TokenKind.{TokenKind}
use Rattle.js_token.specs.declared.token.TokenKind.TheVariants.{Name, Number, Str, Punct}
use Rattle.js_token.specs.declared.punct.Punct.TheVariants.{OpenBrace, CloseBrace, OpenParen, CloseParen, OpenBracket, CloseBracket, Dot, Comma, Colon, Question, Plus, Minus, Bang}
use Rattle.js_grammar.specs.Words.{Bytes, IsName, truth_word}
use Rattle.js_grammar.specs.Types.{Key}
use Rattle.js_grammar.specs.TypeSpelling.{Tokens, opt}
use Rattle.js_grammar.specs.TypeFits.{bump}
use Rattle.js_grammar.specs.Code.{Level, nullish_level, or_level, and_level, equal_level, relation_level, sum_level, product_level, operand_rank, Prefix, negation, minus_sign, plus_sign, kind_of, Ex, ex, variable, number, text, truth_value, null_value, elements, fields, Exs, no_ex, more_ex, has_exs, Links, no_link, more_link, member, call, Fields, no_field, more_field, has_fields, field, shorthand, no_arm, Sig}
use Rattle.js_grammar.specs.CodeSpelling.{prefix_token, spell_ex, spell_exs, spell_listed, spell_links, spell_fields, spell_entries}
use Rattle.js_grammar.specs.CodePlaces.{stop_exs, stop_listed, stop_fields, stop_entries}
use Rattle.code_law.specs.Frames.{Row, array_row, call_row, in_prefix, in_chain, in_branch, in_parens, in_row, in_arrow, want, after_dot, row_start, fields_start, after_word, after_key, paren_start, paren_word, paren_mark, arrow_start, Stack, Step, fault, go, start_ex}
use Rattle.code_law.specs.Ladder.{after_field}
use Rattle.code_law.specs.Expressions.{ValueWord, variable_word, null_word, truth_of, kind_word, function_word, other_word, reserved_word, value_word, marked, may_arrow, word_step, want_step, linked, links_step, dot_step, row_step, fields_step, field_step, key_step, paren_step, paren_word_step, paren_mark_step, arrow_step}
use Rattle.code_law.proofs.Ladder.{floor, tier_least}
use Rattle.code_law.proofs.Typing.{typing_at}
use Rattle.code_law.proofs.States.{spell_mode, takes_ex, FitsLinked, FitsStack, FitsWhole, FitsMode, FitsStep, Stands}
use Rattle.code_law.proofs.Stands.{stands_moved}
use Rattle.code_law.proofs.KeptBodies.{k_primary, k_if}
use Rattle.code_law.proofs.KeptLadder.{link_more, k_after_field, k_settle}

-- what a word is where an expression may begin
abbrev IsValue : ValueWord → Bytes → Type 0
IsValue variable_word n = IsName n
IsValue null_word n = n ≡ codes "null"
IsValue (truth_of b) n = n ≡ truth_word b
IsValue kind_word n = n ≡ codes "typeof"
IsValue function_word n = n ≡ codes "function"
IsValue other_word n = Unit {0}

pick : (x y : ValueWord) (b : Bool) (n : Bytes) → (b ≡ true → IsValue x n) → (b ≡ false → IsValue y n) → IsValue (if b then x else y) n
pick x y true n f g = f refl
pick x y false n f g = g refl

value_is : (n : Bytes) → IsValue (value_word n) n
value_is n =
    pick (reserved_word n) variable_word (is_reserved n) n
    (λ r. pick null_word _ (bytes_eq n (codes "null")) n (λ e. is (codes "null") e)
    (λ e. pick (truth_of true) _ (bytes_eq n (codes "true")) n (λ e. is (codes "true") e)
    (λ e. pick (truth_of false) _ (bytes_eq n (codes "false")) n (λ e. is (codes "false") e)
    (λ e. pick kind_word _ (bytes_eq n (codes "typeof")) n (λ e. is (codes "typeof") e)
    (λ e. pick function_word other_word (bytes_eq n (codes "function")) n (λ e. is (codes "function") e) (λ e. tt))))))
    (λ r. r)
  where
    is : (w : Bytes) → bytes_eq n w ≡ true → n ≡ w
    is w e = (bytes_eq-Decides n w).0 e

operand_most : (v : Level) → suc (operand_rank v) ≤ 9
operand_most nullish_level = omega arith
operand_most or_level = omega arith
operand_most and_level = omega arith
operand_most equal_level = omega arith
operand_most relation_level = omega arith
operand_most sum_level = omega arith
operand_most product_level = omega arith

floor_most : (k : Stack) → floor k ≤ 10
floor_most (in_chain s v f os d o ∷ k) = let h = operand_most v in omega arith
floor_most k = omega arith

arrow_floor : (k : Stack) → may_arrow k ≡ true → floor k ≤ 1
arrow_floor (in_prefix s ps ∷ k) e = absurd (false≢true e)
arrow_floor (in_chain s v f os d o ∷ k) e = absurd (false≢true e)
arrow_floor k e = omega arith

linked_whole : (i : ℕ) (k : Stack) (b : Ex) (ls : Links) → FitsStack k (start_ex b) → takes_ex k ≡ true → FitsLinked b ls i → FitsWhole k (linked i b ls) i
linked_whole i k b no_link h t f = let m = floor_most k in let r = tier_least b in let y : 10 ≤ _ = f.0 in (h, t, omega arith, f.1, f.3)
linked_whole i k b (more_link ls y) h t f = let m = floor_most k in (h, t, m, (refl, f.3, (f.0, f.1, refl, f.2)), f.3)

linked_spelled : (i : ℕ) (b : Ex) (ls : Links) (l : Tokens) → spell_ex (linked i b ls) l ≡ spell_ex b (spell_links ls l)
linked_spelled i b no_link l = refl
linked_spelled i b (more_link ls y) l = refl

listed_stop : (es : Exs) (i : ℕ) → stop_listed es i ≡ bump (has_exs es) (stop_exs es i)
listed_stop no_ex i = refl
listed_stop (more_ex es e) i = refl

listed_spelled : (es : Exs) (l : Tokens) → spell_exs es (opt (has_exs es) (Punct Comma) l) ≡ spell_listed es l
listed_spelled no_ex l = refl
listed_spelled (more_ex es e) l = refl

entries_stop : (fs : Fields) (i : ℕ) → stop_entries fs i ≡ bump (has_fields fs) (stop_fields fs i)
entries_stop no_field i = refl
entries_stop (more_field fs y) i = refl

entries_spelled : (fs : Fields) (l : Tokens) → spell_fields fs (opt (has_fields fs) (Punct Comma) l) ≡ spell_entries fs l
entries_spelled no_field l = refl
entries_spelled (more_field fs y) l = refl

module _ (q p : Tokens) (i : ℕ) where
  k_unless : (b : Bool) (s : Step) → (b ≡ false → FitsStep q p i s) → FitsStep q p i (if b then fault else s)
  k_unless true s h = tt
  k_unless false s h = h refl

  k_marked : (y : Prefix) (k : Stack) → FitsStack k i → takes_ex k ≡ true → Stands p k (λ l. prefix_token y ∷ l) → FitsStep q p i (go (marked i y k) want)
  k_marked y (in_prefix z ps ∷ k) h t s = ((((h.0.0, h.0.1, refl, (h.0.3, h.0.4), ap suc (h.0.4)), h.1), refl), (tt, s.1))
  k_marked y (in_chain z v f os d o ∷ k) h t s = ((((refl, operand_most v, refl, (tt, refl), refl), h), refl), (tt, s))
  k_marked y k h t s = let m : floor k ≤ 9 = omega arith in ((((t, m, refl, (tt, refl), refl), h), refl), (tt, s))

  k_word : (k : Stack) → FitsStack k i → takes_ex k ≡ true → (n : Bytes) (w : ValueWord) → IsValue w n → Stands p k (λ l. Name n ∷ l) → FitsStep q p i (word_step i k n w)
  k_word k h t n variable_word e s = let r : 10 ≤ 10 = omega arith in (k_primary k i i (variable n) h t r e refl, s)
  k_word k h t n null_word e s = let r : 10 ≤ 10 = omega arith in (k_primary k i i null_value h t r tt refl, subst (λ n. Stands p k (λ l. Name n ∷ l)) e s)
  k_word k h t n (truth_of b) e s = let r : 10 ≤ 10 = omega arith in (k_primary k i i (truth_value b) h t r tt refl, subst (λ n. Stands p k (λ l. Name n ∷ l)) e s)
  k_word k h t n kind_word e s = k_marked kind_of k h t (subst (λ n. Stands p k (λ l. Name n ∷ l)) e s)
  k_word k h t n function_word e s = ((h, t, refl), subst (λ n. Stands p k (λ l. Name n ∷ l)) e s)
  k_word k h t n other_word e s = tt

  pub k_want : (k : Stack) (x : TokenKind) → FitsStack k i → takes_ex k ≡ true → Stands p k (λ l. x ∷ l) → FitsStep q p i (want_step i k x)
  k_want k (Name n) h t s = k_word k h t n (value_word n) (value_is n) s
  k_want k (Number n) h t s = let r : 10 ≤ 10 = omega arith in (k_primary k i i (number n) h t r tt refl, s)
  k_want k (Str n) h t s = let r : 10 ≤ 10 = omega arith in (k_primary k i i (text n) h t r tt refl, s)
  k_want k (Punct OpenParen) h t s = ((h, t, refl), s)
  k_want k (Punct OpenBracket) h t s = ((h, t, tt, refl), s)
  k_want k (Punct OpenBrace) h t s = ((h, t, tt, refl), s)
  k_want k (Punct Bang) h t s = k_marked negation k h t s
  k_want k (Punct Minus) h t s = k_marked minus_sign k h t s
  k_want k (Punct Plus) h t s = k_marked plus_sign k h t s
  k_want k (Punct _) h t s = tt

  pub k_links : (k : Stack) (b : Ex) (ls : Links) (x : TokenKind) → FitsStack k (start_ex b) → takes_ex k ≡ true → FitsLinked b ls i → Stands p k (λ l. spell_ex b (spell_links ls (x ∷ l))) → FitsStep q p i (links_step i k b ls x)
  k_links k b ls (Punct Dot) h t f s = ((h, t, f, refl), s)
  k_links k b ls (Punct OpenBracket) h t f s = ((((t, f, refl), h), refl), (tt, s))
  k_links k b ls (Punct OpenParen) h t f s = ((h, (t, f), tt, refl), s)
  k_links k b ls x h t f s =
      k_settle q p i k (linked i b ls) (linked_whole i k b ls h t f) x (stands_moved p k (λ l. spell_ex b (spell_links ls (x ∷ l))) (λ l. spell_ex (linked i b ls) (x ∷ l)) (λ l. linked_spelled i b ls (x ∷ l)) s)

  module _ (k : Stack) where
    pub k_dot : (b : Ex) (ls : Links) (d : ℕ) → FitsMode k (after_dot b ls d) i → (x : TokenKind) → Stands p k (λ l. spell_mode (after_dot b ls d) (x ∷ l)) → FitsStep q p i (dot_step i k b ls d x)
    k_dot b ls d h (Name n) s = ((h.0, h.1, link_more b ls d i (member n) (h.2) tt (ap suc (h.3))), s)
    k_dot b ls d h _ s = tt

    pub k_row : (r : Row) (es : Exs) → FitsMode k (row_start r es) i → (x : TokenKind) → Stands p k (λ l. spell_mode (row_start r es) (x ∷ l)) → FitsStep q p i (row_step i k r es x)
    k_row (array_row z) es h (Punct CloseBracket) s =
        let r : 10 ≤ 10 = omega arith in (
          k_primary k i z (elements es (has_exs es)) (h.0) (h.1) r (h.2, λ e. e) (ap suc (h.3 ∙ listed_stop es (suc z))),
          stands_moved p k (λ l. Punct OpenBracket ∷ spell_listed es (Punct CloseBracket ∷ l)) _ (λ l. ap (λ l. Punct OpenBracket ∷ l) (listed_spelled es (Punct CloseBracket ∷ l))) s,
        )
    k_row (call_row b ls z) es h (Punct CloseParen) s = (
      (h.0, h.1.0, link_more b ls z i (call es (has_exs es)) (h.1.1) (h.2, λ e. e) (ap suc (h.3 ∙ listed_stop es (suc z)))),
      stands_moved p k (λ l. spell_ex b (spell_links ls (Punct OpenParen ∷ spell_listed es (Punct CloseParen ∷ l)))) _ (λ l. ap (λ l. spell_ex b (spell_links ls (Punct OpenParen ∷ l))) (listed_spelled es (Punct CloseParen ∷ l))) s,
    )
    k_row (array_row z) es h x s = k_want (in_row (array_row z) es ∷ k) x ((h.1, h.2, h.3), h.0) refl (tt, s)
    k_row (call_row b ls z) es h x s = k_want (in_row (call_row b ls z) es ∷ k) x ((h.1, h.2, h.3), h.0) refl (tt, s)

    pub k_fields : (z : ℕ) (fs : Fields) → FitsMode k (fields_start z fs) i → (x : TokenKind) → Stands p k (λ l. spell_mode (fields_start z fs) (x ∷ l)) → FitsStep q p i (fields_step i k z fs x)
    k_fields z fs h (Punct CloseBrace) s =
        let r : 10 ≤ 10 = omega arith in (
          k_primary k i z (fields fs (has_fields fs)) (h.0) (h.1) r (h.2, λ e. e) (ap suc (h.3 ∙ entries_stop fs (suc z))),
          stands_moved p k (λ l. Punct OpenBrace ∷ spell_entries fs (Punct CloseBrace ∷ l)) _ (λ l. ap (λ l. Punct OpenBrace ∷ l) (entries_spelled fs (Punct CloseBrace ∷ l))) s,
        )
    k_fields z fs h (Name n) s = ((h.0, h.1, h.2, h.3, refl), s)
    k_fields z fs h (Str n) s = ((h.0, h.1, h.2, (h.3, ap suc (h.3)), ap suc (h.3)), s)
    k_fields z fs h _ s = tt

    pub k_field_word : (z : ℕ) (fs : Fields) (a : ℕ) (n : Bytes) → FitsMode k (after_word z fs a n) i → (x : TokenKind) → Stands p k (λ l. spell_mode (after_word z fs a n) (x ∷ l)) → FitsStep q p i (field_step i k z fs a n x)
    k_field_word z fs a n h (Punct Colon) s = let j = h.4 ∙ ap suc (h.3) in ((((h.1, h.2, (h.3, j), ap suc j), h.0), refl), (tt, s))
    k_field_word z fs a n h x s =
        k_unless (is_reserved n) (after_field i k z (more_field fs (field a i (shorthand n))) x)
        (λ e. let j = h.4 ∙ ap suc (h.3) in k_after_field q p i k z fs (field a i (shorthand n)) (h.0) (h.1) (h.2, (h.3, j, e)) j x s)

    pub k_key : (z : ℕ) (fs : Fields) (y : Key) → FitsMode k (after_key z fs y) i → (x : TokenKind) → Stands p k (λ l. spell_mode (after_key z fs y) (x ∷ l)) → FitsStep q p i (key_step k z fs y x)
    k_key z fs y h (Punct Colon) s = ((((h.1, h.2, h.3, ap suc (h.4)), h.0), refl), (tt, s))
    k_key z fs y h _ s = tt

    pub k_paren : (z : ℕ) → FitsMode k (paren_start z) i → (x : TokenKind) → Stands p k (λ l. spell_mode (paren_start z) (x ∷ l)) → FitsStep q p i (paren_step i k z x)
    k_paren z h (Punct CloseParen) s = k_if q p (may_arrow k) i _ (λ m. ((((h.0, h.1, m), tt, tt), (λ e. absurd (false≢true e)), ap suc (h.2)), s))
    k_paren z h (Name n) s = by (is_reserved n) refl
      where
        by : (b : Bool) → is_reserved n ≡ b → FitsStep q p i (if b then want_step i (in_parens z ∷ k) (Name n) else go k (paren_word z i n))
        by true e = k_want (in_parens z ∷ k) (Name n) ((h.1, h.2), h.0) refl (tt, s)
        by false e = ((h.0, h.1, h.2, e, refl), s)
    k_paren z h x s = k_want (in_parens z ∷ k) x ((h.1, h.2), h.0) refl (tt, s)

    pub k_paren_word : (z a : ℕ) (n : Bytes) → FitsMode k (paren_word z a n) i → (x : TokenKind) → Stands p k (λ l. spell_mode (paren_word z a n) (x ∷ l)) → FitsStep q p i (paren_word_step i k z a n x)
    k_paren_word z a n h (Punct Colon) s =
        let y = typing_at true (suc (suc a)) (suc i) (ap suc (h.4)) in k_if q p (may_arrow k) i _ (λ m. (((((h.0, h.1, m), tt, tt), h.2, h.3), y.0, y.1), s))
    k_paren_word z a n h (Punct Question) s = ((h.0, h.1, h.2, h.3, h.4, refl), s)
    k_paren_word z a n h x s = let r : 10 ≤ 10 = omega arith in k_links (in_parens z ∷ k) (ex a i (variable n)) no_link x ((h.1, h.2), h.0) refl (r, (refl, h.4, h.3), tt, h.4) (tt, s)

    pub k_paren_mark : (z a : ℕ) (n : Bytes) (b : ℕ) → FitsMode k (paren_mark z a n b) i → (x : TokenKind) → Stands p k (λ l. spell_mode (paren_mark z a n b) (x ∷ l)) → FitsStep q p i (paren_mark_step i k z a n b x)
    k_paren_mark z a n b h (Punct Colon) s =
        let y = typing_at true (suc (suc (suc a))) (suc i) (ap suc (h.5 ∙ ap suc (h.4))) in k_if q p (may_arrow k) i _ (λ m. (((((h.0, h.1, m), tt, tt), h.2, h.3), y.0, y.1), s))
    k_paren_mark z a n b h x s =
        let r : 1 ≤ 10 = omega arith in
        let u : 0 ≤ 0 = omega arith in
        k_want (in_branch a no_arm (ex a b (variable n)) ∷ in_parens z ∷ k) x ((refl, u, tt, r, (refl, h.4, h.3), h.5 ∙ ap suc (h.4)), ((h.1, h.2), h.0)) refl (tt, (tt, s))

    pub k_arrow : (g : Sig) → FitsMode k (arrow_start g) i → (x : TokenKind) → Stands p k (λ l. spell_mode (arrow_start g) (x ∷ l)) → FitsStep q p i (arrow_step i k g x)
    k_arrow g h (Punct OpenBrace) s = ((((h.1, arrow_floor k (h.2), h.3, h.4, h.5), h.0), refl, tt, refl), (tt, s))
    k_arrow g h x s = k_want (in_arrow g ∷ k) x ((h.1, arrow_floor k (h.2), h.3, h.4, h.5), h.0) refl ((x, refl, λ l. (l, refl)), s)
