-- A whole expression and the token behind it leave states that fit.
use Rattle.std.proofs.Common.{◌≡◌, refl, sym, ◌∙◌, ap, subst, ℕ, suc, ◌≤◌, nat_lt, nat_le, nat_eq, Bool, true, false, [], ◌∷◌, codes, arith, if◌then◌else◌}
use Rattle.std.specs.Str.{bytes_eq}
use Rattle.std.proofs.lemmas.Bool.Decides.{nat_tests}
use Rattle.std.proofs.lemmas.Slice.Eq.{bytes_eq-Decides}
use Rattle.std.proofs.lemmas.Bool.{false≢true}
use Rattle.js_token.specs.declared.token.TokenKind.{TokenKind}
use Rattle.js_token.specs.declared.token.TokenKind.TheVariants.{Name, Punct}
use Rattle.js_token.specs.declared.punct.Punct.TheVariants.{OpenBrace, CloseBrace, CloseParen, CloseBracket, Comma, Semicolon, Colon, Question, QuestionQuestion, StrictEqual, StrictNotEqual, LooseEqual, LooseNotEqual, LessThan, GreaterThan, LessOrEqual, GreaterOrEqual, Plus, Minus, Star, Slash, Percent, AndAnd, OrOr}
use Rattle.js_grammar.specs.Types.{Key, key}
use Rattle.js_grammar.specs.TypeSpelling.{Tokens}
use Rattle.js_grammar.specs.TypeFits.{FitsKey}
use Rattle.js_grammar.specs.Code.{Level, nullish_level, or_level, and_level, equal_level, relation_level, sum_level, product_level, rank, operand_rank, Operator, Ex, ex, parens, elements, prefixed, chain, cond, arrow, fields, form_rank, ex_rank, is_cond, Exs, more_ex, link, LinkForm, index, call, Links, more_link, Operands, no_operand, more_operand, operand, right_side, Fields, more_field, Field, field, valued, Arms, no_arm, arrow_value, declaration}
use Rattle.js_grammar.specs.CodeSpelling.{mark_of, spell_ex, spell_exs, spell_operands, spell_fields}
use Rattle.js_grammar.specs.CodePlaces.{stop_ex, stop_exs, stop_fields, stop_entries, stop_link_form, stop_operands, stop_arms}
use Rattle.js_grammar.specs.CodeFits.{FitsEx, FitsExs, FitsLink, FitsLinkForm, FitsFields, FitsOperand, FitsArms}
use Rattle.js_grammar.specs.Items.{exports, export_default}
use Rattle.code_law.specs.Frames.{Row, array_row, call_row, in_prefix, in_chain, in_last, in_branch, in_parens, in_row, in_index, in_field, in_arrow, in_simple, in_declaration, in_if_test, in_loop_test, in_default, Stack, Step, fault, start_ex, start_sig, start_key}
use Rattle.code_law.specs.Ladder.{Joint, applies, casts, Turn, joins, asks, sticks, ends, turn, joint_level, after_item, after_field, close, ask_test, ask, begin, open_chain, join, settle_at, settle}
use Rattle.code_law.proofs.Ladder.{tier_ex, floor}
use Rattle.code_law.proofs.Typing.{typing_at}
use Rattle.code_law.proofs.States.{as_token, spell_row, not_brace, not_function, takes_ex, start_row, place_row, FitsLinked, FitsRow, FitsHead, FitsStack, FitsWhole, FitsStep, Stands}
use Rattle.code_law.proofs.Stands.{begins_not}
use Rattle.code_law.proofs.KeptBodies.{start-of, k_primary, k_if, k_item, k_declaration, k_end_value}

-- ranks

tier_most : (e : Ex) → tier_ex e ≤ suc (ex_rank e)
tier_most (ex f t (cond hs e)) = omega arith
tier_most (ex f t x) = omega arith

not_cond : (e : Ex) → 1 ≤ tier_ex e → is_cond e ≡ false
not_cond (ex f t (cond hs e)) h = absurd (omega arith)
not_cond (ex f t x) h = refl

abbrev level_at : ℕ → Level
level_at n =
    if nat_eq n 1 then nullish_level else if nat_eq n 2 then or_level else if nat_eq n 3 then and_level else if nat_eq n 4 then equal_level
    else if nat_eq n 5 then relation_level else if nat_eq n 6 then sum_level else product_level

level_rank : (p : Level) → level_at (rank p) ≡ p
level_rank nullish_level = refl
level_rank or_level = refl
level_rank and_level = refl
level_rank equal_level = refl
level_rank relation_level = refl
level_rank sum_level = refl
level_rank product_level = refl

same_level : (p q : Level) → rank p ≡ rank q → p ≡ q
same_level p q e = sym (level_rank p) ∙ ap level_at e ∙ level_rank q

tests_same : (a b : ℕ) → nat_eq a b ≡ true → a ≡ b
tests_same a b h = grind (arith, nat_tests)

tests_most : (a b : ℕ) → nat_le a b ≡ true → a ≤ b
tests_most a b h = grind (arith, nat_tests)

-- what a token says behind an expression

abbrev IsTurn : Turn → TokenKind → Type 0
IsTurn (joins (applies o)) x = x ≡ Punct (mark_of o)
IsTurn (joins casts) x = x ≡ as_token
IsTurn asks x = x ≡ Punct Question
IsTurn sticks x = Unit {0}
IsTurn ends x = Unit {0}

turn_is : (x : TokenKind) → IsTurn (turn x) x
turn_is (Name n) = by (bytes_eq n (codes "as")) refl
  where
    by : (b : Bool) → bytes_eq n (codes "as") ≡ b → IsTurn (if b then joins casts else ends) (Name n)
    by true e = ap Name ((bytes_eq-Decides n (codes "as")).0 e)
    by false e = tt
turn_is (Punct QuestionQuestion) = refl
turn_is (Punct OrOr) = refl
turn_is (Punct AndAnd) = refl
turn_is (Punct StrictEqual) = refl
turn_is (Punct StrictNotEqual) = refl
turn_is (Punct LooseEqual) = refl
turn_is (Punct LooseNotEqual) = refl
turn_is (Punct LessThan) = refl
turn_is (Punct GreaterThan) = refl
turn_is (Punct LessOrEqual) = refl
turn_is (Punct GreaterOrEqual) = refl
turn_is (Punct Plus) = refl
turn_is (Punct Minus) = refl
turn_is (Punct Star) = refl
turn_is (Punct Slash) = refl
turn_is (Punct Percent) = refl
turn_is (Punct Question) = refl
turn_is x = tt

abbrev joint_token : Joint → TokenKind
joint_token (applies o) = Punct (mark_of o)
joint_token casts = as_token

joint_is : (w : Joint) (x : TokenKind) → IsTurn (joins w) x → x ≡ joint_token w
joint_is (applies o) x h = h
joint_is casts x h = h

-- open forms that end

prefix_whole : (i : ℕ) (k : Stack) (s : ℕ) (ps : _) (e : Ex) → FitsWhole (in_prefix s ps ∷ k) e i → FitsWhole k (ex s i (prefixed ps e)) i
prefix_whole i k s ps e h =
    let f = h.0.0 in let j = h.4 ∙ ap (stop_ex e) (f.4) in let m = tier_most e in let r : 10 ≤ tier_ex e = h.2 in
    (h.0.1, f.0, f.1, (refl, j, (f.2, f.3, omega arith, subst (FitsEx e) (f.4) (h.3))), j)

chain_whole : (i : ℕ) (k : Stack) (s : ℕ) (p : Level) (f : Ex) (os : Operands) (d : ℕ) (o : Operator) (e : Ex) → FitsWhole (in_chain s p f os d o ∷ k) e i →
    FitsWhole k (ex s i (chain p f (more_operand os (operand d i (right_side o e))))) i
chain_whole i k s p f os d o e h =
    let g = h.0.0 in let c = g.2 in let y : start_ex e ≡ suc d = g.4 in let m = tier_most e in let r : suc (operand_rank p) ≤ tier_ex e = h.2 in
    let u = operand d i (right_side o e) in
    let w : FitsOperand u p d = (refl, h.4 ∙ ap (stop_ex e) y, (g.3, omega arith, subst (FitsEx e) y (h.3))) in
    let j : i ≡ stop_ex e (suc (stop_operands os (stop_ex f s))) = h.4 ∙ ap (stop_ex e) (y ∙ ap suc (c.3)) in
    (h.0.1, g.0, g.1, (refl, j, (c.0, c.1, refl, (c.2, subst (FitsOperand u p) (c.3) w))), j)

last_whole : (i : ℕ) (k : Stack) (s : ℕ) (hs : Arms) (e : Ex) → FitsWhole (in_last s hs ∷ k) e i → FitsWhole k (ex s i (cond hs e)) i
last_whole i k s hs e h =
    let g = h.0.0 in let y = g.4 in let j = h.4 ∙ ap (stop_ex e) y in
    (h.0.1, g.0, g.1, (refl, j, (g.2, g.3, not_cond e (h.2), subst (FitsEx e) y (h.3))), j)

-- one more link
pub link_more : (b : Ex) (ls : Links) (s i : ℕ) (x : LinkForm) → FitsLinked b ls s → FitsLinkForm x s → suc i ≡ stop_link_form x s → FitsLinked b (more_link ls (link s (suc i) x)) (suc i)
link_more b ls s i x h f j = (h.0, h.1, (h.2, subst (FitsLink (link s (suc i) x)) (h.3) (refl, j, f)), j ∙ ap (stop_link_form x) (h.3))

start-key : (y : Key) (i : ℕ) → FitsKey y i → start_key y ≡ i
start-key (key f t y) i h = h.0

module _ (q p : Tokens) where
  abbrev Keeps : ℕ → Step → Type 0
  Keeps i s = FitsStep q p i s

  k_begin : (i : ℕ) (k : Stack) (s : ℕ) (v : Level) (f : Ex) (os : Operands) (w : Joint) → joint_level w ≡ v → FitsStack k s → takes_ex k ≡ true → floor k ≤ suc (rank v) → FitsHead v s f os i →
      Stands p k (λ l. spell_ex f (spell_operands os (joint_token w ∷ l))) → Keeps i (begin i k s v f os w)
  k_begin i k s v f os (applies o) j h t r c d = ((((t, r, c, j, refl), h), refl), (tt, d))
  k_begin i k s v f os casts j h t r c d =
      let e = sym j in let y = typing_at true (suc i) (suc i) refl in (((h, t, subst (λ v. floor k ≤ suc (rank v)) e r, subst (λ v. FitsHead v s f os i) e c), y.0, y.1), d)

  k_open : (i : ℕ) (k : Stack) (e : Ex) (v : Level) (w : Joint) → joint_level w ≡ v → FitsWhole k e i → floor k ≤ suc (rank v) → Stands p k (λ l. spell_ex e (joint_token w ∷ l)) → Keeps i (open_chain i k e v w)
  k_open i k (ex s t (chain c f os)) v w j h r d = by (nat_eq (rank c) (rank v)) (nat_le (operand_rank v) (rank c)) refl refl
    where
      by : (a b : Bool) → nat_eq (rank c) (rank v) ≡ a → nat_le (operand_rank v) (rank c) ≡ b →
          Keeps i (if a then begin i k s v f os w else if b then begin i k s v (ex s t (chain c f os)) no_operand w else fault)
      by true b n m =
          let g = h.3.2 in k_begin i k s v f os w j (h.0) (h.1) r (subst (λ v. FitsHead v s f os i) (same_level c v (tests_same (rank c) (rank v) n)) (g.0, g.1, g.3, h.4)) d
      by false true n m = k_begin i k s v (ex s t (chain c f os)) no_operand w j (h.0) (h.1) r (tests_most (operand_rank v) (rank c) m, h.3, tt, h.4) d
      by false false n m = tt
  k_open i k (ex s t x) v w j h r d =
      k_if q p (nat_le (operand_rank v) (form_rank x)) i (begin i k s v (ex s t x) no_operand w) (λ m. k_begin i k s v (ex s t x) no_operand w j (h.0) (h.1) r (tests_most (operand_rank v) (form_rank x) m, h.3, tt, h.4) d)

  k_join_chain : (i : ℕ) (k : Stack) (s : ℕ) (c : Level) (f : Ex) (os : Operands) (y : ℕ) (o : Operator) (e : Ex) (v : Level) (w : Joint) → joint_level w ≡ v → FitsWhole (in_chain s c f os y o ∷ k) e i →
      Stands p (in_chain s c f os y o ∷ k) (λ l. spell_ex e (joint_token w ∷ l)) → (n : Step) → Keeps i n → (a b : Bool) → nat_le (operand_rank c) (rank v) ≡ b →
      Keeps i (if a then (if b then open_chain i (in_chain s c f os y o ∷ k) e v w else fault) else n)
  k_join_chain i k s c f os y o e v w j h d n g true true m =
      let r : operand_rank c ≤ rank v = tests_most (operand_rank c) (rank v) m in k_open i (in_chain s c f os y o ∷ k) e v w j h (omega arith) d
  k_join_chain i k s c f os y o e v w j h d n g true false m = tt
  k_join_chain i k s c f os y o e v w j h d n g false b m = g

  k_join : (i : ℕ) (k : Stack) (e : Ex) (v : Level) (w : Joint) → joint_level w ≡ v → FitsWhole k e i → Stands p k (λ l. spell_ex e (joint_token w ∷ l)) → Keeps i (join i k e v w)
  k_join i (in_prefix s ps ∷ k) e v w j h d = k_join i k (ex s i (prefixed ps e)) v w j (prefix_whole i k s ps e h) (d.1)
  k_join i (in_chain s c f os y o ∷ k) e v w j h d =
      let z = ex s i (chain c f (more_operand os (operand y i (right_side o e)))) in
      k_join_chain i k s c f os y o e v w j h d (join i k z v w) (k_join i k z v w j (chain_whole i k s c f os y o e h) (d.1)) (nat_lt (rank c) (rank v)) (nat_le (operand_rank c) (rank v)) refl
  k_join i k e v w j h d = k_open i k e v w j h (omega arith) d

  k_ask_test : (i : ℕ) (k : Stack) (s : ℕ) (hs : Arms) (e : Ex) → FitsStack k s → takes_ex k ≡ true → floor k ≤ 0 → FitsArms hs s → FitsEx e (stop_arms hs s) → i ≡ stop_ex e (stop_arms hs s) →
      Stands p (in_branch s hs e ∷ k) (λ l. l) → Keeps i (ask_test k s hs e)
  k_ask_test i k s hs e h t r a f j d =
      k_if q p (nat_le 1 (ex_rank e)) i _ (λ m. ((((t, r, a, tests_most 1 (ex_rank e) m, f, ap suc j), h), refl), d))

  k_ask : (i : ℕ) (k : Stack) (e : Ex) → FitsWhole k e i → Stands p k (λ l. spell_ex e (Punct Question ∷ l)) → Keeps i (ask i k e)
  k_ask i (in_prefix s ps ∷ k) e h d = k_ask i k (ex s i (prefixed ps e)) (prefix_whole i k s ps e h) (d.1)
  k_ask i (in_chain s c f os y o ∷ k) e h d = k_ask i k (ex s i (chain c f (more_operand os (operand y i (right_side o e))))) (chain_whole i k s c f os y o e h) (d.1)
  k_ask i (in_last s hs ∷ k) e h d =
      let g = h.0.0 in k_ask_test i k s hs e (h.0.1) (g.0) (g.1) (g.3) (subst (FitsEx e) (g.4) (h.3)) (h.4 ∙ ap (stop_ex e) (g.4)) d
  k_ask i k e h d = k_ask_test i k (start_ex e) no_arm e (h.0) (h.1) (omega arith) tt (h.3) (h.4) (tt, d)

  k_after_item : (i : ℕ) (k : Stack) (r : Row) (es : Exs) (e : Ex) → FitsStack k (start_row r) → FitsRow r k → FitsExs (more_ex es e) (suc (place_row r)) → i ≡ stop_exs (more_ex es e) (suc (place_row r)) → (x : TokenKind) →
      Stands p k (λ l. spell_row r (spell_exs (more_ex es e) (x ∷ l))) → Keeps i (after_item i k r (more_ex es e) x)
  k_after_item i k (array_row s) es e h g f j (Punct CloseBracket) d =
      let r : 10 ≤ 10 = omega arith in (k_primary k i s (elements (more_ex es e) false) h g r (f, λ c. absurd (false≢true c)) (ap suc j), d)
  k_after_item i k (call_row b ls s) es e h g f j (Punct CloseParen) d =
      ((h, g.0, link_more b ls s i (call (more_ex es e) false) (g.1) (f, λ c. absurd (false≢true c)) (ap suc j)), d)
  k_after_item i k (array_row s) es e h g f j (Punct Comma) d = ((h, g, f, ap suc j), d)
  k_after_item i k (call_row b ls s) es e h g f j (Punct Comma) d = ((h, g, f, ap suc j), d)
  k_after_item i k (array_row s) es e h g f j x d = tt
  k_after_item i k (call_row b ls s) es e h g f j x d = tt

  pub k_after_field : (i : ℕ) (k : Stack) (s : ℕ) (fs : Fields) (y : Field) → FitsStack k s → takes_ex k ≡ true → FitsFields (more_field fs y) (suc s) → i ≡ stop_fields (more_field fs y) (suc s) → (x : TokenKind) →
      Stands p k (λ l. Punct OpenBrace ∷ spell_fields (more_field fs y) (x ∷ l)) → Keeps i (after_field i k s (more_field fs y) x)
  k_after_field i k s fs y h t f j (Punct CloseBrace) d =
      let r : 10 ≤ 10 = omega arith in (k_primary k i s (fields (more_field fs y) false) h t r (f, λ c. absurd (false≢true c)) (ap suc j), d)
  k_after_field i k s fs y h t f j (Punct Comma) d = ((h, t, f, ap suc j), d)
  k_after_field i k s fs y h t f j x d = tt

  k_close : (i : ℕ) (k : Stack) (e : Ex) → FitsWhole k e i → (x : TokenKind) → Stands p k (λ l. spell_ex e (x ∷ l)) → Keeps i (close i k e x)
  k_close i [] e h x d = absurd (false≢true (h.1))
  k_close i (in_prefix s ps ∷ k) e h x d = k_close i k (ex s i (prefixed ps e)) (prefix_whole i k s ps e h) x (d.1)
  k_close i (in_chain s c f os y o ∷ k) e h x d = k_close i k (ex s i (chain c f (more_operand os (operand y i (right_side o e))))) (chain_whole i k s c f os y o e h) x (d.1)
  k_close i (in_last s hs ∷ k) e h x d = k_close i k (ex s i (cond hs e)) (last_whole i k s hs e h) x (d.1)
  k_close i (in_arrow g ∷ k) e h x d =
      let a = h.0.0 in let y = a.4 in let j = h.4 ∙ ap (stop_ex e) y in
      k_close i k (ex (start_sig g) i (arrow g (arrow_value e)))
      (h.0.1, a.0, a.1, (refl, j, (a.2, a.3, (begins_not not_brace e (start_ex e) (h.3) (λ l. x ∷ l) (d.0) (Punct OpenBrace) refl, subst (FitsEx e) y (h.3)))), j) x (d.1)
  k_close i (in_branch s hs c ∷ k) e h (Punct Colon) d =
      let a = h.0.0 in let z = stop_arms hs s in let y = a.5 in let j = ap suc (h.4 ∙ ap (stop_ex e) y) in
      ((((a.0, a.1, refl, (a.2, (start-of c z (a.4), j, a.3, a.4, subst (FitsEx e) y (h.3))), j), h.0.1), refl), (tt, d.1))
  k_close i (in_branch s hs c ∷ k) e h x d = tt
  k_close i (in_parens s ∷ k) e h (Punct CloseParen) d =
      let a = h.0.0 in let r : 10 ≤ 10 = omega arith in (k_primary k i s (parens e) (h.0.1) (a.0) r (subst (FitsEx e) (a.1) (h.3)) (ap suc (h.4 ∙ ap (stop_ex e) (a.1))), d.1)
  k_close i (in_parens s ∷ k) e h x d = tt
  k_close i (in_row r es ∷ k) e h x d =
      let a = h.0.0 in k_after_item i k r es e (h.0.1) (a.0) (a.1, subst (FitsEx e) (a.2) (h.3)) (h.4 ∙ ap (stop_ex e) (a.2)) x (d.1)
  k_close i (in_index b ls s ∷ k) e h (Punct CloseBracket) d =
      let a = h.0.0 in ((h.0.1, a.0, link_more b ls s i (index e) (a.1) (subst (FitsEx e) (a.2) (h.3)) (ap suc (h.4 ∙ ap (stop_ex e) (a.2)))), d.1)
  k_close i (in_index b ls s ∷ k) e h x d = tt
  k_close i (in_field s fs y ∷ k) e h x d =
      let a = h.0.0 in let z = stop_entries fs (suc s) in let j = h.4 ∙ ap (stop_ex e) (a.3) in
      k_after_field i k s fs (field (start_key y) i (valued y e)) (h.0.1) (a.0) (a.1, (start-key y z (a.2), j, (a.2, subst (FitsEx e) (a.3) (h.3)))) j x (d.1)
  k_close i (in_simple s v ∷ k) e h x d = k_end_value q p i k s v e (start_ex e) (h.0) (h.3) (h.4) x d
  k_close i (in_declaration s w n a ∷ k) e h (Punct Semicolon) d =
      let b = h.0.0 in let j = h.4 ∙ ap (stop_ex e) (b.3) in
      k_declaration q p i k s (declaration s i w n a e) (b.0) (h.0.1) (refl, j, b.1, b.2, subst (FitsEx e) (b.3) (h.3)) j (d.1)
  k_close i (in_declaration s w n a ∷ k) e h x d = tt
  k_close i (in_if_test s bs a ∷ k) e h (Punct CloseParen) d =
      let b = h.0.0 in ((((b.0, b.1, b.2, subst (FitsEx e) (b.3) (h.3), ap suc (h.4 ∙ ap (stop_ex e) (b.3))), h.0.1), refl), (tt, d.1))
  k_close i (in_if_test s bs a ∷ k) e h x d = tt
  k_close i (in_loop_test s ∷ k) e h (Punct CloseParen) d =
      let b = h.0.0 in ((((b.0, subst (FitsEx e) (b.1) (h.3), ap suc (h.4 ∙ ap (stop_ex e) (b.1))), h.0.1), refl), (tt, d.1))
  k_close i (in_loop_test s ∷ k) e h x d = tt
  k_close i (in_default a is ∷ k) e h (Punct Semicolon) d =
      let b = h.0.0 in
      k_item q p i k a is (exports (export_default e)) (b.0) (begins_not not_function e (start_ex e) (h.3) (λ l. Punct Semicolon ∷ l) (d.0) _ refl, subst (FitsEx e) (b.1) (h.3)) (ap suc (h.4 ∙ ap (stop_ex e) (b.1))) (d.1)
  k_close i (in_default a is ∷ k) e h x d = tt
  k_close i (f ∷ k) e h x d = tt

  k_settle_at : (i : ℕ) (k : Stack) (e : Ex) → FitsWhole k e i → (c : Turn) (x : TokenKind) → IsTurn c x → Stands p k (λ l. spell_ex e (x ∷ l)) → Keeps i (settle_at i k e c x)
  k_settle_at i k e h (joins w) x t d = k_join i k e (joint_level w) w refl h (subst (λ x. Stands p k (λ l. spell_ex e (x ∷ l))) (joint_is w x t) d)
  k_settle_at i k e h asks x t d = k_ask i k e h (subst (λ x. Stands p k (λ l. spell_ex e (x ∷ l))) t d)
  k_settle_at i k e h sticks x t d = tt
  k_settle_at i k e h ends x t d = k_close i k e h x d

  -- an expression is whole, and the token comes after it
  pub k_settle : (i : ℕ) (k : Stack) (e : Ex) → FitsWhole k e i → (x : TokenKind) → Stands p k (λ l. spell_ex e (x ∷ l)) → Keeps i (settle i k e x)
  k_settle i k e h x d = k_settle_at i k e h (turn x) x (turn_is x) d
