-- How expressions begin: behind an open bracket they are read as where any expression may begin.
use Rattle.std.proofs.Common.{◌≡◌, refl, sym, ◌∙◌, ap, ◌⊎◌, inl, inr, ℕ, suc, Bool, true, false, [], ◌∷◌, codes}
use Rattle.std.proofs.lemmas.Bool.{false≢true}
use Rattle.js_token.specs.declared.token.TokenKind.{TokenKind}
use Rattle.js_token.specs.declared.token.TokenKind.TheVariants.{Name, Number, Str, Punct}
use Rattle.js_token.specs.declared.punct.Punct.{Punct as Mark}
use Rattle.js_token.specs.declared.punct.Punct.TheVariants.{OpenBrace, OpenParen, CloseParen, OpenBracket, CloseBracket, Colon, Question, Plus, Minus, Bang}
use Rattle.js_grammar.specs.Words.{Bytes, IsName}
use Rattle.js_grammar.specs.TypeSpelling.{Tokens}
use Rattle.js_grammar.specs.Machine.{first}
use Rattle.js_grammar.specs.Code.{Prefix, negation, minus_sign, plus_sign, kind_of, Prefixes, no_prefix, more_prefix, Operator, Ex, ex, ExForm, variable, number, text, truth_value, null_value, parens, elements, fields, function_ex, postfixed, prefixed, chain, cond, arrow, Exs, Link, link, member, index, call, Links, no_link, more_link, Operand, operand, right_side, as_type, Operands, no_operand, more_operand, arm, Arms, no_arm, more_arm, function, Sig, sig, nullish, or, and, strict_equal, strict_not_equal, loose_equal, loose_not_equal, less, greater, less_or_equal, greater_or_equal, add, subtract, multiply, divide, remainder, has_arms}
use Rattle.js_grammar.specs.CodeSpelling.{prefix_token, mark_of, spell_prefixes, spell_ex, spell_ex_form, spell_links, spell_link, spell_operands, spell_operand, spell_arms, spell_arm}
use Rattle.js_grammar.specs.CodePlaces.{stop_ex}
use Rattle.js_grammar.specs.CodeFits.{BeginsNot, FitsEx, FitsExForm, FitsArms}
use Rattle.code_law.specs.Frames.{Row, array_row, call_row, in_parens, in_row, in_arrow, Mode, want, row_start, paren_start, arrow_start, Stack}
use Rattle.code_law.specs.Expressions.{want_step, row_step, arrow_step}
use Rattle.code_law.specs.Statements.{StatementWord, plain_word, statement_word}
use Rattle.code_law.specs.Machine.{step, resume, run}

abbrev pub is_plain : StatementWord → Bool
is_plain plain_word = true
is_plain w = false

abbrev pub opens_mark : Mark → Bool
opens_mark OpenParen = true
opens_mark OpenBracket = true
opens_mark OpenBrace = true
opens_mark Bang = true
opens_mark Minus = true
opens_mark Plus = true
opens_mark _ = false

-- the tokens with which an expression may begin, but `function`
abbrev pub opens : TokenKind → Bool
opens (Name n) = is_plain (statement_word n)
opens (Number n) = true
opens (Str s) = true
opens (Punct p) = opens_mark p

abbrev pub Starts : TokenKind → Type 0
Starts x = (opens x ≡ true) ⊎ (x ≡ Name (codes "function"))

-- the same where all words are alike
abbrev pub loose : TokenKind → Bool
loose (Punct p) = opens_mark p
loose x = true

pub starts_loose : (x : TokenKind) → Starts x → loose x ≡ true
starts_loose (Name n) s = refl
starts_loose (Number n) s = refl
starts_loose (Str n) s = refl
starts_loose (Punct p) (inl h) = h
starts_loose (Punct p) (inr e) = cc

name_opens : (n : Bytes) → IsName n → opens (Name n) ≡ true
name_opens n h = rw h refl

-- a spelling begins with one of them, whatever follows
abbrev pub Leads : (Tokens → Tokens) → Type 0
Leads s = (x : TokenKind) × Starts x × ((l : Tokens) → (r : Tokens) × (s l ≡ x ∷ r))

leads_prefixes : (ps : Prefixes) (x : Prefix) → Leads (λ l. spell_prefixes ps (prefix_token x ∷ l))
leads_prefixes no_prefix negation = (Punct Bang, inl refl, λ l. (l, refl))
leads_prefixes no_prefix minus_sign = (Punct Minus, inl refl, λ l. (l, refl))
leads_prefixes no_prefix plus_sign = (Punct Plus, inl refl, λ l. (l, refl))
leads_prefixes no_prefix kind_of = (prefix_token kind_of, inl refl, λ l. (l, refl))
leads_prefixes (more_prefix ps p y) x = let d = leads_prefixes ps y in (d.0, d.1, λ l. d.2 (prefix_token x ∷ l))

mutual
  pub leads : (e : Ex) (i : ℕ) → FitsEx e i → Leads (spell_ex e)
  leads (ex f t x) i h = leads_form x i (h.2)

  leads_form : (x : ExForm) (i : ℕ) → FitsExForm x i → Leads (spell_ex_form x)
  leads_form (variable n) i h = (Name n, inl (name_opens n h), λ l. (l, refl))
  leads_form (number n) i h = (Number n, inl refl, λ l. (l, refl))
  leads_form (text s) i h = (Str s, inl refl, λ l. (l, refl))
  leads_form (truth_value true) i h = (Name _, inl refl, λ l. (l, refl))
  leads_form (truth_value false) i h = (Name _, inl refl, λ l. (l, refl))
  leads_form null_value i h = (Name _, inl refl, λ l. (l, refl))
  leads_form (parens e) i h = (Punct OpenParen, inl refl, λ l. (_, refl))
  leads_form (elements es c) i h = (Punct OpenBracket, inl refl, λ l. (_, refl))
  leads_form (fields fs c) i h = (Punct OpenBrace, inl refl, λ l. (_, refl))
  leads_form (function_ex (function f t n s b)) i h = (Name _, inr refl, λ l. (_, refl))
  leads_form (postfixed e ls) i h = let d = leads e i (h.1) in (d.0, d.1, λ l. d.2 (spell_links ls l))
  leads_form (prefixed no_prefix e) i h = absurd (false≢true (h.0))
  leads_form (prefixed (more_prefix ps p x) e) i h = let d = leads_prefixes ps x in (d.0, d.1, λ l. d.2 (spell_ex e l))
  leads_form (chain p e os) i h = let d = leads e i (h.1) in (d.0, d.1, λ l. d.2 (spell_operands os l))
  leads_form (cond hs e) i h = let d = leads_arms hs i (h.0) (h.1) in (d.0, d.1, λ l. d.2 (spell_ex e l))
  leads_form (arrow (sig f t ps c r) b) i h = (Punct OpenParen, inl refl, λ l. (_, refl))

  leads_arms : (hs : Arms) (i : ℕ) → has_arms hs ≡ true → FitsArms hs i → Leads (spell_arms hs)
  leads_arms no_arm i n h = absurd (false≢true n)
  leads_arms (more_arm no_arm (arm f t a b)) i n h = let d = leads a i (h.1.3) in (d.0, d.1, λ l. d.2 (Punct Question ∷ spell_ex b (Punct Colon ∷ l)))
  leads_arms (more_arm (more_arm hs y) a) i n h = let d = leads_arms (more_arm hs y) i refl (h.0) in (d.0, d.1, λ l. d.2 (spell_arm a l))

-- a mode that takes the first token as one where an expression may begin
pub begin_with : (e : Ex) (i : ℕ) → FitsEx e i → (j : ℕ) (k a : Stack) (m : Mode) → ((x : TokenKind) → Starts x → BeginsNot x e ⊎ (step j k m x ≡ want_step j a x)) → (l : Tokens) →
    run j k m (spell_ex e l) ≡ run j a want (spell_ex e l)
begin_with e i h j k a m f l =
    let d = leads e i h in ap (run j k m) ((d.2 l).1) ∙ same (d.0) ((d.2 l).0) (f (d.0) (d.1)) (d.2 []) ∙ sym (ap (run j a want) ((d.2 l).1))
  where
    same : (x : TokenKind) (r : Tokens) → BeginsNot x e ⊎ (step j k m x ≡ want_step j a x) → (r : Tokens) × (spell_ex e [] ≡ x ∷ r) → run j k m (x ∷ r) ≡ run j a want (x ∷ r)
    same x r (inl g) d = absurd (g (d.0) (d.1))
    same x r (inr g) d = ap (λ s. resume (λ k m. run (suc j) k m r) s (x ∷ r)) g

row_opens : (r : Row) (es : Exs) (j : ℕ) (k : Stack) (x : TokenKind) → loose x ≡ true → row_step j k r es x ≡ want_step j (in_row r es ∷ k) x
row_opens (array_row s) es j k (Punct CloseBracket) h = absurd (false≢true h)
row_opens (call_row b ls s) es j k (Punct CloseParen) h = absurd (false≢true h)
row_opens (array_row s) es j k x h = refl
row_opens (call_row b ls s) es j k x h = refl

pub begin_item : (e : Ex) (i : ℕ) → FitsEx e i → (k : Stack) (r : Row) (es : Exs) (l : Tokens) → run i k (row_start r es) (spell_ex e l) ≡ run i (in_row r es ∷ k) want (spell_ex e l)
begin_item e i h k r es l = begin_with e i h i k (in_row r es ∷ k) (row_start r es) (λ x o. inr (row_opens r es i k x (starts_loose x o))) l

body_opens : (e : Ex) → BeginsNot (Punct OpenBrace) e → (j : ℕ) (k : Stack) (g : Sig) (x : TokenKind) → loose x ≡ true → BeginsNot x e ⊎ (arrow_step j k g x ≡ want_step j (in_arrow g ∷ k) x)
body_opens e n j k g (Punct OpenBrace) h = inl n
body_opens e n j k g x h = inr refl

pub begin_body : (e : Ex) (i : ℕ) → FitsEx e i → BeginsNot (Punct OpenBrace) e → (k : Stack) (g : Sig) (l : Tokens) → run i k (arrow_start g) (spell_ex e l) ≡ run i (in_arrow g ∷ k) want (spell_ex e l)
begin_body e i h n k g l = begin_with e i h i k (in_arrow g ∷ k) (arrow_start g) (λ x o. body_opens e n i k g x (starts_loose x o)) l

-- neither `:` nor `? :` stands here
abbrev not_colon : TokenKind → Bool
not_colon (Punct Colon) = false
not_colon _ = true

abbrev apart : Tokens → Bool
apart (Punct Colon ∷ l) = false
apart (Punct Question ∷ l) = not_colon (first l)
apart _ = true

opens_apart : (x : TokenKind) → loose x ≡ true → not_colon x ≡ true
opens_apart (Punct Colon) h = absurd (false≢true h)
opens_apart x h = refl

apart_links : (ls : Links) (y : Link) (l : Tokens) → apart (spell_links ls (spell_link y l)) ≡ true
apart_links no_link (link f t (member n)) l = refl
apart_links no_link (link f t (index e)) l = refl
apart_links no_link (link f t (call es c)) l = refl
apart_links (more_link ls y) z l = apart_links ls y (spell_link z l)

apart_mark : (o : Operator) (l : Tokens) → apart (Punct (mark_of o) ∷ l) ≡ true
apart_mark nullish l = refl
apart_mark or l = refl
apart_mark and l = refl
apart_mark strict_equal l = refl
apart_mark strict_not_equal l = refl
apart_mark loose_equal l = refl
apart_mark loose_not_equal l = refl
apart_mark less l = refl
apart_mark greater l = refl
apart_mark less_or_equal l = refl
apart_mark greater_or_equal l = refl
apart_mark add l = refl
apart_mark subtract l = refl
apart_mark multiply l = refl
apart_mark divide l = refl
apart_mark remainder l = refl

apart_operands : (os : Operands) (o : Operand) (l : Tokens) → apart (spell_operands os (spell_operand o l)) ≡ true
apart_operands no_operand (operand f t (right_side o e)) l = apart_mark o (spell_ex e l)
apart_operands no_operand (operand f t (as_type v)) l = refl
apart_operands (more_operand os o) u l = apart_operands os o (spell_operand u l)

-- a variable behind `(`
paren_name : (n : Bytes) → IsName n → (i : ℕ) (k : Stack) (s : ℕ) (l : Tokens) → apart l ≡ true → run i k (paren_start s) (Name n ∷ l) ≡ run i (in_parens s ∷ k) want (Name n ∷ l)
paren_name n h i k s [] a = rw h refl
paren_name n h i k s (Punct Colon ∷ l) a = absurd (false≢true a)
paren_name n h i k s (Punct Question ∷ []) a = rw h refl
paren_name n h i k s (Punct Question ∷ Punct Colon ∷ l) a = absurd (false≢true a)
paren_name n h i k s (Punct Question ∷ x ∷ l) a = rw h refl
paren_name n h i k s (x ∷ l) a = rw h refl

begin_prefixes : (ps : Prefixes) (x : Prefix) (i : ℕ) (k : Stack) (s : ℕ) (l : Tokens) →
    run i k (paren_start s) (spell_prefixes ps (prefix_token x ∷ l)) ≡ run i (in_parens s ∷ k) want (spell_prefixes ps (prefix_token x ∷ l))
begin_prefixes no_prefix negation i k s l = refl
begin_prefixes no_prefix minus_sign i k s l = refl
begin_prefixes no_prefix plus_sign i k s l = refl
begin_prefixes no_prefix kind_of i k s l = refl
begin_prefixes (more_prefix ps p y) x i k s l = begin_prefixes ps y i k s (prefix_token x ∷ l)

mutual
  -- an expression behind `(`, where no colon follows that makes it a parameter
  pub begin_parens : (e : Ex) (i : ℕ) → FitsEx e i → (k : Stack) (s : ℕ) (l : Tokens) → apart l ≡ true → run i k (paren_start s) (spell_ex e l) ≡ run i (in_parens s ∷ k) want (spell_ex e l)
  begin_parens (ex f t x) i h k s l a = begin_form x i (h.2) k s l a

  begin_form : (x : ExForm) (i : ℕ) → FitsExForm x i → (k : Stack) (s : ℕ) (l : Tokens) → apart l ≡ true → run i k (paren_start s) (spell_ex_form x l) ≡ run i (in_parens s ∷ k) want (spell_ex_form x l)
  begin_form (variable n) i h k s l a = paren_name n h i k s l a
  begin_form (number n) i h k s l a = refl
  begin_form (text n) i h k s l a = refl
  begin_form (truth_value true) i h k s l a = refl
  begin_form (truth_value false) i h k s l a = refl
  begin_form null_value i h k s l a = refl
  begin_form (parens e) i h k s l a = refl
  begin_form (elements es c) i h k s l a = refl
  begin_form (fields fs c) i h k s l a = refl
  begin_form (function_ex (function f t n g b)) i h k s l a = refl
  begin_form (postfixed e no_link) i h k s l a = absurd (false≢true (h.2))
  begin_form (postfixed e (more_link ls y)) i h k s l a = begin_parens e i (h.1) k s (spell_links ls (spell_link y l)) (apart_links ls y l)
  begin_form (prefixed no_prefix e) i h k s l a = absurd (false≢true (h.0))
  begin_form (prefixed (more_prefix ps p x) e) i h k s l a = begin_prefixes ps x i k s (spell_ex e l)
  begin_form (chain p e no_operand) i h k s l a = absurd (false≢true (h.2))
  begin_form (chain p e (more_operand os o)) i h k s l a = begin_parens e i (h.1) k s (spell_operands os (spell_operand o l)) (apart_operands os o l)
  begin_form (cond hs e) i h k s l a = begin_arms hs i (h.0) (h.1) k s (spell_ex e l)
  begin_form (arrow (sig f t ps c r) b) i h k s l a = refl

  begin_arms : (hs : Arms) (i : ℕ) → has_arms hs ≡ true → FitsArms hs i → (k : Stack) (s : ℕ) (l : Tokens) →
      run i k (paren_start s) (spell_arms hs l) ≡ run i (in_parens s ∷ k) want (spell_arms hs l)
  begin_arms no_arm i n h k s l = absurd (false≢true n)
  begin_arms (more_arm no_arm (arm f t a b)) i n h k s l =
      let d = leads b (suc (stop_ex a i)) (h.1.4) in
      begin_parens a i (h.1.3) k s (Punct Question ∷ spell_ex b (Punct Colon ∷ l)) (ap (λ l. not_colon (first l)) ((d.2 (Punct Colon ∷ l)).1) ∙ opens_apart (d.0) (starts_loose (d.0) (d.1)))
  begin_arms (more_arm (more_arm hs y) a) i n h k s l = begin_arms (more_arm hs y) i refl (h.0) k s (spell_arm a l)
