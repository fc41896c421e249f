-- How a simple statement begins at top level, where the word `type` may begin an alias.
use Rattle.std.proofs.Common.{◌≡◌, refl, sym, ◌∙◌, ap, subst, inl, inr, ℕ, suc, ◌&&◌, Bool, true, false, [], ◌∷◌, codes, if◌then◌else◌}
use Rattle.std.specs.Str.{bytes_eq}
use Rattle.std.proofs.lemmas.Slice.Eq.{bytes_eq-Decides}
use Rattle.std.proofs.lemmas.Bool.{false≢true}
use Rattle.js_token.specs.declared.token.TokenKind.{TokenKind}
use Rattle.js_token.specs.declared.token.TokenKind.TheVariants.{Name, Number, Str, Punct}
use Rattle.js_token.specs.declared.punct.Punct.TheVariants.{OpenBrace, OpenParen, OpenBracket, Bang, Minus, Plus}
use Rattle.js_grammar.specs.Words.{Bytes}
use Rattle.js_grammar.specs.TypeSpelling.{Tokens}
use Rattle.js_grammar.specs.Code.{Ex}
use Rattle.js_grammar.specs.CodeSpelling.{spell_ex}
use Rattle.js_grammar.specs.CodeFits.{BeginsPlain, FitsEx}
use Rattle.js_grammar.specs.Items.{Items, begins_word, begins_alias}
use Rattle.code_law.specs.Frames.{plain_item, evaluates, in_simple, in_item, want, items_start, after_type_word, Stack, go}
use Rattle.code_law.specs.Statements.{StatementWord, plain_word, statement_word, simple_word}
use Rattle.code_law.specs.Modules.{top_word}
use Rattle.code_law.specs.Machine.{resume, run}
use Rattle.code_law.proofs.Begins.{is_plain, opens, Starts, leads}

module _ (i : ℕ) (k : Stack) (is : Items) where
  abbrev below : Stack
  below = in_simple i evaluates ∷ in_item i plain_item is ∷ k

  -- the variable `type`
  type_variable : (l : Tokens) → begins_word l ≡ false → run i k (items_start is) (Name (codes "type") ∷ l) ≡ run i below want (Name (codes "type") ∷ l)
  type_variable [] a = refl
  type_variable (Name n ∷ l) a = absurd (false≢true (sym a))
  type_variable (x ∷ l) a = refl

  named : (n : Bytes) (l : Tokens) (b : Bool) → bytes_eq n (codes "type") ≡ b → is_plain (statement_word n) ≡ true → b && begins_word l ≡ false →
      run i k (items_start is) (Name n ∷ l) ≡ run i below want (Name n ∷ l)
  named n l true e p a = let q : codes "type" ≡ n = sym ((bytes_eq-Decides n (codes "type")).0 e) in
      subst (λ n. run i k (items_start is) (Name n ∷ l) ≡ run i below want (Name n ∷ l)) q (type_variable l a)
  named n l false e p a =
      ap (λ w. resume (λ k m. run (suc i) k m l) (top_word i k is n w) (Name n ∷ l)) (plain_only (statement_word n) p)
      ∙ ap (λ b. resume (λ k m. run (suc i) k m l) (if b then go k (after_type_word i is) else simple_word i (in_item i plain_item is ∷ k) n plain_word) (Name n ∷ l)) e
    where
      plain_only : (w : StatementWord) → is_plain w ≡ true → w ≡ plain_word
      plain_only plain_word h = refl
      plain_only w h = absurd (false≢true h)

  opened : (x : TokenKind) (l : Tokens) → opens x ≡ true → (x ≡ Punct OpenBrace → ⊥) → begins_alias (x ∷ l) ≡ false → run i k (items_start is) (x ∷ l) ≡ run i below want (x ∷ l)
  opened (Name n) l o b s = named n l (bytes_eq n (codes "type")) refl o s
  opened (Number n) l o b s = refl
  opened (Str n) l o b s = refl
  opened (Punct OpenBrace) l o b s = absurd (b refl)
  opened (Punct OpenParen) l o b s = refl
  opened (Punct OpenBracket) l o b s = refl
  opened (Punct Bang) l o b s = refl
  opened (Punct Minus) l o b s = refl
  opened (Punct Plus) l o b s = refl
  opened (Punct p) l o b s = absurd (false≢true o)

  -- an expression at the head of a simple statement
  pub begin_top : (e : Ex) → FitsEx e i → BeginsPlain e → (l : Tokens) → begins_alias (spell_ex e l) ≡ false → run i k (items_start is) (spell_ex e l) ≡ run i below want (spell_ex e l)
  begin_top e h p l a =
      let d = leads e i h in let q = (d.2 l).1 in
      ap (run i k (items_start is)) q ∙ at (d.0) ((d.2 l).0) (d.1) (d.2 []) (sym (ap begins_alias q) ∙ a) ∙ sym (ap (run i below want) q)
    where
      at : (x : TokenKind) (r : Tokens) → Starts x → (r : Tokens) × (spell_ex e [] ≡ x ∷ r) → begins_alias (x ∷ r) ≡ false → run i k (items_start is) (x ∷ r) ≡ run i below want (x ∷ r)
      at x r (inr g) d s = absurd (p.1 (d.0) (d.1 ∙ ap (λ x. x ∷ d.0) g))
      at x r (inl g) d s = opened x r g (λ b. p.0 (d.0) (d.1 ∙ ap (λ x. x ∷ d.0) b)) s
