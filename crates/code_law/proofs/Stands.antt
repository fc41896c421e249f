-- What stands above a stack may go on, and may be written otherwise.
use Rattle.std.proofs.Common.{◌≡◌, refl, sym, ◌∙◌, ap, false, [], ◌∷◌, ◌++◌, Bool, ℕ}
use Rattle.std.proofs.lemmas.List.{append_assoc}
use Rattle.std.proofs.lemmas.Bool.{true≢false}
use Rattle.js_token.specs.declared.token.TokenKind.{TokenKind}
use Rattle.js_grammar.specs.TypeSpelling.{Tokens}
use Rattle.js_grammar.specs.Code.{Ex}
use Rattle.js_grammar.specs.CodeSpelling.{spell_ex}
use Rattle.js_grammar.specs.CodeFits.{BeginsNot, FitsEx}
use Rattle.js_grammar.specs.Items.{begins_alias}
use Rattle.code_law.specs.Frames.{Frame, in_arrow, in_simple, in_item, in_default, plain_item, evaluates, Stack}
use Rattle.code_law.proofs.States.{spell_frame, Opens, Claim, Stands}
use Rattle.code_law.proofs.Begins.{leads}

opens_more : (p : TokenKind → Bool) (s r h : Tokens → Tokens) → ((l : Tokens) → r l ≡ s (h l)) → Opens p s → Opens p r
opens_more p s r h e c = (c.0, c.1, λ l. let d = c.2 (h l) in (d.0, e l ∙ d.1))

claim_more : (f : Frame) (s r h : Tokens → Tokens) → ((l : Tokens) → r l ≡ s (h l)) → Claim f s → Claim f r
claim_more (in_simple i evaluates) s r h e c = opens_more _ s r h e c
claim_more (in_arrow g) s r h e c = opens_more _ s r h e c
claim_more (in_default a is) s r h e c = opens_more _ s r h e c
claim_more (in_item a plain_item is) s r h e c = λ l. ap begins_alias (e l) ∙ c (h l)
claim_more f s r h e c = tt

-- equal spellings stand for each other
pub stands_moved : (q : Tokens) (k : Stack) (s r : Tokens → Tokens) → ((l : Tokens) → r l ≡ s l) → Stands q k s → Stands q k r
stands_moved q [] s r e h = λ l. e l ∙ h l
stands_moved q (f ∷ k) s r e h = (claim_more f s r (λ l. l) e (h.0), stands_moved q k (λ l. spell_frame f (s l)) (λ l. spell_frame f (r l)) (λ l. ap (spell_frame f) (e l)) (h.1))

-- with a further token
pub stands_more : (q : Tokens) (x : TokenKind) (k : Stack) (s : Tokens → Tokens) → Stands q k s → Stands (q ++ x ∷ []) k (λ l. s (x ∷ l))
stands_more q x [] s h = λ l. h (x ∷ l) ∙ sym (append_assoc q (x ∷ []) l)
stands_more q x (f ∷ k) s h = (claim_more f s (λ l. s (x ∷ l)) (λ l. x ∷ l) (λ l. refl) (h.0), stands_more q x k (λ l. spell_frame f (s l)) (h.1))

heads : {x y : TokenKind} {l r : Tokens} → x ∷ l ≡ y ∷ r → x ≡ y
heads e = cc

-- an expression does not begin with a token that the claim refuses
pub begins_not : (p : TokenKind → Bool) (e : Ex) (i : ℕ) → FitsEx e i → (h : Tokens → Tokens) → Opens p (λ l. spell_ex e (h l)) → (y : TokenKind) → p y ≡ false → BeginsNot y e
begins_not p e i f h o y n l q =
    let d = leads e i f in
    let a : d.0 ≡ y = heads (sym ((d.2 []).1) ∙ q) in
    let b : o.0 ≡ d.0 = heads (sym ((o.2 []).1) ∙ (d.2 (h [])).1) in
    true≢false (sym (o.1) ∙ ap p (b ∙ a) ∙ n)
