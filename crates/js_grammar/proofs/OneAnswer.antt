-- A type's spelling is as long as its places say, and reading one has one answer.
use Rattle.std.proofs.Common.{◌≡◌, refl, sym, ◌∙◌, ap, ap₂, subst, ◌⊎◌, inl, inr, ℕ, ◌+◌, Bool, true, false, [], ◌∷◌, ◌++◌, length, drop, length-drop, append-nil, arith}
use Rattle.std.proofs.lemmas.List.{length-append}
use Rattle.js_token.specs.declared.token.TokenKind.{TokenKind}
use Rattle.js_grammar.specs.Types.{Ty, ty}
use Rattle.js_grammar.specs.TypeSpelling.{Tokens, spell}
use Rattle.js_grammar.specs.TypeFits.{Fits}
use Rattle.js_grammar.specs.GoesOn.{goes_on_type, IsEnded}
use Rattle.js_grammar.specs.Machine.{first, whole, read_tokens}
use Rattle.js_grammar.specs.Reads.{IsType, BeginsWithin, IsGreatest}
use Rattle.js_grammar.specs.Law.{SameSpellingSameType, SameFrontSameType, EndsBehindItsTokens, EndsWhereTheRestBegins, FindsOneType, FaultsAtOnePlace, FindsOrFaults}
use Rattle.js_grammar.proofs.Complete.{reads_spelling}
use Rattle.js_grammar.proofs.Front.{counted, f_ty}

same_whole : (a b : Ty) (m n : Tokens) → whole a m ≡ whole b n → a ≡ b
same_whole a b m n e = cc

ended : (goes_on : TokenKind → Bool) (l : Tokens) → IsEnded goes_on l → goes_on (first []) ≡ false → goes_on (first l) ≡ false
ended goes_on [] h e = e
ended goes_on (x ∷ l) h e = h

-- a type in front of tokens that don't go on it is read as itself
in_front : (plain : Bool) (i : ℕ) (a : Ty) → IsType plain i a → (l : Tokens) → IsEnded (goes_on_type plain) l → read_tokens plain i (spell a l) ≡ whole a l
in_front plain i a h l e = reads_spelling plain a i (h.0) (h.1) l (ended (goes_on_type plain) l e refl)

pub same_front : SameFrontSameType
same_front plain i a b f g m n e p q = same_whole a b m n (sym (in_front plain i a f m p) ∙ ap (read_tokens plain i) e ∙ in_front plain i b g n q)

pub same_type : SameSpellingSameType
same_type i a b f g e = same_front true i a b (f, λ x. refl) (g, λ x. refl) [] [] e tt tt

-- the spelling before tokens is the spelling, and then the tokens
pub spelled_before : (t : Ty) (l : Tokens) → spell t l ≡ spell t [] ++ l
spelled_before t l = let a = f_ty t in a.1 l ∙ ap (λ q. q ++ l) (sym (a.1 [] ∙ append-nil (a.0)))

pub ends_behind : EndsBehindItsTokens
ends_behind i (ty f t lead ps) h = (h.0, h.1 ∙ counted (f_ty (ty f t lead ps)) i)

pub ends_before_rest : EndsWhereTheRestBegins
ends_before_rest plain l from end t least most f =
    let p = ends_behind from t (f.0.0) in
    let whole : length (drop from l) ≡ length (spell t []) + length (drop end l) = ap length (f.1 ∙ spelled_before t (drop end l)) ∙ length-append (spell t []) (drop end l) in
    (p.0, (let a = p.1 in let b = length-drop from l in let c = length-drop end l in omega arith))

tails : {x y : TokenKind} {l r : Tokens} → x ∷ l ≡ y ∷ r → (x ≡ y) × (l ≡ r)
tails e = ((let f = e in cc), (let f = e in cc))

-- of two parts in front of one list, one is in front of the other
pub apart : (a b r s : Tokens) → a ++ r ≡ b ++ s → ((m : Tokens) × (b ≡ a ++ m) × (r ≡ m ++ s)) ⊎ ((m : Tokens) × (a ≡ b ++ m) × (s ≡ m ++ r))
apart [] b r s e = inl (b, refl, e)
apart (x ∷ a) [] r s e = inr (x ∷ a, refl, sym e)
apart (x ∷ a) (y ∷ b) r s e = further (apart a b r s ((tails e).1))
  where
    further : ((m : Tokens) × (b ≡ a ++ m) × (r ≡ m ++ s)) ⊎ ((m : Tokens) × (a ≡ b ++ m) × (s ≡ m ++ r)) →
        ((m : Tokens) × (y ∷ b ≡ x ∷ a ++ m) × (r ≡ m ++ s)) ⊎ ((m : Tokens) × (x ∷ a ≡ y ∷ b ++ m) × (s ≡ m ++ r))
    further (inl h) = inl (h.0, ap₂ (λ y b. y ∷ b) (sym ((tails e).0)) (h.1), h.2)
    further (inr h) = inr (h.0, ap₂ (λ x a. x ∷ a) ((tails e).0) (h.1), h.2)

module _ (plain : Bool) (i : ℕ) where
  -- two parts in front of one list that are each the greatest are one
  one_part : (a b r s : Tokens) → a ++ r ≡ b ++ s → IsGreatest plain i a r → IsGreatest plain i b s → (a ≡ b) × (r ≡ s)
  one_part a b r s e g h = by (apart a b r s e)
    where
      by : ((m : Tokens) × (b ≡ a ++ m) × (r ≡ m ++ s)) ⊎ ((m : Tokens) × (a ≡ b ++ m) × (s ≡ m ++ r)) → (a ≡ b) × (r ≡ s)
      by (inl (m, p, q)) = let z = g.1 m s q (subst (BeginsWithin plain i) p (h.0)) in (sym (p ∙ ap (λ m. a ++ m) z ∙ append-nil a), q ∙ ap (λ m. m ++ s) z)
      by (inr (m, p, q)) = let z = h.1 m r q (subst (BeginsWithin plain i) p (g.0)) in (p ∙ ap (λ m. b ++ m) z ∙ append-nil b, sym (q ∙ ap (λ m. m ++ r) z))

pub finds_one : FindsOneType
finds_one plain i l t u r s f g =
    let p = one_part plain i (spell t []) (spell u []) r s (sym (spelled_before t r) ∙ sym (f.1) ∙ g.1 ∙ spelled_before u s) (f.2) (g.2) in
    (same_type i t u (f.0.0) (g.0.0) (p.0), p.1)

pub faults_once : FaultsAtOnePlace
faults_once plain i l r s f g = (one_part plain i (f.0) (g.0) r s (sym (f.1) ∙ g.1) (f.2) (g.2)).1

pub finds_or_faults : FindsOrFaults
finds_or_faults plain i l t r s f g =
    let p = one_part plain i (spell t []) (g.0) r s (sym (spelled_before t r) ∙ sym (f.1) ∙ g.1) (f.2) (g.2) in g.3 t (f.0) (p.0)
