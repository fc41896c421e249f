-- An expression in front of tokens that don't go on it is read as itself.
use Rattle.std.proofs.Common.{◌≡◌, refl, sym, ◌∙◌, ap, subst, ℕ, ◌≤◌, false, [], ◌∷◌, arith, if◌then◌else◌}
use Rattle.std.proofs.lemmas.Bool.{true≢false}
use Rattle.js_token.specs.declared.token.TokenKind.{TokenKind}
use Rattle.js_token.specs.declared.token.TokenKind.TheVariants.{Name, Punct}
use Rattle.js_token.specs.declared.punct.Punct.TheVariants.{QuestionQuestion, OrOr, AndAnd, StrictEqual, StrictNotEqual, LooseEqual, LooseNotEqual, LessThan, GreaterThan, LessOrEqual, GreaterOrEqual, Plus, Minus, Star, Slash, Percent, Question, Dot, OpenParen, OpenBracket, Arrow as ArrowMark, Bar}
use Rattle.js_grammar.specs.TypeSpelling.{Tokens}
use Rattle.js_grammar.specs.GoesOn.{IsEnded}
use Rattle.js_grammar.specs.Machine.{first}
use Rattle.js_grammar.specs.Code.{Ex, ex_rank}
use Rattle.js_grammar.specs.CodeSpelling.{spell_ex}
use Rattle.js_grammar.specs.CodePlaces.{stop_ex}
use Rattle.js_grammar.specs.CodeFits.{FitsEx}
use Rattle.code_law.specs.Frames.{done}
use Rattle.code_law.specs.Ladder.{joins, casts, ends, turn, settle_at}
use Rattle.code_law.specs.Machine.{whole, go_on, read_expression}
use Rattle.code_law.specs.GoesOn.{goes_on_expression}
use Rattle.code_law.specs.Law.{SameSpellingSameExpression, SameFrontSameExpression}
use Rattle.code_law.proofs.Ladder.{hold}
use Rattle.code_law.proofs.Complete.{c_ex}

ends_there : (x : TokenKind) → goes_on_expression x ≡ false → turn x ≡ ends
ends_there (Name n) e = ap (λ b. if b then joins casts else ends) e
ends_there (Punct QuestionQuestion) e = absurd (true≢false e)
ends_there (Punct OrOr) e = absurd (true≢false e)
ends_there (Punct AndAnd) e = absurd (true≢false e)
ends_there (Punct StrictEqual) e = absurd (true≢false e)
ends_there (Punct StrictNotEqual) e = absurd (true≢false e)
ends_there (Punct LooseEqual) e = absurd (true≢false e)
ends_there (Punct LooseNotEqual) e = absurd (true≢false e)
ends_there (Punct LessThan) e = absurd (true≢false e)
ends_there (Punct GreaterThan) e = absurd (true≢false e)
ends_there (Punct LessOrEqual) e = absurd (true≢false e)
ends_there (Punct GreaterOrEqual) e = absurd (true≢false e)
ends_there (Punct Plus) e = absurd (true≢false e)
ends_there (Punct Minus) e = absurd (true≢false e)
ends_there (Punct Star) e = absurd (true≢false e)
ends_there (Punct Slash) e = absurd (true≢false e)
ends_there (Punct Percent) e = absurd (true≢false e)
ends_there (Punct Question) e = absurd (true≢false e)
ends_there (Punct Dot) e = absurd (true≢false e)
ends_there (Punct OpenParen) e = absurd (true≢false e)
ends_there (Punct OpenBracket) e = absurd (true≢false e)
ends_there (Punct ArrowMark) e = absurd (true≢false e)
ends_there (Punct Bar) e = absurd (true≢false e)
ends_there _ e = refl

no_more : (l : Tokens) → IsEnded goes_on_expression l → turn (first l) ≡ ends
no_more [] h = refl
no_more (x ∷ l) h = ends_there x h

whole_done : (z : ℕ) (e : Ex) (l : Tokens) → go_on z (done e) l ≡ whole e l
whole_done z e [] = refl
whole_done z e (x ∷ l) = refl

in_front : (i : ℕ) (e : Ex) → FitsEx e i → (l : Tokens) → IsEnded goes_on_expression l → read_expression i (spell_ex e l) ≡ whole e l
in_front i e h l n =
    let z = stop_ex e i in let q = no_more l n in
    c_ex e i h [] (omega arith) l (subst (λ t. hold t ≤ ex_rank e) (sym q) (omega arith)) ∙ ap (λ t. go_on z (settle_at z [] e t (first l)) l) q ∙ whole_done z e l

same_whole : (a b : Ex) (m n : Tokens) → whole a m ≡ whole b n → a ≡ b
same_whole a b m n e = cc

pub same_front : SameFrontSameExpression
same_front i a b f g m n e p q = same_whole a b m n (sym (in_front i a f m p) ∙ ap (read_expression i) e ∙ in_front i b g n q)

pub same_expression : SameSpellingSameExpression
same_expression i a b f g e = same_front i a b f g [] [] e tt tt
