-- What waits for a type goes on behind it.
use Rattle.std.proofs.Common.{◌≡◌, ◌∙◌, ap, ℕ, suc, false, ◌∷◌, ◌++◌}
use Rattle.js_token.specs.declared.token.TokenKind.{TokenKind}
use Rattle.js_grammar.specs.Types.{Ty}
use Rattle.js_grammar.specs.TypeSpelling.{Tokens}
use Rattle.js_grammar.specs.TypeFits.{stop}
use Rattle.js_grammar.specs.Machine as ty
use Rattle.js_grammar.specs.GoesOn.{goes_on_type}
use Rattle.code_law.specs.Frames.{Waiting, Stack, typing}
use Rattle.code_law.specs.Expressions.{after_type, takes_function}
use Rattle.code_law.proofs.Embedded.{continued, embedded}
use Rattle.code_law.proofs.Typing.{Typing, finish_typing}
use Rattle.code_law.proofs.Closing.{Completes, Goes, resumed}

-- the tokens of a type, and one behind it with which what waits goes on
pub after_typing : (i : ℕ) (k : Stack) (w : Waiting) (z : ℕ) (a : ty.Stack) (m : ty.Mode) (q : Tokens) → Typing (takes_function w) z i a m q →
    (x : TokenKind) → goes_on_type (takes_function w) x ≡ false → ((j : ℕ) (t : Ty) → Goes (suc j) (after_type j k w t x)) → Completes i k (typing w a m)
after_typing i k w z a m q r x e f =
    let c = finish_typing (takes_function w) z i a m q r in
    let j = stop (c.0) z in
    let g = resumed j (after_type j k w (c.0) x) x (f j (c.0)) in
    (c.1 ++ x ∷ g.0, g.1, embedded z k w (c.1 ++ x ∷ g.0) i a m (r.fits) ∙ ap (continued z k w) (c.2 (x ∷ g.0) e) ∙ g.2)
