-- What becomes of a whole expression in a form that ends with it, or that waits for a block.
use Rattle.std.proofs.Common.{◌≡◌, refl, ℕ, ◌∷◌}
use Rattle.js_token.specs.declared.token.TokenKind.{TokenKind}
use Rattle.js_grammar.specs.Code.{Ex}
use Rattle.code_law.specs.Frames.{Stack, fault}
use Rattle.code_law.specs.Ladder.{close}
use Rattle.code_state.specs.Forms.{operator_frame_view, tail_view, body_frame_view}
use Rattle.code_state.specs.declared.frames.OperatorFrame.{OperatorFrame}
use Rattle.code_state.specs.declared.frames.OperatorFrame.TheVariants as operator
use Rattle.code_state.specs.declared.frames.TailFrame.{TailFrame}
use Rattle.code_state.specs.declared.frames.TailFrame.TheVariants as tail
use Rattle.code_state.specs.declared.frames.BodyFrame.{BodyFrame}
use Rattle.code_state.specs.declared.frames.BodyFrame.TheVariants as body
use Rattle.code_chains.specs.Ended.{ended}

pub close-operator : (i : ℕ) (f : OperatorFrame) (k : Stack) (e : Ex) (x : TokenKind) → close i (operator_frame_view f ∷ k) e x ≡ close i k (ended i (operator_frame_view f) e) x
close-operator i (operator.Prefix s ps) k e x = refl
close-operator i (operator.Chain c d o) k e x = refl

pub close-tail : (i : ℕ) (f : TailFrame) (k : Stack) (e : Ex) (x : TokenKind) → close i (tail_view f ∷ k) e x ≡ close i k (ended i (tail_view f) e) x
close-tail i (tail.Last s hs) k e x = refl
close-tail i (tail.Arrow g) k e x = refl

pub close-body : (i : ℕ) (f : BodyFrame) (k : Stack) (e : Ex) (x : TokenKind) → close i (body_frame_view f ∷ k) e x ≡ fault
close-body i (body.Function h g) k e x = refl
close-body i (body.Arrow g) k e x = refl
close-body i (body.Block b) k e x = refl
close-body i (body.If b a t) k e x = refl
close-body i (body.Else b) k e x = refl
close-body i (body.Loop s t) k e x = refl

pub ruleset closes = (close-operator, close-tail, close-body)
