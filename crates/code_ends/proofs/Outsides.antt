-- What becomes of a whole statement in a form that is no block.
use Rattle.std.proofs.Common.{◌≡◌, refl, ◌∷◌}
use Rattle.js_grammar.specs.Code.{Stmt}
use Rattle.code_law.specs.Frames.{Stack, fault}
use Rattle.code_law.specs.Bodies.{give_stmt}
use Rattle.code_state.specs.Forms.{body_frame_view}
use Rattle.code_state.specs.declared.frames.OpenBlock.{OpenBlock}
use Rattle.code_state.specs.declared.frames.BodyFrame.{BodyFrame}
use Rattle.code_state.specs.declared.frames.BodyFrame.TheVariants as body

pub stmt-outside : (f : BodyFrame) (k : Stack) (y : Stmt) → ((b : OpenBlock) → f ≡ body.Block b → ⊥) → give_stmt (body_frame_view f ∷ k) y ≡ fault
stmt-outside (body.Function h g) k y n = refl
stmt-outside (body.Arrow g) k y n = refl
stmt-outside (body.Block b) k y n = absurd (n b refl)
stmt-outside (body.If b a e) k y n = refl
stmt-outside (body.Else b) k y n = refl
stmt-outside (body.Loop s e) k y n = refl

pub ruleset outsides = (stmt-outside)
