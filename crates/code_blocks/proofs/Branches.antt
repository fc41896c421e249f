-- An `if` that ends before a token, where no block waits for it.
use Rattle.std.proofs.Common.{◌≡◌, refl, ℕ, true, false, [], ◌∷◌}
use Rattle.js_token.specs.declared.token.TokenKind.{TokenKind}
use Rattle.js_grammar.specs.Code.{Branches}
use Rattle.code_law.specs.Frames as m
use Rattle.code_law.specs.Frames.{Stack, fault}
use Rattle.code_law.specs.Statements.{end_branches}
use Rattle.code_state.specs.Forms.{body_frame_view}
use Rattle.code_state.specs.Stack.{IsOther}
use Rattle.code_state.specs.declared.frames.OpenBlock.{OpenBlock}
use Rattle.code_state.specs.declared.frames.BodyFrame.{BodyFrame}
use Rattle.code_state.specs.declared.frames.BodyFrame.TheVariants as body

pub branches-other : (i : ℕ) (k : Stack) (s : ℕ) (bs : Branches) (x : TokenKind) → IsOther k → end_branches i k s bs x ≡ fault
branches-other i [] s bs x h = refl
branches-other i (m.in_prefix s1 ps1 ∷ k) s bs x h = refl
branches-other i (m.in_chain s1 p1 f1 os1 d1 o1 ∷ k) s bs x h = refl
branches-other i (m.in_last s1 hs1 ∷ k) s bs x h = refl
branches-other i (m.in_branch s1 hs1 e1 ∷ k) s bs x h = refl
branches-other i (m.in_parens s1 ∷ k) s bs x h = refl
branches-other i (m.in_row r1 es1 ∷ k) s bs x h = refl
branches-other i (m.in_index e1 ls1 s1 ∷ k) s bs x h = refl
branches-other i (m.in_field s1 fs1 y1 ∷ k) s bs x h = refl
branches-other i (m.in_arrow g1 ∷ k) s bs x h = refl
branches-other i (m.in_body g1 ∷ k) s bs x h = absurd (let z : true ≡ false = h in cc)
branches-other i (m.in_simple s1 v1 ∷ k) s bs x h = refl
branches-other i (m.in_declaration s1 w1 n1 t1 ∷ k) s bs x h = refl
branches-other i (m.in_if_test s1 bs1 a1 ∷ k) s bs x h = refl
branches-other i (m.in_loop_test s1 ∷ k) s bs x h = refl
branches-other i (m.in_if s1 bs1 a1 e1 ∷ k) s bs x h = absurd (let z : true ≡ false = h in cc)
branches-other i (m.in_else s1 bs1 ∷ k) s bs x h = absurd (let z : true ≡ false = h in cc)
branches-other i (m.in_loop s1 e1 ∷ k) s bs x h = absurd (let z : true ≡ false = h in cc)
branches-other i (m.in_function q1 s1 n1 g1 ∷ k) s bs x h = absurd (let z : true ≡ false = h in cc)
branches-other i (m.in_block s1 ss1 ∷ k) s bs x h = absurd (let z : true ≡ false = h in cc)
branches-other i (m.in_item a1 w1 is1 ∷ k) s bs x h = refl
branches-other i (m.in_default a1 is1 ∷ k) s bs x h = refl

pub branches-outside : (i : ℕ) (f : BodyFrame) (k : Stack) (s : ℕ) (bs : Branches) (x : TokenKind) → ((b : OpenBlock) → f ≡ body.Block b → ⊥) → end_branches i (body_frame_view f ∷ k) s bs x ≡ fault
branches-outside i (body.Function h g) k s bs x n = refl
branches-outside i (body.Arrow g) k s bs x n = refl
branches-outside i (body.Block b) k s bs x n = absurd (n b refl)
branches-outside i (body.If b a e) k s bs x n = refl
branches-outside i (body.Else b) k s bs x n = refl
branches-outside i (body.Loop z e) k s bs x n = refl

pub ruleset others = (branches-other)

pub ruleset outsides = (branches-outside)
