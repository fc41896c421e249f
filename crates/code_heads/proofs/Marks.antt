-- A mark that stands before no other one.
use Rattle.std.proofs.Common.{◌≡◌, refl, ℕ, true, false, [], ◌∷◌}
use Rattle.js_grammar.specs.Code.{Prefix, no_prefix, more_prefix}
use Rattle.code_law.specs.Frames as m
use Rattle.code_law.specs.Frames.{Stack}
use Rattle.code_law.specs.Expressions.{marked}
use Rattle.code_state.specs.Stack.{nearest_of, is_prefix}

pub marked_outer : (i : ℕ) (x : Prefix) (k : Stack) → is_prefix (nearest_of k) ≡ false → marked i x k ≡ m.in_prefix i (more_prefix no_prefix i x) ∷ k
marked_outer i x [] h = refl
marked_outer i x (m.in_prefix s1 ps1 ∷ k) h = absurd (let z : true ≡ false = h in cc)
marked_outer i x (m.in_chain s1 p1 f1 os1 d1 o1 ∷ k) h = refl
marked_outer i x (m.in_last s1 hs1 ∷ k) h = refl
marked_outer i x (m.in_branch s1 hs1 e1 ∷ k) h = refl
marked_outer i x (m.in_parens s1 ∷ k) h = refl
marked_outer i x (m.in_row r1 es1 ∷ k) h = refl
marked_outer i x (m.in_index e1 ls1 s1 ∷ k) h = refl
marked_outer i x (m.in_field s1 fs1 y1 ∷ k) h = refl
marked_outer i x (m.in_arrow g1 ∷ k) h = refl
marked_outer i x (m.in_body g1 ∷ k) h = refl
marked_outer i x (m.in_simple s1 v1 ∷ k) h = refl
marked_outer i x (m.in_declaration s1 w1 n1 t1 ∷ k) h = refl
marked_outer i x (m.in_if_test s1 bs1 a1 ∷ k) h = refl
marked_outer i x (m.in_loop_test s1 ∷ k) h = refl
marked_outer i x (m.in_if s1 bs1 a1 e1 ∷ k) h = refl
marked_outer i x (m.in_else s1 bs1 ∷ k) h = refl
marked_outer i x (m.in_loop s1 e1 ∷ k) h = refl
marked_outer i x (m.in_function q1 s1 n1 g1 ∷ k) h = refl
marked_outer i x (m.in_block s1 ss1 ∷ k) h = refl
marked_outer i x (m.in_item a1 w1 is1 ∷ k) h = refl
marked_outer i x (m.in_default a1 is1 ∷ k) h = refl
