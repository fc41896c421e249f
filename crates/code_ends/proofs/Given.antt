-- What is given to the innermost form, where that does not wait for it.
use Rattle.std.proofs.Common.{◌≡◌, refl, ℕ, true, false, [], ◌∷◌}
use Rattle.js_grammar.specs.Code.{Stmt, stmt, Block, Simple, Function, Declaration, declares, function_stmt}
use Rattle.code_law.specs.Frames as m
use Rattle.code_law.specs.Frames.{Stack, fault, is_statement, is_default, start_function}
use Rattle.code_law.specs.Bodies.{give_stmt, give_declaration, give_function, give_block, end_simple}
use Rattle.code_state.specs.Stack.{is_open, IsOther}

pub stmt-other : (k : Stack) (y : Stmt) → IsOther k → give_stmt k y ≡ fault
stmt-other [] y h = refl
stmt-other (m.in_prefix s1 ps1 ∷ k) y h = refl
stmt-other (m.in_chain s1 p1 f1 os1 d1 o1 ∷ k) y h = refl
stmt-other (m.in_last s1 hs1 ∷ k) y h = refl
stmt-other (m.in_branch s1 hs1 e1 ∷ k) y h = refl
stmt-other (m.in_parens s1 ∷ k) y h = refl
stmt-other (m.in_row r1 es1 ∷ k) y h = refl
stmt-other (m.in_index e1 ls1 s1 ∷ k) y h = refl
stmt-other (m.in_field s1 fs1 y1 ∷ k) y h = refl
stmt-other (m.in_arrow g1 ∷ k) y h = refl
stmt-other (m.in_body g1 ∷ k) y h = absurd (let z : true ≡ false = h in cc)
stmt-other (m.in_simple s1 v1 ∷ k) y h = refl
stmt-other (m.in_declaration s1 w1 n1 t1 ∷ k) y h = refl
stmt-other (m.in_if_test s1 bs1 a1 ∷ k) y h = refl
stmt-other (m.in_loop_test s1 ∷ k) y h = refl
stmt-other (m.in_if s1 bs1 a1 e1 ∷ k) y h = absurd (let z : true ≡ false = h in cc)
stmt-other (m.in_else s1 bs1 ∷ k) y h = absurd (let z : true ≡ false = h in cc)
stmt-other (m.in_loop s1 e1 ∷ k) y h = absurd (let z : true ≡ false = h in cc)
stmt-other (m.in_function q1 s1 n1 g1 ∷ k) y h = absurd (let z : true ≡ false = h in cc)
stmt-other (m.in_block s1 ss1 ∷ k) y h = absurd (let z : true ≡ false = h in cc)
stmt-other (m.in_item a1 w1 is1 ∷ k) y h = refl
stmt-other (m.in_default a1 is1 ∷ k) y h = refl

pub block-other : (i : ℕ) (k : Stack) (b : Block) → IsOther k → give_block i k b ≡ fault
block-other i [] b h = refl
block-other i (m.in_prefix s1 ps1 ∷ k) b h = refl
block-other i (m.in_chain s1 p1 f1 os1 d1 o1 ∷ k) b h = refl
block-other i (m.in_last s1 hs1 ∷ k) b h = refl
block-other i (m.in_branch s1 hs1 e1 ∷ k) b h = refl
block-other i (m.in_parens s1 ∷ k) b h = refl
block-other i (m.in_row r1 es1 ∷ k) b h = refl
block-other i (m.in_index e1 ls1 s1 ∷ k) b h = refl
block-other i (m.in_field s1 fs1 y1 ∷ k) b h = refl
block-other i (m.in_arrow g1 ∷ k) b h = refl
block-other i (m.in_body g1 ∷ k) b h = absurd (let z : true ≡ false = h in cc)
block-other i (m.in_simple s1 v1 ∷ k) b h = refl
block-other i (m.in_declaration s1 w1 n1 t1 ∷ k) b h = refl
block-other i (m.in_if_test s1 bs1 a1 ∷ k) b h = refl
block-other i (m.in_loop_test s1 ∷ k) b h = refl
block-other i (m.in_if s1 bs1 a1 e1 ∷ k) b h = absurd (let z : true ≡ false = h in cc)
block-other i (m.in_else s1 bs1 ∷ k) b h = absurd (let z : true ≡ false = h in cc)
block-other i (m.in_loop s1 e1 ∷ k) b h = absurd (let z : true ≡ false = h in cc)
block-other i (m.in_function q1 s1 n1 g1 ∷ k) b h = absurd (let z : true ≡ false = h in cc)
block-other i (m.in_block s1 ss1 ∷ k) b h = absurd (let z : true ≡ false = h in cc)
block-other i (m.in_item a1 w1 is1 ∷ k) b h = refl
block-other i (m.in_default a1 is1 ∷ k) b h = refl

pub simple-other : (i : ℕ) (k : Stack) (y : Simple) → IsOther k → is_open k ≡ true → end_simple i k y ≡ fault
simple-other i [] y h o = absurd (let z : false ≡ true = o in cc)
simple-other i (m.in_prefix s1 ps1 ∷ k) y h o = refl
simple-other i (m.in_chain s1 p1 f1 os1 d1 o1 ∷ k) y h o = refl
simple-other i (m.in_last s1 hs1 ∷ k) y h o = refl
simple-other i (m.in_branch s1 hs1 e1 ∷ k) y h o = refl
simple-other i (m.in_parens s1 ∷ k) y h o = refl
simple-other i (m.in_row r1 es1 ∷ k) y h o = refl
simple-other i (m.in_index e1 ls1 s1 ∷ k) y h o = refl
simple-other i (m.in_field s1 fs1 y1 ∷ k) y h o = refl
simple-other i (m.in_arrow g1 ∷ k) y h o = refl
simple-other i (m.in_body g1 ∷ k) y h o = absurd (let z : true ≡ false = h in cc)
simple-other i (m.in_simple s1 v1 ∷ k) y h o = refl
simple-other i (m.in_declaration s1 w1 n1 t1 ∷ k) y h o = refl
simple-other i (m.in_if_test s1 bs1 a1 ∷ k) y h o = refl
simple-other i (m.in_loop_test s1 ∷ k) y h o = refl
simple-other i (m.in_if s1 bs1 a1 e1 ∷ k) y h o = absurd (let z : true ≡ false = h in cc)
simple-other i (m.in_else s1 bs1 ∷ k) y h o = absurd (let z : true ≡ false = h in cc)
simple-other i (m.in_loop s1 e1 ∷ k) y h o = absurd (let z : true ≡ false = h in cc)
simple-other i (m.in_function q1 s1 n1 g1 ∷ k) y h o = absurd (let z : true ≡ false = h in cc)
simple-other i (m.in_block s1 ss1 ∷ k) y h o = absurd (let z : true ≡ false = h in cc)
simple-other i (m.in_item a1 w1 is1 ∷ k) y h o = absurd (let z : false ≡ true = o in cc)
simple-other i (m.in_default a1 is1 ∷ k) y h o = absurd (let z : false ≡ true = o in cc)

pub declaration-open : (i : ℕ) (k : Stack) (s : ℕ) (d : Declaration) → is_open k ≡ true → give_declaration i k s d ≡ give_stmt k (stmt s i (declares d))
declaration-open i [] s d o = absurd (let z : false ≡ true = o in cc)
declaration-open i (m.in_prefix s1 ps1 ∷ k) s d o = refl
declaration-open i (m.in_chain s1 p1 f1 os1 d1 o1 ∷ k) s d o = refl
declaration-open i (m.in_last s1 hs1 ∷ k) s d o = refl
declaration-open i (m.in_branch s1 hs1 e1 ∷ k) s d o = refl
declaration-open i (m.in_parens s1 ∷ k) s d o = refl
declaration-open i (m.in_row r1 es1 ∷ k) s d o = refl
declaration-open i (m.in_index e1 ls1 s1 ∷ k) s d o = refl
declaration-open i (m.in_field s1 fs1 y1 ∷ k) s d o = refl
declaration-open i (m.in_arrow g1 ∷ k) s d o = refl
declaration-open i (m.in_body g1 ∷ k) s d o = refl
declaration-open i (m.in_simple s1 v1 ∷ k) s d o = refl
declaration-open i (m.in_declaration s1 w1 n1 t1 ∷ k) s d o = refl
declaration-open i (m.in_if_test s1 bs1 a1 ∷ k) s d o = refl
declaration-open i (m.in_loop_test s1 ∷ k) s d o = refl
declaration-open i (m.in_if s1 bs1 a1 e1 ∷ k) s d o = refl
declaration-open i (m.in_else s1 bs1 ∷ k) s d o = refl
declaration-open i (m.in_loop s1 e1 ∷ k) s d o = refl
declaration-open i (m.in_function q1 s1 n1 g1 ∷ k) s d o = refl
declaration-open i (m.in_block s1 ss1 ∷ k) s d o = refl
declaration-open i (m.in_item a1 w1 is1 ∷ k) s d o = absurd (let z : false ≡ true = o in cc)
declaration-open i (m.in_default a1 is1 ∷ k) s d o = absurd (let z : false ≡ true = o in cc)

pub function-open : (i : ℕ) (k : Stack) (f : Function) → is_open k ≡ true → give_function i k is_statement f ≡ give_stmt k (stmt (start_function f) i (function_stmt f))
function-open i [] f o = absurd (let z : false ≡ true = o in cc)
function-open i (m.in_prefix s1 ps1 ∷ k) f o = refl
function-open i (m.in_chain s1 p1 f1 os1 d1 o1 ∷ k) f o = refl
function-open i (m.in_last s1 hs1 ∷ k) f o = refl
function-open i (m.in_branch s1 hs1 e1 ∷ k) f o = refl
function-open i (m.in_parens s1 ∷ k) f o = refl
function-open i (m.in_row r1 es1 ∷ k) f o = refl
function-open i (m.in_index e1 ls1 s1 ∷ k) f o = refl
function-open i (m.in_field s1 fs1 y1 ∷ k) f o = refl
function-open i (m.in_arrow g1 ∷ k) f o = refl
function-open i (m.in_body g1 ∷ k) f o = refl
function-open i (m.in_simple s1 v1 ∷ k) f o = refl
function-open i (m.in_declaration s1 w1 n1 t1 ∷ k) f o = refl
function-open i (m.in_if_test s1 bs1 a1 ∷ k) f o = refl
function-open i (m.in_loop_test s1 ∷ k) f o = refl
function-open i (m.in_if s1 bs1 a1 e1 ∷ k) f o = refl
function-open i (m.in_else s1 bs1 ∷ k) f o = refl
function-open i (m.in_loop s1 e1 ∷ k) f o = refl
function-open i (m.in_function q1 s1 n1 g1 ∷ k) f o = refl
function-open i (m.in_block s1 ss1 ∷ k) f o = refl
function-open i (m.in_item a1 w1 is1 ∷ k) f o = absurd (let z : false ≡ true = o in cc)
function-open i (m.in_default a1 is1 ∷ k) f o = absurd (let z : false ≡ true = o in cc)

pub default-open : (i : ℕ) (k : Stack) (f : Function) → is_open k ≡ true → give_function i k is_default f ≡ fault
default-open i [] f o = absurd (let z : false ≡ true = o in cc)
default-open i (m.in_prefix s1 ps1 ∷ k) f o = refl
default-open i (m.in_chain s1 p1 f1 os1 d1 o1 ∷ k) f o = refl
default-open i (m.in_last s1 hs1 ∷ k) f o = refl
default-open i (m.in_branch s1 hs1 e1 ∷ k) f o = refl
default-open i (m.in_parens s1 ∷ k) f o = refl
default-open i (m.in_row r1 es1 ∷ k) f o = refl
default-open i (m.in_index e1 ls1 s1 ∷ k) f o = refl
default-open i (m.in_field s1 fs1 y1 ∷ k) f o = refl
default-open i (m.in_arrow g1 ∷ k) f o = refl
default-open i (m.in_body g1 ∷ k) f o = refl
default-open i (m.in_simple s1 v1 ∷ k) f o = refl
default-open i (m.in_declaration s1 w1 n1 t1 ∷ k) f o = refl
default-open i (m.in_if_test s1 bs1 a1 ∷ k) f o = refl
default-open i (m.in_loop_test s1 ∷ k) f o = refl
default-open i (m.in_if s1 bs1 a1 e1 ∷ k) f o = refl
default-open i (m.in_else s1 bs1 ∷ k) f o = refl
default-open i (m.in_loop s1 e1 ∷ k) f o = refl
default-open i (m.in_function q1 s1 n1 g1 ∷ k) f o = refl
default-open i (m.in_block s1 ss1 ∷ k) f o = refl
default-open i (m.in_item a1 w1 is1 ∷ k) f o = absurd (let z : false ≡ true = o in cc)
default-open i (m.in_default a1 is1 ∷ k) f o = absurd (let z : false ≡ true = o in cc)

pub ruleset others = (stmt-other, block-other, simple-other)

pub ruleset opens = (declaration-open, function-open, default-open)
