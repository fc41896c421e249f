-- A node's first number is its tree's.
use Rattle.std.proofs.Common.{◌≡◌, refl, rules}
use Rattle.code_law.specs.Frames.{start_ex, start_sig, start_function, start_block, start_simple, start_key}
use Rattle.type_tree.specs.View.{key_view}
use Rattle.type_tree.specs.declared.types.Key.{Key}
use Rattle.code_tree.specs.Flat.{signature_view}
use Rattle.code_tree.specs.View.{expr_view, function_view, block_view, simple_view}
use Rattle.code_tree.specs.declared.types.Signature.{Signature}
use Rattle.code_tree.specs.declared.types.Expr.{Expr, out-Expr}
use Rattle.code_tree.specs.declared.types.Function.{Function, out-Function}
use Rattle.code_tree.specs.declared.types.Block.{Block, out-Block}
use Rattle.code_tree.specs.declared.types.Simple.{Simple, out-Simple}
use Rattle.code_tree.specs.declared.types.ExprForm.{the_lemmas}

pub start_expr : (e : Expr) → start_ex (expr_view e) ≡ (out-Expr e).first
unfolding expr_view
start_expr e = search (rules, the_lemmas)

pub start_function_view : (f : Function) → start_function (function_view f) ≡ (out-Function f).first
unfolding function_view
start_function_view f = search (rules, the_lemmas)

pub start_block_view : (b : Block) → start_block (block_view b) ≡ (out-Block b).first
unfolding block_view
start_block_view b = search (rules, the_lemmas)

pub start_simple_view : (y : Simple) → start_simple (simple_view y) ≡ (out-Simple y).first
unfolding simple_view
start_simple_view y = search (rules, the_lemmas)

pub start_signature : (g : Signature) → start_sig (signature_view g) ≡ g.first
unfolding signature_view
start_signature g = refl

pub start_key_view : (y : Key) → start_key (key_view y) ≡ y.first
start_key_view y = refl

pub ruleset starts = (start_expr, start_function_view, start_block_view, start_simple_view, start_signature, start_key_view)
