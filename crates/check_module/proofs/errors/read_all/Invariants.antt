use Rattle.std.proofs.Common.{◌≡◌, take}
use Rattle.js_grammar.specs.Items.{Module}
use Rattle.js_tree.specs.View.{items_view}
use Rattle.module_errors.specs.Program.{Program}
use Rattle.module_errors.specs.Items.{read_items}
use Rattle.check_module.specs.View.{checker_world, checker_env, IsFor, StaysOf}
use Rattle.check_module.proofs.errors.read_all.Given as goal

abbrev pub invariant-loop-i : goal.invariant-loop-i
invariant-loop-i l = record {
  env : (p : Program) (m : Module) → IsFor l.fn.checker p m → checker_env l.checker ≡ read_items (checker_world l.fn.checker) p m (items_view (take l.i l.items)) (checker_env l.fn.checker);
  stays : StaysOf l.fn.checker l.checker;
}
