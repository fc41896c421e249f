-- Scopes whose names tell by their numbers.
use Rattle.std.proofs.Common.{ℕ, Bool, true, false, List, [], ◌∷◌, ◌++◌, map, Option, Some, None, cond}
use Rattle.std.specs.Prelude.{◌==◌}
use Rattle.js_grammar.specs.Code.{Sig}
use Rattle.check_values.specs.Rows.{Bytes}
use Rattle.type_values.specs.declared.types.FlowType.{FlowType}
use Rattle.typing.specs.Names.{Binding, Scope, prelude, binding_read}
use Rattle.typing.specs.States.{World}
use Rattle.typing.specs.Functions.{own_scope, none_bound, bind_stmts}
use Rattle.module_errors.specs.Errors.{no_notes}
use Rattle.module_errors.specs.TopNames.{changes_of_items}
use Rattle.typing_laws.specs.Numbers.{Tells, AllTell, EachNumberTells}
use Rattle.typing_laws.proofs.Odd.{numbered_tells}
use Rattle.typing_laws.proofs.Bindings.{sig_tells, statements_tell, function_tells, items_tell}

both_tell : (names more : List Binding) → AllTell names → AllTell more → AllTell (names ++ more)
both_tell [] more all others = others
both_tell (b ∷ names) more (tells, all) others = (tells, both_tell names more all others)

prelude_tells : AllTell prelude
prelude_tells = (numbered_tells true 0, (numbered_tells true 1, (numbered_tells true 2, (numbered_tells true 3, (numbered_tells true 4, tt)))))

read_tells : (number : ℕ) (t : FlowType) (b : Binding) → Tells b → Tells (binding_read number t b)
read_tells number t b tells = go (b.number == number)
  where
    go : (same : Bool) → Tells (cond same (record b { is_read = true; declared = Some t }) b)
    go true = tells
    go false = tells

all_read : (number : ℕ) (t : FlowType) (names : List Binding) → AllTell names → AllTell (map (binding_read number t) names)
all_read number t [] all = tt
all_read number t (b ∷ names) (tells, all) = (read_tells number t b tells, all_read number t names all)

own_tells : (w : World) (name : Option Bytes) (token : ℕ) (s : Sig) (scope : Scope) → AllTell scope.names → AllTell (own_scope w name token s scope).names
own_tells w None token s scope all = all
own_tells w (Some name) token s scope all = (function_tells w scope.depth token name s, all)

pub each_number_tells : EachNumberTells
each_number_tells = record {
  top = λ w p is. both_tell _ prelude (items_tell w p (changes_of_items is) is (none_bound no_notes) tt) prelude_tells;
  block = λ w changes ss env all.
      both_tell (bind_stmts w env.scope.depth changes ss (none_bound env.notes)).names env.scope.names (statements_tell w env.scope.depth changes ss (none_bound env.notes) tt) all;
  own = own_tells;
  parameters = λ w depth changes s notes. sig_tells w depth changes s (none_bound notes) tt;
  statements = statements_tell;
  body = λ w s scope facts bound all bound_all. both_tell bound.names scope.names bound_all all;
  declared = λ number t scope all. all_read number t scope.names all;
}
