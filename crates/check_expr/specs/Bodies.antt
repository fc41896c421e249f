-- The bodies of functions.
use Rattle.std.specs.Prelude.{ℕ, suc, Bool, true, Option, Some, None}
use Rattle.js_grammar.specs.Code.{Ex, Function, function, Sig, Stmts, no_stmt}
use Rattle.typing.specs.Names.{Binding}
use Rattle.typing.specs.Changes.{changes_of_ex, changes_of_stmts}
use Rattle.typing.specs.States.{World, Env, now_of}
use Rattle.typing.specs.Functions.{function_binding, ended}
use Rattle.typing.specs.Statements.{returned_value}
use Rattle.typing.specs.Typing.{read, read_stmts}
use Rattle.statement_moves.specs.Bodies.{bound_env}

-- the name of a function expression (true), as the scope round it has it, where so many functions stand around
abbrev pub own_of : World → Bool → Function → ℕ → Option Binding
own_of w true (function f t (Some name) s b) depth = Some (function_binding w depth (suc f) name s)
own_of w is_expression made_by depth = None

-- a body that is a block
abbrev pub block_body : World → Sig → Stmts → Env → Env
block_body w s ss env = ended w s (read_stmts w ss (bound_env w (changes_of_stmts ss) s ss env))

-- a body that is returned
abbrev pub value_body : World → Sig → Ex → Env → Env
value_body w s e env =
    let start = bound_env w (changes_of_ex e) s no_stmt env in
    returned_value (read w e start.scope start.scope.result (now_of start)) start
