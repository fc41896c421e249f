-- The facts at each `break` are joined behind those at the ones before, and nothing else depends on those.
use Rattle.std.specs.Prelude.{◌≡◌, ℕ}
use Rattle.js_grammar.specs.Code.{Stmts, StmtForm, Block, Body}
use Rattle.flow_facts.specs.Known.{Known, joined}
use Rattle.typing.specs.States.{World, Env}
use Rattle.typing.specs.Typing.{read_stmts, read_stmt, read_block, read_body}

-- the same, where the loop around was left with some facts before
abbrev pub left_before : Known → Env → Env
left_before facts env = record env { breaks = joined facts env.breaks }

-- What is read there reads as without those facts, and they stay in front: so a part of a loop's body can be read by itself.
pub record BreaksOnlyJoin : Type 0 where
  pub statements : (w : World) (ss : Stmts) (facts : Known) (env : Env) → read_stmts w ss (left_before facts env) ≡ left_before facts (read_stmts w ss env)
  pub statement : (w : World) (f t : ℕ) (form : StmtForm) (facts : Known) (env : Env) → read_stmt w f t form (left_before facts env) ≡ left_before facts (read_stmt w f t form env)
  pub block : (w : World) (b : Block) (facts : Known) (env : Env) → read_block w b (left_before facts env) ≡ left_before facts (read_block w b env)
  pub body : (w : World) (body : Body) (facts : Known) (env : Env) → read_body w body (left_before facts env) ≡ left_before facts (read_body w body env)
