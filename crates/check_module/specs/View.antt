-- What a checker stands for.
use Rattle.std.specs.Prelude.{ℕ, ◌≡◌, ◌↔◌, IsTrue, List, [], Option, Some, None}
use Rattle.std.specs.Option.{option_or}
use Rattle.flow_values.specs.declared.span.Span.{Span}
use Rattle.js_grammar.specs.Items.{Items, Module, module_of}
use Rattle.alias_members.specs.MembersIn.{members_in}
use Rattle.alias_table.specs.Aliases.{Row, Key, alias_type, IsCyclic}
use Rattle.alias_table.specs.Table.{alias_of, is_marked}
use Rattle.alias_table.specs.declared.table.AliasTable.{AliasTable}
use Rattle.subtype_rules.specs.Answer.{below}
use Rattle.check_world.specs.View.{meaning_in}
use Rattle.flow_facts.specs.Known.{no_facts}
use Rattle.typing.specs.Names.{prelude}
use Rattle.typing.specs.States.{World, Env}
use Rattle.module_errors.specs.Program.{Program, world_of}
use Rattle.module_errors.specs.Errors.{no_notes, top_env}
use Rattle.errors_by_reach.specs.Seen.{Sigs, IsSeen, alias_told}
use Rattle.import_sayings.specs.View.{sigs_of}
use Rattle.check_job.specs.declared.job.CheckJob.{CheckJob}
use Rattle.check_items.specs.check_moves.specs.View.{env}
use Rattle.check_items.specs.View.{Says}
use Rattle.check_module.specs.declared.around.Around.{Around}
use Rattle.check_module.specs.declared.checker.Checker.{Checker}

-- the table has these aliases of the module itself, and behind them those of signatures
abbrev pub HasAliases : List Row → Sigs → AliasTable → Type 0
HasAliases own sigs t =
    ((key : Key) → alias_of t key ≡ option_or (alias_type own key) (alias_told key.1 (sigs key.0)))
    × ((key : Key) → IsTrue (is_marked t key) ↔ IsCyclic (alias_of t) key)

-- what stands around the code
unfoldable pub around_world : Around → World
around_world a = record {
  members = members_in a.table;
  below = below a.table;
  type_meaning = meaning_in a.names;
  spans = a.spans.now;
  watch = a.watch;
}

abbrev pub checker_world : Checker → World
checker_world c = around_world c.around

-- before the module's names are bound: the prelude's alone are
abbrev pub prelude_env : Env
prelude_env = record { scope = record { names = prelude; depth = 0; result = None }; facts = Some no_facts; notes = no_notes; returned = []; breaks = None }

-- what is known between items
unfoldable pub checker_env : Checker → Env
checker_env c = env c.state

-- what stands around the code is that of this module in this program
pub record IsOf (a : Around) (p : Program) (m : Module) : Type 0 where
  pub imports : Says a.imports p
  pub cyclic : (key : Key) → is_marked a.table key ≡ p.is_cyclic key
  pub world : around_world a ≡ world_of p m a.spans.now a.watch

-- the checker is one of this module in this program
abbrev pub IsFor : Checker → Program → Module → Type 0
IsFor c p m = IsOf c.around p m

-- it stays one of the same module, with the same world
abbrev pub StaysOf : Checker → Checker → Type 0
StaysOf old new = (checker_world new ≡ checker_world old) × ((p : Program) (m : Module) → IsFor old p m → IsFor new p m)

abbrev pub items_of : Module → Items
items_of (module_of f t is) = is

-- what stands around the code of a job's module: it sees what the job's signatures tell
abbrev pub StandsFor : CheckJob → Module → List Span → Option ℕ → Around → Type 0
StandsFor job m spans watch a =
    (p : Program) × IsSeen job.path job.deps m (sigs_of job.sigs.rows) p × IsOf a p m × (around_world a ≡ world_of p m spans watch)

-- A checker before the first item of a job's module, with the place that is watched: it sees what the job's signatures tell, and knows
-- this.
abbrev pub Starts : (World → Program → Items → Env) → CheckJob → Module → List Span → Option ℕ → Checker → Type 0
Starts known job m spans watch c =
    (p : Program) × IsSeen job.path job.deps m (sigs_of job.sigs.rows) p × IsFor c p m
    × (checker_world c ≡ world_of p m spans watch)
    × (checker_env c ≡ known (world_of p m spans watch) p (items_of m))

-- the names of a module, with no faults
abbrev pub open_env : World → Program → Items → Env
open_env w p is = record (top_env w p is) { notes = no_notes }

-- it knows the names of the module, and has noted no faults
abbrev pub Opens : CheckJob → Module → List Span → Option ℕ → Checker → Type 0
Opens = Starts open_env

-- it has noted the faults of the names and of the exports
abbrev pub Names : CheckJob → Module → List Span → Option ℕ → Checker → Type 0
Names = Starts top_env
