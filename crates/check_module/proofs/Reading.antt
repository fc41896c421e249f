-- A checker from its start to the errors of its module.
use Rattle.std.proofs.Common.{◌≡◌, ℕ, ◌+◌, ◌<◌, ◌≤◌, List, [], ◌++◌, length, take, get_or, Option, Some, None, refl, sym, ap, ap₂, ◌∙◌, subst}
use Rattle.std.specs.Option.{option_map}
use Rattle.std.specs.Borrow.{Bor}
use Rattle.flow_values.specs.declared.span.Span.{Span}
use Rattle.type_values.specs.declared.types.FlowType.{FlowType}
use Rattle.check_values.specs.FaultOrder.{faults_in_order}
use Rattle.check_values.specs.declared.faults.Fault.{Fault}
use Rattle.js_grammar.specs.Items as g
use Rattle.js_grammar.specs.Items.{Module, module_of}
use Rattle.js_tree.specs.View.{item_view, items_view, module_view}
use Rattle.js_tree.specs.declared.items.Module as js
use Rattle.js_tree.specs.declared.items.Item.{Item}
use Rattle.flow_facts.specs.Known.{no_facts}
use Rattle.scopes.specs.View.{scope_view}
use Rattle.scopes.specs.declared.scope.Scope.{Scope}
use Rattle.check_world.specs.View.{world_view, notes_view, seen_view}
use Rattle.check_world.specs.declared.notes.Seen as noted
use Rattle.check_world.specs.declared.notes.Notes as own
use Rattle.typing.specs.Names.{prelude}
use Rattle.typing.specs.States.{World, Out, Env}
use Rattle.typing.specs.Functions.{Bound, none_bound}
use Rattle.module_errors.specs.Program.{Program, world_of}
use Rattle.module_errors.specs.TopNames.{bind_items, changes_of_items, exportings_of, exported_twice}
use Rattle.module_errors.specs.Items.{read_item, read_items}
use Rattle.module_errors.specs.Errors.{no_notes, top_env, seen_type}
use Rattle.errors_by_reach.specs.Law.{whole, IsTypeAt}
use Rattle.import_sayings.specs.View.{sigs_of}
use Rattle.reach_law.specs.Law.{TypeCutIsRight}
use Rattle.check_job.specs.declared.job.CheckJob.{CheckJob}
use Rattle.check_job.specs.Jobs.{HasErrorsBeside}
use Rattle.check_items.specs.check_moves.specs.View.{env, around, now, told}
use Rattle.check_items.specs.check_moves.specs.declared.state.Read.{Read}
use Rattle.check_items.specs.check_moves.specs.declared.state.State.{State}
use Rattle.check_items.specs.View.{bound_over, Sees, Says}
use Rattle.check_items.proofs.InOrder.{items_none, items_more, items_all}
use Rattle.alias_table.specs.Table.{is_marked}
use Rattle.alias_table.specs.declared.table.AliasTable.{AliasTable}
use Rattle.check_items.specs.declared.items.Module as items
use Rattle.import_sayings.specs.declared.imports.Imports.{Imports}
use Rattle.check_module.specs.declared.around.Around.{Around}
use Rattle.check_module.specs.View.{prelude_env, IsOf, around_world, checker_world, checker_env, IsFor, StaysOf, StandsFor, Opens, Names, items_of}
use Rattle.check_module.specs.declared.checker.Checker.{Checker}

-- ---- the state before the first item

abbrev pub nothing_read : Env
nothing_read = record { scope = record { names = []; depth = 0; result = None }; facts = Some no_facts; notes = no_notes; returned = []; breaks = None }

-- the prelude's names are bound
pub prelude_bound : (s : State) (pre : Scope) → env s ≡ nothing_read → scope_view pre ≡ record (scope_view s.scope) { names = prelude ++ (scope_view s.scope).names } → env (record s { scope = pre }) ≡ prelude_env
unfolding around now
prelude_bound s pre begun known = λ i. record { scope = names i; facts = (begun i).facts; notes = (begun i).notes; returned = (begun i).returned; breaks = (begun i).breaks }
  where
    names : scope_view pre ≡ record { names = prelude; depth = 0; result = None }
    names = known ∙ ap (λ (e : Env). record (e.scope) { names = prelude ++ e.scope.names }) begun

-- nothing is bound in a function then
pub top_depth : (s : State) → env s ≡ prelude_env → s.scope.depth ≡ 0
unfolding around
top_depth s begun = ap (λ (e : Env). e.scope.depth) begun

-- the module's names are
pub started : (w v : World) (p : Program) (is : g.Items) (s : State) (over : Scope) (n m : own.Notes) → v ≡ w → env s ≡ prelude_env → bound_over (scope_view s.scope) (scope_view over) n (bind_items v p (changes_of_items is) is (none_bound (notes_view s.notes))) →
    notes_view m ≡ exported_twice v [] (exportings_of is) (notes_view n) → env (record s { scope = over; notes = m }) ≡ top_env w p is
unfolding around now
started w v p is s over n m same begun bound noted =
    (λ i. record { scope = names i; facts = (begun i).facts; notes = notes i; returned = (begun i).returned; breaks = (begun i).breaks }) ∙ ap (λ (u : World). top_env u p is) same
  where
    all : bind_items v p (changes_of_items is) is (none_bound (notes_view s.notes)) ≡ bind_items v p (changes_of_items is) is (none_bound no_notes)
    all = ap (λ (e : Env). bind_items v p (changes_of_items is) is (none_bound e.notes)) begun

    names : scope_view over ≡ record { names = (bind_items v p (changes_of_items is) is (none_bound no_notes)).names ++ prelude; depth = 0; result = None }
    names = bound.0 ∙ (λ i. record ((begun i).scope) { names = (all i).names ++ (begun i).scope.names })

    notes : notes_view m ≡ exported_twice v [] (exportings_of is) (bind_items v p (changes_of_items is) is (none_bound no_notes)).notes
    notes = noted ∙ ap (exported_twice v [] (exportings_of is)) (bound.1 ∙ ap (λ (b : Bound). b.notes) all)

-- a checker of a job's module
pub names : (job : CheckJob) (m : js.Module) (spans : List Span) (watch : Option ℕ) (a : Around) (s : State) (listed : List Item) → listed ≡ m.items → StandsFor job (module_view m) spans watch a →
    ((p : Program) → Says a.imports p → env s ≡ top_env (around_world a) p (items_view listed)) → Names job (module_view m) spans watch (record { around = a; state = s })
unfolding checker_env
names job m spans watch a s listed same (p, seen, is, world) begun =
    (p, seen, is, world, begun p is.imports ∙ ap₂ (λ (w : World) (l : List Item). top_env w p (items_view l)) world same)

-- its faults are forgotten
pub opens : (job : CheckJob) (m : Module) (spans : List Span) (watch : Option ℕ) (c d : Checker) → d.around ≡ c.around → checker_env d ≡ record (checker_env c) { notes = no_notes } → Names job m spans watch c → Opens job m spans watch d
opens job m spans watch c d same emptied (p, seen, is, world, begun) =
    (p, seen, subst (λ (x : Around). IsOf x p m) (sym same) is, ap around_world same ∙ world, emptied ∙ ap (λ (e : Env). record e { notes = no_notes }) begun)

-- ---- items in order

module _ (w : World) (p : Program) (m : Module) where
  pub items_read_none : (e : Env) → e ≡ read_items w p m (items_view []) e
  items_read_none e = sym (ap (λ (is : g.Items). read_items w p m is e) items_none)

  pub items_read_next : (v : World) (xs : List Item) (i : ℕ) (x : Item) (first before after : Env) → i < length xs → x ≡ get_or xs i x → v ≡ w → after ≡ read_item v p m (item_view x) before →
      before ≡ read_items w p m (items_view (take i xs)) first → after ≡ read_items w p m (items_view (take (i + 1) xs)) first
  items_read_next v xs i x first before after within at same reads so_far =
      reads ∙ ap₂ (λ (u : World) (e : Env). read_item u p m (item_view x) e) same so_far ∙ sym (ap (λ (is : g.Items). read_items w p m is first) (items_more xs i x within at))

  pub items_read_all : (xs all : List Item) (i : ℕ) (first after : Env) → length xs ≤ i → xs ≡ all → after ≡ read_items w p m (items_view (take i xs)) first → after ≡ read_items w p m (items_view all) first
  items_read_all xs all i first after long same is = is ∙ ap (λ (is : g.Items). read_items w p m is first) (items_all xs i long ∙ ap items_view same)

pub stays_same : (a b : Checker) → b.around ≡ a.around → StaysOf a b
stays_same a b same = (ap around_world same, λ p m is. subst (λ (x : Around). IsOf x p m) (sym same) is)

-- a place is watched
pub watches : (a : Around) (at : ℕ) (p : Program) (m : Module) → IsOf a p m → IsOf (record a { watch = Some at }) p m
unfolding around_world
watches a at p m is = record { imports = is.imports; cyclic = is.cyclic; world = λ i. record (is.world i) { watch = Some at } }

-- what an item is read by
pub sees : (a : Around) (by_parts : items.Module) (p : Program) (m : Module) → by_parts.imports.now ≡ a.imports → by_parts.world.now.table.now ≡ a.table → world_view by_parts.world.now ≡ around_world a → IsOf a p m → Sees by_parts p m
sees a by_parts p m imports table world is = record {
  imports = subst (λ (x : Imports). Says x p) (sym imports) is.imports;
  cyclic = λ key. ap (λ (t : AliasTable). is_marked t key) table ∙ is.cyclic key;
  meaning = λ name. ap (λ (w : World). w.type_meaning name) (world ∙ is.world);
}

pub stays_still : (a : Checker) → StaysOf a a
stays_still a = (refl, λ p m is. is)

pub stays_twice : (a b c : Checker) → StaysOf a b → StaysOf b c → StaysOf a c
stays_twice a b c first second = (second.0 ∙ first.0, λ p m is. second.1 p m (first.1 p m is))

-- ---- the errors of a module, and the type at a place

abbrev pub ReadsAll : Checker → Checker → Module → Type 0
ReadsAll opened read m = (p : Program) → IsFor opened p m → checker_env read ≡ read_items (checker_world opened) p m (items_of m) (checker_env opened)

module _ (job : CheckJob) where
  all_read : (f t : ℕ) (is : g.Items) (p : Program) (spans : List Span) (watch : Option ℕ) (opened read : Checker) → IsFor opened p (module_of f t is) → checker_world opened ≡ world_of p (module_of f t is) spans watch →
      checker_env opened ≡ top_env (world_of p (module_of f t is) spans watch) p is → ReadsAll opened read (module_of f t is) →
      checker_env read ≡ (let w = world_of p (module_of f t is) spans watch in read_items w p (module_of f t is) is (top_env w p is))
  all_read f t is p spans watch opened read is_for world begun reads =
      reads p is_for ∙ ap₂ (λ (w : World) (e : Env). read_items w p (module_of f t is) is e) world begun

  pub errors_told : (m : Module) (spans : List Span) (opened read : Checker) (first own faults : List Fault) → Names job m spans None opened → ReadsAll opened read m → own ≡ (checker_env read).notes.faults →
      faults ≡ faults_in_order (first ++ own) → HasErrorsBeside first job.path job.deps (whole m spans) (sigs_of job.sigs.rows) faults
  errors_told (module_of f t is) spans opened read first own faults (p, seen, is_for, world, begun) reads noted ordered =
      (p, seen, ordered ∙ ap (λ (b : List Fault). faults_in_order (first ++ b)) (noted ∙ ap (λ (e : Env). e.notes.faults) (all_read f t is p spans None opened read is_for world begun reads)))

  pub type_told : (m : Module) (spans : List Span) (place : ℕ) (opened read : Checker) (answer : Option FlowType) → Names job m spans (Some place) opened → ReadsAll opened read m → answer ≡ seen_type (checker_env read).notes.watched →
      TypeCutIsRight → IsTypeAt job.path job.deps m spans (sigs_of job.sigs.rows) place answer
  type_told (module_of f t is) spans place opened read answer (p, seen, is_for, world, begun) reads told cut =
      (cut job.path job.deps (module_of f t is) spans job.sigs.rows place answer).1
      (p, seen, told ∙ ap (λ (e : Env). seen_type e.notes.watched) (all_read f t is p spans (Some place) opened read is_for world begun reads))

-- ---- an expression that was read

pub type_read : (s : State) (r : Read) (o : Out) (t : FlowType) → told r s ≡ o → t ≡ r.ty → t ≡ o.ty
unfolding told
type_read s r o t is same = same ∙ ap (λ (x : Out). x.ty) is

-- ---- what is watched

pub watches_world : (a : Around) (at : ℕ) → around_world (record a { watch = Some at }) ≡ record (around_world a) { watch = Some at }
unfolding around_world
watches_world a at = refl

pub watched_some : (c : Checker) (o : Option (Bor noted.Seen)) (s : Bor noted.Seen) → option_map (λ (x : Bor noted.Seen). seen_view x.now) o ≡ (notes_view c.state.notes).watched → o ≡ Some s → Some s.now.ty ≡ seen_type (checker_env c).notes.watched
unfolding checker_env now
watched_some c o s told is = ap (λ (x : Option (Bor noted.Seen)). seen_type (option_map (λ (y : Bor noted.Seen). seen_view y.now) x)) (sym is) ∙ ap seen_type told

pub watched_none : (c : Checker) (o : Option (Bor noted.Seen)) → option_map (λ (x : Bor noted.Seen). seen_view x.now) o ≡ (notes_view c.state.notes).watched → o ≡ None → None ≡ seen_type (checker_env c).notes.watched
unfolding checker_env now
watched_none c o told is = ap (λ (x : Option (Bor noted.Seen)). seen_type (option_map (λ (y : Bor noted.Seen). seen_view y.now) x)) (sym is) ∙ ap seen_type told
