-- What is noted and bound of other modules, by what they say.
use Rattle.std.proofs.Common.{◌≡◌, ℕ, suc, ◌&&◌, Bool, true, false, cond, Option, Some, None, sym, ap, ◌∙◌}
use Rattle.alias_table.specs.Table.{is_marked}
use Rattle.check_values.specs.Rows.{Bytes}
use Rattle.check_values.specs.declared.codes.Code.{Code}
use Rattle.check_values.specs.declared.codes.Code.TheVariants.{CannotResolveModule, RecursiveAlias}
use Rattle.check_world.specs.View.{world_view, meaning_in}
use Rattle.js_grammar.specs.Items as g
use Rattle.js_grammar.specs.Types.{Ty}
use Rattle.local_signatures.specs.Scope.{default_name}
use Rattle.type_terms.specs.Show.{quoted}
use Rattle.type_values.specs.declared.types.FlowType.{FlowType}
use Rattle.type_values.specs.declared.types.FlowType as made
use Rattle.typing.specs.Names.{Binding, Scope, type_name, constant, binding_of}
use Rattle.typing.specs.States.{World, Notes, fault_at, name_fault}
use Rattle.typing.specs.TypeFaults.{type_meant}
use Rattle.module_errors.specs.Program.{Program, Saying, value_said, wrong_import}
use Rattle.module_errors.specs.TopNames.{top_binding, import_binding}
use Rattle.module_errors.specs.Items.{specifier_found, specifier_read, wrong_at, imported_read, is_bound_at, is_on_cycle}
use Rattle.import_sayings.specs.View.{found_of, said_of}
use Rattle.import_sayings.specs.declared.imports.Imports.{Imports}
use Rattle.check_items.specs.View.{Says, Sees, is_recursive, recursive_noted}
use Rattle.check_items.specs.declared.items.Module.{Module}

module _ (imports : Imports) (p : Program) (w : World) (token : ℕ) (spec : Bytes) where
  pub specifier_there : (path : Bytes) (n : Notes) → Says imports p → Some path ≡ found_of imports spec → n ≡ specifier_read w p token spec n
  specifier_there path n says is = ap (λ (o : Option Bytes). specifier_found w token spec o n) (is ∙ says.finds spec)

  pub specifier_missing : (details : Bytes) (before after : Notes) → Says imports p → None ≡ found_of imports spec → details ≡ quoted spec → after ≡ name_fault (fault_at w token (suc token) CannotResolveModule details) before →
      after ≡ specifier_read w p token spec before
  specifier_missing details before after says is shown noted =
      noted ∙ ap (λ (text : Bytes). name_fault (fault_at w token (suc token) CannotResolveModule text) before) shown ∙ ap (λ (o : Option Bytes). specifier_found w token spec o before) (is ∙ says.finds spec)

  pub named_read : (is_type : Bool) (name : Bytes) (saying : Saying) (wrong : Option Code) (before after : Notes) → Says imports p → saying ≡ said_of imports spec name → wrong ≡ wrong_import is_type saying →
      after ≡ wrong_at w token name wrong before → after ≡ imported_read w p is_type spec token name before
  named_read is_type name saying wrong before after says told is noted =
      noted ∙ ap (λ (o : Option Code). wrong_at w token name o before) (is ∙ ap (wrong_import is_type) (told ∙ says.says spec name))

pub default_read : (w : World) (p : Program) (spec : Bytes) (token : ℕ) (name : Bytes) (before after : Notes) → name ≡ default_name → after ≡ imported_read w p false spec token name before → after ≡ imported_read w p false spec token default_name before
default_read w p spec token name before after is noted = noted ∙ ap (λ (n : Bytes). imported_read w p false spec token n before) is

-- the binding of an imported name
pub imported_type : (p : Program) (is_type : Bool) (spec outer name : Bytes) (token : ℕ) (b : Binding) → is_type ≡ true → b ≡ top_binding name token type_name made.Any → b ≡ import_binding p is_type spec outer name token
imported_type p is_type spec outer name token b e is = is ∙ ap (λ (c : Bool). import_binding p c spec outer name token) (sym e)

pub imported_value : (imports : Imports) (p : Program) (is_type : Bool) (spec outer name : Bytes) (token : ℕ) (saying : Saying) (t : FlowType) (b : Binding) → Says imports p → is_type ≡ false → saying ≡ said_of imports spec outer → t ≡ value_said saying →
    b ≡ top_binding name token constant t → b ≡ import_binding p is_type spec outer name token
imported_value imports p is_type spec outer name token saying t b says e told ty is =
    is ∙ ap (top_binding name token constant) (ty ∙ ap value_said (told ∙ says.says spec outer)) ∙ ap (λ (c : Bool). import_binding p c spec outer name token) (sym e)

-- an alias whose name means a name that lies on a cycle
pub recursive_told : (around : Module) (p : Program) (m : g.Module) (scope : Scope) (token : ℕ) (name : Bytes) (counts on_cycle : Bool) (t : FlowType) → Sees around p m → counts ≡ is_bound_at token (binding_of scope.names name) →
    t ≡ type_meant (meaning_in around.world.now.names.now name) → on_cycle ≡ is_on_cycle (is_marked around.world.now.table.now) t → (counts && on_cycle) ≡ is_recursive (world_view around.world.now) p scope token name
unfolding world_view
recursive_told around p m scope token name counts on_cycle t sees bound means told =
    let meant : FlowType = type_meant (meaning_in around.world.now.names.now name) in
    let cycle : on_cycle ≡ is_on_cycle p.is_cyclic meant = told ∙ ap (is_on_cycle (is_marked around.world.now.table.now)) means ∙ (λ i. is_on_cycle (λ key. sees.cyclic key i) meant) in
    λ i. bound i && cycle i

-- an alias on a cycle
pub recursive_yes : (w : World) (p : Program) (scope : Scope) (f t token : ℕ) (name : Bytes) (v : Ty) (is_one : Bool) (before after : Notes) → token ≡ suc f → is_one ≡ is_recursive w p scope token name → is_one ≡ true →
    after ≡ name_fault (fault_at w token (suc token) RecursiveAlias name) before → after ≡ recursive_noted w p scope (g.alias f t name v) before
recursive_yes w p scope f t token name v is_one before after at told e noted =
    noted ∙ ap (λ (k : ℕ). name_fault (fault_at w k (suc k) RecursiveAlias name) before) at
    ∙ ap (λ (b : Bool). cond b (name_fault (fault_at w (suc f) (suc (suc f)) RecursiveAlias name) before) before) (sym e ∙ told ∙ ap (λ (k : ℕ). is_recursive w p scope k name) at)

pub recursive_no : (w : World) (p : Program) (scope : Scope) (f t token : ℕ) (name : Bytes) (v : Ty) (is_one : Bool) (before : Notes) → token ≡ suc f → is_one ≡ is_recursive w p scope token name → is_one ≡ false →
    before ≡ recursive_noted w p scope (g.alias f t name v) before
recursive_no w p scope f t token name v is_one before at told e =
    ap (λ (b : Bool). cond b (name_fault (fault_at w (suc f) (suc (suc f)) RecursiveAlias name) before) before) (sym e ∙ told ∙ ap (λ (k : ℕ). is_recursive w p scope k name) at)
