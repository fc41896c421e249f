-- Modules in two programs: their items are read the same.
use Rattle.std.proofs.Common.{◌≡◌, ℕ, suc, ◌-◌, ◌&&◌, Bool, true, false, List, [], ◌∷◌, ◌++◌, Some, None, unwrap_or, if◌then◌else◌, refl, ap, ◌∙◌}
use Rattle.js_grammar.specs.Code.{simple}
use Rattle.js_grammar.specs.Items.{imported, Importeds, no_imported, more_imported, ImportList, import_list, ImportForm, import_default, import_both, import_names, import_types, import_only, AliasOf, alias, exported, Exporteds, no_exported, more_exported, ExportList, export_list, ExportForm, export_declaration, export_function, export_alias, export_names, export_from, export_default_function, export_default, ItemForm, imports, exports, declares_item, function_item, alias_item, does_item, item, Items, no_item, more_item, Module}
use Rattle.check_values.specs.Rows.{Bytes}
use Rattle.check_values.specs.declared.codes.Code.TheVariants.{RecursiveAlias}
use Rattle.type_values.specs.declared.types.FlowType.{FlowType, out-FlowType}
use Rattle.type_values.specs.declared.types.FlowType.TheOpen.{Ref}
use Rattle.type_values.specs.declared.types.FlowType as made
use Rattle.type_names.specs.Names.{Name}
use Rattle.local_signatures.specs.Scope.{scope_of, default_name}
use Rattle.merged_signatures.specs.Chains.{found}
use Rattle.flow_facts.specs.Known.{no_facts}
use Rattle.errors_law.specs.typing.specs.Names.{constant, type_name, Binding, prelude, binding_of}
use Rattle.errors_law.specs.typing.specs.Names as typing
use Rattle.errors_law.specs.typing.specs.Changes.{Change}
use Rattle.errors_law.specs.typing.specs.States.{World, Notes, Env, Out, after, now_of, with_now, fault_at, name_fault}
use Rattle.errors_law.specs.typing.specs.TypeFaults.{type_meant, type_read}
use Rattle.errors_law.specs.typing.specs.Functions.{Bound, bind, bind_declaration, bind_function, none_bound}
use Rattle.errors_law.specs.typing.specs.Typing.{read}
use Rattle.errors_law.specs.module_errors.specs.Program.{Program, said, value_said, wrong_import}
use Rattle.errors_law.specs.module_errors.specs.TopNames.{top_binding, import_binding, bind_importeds, bind_list, bind_default, bind_import, bind_alias, bind_export, bind_item, bind_items, changes_of_items, exportings_of, Exporting, exported_twice}
use Rattle.errors_law.specs.module_errors.specs.Items.{specifier_found, specifier_read, wrong_at, imported_read, importeds_read, list_read, import_read, wrong_export, exporteds_read, exports_read, handed_on, list_handed_on, is_bound_at, level_on_cycle, is_on_cycle, alias_read, noted_env, read_export, read_item_form, read_item, read_items}
use Rattle.errors_law.specs.module_errors.specs.Errors.{no_notes, top_env}
use Rattle.reach_law.specs.Good.{Level, Good, GoodLevel}
use Rattle.reach_law.specs.Twins.{Twins, one, other, GoodBinding, GoodNames, GoodEnv}
use Rattle.reach_law.proofs.Types.{all_append, out_good, any_good, void_good}
use Rattle.reach_law.proofs.Facts.{after_good}
use Rattle.reach_law.proofs.Trees.{GoodBound, bind_good, bind_declaration_good, bind_function_good}
use Rattle.reach_law.proofs.Written.{type_is}
use Rattle.reach_law.proofs.Forms.{noted_env_good, with_now_good}
use Rattle.reach_law.proofs.Cycle.{Twin, ex_same, declaration_same, simple_same, top_function_same}

-- what two programs say of other modules is the same, and good, and good names lie on the same cycles
pub record AreLike (In : Name → Type 0) (p q : Program) : Type 0 where
  pub deps : p.deps ≡ q.deps
  pub same_said : (spec name : Bytes) → said p spec name ≡ said q spec name
  pub good_said : (spec name : Bytes) → Good In (value_said (said q spec name))
  pub cyclic : (key : Name) → In key → p.is_cyclic key ≡ q.is_cyclic key

module _ (In : Name → Type 0) (h : Twins In) (p q : Program) (like : AreLike In p q) where
  abbrev R : World
  R = one In h

  abbrev S : World
  S = other In h

  -- ---- what is bound

  abbrev Bounds : Bound → Bound → Type 0
  Bounds = Twin (GoodBound In h)

  binding_same : (is_type : Bool) (spec outer name : Bytes) (token : ℕ) → Twin (GoodBinding In) (import_binding p is_type spec outer name token) (import_binding q is_type spec outer name token)
  binding_same true spec outer name token = (refl, any_good In)
  binding_same false spec outer name token = (ap (λ s. top_binding name token constant (value_said s)) (like.same_said spec outer), like.good_said spec outer)

  one_bound : (token : ℕ) (b c : Binding) (x y : Bound) → Twin (GoodBinding In) b c → Bounds x y → Bounds (bind R token b x) (bind S token c y)
  one_bound token b c x y r a = ((λ i. bind S token (r.0 i) (a.0 i)), bind_good In h token c y r.1 a.1)

  importeds_bound : (is_type : Bool) (spec : Bytes) (ns : Importeds) (x y : Bound) → Bounds x y → Bounds (bind_importeds R p is_type spec ns x) (bind_importeds S q is_type spec ns y)
  importeds_bound is_type spec no_imported x y a = a
  importeds_bound is_type spec (more_imported ns (imported f t outer name)) x y a =
      one_bound (t - 1) (import_binding p is_type spec (unwrap_or outer name) name (t - 1)) (import_binding q is_type spec (unwrap_or outer name) name (t - 1))
      (bind_importeds R p is_type spec ns x) (bind_importeds S q is_type spec ns y) (binding_same is_type spec (unwrap_or outer name) name (t - 1)) (importeds_bound is_type spec ns x y a)

  list_bound : (is_type : Bool) (spec : Bytes) (ns : ImportList) (x y : Bound) → Bounds x y → Bounds (bind_list R p is_type spec ns x) (bind_list S q is_type spec ns y)
  list_bound is_type spec (import_list f t ns trailing) x y a = importeds_bound is_type spec ns x y a

  default_bound : (spec : Bytes) (token : ℕ) (name : Bytes) (x y : Bound) → Bounds x y → Bounds (bind_default R p spec token name x) (bind_default S q spec token name y)
  default_bound spec token name x y a =
      one_bound token (import_binding p false spec default_name name token) (import_binding q false spec default_name name token) x y (binding_same false spec default_name name token) a

  import_bound : (f : ℕ) (spec : Bytes) (form : ImportForm) (x y : Bound) → Bounds x y → Bounds (bind_import R p f spec form x) (bind_import S q f spec form y)
  import_bound f spec (import_default name) x y a = default_bound spec (suc f) name x y a
  import_bound f spec (import_both name ns) x y a =
      list_bound false spec ns (bind_default R p spec (suc f) name x) (bind_default S q spec (suc f) name y) (default_bound spec (suc f) name x y a)
  import_bound f spec (import_names ns) x y a = list_bound false spec ns x y a
  import_bound f spec (import_types ns) x y a = list_bound true spec ns x y a
  import_bound f spec import_only x y a = a

  alias_bound : (form : AliasOf) (x y : Bound) → Bounds x y → Bounds (bind_alias R form x) (bind_alias S form y)
  alias_bound (alias f t name v) x y a = let b = top_binding name (suc f) type_name made.Any in one_bound (suc f) b b x y (refl, any_good In) a

  export_bound : (changes : List Change) (form : ExportForm) (x y : Bound) → Bounds x y → Bounds (bind_export R changes form x) (bind_export S changes form y)
  export_bound changes (export_declaration d) x y a = (ap (bind_declaration S 0 changes d) a.0, bind_declaration_good In h 0 changes d y a.1)
  export_bound changes (export_function f) x y a = (ap (bind_function S 0 f) a.0, bind_function_good In h 0 f y a.1)
  export_bound changes (export_alias form) x y a = alias_bound form x y a
  export_bound changes (export_names is_type ns) x y a = a
  export_bound changes (export_from is_type ns spec) x y a = a
  export_bound changes (export_default_function f) x y a = (ap (bind_function S 0 f) a.0, bind_function_good In h 0 f y a.1)
  export_bound changes (export_default e) x y a = a

  item_bound : (changes : List Change) (f : ℕ) (form : ItemForm) (x y : Bound) → Bounds x y → Bounds (bind_item R p changes f form x) (bind_item S q changes f form y)
  item_bound changes f (imports form spec) x y a = import_bound f spec form x y a
  item_bound changes f (exports form) x y a = export_bound changes form x y a
  item_bound changes f (declares_item d) x y a = (ap (bind_declaration S 0 changes d) a.0, bind_declaration_good In h 0 changes d y a.1)
  item_bound changes f (function_item made_by) x y a = (ap (bind_function S 0 made_by) a.0, bind_function_good In h 0 made_by y a.1)
  item_bound changes f (alias_item form) x y a = alias_bound form x y a
  item_bound changes f (does_item s) x y a = a

  items_bound : (changes : List Change) (is : Items) (x y : Bound) → Bounds x y → Bounds (bind_items R p changes is x) (bind_items S q changes is y)
  items_bound changes no_item x y a = a
  items_bound changes (more_item is (item f t form)) x y a =
      item_bound changes f form (bind_items R p changes is x) (bind_items S q changes is y) (items_bound changes is x y a)

  -- ---- before the first item

  twice_same : (before : List Bytes) (es : List Exporting) (notes : Notes) → exported_twice R before es notes ≡ exported_twice S before es notes
  twice_same before [] notes = refl
  twice_same before (e ∷ es) notes = twice_same (e.1 ∷ before) es _

  prelude_good : GoodNames In prelude
  prelude_good = (void_good In, (any_good In, (any_good In, (any_good In, (any_good In, tt)))))

  pub top_same : (is : Items) → Twin (GoodEnv In) (top_env R p is) (top_env S q is)
  top_same is =
      let bound = bind_items S q (changes_of_items is) is (none_bound no_notes) in
      let r = items_bound (changes_of_items is) is (none_bound no_notes) (none_bound no_notes) (refl, tt) in
      let start : Bound → Notes → Env = λ b notes. record { scope = record { names = b.names ++ prelude; depth = 0; result = None }; facts = Some no_facts; notes = notes; returned = []; breaks = None } in (
        ap (λ (b : Bound). start b (exported_twice R [] (exportings_of is) b.notes)) r.0 ∙ ap (start bound) (twice_same [] (exportings_of is) bound.notes),
        record { scope = record { names = all_append (GoodBinding In) bound.names prelude r.1 prelude_good; result = tt }; facts = λ place. tt; returned = tt; breaks = tt },
      )

  -- ---- notes alone

  specifier_same : (token : ℕ) (spec : Bytes) (notes : Notes) → specifier_read R p token spec notes ≡ specifier_read S q token spec notes
  specifier_same token spec notes = ap (λ d. specifier_found S token spec (found d spec) notes) like.deps

  imported_same : (is_type : Bool) (spec : Bytes) (token : ℕ) (name : Bytes) (notes : Notes) → imported_read R p is_type spec token name notes ≡ imported_read S q is_type spec token name notes
  imported_same is_type spec token name notes = ap (λ s. wrong_at S token name (wrong_import is_type s) notes) (like.same_said spec name)

  importeds_same : (is_type : Bool) (spec : Bytes) (ns : Importeds) (notes : Notes) → importeds_read R p is_type spec ns notes ≡ importeds_read S q is_type spec ns notes
  importeds_same is_type spec no_imported notes = refl
  importeds_same is_type spec (more_imported ns (imported f t outer name)) notes =
      ap (imported_read R p is_type spec f (unwrap_or outer name)) (importeds_same is_type spec ns notes) ∙ imported_same is_type spec f (unwrap_or outer name) (importeds_read S q is_type spec ns notes)

  list_same : (is_type : Bool) (spec : Bytes) (ns : ImportList) (notes : Notes) → list_read R p is_type spec ns notes ≡ list_read S q is_type spec ns notes
  list_same is_type spec (import_list f t ns trailing) notes = importeds_same is_type spec ns notes

  import_same : (f : ℕ) (spec : Bytes) (form : ImportForm) (notes : Notes) → import_read R p f spec form notes ≡ import_read S q f spec form notes
  import_same f spec (import_default name) notes = imported_same false spec (suc f) default_name notes
  import_same f spec (import_both name ns) notes =
      ap (list_read R p false spec ns) (imported_same false spec (suc f) default_name notes) ∙ list_same false spec ns (imported_read S q false spec (suc f) default_name notes)
  import_same f spec (import_names ns) notes = list_same false spec ns notes
  import_same f spec (import_types ns) notes = list_same true spec ns notes
  import_same f spec import_only notes = refl

  handed_same : (is_type : Bool) (spec : Bytes) (ns : Exporteds) (notes : Notes) → handed_on R p is_type spec ns notes ≡ handed_on S q is_type spec ns notes
  handed_same is_type spec no_exported notes = refl
  handed_same is_type spec (more_exported ns (exported f t name renamed)) notes =
      ap (imported_read R p is_type spec f name) (handed_same is_type spec ns notes) ∙ imported_same is_type spec f name (handed_on S q is_type spec ns notes)

  list_handed_same : (is_type : Bool) (spec : Bytes) (ns : ExportList) (notes : Notes) → list_handed_on R p is_type spec ns notes ≡ list_handed_on S q is_type spec ns notes
  list_handed_same is_type spec (export_list f t ns trailing) notes = handed_same is_type spec ns notes

  exporteds_same : (m : Module) (is_type : Bool) (ns : Exporteds) (notes : Notes) → exporteds_read R (scope_of m) is_type ns notes ≡ exporteds_read S (scope_of m) is_type ns notes
  exporteds_same m is_type no_exported notes = refl
  exporteds_same m is_type (more_exported ns (exported f t name renamed)) notes = ap (wrong_at S f name (wrong_export is_type _)) (exporteds_same m is_type ns notes)

  exports_same : (m : Module) (is_type : Bool) (ns : ExportList) (notes : Notes) → exports_read R (scope_of m) is_type ns notes ≡ exports_read S (scope_of m) is_type ns notes
  exports_same m is_type (export_list f t ns trailing) notes = exporteds_same m is_type ns notes

  level_same : (z : Level) → GoodLevel In z → level_on_cycle p.is_cyclic z ≡ level_on_cycle q.is_cyclic z
  level_same (Ref home name) good = like.cyclic (home, name) good
  level_same z good = refl

  cycle_same : (name : Bytes) → is_on_cycle p.is_cyclic (type_meant (h.type_meaning name)) ≡ is_on_cycle q.is_cyclic (type_meant (h.type_meaning name))
  cycle_same name = let t : FlowType = type_meant (h.type_meaning name) in level_same (out-FlowType t) (out_good In t (h.good_meaning name))

  alias_same : (scope : typing.Scope) (form : AliasOf) (notes : Notes) → alias_read R p scope form notes ≡ alias_read S q scope form notes
  alias_same scope (alias f t name v) notes =
      let noted : Bool → Notes = λ b. if is_bound_at (suc f) (binding_of scope.names name) && b then name_fault (fault_at S (suc f) (suc (suc f)) RecursiveAlias name) notes else notes in
      ap (λ (b : Bool). type_read R v (noted b)) (cycle_same name) ∙ type_is In h v (noted (is_on_cycle q.is_cyclic (type_meant (h.type_meaning name))))

  -- ---- items

  abbrev Envs : Env → Env → Type 0
  Envs = Twin (GoodEnv In)

  noted_twin : (f g : Notes → Notes) (env : Env) → f env.notes ≡ g env.notes → GoodEnv In env → Envs (noted_env f env) (noted_env g env)
  noted_twin f g env is d = (ap (λ (notes : Notes). record env { notes = notes }) is, noted_env_good In h (g env.notes) env d)

  export_same : (m : Module) (t : ℕ) (form : ExportForm) (env : Env) → GoodEnv In env → Envs (read_export R p m t form env) (read_export S q m t form env)
  export_same m t (export_declaration x) env d = declaration_same In h x env d
  export_same m t (export_function x) env d = top_function_same In h x env d
  export_same m t (export_alias form) env d = noted_twin (alias_read R p env.scope form) (alias_read S q env.scope form) env (alias_same env.scope form env.notes) d
  export_same m t (export_names is_type ns) env d =
      noted_twin (exports_read R (scope_of m) is_type ns) (exports_read S (scope_of m) is_type ns) env (exports_same m is_type ns env.notes) d
  export_same m t (export_from is_type ns spec) env d =
      noted_twin (λ notes. list_handed_on R p is_type spec ns (specifier_read R p (t - 2) spec notes)) (λ notes. list_handed_on S q is_type spec ns (specifier_read S q (t - 2) spec notes)) env
      (ap (list_handed_on R p is_type spec ns) (specifier_same (t - 2) spec env.notes) ∙ list_handed_same is_type spec ns (specifier_read S q (t - 2) spec env.notes)) d
  export_same m t (export_default_function x) env d = top_function_same In h x env d
  export_same m t (export_default e) env d =
      let r = ex_same In h e env.scope None (now_of env) d.scope tt d.facts in
      let v = read S e env.scope None (now_of env) in
      (ap (λ (x : Out). with_now (after x) env) r.0, with_now_good In h (after v) env (after_good In v r.1) d)

  form_same : (m : Module) (f t : ℕ) (form : ItemForm) (env : Env) → GoodEnv In env → Envs (read_item_form R p m f t form env) (read_item_form S q m f t form env)
  form_same m f t (imports form spec) env d =
      noted_twin (λ notes. import_read R p f spec form (specifier_read R p (t - 2) spec notes)) (λ notes. import_read S q f spec form (specifier_read S q (t - 2) spec notes)) env
      (ap (import_read R p f spec form) (specifier_same (t - 2) spec env.notes) ∙ import_same f spec form (specifier_read S q (t - 2) spec env.notes)) d
  form_same m f t (exports form) env d = export_same m t form env d
  form_same m f t (declares_item x) env d = declaration_same In h x env d
  form_same m f t (function_item x) env d = top_function_same In h x env d
  form_same m f t (alias_item form) env d = noted_twin (alias_read R p env.scope form) (alias_read S q env.scope form) env (alias_same env.scope form env.notes) d
  form_same m f t (does_item (simple sf st form)) env d = simple_same In h _ _ form env d

  pub items_same : (m : Module) (is : Items) (env : Env) → GoodEnv In env → Envs (read_items R p m is env) (read_items S q m is env)
  items_same m no_item env d = (refl, d)
  items_same m (more_item is (item f t form)) env d =
      let before = read_items S q m is env in
      let r = items_same m is env d in
      let x = form_same m f t form before r.1 in
      (ap (read_item R p m (item f t form)) r.0 ∙ x.0, x.1)
