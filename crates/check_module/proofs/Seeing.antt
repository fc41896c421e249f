-- What a module sees by a table.
use Rattle.std.proofs.Common.{◌≡◌, ◌↔◌, ℕ, IsTrue, cond, bytes_eq, List, [], ◌∷◌, ◌++◌, Option, Some, None, unwrap_or, refl, sym, ap, ap₂, ◌∙◌, subst}
use Rattle.std.specs.Option.{option_or, option_and_then}
use Rattle.flow_values.specs.declared.span.Span.{Span}
use Rattle.type_values.specs.declared.types.FlowType.{FlowType}
use Rattle.type_values.specs.declared.types.FlowType as made
use Rattle.std.specs.List.{flat_map}
use Rattle.js_grammar.specs.Items.{Module, module_of}
use Rattle.js_tree.specs.View.{items_view}
use Rattle.js_tree.specs.declared.items.Item.{Item}
use Rattle.alias_table.specs.Aliases.{Row, Key, alias_type, IsCyclic}
use Rattle.alias_table.specs.Members.{AreMembers}
use Rattle.alias_table.specs.Table as table
use Rattle.alias_table.specs.Table.{alias_of, is_marked}
use Rattle.alias_table.specs.declared.table.AliasTable.{AliasTable}
use Rattle.alias_members.specs.MembersIn.{members_in}
use Rattle.alias_members.proofs.MembersIn.{are_members}
use Rattle.subtyping.specs.Closed.{IsBelow}
use Rattle.subtype_rules.specs.Answer.{below}
use Rattle.subtype_rules.proofs.Deciding.{below_is}
use Rattle.check_values.specs.Rows.{Bytes, Rows, row_at, first_of_each}
use Rattle.check_values.specs.declared.signatures.Deps.{Deps}
use Rattle.check_values.specs.declared.signatures.Sig.{Sig}
use Rattle.check_world.specs.View.{meaning_in}
use Rattle.check_world.specs.declared.names.TypeScope.{TypeScope}
use Rattle.local_signatures.specs.Scope.{scope_of, bindings, bound_by, items_from}
use Rattle.merged_signatures.specs.Chains.{found}
use Rattle.named_rows.specs.Seen.{seen}
use Rattle.typing.specs.States.{TypeMeaning}
use Rattle.module_errors.specs.Program.{Program, said_by, type_bound, world_of}
use Rattle.errors_by_reach.specs.Seen as reached
use Rattle.errors_by_reach.specs.Seen.{Sigs, IsSeen, alias_told, own_alias}
use Rattle.import_sayings.specs.View.{found_of, sigs_of}
use Rattle.import_sayings.specs.declared.imports.Imports.{Imports}
use Rattle.check_job.specs.declared.job.CheckJob.{CheckJob}
use Rattle.check_job.specs.signature_table.specs.Telling.{type_told, AreAliases}
use Rattle.check_job.specs.signature_table.specs.declared.table.SignatureTable.{SignatureTable}
use Rattle.check_items.specs.View.{SaysOf}
use Rattle.check_items.specs.Meant.{meant, own_rows}
use Rattle.check_module.specs.View.{HasAliases, StandsFor, around_world}
use Rattle.check_module.specs.declared.around.Around.{Around}
use Rattle.check_module.proofs.OwnAliases.{own_told, firsts_once}

alias_is : (key : Key) (o : Option Sig) → option_and_then (λ (sig : Sig). row_at sig.aliases key.1) o ≡ alias_told key.1 o
alias_is key None = refl
alias_is key (Some sig) = refl

-- the table of the module's own aliases and of those of all signatures
pub has_aliases : (own before rows listed others : List Row) (sigs told : Rows Sig) (t : AliasTable) → before ≡ [] → rows ≡ before ++ own → listed ≡ rows → told ≡ sigs → AreAliases told others →
    ((key : Key) → alias_of t key ≡ option_or (alias_type listed key) (alias_type others key)) → ((key : Key) → IsTrue (is_marked t key) ↔ IsCyclic (alias_of t) key) → HasAliases own (sigs_of sigs) t
has_aliases own before rows listed others sigs told t none is same shown are types marks = (
  (λ key. types key ∙ ap (λ (l : List Row). option_or (alias_type l key) (alias_type others key)) (same ∙ is ∙ ap (λ (l : List Row). l ++ own) none)
      ∙ ap (option_or (alias_type own key)) (are key ∙ ap (λ (l : Rows Sig). type_told l key) shown ∙ alias_is key (row_at sigs key.0))),
  marks,
)

-- what imports say is what all signatures say
pub says_all : (imports : Imports) (deps : Deps) (sigs : SignatureTable) → imports.table.now ≡ sigs → ((spec : Bytes) → found_of imports spec ≡ found deps spec) → SaysOf imports deps (sigs_of sigs.rows)
says_all imports deps sigs same finds = record {
  finds = finds;
  says = λ spec name. ap₂ (λ (s : SignatureTable) (o : Option Bytes). said_by (sigs_of s.rows) name o) same (finds spec);
}

module _ (path : Bytes) (deps : Deps) (m : Module) (t : Sigs) (names : TypeScope) (a : AliasTable)
    (means : (name : Bytes) → meaning_in names name ≡ type_bound path deps t name (row_at (scope_of m) name))
    (aliases : (key : Key) → alias_of a key ≡ option_or (alias_type (own_rows path (meaning_in names) (seen meant (scope_of m))) key) (alias_told key.1 (t key.0)))
    (marks : (key : Key) → IsTrue (is_marked a key) ↔ IsCyclic (alias_of a) key) where
  meanings : meaning_in names ≡ reached.meaning_in path deps t m
  meanings = λ i name. means name i

  aliases_same : (key : Key) → alias_of a key ≡ reached.alias_type path deps m t key
  aliases_same key =
      aliases key
      ∙ ap (λ (o : Option FlowType). option_or o (alias_told key.1 (t key.0)))
      (own_told path (meaning_in names) key (scope_of m) (firsts_once (bindings m))
      ∙ ap (λ (mean : Bytes → TypeMeaning). cond (bytes_eq key.0 path) (own_alias mean (row_at (scope_of m) key.1)) None) meanings)

  all_same : alias_of a ≡ reached.alias_type path deps m t
  all_same = λ i key. aliases_same key i

  abbrev seen_program : Program
  seen_program = record { path = path; deps = deps; sigs = t; is_cyclic = is_marked a; members = members_in a; below = below a }

  unfolded_same : table.unfolded a ≡ reached.names_unfolded path deps m t seen_program
  unfolded_same = λ i key. cond (is_marked a key) made.Any (unwrap_or (aliases_same key i) made.Any)

  pub is_seen : IsSeen path deps m t seen_program
  is_seen = record {
    at_path = refl;
    by_list = refl;
    by_table = refl;
    cyclic = λ name. subst (λ (f : Key → Option FlowType). IsTrue (is_marked a name) ↔ IsCyclic f name) all_same (marks name);
    members = λ x. subst (λ (f : Key → FlowType). AreMembers f (x ∷ []) (members_in a x)) unfolded_same (are_members a x);
    below = λ x y. subst (λ (f : Key → FlowType). IsTrue (below a x y) ↔ IsBelow f x y) unfolded_same (below_is a x y);
  }

-- what stands around the code of a job's module
pub stands : (job : CheckJob) (m : Module) (spans : List Span) (watch : Option ℕ) (own : List Row) (a : Around) → a.spans.now ≡ spans → a.watch ≡ watch → ((spec : Bytes) → found_of a.imports spec ≡ found job.deps spec) →
    a.imports.table.now ≡ job.sigs →
    ((deps : Deps) (sigs : Sigs) → SaysOf a.imports deps sigs → (name : Bytes) → meaning_in a.names name ≡ type_bound job.path deps sigs name (row_at (scope_of m) name)) →
    own ≡ own_rows job.path (meaning_in a.names) (seen meant (scope_of m)) → HasAliases own (sigs_of job.sigs.rows) a.table → StandsFor job m spans watch a
unfolding around_world
stands job m spans watch own a at watched finds shown told is (aliases, marks) =
    let t : Sigs = sigs_of job.sigs.rows in
    let sees : SaysOf a.imports job.deps t = says_all a.imports job.deps job.sigs shown finds in
    let means : (name : Bytes) → meaning_in a.names name ≡ type_bound job.path job.deps t name (row_at (scope_of m) name) = told job.deps t sees in
    let tells : (key : Key) → alias_of a.table key ≡ option_or (alias_type (own_rows job.path (meaning_in a.names) (seen meant (scope_of m))) key) (alias_told key.1 (t key.0)) =
    λ key. aliases key ∙ ap (λ (l : List Row). option_or (alias_type l key) (alias_told key.1 (t key.0))) is in
    let p : Program = seen_program job.path job.deps m t a.names a.table means tells marks in
    let world : around_world a ≡ world_of p m spans watch = λ i. record { members = members_in a.table; below = below a.table; type_meaning = λ name. means name i; spans = at i; watch = watched i } in
    let own_world : around_world a ≡ world_of p m a.spans.now a.watch = λ i. record { members = members_in a.table; below = below a.table; type_meaning = λ name. means name i; spans = a.spans.now; watch = a.watch } in
    (p, is_seen job.path job.deps m t a.names a.table means tells marks, record { imports = sees; cyclic = λ key. refl; world = own_world }, world)

-- by the names that were found
pub stands_by : (job : CheckJob) (m : Module) (spans : List Span) (watch : Option ℕ) (names : TypeScope) (own : List Row) (a : Around) → a.spans.now ≡ spans → a.watch ≡ watch → a.names ≡ names →
    ((spec : Bytes) → found_of a.imports spec ≡ found job.deps spec) → a.imports.table.now ≡ job.sigs →
    ((deps : Deps) (sigs : Sigs) → SaysOf a.imports deps sigs → (name : Bytes) → meaning_in names name ≡ type_bound job.path deps sigs name (row_at (scope_of m) name)) →
    own ≡ own_rows job.path (meaning_in names) (seen meant (scope_of m)) → HasAliases own (sigs_of job.sigs.rows) a.table → StandsFor job m spans watch a
stands_by job m spans watch names own a at watched same finds shown told is has =
    subst (λ (n : TypeScope). StandsFor job m spans watch (record a { names = n })) (sym same) (stands job m spans watch own (record a { names = names }) at watched finds shown told is has)

-- by the parts of a job and of its tree
pub stands_parts : (job : CheckJob) (first end : ℕ) (all listed : List Item) (spans : List Span) (watch : Option ℕ) (deps : Deps) (sigs : SignatureTable) (names : TypeScope) (own : List Row) (a : Around) → deps ≡ job.deps → sigs ≡ job.sigs → listed ≡ all →
    a.spans.now ≡ spans → a.watch ≡ watch → a.names ≡ names → ((spec : Bytes) → found_of a.imports spec ≡ found deps spec) → a.imports.table.now ≡ sigs →
    ((ds : Deps) (ss : Sigs) → SaysOf a.imports ds ss → (name : Bytes) → meaning_in names name ≡ type_bound job.path ds ss name (row_at (first_of_each (flat_map bound_by (items_from (items_view listed)))) name)) →
    own ≡ own_rows job.path (meaning_in names) (seen meant (first_of_each (flat_map bound_by (items_from (items_view listed))))) → HasAliases own (sigs_of job.sigs.rows) a.table → StandsFor job (module_of first end (items_view all)) spans watch a
stands_parts job first end all listed spans watch deps sigs names own a same_deps same_sigs same_items at watched same finds shown told is has =
    stands_by job (module_of first end (items_view all)) spans watch names own a at watched same (λ spec. finds spec ∙ ap (λ (d : Deps). found d spec) same_deps) (shown ∙ same_sigs)
    (λ ds ss sees name. told ds ss sees name ∙ ap (λ (l : List Item). type_bound job.path ds ss name (row_at (first_of_each (flat_map bound_by (items_from (items_view l)))) name)) same_items)
    (is ∙ ap (λ (l : List Item). own_rows job.path (meaning_in names) (seen meant (first_of_each (flat_map bound_by (items_from (items_view l)))))) same_items) has
