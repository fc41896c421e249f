-- What a module sees by signatures and by others that say the same where it reaches: the names that it may meet, and that both give the
-- same for them.
use Rattle.std.proofs.Common.{◌≡◌, ◌↔◌, ℕ, Bool, true, false, not, ◌||◌, IsTrue, List, [], ◌∷◌, ◌++◌, map, Option, Some, None, is_some, unwrap_or, bytes_eq, if◌then◌else◌, refl, sym, ap, ◌∙◌, subst}
use Rattle.std.specs.Cmp.Lexicographic.{bytes_decides}
use Rattle.std.specs.Option.{option_or}
use Rattle.std.specs.List.{AllByRecursion, flat_map}
use Rattle.std.proofs.lemmas.List.Folds.{list_any-append}
use Rattle.flow_values.specs.declared.span.Span.{Span}
use Rattle.js_grammar.specs.Items.{Items, Module, module_of}
use Rattle.js_grammar.specs.Types.{Ty}
use Rattle.check_values.specs.Rows.{Bytes, Rows, row_at, is_among}
use Rattle.check_values.specs.FaultOrder.{faults_in_order}
use Rattle.check_values.specs.declared.signatures.Deps.{Deps}
use Rattle.check_values.specs.declared.signatures.Export.{Export}
use Rattle.check_values.specs.declared.signatures.Export.TheVariants as says
use Rattle.check_values.specs.declared.signatures.Sig.{Sig}
use Rattle.type_values.specs.declared.types.FlowType.{FlowType}
use Rattle.type_values.specs.declared.types.FlowType as made
use Rattle.type_names.specs.Names.{Name, names_in}
use Rattle.alias_table.specs.Aliases.{Key}
use Rattle.alias_members.proofs.MemberLemmas.{one_way}
use Rattle.local_signatures.specs.Faults.{signature_faults}
use Rattle.local_signatures.specs.Scope as home
use Rattle.local_signatures.specs.Scope.{bound_import, bound_variable, bound_function, bound_alias, scope_of}
use Rattle.merged_signatures.specs.Chains.{found}
use Rattle.merged_signatures.specs.Reach.{paths_in, paths_of_export, paths_named, Reach, by_specifier, by_signature}
use Rattle.errors_law.specs.typing.specs.States.{TypeMeaning, a_type, World, Env}
use Rattle.errors_law.specs.typing.specs.TypeFaults.{type_meant, written_by}
use Rattle.errors_law.specs.module_errors.specs.Program.{Program, Saying, says_nothing, lacks_it, says_it, said_by_rows, said_by_sig, said_by, said_in, value_said, type_said, type_bound, world_of}
use Rattle.errors_law.specs.module_errors.specs.Items.{read_items}
use Rattle.errors_law.specs.module_errors.specs.Errors.{top_env, module_read, seen_type}
use Rattle.errors_law.specs.errors_by_reach.specs.Seen.{Sigs, IsTable, meaning_in, own_alias, alias_told, own_type, alias_type, names_unfolded, IsSeen}
use Rattle.reach_law.specs.Good.{Good, AllGood}
use Rattle.reach_law.specs.Twins.{Twins, one, other}
use Rattle.errors_law.specs.errors_by_reach.specs.Law.{Agree}
use Rattle.reach_law.specs.Law.{ErrorsByReach, TypesByReach}
use Rattle.reach_law.proofs.Types.{any_good, ref_good}
use Rattle.reach_law.proofs.Trees.{type_good}
use Rattle.reach_law.proofs.Tables.{cyclic_there, members_there, below_there}
use Rattle.reach_law.proofs.Modules.{AreLike, top_same, items_same}

or_true : (a b : Bool) → b ≡ true → (a || b) ≡ true
or_true true b is = refl
or_true false b is = is

true_or : (a b : Bool) → a ≡ true → (a || b) ≡ true
true_or true b is = refl
true_or false b is = cc

some_or_none : (b : Bool) → (b || not (b || b)) ≡ true
some_or_none true = refl
some_or_none false = refl

is_itself : (x : Bytes) → bytes_eq x x ≡ true
is_itself x = (bytes_decides x x).1 refl

-- two answers to questions that follow from each other are the same
same_answer : (b c : Bool) {P Q : Type 0} → IsTrue b ↔ P → IsTrue c ↔ Q → (P → Q) → (Q → P) → b ≡ c
same_answer true true p q f g = refl
same_answer false false p q f g = refl
same_answer true false p q f g = sym (q.1 (f (p.0 refl)))
same_answer false true p q f g = p.1 (g (q.0 refl))

-- ---- names in rows

each_name : (P : Bytes → Type 0) (names : List Name) → ((x : Bytes) → is_among (map (λ n. n.0) names) x ≡ true → P x) → AllByRecursion (λ (n : Name). P n.0) names
each_name P [] f = tt
each_name P (n ∷ names) f = (f n.0 (true_or (bytes_eq n.0 n.0) _ (is_itself n.0)), each_name P names (λ x is. f x (or_true (bytes_eq x n.0) _ is)))

row_among : {X : Type 0} (paths : X → List Bytes) (rows : Rows X) (name : Bytes) (x : X) → row_at rows name ≡ Some x → (y : Bytes) → is_among (paths x) y ≡ true → is_among (flat_map (λ (row : Bytes × X). paths row.1) rows) y ≡ true
row_among paths [] name x is y c = cc
row_among {X} paths (row ∷ rows) name x is y c = go (bytes_eq row.0 name) is (λ e. row_among paths rows name x e y c)
  where
    go : (b : Bool) → (if b then Some row.1 else row_at rows name) ≡ Some x → (row_at rows name ≡ Some x → is_among (flat_map (λ (r : Bytes × X). paths r.1) rows) y ≡ true) → is_among (flat_map (λ (r : Bytes × X). paths r.1) (row ∷ rows)) y ≡ true
    go true e later =
        let same : row.1 ≡ x = cc in
        list_any-append (bytes_eq y) (paths row.1) (flat_map (λ (r : Bytes × X). paths r.1) rows) ∙ true_or (is_among (paths row.1) y) _ (subst (λ (z : X). is_among (paths z) y ≡ true) (sym same) c)
    go false e later = list_any-append (bytes_eq y) (paths row.1) (flat_map (λ (r : Bytes × X). paths r.1) rows) ∙ or_true (is_among (paths row.1) y) _ (later e)

alias_named : (s : Sig) (name : Bytes) (t : FlowType) → row_at s.aliases name ≡ Some t → (y : Bytes) → is_among (paths_in t) y ≡ true → is_among (paths_named s) y ≡ true
alias_named s name t is y c =
    list_any-append (bytes_eq y) (flat_map (λ row. paths_of_export row.1) s.exports) (flat_map (λ row. paths_in row.1) s.aliases)
    ∙ or_true (is_among (flat_map (λ row. paths_of_export row.1) s.exports) y) _ (row_among paths_in s.aliases name t is y c)

export_named : (s : Sig) (name : Bytes) (e : Export) → row_at s.exports name ≡ Some e → (y : Bytes) → is_among (paths_of_export e) y ≡ true → is_among (paths_named s) y ≡ true
export_named s name e is y c =
    list_any-append (bytes_eq y) (flat_map (λ row. paths_of_export row.1) s.exports) (flat_map (λ row. paths_in row.1) s.aliases)
    ∙ true_or (is_among (flat_map (λ row. paths_of_export row.1) s.exports) y) _ (row_among paths_of_export s.exports name e is y c)

module _ (path : Bytes) (deps : Deps) (m : Module) (sigs rest table : Sigs) (t : IsTable sigs deps table) (agree : Agree sigs deps rest) where
  abbrev Reached : Bytes → Type 0
  Reached = Reach sigs deps

  -- ---- what names mean

  said_same : (spec name : Bytes) → said_in deps sigs spec name ≡ said_in deps rest spec name
  said_same spec name = go (found deps spec) (λ x e. by_specifier spec x e)
    where
      go : (o : Option Bytes) → ((x : Bytes) → o ≡ Some x → Reach sigs deps x) → said_by sigs name o ≡ said_by rest name o
      go None reach = refl
      go (Some x) reach = ap (said_by_sig name) (sym (agree x (reach x refl)))

  meaning_same : (name : Bytes) (b : Option home.Binding) → type_bound path deps sigs name b ≡ type_bound path deps rest name b
  meaning_same name None = refl
  meaning_same name (Some (bound_alias u)) = refl
  meaning_same name (Some (bound_import spec outer true)) = ap (λ s. a_type (type_said s)) (said_same spec outer)
  meaning_same name (Some (bound_import spec outer false)) = refl
  meaning_same name (Some (bound_variable d)) = refl
  meaning_same name (Some (bound_function f)) = refl

  meanings : meaning_in path deps sigs m ≡ meaning_in path deps rest m
  meanings = λ i name. meaning_same name (row_at (scope_of m) name) i

  -- ---- the names that the module may meet: its own aliases, and all names of modules that it reaches or that have no signature at all

  abbrev is_told : Bytes → Bool
  is_told at = is_some (table at) || not (is_some (sigs at) || is_some (rest at))

  abbrev own : Key → Option FlowType
  own = own_type path deps m sigs

  abbrev inside : Key → Bool
  inside key = is_some (own key) || is_told key.0

  abbrev In : Key → Type 0
  In key = inside key ≡ true

  reach_in : (at name : Bytes) → Reached at → In (at, name)
  reach_in at name r =
      or_true (is_some (own (at, name))) (is_told at)
      ((λ i. is_some (t.has at r i) || not (is_some (sigs at) || is_some (agree at r i))) ∙ some_or_none (is_some (sigs at)))

  own_in : (name : Bytes) (u : Ty) → row_at (scope_of m) name ≡ Some (bound_alias u) → In (path, name)
  own_in name u is =
      true_or (is_some (own (path, name))) (is_told path)
      (λ i. is_some (if is_itself path i then own_alias (meaning_in path deps sigs m) (is i) else None))

  abbrev types : Key → Option FlowType
  types = alias_type path deps m sigs

  abbrev others : Key → Option FlowType
  others = alias_type path deps m rest

  told_same : (at : Bytes) → is_told at ≡ true → rest at ≡ sigs at
  told_same at is = go (table at) refl (sigs at) refl (rest at) refl
    where
      go : (o : Option Sig) → table at ≡ o → (x : Option Sig) → sigs at ≡ x → (y : Option Sig) → rest at ≡ y → rest at ≡ sigs at
      go (Some s) e x f y g = agree at (t.only at s e)
      go None e None f None g = g ∙ sym f
      go None e (Some s) f y g = absurd (let wrong : false ≡ true = sym (λ i. is_some (e i) || not (is_some (f i) || is_some (rest at))) ∙ is in cc)
      go None e None f (Some s) g = absurd (let wrong : false ≡ true = sym (λ i. is_some (e i) || not (is_some (f i) || is_some (g i))) ∙ is in cc)

  same : (key : Key) → In key → others key ≡ types key
  same key at =
      ap (λ (meaning : Bytes → TypeMeaning). option_or (if bytes_eq key.0 path then own_alias meaning (row_at (scope_of m) key.1) else None) (alias_told key.1 (rest key.0))) (sym meanings)
      ∙ go (own key) at
    where
      go : (o : Option FlowType) → (is_some o || is_told key.0) ≡ true → option_or o (alias_told key.1 (rest key.0)) ≡ option_or o (alias_told key.1 (sigs key.0))
      go (Some u) is = refl
      go None is = ap (alias_told key.1) (told_same key.0 is)

  -- ---- what the signatures of the table say is good

  names_good : (at : Bytes) (s : Sig) → Reached at → sigs at ≡ Some s → (u : FlowType) → ((y : Bytes) → is_among (paths_in u) y ≡ true → is_among (paths_named s) y ≡ true) → Good In u
  names_good at s r e u each = go (names_in u) (each_name Reached (names_in u) (λ x is. by_signature at x s r e (each x is)))
    where
      go : (names : List Name) → AllByRecursion (λ (n : Name). Reached n.0) names → AllByRecursion In names
      go [] a = tt
      go (n ∷ names) a = (reach_in n.0 n.1 a.0, go names a.1)

  abbrev GoodSaying : Saying → Type 0
  GoodSaying (says_it (says.Value u)) = Good In u
  GoodSaying (says_it (says.Alias at name)) = In (at, name)
  GoodSaying saying = Unit {0}

  saying_good : (spec name : Bytes) → GoodSaying (said_in deps sigs spec name)
  saying_good spec name = go (found deps spec) (λ x e. by_specifier spec x e)
    where
      by_row : (at : Bytes) (s : Sig) → Reached at → sigs at ≡ Some s → (o : Option Export) → row_at s.exports name ≡ o → GoodSaying (said_by_rows o)
      by_row at s r e None is = tt
      by_row at s r e (Some (says.Value u)) is = names_good at s r e u (export_named s name (says.Value u) is)
      by_row at s r e (Some (says.Alias there outer)) is =
          reach_in there outer (by_signature at there s r e (export_named s name (says.Alias there outer) is there (true_or (bytes_eq there there) false (is_itself there))))
      by_row at s r e (Some says.Unknown) is = tt
      by_row at s r e (Some says.Cyclic) is = tt

      by_sig : (at : Bytes) → Reached at → (o : Option Sig) → sigs at ≡ o → GoodSaying (said_by_sig name o)
      by_sig at r None e = tt
      by_sig at r (Some s) e = by_broken s.broken
        where
          by_broken : (b : Bool) → GoodSaying (if b then says_nothing else said_by_rows (row_at s.exports name))
          by_broken true = tt
          by_broken false = by_row at s r e (row_at s.exports name) refl

      go : (o : Option Bytes) → ((x : Bytes) → o ≡ Some x → Reached x) → GoodSaying (said_by sigs name o)
      go None reach = tt
      go (Some x) reach = by_sig x (reach x refl) (sigs x) refl

  value_good : (saying : Saying) → GoodSaying saying → Good In (value_said saying)
  value_good (says_it (says.Value u)) g = g
  value_good (says_it (says.Alias at name)) g = any_good In
  value_good (says_it says.Unknown) g = any_good In
  value_good (says_it says.Cyclic) g = any_good In
  value_good says_nothing g = any_good In
  value_good lacks_it g = any_good In

  type_said_good : (saying : Saying) → GoodSaying saying → Good In (type_said saying)
  type_said_good (says_it (says.Value u)) g = any_good In
  type_said_good (says_it (says.Alias at name)) g = ref_good In at name g
  type_said_good (says_it says.Unknown) g = any_good In
  type_said_good (says_it says.Cyclic) g = any_good In
  type_said_good says_nothing g = any_good In
  type_said_good lacks_it g = any_good In

  meaning_good : (name : Bytes) → Good In (type_meant (meaning_in path deps sigs m name))
  meaning_good name = go (row_at (scope_of m) name) refl
    where
      go : (b : Option home.Binding) → row_at (scope_of m) name ≡ b → Good In (type_meant (type_bound path deps sigs name b))
      go None is = any_good In
      go (Some (bound_alias u)) is = ref_good In path name (own_in name u is)
      go (Some (bound_import spec outer true)) is = type_said_good (said_in deps sigs spec outer) (saying_good spec outer)
      go (Some (bound_import spec outer false)) is = any_good In
      go (Some (bound_variable d)) is = any_good In
      go (Some (bound_function f)) is = any_good In

  closed : (key : Key) → In key → (u : FlowType) → types key ≡ Some u → Good In u
  closed key at u is = go (own key) refl at is
    where
      written : (b : Option home.Binding) → own_alias (meaning_in path deps sigs m) b ≡ Some u → Good In u
      written (Some (bound_alias v)) e =
          let same : written_by (meaning_in path deps sigs m) v ≡ u = cc in
          subst (λ (x : FlowType). Good In x) same (type_good In (λ name. type_meant (meaning_in path deps sigs m name)) meaning_good v)
      written None e = cc
      written (Some (bound_import spec outer is_type)) e = cc
      written (Some (bound_variable d)) e = cc
      written (Some (bound_function f)) e = cc

      reached : (o : Option Sig) → table key.0 ≡ o → (s : Sig) → sigs key.0 ≡ Some s → is_told key.0 ≡ true → Reached key.0
      reached (Some x) e s f told = t.only key.0 x e
      reached None e s f told = absurd (let wrong : false ≡ true = sym (λ i. is_some (e i) || not (is_some (f i) || is_some (rest key.0))) ∙ told in cc)

      by_told : (o : Option Sig) → sigs key.0 ≡ o → is_told key.0 ≡ true → alias_told key.1 o ≡ Some u → Good In u
      by_told None f told e = cc
      by_told (Some s) f told e = names_good key.0 s (reached (table key.0) refl s f told) f u (alias_named s key.1 u e)

      by_own : (b : Bool) → (if b then own_alias (meaning_in path deps sigs m) (row_at (scope_of m) key.1) else None) ≡ Some u → Good In u
      by_own true e = written (row_at (scope_of m) key.1) e
      by_own false e = cc

      go : (o : Option FlowType) → own key ≡ o → (is_some o || is_told key.0) ≡ true → option_or o (alias_told key.1 (sigs key.0)) ≡ Some u → Good In u
      go (Some v) f told e = by_own (bytes_eq key.0 path) (f ∙ e)
      go None f told e = by_told (sigs key.0) refl told e

  -- ---- the same marks, members and subtypes

  module _ (p q : Program) (sees : IsSeen path deps m sigs p) (looks : IsSeen path deps m rest q) where
    cyclic_same : (key : Key) → In key → p.is_cyclic key ≡ q.is_cyclic key
    cyclic_same key at =
        same_answer (p.is_cyclic key) (q.is_cyclic key) (sees.cyclic key) (looks.cyclic key) (cyclic_there inside types others same closed key at)
        (cyclic_there inside others types (λ k a. sym (same k a)) (λ k a u e. closed k a u (sym (same k a) ∙ e)) key at)

    abbrev named : Key → FlowType
    named = names_unfolded path deps m sigs p

    abbrev renamed : Key → FlowType
    renamed = names_unfolded path deps m rest q

    named_same : (key : Key) → In key → renamed key ≡ named key
    named_same key at = (λ i. if sym (cyclic_same key at) i then made.Any else unwrap_or (same key at i) made.Any)

    named_good : (key : Key) → In key → Good In (named key)
    named_good key at = go (p.is_cyclic key) (types key) (closed key at)
      where
        go : (b : Bool) (o : Option FlowType) → ((u : FlowType) → o ≡ Some u → Good In u) → Good In (if b then made.Any else unwrap_or o made.Any)
        go true o f = any_good In
        go false None f = any_good In
        go false (Some u) f = f u refl

    renamed_good : (key : Key) → In key → Good In (renamed key)
    renamed_good key at = subst (λ (u : FlowType). Good In u) (sym (named_same key at)) (named_good key at)

    members_both : (u : FlowType) → Good In u → (p.members u ≡ q.members u) × AllGood In (q.members u)
    members_both u g =
        let there = members_there inside named renamed named_same named_good (u ∷ []) (p.members u) (g, tt) (sees.members u) in
        let is = (one_way renamed there.0 (looks.members u) refl).0 in
        (is, subst (λ (l : List FlowType). AllGood In l) is there.1)

    below_same : (a b : FlowType) → Good In a → Good In b → p.below a b ≡ q.below a b
    below_same a b g d =
        same_answer (p.below a b) (q.below a b) (sees.below a b) (looks.below a b) (below_there inside named renamed named_same named_good a b g d)
        (below_there inside renamed named (λ k at. sym (named_same k at)) renamed_good a b g d)

    abbrev twins : List Span → Option ℕ → Twins In
    twins spans watch = record {
      members = p.members;
      others = q.members;
      below = p.below;
      under = q.below;
      type_meaning = meaning_in path deps sigs m;
      spans = spans;
      watch = watch;
      same_members = λ u g. (members_both u g).0;
      good_members = λ u g. (members_both u g).1;
      same_below = below_same;
      good_meaning = meaning_good;
    }

    -- ---- what the module sees

    like : AreLike In p q
    like = record {
      deps = sees.by_list ∙ sym looks.by_list;
      same_said = λ spec name. (λ i. said_in (sees.by_list i) (sees.by_table i) spec name) ∙ said_same spec name ∙ sym (λ i. said_in (looks.by_list i) (looks.by_table i) spec name);
      good_said = λ spec name.
          subst (λ (saying : Saying). Good In (value_said saying)) (said_same spec name ∙ sym (λ i. said_in (looks.by_list i) (looks.by_table i) spec name))
          (value_good (said_in deps sigs spec name) (saying_good spec name));
      cyclic = λ key at. cyclic_same key at;
    }

    abbrev read_in : World → Program → Items → Env
    read_in w x is = read_items w x m is (top_env w x is)

    world_one : (spans : List Span) (watch : Option ℕ) → world_of p m spans watch ≡ one In (twins spans watch)
    world_one spans watch =
        (λ i. record {
          members = p.members;
          below = p.below;
          type_meaning = λ name. type_bound (sees.at_path i) (sees.by_list i) (sees.by_table i) name (row_at (scope_of m) name);
          spans = spans;
          watch = watch;
        })

    world_other : (spans : List Span) (watch : Option ℕ) → world_of q m spans watch ≡ other In (twins spans watch)
    world_other spans watch =
        let means : (λ name. type_bound q.path q.deps q.sigs name (row_at (scope_of m) name)) ≡ meaning_in path deps sigs m =
        (λ i name. type_bound (looks.at_path i) (looks.by_list i) (looks.by_table i) name (row_at (scope_of m) name)) ∙ sym meanings in
        (λ i. record { members = q.members; below = q.below; type_meaning = means i; spans = spans; watch = watch })

    pub all_same : (is : Items) (spans : List Span) (watch : Option ℕ) → read_in (world_of p m spans watch) p is ≡ read_in (world_of q m spans watch) q is
    all_same is spans watch =
        let h = twins spans watch in
        let top = top_same In h p q like is in
        ap (λ (w : World). read_in w p is) (world_one spans watch)
        ∙ (ap (read_items (one In h) p m is) top.0 ∙ (items_same In h p q like m is (top_env (other In h) q is) top.1).0)
        ∙ sym (ap (λ (w : World). read_in w q is) (world_other spans watch))

read_same : (path : Bytes) (deps : Deps) (m : Module) (sigs rest table : Sigs) (p q : Program) → IsTable sigs deps table → Agree sigs deps rest
    → IsSeen path deps m sigs p → IsSeen path deps m rest q → (spans : List Span) (watch : Option ℕ) → module_read p m spans watch ≡ module_read q m spans watch
read_same path deps (module_of f to is) sigs rest table p q t agree sees looks spans watch =
    all_same path deps (module_of f to is) sigs rest table t agree p q sees looks is spans watch

pub errors_by_reach : ErrorsByReach
errors_by_reach path deps m sigs rest table p q t agree sees looks spans =
    ap (λ (env : Env). faults_in_order (signature_faults m spans ++ env.notes.faults)) (read_same path deps m sigs rest table p q t agree sees looks spans None)

pub types_by_reach : TypesByReach
types_by_reach path deps m sigs rest table p q t agree sees looks spans place =
    ap (λ (env : Env). seen_type env.notes.watched) (read_same path deps m sigs rest table p q t agree sees looks spans (Some place))
