-- What a module sees of a program, by the rows of its aliases; and its errors by that.
use Rattle.std.proofs.Common.{◌≡◌, ◌⊎◌, inl, inr, ◌↔◌, Bool, true, false, List, [], ◌∷◌, ◌++◌, map, Contains, Option, Some, None, unwrap_or, bytes_eq, refl, sym, ◌∙◌, subst, if◌then◌else◌}
use Rattle.std.specs.Prelude.{IsTrue}
use Rattle.std.specs.Option.{option_or}
use Rattle.std.specs.Cmp.Lexicographic.{bytes_decides}
use Rattle.type_values.specs.declared.types.FlowType.{FlowType}
use Rattle.type_values.specs.declared.types.FlowType as made
use Rattle.alias_table.specs.Aliases.{Row, Key, is_row_of, row_type, alias_type, IsCyclic}
use Rattle.alias_table.specs.Members.{AreMembers}
use Rattle.alias_table.specs.Unfolding.{UnfoldsTo, cyclic, missing, plain, Unfolds}
use Rattle.alias_table.proofs.OneType.{one_type, table_unfolds}
use Rattle.alias_table.proofs.Reaching.{row_cyclic}
use Rattle.alias_members.specs.Rows.{unfolded_by, members_by}
use Rattle.alias_members.proofs.ByRows.{rows_unfold, members_by_rows}
use Rattle.subtyping.specs.Closed.{IsBelow}
use Rattle.subtyping.proofs.Decided.{decided}
use Rattle.subtyping.proofs.Whole.{here, there}
use Rattle.check_values.specs.Rows.{Bytes, row_at}
use Rattle.check_values.specs.declared.signatures.Deps.{Deps}
use Rattle.check_values.specs.declared.signatures.Sig.{Sig}
use Rattle.js_grammar.specs.Items.{Module}
use Rattle.local_signatures.specs.Scope.{Binding, scope_of}
use Rattle.errors_by_reach.specs.module_errors.specs.Program.{Program}
use Rattle.errors_by_reach.specs.module_errors.specs.Errors.{module_errors, broken_errors}
use Rattle.errors_by_reach.specs.Seen as seen
use Rattle.errors_by_reach.specs.Seen.{Sigs, own_alias, meaning_in, alias_told, IsSeen}
use Rattle.errors_by_reach.specs.Law.{whole, broken}
use Rattle.errors_law.specs.Law.{EachHasErrors, EachSees, EachSeesReached}
use Rattle.errors_law.proofs.Ways.{HasPlace}
use Rattle.errors_law.proofs.Reached.{has_row, table_of, is_table, table_path}
use Rattle.errors_law.proofs.AliasRows.{append_rows, rows_for, own_told, other_home, table_rows, all_told}

none_some : {A X : Type 0} (x : A) → None ≡ Some x → X
none_some x e = absurd (cc)

-- ---- names by rows

-- each row's type is one of the types of the rows
row_in : (rows : List Row) (key : Key) (t : FlowType) → alias_type rows key ≡ Some t → Contains (map row_type rows) t
row_in [] key t is = none_some t is
row_in (row ∷ rows) key t is = go (is_row_of key row) is (row_in rows key t)
  where
    go : (b : Bool) → (if b then Some row.2 else alias_type rows key) ≡ Some t → (alias_type rows key ≡ Some t → Contains (map row_type rows) t) → Contains (row_type row ∷ map row_type rows) t
    go true found later = let same : row.2 ≡ t = cc in subst (λ (u : FlowType). Contains (u ∷ map row_type rows) t) (sym same) (here t (map row_type rows))
    go false found later = there (row_type row) t (map row_type rows) (later found)

named_in : (rows : List Row) (key : Key) (t : FlowType) → UnfoldsTo rows key t → Contains (made.Any ∷ map row_type rows) t
named_in rows key t (cyclic loop is) = subst (λ (u : FlowType). Contains (made.Any ∷ map row_type rows) u) (sym is) (here made.Any (map row_type rows))
named_in rows key t (missing none is) = subst (λ (u : FlowType). Contains (made.Any ∷ map row_type rows) u) (sym is) (here made.Any (map row_type rows))
named_in rows key t (plain no_loop is) = there made.Any t (map row_type rows) (row_in rows key t is)

module _ (rows : List Row) where
  is_marked : Key → Bool
  is_marked key = elim (row_cyclic rows key) [ inl cycle ↦ true | inr never ↦ false ]

  marked : (key : Key) → (is_marked key ≡ true → IsCyclic (alias_type rows) key) × (IsCyclic (alias_type rows) key → is_marked key ≡ true)
  unfolding is_marked
  marked key = go (row_cyclic rows key)
    where
      go : (t : IsCyclic (alias_type rows) key ⊎ (IsCyclic (alias_type rows) key → ⊥)) →
          (elim t as (λ _. Bool) [ inl cycle ↦ true | inr never ↦ false ] ≡ true → IsCyclic (alias_type rows) key) × (IsCyclic (alias_type rows) key → elim t as (λ _. Bool) [ inl cycle ↦ true | inr never ↦ false ] ≡ true)
      go (inl cycle) = ((λ yes. cycle), (λ cycle. refl))
      go (inr never) = ((λ yes. absurd (let z : false ≡ true = yes in cc)), (λ cycle. absurd (never cycle)))

  named : Key → FlowType
  named key = if is_marked key then made.Any else unwrap_or (alias_type rows key) made.Any

  names_unfold : Unfolds rows named
  unfolding named
  names_unfold key = table_unfolds rows key (is_marked key) (alias_type rows key) (marked key) refl

  named_by_rows : named ≡ unfolded_by rows
  named_by_rows = λ i key. one_type rows key (named key) (unfolded_by rows key) (names_unfold key) (rows_unfold rows key) i

  below_or_not : (a b : FlowType) → (yes : Bool) × (IsTrue yes ↔ IsBelow named a b)
  below_or_not = decided named (made.Any ∷ map row_type rows) (λ key. named_in rows key (named key) (names_unfold key))

-- ---- what a module sees

module _ (path : Bytes) (deps : Deps) (m : Module) (table : Sigs) (rows : List Row) (same : seen.alias_type path deps m table ≡ alias_type rows) where
  program : Program
  program = record {
    path = path;
    deps = deps;
    sigs = table;
    is_cyclic = is_marked rows;
    members = members_by rows;
    below = λ a b. (below_or_not rows a b).0;
  }

  names_same : seen.names_unfolded path deps m table program ≡ named rows
  unfolding program named
  names_same = λ i key. if is_marked rows key then made.Any else unwrap_or (same i key) made.Any

  is_seen : IsSeen path deps m table program
  unfolding program
  is_seen = record {
    at_path = refl;
    by_list = refl;
    by_table = refl;
    cyclic = λ key. (
      (λ yes. subst (λ types. IsCyclic types key) (sym same) ((marked rows key).0 yes)),
      (λ cycle. (marked rows key).1 (subst (λ types. IsCyclic types key) same cycle)),
    );
    members = λ t. subst (λ names. AreMembers names (t ∷ []) (members_by rows t)) (sym (named_by_rows rows) ∙ sym names_same) (members_by_rows rows t);
    below = λ a b. (
      (λ yes. subst (λ names. IsBelow names a b) (sym names_same) ((below_or_not rows a b).1.0 yes)),
      (λ below. (below_or_not rows a b).1.1 (subst (λ names. IsBelow names a b) names_same below)),
    );
  }

-- ---- the rows of the aliases that a module sees

own_among : (path : Bytes) (deps : Deps) (table : Sigs) (m : Module) (name : Bytes) (t : FlowType) → own_alias (meaning_in path deps table m) (row_at (scope_of m) name) ≡ Some t
    → HasPlace (map (λ (row : Bytes × Binding). row.0) (scope_of m)) name
own_among path deps table m name t is = go (row_at (scope_of m) name) refl is
  where
    go : (o : Option Binding) → row_at (scope_of m) name ≡ o → own_alias (meaning_in path deps table m) o ≡ Some t → HasPlace (map (λ (row : Bytes × Binding). row.0) (scope_of m)) name
    go None at is = none_some t is
    go (Some b) at is = has_row (scope_of m) name b at

module _ (path : Bytes) (deps : Deps) (m : Module) (table : Sigs) (paths : List Bytes) (among : (q : Bytes) (s : Sig) → table q ≡ Some s → HasPlace paths q) where
  own_types : Bytes → Option FlowType
  own_types name = own_alias (meaning_in path deps table m) (row_at (scope_of m) name)

  own_names : List Bytes
  own_names = map (λ (row : Bytes × Binding). row.0) (scope_of m)

  all_rows : List Row
  all_rows = rows_for path own_types own_names ++ table_rows table paths

  told_path : (name q : Bytes) (t : FlowType) → alias_told name (table q) ≡ Some t → HasPlace paths q
  told_path name q t is = go (table q) refl is
    where
      go : (o : Option Sig) → table q ≡ o → alias_told name o ≡ Some t → HasPlace paths q
      go None at told = none_some t told
      go (Some s) at told = among q s at

  own_rows_told : (key : Key) (b : Bool) → bytes_eq key.0 path ≡ b → alias_type (rows_for path own_types own_names) key ≡ (if b then own_types key.1 else None)
  unfolding own_types own_names
  own_rows_told key true is =
      let same : key.0 ≡ path = (bytes_decides key.0 path).0 is in
      (λ i. alias_type (rows_for path own_types own_names) (same i, key.1)) ∙ own_told path own_types own_names key.1 (λ t told. own_among path deps table m key.1 t told)
  own_rows_told key false is = other_home path own_types own_names key (λ same. let z : false ≡ true = sym is ∙ (bytes_decides key.0 path).1 same in cc)

  rows_tell : (key : Key) → seen.alias_type path deps m table key ≡ alias_type all_rows key
  unfolding all_rows own_types
  rows_tell key =
      sym (append_rows (rows_for path own_types own_names) (table_rows table paths) key
      ∙ (λ i. option_or (own_rows_told key (bytes_eq key.0 path) refl i) (all_told table paths key (λ t is. told_path key.1 key.0 t is) i)))

-- ---- what a module sees by all signatures, and by those that it reaches; its errors

sees_by : (path : Bytes) (deps : Deps) (m : Module) (table : Sigs) (paths : List Bytes) → ((q : Bytes) (s : Sig) → table q ≡ Some s → HasPlace paths q) → (p : Program) × IsSeen path deps m table p
sees_by path deps m table paths among =
    let rows = all_rows path deps m table paths among in
    let same : seen.alias_type path deps m table ≡ alias_type rows = (λ i key. rows_tell path deps m table paths among key i) in
    (program path deps m table rows same, is_seen path deps m table rows same)

pub each_sees : EachSees
each_sees path deps m sigs = sees_by path deps m (row_at sigs) (map (λ (row : Bytes × Sig). row.0) sigs) (λ q s is. has_row sigs q s is)

pub each_sees_reached : EachSeesReached
each_sees_reached path deps m sigs =
    let sees = sees_by path deps m (table_of deps sigs) (map (λ (row : Bytes × Sig). row.0) sigs) (table_path deps sigs) in
    (table_of deps sigs, is_table deps sigs, sees.0, sees.1)

pub each_has_errors : EachHasErrors
each_has_errors path deps (broken code place) sigs = (broken_errors code place, refl)
each_has_errors path deps (whole m spans) sigs = let sees = each_sees path deps m sigs in (module_errors sees.0 m spans, (sees.0, sees.1, refl))
