-- What a merged signature says of an alias of its module, by the module's tree.
use Rattle.std.proofs.Common.{◌≡◌, ℕ, zero, suc, Bool, true, false, cond, List, [], ◌∷◌, map, Option, Some, None, is_some, option_map, bytes_eq, refl, sym, ap, ◌∙◌}
use Rattle.std.specs.Prelude.{◌||◌}
use Rattle.std.specs.List.{filter_map}
use Rattle.std.specs.Cmp.Lexicographic.{bytes_decides}
use Rattle.check_values.specs.Rows.{Bytes, row_at, is_among}
use Rattle.check_values.specs.declared.signatures.Deps.{Deps}
use Rattle.check_values.specs.declared.signatures.Export.{Export}
use Rattle.check_values.specs.declared.signatures.ImportRow.{ImportRow}
use Rattle.check_values.specs.declared.signatures.Origin.{Origin}
use Rattle.check_values.specs.declared.signatures.Sig.{Sig}
use Rattle.js_grammar.specs.Types.{Ty}
use Rattle.js_grammar.specs.Items.{Module}
use Rattle.type_values.specs.declared.types.FlowType.{FlowType}
use Rattle.type_values.specs.declared.types.FlowType as made
use Rattle.type_names.specs.Names.{Name, names_in}
use Rattle.name_replacing.specs.Replacing.{by_word, type_by}
use Rattle.name_replacing.proofs.Levels.{of_name}
use Rattle.tree_types.specs.TreeTypes.{type_of}
use Rattle.named_rows.proofs.FirstRows.{row_at-by_name}
use Rattle.program_check.specs.check_job.specs.errors_by_reach.specs.local_signatures.specs.Scope.{Binding, bound_import, bound_variable, bound_function, bound_alias, bindings, scope_of, own_path, names_type, local_name, local_type}
use Rattle.program_check.specs.check_job.specs.errors_by_reach.specs.local_signatures.specs.LocalSignature.{alias_row, aliases_of, imports_of, by_alias, reached_names, local_signature}
use Rattle.program_check.specs.check_job.specs.errors_by_reach.specs.local_signatures.proofs.Reaching.{sound, complete}
use Rattle.program_check.specs.check_job.specs.errors_by_reach.specs.module_errors.specs.merged_signatures.specs.Chains.{Known, View, found, End, at_value, at_alias, unknown, cyclic, ends, step_of, step_in, of_kind, end_of, end_within, most, denotes}
use Rattle.program_check.specs.check_job.specs.errors_by_reach.specs.module_errors.specs.merged_signatures.specs.Merged.{import_at, as_alias, alias_at, alias_imported, alias_through, alias_named, name_type, type_with, export_of, merged_known, merged}
use Rattle.program_check.specs.check_job.specs.errors_by_reach.specs.typing.specs.TypeFaults.{type_meant}
use Rattle.program_check.specs.check_job.specs.errors_by_reach.specs.module_errors.specs.Program.{says_nothing, said_by_rows, said_by_sig, said_by, type_said, type_bound}
use Rattle.own_alias_law.proofs.Rows.{some_same, row_left, row_made, row_named, import_left, firsts_once, alias_bound, alias_there, import_bound, import_there}
use Rattle.own_alias_law.proofs.Renamed.{Agree, replaced_same}
use Rattle.own_alias_law.proofs.Trees.{type_same, any_still}

-- ---- the local signature

module _ (m : Module) where
  -- the exports reach the name
  abbrev is_reached : Bytes → Bool
  is_reached = is_among (reached_names m)

  aliases_by_scope : (name : Bytes) → row_at (aliases_of m) name ≡ alias_bound (scope_of m) (row_at (scope_of m) name)
  aliases_by_scope name = row_at-by_name (filter_map (alias_row (scope_of m)) (scope_of m)) name ∙ alias_there (scope_of m) name (scope_of m) (firsts_once (bindings m))

  signature_alias : (name : Bytes) → row_at (local_signature m).aliases name ≡ cond (is_reached name) (alias_bound (scope_of m) (row_at (scope_of m) name)) None
  signature_alias name = row_left is_reached (aliases_of m) name ∙ ap (λ (o : Option FlowType). cond (is_reached name) o None) (aliases_by_scope name)

  signature_import : (name : Bytes) → is_reached name ≡ true → import_at (local_signature m).imports name ≡ import_bound name (row_at (scope_of m) name)
  signature_import name reached = import_left is_reached (imports_of m) name reached ∙ import_there name (scope_of m) (firsts_once (bindings m))

-- ---- what names denote

module _ (v : View) where
  -- a chain that ends at once, nowhere
  ended : (n : ℕ) (path name : Bytes) → step_in path (v path) name ≡ ends unknown → as_alias (of_kind true (end_within v n path name)) ≡ None
  ended zero path name e = refl
  ended (suc n) path name e = ap (λ s. as_alias (of_kind true (end_of (end_within v n) s))) e

  -- what is asked for as a value is no alias
  no_value : (e : End) → as_alias (of_kind false e) ≡ None
  no_value (at_value path t) = refl
  no_value (at_alias path name) = refl
  no_value unknown = refl
  no_value cyclic = refl

  -- what an export says as a type is the alias at which its chain ends
  said_end : (e : End) → type_said (said_by_rows (Some (export_of v e))) ≡ name_type (as_alias (of_kind true e))
  said_end (at_value path t) = refl
  said_end (at_alias path name) = refl
  said_end unknown = refl
  said_end cyclic = refl

  -- what a module says of a type is the alias that its name denotes
  said_sig : (path name : Bytes) → type_said (said_by_sig name (merged v path)) ≡ name_type (alias_at v true path name)
  said_sig path name = of (v path) refl
    where
      none : (o : Option Known) → v path ≡ o → step_in path o name ≡ ends unknown → made.Any ≡ name_type (alias_at v true path name)
      none o at e = ap name_type (sym (ended most path name (ap (λ (o : Option Known). step_in path o name) at ∙ e)))

      of_row : (k : Known) → v path ≡ Some k → k.sig.broken ≡ false → (o : Option Origin) → row_at k.sig.exports name ≡ o →
          type_said (said_by_rows (option_map (λ x. export_of v (denotes v path name)) o)) ≡ name_type (alias_at v true path name)
      of_row k at whole None is =
          none (Some k) at (ap (λ (b : Bool). cond b (ends unknown) (step_of path k.deps (row_at k.sig.exports name))) whole ∙ ap (step_of path k.deps) is)
      of_row k at whole (Some x) is = said_end (denotes v path name)

      of_known : (k : Known) → v path ≡ Some k → (b : Bool) → k.sig.broken ≡ b → type_said (cond b says_nothing (said_by_rows (row_at (merged_known v path k).exports name))) ≡ name_type (alias_at v true path name)
      of_known k at true broken = none (Some k) at (ap (λ (b : Bool). cond b (ends unknown) (step_of path k.deps (row_at k.sig.exports name))) broken)
      of_known k at false whole =
          ap (λ (o : Option Export). type_said (said_by_rows o)) (row_named (λ word. export_of v (denotes v path word)) k.sig.exports name) ∙ of_row k at whole (row_at k.sig.exports name) refl

      of : (o : Option Known) → v path ≡ o → type_said (said_by_sig name (option_map (merged_known v path) o)) ≡ name_type (alias_at v true path name)
      of None at = none None at refl
      of (Some k) at = of_known k at k.sig.broken refl

-- ---- an alias of the module, by its tree and by its signature

abbrev second : List Name → List Bytes
second names = map (λ n. n.1) names

-- the rules agree at the names of a list, where they do at its words
agree_all : (one other : Bytes → FlowType) (names : List Name) → ((w : Bytes) → is_among (second names) w ≡ true → one w ≡ other w) → Agree (by_word one) (by_word other) names
agree_all one other [] each = tt
agree_all one other (n ∷ names) each = (each n.1 here, agree_all one other names (λ w has. each w (later w has)))
  where
    here : is_among (second (n ∷ names)) n.1 ≡ true
    here = ap (λ (b : Bool). b || is_among (second names) n.1) ((bytes_decides n.1 n.1).1 refl)

    later : (w : Bytes) → is_among (second names) w ≡ true → is_among (second (n ∷ names)) w ≡ true
    later w has = go (bytes_eq w n.1)
      where
        go : (b : Bool) → (b || is_among (second names) w) ≡ true
        go true = refl
        go false = has

-- what is known of a module with this list and this tree by itself
abbrev pub known_by : Deps → Module → Known
known_by deps m = record { sig = local_signature m; deps = deps }

module _ (v : View) (sigs : Bytes → Option Sig) (are_merged : (q : Bytes) → sigs q ≡ merged v q) (path : Bytes) (deps : Deps) (m : Module) where
  -- what a word means by the tree, and by the signature
  abbrev by_tree : Bytes → FlowType
  by_tree w = type_meant (type_bound path deps sigs w (row_at (scope_of m) w))

  abbrev by_signature : Bytes → FlowType
  by_signature w = name_type (alias_named (alias_at v) path (known_by deps m) w)

  through : (row : ImportRow) (o : Option Bytes) → row.is_type ≡ true → type_said (said_by sigs row.name o) ≡ name_type (alias_through (alias_at v) row o)
  through row None is = refl
  through row (Some q) is = ap (λ (o : Option Sig). type_said (said_by_sig row.name o)) (are_merged q) ∙ said_sig v q row.name ∙ ap (λ (b : Bool). name_type (alias_at v b q row.name)) (sym is)

  as_value : (row : ImportRow) (o : Option Bytes) → row.is_type ≡ false → made.Any ≡ name_type (alias_through (alias_at v) row o)
  as_value row None is = refl
  as_value row (Some q) is = ap name_type (sym (no_value v (denotes v q row.name))) ∙ ap (λ (b : Bool). name_type (alias_at v b q row.name)) (sym is)

  -- by what a word is bound to
  bound_same : (w : Bytes) (b : Option Binding) →
      type_meant (type_bound path deps sigs w b) ≡ name_type (cond (is_some (alias_bound (scope_of m) b)) (Some (path, w)) (alias_imported (alias_at v) deps (import_bound w b)))
  bound_same w None = refl
  bound_same w (Some (bound_alias t)) = refl
  bound_same w (Some (bound_import spec outer true)) = through (record { local = w; spec = spec; name = outer; is_type = true }) (found deps spec) refl
  bound_same w (Some (bound_import spec outer false)) = as_value (record { local = w; spec = spec; name = outer; is_type = false }) (found deps spec) refl
  bound_same w (Some (bound_variable d)) = refl
  bound_same w (Some (bound_function f)) = refl

  word_same : (w : Bytes) → is_reached m w ≡ true → by_tree w ≡ by_signature w
  word_same w reached =
      let told = signature_alias m w ∙ ap (λ (b : Bool). cond b (alias_bound (scope_of m) (row_at (scope_of m) w)) None) reached in
      let imported = signature_import m w reached in
      bound_same w (row_at (scope_of m) w)
      ∙ (λ j. name_type (cond (is_some (sym told j)) (Some (path, w)) (alias_imported (alias_at v) deps (sym imported j))))

  -- a word of the local signature stands for what the tree means by it
  local_same : (w : Bytes) → by_tree w ≡ type_by by_tree (local_name (scope_of m) w)
  local_same w = of (row_at (scope_of m) w) refl
    where
      none : made.Any ≡ type_by by_tree made.Any
      none = sym (any_still by_tree)

      own : (b : Option Binding) → row_at (scope_of m) w ≡ b → type_meant (type_bound path deps sigs w b) ≡ type_by by_tree (made.Ref own_path w)
      own b at = ap (λ (o : Option Binding). type_meant (type_bound path deps sigs w o)) (sym at) ∙ sym (of_name by_tree own_path w)

      of : (b : Option Binding) → row_at (scope_of m) w ≡ b → type_meant (type_bound path deps sigs w b) ≡ type_by by_tree (cond (names_type b) (made.Ref own_path w) made.Any)
      of None at = none
      of (Some (bound_alias t)) at = own (Some (bound_alias t)) at
      of (Some (bound_import spec outer true)) at = own (Some (bound_import spec outer true)) at
      of (Some (bound_import spec outer false)) at = none
      of (Some (bound_variable d)) at = none
      of (Some (bound_function f)) at = none

  tree_same : (t : Ty) → type_of by_tree t ≡ type_by by_tree (local_type (scope_of m) t)
  tree_same t = (λ j. type_of (λ w. local_same w j) t) ∙ type_same by_tree (local_name (scope_of m)) t

  alias_same : (name : Bytes) (t : Ty) → is_reached m name ≡ true → row_at (scope_of m) name ≡ Some (bound_alias t) → type_of by_tree t ≡ type_with (alias_at v) path (known_by deps m) (local_type (scope_of m) t)
  alias_same name t reached at =
      let row : row_at (aliases_of m) name ≡ Some (local_type (scope_of m) t) = aliases_by_scope m name ∙ ap (alias_bound (scope_of m)) at in
      tree_same t
      ∙ replaced_same (by_word by_tree) (by_word by_signature) (local_type (scope_of m) t)
      (agree_all by_tree by_signature (names_in (local_type (scope_of m) t)) (λ w led. word_same w (complete m w (by_alias name w (local_type (scope_of m) t) (sound m name reached) row led))))

  -- the tree has each alias that the merged signature tells, and of that type
  abbrev pub InTree : Bytes → FlowType → Type 0
  InTree name t = (own : Ty) × (row_at (scope_of m) name ≡ Some (bound_alias own)) × (type_of by_tree own ≡ t)

  pub signed : (name : Bytes) (t : FlowType) → row_at (merged_known v path (known_by deps m)).aliases name ≡ Some t → InTree name t
  signed name t told = of (is_reached m name) (row_at (scope_of m) name) refl refl
      (sym (row_made (type_with (alias_at v) path (known_by deps m)) (local_signature m).aliases name ∙ ap (option_map (type_with (alias_at v) path (known_by deps m))) (signature_alias m name)) ∙ told)
    where
      of : (r : Bool) (b : Option Binding) → is_reached m name ≡ r → row_at (scope_of m) name ≡ b → option_map (type_with (alias_at v) path (known_by deps m)) (cond r (alias_bound (scope_of m) b) None) ≡ Some t → InTree name t
      of false b reached at is = absurd (let z : None ≡ Some t = is in cc)
      of true None reached at is = absurd (let z : None ≡ Some t = is in cc)
      of true (Some (bound_alias own)) reached at is = (own, at, alias_same name own reached at ∙ some_same (type_with (alias_at v) path (known_by deps m) (local_type (scope_of m) own)) t is)
      of true (Some (bound_import spec outer is_type)) reached at is = absurd (let z : None ≡ Some t = is in cc)
      of true (Some (bound_variable d)) reached at is = absurd (let z : None ≡ Some t = is in cc)
      of true (Some (bound_function f)) reached at is = absurd (let z : None ≡ Some t = is in cc)
