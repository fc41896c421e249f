-- A signature by the scope and by what the exports tell is the module's.
use Rattle.std.proofs.Common.{◌≡◌, Bool, true, false, Option, Some, None, unwrap_or, List, [], ◌∷◌, map, cond, bytes_eq, refl, ap, ◌∙◌, subst, subst₂}
use Rattle.std.specs.List.{flat_map, filter_map}
use Rattle.std.specs.Option.{option_map}
use Rattle.check_values.specs.Rows.{Bytes, Rows, first_of_each, by_name, row_at}
use Rattle.check_values.specs.FaultOrder.{faults_in_order}
use Rattle.check_values.specs.declared.signatures.ImportRow.{ImportRow}
use Rattle.check_values.specs.declared.signatures.LocalSig.{LocalSig}
use Rattle.check_values.specs.declared.faults.Fault.{Fault}
use Rattle.type_values.specs.declared.types.FlowType.{FlowType}
use Rattle.flow_values.specs.declared.span.Span.{Span}
use Rattle.js_grammar.specs.Items as g
use Rattle.js_tree.specs.View.{item_view, module_view}
use Rattle.js_tree.specs.declared.items.Module.{Module}
use Rattle.local_signatures.specs.Scope.{Binding, Scope, bound_by, items_in, scope_of}
use Rattle.local_signatures.specs.Exports.{Told, told_nothing, told_binding, told_name, told_by, told_in}
use Rattle.local_signatures.specs.LocalSignature.{alias_row, import_row, aliases_of, imports_of, led_to_by_exports, Reached, by_export, by_alias, AreChosen, none_left, is_chosen, not_chosen, local_signature}
use Rattle.local_signatures.specs.Faults.{fault_of, signature_faults}
use Rattle.local_signatures.proofs.Single.{one_local_signature}
use Rattle.local_signatures.proofs.Words.{bytes_same}
use Rattle.named_rows.specs.Seen.{seen}
use Rattle.named_rows.proofs.FirstRows.{row_at-by_name, row_seen}
use Rattle.told_signature.specs.declared.telling.Told.{Told as TheTold}
use Rattle.told_signature.specs.declared.telling.Said.{Said}
use Rattle.told_signature.specs.declared.telling.Said.TheVariants as said
use Rattle.told_signature.specs.Seen.{told_view, named_in, said_view}
use Rattle.told_signature.specs.Reaching as search
use Rattle.told_signature.specs.Reaching.{IsReachedFrom}
use Rattle.told_signature.specs.Signing.{IsSignatureOf}
use Rattle.sig_extract.specs.Seen.{named_row, rows_told}
use Rattle.sig_extract.proofs.Listed.{each_item}

chosen_same : {X : Type 0} (P Q : X → Type 0) → ((x : X) → P x → Q x) → ((x : X) → Q x → P x) → (all chosen : List X) → AreChosen P all chosen → AreChosen Q all chosen
chosen_same P Q to back _ _ none_left = none_left
chosen_same P Q to back _ _ (is_chosen x all chosen h rest) = is_chosen x all chosen (to x h) (chosen_same P Q to back all chosen rest)
chosen_same P Q to back _ _ (not_chosen x all chosen h rest) = not_chosen x all chosen (λ q. h (back x q)) (chosen_same P Q to back all chosen rest)

module _ (m : g.Module) where
  reached_from : (w : Bytes) → Reached m w → IsReachedFrom (aliases_of m) (led_to_by_exports m) w
  reached_from w (by_export _ is) = search.by_start w is
  reached_from w (by_alias word _ t before row led) = search.by_alias word w t (reached_from word before) row led

  reached : (w : Bytes) → IsReachedFrom (aliases_of m) (led_to_by_exports m) w → Reached m w
  reached w (search.by_start _ is) = by_export w is
  reached w (search.by_alias word _ t before row led) = by_alias word w t (reached word before) row led

  whole : (s : LocalSig) → IsSignatureOf (told_in m) (filter_map (alias_row (scope_of m)) (scope_of m)) (imports_of m) s → s ≡ local_signature m
  whole s is = (one_local_signature m s).0 (record {
    unbroken = is.unbroken;
    exports = is.exports;
    aliases = chosen_same _ _ (λ row. reached row.0) (λ row. reached_from row.0) (aliases_of m) s.aliases is.aliases;
    imports = chosen_same _ _ (λ row. reached row.local) (λ row. reached_from row.local) (imports_of m) s.imports is.imports;
  })

-- what the names of a scope tell as values, by the table of its rows
module _ (scope : Scope) where
  row_told : (rows : Scope) (word : Bytes) → row_at (map (named_row scope) rows) word ≡ option_map (λ bound. told_binding scope false word (Some bound)) (row_at rows word)
  row_told [] word = refl
  row_told (row ∷ rows) word = go (bytes_eq row.0 word) refl (row_told rows word)
    where
      go : (b : Bool) → bytes_eq row.0 word ≡ b → row_at (map (named_row scope) rows) word ≡ option_map (λ bound. told_binding scope false word (Some bound)) (row_at rows word) →
          cond b (Some (told_binding scope false row.0 (Some row.1))) (row_at (map (named_row scope) rows) word) ≡ option_map (λ bound. told_binding scope false word (Some bound)) (cond b (Some row.1) (row_at rows word))
      go true e rest = ap (λ (w : Bytes). Some (told_binding scope false w (Some row.1))) (bytes_same row.0 word e)
      go false e rest = rest

  unbound : (word : Bytes) (o : Option Binding) → unwrap_or (option_map (λ bound. told_binding scope false word (Some bound)) o) told_nothing ≡ told_binding scope false word o
  unbound word None = refl
  unbound word (Some bound) = refl

  -- the table in order of its names, as a function of a name
  named_is : (table rows : Rows TheTold) → table ≡ by_name rows → seen told_view rows ≡ map (named_row scope) scope → (word : Bytes) → named_in table word ≡ told_name scope false word
  named_is table rows ordered told word =
      ap (λ (o : Option Told). unwrap_or o told_nothing)
      (ap (λ (l : Rows TheTold). option_map told_view (row_at l word)) ordered ∙ ap (option_map told_view) (row_at-by_name rows word) ∙ row_seen told_view rows word ∙ ap (λ (l : Rows Told). row_at l word) told ∙ row_told scope word)
      ∙ unbound word (row_at scope word)

same_said : (f g : Bytes → Told) → ((word : Bytes) → f word ≡ g word) → (rows : Rows Said) → seen (said_view f) rows ≡ seen (said_view g) rows
same_said f g same [] = refl
same_said f g same (row ∷ rows) = ap (λ (t : Told). (row.0, t) ∷ seen (said_view f) rows) (one row.1) ∙ ap (λ (l : Rows Told). (row.0, said_view g row.1) ∷ l) (same_said f g same rows)
  where
    one : (s : Said) → said_view f s ≡ said_view g s
    one (said.Own t) = refl
    one (said.Name word) = same word.now

-- the scope of a module
pub scope_is : (m : Module) (scope bindings : Scope) → scope ≡ first_of_each bindings → bindings ≡ flat_map (λ item. bound_by (item_view item)) m.items → scope ≡ scope_of (module_view m)
scope_is m scope bindings firsts bound = firsts ∙ ap first_of_each (bound ∙ each_item bound_by m.items)

module _ (m : Module) (scope : Scope) (table rows : Rows TheTold) (exports : Rows Said) (scoped : scope ≡ scope_of (module_view m)) (ordered : table ≡ by_name rows) (named : seen told_view rows ≡ map (named_row scope) scope)
    (tells : rows_told scope exports ≡ by_name (flat_map (λ item. told_by scope (item_view item)) m.items)) where
  told_is : seen (said_view (named_in table)) exports ≡ told_in (module_view m)
  told_is =
      same_said (named_in table) (told_name scope false) (named_is scope table rows ordered named) exports ∙ tells ∙ ap by_name (each_item (told_by scope) m.items)
      ∙ ap (λ (s : Scope). by_name (flat_map (told_by s) (items_in (module_view m)))) scoped

  pub signature_is : (aliases : Rows FlowType) (imports : List ImportRow) → aliases ≡ filter_map (alias_row scope) scope → imports ≡ filter_map import_row scope → (s : LocalSig) → IsSignatureOf (seen (said_view (named_in table)) exports) aliases imports s → s ≡ local_signature (module_view m)
  signature_is aliases imports aliases_are imports_are s is =
      whole (module_view m) s (subst₂ (λ (a : Rows FlowType) (i : List ImportRow). IsSignatureOf (told_in (module_view m)) a i s) (aliases_are ∙ ap (λ (p : Scope). filter_map (alias_row p) p) scoped) (imports_are ∙ ap (filter_map import_row) scoped) (subst (λ (t : Rows Told). IsSignatureOf t aliases imports s) told_is is))

  pub faults_are : (spans : List Span) (faults : List Fault) → faults ≡ faults_in_order (flat_map (fault_of spans) (seen (said_view (named_in table)) exports)) → faults ≡ signature_faults (module_view m) spans
  faults_are spans faults is = is ∙ ap (λ (t : Rows Told). faults_in_order (flat_map (fault_of spans) t)) told_is
