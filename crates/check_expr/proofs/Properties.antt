-- One more property of an object literal was read.
use Rattle.std.proofs.Common.{◌≡◌, ℕ, ◌+◌, ◌<◌, ◌≤◌, arith, List, [], ◌∷◌, ◌++◌, map, length, take, get_or, Option, Some, None, refl, sym, ap, ◌∙◌}
use Rattle.std.specs.List.{slice_get}
use Rattle.std.proofs.lemmas.List.{append-nil, append_assoc, length-map}
use Rattle.std.specs.Option.{option_map}
use Rattle.std.proofs.lemmas.Option.{slice_get-map, slice_get-get_or, slice_get_read}
use Rattle.js_grammar.specs.Code as g
use Rattle.js_grammar.specs.Code.{Fields, no_field, more_field, field, FieldForm}
use Rattle.code_tree.specs.Steps.{fields_from}
use Rattle.code_tree.specs.View.{field_view, fields_view, field_form_view}
use Rattle.code_tree.specs.declared.types.Field.{Field, out-Field}
use Rattle.literal_reads.specs.declared.entries.Entry.{Entry as Row}
use Rattle.literal_reads.specs.Keys.{entry_view, rows_view}
use Rattle.type_values.specs.declared.types.FlowType.{FlowType}
use Rattle.type_values.specs.declared.types.FlowProp.{FlowProp}
use Rattle.typing.specs.Names.{Scope}
use Rattle.typing.specs.States.{World, Want, Now, Out, after, change_notes}
use Rattle.typing.specs.Objects.{Entry, entry_of, entries_of, Candidate, value_want, key_asked, key_bound, prop_read}
use Rattle.typing.specs.Typing.{Props, read_fields, read_field}
use Rattle.check_moves.specs.declared.state.State.{State}
use Rattle.check_moves.specs.declared.state.Read.{Read}
use Rattle.check_moves.specs.View.{around, scope, now, told}
use Rattle.check_moves.specs.Follows.{Follows}
use Rattle.check_expr.proofs.Lists.{fields_more, fields_none, fields_all}
use Rattle.check_expr.proofs.Loops.{Goes, FieldsRead}
use Rattle.check_expr.proofs.Views.{field_is}
use Rattle.check_expr.proofs.Sequences.{told_ty, goes_nothing, goes_on, goes_after}

-- ---- the properties in order

-- a property
abbrev entry_at : g.Field → Entry
entry_at (field f t form) = entry_of form f

entries_from : (so_far : Fields) (vs : List g.Field) → entries_of (fields_from so_far vs) ≡ entries_of so_far ++ map entry_at vs
entries_from so_far [] = sym (append-nil (entries_of so_far))
entries_from so_far (field f t form ∷ vs) =
    entries_from (more_field so_far (field f t form)) vs ∙ append_assoc (entries_of so_far) (entry_of form f ∷ []) (map entry_at vs)

entries_are : (xs : List Field) → entries_of (fields_view xs) ≡ map entry_at (map field_view xs)
unfolding fields_view
entries_are xs = entries_from no_field (map field_view xs)

entry_is : (x : Field) → entry_at (field_view x) ≡ entry_of (field_form_view (out-Field x).form) (out-Field x).first
entry_is x = ap entry_at (field_is x)

row_at : (xs : List Field) (i : ℕ) (x : Field) (rows : List Row) → rows_view rows ≡ entries_of (fields_view xs) → i < length xs → x ≡ get_or xs i x →
    option_map entry_view (slice_get rows i) ≡ Some (entry_of (field_form_view (out-Field x).form) (out-Field x).first)
row_at xs i x rows are within at =
    sym (slice_get-map entry_view rows i)
    ∙ ap (λ (l : List Entry). slice_get l i) (are ∙ entries_are xs)
    ∙ slice_get-map entry_at (map field_view xs) i
    ∙ ap (option_map entry_at) (slice_get-map field_view xs i ∙ ap (option_map field_view) (slice_get-get_or xs i x within ∙ ap Some (sym at)))
    ∙ ap Some (entry_is x)

-- there are as many
pub rows_length : (xs : List Field) (rows : List Row) → rows_view rows ≡ entries_of (fields_view xs) → length rows ≡ length xs
rows_length xs rows are =
    sym (length-map rows entry_view) ∙ ap (λ (l : List Entry). length l) (are ∙ entries_are xs) ∙ length-map (map field_view xs) entry_at ∙ length-map xs field_view

-- the row at a place is the property that stands there
pub row_is : (xs : List Field) (i : ℕ) (x : Field) (rows : List Row) (row : Row) → rows_view rows ≡ entries_of (fields_view xs) → i < length xs → x ≡ get_or xs i x → row ≡ get_or rows i row →
    entry_view row ≡ entry_of (field_form_view (out-Field x).form) (out-Field x).first
row_is xs i x rows row are within at here =
    let found : slice_get rows i ≡ Some row = slice_get_read rows (length rows) i row refl (omega (arith, within, rows_length xs rows are)) here in
    some_same (sym (ap (option_map entry_view) found) ∙ row_at xs i x rows are within at)
  where
    some_same : {a b : Entry} → Some a ≡ Some b → a ≡ b
    some_same is = cc

-- ---- one by one

-- what the keys of a property ask for
abbrev pub key_now : World → Option Candidate → List Entry → Entry → Now → Now
key_now w m es e start = change_notes (λ notes. key_asked w m es e (key_bound w es e notes)) start

fields_step : (w : World) (fs : Fields) (x : Field) (s : Scope) (m : Option Candidate) (es : List Entry) (start : Now) (props : Props) (e : Entry) (o : Out) → props ≡ read_fields w fs s m es start →
    e ≡ entry_of (field_form_view (out-Field x).form) (out-Field x).first → o ≡ read_field w (out-Field x).first (field_form_view (out-Field x).form) s (value_want m es e) (key_now w m es e props.now) →
    record { props = props.props ++ prop_read e.name o.ty ∷ []; now = after o } ≡ read_fields w (more_field fs (field_view x)) s m es start
fields_step w fs x s m es start props e o is entry read_is =
    let form : FieldForm = field_form_view (out-Field x).form in
    let f : ℕ = (out-Field x).first in
    let own : Entry = entry_of form f in
    let out : o ≡ read_field w f form s (value_want m es own) (key_now w m es own (read_fields w fs s m es start).now) =
    read_is ∙ (λ i. read_field w f form s (value_want m es (entry i)) (key_now w m es (entry i) (is i).now)) in
    (λ i. record { props = (is i).props ++ prop_read (entry i).name (out i).ty ∷ []; now = after (out i) })
    ∙ sym (ap (λ (v : g.Field). read_fields w (more_field fs v) s m es start) (field_is x))

pub fields_begin : (w : World) (xs : List Field) (m : Option Candidate) (es : List Entry) (a : State) (props : List FlowProp) → props ≡ [] → FieldsRead w (fields_view (take 0 xs)) m es a props a
fields_begin w xs m es a props none = record {
  read = (λ i. record { props = none i; now = now a }) ∙ ap (λ (fs : Fields). read_fields w fs (scope a) m es (now a)) (sym (fields_none xs));
  goes = goes_nothing a;
}

pub fields_next : (w : World) (xs : List Field) (i : ℕ) (x : Field) (m : Option Candidate) (es : List Entry) (want : Want) (a b c d e : State) (props more : List FlowProp) (entry : Entry) (r : Read) (ty : FlowType) (prop : FlowProp) →
    i < length xs → x ≡ get_or xs i x → FieldsRead w (fields_view (take i xs)) m es a props b → entry ≡ entry_of (field_form_view (out-Field x).form) (out-Field x).first →
    want ≡ value_want m es entry → now c ≡ key_now w m es entry (now b) → around c ≡ around b → Follows None b None c →
    told r d ≡ read_field w (out-Field x).first (field_form_view (out-Field x).form) (scope c) want (now c) → around d ≡ around c → Follows None c r.fork d →
    now e ≡ after (told r d) → ty ≡ r.ty → around e ≡ around d → Follows r.fork d None e → prop ≡ prop_read entry.name ty → more ≡ props ++ prop ∷ [] →
    FieldsRead w (fields_view (take (i + 1) xs)) m es a more e
fields_next w xs i x m es want a b c d e props more entry r ty prop within at before is_entry wanted asked asks asks_on is same follows met own kept ends made adds =
    let keyed : Goes None a None c = goes_on None None None a b c before.goes asks asks_on in
    let out : told r d ≡ read_field w (out-Field x).first (field_form_view (out-Field x).form) (scope a) (value_want m es entry) (key_now w m es entry (now b)) =
    is ∙ (λ j. read_field w (out-Field x).first (field_form_view (out-Field x).form) (keyed.same j).scope (wanted j) (asked j)) in
    let all : more ≡ props ++ prop_read entry.name (told r d).ty ∷ [] = adds ∙ ap (λ (p : FlowProp). props ++ p ∷ []) (made ∙ ap (prop_read entry.name) (own ∙ sym (told_ty r d))) in
    let so_far : Props = record { props = props; now = now b } in
    record {
      read = (λ j. record { props = all j; now = met j })
          ∙ fields_step w (fields_view (take i xs)) x (scope a) m es (now a) so_far entry (told r d) before.read is_entry out
          ∙ ap (λ (fs : Fields). read_fields w fs (scope a) m es (now a)) (sym (fields_more xs i x within at));
      goes = goes_after r.fork a c d e keyed same follows kept ends;
    }

pub fields_all_read : (w : World) (xs : List Field) (i : ℕ) (m : Option Candidate) (es : List Entry) (a b : State) (props : List FlowProp) → length xs ≤ i → FieldsRead w (fields_view (take i xs)) m es a props b →
    record { props = props; now = now b } ≡ read_fields w (fields_view xs) (scope a) m es (now a)
fields_all_read w xs i m es a b props long read = read.read ∙ ap (λ (fs : Fields). read_fields w fs (scope a) m es (now a)) (fields_all xs i long)
