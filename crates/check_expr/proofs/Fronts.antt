-- Operands in front that go on one chain, and the properties of a literal so far.
use Rattle.std.proofs.Common.{◌≡◌, ℕ, ◌+◌, ◌-◌, ◌<◌, ◌≤◌, ◌&&◌, arith, Bool, true, false, List, [], ◌∷◌, ◌++◌, map, length, take, drop, get_or, Option, Some, None, refl, sym, ap, ◌∙◌}
use Rattle.std.specs.List.{slice_get}
use Rattle.std.proofs.lemmas.List.{map-append, take_all, take_more, length-drop, get_or-drop, get_or_default}
use Rattle.std.proofs.lemmas.Option.{slice_get-get_or}
use Rattle.js_grammar.specs.Code as g
use Rattle.js_grammar.specs.Code.{Fields, more_field, Operands, no_operand, more_operand}
use Rattle.code_tree.specs.Steps.{operands_from}
use Rattle.code_tree.specs.View.{operand_view, operands_view, operand_form_view, field_view, fields_view, field_form_view, expr_view}
use Rattle.code_tree.specs.declared.types.Operand.{Operand, out-Operand}
use Rattle.code_tree.specs.declared.types.Field.{Field, out-Field}
use Rattle.code_tree.specs.declared.types.FieldForm as field_form
use Rattle.code_tree.specs.declared.types.Expr.{Expr}
use Rattle.type_tree.specs.declared.types.Key.{Key}
use Rattle.type_tree.specs.View.{key_view}
use Rattle.tree_types.specs.TreeTypes.{key_text}
use Rattle.check_values.specs.Rows.{Bytes}
use Rattle.type_values.specs.declared.types.FlowType.{FlowType}
use Rattle.typing.specs.Tests.{literal_type}
use Rattle.typing.specs.States.{World, Want}
use Rattle.typing.specs.Forms.{first_want, cast_want}
use Rattle.typing.specs.Objects.{Entry, entry_of, entries_of}
use Rattle.check_expr.specs.Runs.{run_of, is_run, are_run}
use Rattle.check_expr.proofs.Lists.{fields_more, fields_none, fields_all}
use Rattle.check_expr.proofs.Views.{field_is, field_form_valued, operand_is}

is_same_run : (is_and : Bool) → is_run is_and (Some is_and) ≡ true
is_same_run true = refl
is_same_run false = refl

run_one : (is_and : Bool) (v : g.Operand) → run_of v ≡ Some is_and → is_run is_and (run_of v) ≡ true
run_one is_and v is = ap (is_run is_and) is ∙ is_same_run is_and

run_append : (is_and : Bool) (vs : List g.Operand) (v : g.Operand) → are_run is_and vs ≡ true → run_of v ≡ Some is_and → are_run is_and (vs ++ v ∷ []) ≡ true
run_append is_and [] v run is = ap (λ (b : Bool). b && true) (run_one is_and v is)
run_append is_and (u ∷ vs) v run is =
    let each = both_true (is_run is_and (run_of u)) (are_run is_and vs) run in
    (λ i. each.0 i && run_append is_and vs v each.1 is i)
  where
    both_true : (a b : Bool) → (a && b) ≡ true → (a ≡ true) × (b ≡ true)
    both_true true true is = (refl, refl)
    both_true true false is = absurd (cc)
    both_true false b is = absurd (cc)

get_drop : {A : Type 0} (xs : List A) (at k : ℕ) (x : A) → get_or (drop at xs) k x ≡ get_or xs (at + k) x
get_drop xs at k x = get_or-drop at xs k x

-- one more operand goes on the chain
pub run_more : (xs : List Operand) (at end : ℕ) (is_and : Bool) (x : Operand) → at ≤ end → end < length xs → x ≡ get_or xs end x → run_of (operand_view x) ≡ Some is_and →
    are_run is_and (map operand_view (take (end - at) (drop at xs))) ≡ true → are_run is_and (map operand_view (take (end + 1 - at) (drop at xs))) ≡ true
run_more xs at end is_and x from within here is run =
    let rest : List Operand = drop at xs in
    let k : ℕ = end - at in
    let inside : k < length rest = omega (arith, from, within, length-drop at xs) in
    let at_k : x ≡ get_or rest k x = here ∙ ap (λ (n : ℕ). get_or xs n x) (omega (arith, from)) ∙ sym (get_drop xs at k x) in
    let steps : end + 1 - at ≡ k + 1 = omega (arith, from) in
    ap (λ (n : ℕ). are_run is_and (map operand_view (take n rest))) steps
    ∙ ap (λ (l : List Operand). are_run is_and (map operand_view l)) (take_more rest k x inside ∙ ap (λ (y : Operand). take k rest ++ y ∷ []) (sym at_k))
    ∙ ap (are_run is_and) (map-append operand_view (take k rest) (x ∷ []))
    ∙ run_append is_and (map operand_view (take k rest)) (operand_view x) run is

pub run_all : (xs : List Operand) (at end : ℕ) (is_and : Bool) → length xs ≤ end → are_run is_and (map operand_view (take (end - at) (drop at xs))) ≡ true →
    are_run is_and (map operand_view (take (length xs - at) (drop at xs))) ≡ true
run_all xs at end is_and long run =
    ap (λ (l : List Operand). are_run is_and (map operand_view l))
    (take_all (length xs - at) (drop at xs) (omega (arith, length-drop at xs)) ∙ sym (take_all (end - at) (drop at xs) (omega (arith, long, length-drop at xs))))
    ∙ run

pub run_first : (xs : List Operand) (at : ℕ) (is_and : Bool) → at < length xs → ((o : Operand) → slice_get xs at ≡ Some o → run_of (operand_view o) ≡ Some is_and) →
    are_run is_and (map operand_view (take (at + 1 - at) (drop at xs))) ≡ true
run_first [] at is_and within first = absurd (omega (arith, within))
run_first (y ∷ ys) at is_and within first =
    let x : Operand = get_or (y ∷ ys) at y in
    let here : x ≡ get_or (y ∷ ys) at x = get_or_default (y ∷ ys) at y x within in
    let none : at - at ≡ 0 = omega arith in
    run_more (y ∷ ys) at at is_and x (omega arith) within here (first x (slice_get-get_or (y ∷ ys) at y within))
    (ap (λ (n : ℕ). are_run is_and (map operand_view (take n (drop at (y ∷ ys))))) none)

-- ---- properties so far

-- a property with a value
pub entry_valued : (x : Field) (k : Key) (e : Expr) (name : Bytes) (literal : Option FlowType) → (out-Field x).form ≡ field_form.Valued k e → name ≡ key_text (key_view k) → literal ≡ literal_type (expr_view e) →
    record { first = k.first; end = k.end; name = name; literal = literal } ≡ entry_of (field_form_view (out-Field x).form) (out-Field x).first
entry_valued x k e name literal form named is =
    (λ i. record { first = k.first; end = k.end; name = named i; literal = is i }) ∙ sym (ap (λ (v : g.FieldForm). entry_of v (out-Field x).first) (field_form_valued (out-Field x).form k e form))

entries_step : (fs : Fields) (x : Field) → entries_of (more_field fs (field_view x)) ≡ entries_of fs ++ entry_of (field_form_view (out-Field x).form) (out-Field x).first ∷ []
entries_step fs x = ap (λ (v : g.Field). entries_of (more_field fs v)) (field_is x)

pub entries_begin : (xs : List Field) (es : List Entry) → es ≡ [] → es ≡ entries_of (fields_view (take 0 xs))
entries_begin xs es none = none ∙ ap entries_of (sym (fields_none xs))

pub entries_next : (xs : List Field) (i : ℕ) (x : Field) (es more : List Entry) (e : Entry) → i < length xs → x ≡ get_or xs i x → es ≡ entries_of (fields_view (take i xs)) →
    e ≡ entry_of (field_form_view (out-Field x).form) (out-Field x).first → more ≡ es ++ e ∷ [] → more ≡ entries_of (fields_view (take (i + 1) xs))
entries_next xs i x es more e within at so_far is adds =
    adds ∙ (λ j. so_far j ++ is j ∷ []) ∙ sym (entries_step (fields_view (take i xs)) x) ∙ ap entries_of (sym (fields_more xs i x within at))

pub entries_all : (xs : List Field) (i : ℕ) (es : List Entry) → length xs ≤ i → es ≡ entries_of (fields_view (take i xs)) → es ≡ entries_of (fields_view xs)
entries_all xs i es long is = is ∙ ap entries_of (fields_all xs i long)

-- ---- what the first part of a chain is read against

want_from : (w : World) (os : Operands) (o : g.Operand) (vs : List g.Operand) → first_want w (operands_from (more_operand os o) vs) ≡ first_want w (more_operand os o)
want_from w os o [] = refl
want_from w os o (v ∷ vs) = want_from w (more_operand os o) v vs

pub wants_none : (w : World) (xs : List Operand) → slice_get xs 0 ≡ None → None ≡ first_want w (operands_view xs)
unfolding operands_view
wants_none w [] none = refl
wants_none w (x ∷ xs) none = absurd (cc)

pub wants_first : (w : World) (xs : List Operand) (x : Operand) (want : Want) → slice_get xs 0 ≡ Some x → want ≡ cast_want w (operand_form_view (out-Operand x).form) → want ≡ first_want w (operands_view xs)
unfolding operands_view
wants_first w [] x want first is = absurd (cc)
wants_first w (y ∷ ys) x want first is =
    is ∙ ap (λ (z : Operand). cast_want w (operand_form_view (out-Operand z).form)) (same first) ∙ sym (ap (λ (v : g.Operand). first_want w (more_operand no_operand v)) (operand_is y)) ∙ sym (want_from w no_operand (operand_view y) (map operand_view ys))
  where
    same : Some y ≡ Some x → x ≡ y
    same is = cc
