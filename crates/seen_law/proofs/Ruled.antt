-- The rules of forms leave the watched expression as it is, or as one of their parts left it.
use Rattle.std.proofs.Common.{◌≡◌, ℕ, suc, ◌++◌, ◌-◌, ◌&&◌, Bool, true, false, List, [], ◌∷◌, map, Option, Some, None, refl, ◌∙◌}
use Rattle.std.specs.Prelude.{fold}
use Rattle.js_grammar.specs.Code.{Prefix, negation, kind_of, minus_sign, plus_sign, Ex, Operator, nullish, or, and, strict_equal, strict_not_equal, loose_equal, loose_not_equal, less, greater, less_or_equal, greater_or_equal, add, subtract, multiply, divide, remainder}
use Rattle.check_values.specs.Rows.{Bytes}
use Rattle.check_values.specs.declared.codes.Code.TheVariants.{InvalidCompare, NameAlreadyBound, UnsafeArithmetic}
use Rattle.check_values.specs.declared.faults.Fault.{Fault}
use Rattle.type_values.specs.declared.types.FlowType.{FlowType}
use Rattle.type_terms.specs.Show.{brief, shown_key}
use Rattle.flow_facts.specs.Known.{Known}
use Rattle.flow_facts.specs.Properties.{prop_of}
use Rattle.flow_facts.specs.declared.place.Place.{Place}
use Rattle.typing.specs.Names.{Scope, Meaning, variable_of, no_variable, meaning_of}
use Rattle.typing.specs.States.{World, Want, Notes, Now, Out, after, change_notes, name_fault, add_fault, add_faults, fault_at, two_types, asked}
use Rattle.typing.specs.Tests.{Comparison}
use Rattle.typing.specs.Members.{levels, Part, Step, steps_faults, steps_type, property_read, index_read, Call, member_called, args_faults}
use Rattle.typing.specs.Objects.{Entry, Candidate, counts, is_lacking, key_bound, key_asked, stands_before, missing_prop, missing_props, all_given}
use Rattle.typing.specs.Forms.{maybe_place_out, variable_place_of, variable_meant, variable_out, is_number, number_asked, swapped, prefix_out, may_compare, compare_asked, compared_out, sum_type, sum_found, operator_out, cast_asked, stepped, property_out, index_out, Args, call_out, unless_matched}
use Rattle.typing.specs.Statements.{asked_each, Goal, first_of, end_of, variable_named}
use Rattle.seen_law.proofs.Kept.{either, add_fault_kept, add_faults_kept, asked_kept, against_kept}

-- ---- variables

maybe_place_kept : (w : World) (p : Option Place) (t : FlowType) (now : Now) → (maybe_place_out w p t now).notes.watched ≡ now.notes.watched
maybe_place_kept w None t now = refl
maybe_place_kept w (Some p) t now = refl

meant_kept : (w : World) (f t : ℕ) (name : Bytes) (now : Now) (m : Meaning) → (variable_meant w f t name now m).notes.watched ≡ now.notes.watched
meant_kept w f t name now (variable_of b declared) = maybe_place_kept w (variable_place_of b) declared now
meant_kept w f t name now (no_variable code) = refl

pub variable_kept : (w : World) (f t : ℕ) (name : Bytes) (scope : Scope) (now : Now) → (variable_out w f t name scope now).notes.watched ≡ now.notes.watched
variable_kept w f t name scope now = meant_kept w f t name now (meaning_of scope name)

-- ---- marks and operators

number_kept : (w : World) (f t : ℕ) (ty : FlowType) (n : Notes) → (number_asked w f t ty n).watched ≡ n.watched
number_kept w f t ty n = either (is_number w ty) n (add_fault (fault_at w f t UnsafeArithmetic (brief ty)) n) n.watched refl (add_fault_kept (fault_at w f t UnsafeArithmetic (brief ty)) n)

swapped_kept : (o : Out) → (swapped o).notes.watched ≡ o.notes.watched
swapped_kept o = go o.no refl
  where
    go : (no : Option Known) → o.no ≡ no → (swapped (record o { no = no })).notes.watched ≡ o.notes.watched
    go None is = refl
    go (Some falsy) is = refl

pub prefix_kept : (w : World) (p : Prefix) (f t : ℕ) (o : Out) → (prefix_out w p f t o).notes.watched ≡ o.notes.watched
prefix_kept w negation f t o = swapped_kept o
prefix_kept w kind_of f t o = refl
prefix_kept w minus_sign f t o = number_kept w f t o.ty o.notes
prefix_kept w plus_sign f t o = number_kept w f t o.ty o.notes

compare_kept : (w : World) (f t : ℕ) (a b : FlowType) (n : Notes) → (compare_asked w f t a b n).watched ≡ n.watched
compare_kept w f t a b n = either (may_compare w a b) n (add_fault (fault_at w f t InvalidCompare (two_types a b)) n) n.watched refl (add_fault_kept (fault_at w f t InvalidCompare (two_types a b)) n)

sum_kept : (w : World) (f t : ℕ) (a b : FlowType) (now : Now) (o : Option FlowType) → (sum_found w f t a b now o).notes.watched ≡ now.notes.watched
sum_kept w f t a b now (Some sum) = refl
sum_kept w f t a b now None = add_fault_kept (fault_at w f t UnsafeArithmetic (two_types a b)) now.notes

product_kept : (w : World) (f at t : ℕ) (a b : Out) → (number_asked w (suc at) t b.ty (number_asked w f at a.ty b.notes)).watched ≡ b.notes.watched
product_kept w f at t a b = number_kept w (suc at) t b.ty (number_asked w f at a.ty b.notes) ∙ number_kept w f at a.ty b.notes

-- as the right side left it
pub operator_kept : (w : World) (f at t : ℕ) (op : Operator) (a b : Out) → (operator_out w f at t op a b).notes.watched ≡ b.notes.watched
operator_kept w f at t nullish a b = refl
operator_kept w f at t or a b = refl
operator_kept w f at t and a b = refl
operator_kept w f at t strict_equal a b = refl
operator_kept w f at t strict_not_equal a b = refl
operator_kept w f at t loose_equal a b = refl
operator_kept w f at t loose_not_equal a b = refl
operator_kept w f at t less a b = compare_kept w f t a.ty b.ty b.notes
operator_kept w f at t greater a b = compare_kept w f t a.ty b.ty b.notes
operator_kept w f at t less_or_equal a b = compare_kept w f t a.ty b.ty b.notes
operator_kept w f at t greater_or_equal a b = compare_kept w f t a.ty b.ty b.notes
operator_kept w f at t add a b = sum_kept w f t a.ty b.ty (after b) (sum_type w a.ty b.ty)
operator_kept w f at t subtract a b = product_kept w f at t a b
operator_kept w f at t multiply a b = product_kept w f at t a b
operator_kept w f at t divide a b = product_kept w f at t a b
operator_kept w f at t remainder a b = product_kept w f at t a b

pub compared_kept : (w : World) (c : Option (Comparison × Bool)) (o : Out) → (compared_out w c o).notes.watched ≡ o.notes.watched
compared_kept w None o = refl
compared_kept w (Some (c, negated)) o = refl

pub cast_kept : (w : World) (f t : ℕ) (goes_on : Bool) (want ty : FlowType) (n : Notes) → (cast_asked w f t goes_on want ty n).watched ≡ n.watched
cast_kept w f t true want ty n = asked_kept w f t want ty n
cast_kept w f t false want ty n = refl

-- ---- links

stepped_kept : (w : World) (p : Option Place) (steps : List Step) (now : Now) → (stepped w p steps now).notes.watched ≡ now.notes.watched
stepped_kept w p steps now = maybe_place_kept w p (steps_type steps) (change_notes (add_faults (steps_faults steps)) now) ∙ add_faults_kept (steps_faults steps) now.notes

pub property_kept : (w : World) (f at t : ℕ) (key : Bytes) (place : Option Place) (o : Out) → (property_out w f at t key place o).notes.watched ≡ o.notes.watched
property_kept w f at t key place o =
    let part : Part = record { object_first = f; object_end = at; object_type = o.ty; first = suc at; end = t; details = key } in
    stepped_kept w place (map (property_read w part key) (levels w o.ty)) (after o)

-- as the index left it
pub index_kept : (w : World) (f at t : ℕ) (o i : Out) → (index_out w f at t o i).notes.watched ≡ i.notes.watched
index_kept w f at t o i =
    let part : Part = record { object_first = f; object_end = at; object_type = o.ty; first = suc at; end = t - 1; details = brief i.ty } in
    stepped_kept w None (map (index_read w part i.ty) (levels w o.ty)) (after i)

-- as the arguments left it
pub call_kept : (w : World) (f at t : ℕ) (o : Out) (given : Args) → (call_out w f at t o given).notes.watched ≡ given.now.notes.watched
call_kept w f at t o given =
    let c : Call = record { first = f; callee_end = at; end = t; callee_type = o.ty; args = given.args } in
    add_faults_kept (steps_faults (map (member_called w c) (levels w o.ty)) ++ args_faults w (levels w o.ty) given.args) given.now.notes

-- ---- literals

key_bound_kept : (w : World) (entries : List Entry) (entry : Entry) (n : Notes) → (key_bound w entries entry n).watched ≡ n.watched
key_bound_kept w entries entry n =
    either (stands_before entries entry) (name_fault (fault_at w entry.first entry.end NameAlreadyBound (shown_key entry.name)) n) n n.watched refl refl

key_asked_kept : (w : World) (c : Option Candidate) (entries : List Entry) (entry : Entry) (n : Notes) → (key_asked w c entries entry n).watched ≡ n.watched
key_asked_kept w None entries entry n = refl
key_asked_kept w (Some c) entries entry n =
    let fault : Fault = missing_prop w entry.first entry.end entry.name in
    either (counts entries entry && is_lacking c.exact (prop_of entry.name c.props)) (add_fault fault n) n n.watched (add_fault_kept fault n) refl

pub keyed_kept : (w : World) (c : Option Candidate) (entries : List Entry) (entry : Entry) (n : Notes) → (key_asked w c entries entry (key_bound w entries entry n)).watched ≡ n.watched
keyed_kept w c entries entry n = key_asked_kept w c entries entry (key_bound w entries entry n) ∙ key_bound_kept w entries entry n

pub given_kept : (w : World) (f t : ℕ) (entries : List Entry) (c : Option Candidate) (n : Notes) → (all_given w f t entries c n).watched ≡ n.watched
given_kept w f t entries None n = refl
given_kept w f t entries (Some c) n = add_faults_kept (missing_props w f t entries c.props) n

pub matched_kept : {X : Type 0} (w : World) (f t : ℕ) (want : Want) (matched : Option X) (o : Out) → (unless_matched w f t want matched o).notes.watched ≡ o.notes.watched
matched_kept w f t want None o = against_kept w f t want o
matched_kept w f t want (Some matched) o = refl

-- ---- assignments

pub named_kept : (w : World) (f : ℕ) (name : Bytes) (m : Meaning) (n : Notes) → (variable_named w f name m n).watched ≡ n.watched
named_kept w f name (no_variable code) n = refl
named_kept w f name (variable_of b declared) n = refl

asked_all_kept : (w : World) (e : Ex) (wants : List FlowType) (ty : FlowType) (n : Notes) → (fold (λ so_far want. asked w (first_of e) (end_of e) want ty so_far) n wants).watched ≡ n.watched
asked_all_kept w e [] ty n = refl
asked_all_kept w e (want ∷ wants) ty n = asked_all_kept w e wants ty (asked w (first_of e) (end_of e) want ty n) ∙ asked_kept w (first_of e) (end_of e) want ty n

asked_each_kept : (w : World) (e : Ex) (wants : List FlowType) (ty : FlowType) (n : Notes) → (asked_each w e wants ty n).watched ≡ n.watched
asked_each_kept w e [] ty n = refl
asked_each_kept w e (want ∷ []) ty n = refl
asked_each_kept w e (want ∷ other ∷ wants) ty n = asked_all_kept w e (want ∷ other ∷ wants) ty n

-- as the value left it
pub assigned_kept : (w : World) (e : Ex) (g : Goal) (v : Out) → (add_faults g.faults (asked_each w e g.wants v.ty v.notes)).watched ≡ v.notes.watched
assigned_kept w e g v = add_faults_kept g.faults (asked_each w e g.wants v.ty v.notes) ∙ asked_each_kept w e g.wants v.ty v.notes
