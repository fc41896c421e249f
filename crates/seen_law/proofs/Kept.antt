-- What is noted besides expressions leaves the watched one as it is.
use Rattle.std.proofs.Common.{◌≡◌, ℕ, Bool, true, false, List, [], ◌∷◌, ◌++◌, Option, Some, None, if◌then◌else◌, is_some, refl, ◌∙◌}
use Rattle.js_grammar.specs.Types.{Ty, ty, Pres, no_pre, more_pre, Pre, pre, Core, fun, post, Base, base, Form, array, paren, tuple, object, Params, no_param, more_param, Param, plain, named, Types, no_type, more_type, Props, no_prop, more_prop, Prop, prop, Key, key}
use Rattle.js_grammar.specs.Types as g
use Rattle.check_values.specs.Rows.{Bytes, row_at, is_among}
use Rattle.check_values.specs.declared.codes.Code.TheVariants.{IncompatibleType, NameAlreadyBound, UnreachableCode}
use Rattle.check_values.specs.declared.faults.Fault.{Fault}
use Rattle.type_values.specs.declared.types.FlowType.{FlowType}
use Rattle.type_terms.specs.Show.{shown_key}
use Rattle.tree_types.specs.TreeTypes.{named_types, key_text}
use Rattle.local_signatures.specs.Faults.{span_over}
use Rattle.typing.specs.States.{World, TypeMeaning, a_type, no_type_of, Want, Seen, Notes, Out, Env, fault_at, name_fault, add_fault, add_faults, two_types, asked, asked_want, against, watched_with, noted_out, stop, stop_if_dead, reach, returns}
use Rattle.flow_facts.specs.Known.{Known}
use Rattle.typing.specs.TypeFaults.{meaning_fault, name_read, key_read, keys_of_props, type_read, members_read, member_read, core_read, base_read, form_read, types_read, params_read, param_read, props_read, prop_read, annotation_read}
use Rattle.seen_law.specs.Reads.{one}
use Rattle.seen_law.proofs.Listed.{all_seen}

pub either : (b : Bool) (n m : Notes) (x : Option Seen) → n.watched ≡ x → m.watched ≡ x → (if b then n else m).watched ≡ x
either true n m x first second = first
either false n m x first second = second

pub add_fault_kept : (fault : Fault) (n : Notes) → (add_fault fault n).watched ≡ n.watched
add_fault_kept fault n = either n.stopped n (name_fault fault n) n.watched refl refl

pub add_faults_kept : (faults : List Fault) (n : Notes) → (add_faults faults n).watched ≡ n.watched
add_faults_kept [] n = refl
add_faults_kept (fault ∷ faults) n = add_faults_kept faults (add_fault fault n) ∙ add_fault_kept fault n

pub asked_kept : (w : World) (f t : ℕ) (want is : FlowType) (n : Notes) → (asked w f t want is n).watched ≡ n.watched
asked_kept w f t want is n =
    let fault : Fault = fault_at w f t IncompatibleType (two_types is want) in
    either (w.below is want) n (add_fault fault n) n.watched refl (add_fault_kept fault n)

pub asked_want_kept : (w : World) (f t : ℕ) (want : Want) (is : FlowType) (n : Notes) → (asked_want w f t want is n).watched ≡ n.watched
asked_want_kept w f t None is n = refl
asked_want_kept w f t (Some want) is n = asked_kept w f t want is n

pub against_kept : (w : World) (f t : ℕ) (want : Want) (o : Out) → (against w f t want o).notes.watched ≡ o.notes.watched
against_kept w f t want o = asked_want_kept w f t want o.ty o.notes

-- an expression that was read is noted
pub noted_seen : (w : World) (f t : ℕ) (o : Out) → (noted_out w f t o).notes.watched ≡ all_seen w.watch o.notes.watched (one w f t o)
noted_seen w f t o = step o.notes.stopped o.notes (record { span = span_over w.spans f t; ty = o.ty })
  where
    step : (b : Bool) (n : Notes) (s : Seen) → (if b then n else record n { watched = watched_with w.watch s n.watched }).watched ≡ all_seen w.watch n.watched (if b then [] else s ∷ [])
    step true n s = refl
    step false n s = refl

-- ---- the names in types

meaning_kept : (w : World) (f t : ℕ) (name : Bytes) (m : TypeMeaning) (n : Notes) → (meaning_fault w f t name m n).watched ≡ n.watched
meaning_kept w f t name (a_type meant) n = refl
meaning_kept w f t name (no_type_of code) n = refl

name_kept : (w : World) (f t : ℕ) (name : Bytes) (n : Notes) → (name_read w f t name n).watched ≡ n.watched
name_kept w f t name n = either (is_some (row_at named_types name)) n (meaning_fault w f t name (w.type_meaning name) n) n.watched refl (meaning_kept w f t name (w.type_meaning name) n)

key_kept : (w : World) (before : List Bytes) (k : Key) (n : Notes) → (key_read w before k n).watched ≡ n.watched
key_kept w before (key f t form) n = either (is_among before (key_text (key f t form))) (name_fault (fault_at w f t NameAlreadyBound (shown_key (key_text (key f t form)))) n) n n.watched refl refl

mutual
  pub type_kept : (w : World) (x : Ty) (n : Notes) → (type_read w x n).watched ≡ n.watched
  type_kept w (ty f t lead members) n = members_kept w members n

  members_kept : (w : World) (x : Pres) (n : Notes) → (members_read w x n).watched ≡ n.watched
  members_kept w no_pre n = refl
  members_kept w (more_pre ps p) n = member_kept w p (members_read w ps n) ∙ members_kept w ps n

  member_kept : (w : World) (x : Pre) (n : Notes) → (member_read w x n).watched ≡ n.watched
  member_kept w (pre f t marks core) n = core_kept w core n

  core_kept : (w : World) (x : Core) (n : Notes) → (core_read w x n).watched ≡ n.watched
  core_kept w (fun f t ps comma result) n = type_kept w result (params_read w ps n) ∙ params_kept w ps n
  core_kept w (post f t b pairs) n = base_kept w b n

  base_kept : (w : World) (x : Base) (n : Notes) → (base_read w x n).watched ≡ n.watched
  base_kept w (base f t form) n = form_kept w f t form n

  form_kept : (w : World) (f t : ℕ) (x : Form) (n : Notes) → (form_read w f t x n).watched ≡ n.watched
  form_kept w f t (g.name word) n = name_kept w f t word n
  form_kept w f t (array read_only element) n = type_kept w element n
  form_kept w f t (paren inner) n = type_kept w inner n
  form_kept w f t (tuple elements comma) n = types_kept w elements n
  form_kept w f t (object props ending) n = props_kept w props n
  form_kept w f t (g.str s) n = refl
  form_kept w f t (g.num digits) n = refl
  form_kept w f t g.null n = refl
  form_kept w f t g.void n = refl
  form_kept w f t (g.truth b) n = refl

  types_kept : (w : World) (x : Types) (n : Notes) → (types_read w x n).watched ≡ n.watched
  types_kept w no_type n = refl
  types_kept w (more_type ts t) n = type_kept w t (types_read w ts n) ∙ types_kept w ts n

  params_kept : (w : World) (x : Params) (n : Notes) → (params_read w x n).watched ≡ n.watched
  params_kept w no_param n = refl
  params_kept w (more_param ps p) n = param_kept w p (params_read w ps n) ∙ params_kept w ps n

  param_kept : (w : World) (x : Param) (n : Notes) → (param_read w x n).watched ≡ n.watched
  param_kept w (plain t) n = type_kept w t n
  param_kept w (named f to name optional t) n = type_kept w t n

  props_kept : (w : World) (x : Props) (n : Notes) → (props_read w x n).watched ≡ n.watched
  props_kept w no_prop n = refl
  props_kept w (more_prop ps p) n = prop_kept w (keys_of_props ps) p (props_read w ps n) ∙ props_kept w ps n

  prop_kept : (w : World) (before : List Bytes) (x : Prop) (n : Notes) → (prop_read w before x n).watched ≡ n.watched
  prop_kept w before (prop f t sign k optional v) n = type_kept w v (key_read w before k n) ∙ key_kept w before k n

pub annotation_kept : (w : World) (x : Option Ty) (n : Notes) → (annotation_read w x n).watched ≡ n.watched
annotation_kept w None n = refl
annotation_kept w (Some t) n = type_kept w t n

-- ---- between statements

pub either_env : (b : Bool) (a c : Env) (x : Option Seen) → a.notes.watched ≡ x → c.notes.watched ≡ x → (if b then a else c).notes.watched ≡ x
either_env true a c x first second = first
either_env false a c x first second = second

dead_kept : (w : World) (f t : ℕ) (e : Env) → (stop w f t e).notes.watched ≡ e.notes.watched
dead_kept w f t e = add_fault_kept (fault_at w f t UnreachableCode []) e.notes

pub reach_kept : (w : World) (f t : ℕ) (e : Env) → (reach w f t e).notes.watched ≡ e.notes.watched
reach_kept w f t e = either_env e.notes.stopped e (stop_if_dead w f t e.facts e) e.notes.watched refl (go e.facts)
  where
    go : (facts : Known) → (stop_if_dead w f t facts e).notes.watched ≡ e.notes.watched
    go None = dead_kept w f t e
    go (Some facts) = refl

pub returns_kept : (t : FlowType) (e : Env) → (returns t e).notes.watched ≡ e.notes.watched
returns_kept t e = either_env e.notes.stopped e (record e { returned = e.returned ++ t ∷ [] }) e.notes.watched refl refl
