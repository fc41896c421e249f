-- Expressions and statements in two worlds: they are read the same, and what is read is good.
use Rattle.std.proofs.Common.{◌≡◌, ℕ, suc, Bool, true, false, List, [], ◌∷◌, ◌++◌, length, Option, Some, None, if◌then◌else◌, refl, ap, ◌∙◌}
use Rattle.std.specs.List.{AllByRecursion}
use Rattle.js_grammar.specs.Code.{Ex, ex, ExForm, variable, number, text, truth_value, null_value, parens, elements, fields, function_ex, postfixed, prefixed, chain, arrow, Exs, no_ex, more_ex, link, LinkForm, member, index, call, Links, no_link, more_link, operand, OperandForm, right_side, as_type, Operands, no_operand, more_operand, has_operands, field, FieldForm, shorthand, valued, Fields, no_field, more_field, arm, Arms, no_arm, more_arm, Function, function, Sig, ArrowBody, arrow_block, arrow_value, Block, block, Stmts, no_stmt, more_stmt, stmt, StmtForm, declares, function_stmt, does, branches, loop, nested, Declaration, declaration, simple, SimpleForm, return_bare, return_value, throw_value, break_loop, continue_loop, assign, evaluate, Body, block_body, simple_body, branch, Branches, no_branch, more_branch, Else, no_else, else_body}
use Rattle.js_grammar.specs.Code as code
use Rattle.js_grammar.specs.Types.{Ty}
use Rattle.check_values.specs.Rows.{Bytes}
use Rattle.type_values.specs.declared.types.FlowType.{FlowType}
use Rattle.type_values.specs.declared.types.FlowType as made
use Rattle.type_values.specs.declared.types.Param as value
use Rattle.type_names.specs.Names.{Name}
use Rattle.flow_facts.specs.declared.place.Place.{Place}
use Rattle.errors_law.specs.typing.specs.Names.{Scope, meaning_of}
use Rattle.errors_law.specs.typing.specs.Changes.{changes_of_ex, changes_of_stmts, changes_of_body}
use Rattle.errors_law.specs.typing.specs.States.{World, Want, Notes, Now, Out, Env, no_of, after, on_yes, now_of, with_now, plainly, change_notes, against, noted_out, reach, dead, leave}
use Rattle.errors_law.specs.typing.specs.TypeFaults.{written, annotated, type_read, annotation_read}
use Rattle.errors_law.specs.typing.specs.Tests.{number_type, variable_in, step_place, place_in}
use Rattle.errors_law.specs.typing.specs.Members.{levels, Arg, one_function}
use Rattle.errors_law.specs.typing.specs.Functions.{bind_sig, bind_stmts, none_bound, enter_block, own_scope, sig_read, result_of, body_env, kept_facts, ended}
use Rattle.errors_law.specs.typing.specs.Objects.{Entry, entry_of, entries_of, key_bound, Candidate, candidate_for, value_want, key_asked, all_given, prop_read, object_type, array_type, Elements, elements_for, element_want, count_of}
use Rattle.errors_law.specs.typing.specs.Forms.{variable_out, prefixes_out, place_before, right_now, operator_out, first_want, cast_asked, compared, compared_out, index_out, Args, call_out, Choices, choices_out, unless_matched}
use Rattle.errors_law.specs.typing.specs.Statements.{first_of, end_of, Goal, goal_want, variable_goal, variable_named, property_goal, element_goal, assigned_env, declared_env, returned_value, Fork, forked, merged, loop_env, after_loop}
use Rattle.errors_law.specs.typing.specs.Typing.{Items, Props, Made, made_out, made_from, truth_out, arg_of, arg_want, read, read_form, read_elements, read_fields, read_field, read_links, read_link, read_args, read_operands, read_operand, read_arms, read_function, read_arrow, read_stmts, read_stmt, read_declaration, read_simple, read_branches, read_else, read_body, read_block}
use Rattle.reach_law.specs.Good.{Good, AllGood, GoodProp}
use Rattle.reach_law.specs.Twins.{Twins, one, other, GoodWant, GoodKnown, GoodOut, GoodScope, GoodEnv, GoodFork, GoodParamsMaybe}
use Rattle.reach_law.proofs.Types.{all_append, null_good, literal_good, truth_good, widened_good}
use Rattle.reach_law.proofs.Facts.{no_good, after_good}
use Rattle.reach_law.proofs.Steps.{levels_same, levels_good, param_at_good, function_one_good, number_type_good, entries_good, IfCandidate, candidate_same, candidate_good, GoodElements, elements_same, elements_good, element_want_good, value_want_good, object_type_good, array_type_good}
use Rattle.reach_law.proofs.Trees.{meaning_good, written_good, annotated_good, result_good, function_read_good, bind_sig_good, bind_stmts_good, enter_block_good, own_scope_good, body_env_good, kept_good}
use Rattle.reach_law.proofs.Written.{type_is, annotation_is, sig_is}
use Rattle.reach_law.proofs.Forms.{against_same, notes_good, plainly_good, variable_same, variable_good, prefixes_same, right_now_same, right_now_good, compared_out_same, operator_same, operator_good, first_want_good, cast_asked_same, GoodChosen, choices_good, property_same, property_good, index_same, index_good, GoodGiven, call_same, call_good, unless_same, unless_good, goal_want_good, assigned_env_same, assigned_env_good, variable_goal_good, property_goal_same, property_goal_good, element_goal_same, element_goal_good, declared_env_same, declared_env_good, with_now_good, dead_good, reach_good, returned_bare_same, returned_bare_good, returned_value_good, broken_good, leave_good, forked_good, merged_good, loop_good, after_loop_good, ended_same, ended_good}

-- two values are the same, and good
abbrev pub Twin : {X : Type 0} → (X → Type 0) → X → X → Type 0
Twin G x y = (x ≡ y) × G y

module _ (In : Name → Type 0) (h : Twins In) where
  abbrev R : World
  R = one In h

  abbrev S : World
  S = other In h

  record GoodItems (x : Items) : Type 0 where
    types : AllGood In x.types
    facts : GoodKnown In x.now.facts

  record GoodProps (x : Props) : Type 0 where
    props : AllByRecursion (GoodProp In) x.props
    facts : GoodKnown In x.now.facts

  record GoodMade (x : Made) : Type 0 where
    ty : Good In x.ty
    facts : GoodKnown In x.now.facts

  record GoodChoices (x : Choices) : Type 0 where
    chosen : AllByRecursion (GoodChosen In h) x.chosen
    facts : GoodKnown In x.now.facts

  -- asked to be below what it is read against
  settled : (f t : ℕ) (want : Want) (x y : Out) → GoodWant In want → Twin (GoodOut In) x y → Twin (GoodOut In) (against R f t want x) (against S f t want y)
  settled f t want x y b r = (ap (against R f t want) r.0 ∙ against_same In h f t want y b r.1, notes_good In h y (against S f t want y).notes r.1)

  -- its type is noted
  noted_same : (f t : ℕ) (x y : Out) → Twin (GoodOut In) x y → Twin (GoodOut In) (noted_out R f t x) (noted_out S f t y)
  noted_same f t x y r = (ap (noted_out S f t) r.0, notes_good In h y (noted_out S f t y).notes r.1)

  cast_same : (f at : ℕ) (goes_on : Bool) (v : Ty) (o : Out) → GoodOut In o →
      plainly (written R v) (change_notes (λ n. cast_asked R f at goes_on (written R v) o.ty (type_read R v n)) (after o)) ≡ plainly (written S v) (change_notes (λ n. cast_asked S f at goes_on (written S v) o.ty (type_read S v n)) (after o))
  cast_same f at goes_on v o g =
      ap (λ (n : Notes). plainly (written S v) (change_notes (λ _. n) (after o)))
      (ap (cast_asked R f at goes_on (written S v) o.ty) (type_is In h v o.notes) ∙ cast_asked_same In h f at goes_on (written S v) o.ty (type_read S v o.notes) (written_good In h v) g.ty)

  truth_twin : (b : Bool) (now : Now) → GoodKnown In now.facts → GoodOut In (truth_out b now)
  truth_twin true now d = record { ty = truth_good In true; yes = d; no = tt }
  truth_twin false now d = record { ty = truth_good In false; yes = tt; no = d }

  made_out_good : (m : Made) → GoodMade m → GoodOut In (made_out m)
  made_out_good m g = plainly_good In h m.ty m.now g.ty g.facts

  made_from_good : (s : Sig) (before : Now) (body : Env) → GoodKnown In before.facts → GoodEnv In body → GoodMade (made_from S s before body)
  made_from_good s before body d e = record { ty = function_read_good In h s body e; facts = d }

  outer_good : (b : Bool) (name : Option Bytes) (token : ℕ) (s : Sig) (scope : Scope) → GoodScope In scope → GoodScope In (if b then own_scope S name token s scope else scope)
  outer_good true name token s scope a = own_scope_good In h name token s scope a
  outer_good false name token s scope a = a

  arg_want_good : (o : Option (List value.Param)) (k : ℕ) → GoodParamsMaybe In o → GoodWant In (arg_want o k)
  arg_want_good None k a = tt
  arg_want_good (Some ps) k a = param_at_good In h ps k a

  mutual
    pub ex_same : (e : Ex) (s : Scope) (want : Want) (now : Now) → GoodScope In s → GoodWant In want → GoodKnown In now.facts → Twin (GoodOut In) (read R e s want now) (read S e s want now)
    ex_same (ex f t form) s want now a b d = noted_same f t (read_form R f t form s want now) (read_form S f t form s want now) (form_same f t form s want now a b d)

    form_same : (f t : ℕ) (form : ExForm) (s : Scope) (want : Want) (now : Now) → GoodScope In s → GoodWant In want → GoodKnown In now.facts →
        Twin (GoodOut In) (read_form R f t form s want now) (read_form S f t form s want now)
    form_same f t (number digits) s want now a b d =
        let o = plainly (number_type digits) now in settled f t want o o b (refl, plainly_good In h (number_type digits) now (number_type_good In digits) d)
    form_same f t (text own) s want now a b d =
        let o = plainly (made.StrLit own) now in settled f t want o o b (refl, plainly_good In h (made.StrLit own) now (literal_good In own) d)
    form_same f t (truth_value x) s want now a b d = settled f t want (truth_out x now) (truth_out x now) b (refl, truth_twin x now d)
    form_same f t null_value s want now a b d =
        let o = plainly made.Null now in settled f t want o o b (refl, plainly_good In h made.Null now (null_good In) d)
    form_same f t (variable name) s want now a b d =
        settled f t want (variable_out R f t name s now) (variable_out S f t name s now) b (variable_same In h f t name s now a d, variable_good In h f t name s now a d)
    form_same f t (parens e) s want now a b d = ex_same e s want now a b d
    form_same f t (prefixed marks e) s want now a b d =
        let r = ex_same e s None now a tt d in
        let p = prefixes_same In h marks (first_of e) t (read S e s None now) r.1 in
        settled f t want (prefixes_out R marks (first_of e) t (read R e s None now)) (prefixes_out S marks (first_of e) t (read S e s None now)) b
        (ap (prefixes_out R marks (first_of e) t) r.0 ∙ p.0, p.1)
    form_same f t (chain level e os) s want now a b d =
        let w = first_want S os in
        let r = ex_same e s w now a (first_want_good In h os) d in
        let rest = operands_same f os (place_in s e) s (read S e s w now) a r.1 in
        let c = compared_out_same In h (compared s e os) (read_operands S f os (place_in s e) s (read S e s w now)) rest.1 in
        settled f t want (compared_out R (compared s e os) (read_operands R f os (place_in s e) s (read R e s w now))) (compared_out S (compared s e os) (read_operands S f os (place_in s e) s (read S e s w now))) b
        (ap (λ (x : Out). compared_out R (compared s e os) (read_operands R f os (place_in s e) s x)) r.0 ∙ ap (compared_out R (compared s e os)) rest.0 ∙ c.0, c.1)
    form_same f t (code.cond arms e) s want now a b d =
        let k = read_arms S arms s want now in
        let r = arms_same arms s want now a b d in
        let last = ex_same e s want k.now a b r.1.facts in
        (ap (λ (x : Choices). choices_out R t x.chosen (read R e s want x.now)) r.0 ∙ ap (choices_out S t k.chosen) last.0, choices_good In h t k.chosen (read S e s want k.now) r.1.chosen last.1)
    form_same f t (elements es comma) s want now a b d =
        let m = elements_for S (count_of es) want in
        let items = read_elements S es s m now in
        let r = elements_read_same es s m now a (elements_good In h (count_of es) want b) d in
        let o = plainly (array_type items.types) items.now in
        let g = plainly_good In h (array_type items.types) items.now (array_type_good In items.types r.1.types) r.1.facts in (
          ap (λ (m2 : Option Elements). let x = read_elements R es s m2 now in unless_matched R f t want m2 (plainly (array_type x.types) x.now)) (elements_same In h (count_of es) want b)
              ∙ ap (λ (x : Items). unless_matched R f t want m (plainly (array_type x.types) x.now)) r.0 ∙ unless_same In h f t want m o b g,
          unless_good In h f t want m o g,
        )
    form_same f t (fields fs comma) s want now a b d =
        let entries = entries_of fs in
        let c = candidate_for S entries want in
        let props = read_fields S fs s c entries now in
        let r = fields_same fs s c entries now a (candidate_good In h entries want b) d in
        let result : World → Option Candidate → Props → Out = λ w c2 x. unless_matched w f t want c2 (plainly (object_type x.props) (change_notes (all_given S f t entries c2) x.now)) in
        let o = plainly (object_type props.props) (change_notes (all_given S f t entries c) props.now) in
        let g = plainly_good In h (object_type props.props) (change_notes (all_given S f t entries c) props.now) (object_type_good In props.props r.1.props) r.1.facts in (
          ap (λ (c2 : Option Candidate). result R c2 (read_fields R fs s c2 entries now)) (candidate_same In h entries want (entries_good In fs) b)
              ∙ ap (result R c) r.0 ∙ unless_same In h f t want c o b g,
          unless_good In h f t want c o g,
        )
    form_same f t (postfixed e ls) s want now a b d =
        let r = ex_same e s None now a tt d in
        let l = links_same f ls (variable_in s e) s (read S e s None now) a r.1 in
        settled f t want (read_links R f ls (variable_in s e) s (read R e s None now)) (read_links S f ls (variable_in s e) s (read S e s None now)) b
        (ap (read_links R f ls (variable_in s e) s) r.0 ∙ l.0, l.1)
    form_same f t (function_ex x) s want now a b d =
        let r = function_same true x s now a d in
        settled f t want (made_out (read_function R true x s now)) (made_out (read_function S true x s now)) b (ap made_out r.0, made_out_good (read_function S true x s now) r.1)
    form_same f t (arrow sg body) s want now a b d =
        let r = arrow_same sg body s now a d in
        settled f t want (made_out (read_arrow R sg body s now)) (made_out (read_arrow S sg body s now)) b (ap made_out r.0, made_out_good (read_arrow S sg body s now) r.1)

    elements_read_same : (es : Exs) (s : Scope) (m : Option Elements) (now : Now) → GoodScope In s → GoodElements In h m → GoodKnown In now.facts → Twin GoodItems (read_elements R es s m now) (read_elements S es s m now)
    elements_read_same no_ex s m now a b d = (refl, record { types = tt; facts = d })
    elements_read_same (more_ex es e) s m now a b d =
        let items = read_elements S es s m now in
        let r = elements_read_same es s m now a b d in
        let want = element_want m (count_of es) in
        let o = read S e s want items.now in
        let q = ex_same e s want items.now a (element_want_good In h m (count_of es) b) r.1.facts in
        let put : Items → Out → Items = λ x v. record { types = x.types ++ v.ty ∷ []; now = after v } in (
          ap (λ (x : Items). put x (read R e s want x.now)) r.0 ∙ ap (put items) q.0,
          record { types = all_append (Good In) items.types (o.ty ∷ []) r.1.types (q.1.ty, tt); facts = after_good In o q.1 },
        )

    fields_same : (fs : Fields) (s : Scope) (c : Option Candidate) (entries : List Entry) (now : Now) → GoodScope In s → IfCandidate In c → GoodKnown In now.facts →
        Twin GoodProps (read_fields R fs s c entries now) (read_fields S fs s c entries now)
    fields_same no_field s c entries now a b d = (refl, record { props = tt; facts = d })
    fields_same (more_field fs (field f t form)) s c entries now a b d =
        let before = read_fields S fs s c entries now in
        let r = fields_same fs s c entries now a b d in
        let entry = entry_of form f in
        let named : Props → Now = λ x. change_notes (λ notes. key_asked S c entries entry (key_bound S entries entry notes)) x.now in
        let want = value_want c entries entry in
        let o = read_field S f form s want (named before) in
        let q = field_same f form s want (named before) a (value_want_good In c entries entry b) r.1.facts in
        let put : Props → Out → Props = λ x v. record { props = x.props ++ prop_read entry.name v.ty ∷ []; now = after v } in (
          ap (λ (x : Props). put x (read_field R f form s want (named x))) r.0 ∙ ap (put before) q.0,
          record { props = all_append (GoodProp In) before.props (prop_read entry.name o.ty ∷ []) r.1.props (widened_good In o.ty q.1.ty, tt); facts = after_good In o q.1 },
        )

    field_same : (f : ℕ) (form : FieldForm) (s : Scope) (want : Want) (now : Now) → GoodScope In s → GoodWant In want → GoodKnown In now.facts → Twin (GoodOut In) (read_field R f form s want now) (read_field S f form s want now)
    field_same f (shorthand name) s want now a b d =
        let x = variable_out R f (suc f) name s now in
        let y = variable_out S f (suc f) name s now in
        noted_same f (suc f) (against R f (suc f) want x) (against S f (suc f) want y) (settled f (suc f) want x y b (variable_same In h f (suc f) name s now a d, variable_good In h f (suc f) name s now a d))
    field_same f (valued k e) s want now a b d = ex_same e s want now a b d

    links_same : (f : ℕ) (ls : Links) (from : Option ℕ) (s : Scope) (base : Out) → GoodScope In s → GoodOut In base → Twin (GoodOut In) (read_links R f ls from s base) (read_links S f ls from s base)
    links_same f no_link from s base a g = (refl, g)
    links_same f (more_link ls (link at t form)) from s base a g =
        let place = step_place from (more_link ls (link at t form)) in
        let before = read_links S f ls from s base in
        let r = links_same f ls from s base a g in
        let l = link_same f at t form place s before a r.1 in
        noted_same f t (read_link R f at t form place s (read_links R f ls from s base)) (read_link S f at t form place s before) (ap (read_link R f at t form place s) r.0 ∙ l.0, l.1)

    link_same : (f at t : ℕ) (form : LinkForm) (place : Option Place) (s : Scope) (o : Out) → GoodScope In s → GoodOut In o → Twin (GoodOut In) (read_link R f at t form place s o) (read_link S f at t form place s o)
    link_same f at t (member own) place s o a g = (property_same In h f at t own place o g, property_good In h f at t own place o g)
    link_same f at t (index e) place s o a g =
        let r = ex_same e s None (after o) a tt (after_good In o g) in
        let i = read S e s None (after o) in
        (ap (index_out R f at t o) r.0 ∙ index_same In h f at t o i g r.1, index_good In h f at t o i g r.1)
    link_same f at t (call es comma) place s o a g =
        let ps = one_function (levels S o.ty) in
        let given = read_args S es s ps (after o) in
        let r = args_same es s ps (after o) a (function_one_good In h (levels S o.ty) (levels_good In h o.ty g.ty)) (after_good In o g) in (
          ap (λ (zs : List _). call_out R f at t o (read_args R es s (one_function zs) (after o))) (levels_same In h o.ty g.ty) ∙ ap (call_out R f at t o) r.0 ∙ call_same In h f at t o given g r.1,
          call_good In h f at t o given g r.1,
        )

    args_same : (es : Exs) (s : Scope) (ps : Option (List value.Param)) (now : Now) → GoodScope In s → GoodParamsMaybe In ps → GoodKnown In now.facts → Twin (GoodGiven In h) (read_args R es s ps now) (read_args S es s ps now)
    args_same no_ex s ps now a b d = (refl, record { args = tt; facts = d })
    args_same (more_ex es e) s ps now a b d =
        let given = read_args S es s ps now in
        let r = args_same es s ps now a b d in
        let want = arg_want ps (length given.args) in
        let o = read S e s want given.now in
        let q = ex_same e s want given.now a (arg_want_good ps (length given.args) b) r.1.facts in
        let put : Args → Out → Args = λ x v. record { args = x.args ++ arg_of (first_of e) (end_of e) v ∷ []; now = after v } in (
          ap (λ (x : Args). put x (read R e s (arg_want ps (length x.args)) x.now)) r.0 ∙ ap (put given) q.0,
          record { args = all_append (λ (x : Arg). Good In x.ty) given.args (arg_of (first_of e) (end_of e) o ∷ []) r.1.args (q.1.ty, tt); facts = after_good In o q.1 },
        )

    operands_same : (f : ℕ) (os : Operands) (place : Option Place) (s : Scope) (first : Out) → GoodScope In s → GoodOut In first → Twin (GoodOut In) (read_operands R f os place s first) (read_operands S f os place s first)
    operands_same f no_operand place s first a g = (refl, g)
    operands_same f (more_operand os (operand at t form)) place s first a g =
        let before = read_operands S f os place s first in
        let r = operands_same f os place s first a g in
        let q = operand_same f at t form (has_operands os) place s before a r.1 in
        noted_same f t (read_operand R f at t form (has_operands os) place s (read_operands R f os place s first)) (read_operand S f at t form (has_operands os) place s before)
        (ap (read_operand R f at t form (has_operands os) place s) r.0 ∙ q.0, q.1)

    operand_same : (f at t : ℕ) (form : OperandForm) (goes_on : Bool) (place : Option Place) (s : Scope) (o : Out) → GoodScope In s → GoodOut In o →
        Twin (GoodOut In) (read_operand R f at t form goes_on place s o) (read_operand S f at t form goes_on place s o)
    operand_same f at t (right_side op e) goes_on place s o a g =
        let p = place_before goes_on place in
        let now = right_now S op p o in
        let r = ex_same e s None now a tt (right_now_good In h op p o g) in
        let v = read S e s None now in (
          ap (λ (n : Now). operator_out R f at t op o (read R e s None n)) (right_now_same In h op p o g) ∙ ap (operator_out R f at t op o) r.0 ∙ operator_same In h f at t op o v g r.1,
          operator_good In h f at t op o v g r.1,
        )
    operand_same f at t (as_type v) goes_on place s o a g =
        let u = written S v in
        let now = change_notes (λ n. cast_asked S f at goes_on u o.ty (type_read S v n)) (after o) in
        (cast_same f at goes_on v o g, plainly_good In h u now (written_good In h v) (after_good In o g))

    arms_same : (arms : Arms) (s : Scope) (want : Want) (now : Now) → GoodScope In s → GoodWant In want → GoodKnown In now.facts → Twin GoodChoices (read_arms R arms s want now) (read_arms S arms s want now)
    arms_same no_arm s want now a b d = (refl, record { chosen = tt; facts = d })
    arms_same (more_arm arms (arm f t test chosen)) s want now a b d =
        let before = read_arms S arms s want now in
        let r = arms_same arms s want now a b d in
        let o = read S test s None before.now in
        let q = ex_same test s None before.now a tt r.1.facts in
        let v = read S chosen s want (on_yes o) in
        let p = ex_same chosen s want (on_yes o) a b q.1.yes in
        let put : Choices → Out → Out → Choices = λ x y z. record { chosen = x.chosen ++ record { first = f; ty = z.ty; facts = (after z).facts } ∷ []; now = record { facts = no_of y; notes = z.notes } } in (
          ap (λ (x : Choices). let y = read R test s None x.now in put x y (read R chosen s want (on_yes y))) r.0
              ∙ ap (λ (y : Out). put before y (read R chosen s want (on_yes y))) q.0 ∙ ap (put before o) p.0,
          record {
            chosen = all_append (GoodChosen In h) before.chosen (record { first = f; ty = v.ty; facts = (after v).facts } ∷ []) r.1.chosen (record { ty = p.1.ty; facts = after_good In v p.1 }, tt);
            facts = no_good In o q.1;
          },
        )

    function_same : (is_expression : Bool) (x : Function) (s : Scope) (now : Now) → GoodScope In s → GoodKnown In now.facts → Twin GoodMade (read_function R is_expression x s now) (read_function S is_expression x s now)
    function_same is_expression (function f t name sg (block bf bt ss)) s now a d =
        let outer = if is_expression then own_scope S name (suc f) sg s else s in
        let changes = changes_of_stmts ss in
        let params = bind_sig S (suc s.depth) changes sg (none_bound (sig_read S sg now.notes)) in
        let bound = bind_stmts S (suc s.depth) changes ss params in
        let facts = kept_facts is_expression now.facts in
        let begin : Notes → Env = λ n. body_env S sg outer facts (bind_stmts S (suc s.depth) changes ss (bind_sig S (suc s.depth) changes sg (none_bound n))) in
        let start = body_env S sg outer facts bound in
        let g = body_env_good In h sg outer (kept_facts is_expression now.facts) bound (outer_good is_expression name (suc f) sg s a) (kept_good In is_expression now.facts d)
        (bind_stmts_good In h (suc s.depth) changes ss params (bind_sig_good In h (suc s.depth) changes sg (none_bound (sig_read S sg now.notes)) tt)) in
        let r = stmts_same ss start g in
        let body = read_stmts S ss start in
        (ap (λ (n : Notes). made_from S sg now (ended R sg (read_stmts R ss (begin n)))) (sig_is In h sg now.notes) ∙ ap (λ (env : Env). made_from S sg now (ended R sg env)) r.0 ∙ ap (made_from S sg now) (ended_same In h sg body), made_from_good sg now (ended S sg body) d (ended_good In h sg body r.1))

    arrow_same : (sg : Sig) (body : ArrowBody) (s : Scope) (now : Now) → GoodScope In s → GoodKnown In now.facts → Twin GoodMade (read_arrow R sg body s now) (read_arrow S sg body s now)
    arrow_same sg (arrow_block (block bf bt ss)) s now a d =
        let changes = changes_of_stmts ss in
        let params = bind_sig S (suc s.depth) changes sg (none_bound (sig_read S sg now.notes)) in
        let bound = bind_stmts S (suc s.depth) changes ss params in
        let facts = kept_facts true now.facts in
        let begin : Notes → Env = λ n. body_env S sg s facts (bind_stmts S (suc s.depth) changes ss (bind_sig S (suc s.depth) changes sg (none_bound n))) in
        let start = body_env S sg s facts bound in
        let g = body_env_good In h sg s (kept_facts true now.facts) bound a (kept_good In true now.facts d)
        (bind_stmts_good In h (suc s.depth) changes ss params (bind_sig_good In h (suc s.depth) changes sg (none_bound (sig_read S sg now.notes)) tt)) in
        let r = stmts_same ss start g in
        let inner = read_stmts S ss start in
        (ap (λ (n : Notes). made_from S sg now (ended R sg (read_stmts R ss (begin n)))) (sig_is In h sg now.notes) ∙ ap (λ (env : Env). made_from S sg now (ended R sg env)) r.0 ∙ ap (made_from S sg now) (ended_same In h sg inner), made_from_good sg now (ended S sg inner) d (ended_good In h sg inner r.1))
    arrow_same sg (arrow_value e) s now a d =
        let params = bind_sig S (suc s.depth) (changes_of_ex e) sg (none_bound (sig_read S sg now.notes)) in
        let begin : Notes → Env = λ n. body_env S sg s (kept_facts true now.facts) (bind_sig S (suc s.depth) (changes_of_ex e) sg (none_bound n)) in
        let start = body_env S sg s (kept_facts true now.facts) params in
        let g = body_env_good In h sg s (kept_facts true now.facts) params a (kept_good In true now.facts d)
        (bind_sig_good In h (suc s.depth) (changes_of_ex e) sg (none_bound (sig_read S sg now.notes)) tt) in
        let r = ex_same e start.scope (result_of S sg) (now_of start) g.scope (result_good In h sg) g.facts in
        let v = read S e start.scope (result_of S sg) (now_of start) in (
          ap (λ (n : Notes). let env = begin n in made_from S sg now (returned_value (read R e env.scope (result_of S sg) (now_of env)) env)) (sig_is In h sg now.notes)
              ∙ ap (λ (o : Out). made_from S sg now (returned_value o start)) r.0,
          made_from_good sg now (returned_value v start) d (returned_value_good In h v start r.1 g),
        )

    pub stmts_same : (ss : Stmts) (env : Env) → GoodEnv In env → Twin (GoodEnv In) (read_stmts R ss env) (read_stmts S ss env)
    stmts_same no_stmt env d = (refl, d)
    stmts_same (more_stmt ss (stmt f t form)) env d =
        let before = read_stmts S ss env in
        let r = stmts_same ss env d in
        let q = stmt_same f t form (reach S f t before) (reach_good In h f t before r.1) in
        (ap (λ (x : Env). read_stmt R f t form (reach S f t x)) r.0 ∙ q.0, q.1)

    stmt_same : (f t : ℕ) (form : StmtForm) (env : Env) → GoodEnv In env → Twin (GoodEnv In) (read_stmt R f t form env) (read_stmt S f t form env)
    stmt_same f t (declares x) env d = declaration_same x env d
    stmt_same f t (function_stmt x) env d =
        let r = function_same false x env.scope (now_of env) d.scope d.facts in
        (ap (λ (m : Made). with_now m.now env) r.0, with_now_good In h (read_function S false x env.scope (now_of env)).now env r.1.facts d)
    stmt_same f t (does (simple sf st form)) env d = simple_same _ _ form env d
    stmt_same f t (branches bs last) env d =
        let k = read_branches S bs env in
        let r = branches_same bs env d in
        let q = else_same last k.env r.1.env in
        (ap (λ (x : Fork). merged x.arms (read_else R last x.env)) r.0 ∙ ap (merged k.arms) q.0, merged_good In h k.arms (read_else S last k.env) r.1.arms q.1)
    stmt_same f t (loop e body) env d =
        let start = loop_env (changes_of_ex e ++ changes_of_body body) env in
        let g = loop_good In h (changes_of_ex e ++ changes_of_body body) env d in
        let test = read S e env.scope None (now_of start) in
        let r = ex_same e env.scope None (now_of start) d.scope tt g.facts in
        let inner = with_now (on_yes test) start in
        let q = body_same body inner (with_now_good In h (on_yes test) start r.1.yes g) in
        (ap (λ (x : Out). after_loop env x (read_body R body (with_now (on_yes x) start))) r.0 ∙ ap (after_loop env test) q.0, after_loop_good In h env test (read_body S body inner) d r.1 q.1)
    stmt_same f t (nested b) env d = block_same b env d

    pub declaration_same : (x : Declaration) (env : Env) → GoodEnv In env → Twin (GoodEnv In) (read_declaration R x env) (read_declaration S x env)
    declaration_same (declaration f t binder name annotation e) env d =
        let now = change_notes (annotation_read S annotation) (now_of env) in
        let want = annotated S annotation in
        let b = annotated_good In h annotation in
        let r = ex_same e env.scope want now d.scope b d.facts in
        let v = read S e env.scope want now in (
          ap (λ (n : Notes). declared_env R f binder want (read R e env.scope want (record (now_of env) { notes = n })) env) (annotation_is In h annotation env.notes)
              ∙ ap (λ (x : Out). declared_env R f binder want x env) r.0 ∙ declared_env_same In h f binder want v env b r.1,
          declared_env_good In h f binder want v env b r.1 d,
        )

    pub simple_same : (f t : ℕ) (form : SimpleForm) (env : Env) → GoodEnv In env → Twin (GoodEnv In) (read_simple R f t form env) (read_simple S f t form env)
    simple_same f t return_bare env d = (returned_bare_same In h f t env d, returned_bare_good In h f t env d)
    simple_same f t (return_value e) env d =
        let r = ex_same e env.scope env.scope.result (now_of env) d.scope d.scope.result d.facts in
        let v = read S e env.scope env.scope.result (now_of env) in
        (ap (λ (x : Out). returned_value x env) r.0, returned_value_good In h v env r.1 d)
    simple_same f t (throw_value e) env d =
        let r = ex_same e env.scope None (now_of env) d.scope tt d.facts in
        let v = read S e env.scope None (now_of env) in
        (ap (λ (x : Out). dead (with_now (after x) env)) r.0, dead_good In h (with_now (after v) env) (with_now_good In h (after v) env (after_good In v r.1) d))
    simple_same f t break_loop env d = (refl, broken_good In h env d)
    simple_same f t continue_loop env d = (refl, dead_good In h env d)
    simple_same f t (evaluate e) env d =
        let r = ex_same e env.scope None (now_of env) d.scope tt d.facts in
        let v = read S e env.scope None (now_of env) in
        (ap (λ (x : Out). with_now (after x) env) r.0, with_now_good In h (after v) env (after_good In v r.1) d)
    -- the targets of assignments: a variable, a property, an element, and what is no target
    simple_same f t (assign (ex tf to (variable name)) e) env d =
        let m = meaning_of env.scope name in
        let goal = variable_goal S tf name m in
        let g = variable_goal_good In h tf name m (meaning_good In env.scope name d.scope) in
        let now = change_notes (variable_named S tf name m) (now_of env) in
        let r = ex_same e env.scope (goal_want goal) now d.scope (goal_want_good In h goal g) d.facts in
        let v = read S e env.scope (goal_want goal) now in
        (ap (λ (x : Out). assigned_env R e goal x env) r.0 ∙ assigned_env_same In h e goal v env g r.1, assigned_env_good In h e goal v env g r.1 d)
    simple_same f t (assign (ex tf to (postfixed base (more_link ls (link at end (member own))))) e) env d =
        let from = variable_in env.scope base in
        let place = step_place from (more_link ls (link at end (member own))) in
        let first = read S base env.scope None (now_of env) in
        let r = ex_same base env.scope None (now_of env) d.scope tt d.facts in
        let o = read_links S tf ls from env.scope first in
        let l = links_same tf ls from env.scope first d.scope r.1 in
        let goal = property_goal S tf at end own place o in
        let g = property_goal_good In h tf at end own place o l.1 in
        let v = read S e env.scope (goal_want goal) (after o) in
        let q = ex_same e env.scope (goal_want goal) (after o) d.scope (goal_want_good In h goal g) (after_good In o l.1) in
        let rest : Goal → Out → Env = λ y x. assigned_env R e y (read R e env.scope (goal_want y) (after x)) env in (
          ap (λ (x : Out). let y = read_links R tf ls from env.scope x in rest (property_goal R tf at end own place y) y) r.0
              ∙ ap (λ (y : Out). rest (property_goal R tf at end own place y) y) l.0 ∙ ap (λ (y : Goal). rest y o) (property_goal_same In h tf at end own place o l.1)
              ∙ ap (λ (x : Out). assigned_env R e goal x env) q.0 ∙ assigned_env_same In h e goal v env g q.1,
          assigned_env_good In h e goal v env g q.1 d,
        )
    simple_same f t (assign (ex tf to (postfixed base (more_link ls (link at end (index i))))) e) env d =
        let from = variable_in env.scope base in
        let first = read S base env.scope None (now_of env) in
        let r = ex_same base env.scope None (now_of env) d.scope tt d.facts in
        let o = read_links S tf ls from env.scope first in
        let l = links_same tf ls from env.scope first d.scope r.1 in
        let at_index = read S i env.scope None (after o) in
        let k = ex_same i env.scope None (after o) d.scope tt (after_good In o l.1) in
        let goal = element_goal S tf at i o at_index in
        let g = element_goal_good In h tf at i o at_index l.1 k.1 in
        let v = read S e env.scope (goal_want goal) (after at_index) in
        let q = ex_same e env.scope (goal_want goal) (after at_index) d.scope (goal_want_good In h goal g) (after_good In at_index k.1) in
        let rest : Goal → Out → Env = λ y x. assigned_env R e y (read R e env.scope (goal_want y) (after x)) env in
        let from_index : Out → Out → Env = λ y x. rest (element_goal R tf at i y x) x in
        let from_object : Out → Env = λ y. from_index y (read R i env.scope None (after y)) in (
          ap (λ (x : Out). from_object (read_links R tf ls from env.scope x)) r.0 ∙ ap from_object l.0 ∙ ap (from_index o) k.0 ∙ ap (λ (y : Goal). rest y at_index) (element_goal_same In h tf at i o at_index l.1 k.1)
              ∙ ap (λ (x : Out). assigned_env R e goal x env) q.0 ∙ assigned_env_same In h e goal v env g q.1,
          assigned_env_good In h e goal v env g q.1 d,
        )
    simple_same f t (assign (ex tf to (number digits)) e) env d = (refl, d)
    simple_same f t (assign (ex tf to (text own)) e) env d = (refl, d)
    simple_same f t (assign (ex tf to (truth_value b)) e) env d = (refl, d)
    simple_same f t (assign (ex tf to null_value) e) env d = (refl, d)
    simple_same f t (assign (ex tf to (parens x)) e) env d = (refl, d)
    simple_same f t (assign (ex tf to (elements es comma)) e) env d = (refl, d)
    simple_same f t (assign (ex tf to (fields fs comma)) e) env d = (refl, d)
    simple_same f t (assign (ex tf to (function_ex x)) e) env d = (refl, d)
    simple_same f t (assign (ex tf to (postfixed base no_link)) e) env d = (refl, d)
    simple_same f t (assign (ex tf to (postfixed base (more_link ls (link at end (call es comma))))) e) env d = (refl, d)
    simple_same f t (assign (ex tf to (prefixed marks x)) e) env d = (refl, d)
    simple_same f t (assign (ex tf to (chain level x os)) e) env d = (refl, d)
    simple_same f t (assign (ex tf to (code.cond arms x)) e) env d = (refl, d)
    simple_same f t (assign (ex tf to (arrow sg body)) e) env d = (refl, d)

    branches_same : (bs : Branches) (env : Env) → GoodEnv In env → Twin (GoodFork In) (read_branches R bs env) (read_branches S bs env)
    branches_same no_branch env d = (refl, record { env = d; arms = tt })
    branches_same (more_branch bs (branch f t e body)) env d =
        let k = read_branches S bs env in
        let r = branches_same bs env d in
        let test = read S e k.env.scope None (now_of k.env) in
        let q = ex_same e k.env.scope None (now_of k.env) r.1.env.scope tt r.1.env.facts in
        let inner = with_now (on_yes test) k.env in
        let p = body_same body inner (with_now_good In h (on_yes test) k.env q.1.yes r.1.env) in
        let from_test : Fork → Out → Fork = λ x y. forked x y (read_body R body (with_now (on_yes y) x.env)) in
        (ap (λ (x : Fork). from_test x (read R e x.env.scope None (now_of x.env))) r.0 ∙ ap (from_test k) q.0 ∙ ap (forked k test) p.0, forked_good In h k test (read_body S body inner) r.1 q.1 p.1)

    else_same : (last : Else) (env : Env) → GoodEnv In env → Twin (GoodEnv In) (read_else R last env) (read_else S last env)
    else_same no_else env d = (refl, d)
    else_same (else_body body) env d = body_same body env d

    body_same : (body : Body) (env : Env) → GoodEnv In env → Twin (GoodEnv In) (read_body R body env) (read_body S body env)
    body_same (block_body b) env d = block_same b env d
    body_same (simple_body (simple f t form)) env d =
        let start = reach S f (suc t) env in
        let good = reach_good In h f (suc t) env d in
        (ap (leave env) (simple_same _ _ form start good).0, leave_good In h env _ d (simple_same _ _ form start good).1)

    block_same : (b : Block) (env : Env) → GoodEnv In env → Twin (GoodEnv In) (read_block R b env) (read_block S b env)
    block_same (block f t ss) env d =
        let start = enter_block S (changes_of_stmts ss) ss env in
        let r = stmts_same ss start (enter_block_good In h (changes_of_stmts ss) ss env d) in
        (ap (leave env) r.0, leave_good In h env (read_stmts S ss start) d r.1)

  pub top_function_same : (x : Function) (env : Env) → GoodEnv In env → Twin (GoodEnv In) (with_now (read_function R false x env.scope (now_of env)).now env) (with_now (read_function S false x env.scope (now_of env)).now env)
  top_function_same x env d =
      let r = function_same false x env.scope (now_of env) d.scope d.facts in
      (ap (λ (m : Made). with_now m.now env) r.0, with_now_good In h (read_function S false x env.scope (now_of env)).now env r.1.facts d)
