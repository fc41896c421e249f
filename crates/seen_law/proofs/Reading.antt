-- What is watched once code was read is what is kept of its expressions, one after another.
use Rattle.std.proofs.Common.{◌≡◌, ℕ, suc, ◌++◌, Bool, true, false, List, [], ◌∷◌, length, Option, Some, None, if◌then◌else◌, refl, ◌∙◌}
use Rattle.js_grammar.specs.Code.{Prefixes, no_prefix, more_prefix, Ex, ex, ExForm, variable, number, text, truth_value, null_value, parens, elements, fields, function_ex, postfixed, prefixed, chain, arrow, Operator, Exs, no_ex, more_ex, link, LinkForm, member, index, call, Links, no_link, more_link, operand, OperandForm, right_side, as_type, Operands, no_operand, more_operand, has_operands, field, FieldForm, shorthand, valued, Fields, no_field, more_field, arm, Arms, no_arm, more_arm, Function, function, Sig, ArrowBody, arrow_block, arrow_value, Block, block, Stmts, no_stmt, more_stmt, stmt, StmtForm, declares, function_stmt, does, branches, loop, nested, Declaration, declaration, simple, SimpleForm, return_bare, return_value, throw_value, break_loop, continue_loop, assign, evaluate, Body, block_body, simple_body, branch, Branches, no_branch, more_branch, Else, no_else, else_body}
use Rattle.js_grammar.specs.Code as code
use Rattle.type_values.specs.declared.types.FlowType as made
use Rattle.type_values.specs.declared.types.Param as value
use Rattle.flow_facts.specs.declared.place.Place.{Place}
use Rattle.typing.specs.Names.{Scope, meaning_of}
use Rattle.typing.specs.Changes.{changes_of_ex, changes_of_stmts, changes_of_body}
use Rattle.typing.specs.States.{World, Want, Seen, Now, Out, Env, after, on_yes, now_of, with_now, plainly, change_notes, against, noted_out, asked_want, reach}
use Rattle.typing.specs.TypeFaults.{written, annotated, type_read, annotation_read}
use Rattle.typing.specs.Tests.{number_type, variable_in, step_place, place_in}
use Rattle.typing.specs.Members.{levels, one_function}
use Rattle.typing.specs.Functions.{bind_sig, bind_stmts, none_bound, enter_block, own_scope, sig_read, result_of, body_env, kept_facts}
use Rattle.typing.specs.Objects.{Entry, entry_of, entries_of, key_bound, Candidate, candidate_for, value_want, key_asked, all_given, object_type, array_type, Elements, elements_for, element_want, count_of}
use Rattle.typing.specs.Forms.{variable_out, prefix_out, prefixes_out, place_before, right_now, first_want, compared, compared_out, Args, Chosen, Choices, choice_out, choices_out}
use Rattle.typing.specs.Statements.{first_of, goal_want, variable_goal, variable_named, property_goal, element_goal, Fork, loop_env, returned_value}
use Rattle.typing.specs.Typing.{Items, Props, truth_out, made_out, arg_want, read, read_form, read_elements, read_fields, read_field, read_links, read_link, read_args, read_operands, read_operand, read_arms, read_function, read_arrow, read_stmts, read_stmt, read_declaration, read_simple, read_branches, read_else, read_body, read_block}
use Rattle.seen_law.specs.Reads.{one, seen_prefixes, seen_choices, seen_ex, seen_form, seen_elements, seen_fields, seen_field, seen_links, seen_link, seen_args, seen_operands, seen_operand, seen_arms, seen_function, seen_arrow, seen_stmts, seen_stmt, seen_declaration, seen_simple, seen_branches, seen_else, seen_body, seen_block}
use Rattle.seen_law.proofs.Listed.{all_seen, follows, begins}
use Rattle.seen_law.proofs.Kept.{against_kept, noted_seen, type_kept, annotation_kept, asked_want_kept, reach_kept, returns_kept}
use Rattle.seen_law.proofs.Bound.{entered_kept, body_kept, bind_stmts_kept, ended_kept}
use Rattle.seen_law.proofs.Ruled.{variable_kept, prefix_kept, operator_kept, compared_kept, cast_kept, property_kept, index_kept, call_kept, keyed_kept, given_kept, matched_kept, named_kept, assigned_kept}

-- what is watched after an expression
abbrev out_watched : Out → Option Seen
out_watched o = o.notes.watched

abbrev now_watched : Now → Option Seen
now_watched now = now.notes.watched

abbrev env_watched : Env → Option Seen
env_watched e = e.notes.watched

-- ---- what needs no other expression

-- an expression that is noted behind its parts
noted_behind : (w : World) (x : Option Seen) (f t : ℕ) (o : Out) (parts : List Seen) → out_watched o ≡ all_seen w.watch x parts → out_watched (noted_out w f t o) ≡ all_seen w.watch x (parts ++ one w f t o)
noted_behind w x f t o parts is = follows w.watch x (out_watched o) (out_watched (noted_out w f t o)) parts (one w f t o) is (noted_seen w f t o)

truth_kept : (b : Bool) (now : Now) → out_watched (truth_out b now) ≡ now_watched now
truth_kept true now = refl
truth_kept false now = refl

prefixes_seen : (w : World) (ps : Prefixes) (f t : ℕ) (o : Out) → out_watched (prefixes_out w ps f t o) ≡ all_seen w.watch (out_watched o) (seen_prefixes w ps f t o)
prefixes_seen w no_prefix f t o = refl
prefixes_seen w (more_prefix ps at p) f t o =
    let next : Out = prefix_out w p f t o in
    follows w.watch (out_watched o) (out_watched (noted_out w at t next)) (out_watched (prefixes_out w ps at t (noted_out w at t next))) (one w at t next) (seen_prefixes w ps at t (noted_out w at t next))
    (begins w.watch (out_watched o) (out_watched next) (out_watched (noted_out w at t next)) (one w at t next) (prefix_kept w p f t o) (noted_seen w at t next))
    (prefixes_seen w ps at t (noted_out w at t next))

choices_seen : (w : World) (t : ℕ) (chosen : List Chosen) (last : Out) → out_watched (choices_out w t chosen last) ≡ all_seen w.watch (out_watched last) (seen_choices w t chosen last)
choices_seen w t [] last = refl
choices_seen w t (c ∷ chosen) last =
    noted_behind w (out_watched last) c.first t (choice_out c (choices_out w t chosen last)) (seen_choices w t chosen last) (choices_seen w t chosen last)

-- the right side of an operator begins with what is watched after the left one
right_kept : (w : World) (op : Operator) (place : Option Place) (a : Out) → now_watched (right_now w op place a) ≡ out_watched a
right_kept w code.and place a = refl
right_kept w code.or place a = refl
right_kept w code.nullish None a = refl
right_kept w code.nullish (Some p) a = refl
right_kept w code.strict_equal place a = refl
right_kept w code.strict_not_equal place a = refl
right_kept w code.loose_equal place a = refl
right_kept w code.loose_not_equal place a = refl
right_kept w code.less place a = refl
right_kept w code.greater place a = refl
right_kept w code.less_or_equal place a = refl
right_kept w code.greater_or_equal place a = refl
right_kept w code.add place a = refl
right_kept w code.subtract place a = refl
right_kept w code.multiply place a = refl
right_kept w code.divide place a = refl
right_kept w code.remainder place a = refl

mutual
  pub ex_seen : (w : World) (e : Ex) (scope : Scope) (want : Want) (now : Now) → out_watched (read w e scope want now) ≡ all_seen w.watch (now_watched now) (seen_ex w e scope want now)
  ex_seen w (ex f t form) scope want now =
      noted_behind w (now_watched now) f t (read_form w f t form scope want now) (seen_form w f t form scope want now) (form_seen w f t form scope want now)

  form_seen : (w : World) (f t : ℕ) (form : ExForm) (scope : Scope) (want : Want) (now : Now) → out_watched (read_form w f t form scope want now) ≡ all_seen w.watch (now_watched now) (seen_form w f t form scope want now)
  form_seen w f t (number digits) scope want now = against_kept w f t want (plainly (number_type digits) now)
  form_seen w f t (text s) scope want now = against_kept w f t want (plainly (made.StrLit s) now)
  form_seen w f t (truth_value b) scope want now = against_kept w f t want (truth_out b now) ∙ truth_kept b now
  form_seen w f t null_value scope want now = against_kept w f t want (plainly made.Null now)
  form_seen w f t (variable name) scope want now = against_kept w f t want (variable_out w f t name scope now) ∙ variable_kept w f t name scope now
  form_seen w f t (parens e) scope want now = ex_seen w e scope want now
  form_seen w f t (prefixed marks e) scope want now =
      let o : Out = read w e scope None now in
      against_kept w f t want (prefixes_out w marks (first_of e) t o)
      ∙ follows w.watch (now_watched now) (out_watched o) (out_watched (prefixes_out w marks (first_of e) t o)) (seen_ex w e scope None now) (seen_prefixes w marks (first_of e) t o) (ex_seen w e scope None now) (prefixes_seen w marks (first_of e) t o)
  form_seen w f t (chain level e os) scope want now =
      let first : Out = read w e scope (first_want w os) now in
      let all : Out = read_operands w f os (place_in scope e) scope first in
      against_kept w f t want (compared_out w (compared scope e os) all)
      ∙ compared_kept w (compared scope e os) all
      ∙ follows w.watch (now_watched now) (out_watched first) (out_watched all) (seen_ex w e scope (first_want w os) now) (seen_operands w f os (place_in scope e) scope first) (ex_seen w e scope (first_want w os) now) (operands_seen w f os (place_in scope e) scope first)
  form_seen w f t (code.cond arms e) scope want now =
      let choices : Choices = read_arms w arms scope want now in
      let last : Out = read w e scope want choices.now in
      follows w.watch (now_watched now) (now_watched choices.now) (out_watched (choices_out w t choices.chosen last)) (seen_arms w arms scope want now) (seen_ex w e scope want choices.now ++ seen_choices w t choices.chosen last) (arms_seen w arms scope want now)
      (follows w.watch (now_watched choices.now) (out_watched last) (out_watched (choices_out w t choices.chosen last)) (seen_ex w e scope want choices.now) (seen_choices w t choices.chosen last) (ex_seen w e scope want choices.now) (choices_seen w t choices.chosen last))
  form_seen w f t (elements es comma) scope want now =
      let matched : Option Elements = elements_for w (count_of es) want in
      let items : Items = read_elements w es scope matched now in
      matched_kept w f t want matched (plainly (array_type items.types) items.now) ∙ elements_seen w es scope matched now
  form_seen w f t (fields fs comma) scope want now =
      let entries : List Entry = entries_of fs in
      let candidate : Option Candidate = candidate_for w entries want in
      let props : Props = read_fields w fs scope candidate entries now in
      matched_kept w f t want candidate (plainly (object_type props.props) (change_notes (all_given w f t entries candidate) props.now))
      ∙ given_kept w f t entries candidate props.now.notes
      ∙ fields_seen w fs scope candidate entries now
  form_seen w f t (postfixed e ls) scope want now =
      let o : Out = read w e scope None now in
      let all : Out = read_links w f ls (variable_in scope e) scope o in
      against_kept w f t want all
      ∙ follows w.watch (now_watched now) (out_watched o) (out_watched all) (seen_ex w e scope None now) (seen_links w f ls (variable_in scope e) scope o) (ex_seen w e scope None now) (links_seen w f ls (variable_in scope e) scope o)
  form_seen w f t (function_ex made_by) scope want now = against_kept w f t want (made_out (read_function w true made_by scope now)) ∙ function_seen w true made_by scope now
  form_seen w f t (arrow s body) scope want now = against_kept w f t want (made_out (read_arrow w s body scope now)) ∙ arrow_seen w s body scope now

  elements_seen : (w : World) (es : Exs) (scope : Scope) (matched : Option Elements) (now : Now) → now_watched (read_elements w es scope matched now).now ≡ all_seen w.watch (now_watched now) (seen_elements w es scope matched now)
  elements_seen w no_ex scope matched now = refl
  elements_seen w (more_ex es e) scope matched now =
      let items : Items = read_elements w es scope matched now in
      let want : Want = element_want matched (count_of es) in
      follows w.watch (now_watched now) (now_watched items.now) (out_watched (read w e scope want items.now)) (seen_elements w es scope matched now) (seen_ex w e scope want items.now) (elements_seen w es scope matched now) (ex_seen w e scope want items.now)

  fields_seen : (w : World) (fs : Fields) (scope : Scope) (c : Option Candidate) (entries : List Entry) (now : Now) → now_watched (read_fields w fs scope c entries now).now ≡ all_seen w.watch (now_watched now) (seen_fields w fs scope c entries now)
  fields_seen w no_field scope c entries now = refl
  fields_seen w (more_field fs (field f t form)) scope c entries now =
      let before : Props = read_fields w fs scope c entries now in
      let entry : Entry = entry_of form f in
      let named : Now = change_notes (λ notes. key_asked w c entries entry (key_bound w entries entry notes)) before.now in
      let want : Want = value_want c entries entry in
      follows w.watch (now_watched now) (now_watched before.now) (out_watched (read_field w f form scope want named)) (seen_fields w fs scope c entries now) (seen_field w f form scope want named) (fields_seen w fs scope c entries now)
      (begins w.watch (now_watched before.now) (now_watched named) (out_watched (read_field w f form scope want named)) (seen_field w f form scope want named) (keyed_kept w c entries entry before.now.notes) (field_seen w f form scope want named))

  field_seen : (w : World) (f : ℕ) (form : FieldForm) (scope : Scope) (want : Want) (now : Now) → out_watched (read_field w f form scope want now) ≡ all_seen w.watch (now_watched now) (seen_field w f form scope want now)
  field_seen w f (shorthand name) scope want now =
      let o : Out = variable_out w f (suc f) name scope now in
      noted_behind w (now_watched now) f (suc f) (against w f (suc f) want o) [] (against_kept w f (suc f) want o ∙ variable_kept w f (suc f) name scope now)
  field_seen w f (valued k e) scope want now = ex_seen w e scope want now

  links_seen : (w : World) (f : ℕ) (ls : Links) (from : Option ℕ) (scope : Scope) (base : Out) → out_watched (read_links w f ls from scope base) ≡ all_seen w.watch (out_watched base) (seen_links w f ls from scope base)
  links_seen w f no_link from scope base = refl
  links_seen w f (more_link ls (link at t form)) from scope base =
      let place : Option Place = step_place from (more_link ls (link at t form)) in
      let o : Out = read_links w f ls from scope base in
      let next : Out = read_link w f at t form place scope o in
      follows w.watch (out_watched base) (out_watched o) (out_watched (noted_out w f t next)) (seen_links w f ls from scope base) (seen_link w form scope o ++ one w f t next) (links_seen w f ls from scope base)
      (noted_behind w (out_watched o) f t next (seen_link w form scope o) (link_seen w f at t form place scope o))

  link_seen : (w : World) (f at t : ℕ) (form : LinkForm) (place : Option Place) (scope : Scope) (o : Out) → out_watched (read_link w f at t form place scope o) ≡ all_seen w.watch (out_watched o) (seen_link w form scope o)
  link_seen w f at t (member key) place scope o = property_kept w f at t key place o
  link_seen w f at t (index e) place scope o = index_kept w f at t o (read w e scope None (after o)) ∙ ex_seen w e scope None (after o)
  link_seen w f at t (call es comma) place scope o =
      let params : Option (List value.Param) = one_function (levels w o.ty) in
      call_kept w f at t o (read_args w es scope params (after o)) ∙ args_seen w es scope params (after o)

  args_seen : (w : World) (es : Exs) (scope : Scope) (params : Option (List value.Param)) (now : Now) → now_watched (read_args w es scope params now).now ≡ all_seen w.watch (now_watched now) (seen_args w es scope params now)
  args_seen w no_ex scope params now = refl
  args_seen w (more_ex es e) scope params now =
      let given : Args = read_args w es scope params now in
      let want : Want = arg_want params (length given.args) in
      follows w.watch (now_watched now) (now_watched given.now) (out_watched (read w e scope want given.now)) (seen_args w es scope params now) (seen_ex w e scope want given.now) (args_seen w es scope params now) (ex_seen w e scope want given.now)

  operands_seen : (w : World) (f : ℕ) (os : Operands) (place : Option Place) (scope : Scope) (first : Out) → out_watched (read_operands w f os place scope first) ≡ all_seen w.watch (out_watched first) (seen_operands w f os place scope first)
  operands_seen w f no_operand place scope first = refl
  operands_seen w f (more_operand os (operand at t form)) place scope first =
      let a : Out = read_operands w f os place scope first in
      let next : Out = read_operand w f at t form (has_operands os) place scope a in
      follows w.watch (out_watched first) (out_watched a) (out_watched (noted_out w f t next)) (seen_operands w f os place scope first) (seen_operand w form (has_operands os) place scope a ++ one w f t next) (operands_seen w f os place scope first)
      (noted_behind w (out_watched a) f t next (seen_operand w form (has_operands os) place scope a) (operand_seen w f at t form (has_operands os) place scope a))

  operand_seen : (w : World) (f at t : ℕ) (form : OperandForm) (goes_on : Bool) (place : Option Place) (scope : Scope) (a : Out) → out_watched (read_operand w f at t form goes_on place scope a) ≡ all_seen w.watch (out_watched a) (seen_operand w form goes_on place scope a)
  operand_seen w f at t (right_side op e) goes_on place scope a =
      let now : Now = right_now w op (place_before goes_on place) a in
      let b : Out = read w e scope None now in
      operator_kept w f at t op a b
      ∙ begins w.watch (out_watched a) (now_watched now) (out_watched b) (seen_ex w e scope None now) (right_kept w op (place_before goes_on place) a) (ex_seen w e scope None now)
  operand_seen w f at t (as_type v) goes_on place scope a = cast_kept w f at goes_on (written w v) a.ty (type_read w v a.notes) ∙ type_kept w v a.notes

  arms_seen : (w : World) (arms : Arms) (scope : Scope) (want : Want) (now : Now) → now_watched (read_arms w arms scope want now).now ≡ all_seen w.watch (now_watched now) (seen_arms w arms scope want now)
  arms_seen w no_arm scope want now = refl
  arms_seen w (more_arm arms (arm f t test chosen)) scope want now =
      let before : Choices = read_arms w arms scope want now in
      let o : Out = read w test scope None before.now in
      let v : Out = read w chosen scope want (on_yes o) in
      follows w.watch (now_watched now) (now_watched before.now) (out_watched v) (seen_arms w arms scope want now) (seen_ex w test scope None before.now ++ seen_ex w chosen scope want (on_yes o)) (arms_seen w arms scope want now)
      (follows w.watch (now_watched before.now) (out_watched o) (out_watched v) (seen_ex w test scope None before.now) (seen_ex w chosen scope want (on_yes o)) (ex_seen w test scope None before.now) (ex_seen w chosen scope want (on_yes o)))

  pub function_seen : (w : World) (is_expression : Bool) (made_by : Function) (scope : Scope) (now : Now) → now_watched (read_function w is_expression made_by scope now).now ≡ all_seen w.watch (now_watched now) (seen_function w is_expression made_by scope now)
  function_seen w is_expression (function f t name s (block bf bt ss)) scope now =
      let outer : Scope = if is_expression then own_scope w name (suc f) s scope else scope in
      let params = bind_sig w (suc scope.depth) (changes_of_stmts ss) s (none_bound (sig_read w s now.notes)) in
      let start : Env = body_env w s outer (kept_facts is_expression now.facts) (bind_stmts w (suc scope.depth) (changes_of_stmts ss) ss params) in
      ended_kept w s (read_stmts w ss start)
      ∙ begins w.watch (now_watched now) (env_watched start) (env_watched (read_stmts w ss start)) (seen_stmts w ss start) (body_kept w (suc scope.depth) (changes_of_stmts ss) s ss now.notes) (stmts_seen w ss start)

  arrow_seen : (w : World) (s : Sig) (body : ArrowBody) (scope : Scope) (now : Now) → now_watched (read_arrow w s body scope now).now ≡ all_seen w.watch (now_watched now) (seen_arrow w s body scope now)
  arrow_seen w s (arrow_block (block bf bt ss)) scope now =
      let params = bind_sig w (suc scope.depth) (changes_of_stmts ss) s (none_bound (sig_read w s now.notes)) in
      let start : Env = body_env w s scope (kept_facts true now.facts) (bind_stmts w (suc scope.depth) (changes_of_stmts ss) ss params) in
      ended_kept w s (read_stmts w ss start)
      ∙ begins w.watch (now_watched now) (env_watched start) (env_watched (read_stmts w ss start)) (seen_stmts w ss start) (body_kept w (suc scope.depth) (changes_of_stmts ss) s ss now.notes) (stmts_seen w ss start)
  arrow_seen w s (arrow_value e) scope now =
      let params = bind_sig w (suc scope.depth) (changes_of_ex e) s (none_bound (sig_read w s now.notes)) in
      let start : Env = body_env w s scope (kept_facts true now.facts) params in
      let v : Out = read w e start.scope (result_of w s) (now_of start) in
      ended_kept w s (returned_value v start)
      ∙ returns_kept v.ty (with_now (after v) start)
      ∙ begins w.watch (now_watched now) (env_watched start) (out_watched v) (seen_ex w e start.scope (result_of w s) (now_of start)) (entered_kept w (suc scope.depth) (changes_of_ex e) s now.notes) (ex_seen w e start.scope (result_of w s) (now_of start))

  stmts_seen : (w : World) (ss : Stmts) (e : Env) → env_watched (read_stmts w ss e) ≡ all_seen w.watch (env_watched e) (seen_stmts w ss e)
  stmts_seen w no_stmt e = refl
  stmts_seen w (more_stmt ss (stmt f t form)) e =
      let before : Env = read_stmts w ss e in
      let here : Env = reach w f t before in
      follows w.watch (env_watched e) (env_watched before) (env_watched (read_stmt w f t form here)) (seen_stmts w ss e) (seen_stmt w form here) (stmts_seen w ss e)
      (begins w.watch (env_watched before) (env_watched here) (env_watched (read_stmt w f t form here)) (seen_stmt w form here) (reach_kept w f t before) (stmt_seen w f t form here))

  stmt_seen : (w : World) (f t : ℕ) (form : StmtForm) (e : Env) → env_watched (read_stmt w f t form e) ≡ all_seen w.watch (env_watched e) (seen_stmt w form e)
  stmt_seen w f t (declares d) e = declaration_seen w d e
  stmt_seen w f t (function_stmt made_by) e = function_seen w false made_by e.scope (now_of e)
  stmt_seen w f t (does (simple sf st form)) e = simple_seen w sf st form e
  stmt_seen w f t (branches bs last) e =
      let k : Fork = read_branches w bs e in
      follows w.watch (env_watched e) (env_watched k.env) (env_watched (read_else w last k.env)) (seen_branches w bs e) (seen_else w last k.env) (branches_seen w bs e) (else_seen w last k.env)
  stmt_seen w f t (loop e body) env =
      let start : Env = loop_env (changes_of_ex e ++ changes_of_body body) env in
      let test : Out = read w e env.scope None (now_of start) in
      let inner : Env = with_now (on_yes test) start in
      follows w.watch (env_watched env) (out_watched test) (env_watched (read_body w body inner)) (seen_ex w e env.scope None (now_of start)) (seen_body w body inner) (ex_seen w e env.scope None (now_of start)) (body_seen w body inner)
  stmt_seen w f t (nested b) e = block_seen w b e

  pub declaration_seen : (w : World) (d : Declaration) (e : Env) → env_watched (read_declaration w d e) ≡ all_seen w.watch (env_watched e) (seen_declaration w d e)
  declaration_seen w (declaration f t binder name annotation v) e =
      let now : Now = change_notes (annotation_read w annotation) (now_of e) in
      begins w.watch (env_watched e) (now_watched now) (out_watched (read w v e.scope (annotated w annotation) now)) (seen_ex w v e.scope (annotated w annotation) now) (annotation_kept w annotation e.notes) (ex_seen w v e.scope (annotated w annotation) now)

  pub simple_seen : (w : World) (f t : ℕ) (form : SimpleForm) (e : Env) → env_watched (read_simple w f t form e) ≡ all_seen w.watch (env_watched e) (seen_simple w form e)
  simple_seen w f t return_bare e = returns_kept made.Void (record e { notes = asked_want w f t e.scope.result made.Void e.notes }) ∙ asked_want_kept w f t e.scope.result made.Void e.notes
  simple_seen w f t (return_value v) e =
      let o : Out = read w v e.scope e.scope.result (now_of e) in
      returns_kept o.ty (with_now (after o) e) ∙ ex_seen w v e.scope e.scope.result (now_of e)
  simple_seen w f t (throw_value v) e = ex_seen w v e.scope None (now_of e)
  simple_seen w f t break_loop e = refl
  simple_seen w f t continue_loop e = refl
  simple_seen w f t (evaluate v) e = ex_seen w v e.scope None (now_of e)
  simple_seen w f t (assign (ex tf tt (variable name)) v) e =
      let goal = variable_goal w tf name (meaning_of e.scope name) in
      let now : Now = change_notes (variable_named w tf name (meaning_of e.scope name)) (now_of e) in
      let o : Out = read w v e.scope (goal_want goal) now in
      assigned_kept w v goal o
      ∙ begins w.watch (env_watched e) (now_watched now) (out_watched o) (seen_ex w v e.scope (goal_want goal) now) (named_kept w tf name (meaning_of e.scope name) e.notes) (ex_seen w v e.scope (goal_want goal) now)
  simple_seen w f t (assign (ex tf tt (postfixed base (more_link ls (link at end (member key))))) v) e =
      let from : Option ℕ = variable_in e.scope base in
      let first : Out = read w base e.scope None (now_of e) in
      let o : Out = read_links w tf ls from e.scope first in
      let goal = property_goal w tf at end key (step_place from (more_link ls (link at end (member key)))) o in
      let last : Out = read w v e.scope (goal_want goal) (after o) in
      assigned_kept w v goal last
      ∙ follows w.watch (env_watched e) (out_watched first) (out_watched last) (seen_ex w base e.scope None (now_of e)) (seen_links w tf ls from e.scope first ++ seen_ex w v e.scope (goal_want goal) (after o)) (ex_seen w base e.scope None (now_of e))
      (follows w.watch (out_watched first) (out_watched o) (out_watched last) (seen_links w tf ls from e.scope first) (seen_ex w v e.scope (goal_want goal) (after o)) (links_seen w tf ls from e.scope first) (ex_seen w v e.scope (goal_want goal) (after o)))
  simple_seen w f t (assign (ex tf tt (postfixed base (more_link ls (link at end (index i))))) v) e =
      let from : Option ℕ = variable_in e.scope base in
      let first : Out = read w base e.scope None (now_of e) in
      let o : Out = read_links w tf ls from e.scope first in
      let at_index : Out = read w i e.scope None (after o) in
      let goal = element_goal w tf at i o at_index in
      let last : Out = read w v e.scope (goal_want goal) (after at_index) in
      assigned_kept w v goal last
      ∙ follows w.watch (env_watched e) (out_watched first) (out_watched last) (seen_ex w base e.scope None (now_of e)) (seen_links w tf ls from e.scope first ++ (seen_ex w i e.scope None (after o) ++ seen_ex w v e.scope (goal_want goal) (after at_index))) (ex_seen w base e.scope None (now_of e))
      (follows w.watch (out_watched first) (out_watched o) (out_watched last) (seen_links w tf ls from e.scope first) (seen_ex w i e.scope None (after o) ++ seen_ex w v e.scope (goal_want goal) (after at_index)) (links_seen w tf ls from e.scope first)
      (follows w.watch (out_watched o) (out_watched at_index) (out_watched last) (seen_ex w i e.scope None (after o)) (seen_ex w v e.scope (goal_want goal) (after at_index)) (ex_seen w i e.scope None (after o)) (ex_seen w v e.scope (goal_want goal) (after at_index))))
  simple_seen w f t (assign (ex tf tt (postfixed base no_link)) v) e = refl
  simple_seen w f t (assign (ex tf tt (postfixed base (more_link ls (link at end (call es comma))))) v) e = refl
  simple_seen w f t (assign (ex tf tt (number digits)) v) e = refl
  simple_seen w f t (assign (ex tf tt (text s)) v) e = refl
  simple_seen w f t (assign (ex tf tt (truth_value b)) v) e = refl
  simple_seen w f t (assign (ex tf tt null_value) v) e = refl
  simple_seen w f t (assign (ex tf tt (parens inner)) v) e = refl
  simple_seen w f t (assign (ex tf tt (elements es comma)) v) e = refl
  simple_seen w f t (assign (ex tf tt (fields fs comma)) v) e = refl
  simple_seen w f t (assign (ex tf tt (function_ex made_by)) v) e = refl
  simple_seen w f t (assign (ex tf tt (prefixed marks inner)) v) e = refl
  simple_seen w f t (assign (ex tf tt (chain level inner os)) v) e = refl
  simple_seen w f t (assign (ex tf tt (code.cond arms inner)) v) e = refl
  simple_seen w f t (assign (ex tf tt (arrow s body)) v) e = refl

  branches_seen : (w : World) (bs : Branches) (e : Env) → env_watched (read_branches w bs e).env ≡ all_seen w.watch (env_watched e) (seen_branches w bs e)
  branches_seen w no_branch e = refl
  branches_seen w (more_branch bs (branch f t v body)) e =
      let k : Fork = read_branches w bs e in
      let test : Out = read w v k.env.scope None (now_of k.env) in
      let inner : Env = with_now (on_yes test) k.env in
      follows w.watch (env_watched e) (env_watched k.env) (env_watched (read_body w body inner)) (seen_branches w bs e) (seen_ex w v k.env.scope None (now_of k.env) ++ seen_body w body inner) (branches_seen w bs e)
      (follows w.watch (env_watched k.env) (out_watched test) (env_watched (read_body w body inner)) (seen_ex w v k.env.scope None (now_of k.env)) (seen_body w body inner) (ex_seen w v k.env.scope None (now_of k.env)) (body_seen w body inner))

  else_seen : (w : World) (last : Else) (e : Env) → env_watched (read_else w last e) ≡ all_seen w.watch (env_watched e) (seen_else w last e)
  else_seen w no_else e = refl
  else_seen w (else_body body) e = body_seen w body e

  body_seen : (w : World) (body : Body) (e : Env) → env_watched (read_body w body e) ≡ all_seen w.watch (env_watched e) (seen_body w body e)
  body_seen w (block_body b) e = block_seen w b e
  body_seen w (simple_body (simple f t form)) e =
      let here : Env = reach w f (suc t) e in
      begins w.watch (env_watched e) (env_watched here) (env_watched (read_simple w f t form here)) (seen_simple w form here) (reach_kept w f (suc t) e) (simple_seen w f t form here)

  block_seen : (w : World) (b : Block) (e : Env) → env_watched (read_block w b e) ≡ all_seen w.watch (env_watched e) (seen_block w b e)
  block_seen w (block f t ss) e =
      let here : Env = enter_block w (changes_of_stmts ss) ss e in
      begins w.watch (env_watched e) (env_watched here) (env_watched (read_stmts w ss here)) (seen_stmts w ss here) (bind_stmts_kept w e.scope.depth (changes_of_stmts ss) ss (none_bound e.notes)) (stmts_seen w ss here)
