-- The expressions that are read, each with its type, in order: the parts of an expression stand before it.
use Rattle.std.specs.Prelude.{ℕ, suc, ◌++◌, Bool, true, false, List, [], ◌∷◌, length, Option, Some, None, if◌then◌else◌}
use Rattle.js_grammar.specs.Code.{Prefixes, no_prefix, more_prefix, Ex, ex, ExForm, variable, parens, elements, fields, function_ex, postfixed, prefixed, chain, cond, arrow, Exs, no_ex, more_ex, link, LinkForm, member, index, call, Links, no_link, more_link, operand, OperandForm, right_side, as_type, Operands, no_operand, more_operand, has_operands, field, FieldForm, shorthand, valued, Fields, no_field, more_field, arm, Arms, no_arm, more_arm, Function, function, Sig, ArrowBody, arrow_block, arrow_value, Block, block, Stmts, no_stmt, more_stmt, stmt, StmtForm, declares, function_stmt, does, branches, loop, nested, Declaration, declaration, simple, SimpleForm, return_value, throw_value, assign, evaluate, Body, block_body, simple_body, branch, Branches, no_branch, more_branch, Else, no_else, else_body}
use Rattle.js_grammar.specs.Items.{ExportForm, export_declaration, export_function, export_default_function, export_default, ItemForm, exports, declares_item, function_item, does_item, item, Items, no_item, more_item, Module, module_of}
use Rattle.flow_values.specs.declared.span.Span.{Span}
use Rattle.type_values.specs.declared.types.Param as value
use Rattle.flow_facts.specs.declared.place.Place.{Place}
use Rattle.local_signatures.specs.Faults.{span_over}
use Rattle.typing.specs.Names.{Scope, meaning_of}
use Rattle.typing.specs.Changes.{changes_of_ex, changes_of_stmts, changes_of_body}
use Rattle.typing.specs.States.{World, Want, Seen, Now, Out, Env, after, on_yes, now_of, with_now, change_notes, against, noted_out, reach}
use Rattle.typing.specs.TypeFaults.{annotated, annotation_read}
use Rattle.typing.specs.Tests.{variable_in, step_place, place_in}
use Rattle.typing.specs.Members.{levels, one_function}
use Rattle.typing.specs.Functions.{bind_sig, bind_stmts, none_bound, enter_block, own_scope, sig_read, result_of, body_env, kept_facts}
use Rattle.typing.specs.Objects.{Entry, entry_of, entries_of, key_bound, Candidate, candidate_for, value_want, key_asked, Elements, elements_for, element_want, count_of}
use Rattle.typing.specs.Forms.{variable_out, prefix_out, place_before, right_now, first_want, Chosen, choice_out, choices_out}
use Rattle.typing.specs.Statements.{first_of, goal_want, variable_goal, variable_named, property_goal, element_goal, loop_env}
use Rattle.typing.specs.Typing.{arg_want, read, read_form, read_elements, read_fields, read_links, read_link, read_args, read_operands, read_operand, read_arms, read_stmts, read_branches}
use Rattle.module_errors.specs.Program.{Program, world_of}
use Rattle.module_errors.specs.Items.{read_items}
use Rattle.module_errors.specs.Errors.{top_env}

-- the expression at these tokens was read, where it is reached
abbrev pub one : World → ℕ → ℕ → Out → List Seen
one w f t o = if o.notes.stopped then [] else record { span = span_over w.spans f t; ty = o.ty } ∷ []

-- each mark with what stands behind it, from the last mark on
abbrev pub seen_prefixes : World → Prefixes → ℕ → ℕ → Out → List Seen
seen_prefixes w no_prefix f t o = []
seen_prefixes w (more_prefix ps at p) f t o =
    one w at t (prefix_out w p f t o) ++ seen_prefixes w ps at t (noted_out w at t (prefix_out w p f t o))

-- each branch of a conditional with all that follows it, from the last one on
abbrev pub seen_choices : World → ℕ → List Chosen → Out → List Seen
seen_choices w t [] last = []
seen_choices w t (c ∷ chosen) last = seen_choices w t chosen last ++ one w c.first t (choice_out c (choices_out w t chosen last))

abbrev mutual
  pub seen_ex : World → Ex → Scope → Want → Now → List Seen
  seen_ex w (ex f t form) scope want now = seen_form w f t form scope want now ++ one w f t (read_form w f t form scope want now)

  -- the parts of a form
  pub seen_form : World → ℕ → ℕ → ExForm → Scope → Want → Now → List Seen
  seen_form w f t (parens e) scope want now = seen_ex w e scope want now
  seen_form w f t (prefixed marks e) scope want now =
      let o = read w e scope None now in
      seen_ex w e scope None now ++ seen_prefixes w marks (first_of e) t o
  seen_form w f t (chain level e os) scope want now =
      let first = read w e scope (first_want w os) now in
      seen_ex w e scope (first_want w os) now ++ seen_operands w f os (place_in scope e) scope first
  seen_form w f t (cond arms e) scope want now =
      let choices = read_arms w arms scope want now in
      seen_arms w arms scope want now
      ++ (seen_ex w e scope want choices.now ++ seen_choices w t choices.chosen (read w e scope want choices.now))
  seen_form w f t (elements es comma) scope want now = seen_elements w es scope (elements_for w (count_of es) want) now
  seen_form w f t (fields fs comma) scope want now =
      let entries = entries_of fs in
      seen_fields w fs scope (candidate_for w entries want) entries now
  seen_form w f t (postfixed e ls) scope want now =
      let o = read w e scope None now in
      seen_ex w e scope None now ++ seen_links w f ls (variable_in scope e) scope o
  seen_form w f t (function_ex made_by) scope want now = seen_function w true made_by scope now
  seen_form w f t (arrow s body) scope want now = seen_arrow w s body scope now
  seen_form w f t form scope want now = []

  pub seen_elements : World → Exs → Scope → Option Elements → Now → List Seen
  seen_elements w no_ex scope matched now = []
  seen_elements w (more_ex es e) scope matched now =
      let items = read_elements w es scope matched now in
      seen_elements w es scope matched now ++ seen_ex w e scope (element_want matched (count_of es)) items.now

  pub seen_fields : World → Fields → Scope → Option Candidate → List Entry → Now → List Seen
  seen_fields w no_field scope candidate entries now = []
  seen_fields w (more_field fs (field f t form)) scope candidate entries now =
      let before = read_fields w fs scope candidate entries now in
      let entry = entry_of form f in
      let named = change_notes (λ notes. key_asked w candidate entries entry (key_bound w entries entry notes)) before.now in
      seen_fields w fs scope candidate entries now ++ seen_field w f form scope (value_want candidate entries entry) named

  pub seen_field : World → ℕ → FieldForm → Scope → Want → Now → List Seen
  seen_field w f (shorthand name) scope want now = one w f (suc f) (against w f (suc f) want (variable_out w f (suc f) name scope now))
  seen_field w f (valued k e) scope want now = seen_ex w e scope want now

  -- each link with what stands before it
  pub seen_links : World → ℕ → Links → Option ℕ → Scope → Out → List Seen
  seen_links w f no_link from scope base = []
  seen_links w f (more_link ls (link at t form)) from scope base =
      let place = step_place from (more_link ls (link at t form)) in
      let o = read_links w f ls from scope base in
      seen_links w f ls from scope base ++ (seen_link w form scope o ++ one w f t (read_link w f at t form place scope o))

  pub seen_link : World → LinkForm → Scope → Out → List Seen
  seen_link w (member key) scope o = []
  seen_link w (index e) scope o = seen_ex w e scope None (after o)
  seen_link w (call es comma) scope o = seen_args w es scope (one_function (levels w o.ty)) (after o)

  pub seen_args : World → Exs → Scope → Option (List value.Param) → Now → List Seen
  seen_args w no_ex scope params now = []
  seen_args w (more_ex es e) scope params now =
      let given = read_args w es scope params now in
      seen_args w es scope params now ++ seen_ex w e scope (arg_want params (length given.args)) given.now

  -- each operand with what stands before it
  pub seen_operands : World → ℕ → Operands → Option Place → Scope → Out → List Seen
  seen_operands w f no_operand place scope first = []
  seen_operands w f (more_operand os (operand at t form)) place scope first =
      let a = read_operands w f os place scope first in
      seen_operands w f os place scope first
      ++ (seen_operand w form (has_operands os) place scope a ++ one w f t (read_operand w f at t form (has_operands os) place scope a))

  pub seen_operand : World → OperandForm → Bool → Option Place → Scope → Out → List Seen
  seen_operand w (right_side op e) goes_on place scope a = seen_ex w e scope None (right_now w op (place_before goes_on place) a)
  seen_operand w (as_type v) goes_on place scope a = []

  pub seen_arms : World → Arms → Scope → Want → Now → List Seen
  seen_arms w no_arm scope want now = []
  seen_arms w (more_arm arms (arm f t test chosen)) scope want now =
      let before = read_arms w arms scope want now in
      let o = read w test scope None before.now in
      seen_arms w arms scope want now ++ (seen_ex w test scope None before.now ++ seen_ex w chosen scope want (on_yes o))

  -- what is read in a function is read as it stands there
  pub seen_function : World → Bool → Function → Scope → Now → List Seen
  seen_function w is_expression (function f t name s (block bf bt ss)) scope now =
      let outer = if is_expression then own_scope w name (suc f) s scope else scope in
      let changes = changes_of_stmts ss in
      let params = bind_sig w (suc scope.depth) changes s (none_bound (sig_read w s now.notes)) in
      seen_stmts w ss (body_env w s outer (kept_facts is_expression now.facts) (bind_stmts w (suc scope.depth) changes ss params))

  pub seen_arrow : World → Sig → ArrowBody → Scope → Now → List Seen
  seen_arrow w s (arrow_block (block bf bt ss)) scope now =
      let changes = changes_of_stmts ss in
      let params = bind_sig w (suc scope.depth) changes s (none_bound (sig_read w s now.notes)) in
      seen_stmts w ss (body_env w s scope (kept_facts true now.facts) (bind_stmts w (suc scope.depth) changes ss params))
  seen_arrow w s (arrow_value e) scope now =
      let params = bind_sig w (suc scope.depth) (changes_of_ex e) s (none_bound (sig_read w s now.notes)) in
      let start = body_env w s scope (kept_facts true now.facts) params in
      seen_ex w e start.scope (result_of w s) (now_of start)

  pub seen_stmts : World → Stmts → Env → List Seen
  seen_stmts w no_stmt env = []
  seen_stmts w (more_stmt ss (stmt f t form)) env = seen_stmts w ss env ++ seen_stmt w form (reach w f t (read_stmts w ss env))

  pub seen_stmt : World → StmtForm → Env → List Seen
  seen_stmt w (declares d) env = seen_declaration w d env
  seen_stmt w (function_stmt declared_by) env = seen_function w false declared_by env.scope (now_of env)
  seen_stmt w (does (simple sf st form)) env = seen_simple w form env
  seen_stmt w (branches bs last) env =
      let k = read_branches w bs env in
      seen_branches w bs env ++ seen_else w last k.env
  seen_stmt w (loop e body) env =
      let start = loop_env (changes_of_ex e ++ changes_of_body body) env in
      let test = read w e env.scope None (now_of start) in
      seen_ex w e env.scope None (now_of start) ++ seen_body w body (with_now (on_yes test) start)
  seen_stmt w (nested b) env = seen_block w b env

  pub seen_declaration : World → Declaration → Env → List Seen
  seen_declaration w (declaration f t binder name annotation e) env =
      seen_ex w e env.scope (annotated w annotation) (change_notes (annotation_read w annotation) (now_of env))

  -- the target of an assignment is not read, but its object and its index are
  pub seen_simple : World → SimpleForm → Env → List Seen
  seen_simple w (return_value e) env = seen_ex w e env.scope env.scope.result (now_of env)
  seen_simple w (throw_value e) env = seen_ex w e env.scope None (now_of env)
  seen_simple w (evaluate e) env = seen_ex w e env.scope None (now_of env)
  seen_simple w (assign (ex tf tt (variable name)) e) env =
      let goal = variable_goal w tf name (meaning_of env.scope name) in
      let now = change_notes (variable_named w tf name (meaning_of env.scope name)) (now_of env) in
      seen_ex w e env.scope (goal_want goal) now
  seen_simple w (assign (ex tf tt (postfixed base (more_link ls (link at end (member key))))) e) env =
      let from = variable_in env.scope base in
      let first = read w base env.scope None (now_of env) in
      let o = read_links w tf ls from env.scope first in
      let goal = property_goal w tf at end key (step_place from (more_link ls (link at end (member key)))) o in
      seen_ex w base env.scope None (now_of env) ++ (seen_links w tf ls from env.scope first ++ seen_ex w e env.scope (goal_want goal) (after o))
  seen_simple w (assign (ex tf tt (postfixed base (more_link ls (link at end (index i))))) e) env =
      let from = variable_in env.scope base in
      let first = read w base env.scope None (now_of env) in
      let o = read_links w tf ls from env.scope first in
      let at_index = read w i env.scope None (after o) in
      let goal = element_goal w tf at i o at_index in
      seen_ex w base env.scope None (now_of env)
      ++ (seen_links w tf ls from env.scope first ++ (seen_ex w i env.scope None (after o) ++ seen_ex w e env.scope (goal_want goal) (after at_index)))
  seen_simple w form env = []

  pub seen_branches : World → Branches → Env → List Seen
  seen_branches w no_branch env = []
  seen_branches w (more_branch bs (branch f t e body)) env =
      let k = read_branches w bs env in
      let test = read w e k.env.scope None (now_of k.env) in
      seen_branches w bs env ++ (seen_ex w e k.env.scope None (now_of k.env) ++ seen_body w body (with_now (on_yes test) k.env))

  pub seen_else : World → Else → Env → List Seen
  seen_else w no_else env = []
  seen_else w (else_body body) env = seen_body w body env

  pub seen_body : World → Body → Env → List Seen
  seen_body w (block_body b) env = seen_block w b env
  seen_body w (simple_body (simple f t form)) env = seen_simple w form (reach w f (suc t) env)

  pub seen_block : World → Block → Env → List Seen
  seen_block w (block f t ss) env = seen_stmts w ss (enter_block w (changes_of_stmts ss) ss env)

-- ---- items

abbrev pub seen_export : World → ExportForm → Env → List Seen
seen_export w (export_declaration d) env = seen_declaration w d env
seen_export w (export_function f) env = seen_function w false f env.scope (now_of env)
seen_export w (export_default_function f) env = seen_function w false f env.scope (now_of env)
seen_export w (export_default e) env = seen_ex w e env.scope None (now_of env)
seen_export w form env = []

abbrev pub seen_item : World → ItemForm → Env → List Seen
seen_item w (exports form) env = seen_export w form env
seen_item w (declares_item d) env = seen_declaration w d env
seen_item w (function_item f) env = seen_function w false f env.scope (now_of env)
seen_item w (does_item (simple sf st form)) env = seen_simple w form env
seen_item w form env = []

abbrev pub seen_items : World → Program → Module → Items → Env → List Seen
seen_items w p m no_item env = []
seen_items w p m (more_item is (item f t form)) env = seen_items w p m is env ++ seen_item w form (read_items w p m is env)

-- The expressions of a module that are read, while a byte place is watched.
abbrev pub expressions_read : Program → Module → List Span → ℕ → List Seen
expressions_read p (module_of f t is) spans place =
    let w = world_of p (module_of f t is) spans (Some place) in
    seen_items w p (module_of f t is) is (top_env w p is)
