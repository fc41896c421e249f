-- How expressions and statements are read.
use Rattle.std.specs.Prelude.{ℕ, suc, ◌++◌, Bool, true, false, List, [], ◌∷◌, length, Option, Some, None, if◌then◌else◌}
use Rattle.js_grammar.specs.Code.{Ex, ex, ExForm, variable, number, text, truth_value, null_value, parens, elements, fields, function_ex, postfixed, prefixed, chain, cond, arrow, Exs, no_ex, more_ex, link, LinkForm, member, index, call, Links, no_link, more_link, operand, OperandForm, right_side, as_type, Operands, no_operand, more_operand, has_operands, field, FieldForm, shorthand, valued, Fields, no_field, more_field, arm, Arms, no_arm, more_arm, Function, function, Sig, ArrowBody, arrow_block, arrow_value, Block, block, Stmts, no_stmt, more_stmt, stmt, StmtForm, declares, function_stmt, does, branches, loop, nested, Declaration, declaration, simple, SimpleForm, return_bare, return_value, throw_value, break_loop, continue_loop, assign, evaluate, Body, block_body, simple_body, branch, Branches, no_branch, more_branch, Else, no_else, else_body}
use Rattle.type_values.specs.declared.types.FlowType.{FlowType}
use Rattle.type_values.specs.declared.types.FlowType as made
use Rattle.type_values.specs.declared.types.FlowProp.{FlowProp}
use Rattle.type_values.specs.declared.types.Param as value
use Rattle.flow_facts.specs.declared.place.Place.{Place}
use Rattle.typing.specs.Names.{Scope, meaning_of}
use Rattle.typing.specs.Changes.{changes_of_ex, changes_of_stmts, changes_of_body}
use Rattle.typing.specs.States.{World, Want, Now, Out, Env, no_of, after, on_yes, now_of, with_now, plainly, change_notes, against, noted_out, reach, dead, leave}
use Rattle.typing.specs.TypeFaults.{written, annotated, type_read, annotation_read}
use Rattle.typing.specs.Tests.{number_type, variable_in, step_place, place_in}
use Rattle.typing.specs.Members.{levels, Arg, one_function, param_at}
use Rattle.typing.specs.Functions.{bind_sig, bind_stmts, none_bound, enter_block, own_scope, sig_read, result_of, function_read, body_env, kept_facts, ended}
use Rattle.typing.specs.Objects.{Entry, entry_of, entries_of, key_bound, Candidate, candidate_for, value_want, key_asked, all_given, prop_read, object_type, array_type, Elements, elements_for, element_want, count_of}
use Rattle.typing.specs.Forms.{variable_out, prefixes_out, place_before, right_now, operator_out, first_want, cast_asked, compared, compared_out, property_out, index_out, Args, call_out, Choices, choices_out, unless_matched}
use Rattle.typing.specs.Statements.{first_of, end_of, goal_want, variable_goal, variable_named, property_goal, element_goal, assigned_env, declared_env, returned_bare, returned_value, broken, Fork, fork, forked, merged, loop_env, after_loop}

-- the elements of an array literal that were read, in order
pub record Items : Type 0 where
  pub types : List FlowType
  pub now : Now

-- the properties of an object literal that were read, in order
pub record Props : Type 0 where
  pub props : List FlowProp
  pub now : Now

-- a function that was read
pub record Made : Type 0 where
  pub ty : FlowType
  pub now : Now

-- a function as an expression
abbrev pub made_out : Made → Out
made_out m = plainly m.ty m.now

-- After a function the facts are those before it, and what could not be reached in it ends with it.
abbrev pub made_from : World → Sig → Now → Env → Made
made_from w s before body =
    record { ty = function_read w s body; now = record { facts = before.facts; notes = record body.notes { stopped = before.notes.stopped } } }

-- `true` is never falsy, `false` never truthy
abbrev pub truth_out : Bool → Now → Out
truth_out true now = record { ty = made.BoolLit true; yes = now.facts; no = Some None; notes = now.notes }
truth_out false now = record { ty = made.BoolLit false; yes = None; no = Some now.facts; notes = now.notes }

-- an argument at these tokens
abbrev pub arg_of : ℕ → ℕ → Out → Arg
arg_of f t o = record { first = f; end = t; ty = o.ty }

-- the type that the k-th argument is read against
abbrev pub arg_want : Option (List value.Param) → ℕ → Want
arg_want None k = None
arg_want (Some params) k = param_at params k

abbrev mutual
  -- an expression, plainly or against a type
  pub read : World → Ex → Scope → Want → Now → Out
  read w (ex f t form) scope want now = noted_out w f t (read_form w f t form scope want now)

  -- a form of an expression, at these tokens
  pub read_form : World → ℕ → ℕ → ExForm → Scope → Want → Now → Out
  read_form w f t (number digits) scope want now = against w f t want (plainly (number_type digits) now)
  read_form w f t (text s) scope want now = against w f t want (plainly (made.StrLit s) now)
  read_form w f t (truth_value b) scope want now = against w f t want (truth_out b now)
  read_form w f t null_value scope want now = against w f t want (plainly made.Null now)
  read_form w f t (variable name) scope want now = against w f t want (variable_out w f t name scope now)
  read_form w f t (parens e) scope want now = read w e scope want now
  read_form w f t (prefixed marks e) scope want now =
      against w f t want (prefixes_out w marks (first_of e) t (read w e scope None now))
  read_form w f t (chain level e os) scope want now =
      let first = read w e scope (first_want w os) now in
      against w f t want (compared_out w (compared scope e os) (read_operands w f os (place_in scope e) scope first))
  read_form w f t (cond arms e) scope want now =
      let choices = read_arms w arms scope want now in
      choices_out w t choices.chosen (read w e scope want choices.now)
  read_form w f t (elements es comma) scope want now =
      let matched = elements_for w (count_of es) want in
      let items = read_elements w es scope matched now in
      unless_matched w f t want matched (plainly (array_type items.types) items.now)
  read_form w f t (fields fs comma) scope want now =
      let entries = entries_of fs in
      let candidate = candidate_for w entries want in
      let read_props = read_fields w fs scope candidate entries now in
      let given = change_notes (all_given w f t entries candidate) read_props.now in
      unless_matched w f t want candidate (plainly (object_type read_props.props) given)
  read_form w f t (postfixed e ls) scope want now =
      against w f t want (read_links w f ls (variable_in scope e) scope (read w e scope None now))
  read_form w f t (function_ex made_by) scope want now = against w f t want (made_out (read_function w true made_by scope now))
  read_form w f t (arrow s body) scope want now = against w f t want (made_out (read_arrow w s body scope now))

  -- the elements of an array literal, against what matches them
  pub read_elements : World → Exs → Scope → Option Elements → Now → Items
  read_elements w no_ex scope matched now = record { types = []; now = now }
  read_elements w (more_ex es e) scope matched now =
      let items = read_elements w es scope matched now in
      let o = read w e scope (element_want matched (count_of es)) items.now in
      record { types = items.types ++ o.ty ∷ []; now = after o }

  -- the properties of an object literal, against a candidate
  pub read_fields : World → Fields → Scope → Option Candidate → List Entry → Now → Props
  read_fields w no_field scope candidate entries now = record { props = []; now = now }
  read_fields w (more_field fs (field f t form)) scope candidate entries now =
      let before = read_fields w fs scope candidate entries now in
      let entry = entry_of form f in
      let named = change_notes (λ notes. key_asked w candidate entries entry (key_bound w entries entry notes)) before.now in
      let o = read_field w f form scope (value_want candidate entries entry) named in
      record { props = before.props ++ prop_read entry.name o.ty ∷ []; now = after o }

  -- the value of a property that begins at a token; a name alone is a variable
  pub read_field : World → ℕ → FieldForm → Scope → Want → Now → Out
  read_field w f (shorthand name) scope want now =
      noted_out w f (suc f) (against w f (suc f) want (variable_out w f (suc f) name scope now))
  read_field w f (valued k e) scope want now = read w e scope want now

  -- the links behind an expression that was read, which begins at a token and may be a variable
  pub read_links : World → ℕ → Links → Option ℕ → Scope → Out → Out
  read_links w f no_link from scope base = base
  read_links w f (more_link ls (link at t form)) from scope base =
      let place = step_place from (more_link ls (link at t form)) in
      noted_out w f t (read_link w f at t form place scope (read_links w f ls from scope base))

  -- a link from the second token to the third, behind an expression that begins at the first
  pub read_link : World → ℕ → ℕ → ℕ → LinkForm → Option Place → Scope → Out → Out
  read_link w f at t (member key) place scope o = property_out w f at t key place o
  read_link w f at t (index e) place scope o = index_out w f at t o (read w e scope None (after o))
  read_link w f at t (call es comma) place scope o =
      call_out w f at t o (read_args w es scope (one_function (levels w o.ty)) (after o))

  -- the arguments of a call, against the parameters of the one function
  pub read_args : World → Exs → Scope → Option (List value.Param) → Now → Args
  read_args w no_ex scope params now = record { args = []; now = now }
  read_args w (more_ex es e) scope params now =
      let given = read_args w es scope params now in
      let o = read w e scope (arg_want params (length given.args)) given.now in
      record { args = given.args ++ arg_of (first_of e) (end_of e) o ∷ []; now = after o }

  -- the operands behind the first part of a chain, which begins at a token and may be a place
  pub read_operands : World → ℕ → Operands → Option Place → Scope → Out → Out
  read_operands w f no_operand place scope first = first
  read_operands w f (more_operand os (operand at t form)) place scope first =
      noted_out w f t (read_operand w f at t form (has_operands os) place scope (read_operands w f os place scope first))

  -- behind a chain that has operands already (true) or is its first part
  pub read_operand : World → ℕ → ℕ → ℕ → OperandForm → Bool → Option Place → Scope → Out → Out
  read_operand w f at t (right_side op e) goes_on place scope a =
      operator_out w f at t op a (read w e scope None (right_now w op (place_before goes_on place) a))
  read_operand w f at t (as_type v) goes_on place scope a =
      let now = change_notes (λ notes. cast_asked w f at goes_on (written w v) a.ty (type_read w v notes)) (after a) in
      plainly (written w v) now

  -- the branches of a conditional but the last
  pub read_arms : World → Arms → Scope → Want → Now → Choices
  read_arms w no_arm scope want now = record { chosen = []; now = now }
  read_arms w (more_arm arms (arm f t test chosen)) scope want now =
      let before = read_arms w arms scope want now in
      let o = read w test scope None before.now in
      let v = read w chosen scope want (on_yes o) in
      record {
        chosen = before.chosen ++ record { first = f; ty = v.ty; facts = (after v).facts } ∷ [];
        now = record { facts = no_of o; notes = v.notes };
      }

  -- a function expression (true) or declaration
  pub read_function : World → Bool → Function → Scope → Now → Made
  read_function w is_expression (function f t name s (block bf bt ss)) scope now =
      let outer = if is_expression then own_scope w name (suc f) s scope else scope in
      let changes = changes_of_stmts ss in
      let params = bind_sig w (suc scope.depth) changes s (none_bound (sig_read w s now.notes)) in
      let start = body_env w s outer (kept_facts is_expression now.facts) (bind_stmts w (suc scope.depth) changes ss params) in
      made_from w s now (ended w s (read_stmts w ss start))

  -- an arrow, whose body is a block or an expression that is returned
  pub read_arrow : World → Sig → ArrowBody → Scope → Now → Made
  read_arrow w s (arrow_block (block bf bt ss)) scope now =
      let changes = changes_of_stmts ss in
      let params = bind_sig w (suc scope.depth) changes s (none_bound (sig_read w s now.notes)) in
      let start = body_env w s scope (kept_facts true now.facts) (bind_stmts w (suc scope.depth) changes ss params) in
      made_from w s now (ended w s (read_stmts w ss start))
  read_arrow w s (arrow_value e) scope now =
      let params = bind_sig w (suc scope.depth) (changes_of_ex e) s (none_bound (sig_read w s now.notes)) in
      let start = body_env w s scope (kept_facts true now.facts) params in
      made_from w s now (returned_value (read w e start.scope (result_of w s) (now_of start)) start)

  -- the statements of a list, in order
  pub read_stmts : World → Stmts → Env → Env
  read_stmts w no_stmt env = env
  read_stmts w (more_stmt ss (stmt f t form)) env = read_stmt w f t form (reach w f t (read_stmts w ss env))

  -- a statement at these tokens
  pub read_stmt : World → ℕ → ℕ → StmtForm → Env → Env
  read_stmt w f t (declares d) env = read_declaration w d env
  read_stmt w f t (function_stmt declared_by) env = with_now (read_function w false declared_by env.scope (now_of env)).now env
  read_stmt w f t (does (simple sf st form)) env = read_simple w sf st form env
  read_stmt w f t (branches bs last) env =
      let k = read_branches w bs env in
      merged k.arms (read_else w last k.env)
  read_stmt w f t (loop e body) env =
      let start = loop_env (changes_of_ex e ++ changes_of_body body) env in
      let test = read w e env.scope None (now_of start) in
      after_loop env test (read_body w body (with_now (on_yes test) start))
  read_stmt w f t (nested b) env = read_block w b env

  -- a declaration: its annotation, then its value
  pub read_declaration : World → Declaration → Env → Env
  read_declaration w (declaration f t binder name annotation e) env =
      let now = change_notes (annotation_read w annotation) (now_of env) in
      declared_env w f binder (annotated w annotation) (read w e env.scope (annotated w annotation) now) env

  -- a simple statement at these tokens, without its semicolon
  pub read_simple : World → ℕ → ℕ → SimpleForm → Env → Env
  read_simple w f t return_bare env = returned_bare w f t env
  read_simple w f t (return_value e) env = returned_value (read w e env.scope env.scope.result (now_of env)) env
  read_simple w f t (throw_value e) env = dead (with_now (after (read w e env.scope None (now_of env))) env)
  read_simple w f t break_loop env = broken env
  read_simple w f t continue_loop env = dead env
  read_simple w f t (evaluate e) env = with_now (after (read w e env.scope None (now_of env))) env
  read_simple w f t (assign (ex tf tt (variable name)) e) env =
      let goal = variable_goal w tf name (meaning_of env.scope name) in
      let now = change_notes (variable_named w tf name (meaning_of env.scope name)) (now_of env) in
      assigned_env w e goal (read w e env.scope (goal_want goal) now) env
  read_simple w f t (assign (ex tf tt (postfixed base (more_link ls (link at end (member key))))) e) env =
      let from = variable_in env.scope base in
      let o = read_links w tf ls from env.scope (read w base env.scope None (now_of env)) in
      let goal = property_goal w tf at end key (step_place from (more_link ls (link at end (member key)))) o in
      assigned_env w e goal (read w e env.scope (goal_want goal) (after o)) env
  read_simple w f t (assign (ex tf tt (postfixed base (more_link ls (link at end (index i))))) e) env =
      let from = variable_in env.scope base in
      let o = read_links w tf ls from env.scope (read w base env.scope None (now_of env)) in
      let at_index = read w i env.scope None (after o) in
      let goal = element_goal w tf at i o at_index in
      assigned_env w e goal (read w e env.scope (goal_want goal) (after at_index)) env
  read_simple w f t (assign target e) env = env

  -- the arms of an `if` behind their tests
  pub read_branches : World → Branches → Env → Fork
  read_branches w no_branch env = fork env
  read_branches w (more_branch bs (branch f t e body)) env =
      let k = read_branches w bs env in
      let test = read w e k.env.scope None (now_of k.env) in
      forked k test (read_body w body (with_now (on_yes test) k.env))

  -- the last arm, if there is one
  pub read_else : World → Else → Env → Env
  read_else w no_else env = env
  read_else w (else_body body) env = read_body w body env

  -- a simple statement is a list of its own, and ends behind its semicolon
  pub read_body : World → Body → Env → Env
  read_body w (block_body b) env = read_block w b env
  read_body w (simple_body (simple f t form)) env = leave env (read_simple w f t form (reach w f (suc t) env))

  -- a block, which is a scope of its own
  pub read_block : World → Block → Env → Env
  read_block w (block f t ss) env = leave env (read_stmts w ss (enter_block w (changes_of_stmts ss) ss env))
