-- What a part changes is changed by the piece, where the piece doesn't bind its name.
use Rattle.std.proofs.Common.{◌≡◌, ◌⊎◌, true, false, List, [], ◌∷◌, ◌++◌, Some, Contains, inl, inr, sym, ap, ◌∙◌, subst}
use Rattle.std.specs.List.{filter_map}
use Rattle.std.proofs.lemmas.List.Elements.{Contains-append_left, Contains-append_right, Contains-append_cases}
use Rattle.js_grammar.specs.Code.{Ex, ex, ExForm, variable, number, text, truth_value, null_value, parens, elements, fields, function_ex, postfixed, prefixed, chain, cond, arrow, Exs, no_ex, more_ex, link, member, index, call, Links, no_link, more_link, operand, right_side, as_type, Operands, no_operand, more_operand, field, shorthand, valued, Fields, no_field, more_field, arm, Arms, no_arm, more_arm, function, arrow_block, arrow_value, block, no_stmt, more_stmt, stmt, StmtForm, declares, function_stmt, does, branches, loop, nested, Declaration, declaration, simple, SimpleForm, return_bare, return_value, throw_value, break_loop, continue_loop, assign, evaluate, Body, block_body, simple_body, branch, Branches, no_branch, more_branch, Else, no_else, else_body}
use Rattle.js_grammar.specs.Items.{ExportForm, export_declaration, export_function, export_alias, export_names, export_from, export_default_function, export_default, ItemForm, imports, exports, declares_item, function_item, alias_item, does_item, item, no_item, more_item}
use Rattle.check_values.specs.Rows.{Bytes}
use Rattle.subtyping.proofs.Whole.{first_or, nothing, here}
use Rattle.typing.specs.Changes.{Change, sets_variable, sets_property, may_set_all, is_outside, from_inside, outside, declared_in, names_of_sig, name_of_function, change_of_target, changes_of_ex, changes_of_exs, changes_of_links, changes_of_operands, changes_of_fields, changes_of_arms, changes_of_function, changes_of_stmts, changes_of_stmt_form, changes_of_declaration, changes_of_simple_form, changes_of_body, changes_of_branches, changes_of_else, changes_of_ex_form}
use Rattle.module_errors.specs.TopNames.{changes_of_items, changes_of_item, changes_of_export}
use Rattle.binding_law.specs.Pieces.{Piece, an_expression, a_function, a_block, a_list, a_statement, a_simple, the_items, in_exs, in_links, in_operands, in_fields, in_arms, in_ex, in_body, in_branches, in_else, in_declaration, in_statement, in_simple, in_export, in_item, parts, bound_by, changes_of}
use Rattle.binding_law.specs.Ways.{Way, arrived, into, has_call, IsElementAssignment, IsCall}
use Rattle.binding_law.proofs.Changing.{never, filter_in, mapped_in, outside_alike, outside_parts}
use Rattle.binding_law.proofs.Making.{Makes, a_variable, a_property, all_properties, Leaves, ComesOut, IsMade, the_one}

module _ (c : Change) where
  abbrev Gives : Piece → Type 0
  Gives p = Contains (changes_of p) c

  -- what some pieces change is among these changes
  abbrev Covers : List Piece → List Change → Type 0
  Covers ps changes = (q : Piece) → Contains ps q → Gives q → Contains changes c

  none : (changes : List Change) → Covers [] changes
  none changes q has gives = nothing q has

  one : (p : Piece) → Covers (p ∷ []) (changes_of p)
  one p q has gives = elim (first_or p [] q has) [ inl same ↦ subst Gives (sym same) gives | inr rest ↦ nothing q rest ]

  more : (ps : List Piece) (xs ys : List Change) → Covers ps xs → Covers ps (xs ++ ys)
  more ps xs ys covers q has gives = Contains-append_left xs ys c (covers q has gives)

  both : (ps qs : List Piece) (xs ys : List Change) → Covers ps xs → Covers qs ys → Covers (ps ++ qs) (xs ++ ys)
  both ps qs xs ys first second q has gives = elim (Contains-append_cases ps qs q has) [
    | inl before ↦ Contains-append_left xs ys c (first q before gives)
    | inr behind ↦ Contains-append_right xs ys c (second q behind gives)
  ]

  exs : (es : Exs) → Covers (in_exs es) (changes_of_exs es)
  exs no_ex = none []
  exs (more_ex es e) = both (in_exs es) (an_expression e ∷ []) (changes_of_exs es) (changes_of_ex e) (exs es) (one (an_expression e))

  links : (ls : Links) → Covers (in_links ls) (changes_of_links ls)
  links no_link = none []
  links (more_link ls (link f t (member key))) = more (in_links ls) (changes_of_links ls) [] (links ls)
  links (more_link ls (link f t (index e))) = both (in_links ls) (an_expression e ∷ []) (changes_of_links ls) (changes_of_ex e) (links ls) (one (an_expression e))
  links (more_link ls (link f t (call es comma))) =
      both (in_links ls) (in_exs es) (changes_of_links ls) (changes_of_exs es ++ may_set_all ∷ []) (links ls) (more (in_exs es) (changes_of_exs es) (may_set_all ∷ []) (exs es))

  operands : (os : Operands) → Covers (in_operands os) (changes_of_operands os)
  operands no_operand = none []
  operands (more_operand os (operand f t (right_side o e))) =
      both (in_operands os) (an_expression e ∷ []) (changes_of_operands os) (changes_of_ex e) (operands os) (one (an_expression e))
  operands (more_operand os (operand f t (as_type v))) = more (in_operands os) (changes_of_operands os) [] (operands os)

  values : (fs : Fields) → Covers (in_fields fs) (changes_of_fields fs)
  values no_field = none []
  values (more_field fs (field f t (shorthand key))) = more (in_fields fs) (changes_of_fields fs) [] (values fs)
  values (more_field fs (field f t (valued k e))) = both (in_fields fs) (an_expression e ∷ []) (changes_of_fields fs) (changes_of_ex e) (values fs) (one (an_expression e))

  arms : (hs : Arms) → Covers (in_arms hs) (changes_of_arms hs)
  arms no_arm = none []
  arms (more_arm hs (arm f t test value)) =
      both (in_arms hs) (an_expression test ∷ an_expression value ∷ []) (changes_of_arms hs) (changes_of_ex test ++ changes_of_ex value) (arms hs)
      (both (an_expression test ∷ []) (an_expression value ∷ []) (changes_of_ex test) (changes_of_ex value) (one (an_expression test)) (one (an_expression value)))

  body : (b : Body) → Covers (in_body b) (changes_of_body b)
  body (block_body b) = one (a_block b)
  body (simple_body s) = one (a_simple s)

  tests : (bs : Branches) → Covers (in_branches bs) (changes_of_branches bs)
  tests no_branch = none []
  tests (more_branch bs (branch f t e b)) =
      both (in_branches bs) (an_expression e ∷ in_body b) (changes_of_branches bs) (changes_of_ex e ++ changes_of_body b) (tests bs)
      (both (an_expression e ∷ []) (in_body b) (changes_of_ex e) (changes_of_body b) (one (an_expression e)) (body b))

  last : (l : Else) → Covers (in_else l) (changes_of_else l)
  last no_else = none []
  last (else_body b) = body b

  declared : (d : Declaration) → Covers (in_declaration d) (changes_of_declaration d)
  declared (declaration f t binder bound annotation e) = one (an_expression e)

  statement : (form : StmtForm) → Covers (in_statement form) (changes_of_stmt_form form)
  statement (declares d) = declared d
  statement (function_stmt f) = one (a_function f)
  statement (does s) = one (a_simple s)
  statement (branches bs l) = both (in_branches bs) (in_else l) (changes_of_branches bs) (changes_of_else l) (tests bs) (last l)
  statement (loop e b) = both (an_expression e ∷ []) (in_body b) (changes_of_ex e) (changes_of_body b) (one (an_expression e)) (body b)
  statement (nested b) = one (a_block b)

  plain : (form : SimpleForm) → Covers (in_simple form) (changes_of_simple_form form)
  plain return_bare = none []
  plain (return_value e) = one (an_expression e)
  plain (throw_value e) = one (an_expression e)
  plain break_loop = none []
  plain continue_loop = none []
  plain (assign target e) =
      both (an_expression target ∷ []) (an_expression e ∷ []) (changes_of_ex target) (changes_of_ex e ++ change_of_target target) (one (an_expression target))
      (more (an_expression e ∷ []) (changes_of_ex e) (change_of_target target) (one (an_expression e)))
  plain (evaluate e) = one (an_expression e)

  exported : (form : ExportForm) → Covers (in_export form) (changes_of_export form)
  exported (export_declaration d) = declared d
  exported (export_function f) = one (a_function f)
  exported (export_alias a) = none []
  exported (export_names is_type ns) = none []
  exported (export_from is_type ns spec) = none []
  exported (export_default_function f) = one (a_function f)
  exported (export_default e) = one (an_expression e)

  among_items : (form : ItemForm) → Covers (in_item form) (changes_of_item form)
  among_items (imports form spec) = none []
  among_items (exports form) = exported form
  among_items (declares_item d) = declared d
  among_items (function_item f) = one (a_function f)
  among_items (alias_item a) = none []
  among_items (does_item s) = one (a_simple s)

  -- ---- out of the piece, where it doesn't bind the name

  plainly : (changes : List Change) (d : Change) → Contains changes c → Some c ≡ Some d → Contains changes d
  plainly changes d has is = subst (Contains changes) (ap the_one is) has

  crossing : (own : List Bytes) (changes : List Change) (d : Change) → is_outside own c ≡ true → from_inside c ≡ Some d → Contains changes c → Contains (outside own (filter_map from_inside changes)) d
  crossing own changes d free leaves has = filter_in (is_outside own) (filter_map from_inside changes) d (outside_alike own c d leaves ∙ free) (mapped_in from_inside changes c d leaves has)

  expression : (f t : _) (form : ExForm) (q : Piece) (d : Change) → Contains (in_ex form) q → is_outside (bound_by (an_expression (ex f t form))) c ≡ true → Leaves (an_expression (ex f t form)) c d → Gives q → Contains (changes_of_ex_form form) d
  expression f t (variable own) q d has free leaves gives = nothing q has
  expression f t (number digits) q d has free leaves gives = nothing q has
  expression f t (text s) q d has free leaves gives = nothing q has
  expression f t (truth_value b) q d has free leaves gives = nothing q has
  expression f t null_value q d has free leaves gives = nothing q has
  expression f t (parens e) q d has free leaves gives = plainly (changes_of_ex e) d (one (an_expression e) q has gives) leaves
  expression f t (elements es comma) q d has free leaves gives = plainly (changes_of_exs es) d (exs es q has gives) leaves
  expression f t (fields fs comma) q d has free leaves gives = plainly (changes_of_fields fs) d (values fs q has gives) leaves
  expression f t (function_ex made_by) q d has free leaves gives =
      plainly (outside (name_of_function made_by) (changes_of_function made_by)) d (filter_in (is_outside (name_of_function made_by)) (changes_of_function made_by) c free (one (a_function made_by) q has gives)) leaves
  expression f t (postfixed e ls) q d has free leaves gives =
      plainly (changes_of_ex e ++ changes_of_links ls) d (both (an_expression e ∷ []) (in_links ls) (changes_of_ex e) (changes_of_links ls) (one (an_expression e)) (links ls) q has gives) leaves
  expression f t (prefixed ps e) q d has free leaves gives = plainly (changes_of_ex e) d (one (an_expression e) q has gives) leaves
  expression f t (chain level e os) q d has free leaves gives =
      plainly (changes_of_ex e ++ changes_of_operands os) d (both (an_expression e ∷ []) (in_operands os) (changes_of_ex e) (changes_of_operands os) (one (an_expression e)) (operands os) q has gives) leaves
  expression f t (cond hs e) q d has free leaves gives =
      plainly (changes_of_arms hs ++ changes_of_ex e) d (both (in_arms hs) (an_expression e ∷ []) (changes_of_arms hs) (changes_of_ex e) (arms hs) (one (an_expression e)) q has gives) leaves
  expression f t (arrow s (arrow_block (block bf bt ss))) q d has free leaves gives =
      let parted = outside_parts (names_of_sig s) (declared_in ss) c free in
      crossing (names_of_sig s) (outside (declared_in ss) (changes_of_stmts ss)) d parted.0 leaves (filter_in (is_outside (declared_in ss)) (changes_of_stmts ss) c parted.1 (one (a_list ss) q has gives))
  expression f t (arrow s (arrow_value e)) q d has free leaves gives = crossing (names_of_sig s) (changes_of_ex e) d free leaves (one (an_expression e) q has gives)

  inwards : (p q : Piece) (d : Change) → Contains (parts p) q → is_outside (bound_by p) c ≡ true → Leaves p c d → Gives q → Contains (changes_of p) d
  inwards (an_expression (ex f t form)) q d has free leaves gives = expression f t form q d has free leaves gives
  inwards (a_function (function f t own s (block bf bt ss))) q d has free leaves gives = crossing (names_of_sig s ++ declared_in ss) (changes_of_stmts ss) d free leaves (one (a_list ss) q has gives)
  inwards (a_block (block f t ss)) q d has free leaves gives =
      plainly (outside (declared_in ss) (changes_of_stmts ss)) d (filter_in (is_outside (declared_in ss)) (changes_of_stmts ss) c free (one (a_list ss) q has gives)) leaves
  inwards (a_list no_stmt) q d has free leaves gives = nothing q has
  inwards (a_list (more_stmt ss s)) q d has free leaves gives =
      plainly (changes_of_stmts ss ++ changes_of (a_statement s)) d (both (a_list ss ∷ []) (a_statement s ∷ []) (changes_of_stmts ss) (changes_of (a_statement s)) (one (a_list ss)) (one (a_statement s)) q has gives) leaves
  inwards (a_statement (stmt f t form)) q d has free leaves gives = plainly (changes_of_stmt_form form) d (statement form q has gives) leaves
  inwards (a_simple (simple f t form)) q d has free leaves gives = plainly (changes_of_simple_form form) d (plain form q has gives) leaves
  inwards (the_items no_item) q d has free leaves gives = nothing q has
  inwards (the_items (more_item is (item f t form))) q d has free leaves gives =
      plainly (changes_of_items is ++ changes_of_item form) d (both (the_items is ∷ []) (in_item form) (changes_of_items is) (changes_of_item form) (one (the_items is)) (among_items form) q has gives) leaves

-- ---- what a piece makes itself

calls_all : (ls : Links) → has_call ls ≡ true → Contains (changes_of_links ls) may_set_all
calls_all no_link is = never is
calls_all (more_link ls (link f t (member key))) is = Contains-append_left (changes_of_links ls) [] may_set_all (calls_all ls is)
calls_all (more_link ls (link f t (index e))) is = Contains-append_left (changes_of_links ls) (changes_of_ex e) may_set_all (calls_all ls is)
calls_all (more_link ls (link f t (call es comma))) is =
    Contains-append_right (changes_of_links ls) (changes_of_exs es ++ may_set_all ∷ []) may_set_all (Contains-append_right (changes_of_exs es) (may_set_all ∷ []) may_set_all (here may_set_all []))

target_last : (f t : _) (target e : Ex) (c : Change) → Contains (change_of_target target) c → Contains (changes_of (a_simple (simple f t (assign target e)))) c
target_last f t target e c has = Contains-append_right (changes_of_ex target) (changes_of_ex e ++ change_of_target target) c (Contains-append_right (changes_of_ex e) (change_of_target target) c has)

others_all : (p : Piece) → IsElementAssignment p ⊎ IsCall p → Contains (changes_of p) may_set_all
others_all p (inl (f, t, from, to, at, end, o, ls, i, e, is)) =
    subst (λ (q : Piece). Contains (changes_of q) may_set_all) (sym is) (target_last f t (ex from to (postfixed o (more_link ls (link at end (index i))))) e may_set_all (here may_set_all []))
others_all p (inr (f, t, e, ls, calls, is)) = subst (λ (q : Piece). Contains (changes_of q) may_set_all) (sym is) (Contains-append_right (changes_of_ex e) (changes_of_links ls) may_set_all (calls_all ls calls))

makes_change : (p : Piece) (c : Change) → Makes c p → Contains (changes_of p) c
makes_change p c (a_variable name same (f, t, from, to, e, is)) =
    subst (Contains (changes_of p)) (sym same)
    (subst (λ (q : Piece). Contains (changes_of q) (sets_variable false name)) (sym is) (target_last f t (ex from to (variable name)) e (sets_variable false name) (here (sets_variable false name) [])))
makes_change p c (a_property name same (f, t, from, to, at, end, o, ls, e, is)) =
    subst (Contains (changes_of p)) (sym same)
    (subst (λ (q : Piece). Contains (changes_of q) (sets_property name)) (sym is)
    (target_last f t (ex from to (postfixed o (more_link ls (link at end (member name))))) e (sets_property name) (here (sets_property name) [])))
makes_change p c (all_properties same others) = subst (Contains (changes_of p)) (sym same) (others_all p others)

along : {p end : Piece} (way : Way p end) (made c : Change) → Makes made end → ComesOut way made c → Contains (changes_of p) c
along (arrived p) made c makes comes = subst (Contains (changes_of p)) comes (makes_change p made makes)
along (into p q end part way) made c makes (between, rest, free, leaves) = inwards between p q c part free leaves (along way made between makes rest)

pub made_changes : (c : Change) (p : Piece) → IsMade c p → Contains (changes_of p) c
made_changes c p a = along a.way a.made c a.makes a.comes
