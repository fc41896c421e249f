-- Where a piece changes a name, one of its parts does that, or it assigns the name itself.
use Rattle.std.proofs.Common.{◌≡◌, ◌⊎◌, ℕ, Bool, true, false, List, [], ◌∷◌, ◌++◌, Some, if◌then◌else◌, Contains, inl, inr, refl, sym, ap, ◌∙◌, subst}
use Rattle.std.specs.List.{filter_map}
use Rattle.std.proofs.lemmas.List.Elements.{Contains-append_left, Contains-append_right, Contains-append_cases}
use Rattle.js_grammar.specs.Code.{Ex, ex, ExForm, variable, number, text, truth_value, null_value, parens, elements, fields, function_ex, postfixed, prefixed, chain, cond, arrow, Exs, no_ex, more_ex, link, member, index, call, Links, no_link, more_link, operand, right_side, as_type, Operands, no_operand, more_operand, field, shorthand, valued, Fields, no_field, more_field, arm, Arms, no_arm, more_arm, Function, function, arrow_block, arrow_value, Block, block, Stmts, no_stmt, more_stmt, Stmt, stmt, StmtForm, declares, function_stmt, does, branches, loop, nested, Declaration, declaration, Simple, simple, return_bare, return_value, throw_value, break_loop, continue_loop, assign, evaluate, Body, block_body, simple_body, branch, Branches, no_branch, more_branch, Else, no_else, else_body}
use Rattle.js_grammar.specs.Items.{ExportForm, export_declaration, export_function, export_alias, export_names, export_from, export_default_function, export_default, ItemForm, imports, exports, declares_item, function_item, alias_item, does_item, item, Items, no_item, more_item}
use Rattle.check_values.specs.Rows.{Bytes}
use Rattle.subtyping.proofs.Whole.{first_or, nothing, here, there}
use Rattle.typing.specs.Changes.{Change, sets_variable, sets_property, may_set_all, from_inside, outside, declared_in, names_of_sig, change_of_target, change_of_links, changes_of_ex, changes_of_exs, changes_of_links, changes_of_operands, changes_of_fields, changes_of_arms, changes_of_stmts, changes_of_stmt, changes_of_stmt_form, changes_of_declaration, changes_of_body, changes_of_branches, changes_of_else, is_outside}
use Rattle.module_errors.specs.TopNames.{changes_of_items, changes_of_item, changes_of_export}
use Rattle.binding_law.specs.Pieces.{Piece, an_expression, a_function, a_block, a_list, a_statement, a_simple, the_items, in_exs, in_links, in_operands, in_fields, in_arms, in_body, in_branches, in_else, in_declaration, in_statement, in_export, in_item, parts, bound_by, is_function, changes_of}
use Rattle.binding_law.specs.Ways.{has_call, ChangesAreAssignments}
use Rattle.binding_law.proofs.Changing.{never, mapped_out, filter_out, outside_alike, outside_both}
use Rattle.binding_law.proofs.Making.{Makes, a_variable, a_property, all_properties, Leaves, IsMade, through, itself, made_assigned, assigned_made, made_property, property_is_made, made_all, all_is_made}
use Rattle.binding_law.proofs.Inwards.{made_changes}

abbrev is_none_bound : List Bytes → Bool
is_none_bound [] = true
is_none_bound (name ∷ names) = false

-- no names hold a change back
all_outside : (own : List Bytes) (c : Change) → is_none_bound own ≡ true → is_outside own c ≡ true
all_outside [] (sets_variable inner name) none = refl
all_outside [] (sets_property name) none = refl
all_outside [] may_set_all none = refl
all_outside (name ∷ names) c none = never none

-- out of what is no function a change comes as it is
stays : (p : Piece) (c : Change) → is_function p ≡ false → Leaves p c c
stays p c plain = ap (λ (b : Bool). if b then from_inside c else Some c) plain

-- where these changes have one, it is made in one of the pieces
abbrev Comes : List Piece → List Change → Type 0
Comes ps changes = (c : Change) → Contains changes c → (q : Piece) × Contains ps q × IsMade c q

-- and so for a piece
abbrev Holds : Piece → Type 0
Holds p = (c : Change) → Contains (changes_of p) c → IsMade c p

none : (ps : List Piece) → Comes ps []
none ps c has = nothing c has

one : (p : Piece) → Holds p → Comes (p ∷ []) (changes_of p)
one p holds c has = (p, here p [], holds c has)

both : (ps qs : List Piece) (xs ys : List Change) → Comes ps xs → Comes qs ys → Comes (ps ++ qs) (xs ++ ys)
both ps qs xs ys first second c has = elim (Contains-append_cases xs ys c has) [
  | inl before ↦ (let found = first c before in (found.0, Contains-append_left ps qs found.0 found.1, found.2))
  | inr behind ↦ (let found = second c behind in (found.0, Contains-append_right ps qs found.0 found.1, found.2))
]

-- with nothing behind
more : (ps : List Piece) (xs : List Change) → Comes ps xs → Comes ps (xs ++ [])
more ps xs first c has = elim (Contains-append_cases xs [] c has) [ inl before ↦ first c before | inr behind ↦ nothing c behind ]

-- a piece that is no function and binds nothing
opened : (p : Piece) → is_function p ≡ false → is_none_bound (bound_by p) ≡ true → Comes (parts p) (changes_of p) → Holds p
opened p plain unbound comes c has = (let found = comes c has in through p found.0 c c found.1 (all_outside (bound_by p) c unbound) (stays p c plain) found.2)

-- a piece that is no function, and binds names for its one part
scoped : (p q : Piece) → is_function p ≡ false → parts p ≡ q ∷ [] → changes_of p ≡ outside (bound_by p) (changes_of q) → Holds q → Holds p
scoped p q plain only is holds c has =
    let parted = filter_out (bound_by p) (changes_of q) c (subst (λ (l : List Change). Contains l c) is has) in
    through p q c c (subst (λ (l : List Piece). Contains l q) (sym only) (here q [])) parted.1 (stays p c plain) (holds c parted.0)

-- what is in a function and comes out
crossed : (p q : Piece) → is_function p ≡ true → parts p ≡ q ∷ [] → (c d : Change) → from_inside c ≡ Some d → is_outside (bound_by p) c ≡ true → IsMade c q → IsMade d p
crossed p q inside only c d leaves free made =
    through p q c d (subst (λ (l : List Piece). Contains l q) (sym only) (here q [])) free (ap (λ (b : Bool). if b then from_inside c else Some c) inside ∙ leaves) made

function_like : (p q : Piece) → is_function p ≡ true → parts p ≡ q ∷ [] → changes_of p ≡ outside (bound_by p) (filter_map from_inside (changes_of q)) → Holds q → Holds p
function_like p q inside only is holds d has =
    let parted = filter_out (bound_by p) (filter_map from_inside (changes_of q)) d (subst (λ (l : List Change). Contains l d) is has) in
    let before = mapped_out from_inside (changes_of q) d parted.0 in
    crossed p q inside only before.0 d before.2 (sym (outside_alike (bound_by p) before.0 d before.2) ∙ parted.1) (holds before.0 before.1)

-- an arrow with a block, whose names go out in two steps
arrow_like : (p q : Piece) (params own : List Bytes) → is_function p ≡ true → parts p ≡ q ∷ [] → bound_by p ≡ params ++ own → changes_of p ≡ outside params (filter_map from_inside (outside own (changes_of q))) → Holds q → Holds p
arrow_like p q params own inside only names is holds d has =
    let first = filter_out params (filter_map from_inside (outside own (changes_of q))) d (subst (λ (l : List Change). Contains l d) is has) in
    let before = mapped_out from_inside (outside own (changes_of q)) d first.0 in
    let second = filter_out own (changes_of q) before.0 before.1 in
    let free = outside_both params own before.0 (sym (outside_alike params before.0 d before.2) ∙ first.1) second.1 in
    crossed p q inside only before.0 d before.2 (ap (λ (l : List Bytes). is_outside l before.0) names ∙ free) (holds before.0 second.0)

-- ---- links

-- what links change is made in one of them, or is that they call
abbrev LinksHold : Links → Type 0
LinksHold ls = (c : Change) → Contains (changes_of_links ls) c → ((q : Piece) × Contains (in_links ls) q × IsMade c q) ⊎ ((has_call ls ≡ true) × (c ≡ may_set_all))

member_holds : (ls : Links) (f t : ℕ) (key : Bytes) → LinksHold ls → LinksHold (more_link ls (link f t (member key)))
member_holds ls f t key holds c has = elim (Contains-append_cases (changes_of_links ls) [] c has) [ inl before ↦ holds c before | inr behind ↦ nothing c behind ]

before_it : (ls : Links) (more_pieces : List Piece) (c : Change) → ((q : Piece) × Contains (in_links ls) q × IsMade c q) ⊎ ((has_call ls ≡ true) × (c ≡ may_set_all)) →
    ((q : Piece) × Contains (in_links ls ++ more_pieces) q × IsMade c q) ⊎ ((has_call ls ≡ true) × (c ≡ may_set_all))
before_it ls more_pieces c (inl (q, has, made)) = inl (q, Contains-append_left (in_links ls) more_pieces q has, made)
before_it ls more_pieces c (inr calls) = inr calls

index_holds : (ls : Links) (f t : ℕ) (e : Ex) → LinksHold ls → Holds (an_expression e) → LinksHold (more_link ls (link f t (index e)))
index_holds ls f t e holds e_holds c has = elim (Contains-append_cases (changes_of_links ls) (changes_of_ex e) c has) [
  | inl before ↦ before_it ls (an_expression e ∷ []) c (holds c before)
  | inr behind ↦ inl (an_expression e, Contains-append_right (in_links ls) (an_expression e ∷ []) (an_expression e) (here (an_expression e) []), e_holds c behind)
]

called : (ls : Links) (more_pieces : List Piece) (c : Change) → ((q : Piece) × Contains (in_links ls) q × IsMade c q) ⊎ ((has_call ls ≡ true) × (c ≡ may_set_all)) →
    ((q : Piece) × Contains (in_links ls ++ more_pieces) q × IsMade c q) ⊎ ((true ≡ true) × (c ≡ may_set_all))
called ls more_pieces c (inl (q, has, made)) = inl (q, Contains-append_left (in_links ls) more_pieces q has, made)
called ls more_pieces c (inr (calls, is)) = inr (refl, is)

call_holds : (ls : Links) (f t : ℕ) (es : Exs) (comma : Bool) → LinksHold ls → Comes (in_exs es) (changes_of_exs es) → LinksHold (more_link ls (link f t (call es comma)))
call_holds ls f t es comma holds comes c has = elim (Contains-append_cases (changes_of_links ls) (changes_of_exs es ++ may_set_all ∷ []) c has) [
  | inl before ↦ called ls (in_exs es) c (holds c before)
  | inr behind ↦ elim (Contains-append_cases (changes_of_exs es) (may_set_all ∷ []) c behind) [
    | inl given ↦ (let found = comes c given in inl (found.0, Contains-append_right (in_links ls) (in_exs es) found.0 found.1, found.2))
    | inr last ↦ elim (first_or may_set_all [] c last) [ inl same ↦ inr (refl, sym same) | inr rest ↦ nothing c rest ]
  ]
]

-- an expression with links behind it
postfixed_holds : (f t : ℕ) (e : Ex) (ls : Links) → Holds (an_expression e) → LinksHold ls → Holds (an_expression (ex f t (postfixed e ls)))
postfixed_holds f t e ls holds links_hold c has = elim (Contains-append_cases (changes_of_ex e) (changes_of_links ls) c has) [
  | inl first ↦ through p (an_expression e) c c (here (an_expression e) (in_links ls)) (all_outside [] c refl) refl (holds c first)
  | inr second ↦ last (links_hold c second)
]
  where
    p : Piece
    p = an_expression (ex f t (postfixed e ls))

    last : ((q : Piece) × Contains (in_links ls) q × IsMade c q) ⊎ ((has_call ls ≡ true) × (c ≡ may_set_all)) → IsMade c (an_expression (ex f t (postfixed e ls)))
    last (inl (q, part, made)) = through (an_expression (ex f t (postfixed e ls))) q c c (there (an_expression e) q (in_links ls) part) (all_outside [] c refl) refl made
    last (inr (calls, is)) = itself (an_expression (ex f t (postfixed e ls))) c (all_properties is (inr (f, t, e, ls, calls, refl)))

-- ---- assignments

last_makes : (f t from to : ℕ) (o : Ex) (ls : Links) (e : Ex) (c : Change) → Contains (change_of_links ls) c → Makes c (a_simple (simple f t (assign (ex from to (postfixed o ls)) e)))
last_makes f t from to o no_link e c has = nothing c has
last_makes f t from to o (more_link ls (link at end (member key))) e c has =
    elim (first_or (sets_property key) [] c has) [ inl same ↦ a_property key (sym same) (f, t, from, to, at, end, o, ls, e, refl) | inr rest ↦ nothing c rest ]
last_makes f t from to o (more_link ls (link at end (index i))) e c has =
    elim (first_or may_set_all [] c has) [ inl same ↦ all_properties (sym same) (inl (f, t, from, to, at, end, o, ls, i, e, refl)) | inr rest ↦ nothing c rest ]
last_makes f t from to o (more_link ls (link at end (call es comma))) e c has = nothing c has

target_makes : (f t : ℕ) (target e : Ex) (c : Change) → Contains (change_of_target target) c → Makes c (a_simple (simple f t (assign target e)))
target_makes f t (ex from to (variable own)) e c has =
    elim (first_or (sets_variable false own) [] c has) [ inl same ↦ a_variable own (sym same) (f, t, from, to, e, refl) | inr rest ↦ nothing c rest ]
target_makes f t (ex from to (postfixed o ls)) e c has = last_makes f t from to o ls e c has
target_makes f t target e c has = nothing c has

assign_holds : (f t : ℕ) (target e : Ex) → Holds (an_expression target) → Holds (an_expression e) → Holds (a_simple (simple f t (assign target e)))
assign_holds f t target e target_holds holds c has =
    let p : Piece = a_simple (simple f t (assign target e)) in
    elim (Contains-append_cases (changes_of_ex target) (changes_of_ex e ++ change_of_target target) c has) [
      | inl first ↦ through p (an_expression target) c c (here (an_expression target) (an_expression e ∷ [])) (all_outside [] c refl) refl (target_holds c first)
      | inr behind ↦ elim (Contains-append_cases (changes_of_ex e) (change_of_target target) c behind) [
        | inl second ↦ through p (an_expression e) c c (there (an_expression target) (an_expression e) (an_expression e ∷ []) (here (an_expression e) [])) (all_outside [] c refl) refl (holds c second)
        | inr last ↦ itself p c (target_makes f t target e c last)
      ]
    ]

-- ---- each piece

mutual
  ex_holds : (e : Ex) → Holds (an_expression e)
  ex_holds (ex f t form) = form_holds f t form

  form_holds : (f t : ℕ) (form : ExForm) → Holds (an_expression (ex f t form))
  form_holds f t (variable own) = opened (an_expression (ex f t (variable own))) refl refl (none [])
  form_holds f t (number digits) = opened (an_expression (ex f t (number digits))) refl refl (none [])
  form_holds f t (text s) = opened (an_expression (ex f t (text s))) refl refl (none [])
  form_holds f t (truth_value b) = opened (an_expression (ex f t (truth_value b))) refl refl (none [])
  form_holds f t null_value = opened (an_expression (ex f t null_value)) refl refl (none [])
  form_holds f t (parens e) = opened (an_expression (ex f t (parens e))) refl refl (one (an_expression e) (ex_holds e))
  form_holds f t (elements es comma) = opened (an_expression (ex f t (elements es comma))) refl refl (exs_come es)
  form_holds f t (fields fs comma) = opened (an_expression (ex f t (fields fs comma))) refl refl (fields_come fs)
  form_holds f t (function_ex made_by) = scoped (an_expression (ex f t (function_ex made_by))) (a_function made_by) refl refl refl (function_holds made_by)
  form_holds f t (postfixed e ls) = postfixed_holds f t e ls (ex_holds e) (links_hold ls)
  form_holds f t (prefixed ps e) = opened (an_expression (ex f t (prefixed ps e))) refl refl (one (an_expression e) (ex_holds e))
  form_holds f t (chain level e os) =
      opened (an_expression (ex f t (chain level e os))) refl refl (both (an_expression e ∷ []) (in_operands os) (changes_of_ex e) (changes_of_operands os) (one (an_expression e) (ex_holds e)) (operands_come os))
  form_holds f t (cond hs e) =
      opened (an_expression (ex f t (cond hs e))) refl refl (both (in_arms hs) (an_expression e ∷ []) (changes_of_arms hs) (changes_of_ex e) (arms_come hs) (one (an_expression e) (ex_holds e)))
  form_holds f t (arrow s (arrow_block (block bf bt ss))) =
      arrow_like (an_expression (ex f t (arrow s (arrow_block (block bf bt ss))))) (a_list ss) (names_of_sig s) (declared_in ss) refl refl refl refl (stmts_holds ss)
  form_holds f t (arrow s (arrow_value e)) = function_like (an_expression (ex f t (arrow s (arrow_value e)))) (an_expression e) refl refl refl (ex_holds e)

  exs_come : (es : Exs) → Comes (in_exs es) (changes_of_exs es)
  exs_come no_ex = none []
  exs_come (more_ex es e) = both (in_exs es) (an_expression e ∷ []) (changes_of_exs es) (changes_of_ex e) (exs_come es) (one (an_expression e) (ex_holds e))

  links_hold : (ls : Links) → LinksHold ls
  links_hold no_link = λ c has. nothing c has
  links_hold (more_link ls (link f t (member key))) = member_holds ls f t key (links_hold ls)
  links_hold (more_link ls (link f t (index e))) = index_holds ls f t e (links_hold ls) (ex_holds e)
  links_hold (more_link ls (link f t (call es comma))) = call_holds ls f t es comma (links_hold ls) (exs_come es)

  operands_come : (os : Operands) → Comes (in_operands os) (changes_of_operands os)
  operands_come no_operand = none []
  operands_come (more_operand os (operand f t (right_side o e))) =
      both (in_operands os) (an_expression e ∷ []) (changes_of_operands os) (changes_of_ex e) (operands_come os) (one (an_expression e) (ex_holds e))
  operands_come (more_operand os (operand f t (as_type v))) = more (in_operands os) (changes_of_operands os) (operands_come os)

  fields_come : (fs : Fields) → Comes (in_fields fs) (changes_of_fields fs)
  fields_come no_field = none []
  fields_come (more_field fs (field f t (shorthand key))) = more (in_fields fs) (changes_of_fields fs) (fields_come fs)
  fields_come (more_field fs (field f t (valued k e))) = both (in_fields fs) (an_expression e ∷ []) (changes_of_fields fs) (changes_of_ex e) (fields_come fs) (one (an_expression e) (ex_holds e))

  arms_come : (hs : Arms) → Comes (in_arms hs) (changes_of_arms hs)
  arms_come no_arm = none []
  arms_come (more_arm hs (arm f t test value)) =
      both (in_arms hs) (an_expression test ∷ an_expression value ∷ []) (changes_of_arms hs) (changes_of_ex test ++ changes_of_ex value) (arms_come hs)
      (both (an_expression test ∷ []) (an_expression value ∷ []) (changes_of_ex test) (changes_of_ex value) (one (an_expression test) (ex_holds test)) (one (an_expression value) (ex_holds value)))

  function_holds : (f : Function) → Holds (a_function f)
  function_holds (function f t own s (block bf bt ss)) = function_like (a_function (function f t own s (block bf bt ss))) (a_list ss) refl refl refl (stmts_holds ss)

  block_holds : (b : Block) → Holds (a_block b)
  block_holds (block f t ss) = scoped (a_block (block f t ss)) (a_list ss) refl refl refl (stmts_holds ss)

  stmts_holds : (ss : Stmts) → Holds (a_list ss)
  stmts_holds no_stmt = opened (a_list no_stmt) refl refl (none [])
  stmts_holds (more_stmt ss s) =
      opened (a_list (more_stmt ss s)) refl refl (both (a_list ss ∷ []) (a_statement s ∷ []) (changes_of_stmts ss) (changes_of_stmt s) (one (a_list ss) (stmts_holds ss)) (one (a_statement s) (stmt_holds s)))

  stmt_holds : (s : Stmt) → Holds (a_statement s)
  stmt_holds (stmt f t form) = opened (a_statement (stmt f t form)) refl refl (statement_comes form)

  statement_comes : (form : StmtForm) → Comes (in_statement form) (changes_of_stmt_form form)
  statement_comes (declares d) = declaration_comes d
  statement_comes (function_stmt f) = one (a_function f) (function_holds f)
  statement_comes (does s) = one (a_simple s) (simple_holds s)
  statement_comes (branches bs l) = both (in_branches bs) (in_else l) (changes_of_branches bs) (changes_of_else l) (branches_come bs) (else_comes l)
  statement_comes (loop e b) = both (an_expression e ∷ []) (in_body b) (changes_of_ex e) (changes_of_body b) (one (an_expression e) (ex_holds e)) (body_comes b)
  statement_comes (nested b) = one (a_block b) (block_holds b)

  declaration_comes : (d : Declaration) → Comes (in_declaration d) (changes_of_declaration d)
  declaration_comes (declaration f t binder bound annotation e) = one (an_expression e) (ex_holds e)

  simple_holds : (s : Simple) → Holds (a_simple s)
  simple_holds (simple f t return_bare) = opened (a_simple (simple f t return_bare)) refl refl (none [])
  simple_holds (simple f t (return_value e)) = opened (a_simple (simple f t (return_value e))) refl refl (one (an_expression e) (ex_holds e))
  simple_holds (simple f t (throw_value e)) = opened (a_simple (simple f t (throw_value e))) refl refl (one (an_expression e) (ex_holds e))
  simple_holds (simple f t break_loop) = opened (a_simple (simple f t break_loop)) refl refl (none [])
  simple_holds (simple f t continue_loop) = opened (a_simple (simple f t continue_loop)) refl refl (none [])
  simple_holds (simple f t (assign target e)) = assign_holds f t target e (ex_holds target) (ex_holds e)
  simple_holds (simple f t (evaluate e)) = opened (a_simple (simple f t (evaluate e))) refl refl (one (an_expression e) (ex_holds e))

  body_comes : (b : Body) → Comes (in_body b) (changes_of_body b)
  body_comes (block_body b) = one (a_block b) (block_holds b)
  body_comes (simple_body s) = one (a_simple s) (simple_holds s)

  branches_come : (bs : Branches) → Comes (in_branches bs) (changes_of_branches bs)
  branches_come no_branch = none []
  branches_come (more_branch bs (branch f t e b)) =
      both (in_branches bs) (an_expression e ∷ in_body b) (changes_of_branches bs) (changes_of_ex e ++ changes_of_body b) (branches_come bs)
      (both (an_expression e ∷ []) (in_body b) (changes_of_ex e) (changes_of_body b) (one (an_expression e) (ex_holds e)) (body_comes b))

  else_comes : (l : Else) → Comes (in_else l) (changes_of_else l)
  else_comes no_else = none []
  else_comes (else_body b) = body_comes b

-- ---- items

export_comes : (form : ExportForm) → Comes (in_export form) (changes_of_export form)
export_comes (export_declaration d) = declaration_comes d
export_comes (export_function f) = one (a_function f) (function_holds f)
export_comes (export_alias a) = none []
export_comes (export_names is_type ns) = none []
export_comes (export_from is_type ns spec) = none []
export_comes (export_default_function f) = one (a_function f) (function_holds f)
export_comes (export_default e) = one (an_expression e) (ex_holds e)

item_comes : (form : ItemForm) → Comes (in_item form) (changes_of_item form)
item_comes (imports form spec) = none []
item_comes (exports form) = export_comes form
item_comes (declares_item d) = declaration_comes d
item_comes (function_item f) = one (a_function f) (function_holds f)
item_comes (alias_item a) = none []
item_comes (does_item s) = one (a_simple s) (simple_holds s)

items_hold : (is : Items) → Holds (the_items is)
items_hold no_item = opened (the_items no_item) refl refl (none [])
items_hold (more_item is (item f t form)) =
    opened (the_items (more_item is (item f t form))) refl refl (both (the_items is ∷ []) (in_item form) (changes_of_items is) (changes_of_item form) (one (the_items is) (items_hold is)) (item_comes form))

change_made : (p : Piece) → Holds p
change_made (an_expression e) = ex_holds e
change_made (a_function f) = function_holds f
change_made (a_block b) = block_holds b
change_made (a_list ss) = stmts_holds ss
change_made (a_statement s) = stmt_holds s
change_made (a_simple s) = simple_holds s
change_made (the_items is) = items_hold is

pub changes_are_assignments : ChangesAreAssignments
changes_are_assignments = record {
  variables = λ p inner name. (λ has. made_assigned inner name p (change_made p (sets_variable inner name) has), λ a. made_changes (sets_variable inner name) p (assigned_made inner name p a));
  properties = λ p name. (λ has. made_property name p (change_made p (sets_property name) has), λ a. made_changes (sets_property name) p (property_is_made name p a));
  all = λ p. (λ has. made_all p (change_made p may_set_all has), λ a. made_changes may_set_all p (all_is_made p a));
}
