-- Where the parts of a piece stand.
use Rattle.std.proofs.Common.{ℕ, suc, ◌≤◌, Bool, true, false, List, [], ◌∷◌, ◌++◌, Contains, inl, inr, subst, arith}
use Rattle.std.proofs.lemmas.List.Elements.{Contains-append_cases}
use Rattle.js_grammar.specs.TypeSpelling.{Tokens}
use Rattle.js_grammar.specs.TypeFits.{bump}
use Rattle.js_grammar.specs.Code.{ExForm, variable, number, text, truth_value, null_value, parens, elements, fields, function_ex, postfixed, prefixed, chain, cond, arrow, Exs, no_ex, more_ex, link, member, index, call, Links, no_link, more_link, operand, right_side, as_type, Operands, no_operand, more_operand, Level, field, shorthand, valued, Fields, no_field, more_field, arm, Arms, no_arm, more_arm, arrow_block, arrow_value, block, StmtForm, declares, function_stmt, does, branches, loop, nested, Declaration, declaration, SimpleForm, return_bare, return_value, throw_value, break_loop, continue_loop, assign, evaluate, Body, block_body, simple_body, branch, Branches, no_branch, more_branch, Else, no_else, else_body}
use Rattle.js_grammar.specs.CodePlaces.{stop_stmt, stop_prefixes, stop_annotation, stop_sig, stop_ex, stop_ex_form, stop_exs, stop_listed, stop_links, stop_operand_form, stop_operands, stop_fields, stop_entries, stop_arms, stop_function, stop_block, stop_stmts, stop_stmt_form, stop_declaration, stop_simple, stop_simple_form, stop_body, stop_branches, stop_elses, stop_else}
use Rattle.js_grammar.specs.CodeFits.{Context, looping, FitsExForm, FitsExs, FitsLinks, FitsOperands, FitsFields, FitsArms, FitsStmtForm, FitsDeclaration, FitsSimpleForm, FitsBody, FitsBranches, FitsElse}
use Rattle.js_grammar.specs.Items.{stop_items}
use Rattle.js_grammar.proofs.Front.{Front, counted, f_prefixes, f_annotation, f_sig, f_ex, f_listed, f_exs, f_links, f_operand_form, f_operands, f_entries, f_arms, f_body, f_branches, f_elses, f_else}
use Rattle.subtyping.proofs.Whole.{first_or, nothing}
use Rattle.binding_law.specs.Pieces.{Piece, an_expression, a_function, a_block, a_list, a_statement, a_simple, the_items, in_exs, in_links, in_operands, in_fields, in_arms, in_ex, in_body, in_branches, in_else, in_declaration, in_statement, in_simple}
use Rattle.binding_law.specs.Placed.{FitsAt}

-- no form ends before it begins
pub rises : {s : Tokens → Tokens} {f : ℕ → ℕ} → Front s f → (i : ℕ) → i ≤ f i
rises {s} {f} front i = let e = counted front i in omega arith

pub bump_rises : (b : Bool) (i : ℕ) → i ≤ bump b i
bump_rises true i = omega arith
bump_rises false i = omega arith

-- the place behind a piece that stands at a place
abbrev pub end_at : Piece → ℕ → ℕ
end_at (an_expression e) i = stop_ex e i
end_at (a_function f) i = stop_function f i
end_at (a_block b) i = stop_block b i
end_at (a_list ss) i = stop_stmts ss i
end_at (a_statement s) i = stop_stmt s i
end_at (a_simple s) i = stop_simple s i
end_at (the_items is) i = stop_items is i

-- the piece stands from one place up to another
abbrev pub Within : ℕ → ℕ → Piece → Type 0
Within i j q = (k : ℕ) × FitsAt q k × (i ≤ k) × (end_at q k ≤ j)

abbrev pub AllWithin : ℕ → ℕ → List Piece → Type 0
AllWithin i j ps = (q : Piece) → Contains ps q → Within i j q

none : (i j : ℕ) → AllWithin i j []
none i j q has = nothing q has

pub one : (i j k : ℕ) (p : Piece) → FitsAt p k → i ≤ k → end_at p k ≤ j → AllWithin i j (p ∷ [])
one i j k p fits low high q has = elim (first_or p [] q has) [ inl same ↦ subst (Within i j) same (k, fits, low, high) | inr rest ↦ nothing q rest ]

both : (i j : ℕ) (ps qs : List Piece) → AllWithin i j ps → AllWithin i j qs → AllWithin i j (ps ++ qs)
both i j ps qs first second q has = elim (Contains-append_cases ps qs q has) [ inl before ↦ first q before | inr behind ↦ second q behind ]

pub wider : (i j low high : ℕ) (ps : List Piece) → low ≤ i → j ≤ high → AllWithin i j ps → AllWithin low high ps
wider i j low high ps l h all q has =
    let found = all q has in
    let a = found.2 in
    let b = found.3 in
    (found.0, found.1, omega arith, omega arith)

-- ---- expressions

listed : (es : Exs) (i : ℕ) → FitsExs es i → AllWithin i (stop_listed es i) (in_exs es)
listed no_ex i fits = none i i
listed (more_ex es e) i fits =
    let k = stop_listed es i in
    let l = rises (f_listed es) i in
    let r = rises (f_ex e) k in
    both i (suc (stop_ex e k)) (in_exs es) (an_expression e ∷ []) (wider i k i (suc (stop_ex e k)) (in_exs es) (omega arith) (omega arith) (listed es i fits.0)) (one i (suc (stop_ex e k)) k (an_expression e) fits.1 l (omega arith))

exs : (es : Exs) (i : ℕ) → FitsExs es i → AllWithin i (stop_exs es i) (in_exs es)
exs no_ex i fits = none i i
exs (more_ex es e) i fits =
    let k = stop_listed es i in
    let l = rises (f_listed es) i in
    let r = rises (f_ex e) k in
    both i (stop_ex e k) (in_exs es) (an_expression e ∷ []) (wider i k i (stop_ex e k) (in_exs es) (omega arith) r (listed es i fits.0)) (one i (stop_ex e k) k (an_expression e) fits.1 l (omega arith))

links : (ls : Links) (i : ℕ) → FitsLinks ls i → AllWithin i (stop_links ls i) (in_links ls)
links no_link i fits = none i i
links (more_link ls (link f t (member key))) i fits =
    let k = stop_links ls i in
    wider i k i (suc (suc k)) (in_links ls) (omega arith) (omega arith) (links ls i fits.0)
links (more_link ls (link f t (index e))) i fits =
    let k = stop_links ls i in
    let l = rises (f_links ls) i in
    let r = rises (f_ex e) (suc k) in
    let end = suc (stop_ex e (suc k)) in
    both i end (in_links ls) (an_expression e ∷ []) (wider i k i end (in_links ls) (omega arith) (omega arith) (links ls i fits.0)) (one i end (suc k) (an_expression e) fits.1.2 (omega arith) (omega arith))
links (more_link ls (link f t (call es c))) i fits =
    let k = stop_links ls i in
    let l = rises (f_links ls) i in
    let r = rises (f_exs es) (suc k) in
    let b = bump_rises c (stop_exs es (suc k)) in
    let end = suc (bump c (stop_exs es (suc k))) in
    both i end (in_links ls) (in_exs es) (wider i k i end (in_links ls) (omega arith) (omega arith) (links ls i fits.0)) (wider (suc k) (stop_exs es (suc k)) i end (in_exs es) (omega arith) (omega arith) (exs es (suc k) fits.1.2.0))

operands : (os : Operands) (p : Level) (i : ℕ) → FitsOperands os p i → AllWithin i (stop_operands os i) (in_operands os)
operands no_operand p i fits = none i i
operands (more_operand os (operand f t (right_side o e))) p i fits =
    let k = stop_operands os i in
    let l = rises (f_operands os) i in
    let r = rises (f_ex e) (suc k) in
    let end = stop_ex e (suc k) in
    both i end (in_operands os) (an_expression e ∷ []) (wider i k i end (in_operands os) (omega arith) (omega arith) (operands os p i fits.0)) (one i end (suc k) (an_expression e) fits.1.2.2 (omega arith) (omega arith))
operands (more_operand os (operand f t (as_type v))) p i fits =
    let k = stop_operands os i in
    let r = rises (f_operand_form (as_type v)) k in
    wider i k i (stop_operand_form (as_type v) k) (in_operands os) (omega arith) r (operands os p i fits.0)

entries : (fs : Fields) (i : ℕ) → FitsFields fs i → AllWithin i (stop_entries fs i) (in_fields fs)
entries no_field i fits = none i i
entries (more_field fs (field f t (shorthand own))) i fits = let k = stop_entries fs i in wider i k i (suc (suc k)) (in_fields fs) (omega arith) (omega arith) (entries fs i fits.0)
entries (more_field fs (field f t (valued own e))) i fits =
    let k = stop_entries fs i in
    let l = rises (f_entries fs) i in
    let r = rises (f_ex e) (suc (suc k)) in
    let end = suc (stop_ex e (suc (suc k))) in
    both i end (in_fields fs) (an_expression e ∷ []) (wider i k i end (in_fields fs) (omega arith) (omega arith) (entries fs i fits.0)) (one i end (suc (suc k)) (an_expression e) fits.1.2.1 (omega arith) (omega arith))

values : (fs : Fields) (i : ℕ) → FitsFields fs i → AllWithin i (stop_fields fs i) (in_fields fs)
values no_field i fits = none i i
values (more_field fs (field f t (shorthand own))) i fits = let k = stop_entries fs i in wider i k i (suc k) (in_fields fs) (omega arith) (omega arith) (entries fs i fits.0)
values (more_field fs (field f t (valued own e))) i fits =
    let k = stop_entries fs i in
    let l = rises (f_entries fs) i in
    let r = rises (f_ex e) (suc (suc k)) in
    let end = stop_ex e (suc (suc k)) in
    both i end (in_fields fs) (an_expression e ∷ []) (wider i k i end (in_fields fs) (omega arith) (omega arith) (entries fs i fits.0)) (one i end (suc (suc k)) (an_expression e) fits.1.2.1 (omega arith) (omega arith))

arms : (hs : Arms) (i : ℕ) → FitsArms hs i → AllWithin i (stop_arms hs i) (in_arms hs)
arms no_arm i fits = none i i
arms (more_arm hs (arm f t a b)) i fits =
    let k = stop_arms hs i in
    let l = rises (f_arms hs) i in
    let m = rises (f_ex a) k in
    let r = rises (f_ex b) (suc (stop_ex a k)) in
    let end = suc (stop_ex b (suc (stop_ex a k))) in
    both i end (in_arms hs) (an_expression a ∷ an_expression b ∷ []) (wider i k i end (in_arms hs) (omega arith) (omega arith) (arms hs i fits.0))
    (both i end (an_expression a ∷ []) (an_expression b ∷ []) (one i end k (an_expression a) fits.1.3 l (omega arith)) (one i end (suc (stop_ex a k)) (an_expression b) fits.1.4 (omega arith) (omega arith)))

-- ---- statements

body : (b : Body) (c : Context) (i : ℕ) → FitsBody b c i → AllWithin i (stop_body b i) (in_body b)
body (block_body b) c i fits = one i (stop_block b i) i (a_block b) (c, fits) (omega arith) (omega arith)
body (simple_body s) c i fits = one i (suc (stop_simple s i)) i (a_simple s) (c, fits) (omega arith) (omega arith)

elses : (bs : Branches) (c : Context) (i : ℕ) → FitsBranches bs c i → AllWithin i (stop_elses bs i) (in_branches bs)
elses no_branch c i fits = none i i
elses (more_branch bs (branch f t e b)) c i fits =
    let k = stop_elses bs i in
    let l = rises (f_elses bs) i in
    let m = rises (f_ex e) (suc (suc k)) in
    let inside = suc (stop_ex e (suc (suc k))) in
    let r = rises (f_body b) inside in
    let end = suc (stop_body b inside) in
    both i end (in_branches bs) (an_expression e ∷ in_body b) (wider i k i end (in_branches bs) (omega arith) (omega arith) (elses bs c i fits.0))
    (both i end (an_expression e ∷ []) (in_body b) (one i end (suc (suc k)) (an_expression e) fits.1.2 (omega arith) (omega arith)) (wider inside (stop_body b inside) i end (in_body b) (omega arith) (omega arith) (body b c inside fits.1.3)))

tests : (bs : Branches) (c : Context) (i : ℕ) → FitsBranches bs c i → AllWithin i (stop_branches bs i) (in_branches bs)
tests no_branch c i fits = none i i
tests (more_branch bs (branch f t e b)) c i fits =
    let k = stop_elses bs i in
    let l = rises (f_elses bs) i in
    let m = rises (f_ex e) (suc (suc k)) in
    let inside = suc (stop_ex e (suc (suc k))) in
    let r = rises (f_body b) inside in
    let end = stop_body b inside in
    both i end (in_branches bs) (an_expression e ∷ in_body b) (wider i k i end (in_branches bs) (omega arith) (omega arith) (elses bs c i fits.0))
    (both i end (an_expression e ∷ []) (in_body b) (one i end (suc (suc k)) (an_expression e) fits.1.2 (omega arith) (omega arith)) (wider inside end i end (in_body b) (omega arith) (omega arith) (body b c inside fits.1.3)))

last : (l : Else) (c : Context) (i : ℕ) → FitsElse l c i → AllWithin i (stop_else l i) (in_else l)
last no_else c i fits = none i i
last (else_body b) c i fits = wider (suc i) (stop_body b (suc i)) i (stop_body b (suc i)) (in_body b) (omega arith) (omega arith) (body b c (suc i) fits)

pub declared : (d : Declaration) (i : ℕ) → FitsDeclaration d i → AllWithin (suc (suc i)) (stop_declaration d i) (in_declaration d)
declared (declaration f t binder name annotation e) i fits =
    let k = suc (stop_annotation annotation (suc (suc i))) in
    let l = rises (f_annotation annotation) (suc (suc i)) in
    one (suc (suc i)) (stop_ex e k) k (an_expression e) fits.4 (omega arith) (omega arith)

pub plain : (form : SimpleForm) (c : Context) (i : ℕ) → FitsSimpleForm form c i → AllWithin i (stop_simple_form form i) (in_simple form)
plain return_bare c i fits = none i (suc i)
plain (return_value e) c i fits = one i (stop_ex e (suc i)) (suc i) (an_expression e) fits.1 (omega arith) (omega arith)
plain (throw_value e) c i fits = one i (stop_ex e (suc i)) (suc i) (an_expression e) fits (omega arith) (omega arith)
plain break_loop c i fits = none i (suc i)
plain continue_loop c i fits = none i (suc i)
plain (assign target e) c i fits =
    let l = rises (f_ex target) i in
    let k = suc (stop_ex target i) in
    let r = rises (f_ex e) k in
    both i (stop_ex e k) (an_expression target ∷ []) (an_expression e ∷ []) (one i (stop_ex e k) i (an_expression target) fits.2 (omega arith) (omega arith)) (one i (stop_ex e k) k (an_expression e) fits.3 (omega arith) (omega arith))
plain (evaluate e) c i fits = one i (stop_ex e i) i (an_expression e) fits.1 (omega arith) (omega arith)

pub statement : (form : StmtForm) (c : Context) (i : ℕ) → FitsStmtForm form c i → AllWithin i (stop_stmt_form form i) (in_statement form)
statement (declares d) c i fits = wider (suc (suc i)) (stop_declaration d i) i (suc (stop_declaration d i)) (in_declaration d) (omega arith) (omega arith) (declared d i fits)
statement (function_stmt f) c i fits = one i (stop_function f i) i (a_function f) fits.1 (omega arith) (omega arith)
statement (does s) c i fits = one i (suc (stop_simple s i)) i (a_simple s) (c, fits) (omega arith) (omega arith)
statement (branches bs l) c i fits =
    let k = stop_branches bs i in
    let a = rises (f_branches bs) i in
    let b = rises (f_else l) k in
    both i (stop_else l k) (in_branches bs) (in_else l) (wider i k i (stop_else l k) (in_branches bs) (omega arith) b (tests bs c i fits.1)) (wider k (stop_else l k) i (stop_else l k) (in_else l) a (omega arith) (last l c k fits.2))
statement (loop e b) c i fits =
    let k = suc (stop_ex e (suc (suc i))) in
    let a = rises (f_ex e) (suc (suc i)) in
    let r = rises (f_body b) k in
    let end = stop_body b k in
    both i end (an_expression e ∷ []) (in_body b) (one i end (suc (suc i)) (an_expression e) fits.0 (omega arith) (omega arith)) (wider k end i end (in_body b) (omega arith) (omega arith) (body b (looping c) k fits.1))
statement (nested b) c i fits = one i (stop_block b i) i (a_block b) (c, fits) (omega arith) (omega arith)

pub expression : (form : ExForm) (i : ℕ) → FitsExForm form i → AllWithin i (stop_ex_form form i) (in_ex form)
expression (variable own) i fits = none i (suc i)
expression (number digits) i fits = none i (suc i)
expression (text s) i fits = none i (suc i)
expression (truth_value b) i fits = none i (suc i)
expression null_value i fits = none i (suc i)
expression (parens e) i fits = one i (suc (stop_ex e (suc i))) (suc i) (an_expression e) fits (omega arith) (omega arith)
expression (elements es c) i fits =
    let b = bump_rises c (stop_exs es (suc i)) in
    wider (suc i) (stop_exs es (suc i)) i (suc (bump c (stop_exs es (suc i)))) (in_exs es) (omega arith) (omega arith) (exs es (suc i) fits.0)
expression (fields fs c) i fits =
    let b = bump_rises c (stop_fields fs (suc i)) in
    wider (suc i) (stop_fields fs (suc i)) i (suc (bump c (stop_fields fs (suc i)))) (in_fields fs) (omega arith) (omega arith) (values fs (suc i) fits.0)
expression (function_ex f) i fits = one i (stop_function f i) i (a_function f) fits (omega arith) (omega arith)
expression (postfixed e ls) i fits =
    let k = stop_ex e i in
    let a = rises (f_ex e) i in
    let b = rises (f_links ls) k in
    both i (stop_links ls k) (an_expression e ∷ []) (in_links ls) (one i (stop_links ls k) i (an_expression e) fits.1 (omega arith) b) (wider k (stop_links ls k) i (stop_links ls k) (in_links ls) a (omega arith) (links ls k fits.3))
expression (prefixed ps e) i fits = let a = rises (f_prefixes ps) i in one i (stop_ex e (stop_prefixes ps i)) (stop_prefixes ps i) (an_expression e) fits.3 a (omega arith)
expression (chain level e os) i fits =
    let k = stop_ex e i in
    let a = rises (f_ex e) i in
    let b = rises (f_operands os) k in
    both i (stop_operands os k) (an_expression e ∷ []) (in_operands os) (one i (stop_operands os k) i (an_expression e) fits.1 (omega arith) b) (wider k (stop_operands os k) i (stop_operands os k) (in_operands os) a (omega arith) (operands os level k fits.3))
expression (cond hs e) i fits =
    let k = stop_arms hs i in
    let a = rises (f_arms hs) i in
    let b = rises (f_ex e) k in
    both i (stop_ex e k) (in_arms hs) (an_expression e ∷ []) (wider i k i (stop_ex e k) (in_arms hs) (omega arith) b (arms hs i fits.1)) (one i (stop_ex e k) k (an_expression e) fits.3 a (omega arith))
expression (arrow s (arrow_block (block f t ss))) i fits =
    let a = rises (f_sig s) i in
    let k = suc (suc (stop_sig s i)) in
    one i (suc (stop_stmts ss k)) k (a_list ss) (_, fits.2.2) (omega arith) (omega arith)
expression (arrow s (arrow_value e)) i fits =
    let a = rises (f_sig s) i in
    one i (stop_ex e (suc (stop_sig s i))) (suc (stop_sig s i)) (an_expression e) fits.2.1 (omega arith) (omega arith)
