-- The names of a scope: those that the code binds by name, and of which kind.
use Rattle.std.proofs.Common.{◌≡◌, ℕ, suc, ◌||◌, Bool, true, false, List, [], ◌∷◌, ◌++◌, Some, None, cond, bytes_eq, refl, sym, ap, ◌∙◌, append-nil}
use Rattle.std.specs.List.{AllByRecursion}
use Rattle.std.specs.Option.{is_some}
use Rattle.std.specs.Cmp.Lexicographic.{bytes_decides, nat_list_eq_equiv}
use Rattle.std.proofs.lemmas.Bool.{or_right}
use Rattle.std.proofs.lemmas.List.Folds.{list_any-append}
use Rattle.js_grammar.specs.Code.{const, let_word, Function, function, Sig, sig, parameter, Parameters, no_parameter, more_parameter, Stmts, no_stmt, more_stmt, stmt, StmtForm, declares, function_stmt, does, branches, loop, nested, Declaration, declaration}
use Rattle.check_values.specs.Rows.{Bytes, is_among}
use Rattle.check_values.specs.declared.codes.Code.TheVariants.{NameAlreadyBound}
use Rattle.typing.specs.Changes.{Change, declared_by, declared_in, parameter_names, names_of_sig}
use Rattle.typing.specs.Names.{Binding, binding_of, binds}
use Rattle.typing.specs.States.{World, fault_at, name_fault}
use Rattle.typing.specs.Functions.{Bound, bind, changing_kind, parameter_binding, bind_parameters, bind_sig, declaration_binding, function_binding, bind_declaration, bind_function, bind_form, bind_stmts}
use Rattle.binding_law.specs.Scopes.{is_variable}
use Rattle.binding_law.proofs.Changing.{never}

-- ---- names

or_false : (b : Bool) → (b || false) ≡ b
or_false true = refl
or_false false = refl

or_both : (a b c : Bool) → ((a || b) || c) ≡ (a || (b || c))
or_both true b c = refl
or_both false b c = refl

turned : (a b : Bytes) → bytes_eq a b ≡ bytes_eq b a
turned a b = nat_list_eq_equiv.symm a b

-- a list with one more name
among_one : (names : List Bytes) (own name : Bytes) → is_among (names ++ own ∷ []) name ≡ (is_among names name || bytes_eq own name)
among_one names own name = list_any-append (bytes_eq name) names (own ∷ []) ∙ ap (λ (b : Bool). is_among names name || b) (or_false (bytes_eq name own) ∙ turned name own)

binds_more : (b : Binding) (names : List Binding) (name : Bytes) → binds (b ∷ names) name ≡ (binds names name || bytes_eq b.name name)
binds_more b names name = go (bytes_eq b.name name)
  where
    go : (same : Bool) → is_some (cond same (Some b) (binding_of names name)) ≡ (binds names name || same)
    go true = sym (or_right (binds names name) true refl)
    go false = sym (or_false (binds names name))

bind_binds : (w : World) (token : ℕ) (b : Binding) (so_far : Bound) (name : Bytes) → binds (bind w token b so_far).names name ≡ (binds so_far.names name || bytes_eq b.name name)
bind_binds w token b so_far name = go (binds so_far.names b.name) refl
  where
    already : (same : Bool) → bytes_eq b.name name ≡ same → binds so_far.names b.name ≡ true → binds so_far.names name ≡ (binds so_far.names name || same)
    already false at bound = sym (or_false (binds so_far.names name))
    already true at bound = let there : binds so_far.names name ≡ true = sym (ap (binds so_far.names) ((bytes_decides b.name name).0 at)) ∙ bound in there ∙ sym (ap (λ (x : Bool). x || true) there)

    go : (bound : Bool) → binds so_far.names b.name ≡ bound →
        binds (cond bound (record so_far { notes = name_fault (fault_at w token (suc token) NameAlreadyBound b.name) so_far.notes }) (record so_far { names = b ∷ so_far.names })).names name ≡ (binds so_far.names name || bytes_eq b.name name)
    go true at = already (bytes_eq b.name name) refl at ∙ ap (λ (x : Bool). binds so_far.names name || x) refl
    go false at = binds_more b so_far.names name

-- one more behind others
one_more : (start before after : Bool) (names : List Bytes) (own name : Bytes) → before ≡ (start || is_among names name) → after ≡ (before || bytes_eq own name) → after ≡ (start || is_among (names ++ own ∷ []) name)
one_more start before after names own name first second =
    second ∙ ap (λ (b : Bool). b || bytes_eq own name) first ∙ or_both start (is_among names name) (bytes_eq own name) ∙ sym (ap (λ (b : Bool). start || b) (among_one names own name))

parameters_bind : (w : World) (depth : ℕ) (changes : List Change) (ps : Parameters) (so_far : Bound) (name : Bytes) → binds (bind_parameters w depth changes ps so_far).names name ≡ (binds so_far.names name || is_among (parameter_names ps) name)
parameters_bind w depth changes no_parameter so_far name = sym (or_false (binds so_far.names name))
parameters_bind w depth changes (more_parameter ps (parameter f t own optional annotation)) so_far name =
    let before : Bound = bind_parameters w depth changes ps so_far in
    one_more (binds so_far.names name) (binds before.names name) (binds (bind w f (parameter_binding w depth changes (parameter f t own optional annotation)) before).names name) (parameter_names ps) own name
    (parameters_bind w depth changes ps so_far name) (bind_binds w f (parameter_binding w depth changes (parameter f t own optional annotation)) before name)

pub sig_binds : (w : World) (depth : ℕ) (changes : List Change) (s : Sig) (so_far : Bound) (name : Bytes) → binds (bind_sig w depth changes s so_far).names name ≡ (binds so_far.names name || is_among (names_of_sig s) name)
sig_binds w depth changes (sig f t ps comma result) so_far name = parameters_bind w depth changes ps so_far name

nothing_more : (start before : Bool) (names : List Bytes) (name : Bytes) → before ≡ (start || is_among names name) → before ≡ (start || is_among (names ++ []) name)
nothing_more start before names name is = is ∙ ap (λ (l : List Bytes). start || is_among l name) (sym (append-nil names))

-- what a statement binds behind others
form_binds : (w : World) (depth : ℕ) (changes : List Change) (form : StmtForm) (names : List Bytes) (start : Bool) (so_far : Bound) (name : Bytes) → binds so_far.names name ≡ (start || is_among names name) →
    binds (bind_form w depth changes form so_far).names name ≡ (start || is_among (names ++ declared_by form) name)
form_binds w depth changes (declares (declaration f t binder own annotation e)) names start so_far name is =
    let b : Binding = declaration_binding w depth changes (declaration f t binder own annotation e) in
    one_more start (binds so_far.names name) (binds (bind w (suc f) b so_far).names name) names own name is (bind_binds w (suc f) b so_far name)
form_binds w depth changes (function_stmt (function f t None s b)) names start so_far name is = nothing_more start (binds so_far.names name) names name is
form_binds w depth changes (function_stmt (function f t (Some own) s b)) names start so_far name is =
    let made_by : Binding = function_binding w depth (suc f) own s in
    one_more start (binds so_far.names name) (binds (bind w (suc f) made_by so_far).names name) names own name is (bind_binds w (suc f) made_by so_far name)
form_binds w depth changes (does s) names start so_far name is = nothing_more start (binds so_far.names name) names name is
form_binds w depth changes (branches bs last) names start so_far name is = nothing_more start (binds so_far.names name) names name is
form_binds w depth changes (loop e body) names start so_far name is = nothing_more start (binds so_far.names name) names name is
form_binds w depth changes (nested b) names start so_far name is = nothing_more start (binds so_far.names name) names name is

pub statements_bind : (w : World) (depth : ℕ) (changes : List Change) (ss : Stmts) (so_far : Bound) (name : Bytes) → binds (bind_stmts w depth changes ss so_far).names name ≡ (binds so_far.names name || is_among (declared_in ss) name)
statements_bind w depth changes no_stmt so_far name = sym (or_false (binds so_far.names name))
statements_bind w depth changes (more_stmt ss (stmt f t form)) so_far name =
    form_binds w depth changes form (declared_in ss) (binds so_far.names name) (bind_stmts w depth changes ss so_far) name (statements_bind w depth changes ss so_far name)

-- the parameters, and what a body declares
pub body_binds : (w : World) (depth : ℕ) (changes : List Change) (s : Sig) (ss : Stmts) (so_far : Bound) (name : Bytes) → binds so_far.names name ≡ false →
    binds (bind_stmts w depth changes ss (bind_sig w depth changes s so_far)).names name ≡ is_among (names_of_sig s ++ declared_in ss) name
body_binds w depth changes s ss so_far name none =
    statements_bind w depth changes ss (bind_sig w depth changes s so_far) name
    ∙ ap (λ (b : Bool). b || is_among (declared_in ss) name) (sig_binds w depth changes s so_far name ∙ ap (λ (b : Bool). b || is_among (names_of_sig s) name) none)
    ∙ sym (list_any-append (bytes_eq name) (names_of_sig s) (declared_in ss))

pub own_binds : (b : Binding) (name : Bytes) → binds (b ∷ []) name ≡ is_among (b.name ∷ []) name
own_binds b name = binds_more b [] name ∙ sym (or_false (bytes_eq name b.name) ∙ turned name b.name)

-- ---- kinds

-- what may change is told by the changes whether it is assigned in a function inside
abbrev pub TellsKind : List Change → Binding → Type 0
TellsKind changes b = is_variable b.kind ≡ true → b.kind ≡ changing_kind changes b.name

abbrev pub AllTellKind : List Change → List Binding → Type 0
AllTellKind changes names = AllByRecursion (TellsKind changes) names

pub bind_kinds : (changes : List Change) (w : World) (token : ℕ) (b : Binding) (so_far : Bound) → TellsKind changes b → AllTellKind changes so_far.names → AllTellKind changes (bind w token b so_far).names
bind_kinds changes w token b so_far tells all = go (binds so_far.names b.name)
  where
    go : (bound : Bool) → AllTellKind changes (cond bound (record so_far { notes = name_fault (fault_at w token (suc token) NameAlreadyBound b.name) so_far.notes }) (record so_far { names = b ∷ so_far.names })).names
    go true = all
    go false = (tells, all)

parameters_kinds : (w : World) (depth : ℕ) (changes : List Change) (ps : Parameters) (so_far : Bound) → AllTellKind changes so_far.names → AllTellKind changes (bind_parameters w depth changes ps so_far).names
parameters_kinds w depth changes no_parameter so_far all = all
parameters_kinds w depth changes (more_parameter ps (parameter f t name optional annotation)) so_far all =
    bind_kinds changes w f (parameter_binding w depth changes (parameter f t name optional annotation)) (bind_parameters w depth changes ps so_far) (λ is. refl) (parameters_kinds w depth changes ps so_far all)

pub sig_kinds : (w : World) (depth : ℕ) (changes : List Change) (s : Sig) (so_far : Bound) → AllTellKind changes so_far.names → AllTellKind changes (bind_sig w depth changes s so_far).names
sig_kinds w depth changes (sig f t ps comma result) so_far all = parameters_kinds w depth changes ps so_far all

pub declares_kinds : (w : World) (depth : ℕ) (changes : List Change) (d : Declaration) (so_far : Bound) → AllTellKind changes so_far.names → AllTellKind changes (bind_declaration w depth changes d so_far).names
declares_kinds w depth changes (declaration f t const name annotation e) so_far all =
    bind_kinds changes w (suc f) (declaration_binding w depth changes (declaration f t const name annotation e)) so_far (λ is. never is) all
declares_kinds w depth changes (declaration f t let_word name annotation e) so_far all =
    bind_kinds changes w (suc f) (declaration_binding w depth changes (declaration f t let_word name annotation e)) so_far (λ is. refl) all

pub named_kinds : (w : World) (depth : ℕ) (changes : List Change) (x : Function) (so_far : Bound) → AllTellKind changes so_far.names → AllTellKind changes (bind_function w depth x so_far).names
named_kinds w depth changes (function f t None s b) so_far all = all
named_kinds w depth changes (function f t (Some name) s b) so_far all = bind_kinds changes w (suc f) (function_binding w depth (suc f) name s) so_far (λ is. never is) all

form_kinds : (w : World) (depth : ℕ) (changes : List Change) (form : StmtForm) (so_far : Bound) → AllTellKind changes so_far.names → AllTellKind changes (bind_form w depth changes form so_far).names
form_kinds w depth changes (declares d) so_far all = declares_kinds w depth changes d so_far all
form_kinds w depth changes (function_stmt x) so_far all = named_kinds w depth changes x so_far all
form_kinds w depth changes (does s) so_far all = all
form_kinds w depth changes (branches bs last) so_far all = all
form_kinds w depth changes (loop e body) so_far all = all
form_kinds w depth changes (nested b) so_far all = all

pub statements_kinds : (w : World) (depth : ℕ) (changes : List Change) (ss : Stmts) (so_far : Bound) → AllTellKind changes so_far.names → AllTellKind changes (bind_stmts w depth changes ss so_far).names
statements_kinds w depth changes no_stmt so_far all = all
statements_kinds w depth changes (more_stmt ss (stmt f t form)) so_far all = form_kinds w depth changes form (bind_stmts w depth changes ss so_far) (statements_kinds w depth changes ss so_far all)
