-- The lists of a tree grow at their end; here they are read in order.
use Rattle.std.proofs.Common.{◌≡◌, ℕ, ◌+◌, ◌<◌, ◌≤◌, List, [], ◌∷◌, ◌++◌, map, length, take, get_or, refl, sym, ap, ◌∙◌}
use Rattle.std.proofs.lemmas.List.{map-append, take_all, take_more}
use Rattle.type_values.specs.declared.types.Param.{Param}
use Rattle.js_grammar.specs.Code as g
use Rattle.js_grammar.specs.Code.{no_parameter, more_parameter, no_stmt, more_stmt}
use Rattle.code_tree.specs.Flat.{parameter_view, parameters_view, parameters_from, signature_view}
use Rattle.code_tree.specs.Steps.{stmts_from}
use Rattle.code_tree.specs.View.{statement_view, statements_view}
use Rattle.code_tree.specs.declared.types.Parameter.{Parameter}
use Rattle.code_tree.specs.declared.types.Signature.{Signature}
use Rattle.code_tree.specs.declared.types.Statement.{Statement}
use Rattle.type_tree.specs.View.{type_view}
use Rattle.std.specs.Option.{option_map}
use Rattle.typing.specs.Changes.{Change}
use Rattle.typing.specs.States.{World, Notes}
use Rattle.typing.specs.Functions.{Bound, bind, parameter_binding, bind_parameters, bind_sig, bind_stmts, param_of, params_of, annotation_asked, parameters_read}

one_more : {X : Type 0} (xs : List X) (i : ℕ) (x : X) → i < length xs → x ≡ get_or xs i x → take (i + 1) xs ≡ take i xs ++ x ∷ []
one_more {X} xs i x within at = take_more xs i x within ∙ ap (λ (y : X). take i xs ++ y ∷ []) (sym at)

last_from : {L V : Type 0} (more : L → V → L) (from : L → List V → L) → ((l : L) → from l [] ≡ l) → ((l : L) (v : V) (vs : List V) → from l (v ∷ vs) ≡ from (more l v) vs) →
    (l : L) (vs : List V) (v : V) → from l (vs ++ v ∷ []) ≡ more (from l vs) v
last_from {L} {V} more from at_end next l [] v = next l v [] ∙ at_end (more l v) ∙ sym (ap (λ (m : L). more m v) (at_end l))
last_from {L} {V} more from at_end next l (w ∷ vs) v = next l w (vs ++ v ∷ []) ∙ last_from more from at_end next (more l w) vs v ∙ sym (ap (λ (m : L). more m v) (next l w vs))

-- a list up to the element at a place, and that one
pub more_from : {A L V : Type 0} (view : A → V) (more : L → V → L) (from : L → List V → L) → ((l : L) → from l [] ≡ l) → ((l : L) (v : V) (vs : List V) → from l (v ∷ vs) ≡ from (more l v) vs) →
    (none : L) (xs : List A) (i : ℕ) (x : A) → i < length xs → x ≡ get_or xs i x → from none (map view (take (i + 1) xs)) ≡ more (from none (map view (take i xs))) (view x)
more_from {A} {L} {V} view more from at_end next none xs i x within at =
    ap (λ (l : List A). from none (map view l)) (one_more xs i x within at) ∙ ap (from none) (map-append view (take i xs) (x ∷ [])) ∙ last_from more from at_end next none (map view (take i xs)) (view x)

-- ---- parameters

parameters_more : (xs : List Parameter) (i : ℕ) (x : Parameter) → i < length xs → x ≡ get_or xs i x → parameters_view (take (i + 1) xs) ≡ more_parameter (parameters_view (take i xs)) (parameter_view x)
unfolding parameters_view
parameters_more xs i x within at = more_from parameter_view more_parameter parameters_from (λ l. refl) (λ l v vs. refl) no_parameter xs i x within at

parameters_none : parameters_view [] ≡ no_parameter
unfolding parameters_view
parameters_none = refl

-- those of a function's type
pub params_none : (w : World) (all : List Param) → all ≡ [] → all ≡ params_of w (parameters_view [])
params_none w all none = none ∙ ap (params_of w) (sym parameters_none)

pub params_next : (w : World) (xs : List Parameter) (i : ℕ) (x : Parameter) (p : Param) (before after : List Param) → i < length xs → x ≡ get_or xs i x → p ≡ param_of w (parameter_view x) →
    before ≡ params_of w (parameters_view (take i xs)) → after ≡ before ++ p ∷ [] → after ≡ params_of w (parameters_view (take (i + 1) xs))
params_next w xs i x p before after within at is so_far adds =
    adds ∙ ap (λ (l : List Param). l ++ p ∷ []) so_far ∙ ap (λ (q : Param). params_of w (parameters_view (take i xs)) ++ q ∷ []) is ∙ ap (params_of w) (sym (parameters_more xs i x within at))

pub params_all : (w : World) (xs : List Parameter) (i : ℕ) (all : List Param) → length xs ≤ i → all ≡ params_of w (parameters_view (take i xs)) → all ≡ params_of w (parameters_view xs)
params_all w xs i all long is = is ∙ ap (λ (l : List Parameter). params_of w (parameters_view l)) (take_all i xs long)

-- their annotations
pub read_none : (w : World) (n : Notes) → n ≡ parameters_read w (parameters_view []) n
read_none w n = ap (λ (ps : g.Parameters). parameters_read w ps n) (sym parameters_none)

read_last : (w : World) (ps : g.Parameters) (x : Parameter) (n : Notes) → parameters_read w (more_parameter ps (parameter_view x)) n ≡ annotation_asked w x.first x.name (option_map type_view x.annotation) (parameters_read w ps n)
unfolding parameter_view
read_last w ps x n = refl

pub read_next : (w : World) (xs : List Parameter) (i : ℕ) (x : Parameter) (first before after : Notes) → i < length xs → x ≡ get_or xs i x →
    after ≡ annotation_asked w x.first x.name (option_map type_view x.annotation) before → before ≡ parameters_read w (parameters_view (take i xs)) first →
    after ≡ parameters_read w (parameters_view (take (i + 1) xs)) first
read_next w xs i x first before after within at asks so_far =
    asks ∙ ap (annotation_asked w x.first x.name (option_map type_view x.annotation)) so_far ∙ sym (read_last w (parameters_view (take i xs)) x first)
    ∙ ap (λ (ps : g.Parameters). parameters_read w ps first) (sym (parameters_more xs i x within at))

pub read_all : (w : World) (xs : List Parameter) (i : ℕ) (first after : Notes) → length xs ≤ i → after ≡ parameters_read w (parameters_view (take i xs)) first → after ≡ parameters_read w (parameters_view xs) first
read_all w xs i first after long is = is ∙ ap (λ (l : List Parameter). parameters_read w (parameters_view l) first) (take_all i xs long)

-- their names
pub parameters_bound_none : (w : World) (depth : ℕ) (changes : List Change) (b : Bound) → b ≡ bind_parameters w depth changes (parameters_view []) b
parameters_bound_none w depth changes b = ap (λ (ps : g.Parameters). bind_parameters w depth changes ps b) (sym parameters_none)

bound_last : (w : World) (depth : ℕ) (changes : List Change) (ps : g.Parameters) (x : Parameter) (b : Bound) →
    bind_parameters w depth changes (more_parameter ps (parameter_view x)) b ≡ bind w x.first (parameter_binding w depth changes (parameter_view x)) (bind_parameters w depth changes ps b)
unfolding parameter_view
bound_last w depth changes ps x b = refl

pub parameters_bound_next : (w : World) (depth d : ℕ) (changes : List Change) (xs : List Parameter) (i : ℕ) (x : Parameter) (first before after : Bound) → i < length xs → x ≡ get_or xs i x → d ≡ depth →
    after ≡ bind w x.first (parameter_binding w d changes (parameter_view x)) before → before ≡ bind_parameters w depth changes (parameters_view (take i xs)) first →
    after ≡ bind_parameters w depth changes (parameters_view (take (i + 1) xs)) first
parameters_bound_next w depth d changes xs i x first before after within at same binds so_far =
    binds ∙ ap (λ (k : ℕ). bind w x.first (parameter_binding w k changes (parameter_view x)) before) same
    ∙ ap (bind w x.first (parameter_binding w depth changes (parameter_view x))) so_far ∙ sym (bound_last w depth changes (parameters_view (take i xs)) x first)
    ∙ ap (λ (ps : g.Parameters). bind_parameters w depth changes ps first) (sym (parameters_more xs i x within at))

pub parameters_bound_all : (w : World) (depth : ℕ) (changes : List Change) (xs : List Parameter) (i : ℕ) (first after : Bound) → length xs ≤ i →
    after ≡ bind_parameters w depth changes (parameters_view (take i xs)) first → after ≡ bind_parameters w depth changes (parameters_view xs) first
parameters_bound_all w depth changes xs i first after long is = is ∙ ap (λ (l : List Parameter). bind_parameters w depth changes (parameters_view l) first) (take_all i xs long)

pub sig_bound : (w : World) (depth : ℕ) (changes : List Change) (s : Signature) (xs : List Parameter) (first after : Bound) → xs ≡ s.parameters → after ≡ bind_parameters w depth changes (parameters_view xs) first →
    after ≡ bind_sig w depth changes (signature_view s) first
unfolding signature_view
sig_bound w depth changes s xs first after same is = is ∙ ap (λ (l : List Parameter). bind_parameters w depth changes (parameters_view l) first) same

-- ---- statements

pub stmts_more : (xs : List Statement) (i : ℕ) (x : Statement) → i < length xs → x ≡ get_or xs i x → statements_view (take (i + 1) xs) ≡ more_stmt (statements_view (take i xs)) (statement_view x)
unfolding statements_view
stmts_more xs i x within at = more_from statement_view more_stmt stmts_from (λ l. refl) (λ l v vs. refl) no_stmt xs i x within at

pub stmts_none : statements_view [] ≡ no_stmt
unfolding statements_view
stmts_none = refl

pub statements_bound_none : (w : World) (depth : ℕ) (changes : List Change) (b : Bound) → b ≡ bind_stmts w depth changes (statements_view []) b
statements_bound_none w depth changes b = ap (λ (ss : g.Stmts). bind_stmts w depth changes ss b) (sym stmts_none)

statement_last : (w : World) (depth : ℕ) (changes : List Change) (ss : g.Stmts) (s : g.Stmt) (b : Bound) →
    bind_stmts w depth changes (more_stmt ss s) b ≡ bind_stmts w depth changes (more_stmt no_stmt s) (bind_stmts w depth changes ss b)
statement_last w depth changes ss (g.stmt f t form) b = refl

pub statements_bound_next : (w : World) (depth d : ℕ) (changes : List Change) (xs : List Statement) (i : ℕ) (x : Statement) (first before after : Bound) → i < length xs → x ≡ get_or xs i x → d ≡ depth →
    after ≡ bind_stmts w d changes (more_stmt no_stmt (statement_view x)) before → before ≡ bind_stmts w depth changes (statements_view (take i xs)) first →
    after ≡ bind_stmts w depth changes (statements_view (take (i + 1) xs)) first
statements_bound_next w depth d changes xs i x first before after within at same binds so_far =
    binds ∙ ap (λ (k : ℕ). bind_stmts w k changes (more_stmt no_stmt (statement_view x)) before) same
    ∙ ap (bind_stmts w depth changes (more_stmt no_stmt (statement_view x))) so_far ∙ sym (statement_last w depth changes (statements_view (take i xs)) (statement_view x) first)
    ∙ ap (λ (ss : g.Stmts). bind_stmts w depth changes ss first) (sym (stmts_more xs i x within at))

pub statements_bound_all : (w : World) (depth : ℕ) (changes : List Change) (xs : List Statement) (i : ℕ) (first after : Bound) → length xs ≤ i →
    after ≡ bind_stmts w depth changes (statements_view (take i xs)) first → after ≡ bind_stmts w depth changes (statements_view xs) first
statements_bound_all w depth changes xs i first after long is = is ∙ ap (λ (l : List Statement). bind_stmts w depth changes (statements_view l) first) (take_all i xs long)
