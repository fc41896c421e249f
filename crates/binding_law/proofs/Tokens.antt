-- The numbers of names are those of the tokens at which they are bound.
use Rattle.std.proofs.Common.{◌≡◌, ◌⊎◌, ◌≤◌, ◌<◌, ℕ, suc, Bool, true, false, List, [], ◌∷◌, ◌++◌, Some, None, cond, bytes_eq, inl, inr, refl, ap, ◌∙◌, arith}
use Rattle.std.specs.List.{AllByRecursion}
use Rattle.std.specs.Option.{is_some}
use Rattle.js_grammar.specs.Code.{ex, function_ex, arrow, function, Sig, sig, parameter, Parameters, no_parameter, more_parameter, arrow_block, arrow_value, block, Stmts, no_stmt, more_stmt, stmt, StmtForm, declares, function_stmt, does, branches, loop, nested, declaration}
use Rattle.js_grammar.specs.TypeFits.{bump}
use Rattle.js_grammar.specs.CodePlaces.{stop_name, stop_named, stop_parameters, stop_sig}
use Rattle.js_grammar.specs.CodeFits.{Context, FitsParameters, FitsSig, FitsStmts, FitsStmtForm}
use Rattle.js_grammar.proofs.Front.{f_annotation, f_parameter, f_named}
use Rattle.check_values.specs.Rows.{Bytes, is_among}
use Rattle.check_values.specs.declared.codes.Code.TheVariants.{NameAlreadyBound}
use Rattle.typing.specs.Changes.{Change, declared_in, names_of_sig, changes_of_ex, changes_of_stmts}
use Rattle.typing.specs.Names.{Binding, Scope, binding_of, binds, number_at, is_const}
use Rattle.typing.specs.States.{World, fault_at, name_fault}
use Rattle.typing.specs.Functions.{Bound, none_bound, bind, parameter_binding, bind_parameters, bind_sig, declaration_binding, function_binding, bind_form, bind_stmts}
use Rattle.binding_law.specs.Pieces.{Piece, an_expression, a_function, a_block, bound_by}
use Rattle.binding_law.specs.Scopes.{IsBody, IsEntered}
use Rattle.binding_law.specs.Placed.{FitsAt}
use Rattle.binding_law.proofs.Changing.{never}
use Rattle.binding_law.proofs.Bound.{sig_binds, statements_bind, body_binds, own_binds}
use Rattle.binding_law.proofs.Finding.{binding_front}
use Rattle.binding_law.proofs.Placed.{rises, bump_rises}
use Rattle.binding_law.proofs.Inside.{Between, IsOwn, IsDeclared, IsDeclaredBy}

-- the number is that of such a token
abbrev pub AtToken : (ℕ → Type 0) → Binding → Type 0
AtToken P b = (constantly : Bool) × (token : ℕ) × (b.number ≡ number_at constantly token) × P token

abbrev pub AllAt : (ℕ → Type 0) → List Binding → Type 0
AllAt P names = AllByRecursion (AtToken P) names

-- where a name is bound in a list, it finds one of it
found_in : (P : Binding → Type 0) (own : List Binding) (name : Bytes) → binds own name ≡ true → AllByRecursion P own → (b : Binding) × (binding_of own name ≡ Some b) × P b
found_in P [] name bound all = never bound
found_in P (b ∷ own) name bound all = go (bytes_eq b.name name) bound (found_in P own name)
  where
    go : (same : Bool) → is_some (cond same (Some b) (binding_of own name)) ≡ true → (binds own name ≡ true → AllByRecursion P own → (c : Binding) × (binding_of own name ≡ Some c) × P c) → (c : Binding) × (cond same (Some b) (binding_of own name) ≡ Some c) × P c
    go true is rest = (b, refl, all.0)
    go false is rest = rest is all.1

module _ (P : ℕ → Type 0) where
  pub bind_at : (w : World) (token : ℕ) (b : Binding) (so_far : Bound) → AtToken P b → AllAt P so_far.names → AllAt P (bind w token b so_far).names
  bind_at w token b so_far at all = go (binds so_far.names b.name)
    where
      go : (bound : Bool) → AllAt P (cond bound (record so_far { notes = name_fault (fault_at w token (suc token) NameAlreadyBound b.name) so_far.notes }) (record so_far { names = b ∷ so_far.names })).names
      go true = all
      go false = (at, all)

  parameters_at : (w : World) (depth : ℕ) (changes : List Change) (ps : Parameters) (i : ℕ) (so_far : Bound) → FitsParameters ps i → ((token : ℕ) → i ≤ token → token < stop_named ps i → P token) → AllAt P so_far.names →
      AllAt P (bind_parameters w depth changes ps so_far).names
  parameters_at w depth changes no_parameter i so_far fits each all = all
  parameters_at w depth changes (more_parameter ps (parameter f t name optional annotation)) i so_far fits each all =
      let k = stop_named ps i in
      let a = rises (f_named ps) i in
      let b = rises (f_parameter (parameter f t name optional annotation)) k in
      bind_at w f (parameter_binding w depth changes (parameter f t name optional annotation)) (bind_parameters w depth changes ps so_far)
      (false, f, refl, (let here = fits.1.0 in each f (omega arith) (omega arith)))
      (parameters_at w depth changes ps i so_far fits.0 (λ token low high. each token low (omega arith)) all)

  -- behind the parameters there is no more than a comma
  named_end : (ps : Parameters) (i : ℕ) → stop_named ps i ≤ suc (stop_parameters ps i)
  named_end no_parameter i = omega arith
  named_end (more_parameter ps p) i = omega arith

  pub sig_at : (w : World) (depth : ℕ) (changes : List Change) (s : Sig) (i : ℕ) (so_far : Bound) → FitsSig s i → ((token : ℕ) → Between i (stop_sig s i) token → P token) → AllAt P so_far.names → AllAt P (bind_sig w depth changes s so_far).names
  sig_at w depth changes (sig f t ps c result) i so_far fits each all =
      let a = named_end ps (suc i) in
      let b = bump_rises c (stop_parameters ps (suc i)) in
      let d = rises (f_annotation result) (suc (bump c (stop_parameters ps (suc i)))) in
      parameters_at w depth changes ps (suc i) so_far fits.2 (λ token low high. each token (omega arith, omega arith)) all

  form_at : (w : World) (depth : ℕ) (changes : List Change) (form : StmtForm) (c : Context) (i : ℕ) (so_far : Bound) → FitsStmtForm form c i → ((token : ℕ) → IsDeclaredBy token form i → P token) → AllAt P so_far.names →
      AllAt P (bind_form w depth changes form so_far).names
  form_at w depth changes (declares (declaration f t binder name annotation e)) c i so_far fits each all =
      bind_at w (suc f) (declaration_binding w depth changes (declaration f t binder name annotation e)) so_far (is_const binder, suc f, refl, each (suc f) (ap suc fits.0)) all
  form_at w depth changes (function_stmt (function f t None s b)) c i so_far fits each all = all
  form_at w depth changes (function_stmt (function f t (Some name) s b)) c i so_far fits each all = bind_at w (suc f) (function_binding w depth (suc f) name s) so_far (true, suc f, refl, each (suc f) (ap suc fits.1.0)) all
  form_at w depth changes (does s) c i so_far fits each all = all
  form_at w depth changes (branches bs last) c i so_far fits each all = all
  form_at w depth changes (loop e body) c i so_far fits each all = all
  form_at w depth changes (nested b) c i so_far fits each all = all

  pub statements_at : (w : World) (depth : ℕ) (changes : List Change) (ss : Stmts) (c : Context) (i : ℕ) (so_far : Bound) → FitsStmts ss c i → ((token : ℕ) → IsDeclared token ss i → P token) → AllAt P so_far.names →
      AllAt P (bind_stmts w depth changes ss so_far).names
  statements_at w depth changes no_stmt c i so_far fits each all = all
  statements_at w depth changes (more_stmt ss (stmt f t form)) c i so_far fits each all =
      form_at w depth changes form c _ (bind_stmts w depth changes ss so_far) fits.1.2 (λ token is. each token (inr is)) (statements_at w depth changes ss c i so_far fits.0 (λ token is. each token (inl is)) all)

  -- ---- in a scope that was entered

  abbrev pub FoundAt : Scope → Bytes → Type 0
  FoundAt scope name = (b : Binding) × (binding_of scope.names name ≡ Some b) × AtToken P b

  pub front_found : (scope : Scope) (own names : List Binding) (name : Bytes) → scope.names ≡ own ++ names → binds own name ≡ true → AllAt P own → FoundAt scope name
  front_found scope own names name is bound all =
      let found = found_in (AtToken P) own name bound all in
      (found.0, ap (λ (l : List Binding). binding_of l name) is ∙ binding_front own names name bound ∙ found.1, found.2)

  body_found : (w : World) (s : Sig) (ss : Stmts) (c : Context) (at_sig at_body : ℕ) (outer scope : Scope) (name : Bytes) → FitsSig s at_sig → FitsStmts ss c at_body →
      ((token : ℕ) → Between at_sig (stop_sig s at_sig) token ⊎ IsDeclared token ss at_body → P token) → IsBody w s ss outer scope → is_among (names_of_sig s ++ declared_in ss) name ≡ true → FoundAt scope name
  body_found w s ss c at_sig at_body outer scope name sig_fits fits each (facts, notes, is) bound =
      let params : Bound = bind_sig w (suc outer.depth) (changes_of_stmts ss) s (none_bound notes) in
      let own : Bound = bind_stmts w (suc outer.depth) (changes_of_stmts ss) ss params in
      front_found scope own.names outer.names name (ap (λ (x : Scope). x.names) is) (body_binds w (suc outer.depth) (changes_of_stmts ss) s ss (none_bound notes) name refl ∙ bound)
      (statements_at w (suc outer.depth) (changes_of_stmts ss) ss c at_body params fits (λ token t. each token (inr t)) (sig_at w (suc outer.depth) (changes_of_stmts ss) s at_sig (none_bound notes) sig_fits (λ token t. each token (inl t)) tt))

pub own_found : (w : World) (p q : Piece) (i : ℕ) (outer scope : Scope) (name : Bytes) → FitsAt p i → IsEntered w p q outer scope → is_among (bound_by p) name ≡ true → FoundAt (λ token. IsOwn token p i) scope name
own_found w (an_expression (ex f t (function_ex (function ff ft None s b)))) q i outer scope name fits is bound = never bound
own_found w (an_expression (ex f t (function_ex (function ff ft (Some own) s b)))) q i outer scope name fits is bound =
    let made_by : Binding = function_binding w outer.depth (suc ff) own s in
    front_found (λ token. IsOwn token (an_expression (ex f t (function_ex (function ff ft (Some own) s b)))) i) scope (made_by ∷ []) outer.names name (ap (λ (x : Scope). x.names) is) (own_binds made_by name ∙ bound)
    ((true, suc ff, refl, ap suc fits.2.0), tt)
own_found w (an_expression (ex f t (arrow s (arrow_block (block bf bt ss))))) q i outer scope name fits is bound =
    body_found (λ token. IsOwn token (an_expression (ex f t (arrow s (arrow_block (block bf bt ss))))) i) w s ss _ i (suc (suc (stop_sig s i))) outer scope name fits.2.1 fits.2.2.2 (λ token own. own) is bound
own_found w (an_expression (ex f t (arrow s (arrow_value e)))) q i outer scope name fits (facts, notes, is) bound =
    let own : Bound = bind_sig w (suc outer.depth) (changes_of_ex e) s (none_bound notes) in
    let P : ℕ → Type 0 = λ token. IsOwn token (an_expression (ex f t (arrow s (arrow_value e)))) i in
    front_found P scope own.names outer.names name (ap (λ (x : Scope). x.names) is) (sig_binds w (suc outer.depth) (changes_of_ex e) s (none_bound notes) name ∙ bound)
    (sig_at P w (suc outer.depth) (changes_of_ex e) s i (none_bound notes) fits.2.1 (λ token own. own) tt)
own_found w (a_function (function f t own s (block bf bt ss))) q i outer scope name fits is bound =
    body_found (λ token. IsOwn token (a_function (function f t own s (block bf bt ss))) i) w s ss _ (stop_name own (suc i)) (suc (stop_sig s (stop_name own (suc i)))) outer scope name fits.3 fits.4.2 (λ token x. x) is bound
own_found w (a_block (block f t ss)) q i outer scope name (c, fits) (env, first, is) bound =
    let own : Bound = bind_stmts w env.scope.depth (changes_of_stmts ss) ss (none_bound env.notes) in
    let P : ℕ → Type 0 = λ token. IsOwn token (a_block (block f t ss)) i in
    front_found P scope own.names env.scope.names name (ap (λ (x : Scope). x.names) is) (statements_bind w env.scope.depth (changes_of_stmts ss) ss (none_bound env.notes) name ∙ bound)
    (statements_at P w env.scope.depth (changes_of_stmts ss) ss c (suc i) (none_bound env.notes) fits.2 (λ token own. own) tt)
own_found w p q i outer scope name fits is bound = never bound
