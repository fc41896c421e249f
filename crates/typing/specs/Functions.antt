-- Functions: their parameters, their types, and the scopes of their bodies and of blocks.
use Rattle.std.specs.Prelude.{ℕ, suc, ◌++◌, ◌&&◌, Bool, true, false, List, [], ◌∷◌, Option, Some, None, unwrap_or, if◌then◌else◌}
use Rattle.js_grammar.specs.Types.{Ty, ty}
use Rattle.js_grammar.specs.Code.{Binder, const, let_word, Function, function, Sig, sig, Parameter, parameter, Parameters, no_parameter, more_parameter, Stmts, no_stmt, more_stmt, stmt, StmtForm, declares, function_stmt, Declaration, declaration}
use Rattle.check_values.specs.Rows.{Bytes}
use Rattle.check_values.specs.declared.codes.Code.TheVariants.{MissingLocalAnnot, NameAlreadyBound}
use Rattle.type_values.specs.declared.types.FlowType.{FlowType}
use Rattle.type_values.specs.declared.types.FlowType as made
use Rattle.type_values.specs.declared.types.Param as value
use Rattle.type_terms.specs.Join.{join_of}
use Rattle.type_terms.specs.Optional.{eff}
use Rattle.flow_facts.specs.Known.{Known, is_constant_number, entered_function}
use Rattle.typing.specs.Names.{Kind, constant, changing, shared, Binding, Scope, number_at, is_const, binds}
use Rattle.typing.specs.Changes.{Change, is_set_inside}
use Rattle.typing.specs.States.{World, Notes, Env, fault_at, add_fault, name_fault, asked, returns}
use Rattle.typing.specs.TypeFaults.{written, annotated, type_read, annotation_read}

-- ---- parameters

-- a parameter without annotation is `any`
abbrev pub param_type : World → Option Ty → FlowType
param_type w annotation = unwrap_or (annotated w annotation) made.Any

-- a parameter in its function's type
abbrev pub param_of : World → Parameter → value.Param
param_of w (parameter f t name optional annotation) = record { optional = optional; ty = param_type w annotation }

abbrev pub params_of : World → Parameters → List value.Param
params_of w no_parameter = []
params_of w (more_parameter ps p) = params_of w ps ++ param_of w p ∷ []

-- a parameter without annotation is a fault at its name
abbrev pub annotation_asked : World → ℕ → Bytes → Option Ty → Notes → Notes
annotation_asked w f name None notes = add_fault (fault_at w f (suc f) MissingLocalAnnot name) notes
annotation_asked w f name (Some t) notes = type_read w t notes

-- the annotations of parameters, from left to right
abbrev pub parameters_read : World → Parameters → Notes → Notes
parameters_read w no_parameter notes = notes
parameters_read w (more_parameter ps (parameter f t name optional annotation)) notes =
    annotation_asked w f name annotation (parameters_read w ps notes)

-- the annotations of a function's parameters and of its result
abbrev pub sig_read : World → Sig → Notes → Notes
sig_read w (sig f t ps comma result) notes = annotation_read w result (parameters_read w ps notes)

-- the annotated result, if there is one
abbrev pub result_of : World → Sig → Option FlowType
result_of w (sig f t ps comma result) = annotated w result

-- the parameters of a function's type
abbrev pub sig_params : World → Sig → List value.Param
sig_params w (sig f t ps comma result) = params_of w ps

-- the type of a function whose body gives this result
abbrev pub function_type : World → Sig → FlowType → FlowType
function_type w s result = made.Function (sig_params w s) (unwrap_or (result_of w s) result)

-- its type where its body was not read: without annotation its result is `any`
abbrev pub declared_function : World → Sig → FlowType
declared_function w s = function_type w s made.Any

-- ---- what a scope binds

-- The names of a scope and the notes: a name that is bound already is a fault, and the first binding counts.
pub record Bound : Type 0 where
  pub names : List Binding
  pub notes : Notes

-- a name at a token is bound
abbrev pub bind : World → ℕ → Binding → Bound → Bound
bind w token b so_far =
    if binds so_far.names b.name
    then record so_far { notes = name_fault (fault_at w token (suc token) NameAlreadyBound b.name) so_far.notes }
    else record so_far { names = b ∷ so_far.names }

-- a variable that changes has no facts where it is assigned in an inner function
abbrev pub changing_kind : List Change → Bytes → Kind
changing_kind changes name = if is_set_inside changes name then shared else changing

-- a `const` is constant, and a `let` may change
abbrev pub kind_by : List Change → Binder → Bytes → Kind
kind_by changes const name = constant
kind_by changes let_word name = changing_kind changes name

-- a parameter in its function's scope, where an optional one may be `void`
abbrev pub parameter_binding : World → ℕ → List Change → Parameter → Binding
parameter_binding w depth changes (parameter f t name optional annotation) =
    record {
      name = name;
      number = number_at false f;
      kind = changing_kind changes name;
      depth = depth;
      is_read = true;
      declared = Some (eff optional (param_type w annotation));
    }

-- parameters, from left to right
abbrev pub bind_parameters : World → ℕ → List Change → Parameters → Bound → Bound
bind_parameters w depth changes no_parameter so_far = so_far
bind_parameters w depth changes (more_parameter ps (parameter f t name optional annotation)) so_far =
    bind w f (parameter_binding w depth changes (parameter f t name optional annotation)) (bind_parameters w depth changes ps so_far)

-- the parameters of a function
abbrev pub bind_sig : World → ℕ → List Change → Sig → Bound → Bound
bind_sig w depth changes (sig f t ps comma result) so_far = bind_parameters w depth changes ps so_far

-- a variable before its declaration was read
abbrev pub declaration_binding : World → ℕ → List Change → Declaration → Binding
declaration_binding w depth changes (declaration f t binder name annotation e) =
    record {
      name = name;
      number = number_at (is_const binder) (suc f);
      kind = kind_by changes binder name;
      depth = depth;
      is_read = false;
      declared = annotated w annotation;
    }

-- a function, which may be used before its declaration
abbrev pub function_binding : World → ℕ → ℕ → Bytes → Sig → Binding
function_binding w depth token name s =
    record { name = name; number = number_at true token; kind = constant; depth = depth; is_read = true; declared = Some (declared_function w s) }

-- what a declaration binds
abbrev pub bind_declaration : World → ℕ → List Change → Declaration → Bound → Bound
bind_declaration w depth changes (declaration f t binder name annotation e) so_far =
    bind w (suc f) (declaration_binding w depth changes (declaration f t binder name annotation e)) so_far

-- what a function's declaration binds
abbrev pub bind_function : World → ℕ → Function → Bound → Bound
bind_function w depth (function f t None s b) so_far = so_far
bind_function w depth (function f t (Some name) s b) so_far = bind w (suc f) (function_binding w depth (suc f) name s) so_far

-- what a statement binds in the scope in which it stands
abbrev pub bind_form : World → ℕ → List Change → StmtForm → Bound → Bound
bind_form w depth changes (declares d) so_far = bind_declaration w depth changes d so_far
bind_form w depth changes (function_stmt f) so_far = bind_function w depth f so_far
bind_form w depth changes form so_far = so_far

-- the statements of a list, in order
abbrev pub bind_stmts : World → ℕ → List Change → Stmts → Bound → Bound
bind_stmts w depth changes no_stmt so_far = so_far
bind_stmts w depth changes (more_stmt ss (stmt f t form)) so_far = bind_form w depth changes form (bind_stmts w depth changes ss so_far)

-- a scope that binds nothing yet
abbrev pub none_bound : Notes → Bound
none_bound notes = record { names = []; notes = notes }

-- ---- entering

-- a block's scope, with the names that it declares, which change in these ways
abbrev pub enter_block : World → List Change → Stmts → Env → Env
enter_block w changes ss env =
    let bound = bind_stmts w env.scope.depth changes ss (none_bound env.notes) in
    record env { scope = record env.scope { names = bound.names ++ env.scope.names }; notes = bound.notes }

-- The scope round a named function expression has its name.
abbrev pub own_scope : World → Option Bytes → ℕ → Sig → Scope → Scope
own_scope w None token s scope = scope
own_scope w (Some name) token s scope =
    record scope { names = function_binding w scope.depth token name s ∷ scope.names }

-- The start of a function's body: bound are its parameters and the names that the body declares.
abbrev pub body_env : World → Sig → Scope → Known → Bound → Env
body_env w s scope facts bound =
    record {
      scope = record { names = bound.names ++ scope.names; depth = suc scope.depth; result = result_of w s };
      facts = facts;
      notes = bound.notes;
      returned = [];
      breaks = None;
    }

-- a function expression or an arrow (true) keeps the facts on constant variables, a declaration none
abbrev pub kept_facts : Bool → Known → Known
kept_facts keeps facts = entered_function (λ number. keeps && is_constant_number number) facts

-- ---- the end of a body

-- where the end is live, `void` is returned
abbrev pub end_asked : World → Sig → Known → Env → Env
end_asked w s None env = env
end_asked w (sig f t ps comma None) (Some facts) env = returns made.Void env
end_asked w (sig f t ps comma (Some (ty from to lead members))) (Some facts) env =
    record env { notes = asked w from to (written w (ty from to lead members)) made.Void env.notes }

-- the end of a body
abbrev pub ended : World → Sig → Env → Env
ended w s env = end_asked w s env.facts env

-- the type of a function whose body was read
abbrev pub function_read : World → Sig → Env → FlowType
function_read w s env = function_type w s (join_of env.returned)
