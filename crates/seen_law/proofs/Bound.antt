-- What functions and blocks bind leaves the watched expression as it is.
use Rattle.std.proofs.Common.{◌≡◌, ℕ, suc, Bool, true, false, List, ◌∷◌, Option, Some, None, if◌then◌else◌, refl, ◌∙◌}
use Rattle.js_grammar.specs.Types.{Ty, ty}
use Rattle.js_grammar.specs.Code.{Function, function, Sig, sig, parameter, Parameters, no_parameter, more_parameter, Stmts, no_stmt, more_stmt, stmt, StmtForm, declares, function_stmt, does, branches, loop, nested, Declaration, declaration}
use Rattle.check_values.specs.Rows.{Bytes}
use Rattle.check_values.specs.declared.codes.Code.TheVariants.{MissingLocalAnnot, NameAlreadyBound}
use Rattle.type_values.specs.declared.types.FlowType as made
use Rattle.flow_facts.specs.Known.{Known}
use Rattle.typing.specs.Names.{Binding, binds}
use Rattle.typing.specs.Changes.{Change}
use Rattle.typing.specs.States.{World, Seen, Notes, Env, fault_at, name_fault}
use Rattle.typing.specs.TypeFaults.{written}
use Rattle.typing.specs.Functions.{annotation_asked, parameters_read, sig_read, Bound, bind, parameter_binding, bind_parameters, bind_sig, declaration_binding, function_binding, bind_declaration, bind_function, bind_form, bind_stmts, none_bound, end_asked, ended}
use Rattle.seen_law.proofs.Kept.{add_fault_kept, asked_kept, type_kept, annotation_kept, returns_kept}

-- ---- what is asked of parameters

asked_annotation_kept : (w : World) (f : ℕ) (name : Bytes) (x : Option Ty) (n : Notes) → (annotation_asked w f name x n).watched ≡ n.watched
asked_annotation_kept w f name None n = add_fault_kept (fault_at w f (suc f) MissingLocalAnnot name) n
asked_annotation_kept w f name (Some t) n = type_kept w t n

parameters_kept : (w : World) (ps : Parameters) (n : Notes) → (parameters_read w ps n).watched ≡ n.watched
parameters_kept w no_parameter n = refl
parameters_kept w (more_parameter ps (parameter f t name optional annotation)) n = asked_annotation_kept w f name annotation (parameters_read w ps n) ∙ parameters_kept w ps n

pub sig_kept : (w : World) (s : Sig) (n : Notes) → (sig_read w s n).watched ≡ n.watched
sig_kept w (sig f t ps comma result) n = annotation_kept w result (parameters_read w ps n) ∙ parameters_kept w ps n

-- ---- what is bound

either_bound : (b : Bool) (x y : Bound) (v : Option Seen) → x.notes.watched ≡ v → y.notes.watched ≡ v → (if b then x else y).notes.watched ≡ v
either_bound true x y v first second = first
either_bound false x y v first second = second

pub bind_kept : (w : World) (token : ℕ) (b : Binding) (x : Bound) → (bind w token b x).notes.watched ≡ x.notes.watched
bind_kept w token b x =
    either_bound (binds x.names b.name) (record x { notes = name_fault (fault_at w token (suc token) NameAlreadyBound b.name) x.notes }) (record x { names = b ∷ x.names }) x.notes.watched refl refl

bind_parameters_kept : (w : World) (depth : ℕ) (changes : List Change) (ps : Parameters) (x : Bound) → (bind_parameters w depth changes ps x).notes.watched ≡ x.notes.watched
bind_parameters_kept w depth changes no_parameter x = refl
bind_parameters_kept w depth changes (more_parameter ps (parameter f t name optional annotation)) x =
    bind_kept w f (parameter_binding w depth changes (parameter f t name optional annotation)) (bind_parameters w depth changes ps x) ∙ bind_parameters_kept w depth changes ps x

pub bind_sig_kept : (w : World) (depth : ℕ) (changes : List Change) (s : Sig) (x : Bound) → (bind_sig w depth changes s x).notes.watched ≡ x.notes.watched
bind_sig_kept w depth changes (sig f t ps comma result) x = bind_parameters_kept w depth changes ps x

pub bind_declaration_kept : (w : World) (depth : ℕ) (changes : List Change) (d : Declaration) (x : Bound) → (bind_declaration w depth changes d x).notes.watched ≡ x.notes.watched
bind_declaration_kept w depth changes (declaration f t binder name annotation e) x = bind_kept w (suc f) (declaration_binding w depth changes (declaration f t binder name annotation e)) x

pub bind_function_kept : (w : World) (depth : ℕ) (made_by : Function) (x : Bound) → (bind_function w depth made_by x).notes.watched ≡ x.notes.watched
bind_function_kept w depth (function f t None s b) x = refl
bind_function_kept w depth (function f t (Some name) s b) x = bind_kept w (suc f) (function_binding w depth (suc f) name s) x

bind_form_kept : (w : World) (depth : ℕ) (changes : List Change) (form : StmtForm) (x : Bound) → (bind_form w depth changes form x).notes.watched ≡ x.notes.watched
bind_form_kept w depth changes (declares d) x = bind_declaration_kept w depth changes d x
bind_form_kept w depth changes (function_stmt f) x = bind_function_kept w depth f x
bind_form_kept w depth changes (does s) x = refl
bind_form_kept w depth changes (branches bs last) x = refl
bind_form_kept w depth changes (loop e body) x = refl
bind_form_kept w depth changes (nested b) x = refl

pub bind_stmts_kept : (w : World) (depth : ℕ) (changes : List Change) (ss : Stmts) (x : Bound) → (bind_stmts w depth changes ss x).notes.watched ≡ x.notes.watched
bind_stmts_kept w depth changes no_stmt x = refl
bind_stmts_kept w depth changes (more_stmt ss (stmt f t form)) x = bind_form_kept w depth changes form (bind_stmts w depth changes ss x) ∙ bind_stmts_kept w depth changes ss x

-- the parameters of a function
pub entered_kept : (w : World) (depth : ℕ) (changes : List Change) (s : Sig) (n : Notes) → (bind_sig w depth changes s (none_bound (sig_read w s n))).notes.watched ≡ n.watched
entered_kept w depth changes s n = bind_sig_kept w depth changes s (none_bound (sig_read w s n)) ∙ sig_kept w s n

-- and the names of its body
pub body_kept : (w : World) (depth : ℕ) (changes : List Change) (s : Sig) (ss : Stmts) (n : Notes) → (bind_stmts w depth changes ss (bind_sig w depth changes s (none_bound (sig_read w s n)))).notes.watched ≡ n.watched
body_kept w depth changes s ss n = bind_stmts_kept w depth changes ss (bind_sig w depth changes s (none_bound (sig_read w s n))) ∙ entered_kept w depth changes s n

-- ---- the end of a body

end_kept : (w : World) (s : Sig) (facts : Known) (e : Env) → (end_asked w s facts e).notes.watched ≡ e.notes.watched
end_kept w (sig f t ps comma result) None e = refl
end_kept w (sig f t ps comma None) (Some facts) e = returns_kept made.Void e
end_kept w (sig f t ps comma (Some (ty from to lead members))) (Some facts) e = asked_kept w from to (written w (ty from to lead members)) made.Void e.notes

pub ended_kept : (w : World) (s : Sig) (e : Env) → (ended w s e).notes.watched ≡ e.notes.watched
ended_kept w s e = end_kept w s e.facts e
