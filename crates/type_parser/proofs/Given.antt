-- A step that is known for every stack, at the stack that there is.
use Rattle.std.proofs.Common.{◌≡◌, ◌∙◌, ap, List, [], ◌∷◌, ◌++◌, Result, Ok, Err}
use Rattle.std.specs.Prelude.{IfOk}
use Rattle.js_grammar.specs.Machine.{Stack, Step}
use Rattle.type_parser.specs.State.{Gives, turn_view, stack_view, frame_view}
use Rattle.type_parser.specs.declared.state.Turn.{Turn}
use Rattle.type_parser.specs.declared.state.Frame.{Frame}
use Rattle.type_parser.proofs.Pushes.{stack_view-push}

pub ok_given : {E : Type 0} (r : Result Turn E) (fs : List Frame) (f : Stack → Step) (s : Step) → f (stack_view fs) ≡ s → IfOk r (λ t. Gives t f) → IfOk r (λ t. turn_view fs t ≡ s)
ok_given (Ok t) fs f s e h = h fs ∙ e
ok_given (Err x) fs f s e h = tt

pub ok_moved : {E : Type 0} (r : Result Turn E) (fs : List Frame) (a b : Step) → a ≡ b → IfOk r (λ t. turn_view fs t ≡ a) → IfOk r (λ t. turn_view fs t ≡ b)
ok_moved (Ok t) fs a b e h = h ∙ e
ok_moved (Err x) fs a b e h = tt

pub pushed : (new old : List Frame) (f : Frame) → new ≡ old ++ f ∷ [] → stack_view new ≡ frame_view f ∷ stack_view old
pushed new old f e = ap stack_view e ∙ stack_view-push old f
