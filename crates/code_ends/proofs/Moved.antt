-- A step that is known of an equal stack.
use Rattle.std.proofs.Common.{◌≡◌, ◌∙◌, Result, Ok, Err}
use Rattle.std.specs.Prelude.{IfOk}
use Rattle.code_law.specs.Frames.{Stack as Frames, Step}
use Rattle.code_state.specs.Stack.{stack_view}
use Rattle.code_state.specs.Turns.{turn_view, Gives}
use Rattle.code_state.specs.declared.modes.Turn.{Turn}
use Rattle.code_state.specs.declared.stack.Stack.{Stack}

pub ok_moved : {E : Type 0} (r : Result Turn E) (s : Stack) (a b : Step) → IfOk r (λ t. turn_view s t ≡ a) → a ≡ b → IfOk r (λ t. turn_view s t ≡ b)
ok_moved (Ok t) s a b h e = h ∙ e
ok_moved (Err x) s a b h e = tt

pub ok_given : {E : Type 0} (r : Result Turn E) (s : Stack) (f : Frames → Step) (b : Step) → IfOk r (λ t. Gives t f) → f (stack_view s) ≡ b → IfOk r (λ t. turn_view s t ≡ b)
ok_given (Ok t) s f b h e = h s ∙ e
ok_given (Err x) s f b h e = tt
