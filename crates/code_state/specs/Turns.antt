-- What a token does.
use Rattle.std.specs.Prelude.{◌≡◌, []}
use Rattle.js_grammar.specs.Machine as ty
use Rattle.code_tree.specs.View.{expr_view}
use Rattle.code_law.specs.Frames.{Stack as Frames, Step, fault, go, done, done_items, typing}
use Rattle.code_state.specs.Forms.{mode_view, item_mode_view, waiting_view, alias_view}
use Rattle.code_state.specs.Stack.{items_before, stack_view}
use Rattle.code_state.specs.declared.modes.Turn.{Turn}
use Rattle.code_state.specs.declared.modes.Turn.TheVariants as turn
use Rattle.code_state.specs.declared.stack.Stack.{Stack}

-- where an item begins, or holds no code yet, nothing is open
abbrev pub turn_view : Stack → Turn → Step
turn_view s turn.Fault = fault
turn_view s (turn.Go m) = go (stack_view s) (mode_view m)
turn_view s (turn.Type w) = go (stack_view s) (typing (waiting_view w) [] ty.want)
turn_view s (turn.Item m) = go [] (item_mode_view (items_before s) m)
turn_view s (turn.Alias h) = go [] (typing (alias_view (items_before s) h) [] ty.want)
turn_view s (turn.Whole e) = done (expr_view e)
turn_view s turn.Items = done_items (items_before s)

-- whatever is open
abbrev pub Gives : Turn → (Frames → Step) → Type 0
Gives t f = (s : Stack) → turn_view s t ≡ f (stack_view s)
