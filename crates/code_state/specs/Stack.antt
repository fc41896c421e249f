-- What the open forms stand for.
use Rattle.std.specs.Prelude.{◌≡◌, ℕ, Bool, true, false, List, [], ◌∷◌, length}
use Rattle.js_grammar.specs.Items as g
use Rattle.js_tree.specs.View.{items_view}
use Rattle.code_law.specs.Frames as machine
use Rattle.code_state.specs.Forms.{wrap_view, frame_view, body_frame_view}
use Rattle.code_state.specs.declared.frames.Entry.{Entry}
use Rattle.code_state.specs.declared.frames.Nearest.{Nearest}
use Rattle.code_state.specs.declared.frames.Nearest.TheVariants as nearest
use Rattle.code_state.specs.declared.stack.Bottom.{Bottom}
use Rattle.code_state.specs.declared.stack.Bottom.TheVariants as bottom
use Rattle.code_state.specs.declared.stack.Stack.{Stack}
use Rattle.code_state.specs.declared.stack.Top.{Top}
use Rattle.code_state.specs.declared.stack.Top.TheVariants as taken

-- what is lowest, behind these items
abbrev pub bottom_stack : g.Items → Bottom → machine.Stack
bottom_stack is bottom.Nothing = []
bottom_stack is (bottom.Item a w) = machine.in_item a (wrap_view w) is ∷ []
bottom_stack is (bottom.Default a) = machine.in_default a is ∷ []

-- the last entry is the top
abbrev pub stacked : machine.Stack → List Entry → machine.Stack
stacked k [] = k
stacked k (e ∷ es) = stacked (frame_view e.frame ∷ k) es

-- the items before all open forms
abbrev pub items_before : Stack → g.Items
items_before s = items_view s.items

abbrev pub lowest : Stack → machine.Stack
lowest s = bottom_stack (items_before s) s.bottom

unfoldable pub stack_view : Stack → machine.Stack
stack_view s = stacked (lowest s) s.entries.items

abbrev pub depth : Stack → ℕ
depth s = length s.entries.items

-- whether a form inside of an item is open
abbrev pub is_open : machine.Stack → Bool
is_open [] = false
is_open (machine.in_item a w is ∷ k) = false
is_open (machine.in_default a is ∷ k) = false
is_open (f ∷ k) = true

-- whether the innermost form waits for statements
abbrev pub waits_statement : machine.Frame → Bool
waits_statement (machine.in_function q s n g) = true
waits_statement (machine.in_body g) = true
waits_statement (machine.in_block s ss) = true
waits_statement (machine.in_if s bs a e) = true
waits_statement (machine.in_else s bs) = true
waits_statement (machine.in_loop s e) = true
waits_statement f = false

abbrev pub IsOther : machine.Stack → Type 0
IsOther [] = Unit {0}
IsOther (f ∷ k) = waits_statement f ≡ false

-- what is taken of the stack, and what is left
abbrev pub IsTaken : machine.Stack → machine.Stack → Top → Type 0
IsTaken old new (taken.Body f) = old ≡ body_frame_view f ∷ new
IsTaken old new taken.Other = IsOther old
IsTaken old new taken.Bottom = IsOther old

-- what the innermost form is
abbrev pub nearest_of : machine.Stack → Nearest
nearest_of (machine.in_prefix s ps ∷ k) = nearest.Prefix
nearest_of (machine.in_chain s p f os d o ∷ k) = nearest.Chain
nearest_of (machine.in_last s hs ∷ k) = nearest.Last
nearest_of k = nearest.Other

abbrev pub is_prefix : Nearest → Bool
is_prefix nearest.Prefix = true
is_prefix n = false

abbrev pub is_last : Nearest → Bool
is_last nearest.Last = true
is_last n = false
