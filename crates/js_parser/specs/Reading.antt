-- What the reader's state stands for.
use Rattle.std.specs.Prelude.{◌≡◌, ℕ, false, List, [], Result, Ok, Err}
use Rattle.js_grammar.specs.Machine.{end_mark}
use Rattle.js_grammar.specs.Nesting.{Nest, is_deep}
use Rattle.js_grammar.specs.Items.{Items, no_item, more_item, item}
use Rattle.js_tree.specs.View.{items_view}
use Rattle.js_tree.specs.declared.items.Module.{Module}
use Rattle.code_law.specs.Frames as machine
use Rattle.code_law.specs.Frames.{Step, typing, go, fault, done, done_items}
use Rattle.code_law.specs.Machine.{step}
use Rattle.type_parser.specs.State as ty
use Rattle.type_parser.specs.declared.read.ParseFault.{ParseFault}
use Rattle.type_parser.specs.declared.read.ParseFault.TheVariants.{At, NoMemory}
use Rattle.type_parser.specs.declared.state.Frame.{Frame as TypeFrame}
use Rattle.code_state.specs.Forms.{mode_view, item_mode_view, waiting_view, alias_view}
use Rattle.code_state.specs.Stack.{items_before, stack_view}
use Rattle.code_state.specs.declared.stack.Stack.{Stack}
use Rattle.js_parser.specs.declared.reading.Reading.{Reading}
use Rattle.js_parser.specs.declared.reading.Reading.TheVariants as reading
use Rattle.js_parser.specs.declared.reading.Halt.{Halt}
use Rattle.js_parser.specs.declared.reading.Halt.TheVariants as halt

-- where an item begins, nothing is open
abbrev pub forms : Stack → Reading → machine.Stack
forms s (reading.Code m) = stack_view s
forms s (reading.Type w m) = stack_view s
forms s (reading.Item m) = []
forms s (reading.Alias h m) = []

abbrev pub phase : Stack → List TypeFrame → Reading → machine.Mode
phase s ts (reading.Code m) = mode_view m
phase s ts (reading.Type w m) = typing (waiting_view w) (ty.stack_view ts) (ty.mode_view m)
phase s ts (reading.Item m) = item_mode_view (items_before s) m
phase s ts (reading.Alias h m) = typing (alias_view (items_before s) h) (ty.stack_view ts) (ty.mode_view m)

-- nothing follows
abbrev pub IsStop : Step → Type 0
IsStop fault = Unit {0}
IsStop (done e) = Unit {0}
IsStop s = ⊥

-- what a token did
abbrev pub Nexts : Stack → List TypeFrame → Result Reading Halt → Step → Type 0
Nexts s ts (Ok r) t = t ≡ go (forms s r) (phase s ts r)
Nexts s ts (Err halt.Stop) t = IsStop t
Nexts s ts (Err halt.Items) t = t ≡ done_items (items_before s)
Nexts s ts (Err halt.NoMemory) t = Unit {0}

-- the token goes on nothing
abbrev pub IsEnd : Step → Type 0
IsEnd (go k m) = ⊥
IsEnd s = Unit {0}

-- what taking a token at a place gives, where n is open behind it: what is open now and what may come next, or the fault there
abbrev pub Takes : ℕ → Nest → Nest → Stack → List TypeFrame → Result Reading ParseFault → Step → Type 0
Takes i n now s ts (Ok r) t = (now ≡ n) × (is_deep n ≡ false) × (t ≡ go (forms s r) (phase s ts r))
Takes i n now s ts (Err (At j)) t = (j ≡ i) × (is_deep n ≡ false → IsEnd t)
Takes i n now s ts (Err NoMemory) t = Unit {0}

-- the place behind the last item
abbrev pub last_end : Items → ℕ
last_end no_item = 0
last_end (more_item is (item f t x)) = t

-- what reading gives where the tokens end at a place
abbrev pub Ends : ℕ → machine.Stack → machine.Mode → Result Module ParseFault → Type 0
Ends i k m (Ok r) = (r.first ≡ 0) × (r.end ≡ last_end (items_view r.items)) × (step i k m end_mark ≡ done_items (items_view r.items))
Ends i k m (Err (At j)) = (j ≡ i) × ((is : Items) → step i k m end_mark ≡ done_items is → ⊥)
Ends i k m (Err NoMemory) = Unit {0}
