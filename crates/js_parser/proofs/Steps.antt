-- What a token does in a type, and what that is for the loop.
use Rattle.std.proofs.Common.{◌≡◌, sym, ◌∙◌, ap, subst, ℕ, Bool, true, false, List, Result}
use Rattle.js_token.specs.declared.token.TokenKind.{TokenKind}
use Rattle.js_grammar.specs.Types.{Ty}
use Rattle.js_grammar.specs.Machine as ty
use Rattle.js_grammar.specs.Items.{Items}
use Rattle.code_law.specs.Frames.{Waiting, Mode, typing, Step, go, done_items}
use Rattle.code_law.specs.Frames as machine
use Rattle.code_law.specs.Expressions.{takes_function, inside, after_type}
use Rattle.code_law.specs.Machine.{step}
use Rattle.code_state.specs.declared.stack.Stack.{Stack}
use Rattle.type_parser.specs.declared.state.Frame.{Frame}
use Rattle.type_parser.proofs.Pushes.{stack_view-empty}
use Rattle.js_parser.specs.Reading.{IsStop, IsEnd, Nexts}
use Rattle.js_parser.specs.declared.reading.Halt.{Halt}
use Rattle.js_parser.specs.declared.reading.Reading.{Reading}

in_type : (i : ℕ) (k : machine.Stack) (w : Waiting) (a : ty.Stack) (m : ty.Mode) (x : TokenKind) (b : Bool) (s : ty.Step) → b ≡ takes_function w → s ≡ ty.step b i a m x → step i k (typing w a m) x ≡ inside i k w s x
in_type i k w a m x b s e f = ap (λ s. inside i k w s x) (sym (f ∙ ap (λ b. ty.step b i a m x) e))

pub type_fault : (i : ℕ) (k : machine.Stack) (w : Waiting) (a : ty.Stack) (m : ty.Mode) (x : TokenKind) (b : Bool) → b ≡ takes_function w → ty.fault ≡ ty.step b i a m x → IsStop (step i k (typing w a m) x)
type_fault i k w a m x b e f = subst IsStop (sym (in_type i k w a m x b ty.fault e f)) tt

pub type_go : (i : ℕ) (k : machine.Stack) (w : Waiting) (a : ty.Stack) (m : ty.Mode) (x : TokenKind) (b : Bool) (c : ty.Stack) (n : ty.Mode) → b ≡ takes_function w → ty.go c n ≡ ty.step b i a m x → step i k (typing w a m) x ≡ go k (typing w c n)
type_go i k w a m x b c n e f = in_type i k w a m x b (ty.go c n) e f

pub type_done : (i : ℕ) (k : machine.Stack) (w : Waiting) (a : ty.Stack) (m : ty.Mode) (x : TokenKind) (b : Bool) (t : Ty) → b ≡ takes_function w → ty.done t ≡ ty.step b i a m x → step i k (typing w a m) x ≡ after_type i k w t x
type_done i k w a m x b t e f = in_type i k w a m x b (ty.done t) e f

pub nexts_is : (s : Stack) (ts : List Frame) (n : Result Reading Halt) (t u : Step) → Nexts s ts n t → t ≡ u → Nexts s ts n u
nexts_is s ts n t u h e = subst (Nexts s ts n) e h

-- what ended is no end of the items
pub stop_no_items : (s : Step) (is : Items) → IsStop s → s ≡ done_items is → ⊥
stop_no_items s is h e = subst IsStop e h

pub go_no_items : (s : Step) (k : machine.Stack) (m : Mode) (is : Items) → s ≡ go k m → s ≡ done_items is → ⊥
go_no_items s k m is e f = absurd (let z : go k m ≡ done_items is = sym e ∙ f in cc)

pub ruleset types = (type_fault, type_go, type_done, nexts_is)

pub ruleset ends = (stop_no_items, go_no_items)

-- a type begins with nothing open
pub ruleset starts = (stack_view-empty)

-- what stops reading
pub stop_ends : (s : Step) → IsStop s → IsEnd s
stop_ends machine.fault h = tt
stop_ends (machine.done e) h = tt
stop_ends (machine.go k m) h = absurd h
stop_ends (done_items is) h = tt

pub items_end : (s : Step) (is : Items) → s ≡ done_items is → IsEnd s
items_end s is e = subst IsEnd (sym e) tt

pub deep_no : (b : Bool) (s : Step) → b ≡ true → b ≡ false → IsEnd s
deep_no b s e f = absurd (let z : true ≡ false = sym e ∙ f in cc)

pub ruleset takes = (stop_ends, items_end, deep_no)
