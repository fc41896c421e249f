-- The open forms grow at their end, and what is kept beside them is what the machine looks up in them.
use Rattle.std.proofs.Common.{◌≡◌, refl, sym, ◌∙◌, ap, subst, ℕ, suc, arith, List, [], ◌∷◌, ◌++◌, true, false, not, length}
use Rattle.std.specs.Prelude.{map, ◌==◌}
use Rattle.std.proofs.lemmas.Bool.Decides.{nat_tests}
use Rattle.js_grammar.specs.CodeFits as g
use Rattle.js_grammar.specs.Items.{Items, top_context}
use Rattle.js_tree.specs.View.{items_view}
use Rattle.code_law.specs.Frames as machine
use Rattle.code_law.specs.Frames.{context, within_function, within_loop}
use Rattle.code_law.specs.Expressions.{may_arrow}
use Rattle.code_state.specs.Forms.{operator_frame_view, tail_view, inner_view, value_frame_view, body_frame_view, frame_view}
use Rattle.code_state.specs.Places.{top, entered, within, befores, takes_arrow}
use Rattle.code_state.specs.Stack.{bottom_stack, stacked, stack_view, is_open, waits_statement, IsOther, nearest_of}
use Rattle.code_state.specs.declared.frames.Nearest.TheVariants as nearest
use Rattle.code_state.specs.declared.frames.Place.{Place}
use Rattle.code_tree.specs.declared.types.Operator.{Operator}
use Rattle.code_tree.specs.declared.types.Signature.{Signature}
use Rattle.code_state.specs.declared.frames.OpenChain.{OpenChain}
use Rattle.code_state.specs.declared.frames.OperatorFrame.{OperatorFrame}
use Rattle.code_state.specs.declared.frames.OperatorFrame.TheVariants as operator
use Rattle.code_state.specs.declared.frames.TailFrame.{TailFrame}
use Rattle.code_state.specs.declared.frames.TailFrame.TheVariants as tail
use Rattle.code_state.specs.declared.frames.InnerFrame.{InnerFrame}
use Rattle.code_state.specs.declared.frames.ValueFrame.{ValueFrame}
use Rattle.code_state.specs.declared.frames.InnerFrame.TheVariants as inner
use Rattle.code_state.specs.declared.frames.ValueFrame.TheVariants as value_frame
use Rattle.code_state.specs.declared.frames.BodyFrame.{BodyFrame}
use Rattle.code_state.specs.declared.frames.BodyFrame.TheVariants as body
use Rattle.code_state.specs.declared.frames.Frame.{Frame}
use Rattle.code_state.specs.declared.frames.Frame.TheVariants as frame
use Rattle.code_state.specs.declared.frames.Entry.{Entry}
use Rattle.code_state.specs.declared.stack.Bottom.{Bottom}
use Rattle.code_state.specs.declared.stack.Bottom.TheVariants as bottom
use Rattle.code_state.specs.declared.stack.Stack.{Stack}

pub stacked-push : (k : machine.Stack) (es : List Entry) (e : Entry) → stacked k (es ++ e ∷ []) ≡ frame_view e.frame ∷ stacked k es
stacked-push k [] e = refl
stacked-push k (d ∷ es) e = stacked-push (frame_view d.frame ∷ k) es e

pub within-push : (p : Place) (es : List Entry) (e : Entry) → within p (es ++ e ∷ []) ≡ entered (within p es) e.frame
within-push p [] e = refl
within-push p (d ∷ es) e = within-push (entered p d.frame) es e

pub befores-push : (p : Place) (es : List Entry) (e : Entry) → befores p (es ++ e ∷ []) ≡ befores p es ++ within p es ∷ []
befores-push p [] e = refl
befores-push p (d ∷ es) e = ap (λ ps. p ∷ ps) (befores-push (entered p d.frame) es e)

pub kept-push : (es : List Entry) (e : Entry) → map (λ e. e.before) (es ++ e ∷ []) ≡ map (λ e. e.before) es ++ e.before ∷ []
kept-push [] e = refl
kept-push (d ∷ es) e = ap (λ ps. d.before ∷ ps) (kept-push es e)

-- a place further inside
context-entered : (p : Place) (k : machine.Stack) (f : Frame) → g.inside p.in_function p.in_loop ≡ context k →
    g.inside (entered p f).in_function (entered p f).in_loop ≡ context (frame_view f ∷ k)
context-entered p k (frame.Operator (operator.Prefix s ps)) e = e
context-entered p k (frame.Operator (operator.Chain c d o)) e = e
context-entered p k (frame.Tail (tail.Last s hs)) e = e
context-entered p k (frame.Tail (tail.Arrow g)) e = e
context-entered p k (frame.Inner (inner.Branch s hs x)) e = e
context-entered p k (frame.Inner (inner.Paren s)) e = e
context-entered p k (frame.Inner (inner.Row r es)) e = e
context-entered p k (frame.Inner (inner.Index b s)) e = e
context-entered p k (frame.Inner (inner.Field s fs y)) e = e
context-entered p k (frame.Value (value_frame.Simple s v)) e = e
context-entered p k (frame.Value (value_frame.Declaration d t)) e = e
context-entered p k (frame.Value (value_frame.IfTest b a)) e = e
context-entered p k (frame.Value (value_frame.LoopTest s)) e = e
context-entered p k (frame.Body (body.Function h s)) e = refl
context-entered p k (frame.Body (body.Arrow s)) e = refl
context-entered p k (frame.Body (body.Block b)) e = e
context-entered p k (frame.Body (body.If b a x)) e = e
context-entered p k (frame.Body (body.Else b)) e = e
context-entered p k (frame.Body (body.Loop s x)) e = ap g.looping e

context-within : (p : Place) (k : machine.Stack) (es : List Entry) → g.inside p.in_function p.in_loop ≡ context k →
    g.inside (within p es).in_function (within p es).in_loop ≡ context (stacked k es)
context-within p k [] e = e
context-within p k (d ∷ es) e = context-within (entered p d.frame) (frame_view d.frame ∷ k) es (context-entered p k d.frame e)

nearest-entered : (p : Place) (k : machine.Stack) (f : Frame) → (entered p f).nearest ≡ nearest_of (frame_view f ∷ k)
nearest-entered p k (frame.Operator (operator.Prefix s ps)) = refl
nearest-entered p k (frame.Operator (operator.Chain c d o)) = refl
nearest-entered p k (frame.Tail (tail.Last s hs)) = refl
nearest-entered p k (frame.Tail (tail.Arrow g)) = refl
nearest-entered p k (frame.Inner (inner.Branch s hs x)) = refl
nearest-entered p k (frame.Inner (inner.Paren s)) = refl
nearest-entered p k (frame.Inner (inner.Row r es)) = refl
nearest-entered p k (frame.Inner (inner.Index b s)) = refl
nearest-entered p k (frame.Inner (inner.Field s fs y)) = refl
nearest-entered p k (frame.Value (value_frame.Simple s v)) = refl
nearest-entered p k (frame.Value (value_frame.Declaration d t)) = refl
nearest-entered p k (frame.Value (value_frame.IfTest b a)) = refl
nearest-entered p k (frame.Value (value_frame.LoopTest s)) = refl
nearest-entered p k (frame.Body (body.Function h s)) = refl
nearest-entered p k (frame.Body (body.Arrow s)) = refl
nearest-entered p k (frame.Body (body.Block b)) = refl
nearest-entered p k (frame.Body (body.If b a x)) = refl
nearest-entered p k (frame.Body (body.Else b)) = refl
nearest-entered p k (frame.Body (body.Loop s x)) = refl

nearest-within : (p : Place) (k : machine.Stack) (es : List Entry) → p.nearest ≡ nearest_of k → (within p es).nearest ≡ nearest_of (stacked k es)
nearest-within p k [] e = e
nearest-within p k (d ∷ es) e = nearest-within (entered p d.frame) (frame_view d.frame ∷ k) es (nearest-entered p k d.frame)

context-bottom : (is : Items) (b : Bottom) → top_context ≡ context (bottom_stack is b)
context-bottom is bottom.Nothing = refl
context-bottom is (bottom.Item a w) = refl
context-bottom is (bottom.Default a) = refl

nearest-bottom : (is : Items) (b : Bottom) → nearest.Other ≡ nearest_of (bottom_stack is b)
nearest-bottom is bottom.Nothing = refl
nearest-bottom is (bottom.Item a w) = refl
nearest-bottom is (bottom.Default a) = refl

-- where a token stands in all open forms
pub place-context : (s : Stack) (p : Place) → p ≡ within top s.entries.items → g.inside p.in_function p.in_loop ≡ context (stack_view s)
unfolding stack_view
place-context s p e = ap (λ p. g.inside p.in_function p.in_loop) e ∙ context-within top (bottom_stack (items_view s.items) s.bottom) s.entries.items (context-bottom (items_view s.items) s.bottom)

pub place-function : (s : Stack) (p : Place) → p ≡ within top s.entries.items → p.in_function ≡ within_function (context (stack_view s))
place-function s p e = ap within_function (place-context s p e)

pub place-loop : (s : Stack) (p : Place) → p ≡ within top s.entries.items → p.in_loop ≡ within_loop (context (stack_view s))
place-loop s p e = ap within_loop (place-context s p e)

pub place-nearest : (s : Stack) (p : Place) → p ≡ within top s.entries.items → p.nearest ≡ nearest_of (stack_view s)
unfolding stack_view
place-nearest s p e = ap (λ p. p.nearest) e ∙ nearest-within top (bottom_stack (items_view s.items) s.bottom) s.entries.items (nearest-bottom (items_view s.items) s.bottom)

takes-arrow : (k : machine.Stack) → takes_arrow (nearest_of k) ≡ may_arrow k
takes-arrow [] = refl
takes-arrow (machine.in_prefix s ps ∷ k) = refl
takes-arrow (machine.in_chain s p f os d o ∷ k) = refl
takes-arrow (machine.in_last s hs ∷ k) = refl
takes-arrow (machine.in_branch s hs e ∷ k) = refl
takes-arrow (machine.in_parens s ∷ k) = refl
takes-arrow (machine.in_row r es ∷ k) = refl
takes-arrow (machine.in_index e ls s ∷ k) = refl
takes-arrow (machine.in_field s fs y ∷ k) = refl
takes-arrow (machine.in_arrow g ∷ k) = refl
takes-arrow (machine.in_body g ∷ k) = refl
takes-arrow (machine.in_simple s v ∷ k) = refl
takes-arrow (machine.in_declaration s w n t ∷ k) = refl
takes-arrow (machine.in_if_test s bs a ∷ k) = refl
takes-arrow (machine.in_loop_test s ∷ k) = refl
takes-arrow (machine.in_if s bs a e ∷ k) = refl
takes-arrow (machine.in_else s bs ∷ k) = refl
takes-arrow (machine.in_loop s e ∷ k) = refl
takes-arrow (machine.in_function q s n g ∷ k) = refl
takes-arrow (machine.in_block s ss ∷ k) = refl
takes-arrow (machine.in_item a w is ∷ k) = refl
takes-arrow (machine.in_default a is ∷ k) = refl

pub place-arrow : (s : Stack) (p : Place) → p ≡ within top s.entries.items → takes_arrow p.nearest ≡ may_arrow (stack_view s)
place-arrow s p e = ap takes_arrow (place-nearest s p e) ∙ takes-arrow (stack_view s)

snoc-none : {A : Type 0} (b : A) (ys : List A) (x y : A) → x ∷ [] ≡ b ∷ (ys ++ y ∷ []) → ⊥
snoc-none b [] x y e = let h : [] ≡ y ∷ [] = cc in absurd cc
snoc-none b (c ∷ ys) x y e = let h : [] ≡ c ∷ (ys ++ y ∷ []) = cc in absurd cc

-- what is left where the last form goes
snoc-both : {A : Type 0} (xs ys : List A) (x y : A) → xs ++ x ∷ [] ≡ ys ++ y ∷ [] → (xs ≡ ys) × (x ≡ y)
snoc-both [] [] x y e = (refl, cc)
snoc-both [] (b ∷ ys) x y e = absurd (snoc-none b ys x y e)
snoc-both (a ∷ xs) [] x y e = absurd (snoc-none a xs y x (sym e))
snoc-both (a ∷ xs) (b ∷ ys) x y e =
    let h : (a ≡ b) × (xs ++ x ∷ [] ≡ ys ++ y ∷ []) = (cc, cc) in
    let r = snoc-both xs ys x y (h.1) in
    (rw (h.0) (ap (λ l. b ∷ l) (r.0)), r.1)

pub left-kept : (es : List Entry) (e : Entry) (p : Place) → map (λ e. e.before) (es ++ e ∷ []) ≡ befores p (es ++ e ∷ []) → (map (λ e. e.before) es ≡ befores p es) × (e.before ≡ within p es)
left-kept es e p h = snoc-both _ _ _ _ (sym (kept-push es e) ∙ h ∙ befores-push p es e)

pub left-befores : (all es : List Entry) (e : Entry) (p : Place) → all ≡ es ++ e ∷ [] → map (λ e. e.before) all ≡ befores p all → map (λ e. e.before) es ≡ befores p es
left-befores all es e p a h = (left-kept es e p (rw a at h)).0

pub left-place : (all es : List Entry) (e : Entry) (p : Place) → all ≡ es ++ e ∷ [] → map (λ e. e.before) all ≡ befores p all → e.before ≡ within p es
left-place all es e p a h = (left-kept es e p (rw a at h)).1

pub ruleset stacks = (stacked-push, within-push, befores-push, kept-push, left-befores, left-place)

pub ruleset looks = (place-function, place-loop, place-nearest, place-arrow)

some_length : (n : ℕ) → (suc n == 0) ≡ false
some_length n = grind (arith, nat_tests)

open-frame : (f : Frame) (k : machine.Stack) → is_open (frame_view f ∷ k) ≡ true
open-frame (frame.Operator (operator.Prefix s ps)) k = refl
open-frame (frame.Operator (operator.Chain c d o)) k = refl
open-frame (frame.Tail (tail.Last s hs)) k = refl
open-frame (frame.Tail (tail.Arrow g)) k = refl
open-frame (frame.Inner (inner.Branch s hs x)) k = refl
open-frame (frame.Inner (inner.Paren s)) k = refl
open-frame (frame.Inner (inner.Row r es)) k = refl
open-frame (frame.Inner (inner.Index b s)) k = refl
open-frame (frame.Inner (inner.Field s fs y)) k = refl
open-frame (frame.Value (value_frame.Simple s v)) k = refl
open-frame (frame.Value (value_frame.Declaration d t)) k = refl
open-frame (frame.Value (value_frame.IfTest b a)) k = refl
open-frame (frame.Value (value_frame.LoopTest s)) k = refl
open-frame (frame.Body (body.Function h s)) k = refl
open-frame (frame.Body (body.Arrow s)) k = refl
open-frame (frame.Body (body.Block b)) k = refl
open-frame (frame.Body (body.If b a x)) k = refl
open-frame (frame.Body (body.Else b)) k = refl
open-frame (frame.Body (body.Loop s x)) k = refl

open-more : (k : machine.Stack) (e : Entry) (es : List Entry) → is_open (stacked k (e ∷ es)) ≡ true
open-more k e [] = open-frame e.frame k
open-more k e (d ∷ es) = open-more (frame_view e.frame ∷ k) d es

pub open-some : (k : machine.Stack) (es : List Entry) → (length es == 0) ≡ false → is_open (stacked k es) ≡ true
open-some k [] h = absurd (let z : true ≡ false = h in cc)
open-some k (e ∷ es) h = open-more k e es

pub none-open : (k : machine.Stack) (es : List Entry) → (length es == 0) ≡ true → stacked k es ≡ k
none-open k [] h = refl
none-open k (e ∷ es) h = absurd (let z : false ≡ true = sym (some_length (length es)) ∙ h in cc)

other-inner : (f : InnerFrame) → waits_statement (inner_view f) ≡ false
other-inner (inner.Branch s hs x) = refl
other-inner (inner.Paren s) = refl
other-inner (inner.Row r es) = refl
other-inner (inner.Index b s) = refl
other-inner (inner.Field s fs y) = refl

other-operator : (f : OperatorFrame) → waits_statement (operator_frame_view f) ≡ false
other-operator (operator.Prefix s ps) = refl
other-operator (operator.Chain c d o) = refl

other-tail : (f : TailFrame) → waits_statement (tail_view f) ≡ false
other-tail (tail.Last s hs) = refl
other-tail (tail.Arrow g) = refl

other-value : (f : ValueFrame) → waits_statement (value_frame_view f) ≡ false
other-value (value_frame.Simple s v) = refl
other-value (value_frame.Declaration d t) = refl
other-value (value_frame.IfTest b a) = refl
other-value (value_frame.LoopTest s) = refl

pub taken-operator : (f : OperatorFrame) (k old : machine.Stack) → old ≡ operator_frame_view f ∷ k → IsOther old
taken-operator f k old e = subst IsOther (sym e) (other-operator f)

pub taken-tail : (f : TailFrame) (k old : machine.Stack) → old ≡ tail_view f ∷ k → IsOther old
taken-tail f k old e = subst IsOther (sym e) (other-tail f)

pub taken-inner : (f : InnerFrame) (k old : machine.Stack) → old ≡ inner_view f ∷ k → IsOther old
taken-inner f k old e = subst IsOther (sym e) (other-inner f)

pub taken-value : (f : ValueFrame) (k old : machine.Stack) → old ≡ value_frame_view f ∷ k → IsOther old
taken-value f k old e = subst IsOther (sym e) (other-value f)

pub taken-bottom : (is : Items) (b : Bottom) (old : machine.Stack) → old ≡ bottom_stack is b → IsOther old
taken-bottom is bottom.Nothing old e = subst IsOther (sym e) tt
taken-bottom is (bottom.Item a w) old e = subst IsOther (sym e) refl
taken-bottom is (bottom.Default a) old e = subst IsOther (sym e) refl

pub ruleset taken = (taken-operator, taken-tail, taken-inner, taken-value, taken-bottom)

pub ruleset bottoms = (open-some, none-open)

-- what the innermost form is not, where it was looked up
pub no-operator : (f : OperatorFrame) (k old : machine.Stack) → old ≡ operator_frame_view f ∷ k → nearest_of old ≡ nearest.Last → ⊥
no-operator (operator.Prefix s ps) k old e h = absurd (let z : nearest.Prefix ≡ nearest.Last = sym (ap nearest_of e) ∙ h in cc)
no-operator (operator.Chain c d o) k old e h = absurd (let z : nearest.Chain ≡ nearest.Last = sym (ap nearest_of e) ∙ h in cc)

pub no-chain : (c : OpenChain) (d : ℕ) (o : Operator) (k old : machine.Stack) → old ≡ operator_frame_view (operator.Chain c d o) ∷ k → nearest_of old ≡ nearest.Prefix → ⊥
no-chain c d o k old e h = absurd (let z : nearest.Chain ≡ nearest.Prefix = sym (ap nearest_of e) ∙ h in cc)

pub no-arrow : (g : Signature) (k old : machine.Stack) → old ≡ tail_view (tail.Arrow g) ∷ k → nearest_of old ≡ nearest.Last → ⊥
no-arrow g k old e h = absurd (let z : nearest.Other ≡ nearest.Last = sym (ap nearest_of e) ∙ h in cc)

pub no-tail-prefix : (f : TailFrame) (k old : machine.Stack) → old ≡ tail_view f ∷ k → nearest_of old ≡ nearest.Prefix → ⊥
no-tail-prefix (tail.Last s hs) k old e h = absurd (let z : nearest.Last ≡ nearest.Prefix = sym (ap nearest_of e) ∙ h in cc)
no-tail-prefix (tail.Arrow g) k old e h = absurd (let z : nearest.Other ≡ nearest.Prefix = sym (ap nearest_of e) ∙ h in cc)

pub no-tail-operator : (f : TailFrame) (k old : machine.Stack) → old ≡ tail_view f ∷ k → may_arrow old ≡ false → ⊥
no-tail-operator (tail.Last s hs) k old e h = absurd (let z : true ≡ false = sym (ap may_arrow e) ∙ h in cc)
no-tail-operator (tail.Arrow g) k old e h = absurd (let z : true ≡ false = sym (ap may_arrow e) ∙ h in cc)

pub no-inner-last : (f : InnerFrame) (k old : machine.Stack) → old ≡ inner_view f ∷ k → nearest_of old ≡ nearest.Last → ⊥
no-inner-last (inner.Branch s hs x) k old e h = absurd (let z : nearest.Other ≡ nearest.Last = sym (ap nearest_of e) ∙ h in cc)
no-inner-last (inner.Paren s) k old e h = absurd (let z : nearest.Other ≡ nearest.Last = sym (ap nearest_of e) ∙ h in cc)
no-inner-last (inner.Row r es) k old e h = absurd (let z : nearest.Other ≡ nearest.Last = sym (ap nearest_of e) ∙ h in cc)
no-inner-last (inner.Index b s) k old e h = absurd (let z : nearest.Other ≡ nearest.Last = sym (ap nearest_of e) ∙ h in cc)
no-inner-last (inner.Field s fs y) k old e h = absurd (let z : nearest.Other ≡ nearest.Last = sym (ap nearest_of e) ∙ h in cc)

pub no-inner-prefix : (f : InnerFrame) (k old : machine.Stack) → old ≡ inner_view f ∷ k → nearest_of old ≡ nearest.Prefix → ⊥
no-inner-prefix (inner.Branch s hs x) k old e h = absurd (let z : nearest.Other ≡ nearest.Prefix = sym (ap nearest_of e) ∙ h in cc)
no-inner-prefix (inner.Paren s) k old e h = absurd (let z : nearest.Other ≡ nearest.Prefix = sym (ap nearest_of e) ∙ h in cc)
no-inner-prefix (inner.Row r es) k old e h = absurd (let z : nearest.Other ≡ nearest.Prefix = sym (ap nearest_of e) ∙ h in cc)
no-inner-prefix (inner.Index b s) k old e h = absurd (let z : nearest.Other ≡ nearest.Prefix = sym (ap nearest_of e) ∙ h in cc)
no-inner-prefix (inner.Field s fs y) k old e h = absurd (let z : nearest.Other ≡ nearest.Prefix = sym (ap nearest_of e) ∙ h in cc)

pub no-inner-operator : (f : InnerFrame) (k old : machine.Stack) → old ≡ inner_view f ∷ k → may_arrow old ≡ false → ⊥
no-inner-operator (inner.Branch s hs x) k old e h = absurd (let z : true ≡ false = sym (ap may_arrow e) ∙ h in cc)
no-inner-operator (inner.Paren s) k old e h = absurd (let z : true ≡ false = sym (ap may_arrow e) ∙ h in cc)
no-inner-operator (inner.Row r es) k old e h = absurd (let z : true ≡ false = sym (ap may_arrow e) ∙ h in cc)
no-inner-operator (inner.Index b s) k old e h = absurd (let z : true ≡ false = sym (ap may_arrow e) ∙ h in cc)
no-inner-operator (inner.Field s fs y) k old e h = absurd (let z : true ≡ false = sym (ap may_arrow e) ∙ h in cc)

pub no-value-last : (f : ValueFrame) (k old : machine.Stack) → old ≡ value_frame_view f ∷ k → nearest_of old ≡ nearest.Last → ⊥
no-value-last (value_frame.Simple s v) k old e h = absurd (let z : nearest.Other ≡ nearest.Last = sym (ap nearest_of e) ∙ h in cc)
no-value-last (value_frame.Declaration d t) k old e h = absurd (let z : nearest.Other ≡ nearest.Last = sym (ap nearest_of e) ∙ h in cc)
no-value-last (value_frame.IfTest b a) k old e h = absurd (let z : nearest.Other ≡ nearest.Last = sym (ap nearest_of e) ∙ h in cc)
no-value-last (value_frame.LoopTest s) k old e h = absurd (let z : nearest.Other ≡ nearest.Last = sym (ap nearest_of e) ∙ h in cc)

pub no-value-prefix : (f : ValueFrame) (k old : machine.Stack) → old ≡ value_frame_view f ∷ k → nearest_of old ≡ nearest.Prefix → ⊥
no-value-prefix (value_frame.Simple s v) k old e h = absurd (let z : nearest.Other ≡ nearest.Prefix = sym (ap nearest_of e) ∙ h in cc)
no-value-prefix (value_frame.Declaration d t) k old e h = absurd (let z : nearest.Other ≡ nearest.Prefix = sym (ap nearest_of e) ∙ h in cc)
no-value-prefix (value_frame.IfTest b a) k old e h = absurd (let z : nearest.Other ≡ nearest.Prefix = sym (ap nearest_of e) ∙ h in cc)
no-value-prefix (value_frame.LoopTest s) k old e h = absurd (let z : nearest.Other ≡ nearest.Prefix = sym (ap nearest_of e) ∙ h in cc)

pub no-value-operator : (f : ValueFrame) (k old : machine.Stack) → old ≡ value_frame_view f ∷ k → may_arrow old ≡ false → ⊥
no-value-operator (value_frame.Simple s v) k old e h = absurd (let z : true ≡ false = sym (ap may_arrow e) ∙ h in cc)
no-value-operator (value_frame.Declaration d t) k old e h = absurd (let z : true ≡ false = sym (ap may_arrow e) ∙ h in cc)
no-value-operator (value_frame.IfTest b a) k old e h = absurd (let z : true ≡ false = sym (ap may_arrow e) ∙ h in cc)
no-value-operator (value_frame.LoopTest s) k old e h = absurd (let z : true ≡ false = sym (ap may_arrow e) ∙ h in cc)

pub no-body-last : (f : BodyFrame) (k old : machine.Stack) → old ≡ body_frame_view f ∷ k → nearest_of old ≡ nearest.Last → ⊥
no-body-last (body.Function q s) k old e h = absurd (let z : nearest.Other ≡ nearest.Last = sym (ap nearest_of e) ∙ h in cc)
no-body-last (body.Arrow s) k old e h = absurd (let z : nearest.Other ≡ nearest.Last = sym (ap nearest_of e) ∙ h in cc)
no-body-last (body.Block b) k old e h = absurd (let z : nearest.Other ≡ nearest.Last = sym (ap nearest_of e) ∙ h in cc)
no-body-last (body.If b a x) k old e h = absurd (let z : nearest.Other ≡ nearest.Last = sym (ap nearest_of e) ∙ h in cc)
no-body-last (body.Else b) k old e h = absurd (let z : nearest.Other ≡ nearest.Last = sym (ap nearest_of e) ∙ h in cc)
no-body-last (body.Loop s x) k old e h = absurd (let z : nearest.Other ≡ nearest.Last = sym (ap nearest_of e) ∙ h in cc)

pub no-body-prefix : (f : BodyFrame) (k old : machine.Stack) → old ≡ body_frame_view f ∷ k → nearest_of old ≡ nearest.Prefix → ⊥
no-body-prefix (body.Function q s) k old e h = absurd (let z : nearest.Other ≡ nearest.Prefix = sym (ap nearest_of e) ∙ h in cc)
no-body-prefix (body.Arrow s) k old e h = absurd (let z : nearest.Other ≡ nearest.Prefix = sym (ap nearest_of e) ∙ h in cc)
no-body-prefix (body.Block b) k old e h = absurd (let z : nearest.Other ≡ nearest.Prefix = sym (ap nearest_of e) ∙ h in cc)
no-body-prefix (body.If b a x) k old e h = absurd (let z : nearest.Other ≡ nearest.Prefix = sym (ap nearest_of e) ∙ h in cc)
no-body-prefix (body.Else b) k old e h = absurd (let z : nearest.Other ≡ nearest.Prefix = sym (ap nearest_of e) ∙ h in cc)
no-body-prefix (body.Loop s x) k old e h = absurd (let z : nearest.Other ≡ nearest.Prefix = sym (ap nearest_of e) ∙ h in cc)

pub no-body-operator : (f : BodyFrame) (k old : machine.Stack) → old ≡ body_frame_view f ∷ k → may_arrow old ≡ false → ⊥
no-body-operator (body.Function q s) k old e h = absurd (let z : true ≡ false = sym (ap may_arrow e) ∙ h in cc)
no-body-operator (body.Arrow s) k old e h = absurd (let z : true ≡ false = sym (ap may_arrow e) ∙ h in cc)
no-body-operator (body.Block b) k old e h = absurd (let z : true ≡ false = sym (ap may_arrow e) ∙ h in cc)
no-body-operator (body.If b a x) k old e h = absurd (let z : true ≡ false = sym (ap may_arrow e) ∙ h in cc)
no-body-operator (body.Else b) k old e h = absurd (let z : true ≡ false = sym (ap may_arrow e) ∙ h in cc)
no-body-operator (body.Loop s x) k old e h = absurd (let z : true ≡ false = sym (ap may_arrow e) ∙ h in cc)

pub no-bottom-last : (is : Items) (b : Bottom) (old : machine.Stack) → old ≡ bottom_stack is b → nearest_of old ≡ nearest.Last → ⊥
no-bottom-last is bottom.Nothing old e h = absurd (let z : nearest.Other ≡ nearest.Last = sym (ap nearest_of e) ∙ h in cc)
no-bottom-last is (bottom.Item a w) old e h = absurd (let z : nearest.Other ≡ nearest.Last = sym (ap nearest_of e) ∙ h in cc)
no-bottom-last is (bottom.Default a) old e h = absurd (let z : nearest.Other ≡ nearest.Last = sym (ap nearest_of e) ∙ h in cc)

pub no-bottom-prefix : (is : Items) (b : Bottom) (old : machine.Stack) → old ≡ bottom_stack is b → nearest_of old ≡ nearest.Prefix → ⊥
no-bottom-prefix is bottom.Nothing old e h = absurd (let z : nearest.Other ≡ nearest.Prefix = sym (ap nearest_of e) ∙ h in cc)
no-bottom-prefix is (bottom.Item a w) old e h = absurd (let z : nearest.Other ≡ nearest.Prefix = sym (ap nearest_of e) ∙ h in cc)
no-bottom-prefix is (bottom.Default a) old e h = absurd (let z : nearest.Other ≡ nearest.Prefix = sym (ap nearest_of e) ∙ h in cc)

pub no-bottom-operator : (is : Items) (b : Bottom) (old : machine.Stack) → old ≡ bottom_stack is b → may_arrow old ≡ false → ⊥
no-bottom-operator is bottom.Nothing old e h = absurd (let z : true ≡ false = sym (ap may_arrow e) ∙ h in cc)
no-bottom-operator is (bottom.Item a w) old e h = absurd (let z : true ≡ false = sym (ap may_arrow e) ∙ h in cc)
no-bottom-operator is (bottom.Default a) old e h = absurd (let z : true ≡ false = sym (ap may_arrow e) ∙ h in cc)

pub ruleset no_last = (no-operator, no-arrow, no-inner-last, no-value-last, no-body-last, no-bottom-last)

pub ruleset no_prefix = (no-chain, no-tail-prefix, no-inner-prefix, no-value-prefix, no-body-prefix, no-bottom-prefix)

pub ruleset no_operator = (no-tail-operator, no-inner-operator, no-value-operator, no-body-operator, no-bottom-operator)
