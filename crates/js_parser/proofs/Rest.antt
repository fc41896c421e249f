-- One token of the list, and then the rest.
use Rattle.std.proofs.Common.{◌≡◌, refl, sym, ◌∙◌, ap, subst, ℕ, Bool, suc, ◌+◌, ◌-◌, ◌≤◌, arith, List, [], ◌∷◌, true, false, length, drop, get_or, Result, Ok, Err, add-one}
use Rattle.std.specs.Prelude.{map, ◌==◌}
use Rattle.std.proofs.lemmas.Bool.Decides.{nat_tests}
use Rattle.std.proofs.lemmas.List.{length-append, length-drop}
use Rattle.js_token.specs.declared.token.TokenKind.{TokenKind}
use Rattle.js_grammar.specs.Code.{Ex}
use Rattle.js_grammar.specs.TypeSpelling.{Tokens}
use Rattle.js_grammar.specs.Nesting.{Nest, nest, is_deep}
use Rattle.js_grammar.specs.Machine.{end_mark}
use Rattle.js_grammar.specs.Items as g
use Rattle.js_grammar.specs.Items.{Items, no_item, more_item, item, stop_items, FitsItems}
use Rattle.js_tree.specs.View.{item_view, items_from, items_view, module_view}
use Rattle.js_tree.specs.declared.items.Item.{Item}
use Rattle.js_tree.specs.declared.items.Module.{Module}
use Rattle.code_law.specs.Frames.{Stack, Mode, Step, fault as stuck, go, done, done_items}
use Rattle.code_law.specs.Machine.{step, Outcome, faulty, whole as whole_ex, whole_items, resume}
use Rattle.code_law.specs.Reads.{module_with}
use Rattle.code_law.specs.Within.{run_within, read_within, SaysWithin, IsFaultWithin}
use Rattle.code_law.proofs.Within.{only_within}
use Rattle.code_state.specs.declared.stack.Stack.{Stack as State}
use Rattle.type_parser.specs.declared.state.Frame.{Frame}
use Rattle.type_parser.specs.declared.read.ParseFault.{ParseFault}
use Rattle.type_parser.specs.declared.read.ParseFault.TheVariants.{At, NoMemory}
use Rattle.module_law.specs.Answer.{whole, fault, Answers}
use Rattle.js_parser.specs.Answer.{Reads}
use Rattle.js_parser.specs.Reading.{IsEnd, last_end, Takes, Ends}
use Rattle.module_law.proofs.Answer.{fault_answers}

drop_all : (l : Tokens) → drop (length l) l ≡ []
drop_all [] = refl
drop_all (x ∷ l) = drop_all l

-- the place behind the last item
last_from : (acc : Items) (x : Item) (xs : List Item) (d : Item) → last_end (items_from acc (map item_view (x ∷ xs))) ≡ (get_or (x ∷ xs) (length xs) d).end
last_from acc x [] d = refl
last_from acc x (y ∷ xs) d = last_from (more_item acc (item_view x)) y xs d

pub last_some : (xs : List Item) (d : Item) → (length xs == 0) ≡ false → last_end (items_view xs) ≡ (get_or xs (length xs - 1) d).end
unfolding items_view
last_some [] d h = absurd (let z : true ≡ false = h in cc)
last_some (x ∷ xs) d h = let e : length (x ∷ xs) - 1 ≡ length xs = omega arith in last_from no_item x xs d ∙ ap (λ n. (get_or (x ∷ xs) n d).end) (sym e)

some_length : (n : ℕ) → (suc n == 0) ≡ false
some_length n = grind (arith, nat_tests)

pub last_none : (xs : List Item) → (length xs == 0) ≡ true → last_end (items_view xs) ≡ 0
unfolding items_view
last_none [] h = refl
last_none (x ∷ xs) h = absurd (let z : false ≡ true = sym (some_length (length xs)) ∙ h in cc)

pub ruleset item_ends = (last_some, last_none)

stop_is_last : (is : Items) → FitsItems is 0 → last_end is ≡ stop_items is 0
stop_is_last no_item h = refl
stop_is_last (more_item is (item f t x)) h = h.1.1

-- what is said of the outcome that reading comes to
said : (l : Tokens) (o : Outcome) → read_within l ≡ o → SaysWithin l o
said l o e = subst (SaysWithin l) e (only_within l)

fault_at : (l rest : Tokens) (k : ℕ) → k ≤ length l → rest ≡ drop k l → IsFaultWithin l rest → Answers l (fault k)
fault_at l rest k h d f =
    let n : length (f.0) ≡ k = omega (arith, ap length (f.1), ap length d, length-append (f.0) rest, length-drop k l) in
    subst (λ k. Answers l (fault k)) n (fault_answers l rest f)

pub reads_whole : (l : Tokens) (m : Module) → m.first ≡ 0 → m.end ≡ last_end (items_view m.items) → read_within l ≡ whole_items (items_view m.items) [] → Reads l (Ok m)
reads_whole l m f t e =
    let s = said l (whole_items (items_view m.items) []) e in
    let n : m.end ≡ stop_items (items_view m.items) 0 = t ∙ stop_is_last (items_view m.items) (s.1.0.2) in
    let v : module_with (items_view m.items) ≡ module_view m = ap (λ f. g.module_of f (stop_items (items_view m.items) 0) (items_view m.items)) (sym f) ∙ ap (λ t. g.module_of m.first t (items_view m.items)) (sym n) in
    subst (λ m. Answers l (whole m)) v s

pub reads_fault : (l : Tokens) (k : ℕ) → k ≤ length l → read_within l ≡ faulty (drop k l) → Answers l (fault k)
reads_fault l k h e = fault_at l (drop k l) k h refl (said l (faulty (drop k l)) e)

pub reads_early : (l r : Tokens) (k : ℕ) (is : Items) (x : TokenKind) → k ≤ length l → drop k l ≡ x ∷ r → read_within l ≡ whole_items is (x ∷ r) → Answers l (fault k)
reads_early l r k is x h d e = fault_at l (x ∷ r) k h (sym d) (said l (whole_items is (x ∷ r)) e)

no_whole : (l rest : Tokens) (e : Ex) → read_within l ≡ whole_ex e rest → ⊥
no_whole l rest e h = said l (whole_ex e rest) h

-- one token: a fault there, or one more
one : (l r : Tokens) (i : ℕ) (n : Nest) (k : Stack) (m : Mode) (x : TokenKind) (s : Step) → drop i l ≡ x ∷ r → is_deep (nest n x) ≡ false → step i k m x ≡ s → run_within i n k m (drop i l) ≡ read_within l →
    read_within l ≡ resume (λ k m. run_within (suc i) (nest n x) k m r) s (x ∷ r)
one l r i n k m x s d e f inv = sym inv ∙ (rw d (rw (e, f) refl))

read_stop : (l r : Tokens) (i : ℕ) (n : Nest) (k : Stack) (m : Mode) (x : TokenKind) → i ≤ length l → drop i l ≡ x ∷ r → is_deep (nest n x) ≡ false → run_within i n k m (drop i l) ≡ read_within l →
    (s : Step) → step i k m x ≡ s → IsEnd s → Answers l (fault i)
read_stop l r i n k m x h d e inv stuck f t = reads_fault l i h (one l r i n k m x stuck d e f inv ∙ ap faulty (sym d))
read_stop l r i n k m x h d e inv (done y) f t = absurd (no_whole l (x ∷ r) y (one l r i n k m x (done y) d e f inv))
read_stop l r i n k m x h d e inv (go j p) f t = absurd t
read_stop l r i n k m x h d e inv (done_items is) f t = reads_early l r i is x h d (one l r i n k m x (done_items is) d e f inv)

pub read_fault : (l r : Tokens) (i : ℕ) (n : Nest) (k : Stack) (m : Mode) (x : TokenKind) → i ≤ length l → drop i l ≡ x ∷ r → run_within i n k m (drop i l) ≡ read_within l →
    (now : Nest) (s : State) (ts : List Frame) (e : ParseFault) → Takes i (nest n x) now s ts (Err e) (step i k m x) → Reads l (Err e)
read_fault l r i n k m x h d inv now s ts NoMemory t = tt
read_fault l r i n k m x h d inv now s ts (At j) t = subst (λ j. Answers l (fault j)) (sym (t.0)) (by (is_deep (nest n x)) refl)
  where
    by : (b : Bool) → is_deep (nest n x) ≡ b → Answers l (fault i)
    by true e = reads_fault l i h (sym inv ∙ (rw d (rw e refl)))
    by false e = read_stop l r i n k m x h d e inv (step i k m x) refl (t.1 e)

pub read_more : (l r : Tokens) (i : ℕ) (n : Nest) (k : Stack) (m : Mode) (x : TokenKind) (j : Stack) (p : Mode) → drop i l ≡ x ∷ r → is_deep (nest n x) ≡ false → run_within i n k m (drop i l) ≡ read_within l →
    step i k m x ≡ go j p → run_within (i + 1) (nest n x) j p r ≡ read_within l
read_more l r i n k m x j p d e inv f = rw (add-one) (sym (one l r i n k m x (go j p) d e f inv))

last : (l : Tokens) (n : Nest) (k : Stack) (m : Mode) (s : Step) → step (length l) k m end_mark ≡ s → run_within (length l) n k m (drop (length l) l) ≡ read_within l →
    read_within l ≡ resume (λ k m. faulty []) s []
last l n k m s f inv = sym inv ∙ (rw (drop_all l) (rw f refl))

-- the tokens end
pub read_end : (l : Tokens) (n : Nest) (k : Stack) (m : Mode) → run_within (length l) n k m (drop (length l) l) ≡ read_within l → (r : Result Module ParseFault) → Ends (length l) k m r → Reads l r
read_end l n k m inv (Ok r) h = reads_whole l r (h.0) (h.1) (last l n k m (done_items (items_view r.items)) (h.2) inv)
read_end l n k m inv (Err (At j)) h = subst (λ j. Answers l (fault j)) (sym (h.0)) (by (step (length l) k m end_mark) refl)
  where
    stops : read_within l ≡ faulty [] → Answers l (fault (length l))
    stops e = reads_fault l (length l) (omega arith) (e ∙ ap faulty (sym (drop_all l)))

    by : (s : Step) → step (length l) k m end_mark ≡ s → Answers l (fault (length l))
    by stuck f = stops (last l n k m stuck f inv)
    by (go j p) f = stops (last l n k m (go j p) f inv)
    by (done y) f = absurd (no_whole l [] y (last l n k m (done y) f inv))
    by (done_items is) f = absurd (h.1 is f)
read_end l n k m inv (Err NoMemory) h = tt
