-- One token of the list, and then the rest.
use Rattle.std.proofs.Common.{◌≡◌, refl, sym, ◌∙◌, ap, subst, ℕ, suc, zero, ◌+◌, ◌<◌, ◌≤◌, List, [], ◌∷◌, Bool, true, false, length, drop, get_or, Result, Ok, Err, drop-cons, add-one}
use Rattle.js_token.specs.declared.token.Token.{Token}
use Rattle.js_token.specs.declared.token.TokenKind.{TokenKind}
use Rattle.js_grammar.specs.Types.{Ty}
use Rattle.js_grammar.specs.TypeSpelling.{Tokens}
use Rattle.js_grammar.specs.Nesting.{Nest, nest, is_deep}
use Rattle.js_grammar.specs.Machine.{Stack, Mode, Step, fault, go, done, resume, step, end_mark, whole, faulty}
use Rattle.type_tree.specs.declared.types.TypeTree.{TypeTree}
use Rattle.type_tree.specs.View.{type_view}
use Rattle.type_parser.specs.Within.{run_end, run_within, read_within}
use Rattle.type_parser.specs.Reading.{kinds, Gets, Ends, Reads}
use Rattle.type_parser.specs.declared.read.ParseFault.{ParseFault}
use Rattle.type_parser.specs.declared.read.ParseFault.TheVariants.{At, NoMemory}
use Rattle.type_parser.proofs.Pushes.{stack_view-empty}
use Rattle.type_parser.proofs.Within.{Tells, tells_within}

pub length-kinds : (tokens : List Token) → length (kinds tokens) ≡ length tokens
length-kinds [] = refl
length-kinds (x ∷ tokens) = ap suc (length-kinds tokens)

get-kinds : (tokens : List Token) (at : ℕ) (x : Token) → get_or (kinds tokens) at x.kind ≡ (get_or tokens at x).kind
get-kinds [] zero x = refl
get-kinds [] (suc at) x = refl
get-kinds (y ∷ tokens) zero x = refl
get-kinds (y ∷ tokens) (suc at) x = get-kinds tokens at x

drop_all : (l : Tokens) → drop (length l) l ≡ []
drop_all [] = refl
drop_all (x ∷ l) = drop_all l

pub next-kind : (tokens : List Token) (at : ℕ) (x : Token) → at < length tokens → drop at (kinds tokens) ≡ (get_or tokens at x).kind ∷ drop (at + 1) (kinds tokens)
next-kind tokens at x h =
    let l : at < length (kinds tokens) = rw (length-kinds tokens) h in
    rw (add-one) (drop-cons (kinds tokens) at x.kind l ∙ ap (λ k. k ∷ drop (suc at) (kinds tokens)) (get-kinds tokens at x))

pub read_deep : (can : Bool) (i : ℕ) (n : Nest) (k : Stack) (m : Mode) (l r : Tokens) (x : TokenKind) → l ≡ x ∷ r → is_deep (nest n x) ≡ true → run_within can i n k m l ≡ run_end can i k m l
read_deep can i n k m l r x e d = rw e (rw d refl)

pub read_more : (can : Bool) (i : ℕ) (n : Nest) (k : Stack) (m : Mode) (l r : Tokens) (x : TokenKind) → l ≡ x ∷ r → is_deep (nest n x) ≡ false → (s : Step) → step can i k m x ≡ s →
    run_within can i n k m l ≡ resume (λ k m. run_within can (i + 1) (nest n x) k m r) s l
read_more can i n k m l r x e d s f = rw (e, add-one) (rw (d, f) refl)

pub read_last : (can : Bool) (i : ℕ) (n : Nest) (k : Stack) (m : Mode) (l : Tokens) → run_within can i n k m (drop (length l) l) ≡ run_end can i k m (drop (length l) l)
read_last can i n k m l = rw (drop_all l) refl

pub end_done : (can : Bool) (i : ℕ) (k : Stack) (m : Mode) (t : Ty) → done t ≡ step can i k m end_mark → (l : Tokens) → run_end can i k m l ≡ whole t l
end_done can i k m t e l = ap (λ s. resume (λ k m. faulty l) s l) (sym e)

pub end_fault : (can : Bool) (i : ℕ) (k : Stack) (m : Mode) → fault ≡ step can i k m end_mark → (l : Tokens) → run_end can i k m l ≡ faulty l
end_fault can i k m e l = ap (λ s. resume (λ k m. faulty l) s l) (sym e)

pub end_go : (can : Bool) (i : ℕ) (k : Stack) (m : Mode) (j : Stack) (n : Mode) → go j n ≡ step can i k m end_mark → (l : Tokens) → run_end can i k m l ≡ faulty l
end_go can i k m j n e l = ap (λ s. resume (λ k m. faulty l) s l) (sym e)

-- what is known where the tokens end holds of all that are read up to there
pub gets_end : (plain : Bool) (l : Tokens) (from i : ℕ) (k : Stack) (m : Mode) → from ≤ i → i ≤ length l → run_end plain i k m (drop i l) ≡ read_within plain from (drop from l) →
    (r : Result (TypeTree × ℕ) ParseFault) → Ends plain i k m r → Gets plain l from r
gets_end plain l from i k m h j e (Ok r) f =
    (subst (λ i. from ≤ i) (sym (f.0)) h, subst (λ i. i ≤ length l) (sym (f.0)) j, sym e ∙ f.1 (drop i l) ∙ ap (λ i. whole (type_view r.0) (drop i l)) (sym (f.0)))
gets_end plain l from i k m h j e (Err (At n)) f =
    (subst (λ i. from ≤ i) (sym (f.0)) h, subst (λ i. i ≤ length l) (sym (f.0)) j, sym e ∙ f.1 (drop i l) ∙ ap (λ i. faulty (drop i l)) (sym (f.0)))
gets_end plain l from i k m h j e (Err NoMemory) f = tt

pub tells : (plain : Bool) (l : Tokens) (from : ℕ) (r : Result (TypeTree × ℕ) ParseFault) → Gets plain l from r → Reads plain l from r
tells plain l from (Ok r) h = (h.0, h.1, subst (Tells plain from (drop from l)) (h.2) (tells_within plain from (drop from l)))
tells plain l from (Err (At k)) h = (h.0, h.1, subst (Tells plain from (drop from l)) (h.2) (tells_within plain from (drop from l)))
tells plain l from (Err NoMemory) h = tt

pub ruleset ends = (end_done, end_fault, end_go)

pub ruleset turns = (stack_view-empty, length-kinds)
