-- An expression of the code, and how tight it binds.
use Rattle.std.proofs.Common.{◌≡◌, sym, ◌∙◌, ap, ℕ, ◌≤◌, ◌<◌, ◌∷◌, rules}
use Rattle.js_grammar.specs.Code.{Ex, ex, chain, Operands, Level, rank, operand_rank, form_rank, no_operand, Arms}
use Rattle.code_tree.specs.View.{expr_view, expr_form_view}
use Rattle.code_tree.specs.declared.types.Expr.{Expr, out-Expr}
use Rattle.code_tree.specs.declared.types.ExprForm.{the_lemmas}
use Rattle.code_law.specs.Frames.{Stack, fault, go, want, in_branch}
use Rattle.code_law.specs.Ladder.{Joint, begin, open_chain, ask_test}
use Rattle.code_chains.specs.Ended.{chain_rank}
use Rattle.code_chains.proofs.Ladders.{open-new, open-none, open-same, rank-some, test-yes, test-no}

pub view_expr : (e : Expr) → expr_view e ≡ ex (out-Expr e).first (out-Expr e).end (expr_form_view (out-Expr e).form)
unfolding expr_view expr_form_view
view_expr e = search (rules, the_lemmas)

pub begins_chain : (i : ℕ) (k : Stack) (e : Expr) (p : Level) (w : Joint) → (chain_rank (expr_form_view (out-Expr e).form) ≡ rank p → ⊥) → operand_rank p ≤ form_rank (expr_form_view (out-Expr e).form) →
    open_chain i k (expr_view e) p w ≡ begin i k (out-Expr e).first p (expr_view e) no_operand w
begins_chain i k e p w h n =
    ap (λ x. open_chain i k x p w) (view_expr e) ∙ open-new i k (out-Expr e).first (out-Expr e).end (expr_form_view (out-Expr e).form) p w h n
    ∙ ap (λ x. begin i k (out-Expr e).first p x no_operand w) (sym (view_expr e))

pub begins_none : (i : ℕ) (k : Stack) (e : Expr) (p : Level) (w : Joint) → (chain_rank (expr_form_view (out-Expr e).form) ≡ rank p → ⊥) → form_rank (expr_form_view (out-Expr e).form) < operand_rank p → open_chain i k (expr_view e) p w ≡ fault
begins_none i k e p w h n = ap (λ x. open_chain i k x p w) (view_expr e) ∙ open-none i k (out-Expr e).first (out-Expr e).end (expr_form_view (out-Expr e).form) p w h n

pub asks_test : (k : Stack) (s : ℕ) (hs : Arms) (e : Expr) → 1 ≤ form_rank (expr_form_view (out-Expr e).form) → ask_test k s hs (expr_view e) ≡ go (in_branch s hs (expr_view e) ∷ k) want
asks_test k s hs e h =
    ap (ask_test k s hs) (view_expr e) ∙ test-yes k s hs (ex (out-Expr e).first (out-Expr e).end (expr_form_view (out-Expr e).form)) h ∙ ap (λ x. go (in_branch s hs x ∷ k) want) (sym (view_expr e))

pub asks_none : (k : Stack) (s : ℕ) (hs : Arms) (e : Expr) → form_rank (expr_form_view (out-Expr e).form) < 1 → ask_test k s hs (expr_view e) ≡ fault
asks_none k s hs e h = ap (ask_test k s hs) (view_expr e) ∙ test-no k s hs (ex (out-Expr e).first (out-Expr e).end (expr_form_view (out-Expr e).form)) h

pub goes_on : (i : ℕ) (k : Stack) (e : Expr) (q p : Level) (f : Ex) (os : Operands) (w : Joint) → expr_form_view (out-Expr e).form ≡ chain q f os → chain_rank (expr_form_view (out-Expr e).form) ≡ rank p →
    open_chain i k (expr_view e) p w ≡ begin i k (out-Expr e).first p f os w
goes_on i k e q p f os w h r =
    ap (λ x. open_chain i k x p w) (view_expr e) ∙ ap (λ x. open_chain i k (ex (out-Expr e).first (out-Expr e).end x) p w) h ∙ open-same i k (out-Expr e).first (out-Expr e).end q f os p w (ap chain_rank (sym h) ∙ r)

pub none_ranked : (i : ℕ) (k : Stack) (e : Expr) (p : Level) (w : Joint) → chain_rank (expr_form_view (out-Expr e).form) ≡ 0 → chain_rank (expr_form_view (out-Expr e).form) ≡ rank p → open_chain i k (expr_view e) p w ≡ fault
none_ranked i k e p w h r = rank-some p (open_chain i k (expr_view e) p w) fault (sym h ∙ r)

pub ruleset ranks = (begins_chain, begins_none)

pub ruleset tests = (asks_test, asks_none)
