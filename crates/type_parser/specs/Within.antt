-- Reading up to the limit of nesting: the token that would pass it is read as the end of the tokens.
use Rattle.std.specs.Prelude.{ℕ, suc, Bool, [], ◌∷◌, if◌then◌else◌}
use Rattle.js_grammar.specs.TypeSpelling.{Tokens}
use Rattle.js_grammar.specs.Nesting.{Nest, nest, no_nest, is_deep}
use Rattle.js_grammar.specs.Machine.{Stack, Mode, want, step, end_mark, resume, Outcome, faulty}

-- reading that ends here
abbrev pub run_end : Bool → ℕ → Stack → Mode → Tokens → Outcome
run_end can i k m l = resume (λ k m. faulty l) (step can i k m end_mark) l

-- reading from a state on, up to the limit
abbrev pub run_within : Bool → ℕ → Nest → Stack → Mode → Tokens → Outcome
run_within can i n k m [] = run_end can i k m []
run_within can i n k m (x ∷ l) =
    if is_deep (nest n x) then run_end can i k m (x ∷ l) else resume (λ k m. run_within can (suc i) (nest n x) k m l) (step can i k m x) (x ∷ l)

-- reading of a type from the tokens' front, up to the limit
abbrev pub read_within : Bool → ℕ → Tokens → Outcome
read_within can i l = run_within can i no_nest [] want l
