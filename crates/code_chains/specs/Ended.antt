-- What the steps of the ladder make of an expression.
use Rattle.std.specs.Prelude.{ℕ, nat_lt, Bool, false}
use Rattle.js_grammar.specs.Code.{Level, Ex, ex, ExForm, prefixed, chain, cond, arrow, arrow_value, more_operand, operand, right_side, rank}
use Rattle.code_law.specs.Frames.{Frame, in_prefix, in_chain, in_last, in_arrow, start_sig}

-- what a form that ends with an expression is with it, up to a place
abbrev pub ended : ℕ → Frame → Ex → Ex
ended i (in_prefix s ps) e = ex s i (prefixed ps e)
ended i (in_chain s p f os d o) e = ex s i (chain p f (more_operand os (operand d i (right_side o e))))
ended i (in_last s hs) e = ex s i (cond hs e)
ended i (in_arrow g) e = ex (start_sig g) i (arrow g (arrow_value e))
ended i f e = e

-- the rank of a chain's level, and 0 of another form
abbrev pub chain_rank : ExForm → ℕ
chain_rank (chain p f os) = rank p
chain_rank x = 0

-- whether a form stays open before an operator of a level
abbrev pub stays_open : Frame → Level → Bool
stays_open (in_chain s q f os d o) p = nat_lt (rank q) (rank p)
stays_open f p = false
