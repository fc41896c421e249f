-- What the answer of `read_type` says.
use Rattle.std.specs.Prelude.{◌≡◌, ℕ, ◌≤◌, Bool, List, length, drop, map, Result, Ok, Err}
use Rattle.js_token.specs.declared.token.Token.{Token}
use Rattle.js_grammar.specs.TypeSpelling.{Tokens}
use Rattle.js_grammar.specs.Machine.{Stack, Mode, whole, faulty}
use Rattle.js_grammar.specs.Reads.{Finds, Faults}
use Rattle.type_tree.specs.declared.types.TypeTree.{TypeTree}
use Rattle.type_tree.specs.View.{type_view}
use Rattle.type_parser.specs.Within.{run_end, read_within}
use Rattle.type_parser.specs.declared.read.ParseFault.{ParseFault}
use Rattle.type_parser.specs.declared.read.ParseFault.TheVariants.{At, NoMemory}

-- the tokens, without their spans
abbrev pub kinds : List Token → Tokens
kinds tokens = map (λ t. t.kind) tokens

-- what reading gives, as a list that is left
abbrev pub Gets : Bool → Tokens → ℕ → Result (TypeTree × ℕ) ParseFault → Type 0
Gets plain l from (Ok r) = (from ≤ r.1) × (r.1 ≤ length l) × (read_within plain from (drop from l) ≡ whole (type_view r.0) (drop r.1 l))
Gets plain l from (Err (At k)) = (from ≤ k) × (k ≤ length l) × (read_within plain from (drop from l) ≡ faulty (drop k l))
Gets plain l from (Err NoMemory) = Unit {0}

-- what reading gives where the tokens end at this place
abbrev pub Ends : Bool → ℕ → Stack → Mode → Result (TypeTree × ℕ) ParseFault → Type 0
Ends plain i k m (Ok r) = (r.1 ≡ i) × ((l : Tokens) → run_end plain i k m l ≡ whole (type_view r.0) l)
Ends plain i k m (Err (At j)) = (j ≡ i) × ((l : Tokens) → run_end plain i k m l ≡ faulty l)
Ends plain i k m (Err NoMemory) = Unit {0}

-- The tokens from a place on, up to the place that is answered, are the type's spelling, and no more of them begin a type; or
-- as many of them as begin one end at the place that is answered, and are none.
abbrev pub Reads : Bool → Tokens → ℕ → Result (TypeTree × ℕ) ParseFault → Type 0
Reads plain l from (Ok r) = (from ≤ r.1) × (r.1 ≤ length l) × Finds plain from (drop from l) (type_view r.0) (drop r.1 l)
Reads plain l from (Err (At k)) = (from ≤ k) × (k ≤ length l) × Faults plain from (drop from l) (drop k l)
Reads plain l from (Err NoMemory) = Unit {0}
