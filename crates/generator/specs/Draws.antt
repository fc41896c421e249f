-- Numbers that are drawn, one after the other.
use Rattle.std.specs.Prelude.{ℕ, zero, suc, ◌+◌, ◌-◌, ◌*◌, ◌/◌, ◌%◌, ◌^◌}

-- the state behind one draw more
abbrev pub behind : ℕ → ℕ
behind state = (state * 6364136223846793005 + 1442695040888963407) % 2 ^ 64

-- what is drawn below a bound, by the state behind the draw
abbrev pub drawn : ℕ → ℕ → ℕ
drawn bound state = (state / 2 ^ 33) % bound

-- the state behind so many draws
abbrev pub state_behind : ℕ → ℕ → ℕ
state_behind seed zero = seed
state_behind seed (suc draws) = behind (state_behind seed draws)

-- the module that module i imports is below i: draw number i. The first module imports none.
abbrev pub imported : ℕ → ℕ → ℕ
imported seed zero = 0
imported seed (suc i) = drawn (suc i) (state_behind seed (suc i))

-- the module that is edited in a round of n modules, counted from 1: the draws of the rounds come behind those of the imports
abbrev pub edited : ℕ → ℕ → ℕ → ℕ
edited n seed round = drawn n (state_behind seed (n - 1 + round))
