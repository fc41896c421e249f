-- Ways from marks, and the marks before them.
use Rattle.std.specs.Prelude.{ℕ, ◌≡◌, ◌<◌, ◌+◌, List, [], ◌∷◌, map, Option, Some, None}
use Rattle.flow_facts.specs.Known.{Known, joined}
use Rattle.refine_flow.specs.Standing.{known, known_over, open_marks, depth_of, IsOf, IsLast, IsUpTo, IsArmOf, KeepsMark}
use Rattle.refine_flow.specs.declared.facts.Facts.{Facts}
use Rattle.refine_flow.specs.declared.facts.Mark.{Mark}
use Rattle.fact_ways.specs.declared.fork.Fork.{Fork}

-- the facts where an expression is truthy, which its fork has as an arm
abbrev pub yes_of : Option Fork → Facts → Known
yes_of None f = known f
yes_of (Some k) f = known_over k.mark k.arm f

-- and where it is falsy, if they are not the same
abbrev pub no_of : Option Fork → Facts → Option Known
no_of None f = None
no_of (Some k) f = Some (known f)

-- The ways stand: their mark is the last one, and the arm is one of the facts.
abbrev pub Fits : Option Fork → Facts → Type 0
Fits None f = Unit {0}
Fits (Some k) f = IsLast k.mark f × IsArmOf k.arm f

-- how many marks stood before the ways
abbrev pub before : Option Fork → Facts → ℕ
before None f = open_marks f
before (Some k) f = depth_of k.mark

-- a mark was made before the ways
abbrev pub IsBefore : Mark → Option Fork → Type 0
IsBefore m None = Unit {0}
IsBefore m (Some k) = IsUpTo m k.mark × (depth_of m < depth_of k.mark)

-- From ways to others: as many marks stand before them, and those are kept.
pub record Goes (from : Option Fork) (old : Facts) (to : Option Fork) (new : Facts) : Type 0 where
  pub count : before to new ≡ before from old
  pub each : (m : Mark) → IsOf m old → IsBefore m from → IsBefore m to × KeepsMark m old new

-- and the others stand
pub record Leads (from : Option Fork) (old : Facts) (to : Option Fork) (new : Facts) : Type 0 where
  pub fits : Fits to new
  pub goes : Goes from old to new

-- ---- ways in one another

-- the ways stand right round others
pub record StandsBefore (k : Fork) (inner : Option Fork) (f : Facts) : Type 0 where
  pub own : IsOf k.mark f
  pub arm : IsArmOf k.arm f
  pub earlier : IsBefore k.mark inner
  pub next : before inner f ≡ depth_of k.mark + 1

-- each of the ways stands right round those in front of it, the first ones round the inner ones
abbrev pub AreNested : List Fork → Option Fork → Facts → Type 0
AreNested [] inner f = Unit {0}
AreNested (k ∷ ks) inner f = StandsBefore k inner f × AreNested ks (Some k) f

-- the outermost ones
abbrev pub outermost : List Fork → Option Fork → Option Fork
outermost [] inner = inner
outermost (k ∷ ks) inner = outermost ks (Some k)

-- the facts of an arm
abbrev pub way_of : Facts → Fork → Known
way_of f k = known_over k.mark k.arm f

abbrev pub ways_of : Facts → List Fork → List Known
ways_of f ks = map (way_of f) ks

-- facts joined with each way, the first one first
abbrev pub all_joined : List Known → Known → Known
all_joined [] facts = facts
all_joined (way ∷ ways) facts = all_joined ways (joined way facts)
