-- A program has one full check.
use Rattle.std.specs.Prelude.{◌≡◌, List, [], ◌∷◌}
use Rattle.flow_base.specs.Program.{Program}
use Rattle.check_job.specs.source_front.specs.Law.{Same}
use Rattle.program_check.specs.Full.{Results, IsFull}

-- two results say the same of a module
pub record Alike (a b : Results) : Type 0 where
  pub parse : Same a.parse b.parse
  pub deps : a.deps ≡ b.deps
  pub sig : a.sig ≡ b.sig
  pub errors : a.errors ≡ b.errors

-- and so for each module, in order
abbrev pub AllAlike : List Results → List Results → Type 0
AllAlike [] [] = Unit {0}
AllAlike (a ∷ more) (b ∷ others) = Alike a b × AllAlike more others
AllAlike more others = ⊥

-- whatever is a full check says the same
abbrev pub OneFull : Type 0
OneFull = (program : Program) (a b : List Results) → IsFull program a → IsFull program b → AllAlike a b
