-- How the stages of a recheck end.
use Rattle.std.specs.Prelude.{◌≡◌, ℕ, ◌<◌, ◌≤◌, length}
use Rattle.flow_base.specs.Outside.{WhereTold}
use Rattle.flow_base.specs.Causes.{raised, RoseBy}
use Rattle.flow_base.specs.declared.outside.LastFault.TheVariants.{Reading}
use Rattle.check_values.specs.declared.root.Root.{Root}
use Rattle.stops.specs.Asked.{StopSeen}
use Rattle.recheck_reach.specs.analyst.specs.Work.{Work, IsWithin}
use Rattle.pending_edits.specs.Pending.{IsTouched}
use Rattle.recheck_checking.specs.edited_root.specs.declared.halt.Halt as read
use Rattle.recheck_checking.specs.edited_root.specs.declared.halt.Halt.TheVariants as unread
use Rattle.recheck_run.specs.Extent.{Extent, polls}
use Rattle.recheck_run.specs.Recheck.{RecheckState, Edits, WorkedTo, HasWorked, whole_work, IsUnasked}
use Rattle.recheck_run.specs.Stages.{old_of, IsBaseIn}
use Rattle.recheck_run.specs.Steps.{IsReady}
use Rattle.recheck_run.specs.declared.stages.Base.{Base}
use Rattle.recheck_run.specs.declared.stages.Staged.{Staged}
use Rattle.recheck_run.specs.declared.outcome.Halt.{Halt}
use Rattle.recheck_run.specs.declared.outcome.Halt.TheVariants as halt

-- what was asked and done up to an end of the stages
pub record Counted : Type 0 where
  pub stop : StopSeen
  pub work : Work

-- all polls said no, and the last stage is done
pub record HasEnded (n : Extent) (before now : Counted) (staged : Staged) : Type 0 where
  pub questions : RoseBy (polls n) before.stop.questions now.stop.questions
  pub no_yes : now.stop.yes_answers ≡ before.stop.yes_answers
  pub work : HasWorked before.work now.work (whole_work n)
  pub counts : (staged.parsed ≡ n.parsed) × (staged.checked ≡ n.checked)

-- a poll said yes, at no earlier one
pub record HasStopped (n : Extent) (before now : Counted) (poll : ℕ) : Type 0 where
  pub some : 1 ≤ poll
  pub few : poll ≤ polls n
  pub questions : RoseBy poll before.stop.questions now.stop.questions
  pub yes : now.stop.yes_answers ≡ raised before.stop.yes_answers
  pub at : WhereTold before.stop.told (λ question. now.stop.questions ≡ question)
  pub work : WorkedTo n poll before.work now.work

-- memory was refused
pub record HasFailed (n : Extent) (before now : Counted) : Type 0 where
  pub asked : ℕ
  pub fewer : asked < polls n
  pub questions : RoseBy asked before.stop.questions now.stop.questions
  pub no_yes : now.stop.yes_answers ≡ before.stop.yes_answers
  pub work : IsWithin before.work now.work (whole_work n)

-- a halt that reading gave
abbrev pub IsUnreadHalt : read.Halt → Halt → Type 0
IsUnreadHalt (unread.Unread path) h = h ≡ halt.Unread path
IsUnreadHalt unread.NoMemory h = h ≡ halt.NoMemory

-- a poll halted the stages
abbrev pub IsStop : Halt → Type 0
IsStop (halt.Unread path) = ⊥
IsStop (halt.Stopped poll) = Unit {0}
IsStop halt.NoMemory = ⊥

-- the stages halted
abbrev pub HasHalted : Extent → Counted → Counted → Halt → Type 0
HasHalted n before now (halt.Unread path) = ⊥
HasHalted n before now (halt.Stopped poll) = HasStopped n before now poll
HasHalted n before now halt.NoMemory = HasFailed n before now

abbrev pub counted_in : RecheckState → Counted
counted_in state = record { stop = state.stop; work = state.work }

-- what is to be committed is staged
pub record IsStaged (before now : RecheckState) (staged : Staged) : Type 0 where
  pub base : Base
  pub is_base : IsBaseIn before.heap.committed base
  pub few : length base.root.modules ≤ before.edits.capacity
  pub extent : Extent
  pub edits : Edits before (old_of base) base.root extent
  pub ended : HasEnded extent (counted_in before) (counted_in now) staged
  pub ready : IsReady base before.heap now.heap staged.errors

-- nothing is to be committed
pub record Halts (before now : RecheckState) (h : Halt) : Type 0 where
  pub old : Root
  pub new : Root
  pub extent : Extent
  pub edits : Edits before old new extent
  pub halted : HasHalted extent (counted_in before) (counted_in now) h

abbrev pub IsHalted : RecheckState → RecheckState → Halt → Type 0
IsHalted before now (halt.Unread path) =
    IsTouched before.edits.edits path × IsUnasked before now × (now.work ≡ before.work) × (now.folder.faults ≡ raised before.folder.faults) × (now.folder.last_fault ≡ Reading path)
IsHalted before now (halt.Stopped poll) = Halts before now (halt.Stopped poll)
IsHalted before now halt.NoMemory = Halts before now halt.NoMemory
