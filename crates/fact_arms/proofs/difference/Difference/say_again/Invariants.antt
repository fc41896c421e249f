use Rattle.std.proofs.Common.{◌≡◌, ◌&&◌, if◌then◌else◌}
use Rattle.fact_trail.specs.declared.slot.Slot.{Slot}
use Rattle.fact_arms.specs.Differences.{said_of, is_said, count_of}
use Rattle.fact_arms.specs.Gathering.{stays_said}
use Rattle.fact_arms.proofs.difference.Difference.say_again.Given as goal

-- what is left is said of slots that stay, and else what is said so far
abbrev pub invariant-loop-slot : goal.invariant-loop-slot
invariant-loop-slot l = record {
  said : (s : Slot) → (if is_said l.rest s && stays_said l.arm s then said_of l.rest s else said_of l.self s) ≡ (if is_said l.fn.rest s && stays_said l.arm s then said_of l.fn.rest s else said_of l.fn.self s);
  gone : l.self.gone ≡ l.fn.self.gone;
}

abbrev pub decreases-loop-slot : goal.decreases-loop-slot
decreases-loop-slot l = count_of l.rest
