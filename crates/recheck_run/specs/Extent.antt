-- How much an edit affects, and how often a recheck asks whether it is to stop.
use Rattle.std.specs.Prelude.{◌≡◌, ℕ, ◌+◌, List, length}
use Rattle.flow_base.specs.Program.{Bytes, Program}
use Rattle.committed_results.specs.program_check.specs.Full.{Results, view_in, IsFull}
use Rattle.recheck_checking.specs.affected_law.specs.Affected.{Parsed, Merged, Checked}
use Rattle.recheck_reach.specs.affected_sizes.specs.Paths.{ArePaths}
use Rattle.recheck_reach.specs.affected_sizes.specs.Polls.{AreWavesAmong, AreBatches}

-- how many modules are read, merged and checked, and in how many waves and batches
pub record Extent : Type 0 where
  pub parsed : ℕ
  pub merged : ℕ
  pub waves : ℕ
  pub checked : ℕ
  pub batches : ℕ

-- By full checks of the old program and of the new one, an edit from the one to the other affects so much.
pub record Affects (old new : Program) (n : Extent) : Type 0 where
  pub before : List Results
  pub after : List Results
  pub full_before : IsFull old before
  pub full_after : IsFull new after
  pub parsed_paths : List Bytes
  pub merged_paths : List Bytes
  pub checked_paths : List Bytes
  pub waves : List (List ℕ)
  pub are_parsed : ArePaths (Parsed old new) parsed_paths
  pub are_merged : ArePaths (Merged old new before after) merged_paths
  pub are_checked : ArePaths (Checked old new before after) checked_paths
  pub are_waves : AreWavesAmong (view_in new after) merged_paths waves
  pub are_batches : AreBatches n.checked n.batches
  pub parsed_size : n.parsed ≡ length parsed_paths
  pub merged_size : n.merged ≡ length merged_paths
  pub checked_size : n.checked ≡ length checked_paths
  pub waves_size : n.waves ≡ length waves

-- One poll stands behind reading, one behind the fronts and one behind the dependency lists, one behind each wave, one behind each
-- batch, and one before the commit.
abbrev pub polls : Extent → ℕ
polls n = 4 + n.waves + n.batches
