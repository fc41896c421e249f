-- How much an edit affects: there is so much, and it is one.
use Rattle.std.proofs.Common.{◌≡◌, ℕ, suc, ◌+◌, ◌-◌, ◌^◌, ◌<◌, ◌≤◌, List, [], ◌∷◌, length, Some, inl, inr, refl, ap, ◌∙◌, subst, arith}
use Rattle.std.proofs.lemmas.List.{length-map}
use Rattle.flow_base.specs.Program.{Bytes, Program, paths_of}
use Rattle.graph_laws.proofs.Ways.{HasPlace}
use Rattle.committed_results.specs.full_law.specs.Law.{EachFull}
use Rattle.committed_results.specs.program_check.specs.Full.{view_in}
use Rattle.committed_results.specs.program_check.specs.Law.{OneFull}
use Rattle.recheck_checking.specs.affected_law.specs.Affected.{Parsed, Merged, Checked}
use Rattle.recheck_reach.specs.affected_sizes.specs.Paths.{HasPath, ArePaths}
use Rattle.recheck_reach.specs.affected_sizes.specs.Polls.{AreWavesAmong, AreBatches, ArePolls}
use Rattle.recheck_reach.specs.affected_sizes.proofs.Lists.{one_rising_list}
use Rattle.recheck_reach.specs.affected_sizes.proofs.Deciding.{checked_inside}
use Rattle.recheck_reach.specs.affected_sizes.proofs.Polls.{parsed_paths, have_polls, one_polls}
use Rattle.recheck_run.specs.Extent.{Extent, Affects, polls}
use Rattle.recheck_run.proofs.Counting.{few_of, few_waves, few_batches, few_paths}

-- there is so much
pub some_extent : EachFull → (old new : Program) → (n : Extent) × Affects old new n
some_extent each old new =
    let was = each old in
    let is = each new in
    let parsed = parsed_paths old new was.0 is.0 was.1 is.1 in
    let p = (have_polls old new was.0 is.0 was.1 is.1).1 in (
      record { parsed = length parsed.0; merged = length p.merged; waves = length p.waves; checked = length p.checked; batches = p.batches },
      record {
        before = was.0;
        after = is.0;
        full_before = was.1;
        full_after = is.1;
        parsed_paths = parsed.0;
        merged_paths = p.merged;
        checked_paths = p.checked;
        waves = p.waves;
        are_parsed = parsed.1;
        are_merged = p.are_merged;
        are_checked = p.are_checked;
        are_waves = p.are_waves;
        are_batches = p.are_batches;
        parsed_size = refl;
        merged_size = refl;
        checked_size = refl;
        waves_size = refl;
      },
    )

placed : (xs : List Bytes) (path : Bytes) → HasPlace xs path → HasPath xs path
placed [] path has = absurd has
placed (x ∷ xs) path (inl is) = (0, ap Some is)
placed (x ∷ xs) path (inr has) = let p = placed xs path has in (suc p.0, p.1)

-- ---- it is one

one_list : (Holds : Bytes → Type 0) (a b : List Bytes) → ArePaths Holds a → ArePaths Holds b → a ≡ b
one_list Holds a b p q = one_rising_list Holds Holds (λ path holds. holds) (λ path holds. holds) a b p q

module _ (old new : Program) (n : Extent) (a : Affects old new n) where
  pub parsed_is : (paths : List Bytes) → ArePaths (Parsed old new) paths → n.parsed ≡ length paths
  parsed_is paths are = a.parsed_size ∙ ap length (one_list (Parsed old new) a.parsed_paths paths a.are_parsed are)

  pub merged_is : (paths : List Bytes) → ArePaths (Merged old new a.before a.after) paths → n.merged ≡ length paths
  merged_is paths are = a.merged_size ∙ ap length (one_list (Merged old new a.before a.after) a.merged_paths paths a.are_merged are)

  pub checked_is : (paths : List Bytes) → ArePaths (Checked old new a.before a.after) paths → n.checked ≡ length paths
  checked_is paths are = a.checked_size ∙ ap length (one_list (Checked old new a.before a.after) a.checked_paths paths a.are_checked are)

  mine : ArePolls old new a.before a.after (4 + length a.waves + n.batches)
  mine = record {
    merged = a.merged_paths;
    waves = a.waves;
    checked = a.checked_paths;
    batches = n.batches;
    are_merged = a.are_merged;
    are_waves = a.are_waves;
    are_checked = a.are_checked;
    are_batches = subst (λ (c : ℕ). AreBatches c n.batches) a.checked_size a.are_batches;
    total = refl;
  }

  pub waves_are : OneFull → (paths : List Bytes) (waves : List (List ℕ)) → ArePaths (Merged old new a.before a.after) paths → AreWavesAmong (view_in new a.after) paths waves → n.waves ≡ length waves
  waves_are one paths waves are among =
      let theirs : ArePolls old new a.before a.after (4 + length waves + n.batches) = record {
        merged = paths;
        waves = waves;
        checked = a.checked_paths;
        batches = n.batches;
        are_merged = are;
        are_waves = among;
        are_checked = a.are_checked;
        are_batches = subst (λ (c : ℕ). AreBatches c n.batches) a.checked_size a.are_batches;
        total = refl;
      } in
      let same = one_polls one old new a.before a.after a.full_before a.full_after a.before a.after (4 + length a.waves + n.batches) (4 + length waves + n.batches) a.full_before a.full_after mine theirs in
      let size = a.waves_size in
      omega (arith, same, size)

  -- ---- and it is not more than the modules

  pub few_merged : n.merged ≤ length new
  few_merged =
      let few = few_of new (Merged old new a.before a.after) a.merged_paths a.are_merged (λ path merged. merged.0) in
      let all = length-map new (λ (m : Bytes × Bytes). m.0) in
      let size = a.merged_size in
      omega (arith, few, all, size)

  pub few_checked : n.checked ≤ length new
  few_checked =
      let few = few_paths a.checked_paths (paths_of new) a.are_checked.rising (λ path has. placed (paths_of new) path (checked_inside old new a.before a.after a.full_after path (a.are_checked.sound path has))) in
      let all = length-map new (λ (m : Bytes × Bytes). m.0) in
      let size = a.checked_size in
      omega (arith, few, all, size)

  pub polls_fit : length new < 2 ^ 30 → polls n < 2 ^ 32 - 1
  polls_fit low =
      let w = few_waves (view_in new a.after) a.merged_paths a.waves a.are_waves in
      let b = few_batches n.checked n.batches a.are_batches in
      let m = few_merged in
      let c = few_checked in
      let s = a.merged_size in
      let t = a.waves_size in
      omega (arith, low, w, b, m, c, s, t)
