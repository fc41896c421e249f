use Rattle.std.proofs.Common.{◌≡◌, ◌≤◌, ◌++◌, drop, length}
use Rattle.std.specs.Map.{keys_of}
use Rattle.edited_root.specs.From.{texts_in}
use Rattle.edited_root.specs.Walk.{drafted, StandsBefore}
use Rattle.edited_root.proofs.Folders.{IsReadSoFar}
use Rattle.edited_root.proofs.walking.walk.Given as goal

-- as far as the folder was read
abbrev pub invariant-loop-path : goal.invariant-loop-path
invariant-loop-path g l =
    let seen = g.F.Folder.seen in
    record {
      read : IsReadSoFar (seen l.fn.folder).told (texts_in l.modules) l.edits.edits (drafted l.drafts.items ++ texts_in (drop l.at l.modules)) l.path-iterator;
      stands : StandsBefore l.modules (drafted l.drafts.items ++ texts_in (drop l.at l.modules)) (keys_of l.path-iterator) l.at l.drafts.items;
      within : l.at ≤ length l.modules;
      told : (seen l.folder).told ≡ (seen l.fn.folder).told;
      quiet : (seen l.folder).faults ≡ (seen l.fn.folder).faults;
    }
