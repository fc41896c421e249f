use Rattle.std.proofs.Common.{◌≤◌, drop}
use Rattle.edited_root.specs.Numbering.{news, offs}
use Rattle.edited_root.specs.Walk.{drafted}
use Rattle.edited_root.proofs.Giving.{GivesRest}
use Rattle.edited_root.proofs.numbering.give_rows.Given as goal

-- as far as rows are given
abbrev pub invariant-loop-i : goal.invariant-loop-i
invariant-loop-i l = record {
  gives : GivesRest l.kept l.marks (drafted l.drafts) l.i l.at (drafted (drop l.i l.drafts)) l.modules;
  enough : news (drop l.i l.kept) ≤ offs (drop l.at l.marks);
}
