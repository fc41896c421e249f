use Rattle.std.proofs.Common.{◌≡◌, map, take}
use Rattle.edited_root.specs.Numbering.{row_by}
use Rattle.edited_root.proofs.numbering.kept_rows.Given as goal

abbrev pub invariant-loop-draft : goal.invariant-loop-draft
invariant-loop-draft l = l.kept.items ≡ map (λ d. row_by l.modules d.from) (take l.draft-index l.drafts)
