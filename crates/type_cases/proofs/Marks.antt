-- A mark that is the last one stays so.
use Rattle.std.proofs.Common.{◌≡◌, sym, ◌∙◌, arith}
use Rattle.refine_flow.specs.Standing.{IsLast, KeepsMarks}
use Rattle.refine_flow.specs.declared.facts.Facts.{Facts}
use Rattle.refine_flow.specs.declared.facts.Mark.{Mark}

pub stays_last : (mark : Mark) (old new : Facts) → IsLast mark old → KeepsMarks old new → IsLast mark new
stays_last mark old new last keeps = (last.0 ∙ sym keeps.count, (keeps.each mark (omega (arith, last.0), last.1)).0.1)
