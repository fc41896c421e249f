use Rattle.type_cases.proofs.Marks.{stays_last}
use Rattle.type_cases.proofs.example.types.Goals as goal

pub back-requires : goal.back-requires
back-requires c = stays_last c.in_ok-mark.mark c.mark.new.self c.assign.new.self c.in_ok-mark.ensures.mark.last c.assign.ensures.marks
