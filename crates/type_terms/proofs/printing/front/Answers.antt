use Rattle.type_terms.specs.Show.{shown}
use Rattle.type_terms.proofs.Fronts.{front_of}
use Rattle.type_terms.proofs.printing.front.Goals as goal

pub returns : goal.returns
returns c = front_of c.args.limit _ c.print.new.out.items (shown c.args.t.now) c.new-out.ensures.items c.in_ok-print.ensures
