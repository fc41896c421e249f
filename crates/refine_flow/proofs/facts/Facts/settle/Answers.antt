use Rattle.std.proofs.Common.{Some, None, ap, if◌then◌else◌}
use Rattle.fact_trail.specs.Slots.{Map as Slots}
use Rattle.refine_flow.specs.Standing.{types_by}
use Rattle.refine_flow.proofs.Dropping.{tidy_forgotten}
use Rattle.refine_flow.proofs.facts.Facts.settle.Goals as goal

pub invariant_of-self : goal.invariant_of-self
invariant_of-self c = record { tidy = tidy_forgotten c.args.self.now.names c.args.self.now.trail c.forget.new.self c.forget.ensures.changes c.forget.ensures.facts c.args.self.now.tidy }

pub returns-then-self-eq0-clause-facts : goal.returns-then-self-eq0-clause-facts
returns-then-self-eq0-clause-facts c = ap (λ (m : Slots). if c.args.self.now.dead then None else Some (types_by c.args.self.now.names m)) c.forget.ensures.facts
