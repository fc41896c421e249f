use Rattle.std.proofs.Common.{refl}
use Rattle.refine_flow.proofs.Growing.{tidy_grown}
use Rattle.refine_flow.proofs.Dropping.{numbered}
use Rattle.refine_flow.proofs.facts.Facts.slot_for.Goals as goal

pub invariant_of-self : goal.invariant_of-self
invariant_of-self c = record { tidy = tidy_grown c.args.self.now.names c.add.new.self c.args.self.now.trail c.add.ensures.grows c.args.self.now.tidy }

pub returns-in_ok-name-in-Some-clause-stays : goal.returns-in_ok-name-in-Some-clause-stays
returns-in_ok-name-in-Some-clause-stays c = numbered c.args.self.now _ c.add.ensures.grows refl refl refl

pub returns-in_err-name-in-Some-clause-stays : goal.returns-in_err-name-in-Some-clause-stays
returns-in_err-name-in-Some-clause-stays c = numbered c.args.self.now _ c.add.ensures.grows refl refl refl
