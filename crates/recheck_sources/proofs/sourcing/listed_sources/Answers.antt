use Rattle.std.proofs.Common.{ℕ, length, ap, ◌∙◌, subst}
use Rattle.check_values.specs.declared.root.Root.{Root}
use Rattle.recheck_sources.specs.Keeping.{StandStill}
use Rattle.recheck_sources.proofs.Serves.{paths_stay}
use Rattle.recheck_sources.proofs.sourcing.listed_sources.Goals as goal

pub sources_of-requires-clause-stays : goal.sources_of-requires-clause-stays
sources_of-requires-clause-stays c = λ on.
    paths_stay c.args.was.now c.requires.was c.args.root c.args.from.now c.args.fresh.now c.requires.from c.requires.fresh
    (subst (λ (n : ℕ). StandStill c.args.from.now n) (c.len-many.ensures ∙ ap (λ (r : Root). length r.modules) c.get.ensures) (c.stand_still-stays.ensures.0 on))
