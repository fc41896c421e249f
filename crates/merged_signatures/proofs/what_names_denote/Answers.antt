use Rattle.merged_signatures.proofs.Bound.{told_by_one_step, cyclic_where_it_repeats}
use Rattle.merged_signatures.proofs.what_names_denote.Goals as goal

pub returns-clause-steps : goal.returns-clause-steps
returns-clause-steps c = told_by_one_step

pub returns-clause-cyclic : goal.returns-clause-cyclic
returns-clause-cyclic c = cyclic_where_it_repeats
