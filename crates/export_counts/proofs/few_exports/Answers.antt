use Rattle.export_counts.proofs.Counts as counts
use Rattle.export_counts.proofs.few_exports.Goals as goal

pub returns-clause-bytes : goal.returns-clause-bytes
returns-clause-bytes c = counts.at_most_bytes

pub returns-clause-limit : goal.returns-clause-limit
returns-clause-limit c = counts.at_most_limit

pub returns-clause-names : goal.returns-clause-names
returns-clause-names c = counts.few_names
