use Rattle.path_numbers.proofs.Ways as ways
use Rattle.path_numbers.proofs.paths_lead_as_edges.Goals as goal

pub returns-clause-imports : goal.returns-clause-imports
returns-clause-imports c = ways.imports_lead c.all_stays_inside.ensures.imports

pub returns-clause-names : goal.returns-clause-names
returns-clause-names c = ways.names_lead c.all_stays_inside.ensures.named
