use Rattle.recheck_sources.proofs.Here.{are_sources}
use Rattle.recheck_sources.proofs.sourcing.sources_of.Goals as goal

pub returns-clause-sources : goal.returns-clause-sources
returns-clause-sources c =
    are_sources c.few_exports.ensures c.few_exports-2.ensures.names (record { root = c.args.root; parses = c.args.parses; lists = c.in_ok-lists.lists }) c.get-modules.result.now c.as_slice-said.result.now c.get-modules.ensures c.as_slice-said.ensures.value c.requires.rising
    c.requires.few c.requires.parsed c.in_ok-lists.ensures.lists
