use Rattle.std.proofs.Common.{◌≡◌, map, take}
use Rattle.name_numbers.specs.Numbering.{number_in}
use Rattle.job_ends.specs.Linking.{links_from}
use Rattle.job_ends.specs.Views.{node_view}
use Rattle.job_ends.proofs.linking.links.Given as goal

abbrev pub invariant-loop-i : goal.invariant-loop-i
invariant-loop-i l = l.links.items ≡ links_from (number_in l.numbered) 0 (map node_view (take l.i l.nodes))
