use Rattle.std.proofs.Common.{sym, ap}
use Rattle.check_values.specs.Roots.{paths_of}
use Rattle.pending_edits.specs.Pending.{Pending}
use Rattle.pending_edits.proofs.Counts.{found_after}
use Rattle.pending_edits.proofs.edits.Edits.counts_with.Goals as goal

pub returns-clause-found : goal.returns-clause-found
returns-clause-found c =
    let view = sym c.self.view_is in
    found_after (paths_of c.args.root.now) c.args.self.now c.self.inside.rows.entries c.args.path.now _ c.self.inside.found c.newly.result c.len.ensures.ordered
    (ap (λ (p : Pending). p.edits) view) (ap (λ (p : Pending). p.found) view) c.requires.seen c.requires.stands c.get-before.ensures.value c.newly.ensures.newly
