use Rattle.std.proofs.Common.{List, ℕ, [], ◌∷◌, ◌++◌, sym, ap, ◌∙◌}
use Rattle.pending_edits.specs.Pending.{Pending}
use Rattle.pending_edits.proofs.Counts.{stands_more}
use Rattle.pending_edits.proofs.edits.Edits.delete_unedited.Goals as goal

pub returns-in-Ok-clause-stands : goal.returns-in-Ok-clause-stands
returns-in-Ok-clause-stands c =
    let view = sym c.self.view_is in
    let pushed = c.in_ok-push.ensures.items ∙ ap (λ (q : List ℕ). c.self.inside.unseen.items ++ q ∷ []) c.in_ok-share.ensures in
    stands_more c.args.self.now c.self.inside.rows.entries c.insert.new.self.entries c.args.path c.self.inside.found c.self.inside.unseen.items c.push.new.self.items c.len.ensures.ordered
    c.requires.unedited c.in-Ok.ensures.entries pushed (ap (λ (p : Pending). p.edits) view) (ap (λ (p : Pending). p.found) view) (ap (λ (p : Pending). p.unseen) view)
