use Rattle.std.proofs.Common.{◌≡◌, map, take}
use Rattle.edited_root.proofs.next.fresh_ones.Given as goal

abbrev pub invariant-loop-draft : goal.invariant-loop-draft
invariant-loop-draft l = l.fresh.items ≡ map (λ d. d.fresh) (take l.draft-index l.drafts)
