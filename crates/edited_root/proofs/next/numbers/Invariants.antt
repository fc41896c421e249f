use Rattle.std.proofs.Common.{◌≡◌, map, take}
use Rattle.edited_root.proofs.next.numbers.Given as goal

abbrev pub invariant-loop-draft : goal.invariant-loop-draft
invariant-loop-draft l = l.numbers.items ≡ map (λ d. d.from) (take l.draft-index l.drafts)
