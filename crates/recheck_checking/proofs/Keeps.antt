-- The old errors of modules, as a loop makes them.
use Rattle.std.proofs.Common.{◌≡◌, ℕ, ◌+◌, ◌<◌, List, [], ◌∷◌, ◌++◌, map, length, take, get_or, Option, None, sym, ◌∙◌}
use Rattle.check_values.specs.declared.faults.Errs.{Errs}
use Rattle.recheck_merging.specs.check_phases.proofs.Lists.{place_at}
use Rattle.recheck_merging.proofs.Mapped.{mapped_more}
use Rattle.recheck_checking.specs.Keeping.{kept_in}

pub olds_more : (was : List Errs) (from : List (Option ℕ)) (i : ℕ) (slot : Option Errs) (old new : List (Option Errs)) → i < length from → slot ≡ kept_in was (get_or from i None) → old ≡ map (kept_in was) (take i from) → new ≡ old ++ slot ∷ []
    → new ≡ map (kept_in was) (take (i + 1) from)
olds_more was from i slot old new low is so_far pushed = pushed ∙ ((λ j. so_far j ++ is j ∷ []) ∙ sym (mapped_more (kept_in was) from i (get_or from i None) (place_at from i None low)))
