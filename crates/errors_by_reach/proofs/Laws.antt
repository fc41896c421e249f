-- The laws of what errors depend on.
use Rattle.std.proofs.Common.{sym, ap, subst}
use Rattle.module_errors.specs.Program.{Program}
use Rattle.module_errors.specs.Errors.{module_errors}
use Rattle.errors_by_reach.specs.Seen.{Sigs}
use Rattle.errors_by_reach.specs.Law.{whole, broken, HasErrors, OneAnswer, OneByReach, CutAgrees}
use Rattle.errors_by_reach.proofs.Tables.{same_table, one_table}
use Rattle.errors_by_reach.proofs.OneView.{one_view}

pub cut_agrees : CutAgrees
cut_agrees path deps source sigs others errors agree h = (h.0, same_table sigs others h.0 deps agree h.1, h.2)

pub one_answer : OneAnswer
one_answer path deps (whole m spans) sigs a b h k =
    rw h.2 (rw k.2 (ap (λ (p : Program). module_errors p m spans) (one_view path deps m sigs h.0 k.0 h.1 k.1)))
one_answer path deps (broken code place) sigs a b h k = rw h (sym k)

pub one_by_reach : OneByReach
one_by_reach path deps source sigs a b h k =
    one_answer path deps source h.0 a b h.2
    (subst (λ (table : Sigs). HasErrors path deps source table b) (one_table sigs k.0 h.0 deps k.1 h.1) k.2)
