use Rattle.std.proofs.Common.{rules}
use Rattle.std.specs.Ordering.{nat_cmp, is_lt}
use Rattle.std.specs.Cmp.Lexicographic.{slice_cmp}
use Rattle.std.proofs.lemmas.Fn.{always_returns_same}
use Rattle.flow_values.proofs.Rising.{rising_from_neighbours}
use Rattle.flow_base.proofs.mem_folder.has_rising_paths.Goals as goal

pub returns : goal.returns
returns c =
    rising_from_neighbours (λ row. row.0) c.args.rows.now _
    (c.is_sorted_by.ensures.cases (λ row next. is_lt (slice_cmp nat_cmp row.0 next.0)) (always_returns_same _ _ _ (λ a r g called. (search rules, search rules))))
