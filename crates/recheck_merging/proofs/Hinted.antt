-- A row whose path is the one that is looked for stands at its place.
use Rattle.std.proofs.Common.{◌≡◌, ◌<◌, ℕ, List, length, get_or, Some, refl, sym, ap, ◌∙◌}
use Rattle.std.proofs.lemmas.Option.{slice_get_read}
use Rattle.flow_values.specs.Path.{Bytes}
use Rattle.check_values.specs.Roots.{paths_of_rows}
use Rattle.check_values.specs.declared.root.RootRow.{RootRow}
use Rattle.dep_lists.specs.Looking.{IsPlaceOf}
use Rattle.check_phases.proofs.Edges.{among}
use Rattle.check_phases.proofs.Merges.{path_get}

pub row_stands : (rows : List RootRow) (at : ℕ) (row : RootRow) (path : Bytes) → at < length rows → ((d : RootRow) → row ≡ get_or rows at d) → row.path ≡ path → IsPlaceOf rows path (Some at)
row_stands rows at row path low is same = (
  low,
  λ d. ap (λ (r : RootRow). r.path) (sym (is d)) ∙ same,
  among (paths_of_rows rows) at path (path_get rows at row (slice_get_read rows (length rows) at row refl low (is row)) ∙ ap Some same),
)
