use Rattle.std.proofs.Common.{◌∙◌, ap, map, refl, List}
use Rattle.std.specs.List.{flat_map}
use Rattle.alias_table.specs.Aliases.{Row, Key, row_type, names_of}
use Rattle.alias_table.specs.Indexing.{place_at, place_of, are_placed}
use Rattle.alias_table.proofs.TableLemmas.{table_marks, table_within}
use Rattle.alias_table.proofs.Placed.{edges_by_rows, stays_told}
use Rattle.alias_table.proofs.aliases.Aliases.build.Goals as goal

pub mark_cycles-requires : goal.mark_cycles-requires
mark_cycles-requires c =
    table_within c.args.rows (map row_type c.args.rows) c.in_ok-edges.edges c.as_slice.result.now (place_at c.in_ok-modules.modules)
    (λ key. c.in_ok-modules.ensures key ∙ ap (λ (l : List Row). place_of l key) c.as_slice-all.ensures) refl
    (edges_by_rows c.args.rows c.as_slice-all.result.now c.in_ok-edges.edges (place_at c.in_ok-modules.modules) c.in_ok-edges.ensures c.as_slice-all.ensures) c.as_slice.ensures

pub invariant_of-result : goal.invariant_of-result
invariant_of-result c =
    let place = place_at c.in_ok-modules.modules in
    let same = λ (key : Key). c.in_ok-modules.ensures key ∙ ap (λ (l : List Row). place_of l key) c.as_slice-all.ensures in
    let edges = edges_by_rows c.args.rows c.as_slice-all.result.now c.in_ok-edges.edges place c.in_ok-edges.ensures c.as_slice-all.ensures in
    let marks = table_marks c.args.rows (map row_type c.args.rows) c.as_slice.result.now c.in_ok-marks.marks.items place same refl (c.as_slice.ensures ∙ edges) c.in_ok-marks.ensures in
    record {
      placed = same;
      marked = λ key cycle. (marks key).1 cycle;
      right = λ key on. ∣ (marks key).0 on ∣₁;
      stays = stays_told c.args.rows place same c.stays_within-within.result
          (c.stays_within-within.ensures ∙ ap (λ (l : List Row). are_placed place (flat_map (λ row. names_of row.2) l)) c.as_slice-all.ensures);
    }
