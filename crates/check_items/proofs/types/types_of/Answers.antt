use Rattle.std.proofs.Common.{ap}
use Rattle.std.specs.List.{flat_map}
use Rattle.check_values.specs.Rows.{first_of_each}
use Rattle.check_world.specs.View.{meaning_in}
use Rattle.js_tree.specs.View.{items_view}
use Rattle.local_signatures.specs.Scope.{bound_by, items_from}
use Rattle.check_items.specs.Meant.{own_rows}
use Rattle.check_items.proofs.TypeRows.{firsts_seen, named_bound}
use Rattle.check_items.proofs.types.types_of.Goals as goal

pub returns-clause-names : goal.returns-clause-names
returns-clause-names c = λ deps sigs says name.
    let bindings = flat_map bound_by (items_from (items_view c.args.items.now)) in
    named_bound c.args.imports.now c.args.home.now deps sigs c.as_slice-2.result.now c.in_ok-rows.rows.items (first_of_each bindings) c.in_ok-names.names says c.as_slice-2.ensures.value
    (firsts_seen c.as_slice.result.now c.in_ok-all.all.items c.in_ok-rows.rows.items bindings c.as_slice.ensures.value c.in_ok-all.ensures c.in_ok-rows.ensures) c.in_ok-names.ensures name

pub returns-clause-aliases : goal.returns-clause-aliases
returns-clause-aliases c = λ path.
    let bindings = flat_map bound_by (items_from (items_view c.args.items.now)) in
    ap (own_rows path (meaning_in c.in_ok-names.names))
    (firsts_seen c.as_slice.result.now c.in_ok-all.all.items c.in_ok-rows.rows.items bindings c.as_slice.ensures.value c.in_ok-all.ensures c.in_ok-rows.ensures)
