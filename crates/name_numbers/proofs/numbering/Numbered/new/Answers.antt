use Rattle.std.proofs.Common.{[], ap, ◌∙◌, arith}
use Rattle.check_values.specs.Rows.{Rows}
use Rattle.name_numbers.specs.Looking.{looked_or}
use Rattle.name_numbers.specs.Numbering.{node_at, number_at}
use Rattle.name_numbers.proofs.Steps.{begun_modules, added_module, all_looked, none_left}
use Rattle.name_numbers.proofs.numbering.Numbered.new.Goals as goal

pub loop-path-init : goal.loop-path-init
loop-path-init g c = λ path name more. begun_modules c.args.modules.items c.new-nodes.result.items more c.new-modules.result c.new-modules.ensures.empty path name

pub loop-path-preserved : goal.loop-path-preserved
loop-path-preserved g c =
    added_module c.args.modules.items c.loop-path.rest.items c.pop.new.self.items c.in-Some.path c.in-Some.rows c.loop-path.nodes.items c.places.new.nodes.items c.in_ok-places.places c.loop-path.modules c.insert.new.self
    c.loop-path.invariant c.in-Some.ensures.items c.in_ok-places.ensures.grows c.in_ok-places.ensures.places c.in_ok-insert.ensures.updates.0

pub loop-path-preserved-in_ok-insert : goal.loop-path-preserved-in_ok-insert
loop-path-preserved-in_ok-insert g c =
    added_module c.args.modules.items c.loop-path.rest.items c.pop.new.self.items c.in-Some.path c.in-Some.rows c.loop-path.nodes.items c.places.new.nodes.items c.in_ok-places.places c.loop-path.modules c.insert.new.self
    c.loop-path.invariant c.in-Some.ensures.items c.in_ok-places.ensures.grows c.in_ok-places.ensures.places c.in_ok-insert.ensures.updates.0

pub returns : goal.returns
returns g c = λ path name.
    all_looked c.loop-path.nodes.items _ (number_at c.loop-path.modules path name) (c.loop-path.invariant path name [] ∙ ap (λ (l : Rows (Rows g.row.N.Denot)). looked_or l path name (node_at c.loop-path.nodes.items [] (number_at c.loop-path.modules path name))) (none_left c.loop-path.rest.items (omega (arith, c.in_default.ensures.cases.0, c.loop-path.rest.ok.0))))
