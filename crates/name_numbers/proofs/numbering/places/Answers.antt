use Rattle.std.proofs.Common.{◌++◌, ◌∷◌, [], List, sym, ap, ◌∙◌, append_assoc, append-nil, arith}
use Rattle.check_values.specs.Rows.{Rows}
use Rattle.name_numbers.specs.Numbering.{row_or, node_at, place}
use Rattle.name_numbers.proofs.Steps.{begun, named}
use Rattle.name_numbers.proofs.numbering.places.Goals as goal

pub loop-name-init : goal.loop-name-init
loop-name-init g c = record {
  grows = ([], sym (append-nil c.args.nodes.now.items));
  places = λ name more. begun c.args.rows c.args.nodes.now.items more c.new-places.result c.new-places.ensures.empty name;
}

pub loop-name-preserved : goal.loop-name-preserved
loop-name-preserved g c = record {
  grows = (c.loop-name.invariant.grows.0 ++ c.in-Some.node ∷ [], c.in_ok-push.ensures.items ∙ ap (λ (l : List g.row.N.Denot). l ++ c.in-Some.node ∷ []) c.loop-name.invariant.grows.1 ∙ append_assoc c.args.nodes.now.items c.loop-name.invariant.grows.0 (c.in-Some.node ∷ []));
  places = named c.args.rows c.loop-name.rows c.pop.new.self c.in-Some.name c.in-Some.node c.loop-name.nodes.items c.push.new.self.items c.loop-name.places c.insert.new.self c.len-number.result
      c.loop-name.invariant.places c.in-Some.ensures c.in_ok-push.ensures.items (omega (arith, c.len-number.ensures, c.loop-name.nodes.ok.0)) c.in_ok-insert.ensures.updates.0;
}

pub returns-clause-places : goal.returns-clause-places
returns-clause-places g c = λ name more.
    sym (c.loop-name.invariant.places name more ∙ ap (λ (l : Rows g.row.N.Denot). row_or l name (node_at c.loop-name.nodes.items more (place c.loop-name.places name))) c.in_default.ensures.0)
