use Rattle.std.proofs.Common.{◌≡◌, ◌≢◌, ◌+◌, ◌%◌, ℕ, sym, ap, ◌∙◌, subst, arith}
use Rattle.entity_heap.specs.declared.board.Visit.{Visit}
use Rattle.entity_heap.specs.Lanes.{visit_in}
use Rattle.lane_asks.proofs.Telling.{told_turn, told_pass}
use Rattle.lane_asks.proofs.asking.answer_row.Goals as goal

pub loop-at-preserved-then-at-row : goal.loop-at-preserved-then-at-row
loop-at-preserved-then-at-row g c =
    let inv = c.loop-at.invariant in let few = inv.pins in
    let apart : c.loop-at.at % c.args.row.now.many ≢ c.args.row.now.place = λ e. c.if-at-row.true ((λ j. c.loop-at.at % inv.row.0 j) ∙ e ∙ sym inv.row.1) in
    record {
      lane = inv.lane;
      pins = omega arith;
      row = inv.row;
      told = told_pass g.K.Asked.answers g.K.Asked.works c.args.row.now.many c.args.row.now.place c.loop-at.at (visit_in c.args.lane.now) (visit_in c.loop-at.lane) c.args.asker.now c.loop-at.asker c.args.asks.now c.loop-at.row.told.items c.requires.open.0 c.loop-at-test.true apart inv.told;
    }

pub loop-at-preserved : goal.loop-at-preserved
loop-at-preserved g c =
    let inv = c.loop-at.invariant in let turn : c.loop-at.at % c.args.row.now.many ≡ c.args.row.now.place = (λ j. c.loop-at.at % sym inv.row.0 j) ∙ c.if-at-row.false ∙ inv.row.1 in let one = c.answer_one-told.ensures.told in let few = inv.pins in
    let once : (visit_in c.answer_one-told.new.lane).pins ≡ (visit_in c.loop-at.lane).pins + 1 = ap (λ (v : Visit g.row.P.Denot). v.pins) one.visit in
    record {
      lane = (c.answer_one-told.ensures.from, ap (λ (v : Visit g.row.P.Denot). v.number) one.visit ∙ inv.lane.1);
      pins = omega arith;
      row = inv.row;
      told = rw c.in_ok-push_back.ensures.items (told_turn g.K.Asked.answers g.K.Asked.works c.args.row.now.many c.args.row.now.place c.loop-at.at (visit_in c.args.lane.now) (visit_in c.loop-at.lane) (visit_in c.answer_one-told.new.lane) c.args.asker.now c.loop-at.asker c.answer_one-told.new.asker c.args.asks.now c.loop-at.row.told.items c.index-asks-at.result c.answer_one-told.result c.requires.open.0 c.loop-at-test.true turn c.index-asks-at.is inv.told one);
    }
