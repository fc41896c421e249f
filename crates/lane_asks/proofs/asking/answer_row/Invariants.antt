use Rattle.std.proofs.Common.{◌≡◌, ◌+◌, ◌≤◌, take}
use Rattle.entity_heap.specs.Lanes.{visit_in}
use Rattle.lane_asks.specs.Dealing.{dealt}
use Rattle.lane_asks.specs.Telling.{AreTold, IsSameLane}
use Rattle.lane_asks.proofs.asking.answer_row.Given as goal

abbrev pub invariant-loop-at : goal.invariant-loop-at
invariant-loop-at g l = record {
  lane : IsSameLane l.heap l.fn.lane l.lane;
  pins : (visit_in l.lane).pins ≤ (visit_in l.fn.lane).pins + l.at;
  row : (l.row.many ≡ l.fn.row.many) × (l.row.place ≡ l.fn.row.place);
  told : AreTold g.K.Asked.answers g.K.Asked.works (visit_in l.fn.lane) (visit_in l.lane) l.fn.asker l.asker (dealt l.fn.row.many l.fn.row.place (take l.at l.asks)) l.row.told.items;
}
