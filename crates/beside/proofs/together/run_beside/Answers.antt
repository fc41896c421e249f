use Rattle.beside.proofs.Crossing.{crossing}
use Rattle.beside.proofs.together.run_beside.Goals as goal

pub answer_beside-requires-send-P : goal.answer_beside-requires-send-P
answer_beside-requires-send-P g c κs within = search crossing depth 30

pub answer_beside-requires-sync-P : goal.answer_beside-requires-sync-P
answer_beside-requires-sync-P g c κs within = search crossing depth 30

pub answer_beside-requires-sync-Q : goal.answer_beside-requires-sync-Q
answer_beside-requires-sync-Q g c κs within = search crossing depth 30

pub answer_beside-requires-send-X : goal.answer_beside-requires-send-X
answer_beside-requires-send-X g c κs within = search crossing depth 30
