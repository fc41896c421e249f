use Rattle.std.proofs.Common.{◌≡◌, ◌++◌, ℕ, OnOk, List, length, take, drop, Result, Ok, sym, ap, ◌∙◌, subst, arith}
use Rattle.std.specs.List.{AllZip}
use Rattle.std.proofs.Math.Seq.{take-append_seam}
use Rattle.entity_heap.specs.Writers.{plan_in, meaning_in}
use Rattle.lane_asks.specs.Dealing.{AreRows}
use Rattle.lane_asks.specs.Telling.{AllHaveTold, IsToldFrom}
use Rattle.lane_asks.specs.declared.dealing.Row.{Row}
use Rattle.beside.specs.Beside.{AnswersFrom, WorksAs}
use Rattle.beside.proofs.together.beside.Goals as goal

-- what a vector has once a slice of all of it is given back
written_back : {A : Type 0} (n : ℕ) (new rest : List A) → n ≡ length new → take n (new ++ rest) ≡ new
written_back n new rest same = ap (λ (i : ℕ). take i (new ++ rest)) same ∙ take-append_seam new rest

-- what an answer says where it is Ok
told_when : {V E P : Type 0} {r : Result V E} {x : V} → r ≡ Ok x → OnOk r P → P
told_when {V} {E} {P} same told = subst (λ (s : Result V E). OnOk s P) same told

-- rows that are those of all are so by another name
rows_when : {X : Type 0} (all : List X) {rows new : List (Row X)} → rows ≡ new → AreRows all rows → AreRows all new
rows_when all same are = subst (λ rows. AreRows all rows) same are

pub returns-clause-told : goal.returns-clause-told
returns-clause-told g c =
    let many = c.meet_and_run-told.ensures.many in let long = c.in_ok-rows.ensures.many in let wide = c.in_ok-rows.rows.ok.0 in let len = c.as_mut_slice.ensures.len in let auto = c.meet_and_run-told.auto.rows in
    let back = written_back c.in_ok-rows.rows.len c.meet_and_run-told.new.rows (drop (length c.meet_and_run-told.new.rows) c.in_ok-rows.rows.items) (omega arith) in
    let tells = told_when c.in_ok-told.was c.meet_and_run-told.ensures.tells in
    subst (λ xs. AllZip (IsToldFrom AnswersFrom (plan_in c.meet_and_run-told.new.writer).history (meaning_in c.args.writer.now).version (meaning_in c.meet_and_run-told.new.writer).version) c.args.asks.now xs) (sym c.from_vec.ensures)
    (tells.told c.in_ok-all.all.items (rows_when c.in_ok-all.all.items back c.in_ok-all.ensures.rows) c.in_ok-all.ensures.many)

pub returns-clause-lanes : goal.returns-clause-lanes
returns-clause-lanes g c =
    let many = c.meet_and_run-told.ensures.many in let long = c.in_ok-rows.ensures.many in let wide = c.in_ok-rows.rows.ok.0 in let len = c.as_mut_slice.ensures.len in let auto = c.meet_and_run-told.auto.rows in
    let back = written_back c.in_ok-rows.rows.len c.meet_and_run-told.new.rows (drop (length c.meet_and_run-told.new.rows) c.in_ok-rows.rows.items) (omega arith) in
    let tells = told_when c.in_ok-told.was c.meet_and_run-told.ensures.tells in
    subst (λ xs. AllHaveTold (WorksAs g.A.Analyst.work) (meaning_in c.meet_and_run-told.new.writer).version c.args.lanes.now c.meet_and_run-told.new.lanes c.args.askers.now c.meet_and_run-told.new.askers c.args.asks.now xs) (sym c.from_vec.ensures)
    (tells.lanes c.in_ok-all.all.items (rows_when c.in_ok-all.all.items back c.in_ok-all.ensures.rows))
