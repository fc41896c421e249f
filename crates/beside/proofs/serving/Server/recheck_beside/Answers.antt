use Rattle.std.proofs.Common.{rules, ◌≡◌, ◌++◌, ℕ, List, length, take, drop, refl, sym, ap, ◌∙◌, arith}
use Rattle.std.proofs.Math.Seq.{take-append_seam}
use Rattle.entity_heap.specs.Writers.{meaning_in}
use Rattle.beside.specs.Beside.{WorksAs}
use Rattle.beside.proofs.Served.{may_pin}
use Rattle.beside.proofs.Done.{told_done, work_done, falls_done, uses_done}
use Rattle.beside.proofs.serving.Server.recheck_beside.Goals as goal

-- what a vector has once a slice of all of it is given back
written_back : {A : Type 0} (n : ℕ) (new rest : List A) → n ≡ length new → new ≡ take n (new ++ rest)
written_back n new rest same = sym (ap (λ (i : ℕ). take i (new ++ rest)) same ∙ take-append_seam new rest)

pub beside-done-requires-clause-pins : goal.beside-done-requires-clause-pins
beside-done-requires-clause-pins g c κs within = may_pin (length c.args.asks.now) c.args.self.now.lanes c.as_mut_slice.result.now (search rules) c.requires.pins

pub returns-clause-told : goal.returns-clause-told
returns-clause-told g c = told_done c.beside-done.result c.args.self.now.heap c.args.self.now.writer c.beside-done.new.writer _ _ c.args.asks.now c.beside-done.ensures.rechecked refl refl c.beside-done.ensures.told

pub returns-clause-falls : goal.returns-clause-falls
returns-clause-falls g c =
    falls_done (WorksAs g.A.Analyst.work) (meaning_in c.beside-done.new.writer).version c.args.self.now.lanes c.as_mut_slice.result.now c.beside-done.new.lanes c.from_vec.result c.args.askers.now c.beside-done.new.askers c.args.asks.now c.beside-done.result (search rules) c.requires.askers c.beside-done.ensures.lanes

pub returns-clause-lanes : goal.returns-clause-lanes
returns-clause-lanes g c =
    let wide = c.into_vec-lanes.result.ok.0 in let len = c.as_mut_slice.ensures.len in let many = c.beside-done.ensures.many.0 in
    let back = written_back c.into_vec-lanes.result.len c.beside-done.new.lanes (drop (length c.beside-done.new.lanes) c.into_vec-lanes.result.items) (omega arith) in
    uses_done (WorksAs g.A.Analyst.work) (meaning_in c.beside-done.new.writer).version c.args.self.now.lanes c.as_mut_slice.result.now c.beside-done.new.lanes c.from_vec.result c.args.askers.now c.beside-done.new.askers c.args.asks.now _ c.beside-done.result (search rules) (back ∙ sym c.from_vec.ensures) c.requires.askers c.beside-done.ensures.many.0 c.beside-done.ensures.told c.beside-done.ensures.lanes

pub returns-clause-work : goal.returns-clause-work
returns-clause-work g c =
    let wide = c.into_vec-lanes.result.ok.0 in let len = c.as_mut_slice.ensures.len in let many = c.beside-done.ensures.many.0 in
    let back = written_back c.into_vec-lanes.result.len c.beside-done.new.lanes (drop (length c.beside-done.new.lanes) c.into_vec-lanes.result.items) (omega arith) in
    work_done (WorksAs g.A.Analyst.work) (meaning_in c.beside-done.new.writer).version c.args.self.now.lanes c.as_mut_slice.result.now c.beside-done.new.lanes c.from_vec.result c.args.askers.now c.beside-done.new.askers c.args.asks.now c.beside-done.result (search rules) (back ∙ sym c.from_vec.ensures) c.beside-done.ensures.lanes
