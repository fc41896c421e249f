use Rattle.std.proofs.Common.{List, ◌∙◌, subst}
use Rattle.check_values.specs.Roots.{paths_of_rows}
use Rattle.heap_answers.specs.States.{sigs_by}
use Rattle.heap_answers.specs.payloads.specs.declared.payload.Payload.{Payload}
use Rattle.signature_reach.specs.Along.{Grows, IsClosed}
use Rattle.signature_reach.proofs.Reached.{reached_told}
use Rattle.request_core.proofs.reaching.reached_signatures.Goals as goal

pub returns-clause-agree : goal.returns-clause-agree
returns-clause-agree g c =
    let before = g.R.HeapReader.state c.args.reader.now in
    let ms = c.args.modules.now in
    let same = c.look_at_all.ensures.same.1 in
    let grows : Grows (sigs_by (g.R.HeapReader.state c.args.reader.now) c.args.modules.now) (paths_of_rows c.args.modules.now) c.look_at_all.new.seen c.look_at_all.new.rows c.follow.new.seen c.follow.new.rows =
    subst (λ (st : List Payload). Grows (sigs_by st c.args.modules.now) (paths_of_rows c.args.modules.now) c.look_at_all.new.seen c.look_at_all.new.rows c.follow.new.seen c.follow.new.rows) same c.in_ok-follow.ensures.grows in
    let closed : IsClosed (sigs_by (g.R.HeapReader.state c.args.reader.now) c.args.modules.now) c.follow.new.rows = subst (λ (st : List Payload). IsClosed (sigs_by st c.args.modules.now) c.follow.new.rows) same c.in_ok-follow.ensures.closed in
    reached_told (sigs_by before ms) (paths_of_rows ms) c.args.deps.now c.as_slice.result.now c.as_slice-2.result.now c.look_at_all.new.seen c.follow.new.seen c.look_at_all.new.rows c.follow.new.rows c.as_slice.ensures
    (c.as_slice-2.ensures ∙ c.in_ok-starts.ensures) c.in_ok-look_at_all.ensures.met grows closed
