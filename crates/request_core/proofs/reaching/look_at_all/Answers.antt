use Rattle.std.proofs.Common.{List, refl, sym, ◌∙◌, subst, arith}
use Rattle.std.specs.List.{AllByRecursion}
use Rattle.check_values.specs.Roots.{paths_of_rows}
use Rattle.heap_answers.specs.States.{HasPlace, sigs_by}
use Rattle.heap_answers.specs.payloads.specs.declared.payload.Payload.{Payload}
use Rattle.signature_reach.specs.Along.{IsMet, Knows, Grows}
use Rattle.heap_core.proofs.Lists.{get_index}
use Rattle.signature_reach.proofs.Reached.{grows_none, grows_through, one_more_met}
use Rattle.request_core.proofs.reaching.look_at_all.Goals as goal

pub loop-i-init : goal.loop-i-init
loop-i-init g c = record { grows = grows_none _ _ _ _ c.requires.known; met = tt; at = refl; state = refl; part = refl }

pub look_at-requires-clause-placed : goal.look_at-requires-clause-placed
look_at-requires-clause-placed g c = subst (λ (st : List Payload). AllByRecursion (HasPlace st) c.args.modules.now) (sym c.loop-i.invariant.state) c.requires.placed

pub look_at-requires-clause-known : goal.look_at-requires-clause-known
look_at-requires-clause-known g c =
    let known = c.loop-i.invariant.grows.known in
    subst (λ (st : List Payload). Knows (sigs_by st c.args.modules.now) c.loop-i.seen c.loop-i.rows) (sym c.loop-i.invariant.state) known

pub loop-i-preserved : goal.loop-i-preserved
loop-i-preserved g c =
    let sigs = sigs_by (g.R.HeapReader.state c.args.reader.now) c.args.modules.now in
    let same = c.loop-i.invariant.state in
    let step : Grows (sigs_by (g.R.HeapReader.state c.args.reader.now) c.args.modules.now) (paths_of_rows c.args.modules.now) c.loop-i.seen c.loop-i.rows c.look_at.new.seen c.look_at.new.rows =
    subst (λ (st : List Payload). Grows (sigs_by st c.args.modules.now) (paths_of_rows c.args.modules.now) c.loop-i.seen c.loop-i.rows c.look_at.new.seen c.look_at.new.rows) same c.in_ok-look_at.ensures.grows in
    let here : IsMet (sigs_by (g.R.HeapReader.state c.args.reader.now) c.args.modules.now) c.look_at.new.rows c.index-paths-i.result =
    subst (λ (st : List Payload). IsMet (sigs_by st c.args.modules.now) c.look_at.new.rows c.index-paths-i.result) same c.in_ok-look_at.ensures.met in
    let low = c.loop-i-test.true in
    record {
      grows = grows_through sigs (paths_of_rows c.args.modules.now) c.args.seen.now c.loop-i.seen c.look_at.new.seen c.args.rows.now c.loop-i.rows c.look_at.new.rows c.loop-i.invariant.grows step;
      met = one_more_met sigs (paths_of_rows c.args.modules.now) c.loop-i.seen c.look_at.new.seen c.loop-i.rows c.look_at.new.rows c.args.paths.now c.loop-i.i c.index-paths-i.result (omega arith)
          (get_index c.args.paths.now c.loop-i.i c.index-paths-i.result (omega arith) c.index-paths-i.is) step c.loop-i.invariant.met here;
      at = c.look_at.ensures.same.0 ∙ c.loop-i.invariant.at;
      state = c.look_at.ensures.same.1 ∙ c.loop-i.invariant.state;
      part = c.look_at.ensures.part ∙ c.loop-i.invariant.part;
    }
