use Rattle.std.proofs.Common.{List, refl, sym, ◌∙◌, subst, arith}
use Rattle.std.specs.List.{AllByRecursion}
use Rattle.check_values.specs.Roots.{paths_of_rows}
use Rattle.heap_answers.specs.States.{HasPlace, sigs_by}
use Rattle.heap_answers.specs.payloads.specs.declared.payload.Payload.{Payload}
use Rattle.check_values.specs.Rows.{Rows}
use Rattle.check_values.specs.declared.signatures.Sig.{Sig}
use Rattle.signature_reach.specs.Along.{AreMet, Knows, Grows, AreNamedAt}
use Rattle.signature_reach.proofs.Reached.{grows_none, grows_through, grows_longer, none_closed, one_closed}
use Rattle.request_core.proofs.reaching.follow.Goals as goal

pub loop-at-init : goal.loop-at-init
loop-at-init g c = record { grows = grows_none _ _ _ _ c.requires.known; closed = none_closed _ _; within = omega arith; at = refl; state = refl; part = refl }

pub look_at_all-requires-clause-placed : goal.look_at_all-requires-clause-placed
look_at_all-requires-clause-placed g c = subst (λ (st : List Payload). AllByRecursion (HasPlace st) c.args.modules.now) (sym c.loop-at.invariant.state) c.requires.placed

pub look_at_all-requires-clause-known : goal.look_at_all-requires-clause-known
look_at_all-requires-clause-known g c =
    let known = c.loop-at.invariant.grows.known in
    subst (λ (st : List Payload). Knows (sigs_by st c.args.modules.now) c.loop-at.seen c.loop-at.rows) (sym c.loop-at.invariant.state) known

pub loop-at-preserved : goal.loop-at-preserved
loop-at-preserved g c =
    let sigs = sigs_by (g.R.HeapReader.state c.args.reader.now) c.args.modules.now in
    let same = c.loop-at.invariant.state in
    let step : Grows (sigs_by (g.R.HeapReader.state c.args.reader.now) c.args.modules.now) (paths_of_rows c.args.modules.now) c.loop-at.seen c.loop-at.rows c.look_at_all.new.seen c.look_at_all.new.rows =
    subst (λ (st : List Payload). Grows (sigs_by st c.args.modules.now) (paths_of_rows c.args.modules.now) c.loop-at.seen c.loop-at.rows c.look_at_all.new.seen c.look_at_all.new.rows) same c.in_ok-look_at_all.ensures.grows in
    let met : AreMet (sigs_by (g.R.HeapReader.state c.args.reader.now) c.args.modules.now) c.look_at_all.new.rows c.in_ok-named.named =
    subst (AreMet (sigs_by (g.R.HeapReader.state c.args.reader.now) c.args.modules.now) c.look_at_all.new.rows) c.as_slice-in-loop-at.ensures
    (subst (λ (st : List Payload). AreMet (sigs_by st c.args.modules.now) c.look_at_all.new.rows c.as_slice-in-loop-at.result.now) same c.in_ok-look_at_all.ensures.met) in
    let named : AreNamedAt c.loop-at.rows c.loop-at.at c.in_ok-named.named = subst (λ (rows : Rows Sig). AreNamedAt rows c.loop-at.at c.in_ok-named.named) c.as_slice.ensures c.in_ok-named.ensures in
    let longer = grows_longer sigs (paths_of_rows c.args.modules.now) c.loop-at.seen c.look_at_all.new.seen c.loop-at.rows c.look_at_all.new.rows step in
    record {
      grows = grows_through sigs (paths_of_rows c.args.modules.now) c.args.seen.now c.loop-at.seen c.look_at_all.new.seen c.args.rows.now c.loop-at.rows c.look_at_all.new.rows c.loop-at.invariant.grows step;
      closed = one_closed sigs (paths_of_rows c.args.modules.now) c.loop-at.seen c.look_at_all.new.seen c.loop-at.rows c.look_at_all.new.rows c.loop-at.at c.in_ok-named.named (omega arith) c.loop-at.invariant.closed named step met;
      within = omega (arith, longer);
      at = c.look_at_all.ensures.same.0 ∙ c.loop-at.invariant.at;
      state = c.look_at_all.ensures.same.1 ∙ c.loop-at.invariant.state;
      part = c.look_at_all.ensures.part ∙ c.loop-at.invariant.part;
    }
