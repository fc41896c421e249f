use Rattle.std.proofs.Common.{◌<◌, [], List, length, get_or, Some, sym, ap, ◌∙◌, subst, arith}
use Rattle.std.specs.Borrow.{Bor}
use Rattle.heap_core.proofs.Lists.{get_index}
use Rattle.check_values.specs.declared.signatures.Sig.{Sig}
use Rattle.check_phases.proofs.Lists.{place_at, zip_length}
use Rattle.recheck_merging.specs.Merging.{AreSigsOf}
use Rattle.recheck_merging.proofs.Groups.{wave_ends}
use Rattle.recheck_merging.proofs.Merged.{zip_at}
use Rattle.recheck_merging.proofs.Unmoved.{lacking_less, next_low, next_made, next_more}
use Rattle.recheck_merging.proofs.merging.keep_wave.Goals as goal
use Rattle.recheck_merging.proofs.merging.keep_wave.Goals.{in-Some, in-None}

pub bounds-merged-next : goal.bounds-merged-next
bounds-merged-next c =
    let ks = get_or c.args.edit.now.plan.now.waves c.args.wave [] in
    let many = zip_length _ ks c.args.olds.now c.requires.olds in
    next_low _ ks c.args.olds.now c.args.merged.now c.loop-i.i c.loop-i.next (omega (arith, many, c.loop-i-test.true)) (get_index c.args.olds.now c.loop-i.i c.index-olds-i.result c.loop-i-test.true c.index-olds-i.is ∙ ap Some c.in-None.is) c.loop-i.invariant.next c.requires.anew

pub offset_bounds-merged-next : goal.offset_bounds-merged-next
offset_bounds-merged-next c =
    let ks = get_or c.args.edit.now.plan.now.waves c.args.wave [] in
    let many = zip_length _ ks c.args.olds.now c.requires.olds in
    let low = next_low _ ks c.args.olds.now c.args.merged.now c.loop-i.i c.loop-i.next (omega (arith, many, c.loop-i-test.true)) (get_index c.args.olds.now c.loop-i.i c.index-olds-i.result c.loop-i-test.true c.index-olds-i.is ∙ ap Some c.in-None.is) c.loop-i.invariant.next c.requires.anew in
    omega (arith, low)

pub overflow_add-next : goal.overflow_add-next
overflow_add-next c =
    let ks = get_or c.args.edit.now.plan.now.waves c.args.wave [] in
    let many = zip_length _ ks c.args.olds.now c.requires.olds in
    let low = next_low _ ks c.args.olds.now c.args.merged.now c.loop-i.i c.loop-i.next (omega (arith, many, c.loop-i-test.true)) (get_index c.args.olds.now c.loop-i.i c.index-olds-i.result c.loop-i-test.true c.index-olds-i.is ∙ ap Some c.in-None.is) c.loop-i.invariant.next c.requires.anew in
    omega (arith, low)

pub keep_component-requires-clause-within : goal.keep_component-requires-clause-within
keep_component-requires-clause-within c = let many = zip_length _ (get_or c.args.edit.now.plan.now.waves c.args.wave []) c.args.olds.now c.requires.olds in omega (arith, many, c.loop-i-test.true)

pub keep_component-requires-clause-signatures : goal.keep_component-requires-clause-signatures
keep_component-requires-clause-signatures c =
    let ks = get_or c.args.edit.now.plan.now.waves c.args.wave [] in
    let many = zip_length _ ks c.args.olds.now c.requires.olds in
    let low : c.loop-i.i < length ks = omega (arith, many, c.loop-i-test.true) in
    let at = get_index c.args.olds.now c.loop-i.i c.index-olds-i.result c.loop-i-test.true c.index-olds-i.is in
    elim c.match-olds-i.branch [
      | in-Some w ↦
          let own = zip_at _ ks c.args.olds.now c.loop-i.i (Some w.in-Some.old) c.requires.olds (at ∙ ap Some w.in-Some.is) in
          subst (AreSigsOf c.args.edit.now.sources.now c.args.edit.now.plan.now (get_or ks c.loop-i.i 0)) (sym (ap (λ (b : Bor (List Sig)). b.now) w.own-is ∙ w.as_slice-own.ensures.value)) own
      | in-None w ↦
          let none = at ∙ ap Some w.in-None.is in
          let small = next_low _ ks c.args.olds.now c.args.merged.now c.loop-i.i c.loop-i.next low none c.loop-i.invariant.next c.requires.anew in
          let there = get_index c.args.merged.now c.loop-i.next w.index-merged-next.result small w.index-merged-next.is in
          let own = next_made _ ks c.args.olds.now c.args.merged.now c.loop-i.i c.loop-i.next w.index-merged-next.result low none c.loop-i.invariant.next c.requires.anew there in
          subst (AreSigsOf c.args.edit.now.sources.now c.args.edit.now.plan.now (get_or ks c.loop-i.i 0)) (sym (ap (λ (b : Bor (List Sig)). b.now) w.own-is ∙ w.as_slice-own-in-None.ensures.value)) own
    ]

pub loop-i-preserved : goal.loop-i-preserved
loop-i-preserved c =
    let ks = get_or c.args.edit.now.plan.now.waves c.args.wave [] in
    let many = zip_length _ ks c.args.olds.now c.requires.olds in
    let low : c.loop-i.i < length ks = omega (arith, many, c.loop-i-test.true) in
    let at = get_index c.args.olds.now c.loop-i.i c.index-olds-i.result c.loop-i-test.true c.index-olds-i.is in
    record {
      merged = c.in_ok-keep_component.ensures.merged;
      same = c.in_ok-keep_component.ensures.same;
      next = elim c.match-olds-i.branch [
        | in-Some w ↦ w.next-is ∙ (c.loop-i.invariant.next ∙ ap length (sym (lacking_less ks c.args.olds.now c.loop-i.i w.in-Some.old low (at ∙ ap Some w.in-Some.is))))
        | in-None w ↦ w.next-is ∙ next_more ks c.args.olds.now c.loop-i.i c.loop-i.next low (at ∙ ap Some w.in-None.is) c.loop-i.invariant.next
      ];
    }

pub returns-clause-merged : goal.returns-clause-merged
returns-clause-merged c =
    let ks = get_or c.args.edit.now.plan.now.waves c.args.wave [] in
    let many = zip_length _ ks c.args.olds.now c.requires.olds in
    wave_ends c.args.edit.now.sources.now c.args.edit.now.plan.now c.args.wave c.loop-i.i ks _ (place_at c.args.edit.now.plan.now.waves c.args.wave [] c.requires.wave) (omega arith) c.loop-i.invariant.merged
