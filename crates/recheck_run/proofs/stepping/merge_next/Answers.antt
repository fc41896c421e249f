use Rattle.std.proofs.Common.{◌+◌, ℕ, Bool, List, Option, length, refl, sym, ◌∙◌, subst, arith}
use Rattle.std.specs.Vec.{with_items}
use Rattle.std.proofs.lemmas.List.{with_items_is}
use Rattle.std.proofs.lemmas.Result.{err_from_is_err_and}
use Rattle.recheck_plan.specs.Marks.{AreMarksOf}
use Rattle.recheck_reach.specs.recheck_merging.specs.Keeping.{ComeFrom, AreTouched}
use Rattle.recheck_reach.specs.recheck_merging.specs.Still.{AreOld}
use Rattle.recheck_run.proofs.Goes.{wave_goes, wave_failed}
use Rattle.recheck_run.proofs.Planned.{both}
use Rattle.recheck_run.proofs.stepping.merge_next.Goals as goal

pub merge_wave-requires-clause-edit : goal.merge_wave-requires-clause-edit
merge_wave-requires-clause-edit g c κs within =
    let is = c.requires.merging in
    let was = c.args.base.now.was.sources in
    let s = c.args.merging.listed.sources in
    let touched = c.args.merging.listed.touched in
    let come = both c.args.base.now c.requires.base s is.listed.root is.listed.sources touched is.touched c.reach_laws.ensures.touched in
    record {
      made = c.requires.base.made;
      sources = is.listed.sources;
      plan = is.plan.plan;
      come = subst (λ (f : List (Option ℕ)). ComeFrom was s f) (sym c.as_slice.ensures.value) come.0;
      numbers = touched;
      touched = subst (λ (f : List (Option ℕ)). AreTouched was s f touched) (sym c.as_slice.ensures.value) come.1;
      marks = subst (λ (l : List Bool). AreMarksOf (length s.root.modules) touched l) (sym c.as_slice-2.ensures.value) is.marks;
    }

pub merge_wave-requires-clause-same : goal.merge_wave-requires-clause-same
merge_wave-requires-clause-same g c κs within =
    let sigs = c.args.base.now.was.signatures.items in
    subst (λ (f : List (Option ℕ)). AreOld sigs f c.args.merging.slots.items c.as_mut_slice.result.now) (sym c.as_slice.ensures.value)
    (subst (λ (l : List Bool). AreOld sigs c.args.base.now.from.items c.args.merging.slots.items l) (sym c.as_mut_slice.ensures.value) c.requires.merging.same)

pub returns-in_err-merge_wave-clause-steps : goal.returns-in_err-merge_wave-clause-steps
returns-in_err-merge_wave-clause-steps g c =
    let p = err_from_is_err_and c.from_residual.result c.from_residual.ensures.1 in
    rw p.1 (wave_failed c.members_add_up.ensures c.args.base.now c.args.merging c.requires.merging _ _ c.requires.low c.in_err-merge_wave.ensures.most)

pub returns-clause-holds : goal.returns-clause-holds
returns-clause-holds g c =
    let is = c.requires.merging in
    let low = c.requires.low in
    let done = c.in_ok-merge_wave.ensures in
    let many = done.same.many ∙ (done.merged.right.many ∙ (sym is.merged.right.many ∙ (sym is.same.many ∙ sym c.args.merging.same.ok.0))) in
    record {
      listed = is.listed;
      touched = is.touched;
      changed = is.changed;
      marks = is.marks;
      plan = is.plan;
      edges = is.edges;
      merged = done.merged;
      same =
          subst (λ (l : List Bool). AreOld c.args.base.now.was.signatures.items c.args.base.now.from.items c.merge_wave.new.slots.items l) (sym (with_items_is c.args.merging.same c.merge_wave.new.same many))
          (subst (λ (f : List (Option ℕ)). AreOld c.args.base.now.was.signatures.items f c.merge_wave.new.slots.items c.merge_wave.new.same) c.as_slice.ensures.value done.same);
      low = omega (arith, low);
    }

pub returns-clause-steps : goal.returns-clause-steps
returns-clause-steps g c =
    wave_goes c.members_add_up.ensures c.args.base.now c.args.merging c.requires.merging
    (record { listed = c.args.merging.listed; edges = c.args.merging.edges; touched = c.args.merging.touched; plan = c.args.merging.plan; wave = c.args.merging.wave + 1; slots = c.merge_wave.new.slots; same = with_items c.args.merging.same c.merge_wave.new.same })
    _ _ c.requires.low refl refl c.in_ok-merge_wave.ensures.most
