use Rattle.std.proofs.Common.{[], Option, Vec, Global, List, get_or, length, map, sym, ap, ◌∙◌, subst}
use Rattle.std.proofs.lemmas.Result.{err_from_is_err_and}
use Rattle.std.specs.List.{AllZip}
use Rattle.check_values.specs.declared.signatures.Sig.{Sig}
use Rattle.check_phases.proofs.Lists.{zip_length}
use Rattle.check_phases.proofs.Works.{within_same, members_done, members_within}
use Rattle.recheck_merging.specs.Plans.{members_of}
use Rattle.recheck_merging.specs.Still.{TellsKept}
use Rattle.recheck_merging.proofs.Unmoved.{lacking_anew, lacking_few, within_most}
use Rattle.recheck_merging.proofs.merging.merge_wave.Goals as goal

pub wave_signatures-requires-clause-many : goal.wave_signatures-requires-clause-many
wave_signatures-requires-clause-many g c κs within =
    ap length c.as_slice-own.ensures.value ∙ zip_length (TellsKept c.args.edit.now.touched.now c.args.same.now c.args.edit.now.plan.now) (get_or c.args.edit.now.plan.now.waves c.args.wave []) c.in_ok-olds.olds.items c.in_ok-olds.ensures.kept

pub returns-in_err-anew-clause-work : goal.returns-in_err-anew-clause-work
returns-in_err-anew-clause-work g c =
    let p = err_from_is_err_and c.from_residual-in_err-anew.result c.from_residual-in_err-anew.ensures.1 in
    let ks = get_or c.args.edit.now.plan.now.waves c.args.wave [] in
    let kept = subst (λ (l : List (Option (Vec Sig Global))). AllZip (TellsKept c.args.edit.now.touched.now c.args.same.now c.args.edit.now.plan.now) ks l) (sym c.as_slice-own.ensures.value) c.in_ok-olds.ensures.kept in
    let same = ap (members_of c.args.edit.now.plan.now) (lacking_anew c.args.edit.now.touched.now c.args.same.now c.args.edit.now.plan.now ks c.as_slice-own.result.now kept) in
    rw p.1 (members_within _ _ _ _ same c.in_err-anew.ensures.work)

pub returns-in_err-anew-clause-most : goal.returns-in_err-anew-clause-most
returns-in_err-anew-clause-most g c = within_most _ _ _ _ (lacking_few c.args.edit.now.plan.now (get_or c.args.edit.now.plan.now.waves c.args.wave []) c.as_slice-own.result.now) c.in_err-anew.ensures.work

pub returns-in_err-keep_wave-clause-work : goal.returns-in_err-keep_wave-clause-work
returns-in_err-keep_wave-clause-work g c =
    let p = err_from_is_err_and c.from_residual-in_err-keep_wave.result c.from_residual-in_err-keep_wave.ensures.1 in
    let ks = get_or c.args.edit.now.plan.now.waves c.args.wave [] in
    let kept = subst (λ (l : List (Option (Vec Sig Global))). AllZip (TellsKept c.args.edit.now.touched.now c.args.same.now c.args.edit.now.plan.now) ks l) (sym c.as_slice-own.ensures.value) c.in_ok-olds.ensures.kept in
    let same = ap (members_of c.args.edit.now.plan.now) (lacking_anew c.args.edit.now.touched.now c.args.same.now c.args.edit.now.plan.now ks c.as_slice-own.result.now kept) in
    rw p.1 (within_same _ _ _ (c.totals_rise.ensures.counted (map g.A.Analyst.work c.args.analysts.now)) (members_done _ _ _ _ same c.in_ok-anew.ensures.work))

pub returns-in_err-keep_wave-clause-most : goal.returns-in_err-keep_wave-clause-most
returns-in_err-keep_wave-clause-most g c =
    within_most _ _ _ _ (lacking_few c.args.edit.now.plan.now (get_or c.args.edit.now.plan.now.waves c.args.wave []) c.as_slice-own.result.now) (within_same _ _ _ (c.totals_rise.ensures.counted (map g.A.Analyst.work c.args.analysts.now)) c.in_ok-anew.ensures.work)

pub returns-clause-work : goal.returns-clause-work
returns-clause-work g c =
    let ks = get_or c.args.edit.now.plan.now.waves c.args.wave [] in
    let kept = subst (λ (l : List (Option (Vec Sig Global))). AllZip (TellsKept c.args.edit.now.touched.now c.args.same.now c.args.edit.now.plan.now) ks l) (sym c.as_slice-own.ensures.value) c.in_ok-olds.ensures.kept in
    let same = ap (members_of c.args.edit.now.plan.now) (lacking_anew c.args.edit.now.touched.now c.args.same.now c.args.edit.now.plan.now ks c.as_slice-own.result.now kept) in
    members_done _ _ _ _ same c.in_ok-anew.ensures.work

pub returns-clause-most : goal.returns-clause-most
returns-clause-most g c =
    within_most _ _ _ _ (lacking_few c.args.edit.now.plan.now (get_or c.args.edit.now.plan.now.waves c.args.wave []) c.as_slice-own.result.now) (within_same _ _ _ (c.totals_rise.ensures.counted (map g.A.Analyst.work c.args.analysts.now)) c.in_ok-anew.ensures.work)
