use Rattle.std.proofs.Common.{ℕ, ◌<◌, ◌∙◌, ap, sym, subst}
use Rattle.std.specs.List.{AllByRecursion}
use Rattle.check_phases.specs.payloads.specs.Entities.{errors_entity}
use Rattle.check_phases.specs.payloads.specs.State.{IsRoot}
use Rattle.check_phases.specs.payloads.specs.declared.payload.Payload.TheVariants as payload
use Rattle.recheck_staging.specs.Staging.{parts_of, vacated}
use Rattle.recheck_staging.proofs.Fit.{has_state, state_fits, have_sizes, freed_room}
use Rattle.recheck_staging.proofs.Steps.{staging_then, all_three}
use Rattle.recheck_staging.proofs.staging.stage_anew.Goals as goal

pub stage-requires-clause-within : goal.stage-requires-clause-within
stage-requires-clause-within g c = (g.met.W.HeapWriter.sound c.args.writer.now).some_entity

pub stage_modules-requires-clause-root : goal.stage_modules-requires-clause-root
stage_modules-requires-clause-root g c = subst (λ (n : ℕ). IsRoot n c.args.made.now.sources.root) (sym c.stage.ensures.size) c.requires.root

pub stage_modules-requires-clause-sizes : goal.stage_modules-requires-clause-sizes
stage_modules-requires-clause-sizes g c = have_sizes (g.W.HeapWriter.meaning c.args.writer.now).committed c.args.made.now c.args.anew.now c.requires.kept

pub vacate_all-requires-clause-within : goal.vacate_all-requires-clause-within
vacate_all-requires-clause-within g c =
    subst (λ (n : ℕ). AllByRecursion (λ (row : ℕ). errors_entity row < n) c.args.freed.now) (sym (c.stage_modules.ensures.size ∙ c.stage.ensures.size))
    (freed_room (g.W.HeapWriter.meaning c.args.writer.now) c.args.made.now.sources.root c.args.freed.now (g.met.W.HeapWriter.sound c.args.writer.now) c.requires.freed)

pub returns-in_err-stage_modules-clause-staging : goal.returns-in_err-stage_modules-clause-staging
returns-in_err-stage_modules-clause-staging g c = staging_then _ _ _ c.stage.ensures.staging c.stage_modules.ensures.staging

pub returns-in_err-vacate_all-clause-staging : goal.returns-in_err-vacate_all-clause-staging
returns-in_err-vacate_all-clause-staging g c = staging_then _ _ _ (staging_then _ _ _ c.stage.ensures.staging c.stage_modules.ensures.staging) c.vacate_all.ensures.staging

pub returns-clause-staging : goal.returns-clause-staging
returns-clause-staging g c = staging_then _ _ _ (staging_then _ _ _ c.stage.ensures.staging c.stage_modules.ensures.staging) c.vacate_all.ensures.staging

pub returns-clause-ok : goal.returns-clause-ok
returns-clause-ok g c =
    all_three _ (payload.Root c.args.made.now.sources.root) (parts_of c.args.made.now c.args.anew.now) (vacated c.args.freed.now) _ _ _ _ (c.in_ok-root.ensures.ok ∙ ap payload.Root c.in_ok-share.ensures) c.in_ok-stage.ensures.ok c.in_ok-stage_modules.ensures.ok
    c.in_ok-vacate_all.ensures.ok

pub returns-clause-state : goal.returns-clause-state
returns-clause-state g c =
    has_state (g.W.HeapWriter.meaning c.args.writer.now) (g.W.HeapWriter.meaning c.vacate_all.new.writer) c.args.made.now c.args.anew.now c.args.freed.now (g.met.W.HeapWriter.sound c.args.writer.now) c.requires.bare c.requires.root c.requires.kept
    c.requires.freed (returns-clause-ok g c)

pub returns-clause-fit : goal.returns-clause-fit
returns-clause-fit g c =
    state_fits (g.W.HeapWriter.meaning c.args.writer.now) (g.W.HeapWriter.meaning c.vacate_all.new.writer) c.args.made.now (g.met.W.HeapWriter.sound c.args.writer.now) (g.met.W.HeapWriter.sound c.vacate_all.new.writer)
    (staging_then _ _ _ (staging_then _ _ _ c.stage.ensures.staging c.stage_modules.ensures.staging) c.vacate_all.ensures.staging) c.requires.root (returns-clause-state g c)
