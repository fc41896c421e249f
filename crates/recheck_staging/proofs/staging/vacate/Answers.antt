use Rattle.std.proofs.Common.{◌∙◌}
use Rattle.recheck_staging.proofs.Steps.{staging_then, row_vacated}
use Rattle.recheck_staging.proofs.staging.vacate.Goals as goal

pub returns-in_err-stage-2-clause-staging : goal.returns-in_err-stage-2-clause-staging
returns-in_err-stage-2-clause-staging g c = staging_then _ _ _ (c.stage.ensures.staging) c.stage-2.ensures.staging

pub returns-in_err-stage-3-clause-staging : goal.returns-in_err-stage-3-clause-staging
returns-in_err-stage-3-clause-staging g c = staging_then _ _ _ (staging_then _ _ _ (c.stage.ensures.staging) c.stage-2.ensures.staging) c.stage-3.ensures.staging

pub returns-in_err-stage-4-clause-staging : goal.returns-in_err-stage-4-clause-staging
returns-in_err-stage-4-clause-staging g c = staging_then _ _ _ (staging_then _ _ _ (staging_then _ _ _ (c.stage.ensures.staging) c.stage-2.ensures.staging) c.stage-3.ensures.staging) c.stage-4.ensures.staging

pub returns-clause-staging : goal.returns-clause-staging
returns-clause-staging g c = staging_then _ _ _ (staging_then _ _ _ (staging_then _ _ _ (c.stage.ensures.staging) c.stage-2.ensures.staging) c.stage-3.ensures.staging) c.stage-4.ensures.staging

pub returns-clause-ok : goal.returns-clause-ok
returns-clause-ok g c =
    row_vacated c.args.row _ _ _ _ _ _ _ _ _ _ _ _ _ c.parse_entity.ensures c.deps_entity.ensures c.signature_entity.ensures c.errors_entity.ensures (c.in_ok-parse.ensures ∙ c.requires.absent) (c.in_ok-deps.ensures ∙ c.requires.absent)
    (c.in_ok-signature.ensures ∙ c.requires.absent) (c.in_ok-errors.ensures ∙ c.requires.absent) c.in_ok-stage.ensures.ok c.in_ok-stage-2.ensures.ok c.in_ok-stage-3.ensures.ok c.in_ok-stage-4.ensures.ok
