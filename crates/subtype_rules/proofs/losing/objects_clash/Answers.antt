use Rattle.std.proofs.Common.{◌∙◌, subst}
use Rattle.subtyping.specs.Rows.{all_needs}
use Rattle.subtype_rules.specs.Kept.{HasDead}
use Rattle.subtype_rules.proofs.Forms.{object_form}
use Rattle.subtype_rules.proofs.LostPairs.{objects_lost}
use Rattle.subtype_rules.proofs.losing.objects_clash.Goals as goal

pub returns-in-Object-Object : goal.returns-in-Object-Object
returns-in-Object-Object c = λ t. objects_lost c.args.a.now c.args.b.now c.in-Object-Object.exact-0 c.in-Object-Object.exact-1 c.in-Object-Object.ps c.in-Object-Object.qs (object_form c.args.a.now c.in-Object-Object.exact-0 c.in-Object-Object.ps c.in-Object-Object.is-0) (object_form c.args.b.now c.in-Object-Object.exact-1 c.in-Object-Object.qs c.in-Object-Object.is-1)
    (λ named. subst (λ l. HasDead named (all_needs l c.in-Object-Object.qs c.in-Object-Object.qs)) (c.new-ps.ensures ∙ c.as_slice.ensures) (subst (λ l. HasDead named (all_needs c.new-ps.result.all.now l l)) (c.new-qs.ensures ∙ c.as_slice-in-Object-Object.ensures) (c.clash.ensures t named)))
