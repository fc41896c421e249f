use Rattle.std.proofs.Common.{Option, refl, sym, ap, ◌∙◌, rules, subst, arith}
use Rattle.std.proofs.lemmas.Result.{err_from_is_err_and}
use Rattle.flow_base.specs.Program.{Program}
use Rattle.edited_root.specs.Reading.{Gives}
use Rattle.edited_root.specs.Walk.{drafted}
use Rattle.edited_root.proofs.Folders.{unread_one}
use Rattle.edited_root.proofs.Rooted.{rising_walked, few_walked}
use Rattle.edited_root.proofs.Onward.{first_read, goes_on, all_walked, all_right}
use Rattle.edited_root.proofs.walking.walk.Goals as goal

pub loop-path-init : goal.loop-path-init
loop-path-init g c =
    let first = first_read (g.F.Folder.seen c.args.folder.now).told c.args.modules.now _ _ c.new-drafts.result.items (search rules) (search rules) (search rules) in
    record { read = first.0; stands = first.1; within = omega arith; told = refl; quiet = refl }

pub loop-path-preserved : goal.loop-path-preserved
loop-path-preserved g c =
    let so_far = c.loop-path.invariant in
    let gives = subst (λ (told : Option Program). Gives told c.in-Some.path.now c.in-Some.edit.now c.in_ok-text.text) so_far.told c.in_ok-text.ensures.text in
    let next = goes_on _ c.args.modules.now _ c.in-Some.path.now c.in-Some.edit.now c.in_ok-text.text c.loop-path.at _ _ c.loop-path.drafts.items _ _ c.loop-path.path-iterator c.next.new.self so_far.read so_far.stands c.in-Some.ensures.steps gives
    c.in_ok-at.ensures.walks c.in_ok-at-2.ensures.gives in
    record { read = next.0; stands = next.1; within = c.in_ok-at-2.ensures.within; told = c.text_by.ensures.told ∙ so_far.told; quiet = c.in_ok-text.ensures.quiet ∙ so_far.quiet }

pub returns-clause-program : goal.returns-clause-program
returns-clause-program g c =
    let so_far = c.loop-path.invariant in
    all_walked _ c.args.modules.now _ c.loop-path.at c.loop-path.drafts.items c.keep_rest.new.drafts.items c.loop-path.path-iterator so_far.read so_far.stands c.in-None.ensures.steps.0 c.in_ok-keep_rest.ensures

pub returns-clause-rising : goal.returns-clause-rising
returns-clause-rising g c =
    let so_far = c.loop-path.invariant in
    rising_walked _ c.args.modules.now c.args.edits.now.edits (drafted c.keep_rest.new.drafts.items) c.requires.rising (all_walked _ c.args.modules.now _ c.loop-path.at c.loop-path.drafts.items c.keep_rest.new.drafts.items c.loop-path.path-iterator so_far.read so_far.stands c.in-None.ensures.steps.0 c.in_ok-keep_rest.ensures)

pub returns-clause-few : goal.returns-clause-few
returns-clause-few g c =
    let so_far = c.loop-path.invariant in
    few_walked _ c.args.modules.now _ c.rows-rows.result.now.entries c.keep_rest.new.drafts.items c.requires.rising (sym c.rows-rows.ensures) (search rules)
    (all_walked _ c.args.modules.now _ c.loop-path.at c.loop-path.drafts.items c.keep_rest.new.drafts.items c.loop-path.path-iterator so_far.read so_far.stands c.in-None.ensures.steps.0 c.in_ok-keep_rest.ensures)

pub returns-clause-right : goal.returns-clause-right
returns-clause-right g c = all_right c.args.modules.now c.loop-path.at c.loop-path.drafts.items c.keep_rest.new.drafts.items c.loop-path.path-iterator c.loop-path.invariant.stands c.in-None.ensures.steps.0 c.in_ok-keep_rest.ensures

pub returns-in_err-text-clause-fault : goal.returns-in_err-text-clause-fault
returns-in_err-text-clause-fault g c =
    let p = err_from_is_err_and c.from_residual.result c.from_residual.ensures.1 in
    rw (p.1, p.2)
    (unread_one _ _ _ _ c.loop-path.path-iterator c.next.new.self c.in-Some.path.now c.in-Some.edit.now (g.F.Folder.seen c.args.folder.now) (g.F.Folder.seen c.loop-path.folder) (g.F.Folder.seen c.text_by.new.folder) _
    c.loop-path.invariant.read c.in-Some.ensures.steps c.loop-path.invariant.quiet c.in_err-text.ensures.fault)
