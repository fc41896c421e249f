use Rattle.std.proofs.Common.{List, map, ap, ◌∙◌, subst, arith, length, rules}
use Rattle.std.proofs.lemmas.List.{length-map}
use Rattle.check_values.specs.declared.root.RootRow.{RootRow}
use Rattle.edited_root.specs.Numbering.{row_by, ons, news}
use Rattle.edited_root.specs.Walk.{drafted}
use Rattle.edited_root.specs.declared.walking.Draft.{Draft}
use Rattle.edited_root.proofs.Enough.{enough_free}
use Rattle.edited_root.proofs.Giving.{follows_old, is_root, same_given}
use Rattle.edited_root.proofs.Rooted.{rows_kept, given_from, given_fresh}
use Rattle.edited_root.proofs.next.next_root.Goals as goal

pub give_rows-requires-clause-enough : goal.give_rows-requires-clause-enough
give_rows-requires-clause-enough c =
    let kept = c.as_slice-3.ensures.value in
    let same = c.as_slice-2.ensures.value in
    let marks = c.as_slice-4.ensures.value in
    let marked = c.in_ok-marks.ensures in
    let many = ap length c.in_ok-kept.ensures ∙ length-map c.args.drafts.now (λ (d : Draft). row_by c.as_slice.result.now d.from) in
    let long = ap length kept in
    let long_2 = ap length same in
    let news_3 = ap news kept in
    let news_2 = ap news same in
    let ons_4 = ap ons marks in
    let size = ap length marks in
    enough_free c.as_slice-3.result.now c.as_slice-4.result.now c.args.capacity (size ∙ marked.marks.size) (omega (arith, many, long, c.requires.few)) (let on = marked.few in omega (arith, on, long, long_2, news_3, news_2, ons_4))

pub returns-clause-follows : goal.returns-clause-follows
returns-clause-follows c =
    follows_old c.args.old.now _ (drafted c.args.drafts.now) c.in_ok-kept.kept.items c.args.capacity c.in_ok-marks.marks.items
    (c.in_ok-kept.ensures ∙ (ap (λ (ms : List RootRow). map (λ (d : Draft). row_by ms d.from) c.args.drafts.now) c.as_slice.ensures ∙ rows_kept c.args.old.now.modules c.args.drafts.now c.requires.right)) (search rules) (search rules)

pub returns-clause-root : goal.returns-clause-root
returns-clause-root c =
    is_root c.args.old.now _ (drafted c.args.drafts.now) c.in_ok-kept.kept.items c.args.capacity c.in_ok-marks.marks.items c.requires.root c.requires.rising
    (c.in_ok-kept.ensures ∙ (ap (λ (ms : List RootRow). map (λ (d : Draft). row_by ms d.from) c.args.drafts.now) c.as_slice.ensures ∙ rows_kept c.args.old.now.modules c.args.drafts.now c.requires.right)) (search rules) (search rules)

pub returns-clause-from : goal.returns-clause-from
returns-clause-from c = c.in_ok-from.ensures ∙ given_from c.args.old.now _ c.args.drafts.now (same_given c.in_ok-kept.kept.items c.in_ok-marks.marks.items 0 (drafted c.args.drafts.now) c.in_ok-modules.modules (search rules)) c.requires.right

pub returns-clause-fresh : goal.returns-clause-fresh
returns-clause-fresh c = c.in_ok-fresh.ensures ∙ given_fresh c.args.old.now _ c.args.drafts.now (same_given c.in_ok-kept.kept.items c.in_ok-marks.marks.items 0 (drafted c.args.drafts.now) c.in_ok-modules.modules (search rules)) c.requires.right
