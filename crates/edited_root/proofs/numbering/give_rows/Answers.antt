use Rattle.std.proofs.Common.{◌+◌, List, drop, length, None, refl, sym, ap, ◌∙◌, arith, rules}
use Rattle.heap_core.proofs.Lists.{drop_step, drop_past, get_index}
use Rattle.edited_root.specs.Numbering.{news, offs}
use Rattle.edited_root.specs.Walk.{drafted}
use Rattle.edited_root.specs.declared.walking.Draft.{Draft}
use Rattle.edited_root.proofs.Lists.{drop_none, place_at}
use Rattle.edited_root.proofs.Enough.{row_given}
use Rattle.edited_root.proofs.Giving.{gives_none, gives_more, gives_all}
use Rattle.edited_root.proofs.numbering.give_rows.Goals as goal

pub loop-i-init : goal.loop-i-init
loop-i-init c = record {
  gives = gives_none c.args.kept.now c.args.marks.now (drafted c.args.drafts.now) _ c.new-modules.result (ap drafted (drop_none c.args.drafts.now)) c.new-modules.ensures;
  enough = (let k = ap news (drop_none c.args.kept.now) in let m = ap offs (drop_none c.args.marks.now) in let e = c.requires.enough in omega (arith, k, m, e));
}

pub loop-i-preserved : goal.loop-i-preserved
loop-i-preserved c =
    let low = c.requires.many in
    let is = c.index-drafts-i.is in
    record {
      gives = gives_more c.args.kept.now c.args.marks.now (drafted c.args.drafts.now) c.loop-i.i c.loop-i.at c.give_row-given.result.1 c.index-drafts-i.result.path c.index-drafts-i.result.text _ _ (drafted (drop c.loop-i.i c.args.drafts.now)) (drafted (drop (c.loop-i.i + 1) c.args.drafts.now)) c.loop-i.modules _
          (omega (arith, low)) refl (ap drafted (drop_step c.args.drafts.now c.loop-i.i c.index-drafts-i.result (get_index c.args.drafts.now c.loop-i.i c.index-drafts-i.result (omega arith) is))) c.in_ok-share.ensures c.in_ok-share-2.ensures c.give_row-given.ensures.row c.give_row-given.ensures.next
          c.in_ok-push.ensures.ok c.loop-i.invariant.gives;
      enough = row_given c.args.kept.now c.args.marks.now c.loop-i.i c.loop-i.at _ _ _ (place_at c.args.kept.now c.loop-i.i None (omega (arith, low))) c.loop-i.invariant.enough c.give_row-given.ensures.row c.give_row-given.ensures.next;
    }

pub returns : goal.returns
returns c =
    let none = drop_past c.args.drafts.now c.loop-i.i (omega arith) in
    gives_all c.args.kept.now c.args.marks.now (drafted c.args.drafts.now) c.loop-i.i c.loop-i.at (drafted (drop c.loop-i.i c.args.drafts.now)) c.loop-i.modules
    (let z = ap (λ (ds : List Draft). length (drafted ds)) none in let m = c.requires.many in omega (arith, z, m)) (ap drafted none) c.loop-i.invariant.gives
